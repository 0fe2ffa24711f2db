-- Histories of three members, and what comes out of them.
use Rattle.std.specs.Prelude.{◌≡◌, List, [], ◌∷◌, ◌++◌}
use Rattle.kp_model.specs.LogEntry.{LogEntry}
use Rattle.kp_model.specs.declared.entry.Body.TheVariants as body
use Rattle.kp_world.specs.Book.{IsCommitted}
use Rattle.kp_world.specs.Moves.{Move, RaiseTerm, Stand, Vote, Elect, Write, Follow, Acknowledge, IsHistory, book_of}

-- entries of the terms 1 and 2
abbrev pub one : LogEntry
one = record { term = 1; time = 0; body = body.Noop }

abbrev pub two : LogEntry
two = record { term = 2; time = 0; body = body.Noop }

-- member 1 stands in term 1, member 2 votes for it, and it is elected
abbrev pub election : List Move
election = Stand 1 1 ∷ RaiseTerm 2 1 ∷ Vote 2 1 ∷ Elect 1 1 ∷ []

-- it writes an entry of its term
abbrev pub write : List Move
write = election ++ Write 1 one ∷ []

-- member 2 takes the entry, and both acknowledge it
abbrev pub commit : List Move
commit = write ++ Acknowledge 1 1 ∷ Follow 2 (one ∷ []) ∷ Acknowledge 2 1 ∷ []

-- member 3, which knew of nothing, takes it late
abbrev pub catch_up : List Move
catch_up = commit ++ RaiseTerm 3 1 ∷ Follow 3 (one ∷ []) ∷ Acknowledge 3 1 ∷ []

-- the entry reaches no other member: member 2 is elected in term 2 by member 3 and writes its own, which member 1 takes in place of the first
abbrev pub deposition : List Move
deposition = write ++ Stand 2 2 ∷ RaiseTerm 3 2 ∷ Vote 3 2 ∷ Elect 2 2 ∷ Write 2 two ∷ Acknowledge 2 1 ∷ RaiseTerm 1 2 ∷ Follow 1 (two ∷ []) ∷ Acknowledge 1 1 ∷ []

-- a member is elected
abbrev pub ElectionHappens : Type 0
ElectionHappens = IsHistory 3 election × ((book_of election).leader 1 ≡ 1)

-- a write is committed while member 3 lags
abbrev pub WriteIsCommitted : Type 0
WriteIsCommitted = IsHistory 3 commit × IsCommitted 3 (book_of commit) 1 (one ∷ []) × ((book_of commit).log 3 ≡ [])

-- member 3 catches up
abbrev pub MemberCatchesUp : Type 0
MemberCatchesUp = IsHistory 3 catch_up × ((book_of catch_up).log 3 ≡ one ∷ [])

-- a deposed leader's write is dropped
abbrev pub WriteIsDropped : Type 0
WriteIsDropped = IsHistory 3 deposition × ((book_of write).log 1 ≡ one ∷ []) × ((book_of deposition).log 1 ≡ two ∷ []) × IsCommitted 3 (book_of deposition) 2 (two ∷ [])
