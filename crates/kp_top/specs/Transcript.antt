-- What the lines of a store print.
use Rattle.std.specs.Prelude.{ℕ, ◌+◌, ◌&&◌, nat_le, List, [], ◌∷◌, ◌++◌, Option, Some, None, if◌then◌else◌, refl}
use Rattle.std.specs.FinMap as map
use Rattle.std.specs.Coded.{Coded, code_by, coded×, coded_ℕ}
use Rattle.kp_model.specs.declared.session.Origin.{Origin}
use Rattle.kp_model.specs.declared.session.Session.{Session}
use Rattle.kp_model.specs.declared.entry.Body.{Body}
use Rattle.kp_model.specs.declared.entry.Body.TheVariants as body
use Rattle.kp_model.specs.declared.command.Cmd.{Cmd}
use Rattle.kp_model.specs.State.{seen, acl_at}
use Rattle.kp_model.specs.Store.{Store, empty, latest, last, with_entry, kept, truncated, commit_answer, commit_leaves}
use Rattle.kp_model.specs.Codes.{store_code}
use Rattle.kp_text.specs.declared.line.StoreLine.{StoreLine}
use Rattle.kp_text.specs.declared.line.StoreLine.TheVariants.{Time, Open, Attach, Expire, Noop, Write, Raw, Commit, Truncate, Peek, See, Kids, Ls, Acl, Who}
use Rattle.kp_top.specs.InputLines.{lines_of}
use Rattle.kp_top.specs.LineCommands.{cmd_of}
use Rattle.kp_text.specs.Lines.{line_of}
use Rattle.kp_look.specs.Texts.{seen_text, kids_text, acl_text, who_text, kids_at}
use Rattle.kp_top.specs.Texts.{pre_text, done_text, time_text, cut_text}
use lib.Chars.{codes}

-- a store at work: what it holds, and the time that the next entries get
pub record Work : Type 0 where
  pub store : Store
  pub time : ℕ

abbrev pub work_code : Coded Work
work_code = code_by (Store × ℕ) (coded× store_code coded_ℕ) (λ w. (w.store, w.time)) (λ p. record { store = p.0; time = p.1 }) (λ _. refl)

-- the empty store at time 0
abbrev pub blank : Work
blank = record { store = empty; time = 0 }

-- what a line prints, and what it leaves
pub record Turn : Type 0 where
  pub text : List ℕ
  pub work : Work

-- a line that only looks
abbrev pub looks : Work → List ℕ → Turn
looks w text = record { text = text; work = w }

-- the epoch of a session and its next number, or 0 and 0 where there is no such session
abbrev pub epoch_of : Option Session → ℕ
epoch_of None = 0
epoch_of (Some x) = x.epoch

abbrev pub next_seq_of : Option Session → ℕ
next_seq_of None = 0
next_seq_of (Some x) = x.seq + 1

-- a write of a session, with its epoch and its next number in the uncommitted state
abbrev pub write_by : ℕ → Option Session → Cmd → Body
write_by id x c = body.Write id (epoch_of x) (next_seq_of x) c

unfoldable pub write_of : Store → ℕ → Cmd → Body
write_of x id c = write_by id (map.get (latest x).sessions id) c

-- an entry is added, and its index and kept reply are printed
unfoldable pub entered : Work → Body → Turn
entered w b =
    let x : Store = with_entry w.store (record { term = 0; time = w.time; body = b }) in
    record { text = pre_text (last x) (kept x (last x)); work = record w { store = x } }

unfoldable pub committed : Work → Turn
committed w = record {
  text = done_text (commit_answer w.store.state w.store.unapplied);
  work = record w { store = commit_leaves w.store.state w.store.unapplied };
}

-- a truncation, which is refused where the index isn't from the applied one to the last
unfoldable pub cut : Work → ℕ → Turn
cut w k = if nat_le w.store.state.applied k && nat_le k (last w.store)
    then record { text = cut_text k; work = record w { store = truncated w.store k } }
    else looks w (codes "cut refused")

-- the origin of a session that the n-th line opens or takes over
abbrev pub origin_of : ℕ → Origin
origin_of n = record { node = 0; boot = 0; conn = n }

-- one line, the n-th
unfoldable pub turn : Work → ℕ → StoreLine → Turn
turn w n (Time t) = record { text = time_text t; work = record w { time = t } }
turn w n (Open timeout passwd) = entered w (body.OpenSession timeout passwd (origin_of n))
turn w n (Attach session passwd) = entered w (body.Attach session passwd (origin_of n))
turn w n (Expire session) = entered w (body.Expire session)
turn w n Noop = entered w body.Noop
turn w n (Write session c) = entered w (write_of w.store session (cmd_of c))
turn w n (Raw session epoch seq c) = entered w (body.Write session epoch seq (cmd_of c))
turn w n Commit = committed w
turn w n (Truncate k) = cut w k
turn w n (Peek path) = looks w (seen_text (codes "peek") (seen (latest w.store).nodes path))
turn w n (See path) = looks w (seen_text (codes "see") (seen w.store.state.nodes path))
turn w n (Kids path) = looks w (kids_text (codes "kids") (kids_at (latest w.store).nodes path))
turn w n (Ls path) = looks w (kids_text (codes "ls") (kids_at w.store.state.nodes path))
turn w n (Acl path) = looks w (acl_text (acl_at (latest w.store).nodes path))
turn w n (Who session) = looks w (who_text (map.get (latest w.store).sessions session))

-- what the lines from the n-th on print, each with a line feed, up to the first that is none
unfoldable pub printed : Work → ℕ → List (List ℕ) → List ℕ
printed w n [] = []
printed w n (t ∷ ts) = elim (line_of t) [ None ↦ [] | Some l ↦ ((turn w n l).text ++ 10 ∷ []) ++ printed (turn w n l).work (n + 1) ts ]

-- the number of the first that is none
unfoldable pub first_bad : ℕ → List (List ℕ) → Option ℕ
first_bad n [] = None
first_bad n (t ∷ ts) = elim (line_of t) [ None ↦ Some n | Some l ↦ first_bad (n + 1) ts ]

-- what a text prints on the empty store, and its first line outside the grammar
abbrev pub transcript : List ℕ → List ℕ
transcript text = printed blank 1 (lines_of text)

abbrev pub bad_line : List ℕ → Option ℕ
bad_line text = first_bad 1 (lines_of text)
