-- A load: its lines are taken one behind the other, and what comes of them is counted.
use Rattle.std.specs.Prelude.{ℕ, zero, suc, ◌+◌, ◌-◌, ◌≤◌, Bool, true, false, List, ◌++◌, length, Option, Some, None, if◌then◌else◌}
use Rattle.std.specs.FinMap as map
use Rattle.std.specs.Fmt.{decimal}
use Rattle.kp_model.specs.declared.reply.Reply.{Reply}
use Rattle.kp_model.specs.declared.reply.Reply.TheVariants as reply
use Rattle.kp_model.specs.Store.{Store, kept, last}
use Rattle.kp_text.specs.declared.line.StoreLine.{StoreLine}
use Rattle.kp_text.specs.declared.line.StoreLine.TheVariants as line
use Rattle.kp_load.specs.Load.{Load, opening, line_in, next_number}
use Rattle.kp_top.specs.declared.tally.Tally.{Tally}
use Rattle.kp_top.specs.Transcript.{Work, blank, turn}
use lib.Chars.{codes}

-- ---- what is counted

abbrev pub nothing : Tally
nothing = record { made = 0; good = 0; bad = 0; done = 0; cut = 0 }

-- neither stale, nor an error, nor a multi that failed
abbrev pub is_good_reply : Reply → Bool
is_good_reply reply.Stale = false
is_good_reply (reply.Err e) = false
is_good_reply (reply.Failed codes) = false
is_good_reply r = true

abbrev pub is_good : Option Reply → Bool
is_good None = false
is_good (Some r) = is_good_reply r

abbrev pub with_entry_kept : Option Reply → Tally → Tally
with_entry_kept r t = if is_good r then record t { made = t.made + 1; good = t.good + 1 } else record t { made = t.made + 1; bad = t.bad + 1 }

-- what a line adds, by the store before it and the one behind it
unfoldable pub counted : StoreLine → Store → Store → Tally → Tally
counted (line.Open timeout passwd) x y t = with_entry_kept (kept y (last y)) t
counted (line.Write session c) x y t = with_entry_kept (kept y (last y)) t
counted line.Commit x y t = record t { done = t.done + (length x.unapplied - length y.unapplied) }
counted (line.Truncate k) x y t = record t { cut = t.cut + (last x - last y) }
counted other x y t = t

-- each count is within a limit, and what was cut together with the last index too
pub record IsWithin (limit : ℕ) (last : ℕ) (t : Tally) : Type 0 where
  pub made : t.made ≤ limit
  pub good : t.good ≤ limit
  pub bad : t.bad ≤ limit
  pub done : t.done ≤ limit
  pub cut : t.cut + last ≤ limit

-- ---- the lines

-- a store at work, the number of its next line, and what was counted
pub record Loading : Type 0 where
  pub work : Work
  pub n : ℕ
  pub tally : Tally

abbrev pub begun : Loading
begun = record { work = blank; n = 1; tally = nothing }

unfoldable pub taken : StoreLine → Loading → Loading
taken l s = record {
  work = (turn s.work s.n l).work;
  n = s.n + 1;
  tally = counted l s.work.store (turn s.work s.n l).work.store s.tally;
}

-- so many lines, drawn from this number on
unfoldable pub drawn : ℕ → ℕ → Loading → Loading
drawn zero x s = s
drawn (suc k) x s = drawn k (next_number x) (taken (line_in (next_number x) s.work.store.state.applied (last s.work.store)) s)

-- so many commits
unfoldable pub commits : ℕ → Loading → Loading
commits zero s = s
commits (suc k) s = commits k (taken line.Commit s)

-- what is unapplied is committed
abbrev pub settled : Loading → Loading
settled s = commits (length s.work.store.unapplied) s

-- a session is opened, the lines are drawn, and the rest is committed
unfoldable pub loaded : ℕ → ℕ → Loading
loaded start count = settled (drawn count start (taken opening begun))

-- ---- what is printed

-- the nodes of the committed tree, with the root
abbrev pub nodes_of : Loading → ℕ
nodes_of s = map.len s.work.store.state.nodes

-- what was asked for
unfoldable pub asked_text : ℕ → ℕ → List ℕ
asked_text start count = codes "load " ++ (decimal start ++ (codes " " ++ decimal count))

-- the entries that were made
unfoldable pub entries_text : Tally → List ℕ
entries_text t = codes " pre=" ++ (decimal t.made ++ (codes " ok=" ++ (decimal t.good ++ (codes " err=" ++ decimal t.bad))))

-- what became of them, and of the tree
unfoldable pub ends_text : Tally → ℕ → List ℕ
ends_text t nodes = codes " done=" ++ (decimal t.done ++ (codes " cut=" ++ (decimal t.cut ++ (codes " nodes=" ++ (decimal nodes ++ codes "\n")))))

abbrev pub tally_text : ℕ → ℕ → Tally → ℕ → List ℕ
tally_text start count t nodes = asked_text start count ++ (entries_text t ++ ends_text t nodes)

abbrev pub load_text_of : ℕ → ℕ → Loading → List ℕ
load_text_of start count s = tally_text start count s.tally (nodes_of s)

-- the line of a load
abbrev pub load_text : ℕ → ℕ → List ℕ
load_text start count = load_text_of start count (loaded start count)
