-- What Raft makes of an append: at most one message, no base, no new leader, and a term that is its own or the sender's.
use Rattle.std.proofs.Common.{◌≡◌, ℕ, ◌+◌, ◌-◌, ◌≤◌, Bool, true, false, cond, not, ◌&&◌, List, [], ◌∷◌, ◌++◌, length, max, Option, Some, None, refl, ap, ◌∙◌, arith}
use Rattle.std.specs.Prelude.{nat_lt, nat_eq}
use Rattle.kp_model.specs.LogEntry.{LogEntry}
use Rattle.kp_entry.specs.declared.record.Record.{Record}
use Rattle.kp_entry.specs.declared.record.Record.TheVariants as record_
use Rattle.kp_entry.specs.Heads.{appended}
use Rattle.kp_entry.specs.Held.{Held, replay}
use Rattle.kp_raft.specs.declared.append.AppendMail.{AppendMail}
use Rattle.kp_raft.specs.Parts.{Running, Outcome, is_leader, vote_records, with_cut, changes, vote_at}
use Rattle.kp_raft.specs.Appends.{fits, clashes, keep_of, missing}
use Rattle.kp_raft.specs.Steps.{passes_append}
use Rattle.kp_raft.specs.Members.{Member, running_of}
use Rattle.kp_raft.proofs.Replays.{replay_vote, replay_changes}
use Rattle.kp_snapshot.specs.Snapshots.{Snapshot}
use Rattle.kp_step.specs.Step.{ends_from, ends_in_base}
use Rattle.kp_node.specs.Appending.{takes}
use Rattle.kp_node.proofs.Appended.{take_as}

-- ---- records without a base

pub ends_on : (b : Bool) (rs ss : List Record) → ends_from b (rs ++ ss) ≡ ends_from (ends_from b rs) ss
ends_on b [] ss = refl
ends_on b (record_.Vote term vote ∷ rs) ss = ends_on false rs ss
ends_on b (record_.Boot boot ∷ rs) ss = ends_on false rs ss
ends_on b (record_.Append entry ∷ rs) ss = ends_on false rs ss
ends_on b (record_.Truncate last ∷ rs) ss = ends_on false rs ss
ends_on b (record_.Base index term ∷ rs) ss = ends_on true rs ss

vote_open : (t v : ℕ) (same : Bool) → ends_from false (cond same [] (record_.Vote t v ∷ [])) ≡ false
vote_open t v true = refl
vote_open t v false = refl

pub votes_open : (h : Held) (t v : ℕ) → ends_in_base (vote_records h t v) ≡ false
votes_open h t v = vote_open t v (nat_eq h.term t && nat_eq h.vote v)

entries_open : (es : List LogEntry) → ends_from false (appended es) ≡ false
entries_open [] = refl
entries_open (e ∷ es) = entries_open es

cut_open : (rs : List Record) (cut : Option ℕ) → ends_in_base rs ≡ false → ends_in_base (with_cut rs cut) ≡ false
cut_open rs None h = h
cut_open rs (Some k) h = ends_on false rs (record_.Truncate k ∷ [])

changes_open : (h : Held) (t v : ℕ) (cut : Option ℕ) (es : List LogEntry) → ends_in_base (changes h t v cut es) ≡ false
changes_open h t v cut es =
    ends_on false (with_cut (vote_records h t v) cut) (appended es)
    ∙ ap (λ b. ends_from b (appended es)) (cut_open (vote_records h t v) cut (votes_open h t v)) ∙ entries_open es

pub not_both : (b : Bool) → (not b && b) ≡ false
not_both true = refl
not_both false = refl

pub not_false : (b : Bool) → (not b && false) ≡ false
not_false true = refl
not_false false = refl

-- ---- by what Raft tests

pub record Answers (h : Held) (v : Running) (t : ℕ) (o : Outcome Snapshot) : Type 0 where
  pub few : length o.mail ≤ 1
  pub open_ : ends_in_base o.records ≡ false
  pub follows : (not (is_leader v.role) && is_leader o.running.role) ≡ false
  pub low : (replay h o.records).term ≤ max h.term t

module _ (me : ℕ) (h : Held) (v : Running) (m : AppendMail) (j : ℕ) where
  voted_low : (replay h (vote_records h m.term (vote_at h m.term))).term ≤ max h.term m.term
  voted_low = let same : (replay h (vote_records h m.term (vote_at h m.term))).term ≡ m.term = ap (λ (k : Held). k.term) (replay_vote h m.term (vote_at h m.term)) in omega (arith, same)

  changed_low : (replay h (changes h m.term (vote_at h m.term) (keep_of h.log m.prev m.entries) (missing h.log m.prev m.entries j))).term ≤ max h.term m.term
  changed_low = let same : (replay h (changes h m.term (vote_at h m.term) (keep_of h.log m.prev m.entries) (missing h.log m.prev m.entries j))).term ≡ m.term = ap (λ (k : Held). k.term) (replay_changes h m.term (vote_at h m.term) (keep_of h.log m.prev m.entries) (missing h.log m.prev m.entries j)) in omega (arith, same)

  answered : (a b c d : Bool) → Answers h v m.term (take_as me h v m j a b c d)
  answered false b c d = record { few = omega arith; open_ = refl; follows = not_both (is_leader v.role); low = omega arith }
  answered true true c d = record { few = omega arith; open_ = refl; follows = not_both (is_leader v.role); low = omega arith }
  answered true false false d = record { few = omega arith; open_ = votes_open h m.term (vote_at h m.term); follows = not_false (is_leader v.role); low = voted_low }
  answered true false true true = record { few = omega arith; open_ = votes_open h m.term (vote_at h m.term); follows = not_false (is_leader v.role); low = voted_low }
  answered true false true false = record { few = omega arith; open_ = changes_open h m.term (vote_at h m.term) (keep_of h.log m.prev m.entries) (missing h.log m.prev m.entries j); follows = not_false (is_leader v.role); low = changed_low }

pub append_answers : (x : Member) (m : AppendMail) (j : ℕ) → Answers x.held (running_of x) m.term (takes x m j)
append_answers x m j = answered x.node x.held (running_of x) m j (passes_append x.members x.node m) (nat_lt m.term x.held.term) (fits x.held.log m.prev m.prev_term) (clashes x.held.log m.prev m.entries x.vars.commit)
