-- What the records of a step make of what a member holds.
use Rattle.std.proofs.Common.{◌≡◌, ℕ, zero, suc, ◌+◌, ◌-◌, ◌≤◌, true, false, List, [], ◌∷◌, ◌++◌, length, take, map, refl, sym, ◌∙◌, ap, arith, append_assoc, append-nil, Option, Some, None}
use Rattle.std.specs.Prelude.{Bool, cond, nat_eq, ◌&&◌}
use Rattle.std.proofs.lemmas.Bool.Decides.{nat_tests}
use Rattle.kp_model.specs.LogEntry.{LogEntry}
use Rattle.kp_entry.specs.declared.record.Record.{Record}
use Rattle.kp_entry.specs.declared.record.Record.TheVariants as record_
use Rattle.kp_entry.specs.Heads.{appended}
use Rattle.kp_entry.specs.Log.{Log, last_index, with_entries, truncated}
use Rattle.kp_entry.specs.Held.{Held, replay}
use Rattle.kp_entry.proofs.Replays.{replay_append}
use Rattle.kp_raft.specs.Parts.{vote_records, with_cut, changes, cut_log}
use Rattle.kp_raft.specs.Steps.{added, cut_to}

-- what a member holds with this term, vote and log
abbrev pub held_with : ℕ → ℕ → Log → Held
held_with t v log = record { term = t; vote = v; log = log }

vote_by : (h : Held) (t v : ℕ) (same : Bool) → (nat_eq h.term t && nat_eq h.vote v) ≡ same → replay h (cond same [] (record_.Vote t v ∷ [])) ≡ held_with t v h.log
vote_by h t v false is = refl
vote_by h t v true is =
    let term : h.term ≡ t = grind (arith, nat_tests) in
    let vote : h.vote ≡ v = grind (arith, nat_tests) in
    ap (λ (n : ℕ). held_with n h.vote h.log) term ∙ ap (λ (n : ℕ). held_with t n h.log) vote

pub replay_vote : (h : Held) (t v : ℕ) → replay h (vote_records h t v) ≡ held_with t v h.log
replay_vote h t v = vote_by h t v (nat_eq h.term t && nat_eq h.vote v) refl

pub replay_appended : (h : Held) (es : List LogEntry) → replay h (appended es) ≡ held_with h.term h.vote (with_entries h.log es)
replay_appended h [] = ap (λ (xs : List LogEntry). held_with h.term h.vote (record { base = h.log.base; base_term = h.log.base_term; entries = xs })) (sym (append-nil h.log.entries))
replay_appended h (e ∷ es) =
    replay_appended (held_with h.term h.vote (with_entries h.log (e ∷ []))) es
    ∙ ap (λ (xs : List LogEntry). held_with h.term h.vote (record { base = h.log.base; base_term = h.log.base_term; entries = xs })) (append_assoc h.log.entries (e ∷ []) es)

replay_cut : (h : Held) (rs : List Record) (cut : Option ℕ) → replay h (with_cut rs cut) ≡ held_with (replay h rs).term (replay h rs).vote (cut_log (replay h rs).log cut)
replay_cut h rs None = refl
replay_cut h rs (Some k) = replay_append h rs (record_.Truncate k ∷ [])

pub replay_still : (h : Held) (t v : ℕ) (cut : Option ℕ) → replay h (with_cut (vote_records h t v) cut) ≡ held_with t v (cut_log h.log cut)
replay_still h t v cut = replay_cut h (vote_records h t v) cut ∙ ap (λ (x : Held). held_with x.term x.vote (cut_log x.log cut)) (replay_vote h t v)

pub replay_changes : (h : Held) (t v : ℕ) (cut : Option ℕ) (es : List LogEntry) → replay h (changes h t v cut es) ≡ held_with t v (with_entries (cut_log h.log cut) es)
replay_changes h t v cut es =
    replay_append h (with_cut (vote_records h t v) cut) (appended es)
    ∙ ap (λ (x : Held). replay x (appended es)) (replay_still h t v cut)
    ∙ replay_appended (held_with t v (cut_log h.log cut)) es

-- ---- what the records tell

pub added_append : (rs ss : List Record) → added (rs ++ ss) ≡ added rs + added ss
added_append [] ss = omega arith
added_append (record_.Vote t v ∷ rs) ss = added_append rs ss
added_append (record_.Boot b ∷ rs) ss = added_append rs ss
added_append (record_.Append e ∷ rs) ss = omega (arith, added_append rs ss)
added_append (record_.Truncate l ∷ rs) ss = added_append rs ss
added_append (record_.Base i t ∷ rs) ss = added_append rs ss

pub added_entries : (es : List LogEntry) → added (appended es) ≡ length es
added_entries [] = refl
added_entries (e ∷ es) = omega (arith, added_entries es)

added_vote : (h : Held) (t v : ℕ) (same : Bool) → added (cond same [] (record_.Vote t v ∷ [])) ≡ 0
added_vote h t v true = refl
added_vote h t v false = refl

added_cut : (rs : List Record) (cut : Option ℕ) → added (with_cut rs cut) ≡ added rs
added_cut rs None = refl
added_cut rs (Some k) = omega (arith, added_append rs (record_.Truncate k ∷ []))

pub still_adds : (h : Held) (t v : ℕ) (cut : Option ℕ) → added (with_cut (vote_records h t v) cut) ≡ 0
still_adds h t v cut = added_cut (vote_records h t v) cut ∙ added_vote h t v (nat_eq h.term t && nat_eq h.vote v)

pub changes_add : (h : Held) (t v : ℕ) (cut : Option ℕ) (es : List LogEntry) → added (changes h t v cut es) ≡ length es
changes_add h t v cut es = omega (arith, added_append (with_cut (vote_records h t v) cut) (appended es), still_adds h t v cut, added_entries es)

cut_entries : (es : List LogEntry) → cut_to (appended es) ≡ None
cut_entries [] = refl
cut_entries (e ∷ es) = cut_entries es

cut_vote : (h : Held) (t v : ℕ) (same : Bool) (cut : Option ℕ) (es : List LogEntry) → cut_to (with_cut (cond same [] (record_.Vote t v ∷ [])) cut ++ appended es) ≡ cut
cut_vote h t v true None es = cut_entries es
cut_vote h t v true (Some k) es = refl
cut_vote h t v false None es = cut_entries es
cut_vote h t v false (Some k) es = refl

pub changes_cut : (h : Held) (t v : ℕ) (cut : Option ℕ) (es : List LogEntry) → cut_to (changes h t v cut es) ≡ cut
changes_cut h t v cut es = cut_vote h t v (nat_eq h.term t && nat_eq h.vote v) cut es

-- a change without entries
pub changes_none : (h : Held) (t v : ℕ) (cut : Option ℕ) → changes h t v cut [] ≡ with_cut (vote_records h t v) cut
changes_none h t v cut = append-nil (with_cut (vote_records h t v) cut)

pub still_cuts : (h : Held) (t v : ℕ) (cut : Option ℕ) → cut_to (with_cut (vote_records h t v) cut) ≡ cut
still_cuts h t v cut = ap cut_to (sym (changes_none h t v cut)) ∙ changes_cut h t v cut []

-- the own term and vote make no record
same_by : (t v : ℕ) (a b : Bool) → nat_eq t t ≡ a → nat_eq v v ≡ b → cond (a && b) [] (record_.Vote t v ∷ []) ≡ []
same_by t v true true p q = refl
same_by t v true false p q = absurd (grind (arith, nat_tests))
same_by t v false b p q = absurd (grind (arith, nat_tests))

pub vote_same : (h : Held) → vote_records h h.term h.vote ≡ []
vote_same h = same_by h.term h.vote (nat_eq h.term h.term) (nat_eq h.vote h.vote) refl refl
