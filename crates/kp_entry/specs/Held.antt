-- What a member keeps over a stop: its term, its vote and its log. It is the replay of the records that it wrote.
use Rattle.std.specs.Prelude.{ℕ, List, [], ◌∷◌, refl}
use Rattle.std.specs.Coded.{Coded, code_by, coded×, coded_ℕ}
use Rattle.kp_entry.specs.declared.record.Record.{Record}
use Rattle.kp_entry.specs.declared.record.Record.TheVariants as record_
use Rattle.kp_entry.specs.Log.{Log, log_code, with_entries, truncated, rebased}

pub record Held : Type 0 where
  pub term : ℕ
  pub vote : ℕ  -- for whom it voted in its term, or 0
  pub log : Log

abbrev pub held_code : Coded Held
held_code = code_by (ℕ × (ℕ × Log)) (coded× coded_ℕ (coded× coded_ℕ log_code)) (λ h. (h.term, (h.vote, h.log))) (λ p. record { term = p.0; vote = p.1.0; log = p.1.1 }) (λ _. refl)

-- a record says what changes
abbrev pub replay_one : Held → Record → Held
replay_one h (record_.Vote term vote) = record { term = term; vote = vote; log = h.log }
replay_one h (record_.Boot boot) = h
replay_one h (record_.Append entry) = record { term = h.term; vote = h.vote; log = with_entries h.log (entry ∷ []) }
replay_one h (record_.Truncate last) = record { term = h.term; vote = h.vote; log = truncated h.log last }
replay_one h (record_.Base index term) = record { term = h.term; vote = h.vote; log = rebased h.log index term }

abbrev pub replay : Held → List Record → Held
replay h [] = h
replay h (r ∷ rs) = replay (replay_one h r) rs
