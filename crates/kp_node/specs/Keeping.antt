-- What a node keeps over a stop, as records.
use Rattle.std.specs.Prelude.{ℕ, List, ◌∷◌}
use Rattle.kp_entry.specs.declared.record.Record.{Record}
use Rattle.kp_entry.specs.declared.record.Record.TheVariants as record_
use Rattle.kp_entry.specs.Heads.{appended}
use Rattle.kp_entry.specs.Held.{Held}

-- the records that leave this behind its base: the term and the vote, the start of this number, and the entries of the log
abbrev pub held_records : ℕ → Held → List Record
held_records boot h = record_.Vote h.term h.vote ∷ record_.Boot boot ∷ appended h.log.entries
