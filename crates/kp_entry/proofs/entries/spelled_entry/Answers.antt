use Rattle.std.proofs.Common.{ap, sym, ◌∙◌, [], append-nil}
use Rattle.kp_entry.specs.Entries.{entries}
use Rattle.kp_entry.specs.Spellings.{entry_of}
use Rattle.kp_entry.proofs.Spelled.{entry_again}
use Rattle.kp_entry.proofs.entries.spelled_entry.Goals as goal

pub returns-in-Ok : goal.returns-in-Ok
returns-in-Ok c =
    let h = c.requires in
    (c.in-Ok.ensures.only h.0 [] h.1 (h.2 ∙ sym (append-nil (entries.spell h.0)))).0 ∙ sym (ap entry_of h.2 ∙ entry_again h.0 h.1)
