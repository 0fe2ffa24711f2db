use Rattle.std.proofs.Common.{◌≡◌, ℕ, length, take, slice_get, Some, ap, subst, ◌∙◌}
use Rattle.kp_model.specs.LogEntry.{LogEntry}
use Rattle.kp_model.specs.Touched.{touched}
use Rattle.kp_prep.specs.Touching.{AreWithin, layer_keys}
use Rattle.kp_model.specs.Store.{Store, after}
use Rattle.kp_cells.specs.Parts.{parts_of}
use Rattle.kp_storage.specs.Kept.{IsLayered}
use Rattle.kp_storage.proofs.Keeping.{latest_state_is, committed_parts_are}
use Rattle.kp_storage.proofs.Shown.{latest_fit, committed_fit}
use Rattle.kp_storage.proofs.storage.Storage.cells.Goals as goal

pub returns-clause-committed_fits : goal.returns-clause-committed_fits
returns-clause-committed_fits c = committed_fit c.self.inside.cells c.self.inside.entries.items c.self.inside.answers.items c.self.invariant

pub returns-clause-latest_fits : goal.returns-clause-latest_fits
returns-clause-latest_fits c = latest_fit c.self.inside.cells c.self.inside.entries.items c.self.inside.answers.items c.self.invariant

pub returns-clause-latest : goal.returns-clause-latest
returns-clause-latest c = latest_state_is c.self.inside.cells c.self.inside.entries.items c.self.inside.answers.items c.self.invariant ∙ ap (λ (x : Store). after x.state x.unapplied) c.self.view_is

pub returns-clause-committed_parts : goal.returns-clause-committed_parts
returns-clause-committed_parts c = committed_parts_are c.self.inside.cells c.self.inside.entries.items c.self.inside.answers.items c.self.invariant ∙ ap (λ (x : Store). parts_of x.state) c.self.view_is

pub returns-clause-touches : goal.returns-clause-touches
returns-clause-touches c = subst (λ (x : Store). (k : ℕ) (e : LogEntry) → slice_get x.unapplied k ≡ Some e → AreWithin (touched (after x.state (take k x.unapplied)) e) (layer_keys k c.self.inside.cells)) c.self.view_is c.self.invariant.touches

pub returns-clause-layered : goal.returns-clause-layered
returns-clause-layered c = subst (λ (x : Store). IsLayered (length x.unapplied) c.self.inside.cells) c.self.view_is c.self.invariant.layered
