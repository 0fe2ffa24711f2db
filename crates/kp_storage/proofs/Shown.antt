-- The views of a storage.
use Rattle.kp_model.specs.LogEntry.{LogEntry}
use Rattle.kp_model.specs.Store.{after}
use Rattle.kp_model.specs.declared.reply.Committed.{Committed}
use Rattle.std.specs.Prelude.{List}
use Rattle.kp_cells.specs.Parts.{FitTogether}
use Rattle.kp_cells.specs.Overlays.{Overlays, committed_parts, latest_parts, committed_state}
use Rattle.kp_storage.specs.Kept.{Keeps}
use Rattle.kp_cells.proofs.Whole.{fit_together}
use Rattle.kp_storage.proofs.Keeping.{committed_parts_are, latest_parts_are}

module _ (o : Overlays) (es : List LogEntry) (answers : List Committed) (h : Keeps o es answers) where
  pub latest_fit : FitTogether (latest_parts o)
  latest_fit = fit_together (after (committed_state o) es) (latest_parts o) (latest_parts_are o es answers h)

  pub committed_fit : FitTogether (committed_parts o)
  committed_fit = fit_together (committed_state o) (committed_parts o) (committed_parts_are o es answers h)
