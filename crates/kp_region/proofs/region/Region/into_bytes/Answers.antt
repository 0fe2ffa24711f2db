-- The strings of the run that covers the window, one behind the other.
use Rattle.std.proofs.Common.{◌≡◌, refl, ap, sym, ◌∙◌, arith, drop, ℕ, ◌-◌}
use Rattle.std.specs.List.{flat_map}
use Rattle.kp_region.specs.Marked.{Marked}
use Rattle.kp_region.specs.Stretch.{end_of}
use Rattle.kp_region.proofs.Runs.{joined}
use Rattle.kp_region.proofs.region.Region.into_bytes.Goals as goal

none : (n : ℕ) → 0 ≡ n - n
none n = omega arith

pub returns : goal.returns
returns c =
    let w = c.self.inside.window in
    c.into_bytes.ensures
    ∙ ap (λ n. drop n w.bytes) (none w.start)
    ∙ sym (joined w.start w.start c.self.inside.spans.items (end_of w) w.bytes (omega arith) refl c.self.invariant.run)
    ∙ ap (λ (m : Marked). flat_map (λ s. s) m.strings) c.self.view_is
