use Rattle.std.proofs.Common.{ap, ◌∙◌, sym, Some}
use Rattle.kp_region.proofs.Runs.{run_at}
use Rattle.kp_region.proofs.Steps.{found}
use Rattle.kp_region.specs.Marked.{Marked, string_at}
use Rattle.kp_region.specs.Stretch.{end_of}
use Rattle.kp_region.proofs.region.Region.get.Goals as goal

pub slice-requires-clause-from : goal.slice-requires-clause-from
slice-requires-clause-from c = let r = run_at c.self.inside.window.start c.self.inside.spans.items (end_of c.self.inside.window) _ c.in-Some.span c.self.invariant.run (sym c.in-Some.ensures) in r.0

pub slice-requires-clause-to : goal.slice-requires-clause-to
slice-requires-clause-to c = let r = run_at c.self.inside.window.start c.self.inside.spans.items (end_of c.self.inside.window) _ c.in-Some.span c.self.invariant.run (sym c.in-Some.ensures) in r.1

pub returns-in-None : goal.returns-in-None
returns-in-None c = found c.self.inside.window c.self.inside.spans.items c.self.inside.first c.self.inside.spare_records c.self.inside.spare_bytes c.args.mark _ c.if-mark-self.false c.in-None.ensures ∙ ap (λ (m : Marked). string_at m c.args.mark) c.self.view_is

pub returns-in-Some : goal.returns-in-Some
returns-in-Some c = ap Some c.slice.ensures ∙ found c.self.inside.window c.self.inside.spans.items c.self.inside.first c.self.inside.spare_records c.self.inside.spare_bytes c.args.mark _ c.if-mark-self.false c.in-Some.ensures ∙ ap (λ (m : Marked). string_at m c.args.mark) c.self.view_is
