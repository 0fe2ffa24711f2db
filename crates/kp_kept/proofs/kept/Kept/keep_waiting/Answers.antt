use Rattle.std.proofs.Common.{List, refl, subst, sym, ◌∙◌}
use Rattle.kp_entry.specs.declared.record.Record.{Record}
use Rattle.kp_node.specs.Parts.{node_of}
use Rattle.kp_kept.specs.Ahead.{all_records, leads_to}
use Rattle.kp_kept.proofs.Readiness.{ready_of}
use Rattle.kp_kept.specs.Lengths.{IsOver, place_of}
use Rattle.kp_kept.proofs.Ends.{image_none, none_want, records_none}
use Rattle.kp_kept.proofs.Places.{ok_is_none}
use Rattle.kp_kept.proofs.kept.Kept.keep_waiting.Goals as goal

pub put_waiting-requires-clause-ready : goal.put_waiting-requires-clause-ready
put_waiting-requires-clause-ready g c = ready_of c.args.self.now.home.second (g.H.Disk.held c.args.self.now.home.disks.j0) (g.H.Disk.held c.args.self.now.home.disks.j1) c.args.self.now.home.journal (c.args.self.now.ready c.requires)

pub returns-in-Ok-clause-crash : goal.returns-in-Ok-clause-crash
returns-in-Ok-clause-crash g c = λ f k room below.
    c.in-Ok.ensures.crash f k.keeps room below (subst (λ (rss : List (List Record)). leads_to c.args.self.now.image (all_records rss) f (node_of c.args.self.now.node)) (sym c.as_slice.ensures.value) k.ahead)

pub returns-in-Err-clause-crash : goal.returns-in-Err-clause-crash
returns-in-Err-clause-crash g c = λ f k room below.
    c.in-Err.ensures.crash f k.keeps room below (subst (λ (rss : List (List Record)). leads_to c.args.self.now.image (all_records rss) f (node_of c.args.self.now.node)) (sym c.as_slice.ensures.value) k.ahead)

pub returns-in-Ok-clause-over : goal.returns-in-Ok-clause-over
returns-in-Ok-clause-over g c = λ slot len o. ok_is_none _ _ _ _ (c.in-Ok.ensures.over slot len (subst (λ (rss : List (List Record)). IsOver (place_of c.args.self.now.home.second c.args.self.now.home.journal.gate c.args.self.now.image (all_records rss)) slot len) (sym c.as_slice.ensures.value) o))

pub returns-in-Ok-clause-idle : goal.returns-in-Ok-clause-idle
returns-in-Ok-clause-idle g c = λ e.
    let n = c.in-Ok.ensures.none (image_none c.args.self.now.image (all_records c.args.self.now.waiting.items) e)
    (c.as_slice.ensures.value ∙ none_want c.args.self.now.waiting.items c.args.self.now.wanted (records_none c.args.self.now.image (all_records c.args.self.now.waiting.items) e)) in
    (n.0, refl)

pub returns-in-Err-clause-idle : goal.returns-in-Err-clause-idle
returns-in-Err-clause-idle g c = λ e.
    let n = c.in-Err.ensures.none (image_none c.args.self.now.image (all_records c.args.self.now.waiting.items) e)
    (c.as_slice.ensures.value ∙ none_want c.args.self.now.waiting.items c.args.self.now.wanted (records_none c.args.self.now.image (all_records c.args.self.now.waiting.items) e)) in
    absurd (cc n.1)
