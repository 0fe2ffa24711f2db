use Rattle.std.proofs.Common.{◌≡◌, ℕ, Bool, List, [], ◌∷◌, ◌++◌, refl, sym, ap, subst, ◌∙◌}
use Rattle.std.specs.Prelude.{OnOk}
use Rattle.std.specs.Str.{bytes_eq}
use Rattle.kp_jute.specs.Form.{Wrote}
use Rattle.kp_model.specs.Path.{root}
use Rattle.kp_model.specs.Poured.{node_of}
use Rattle.kp_snapshot.specs.Rules.{may_own, is_open}
use Rattle.kp_snapshot.specs.Images.{node_fields, node_behind}
use Rattle.kp_snapshot.specs.Ups.{AreUps}
use Rattle.kp_snapshot.specs.Knowing.{Tracks, Stand}
use Rattle.kp_snapshot.specs.Nodes.{figures_of}
use Rattle.kp_snapshot.proofs.PartWrites.{placed_written, with_both}
use Rattle.kp_snapshot.proofs.put_nodes.put_node.Goals as goal

pub returns : goal.returns
returns c = λ before stand.
    let path = c.args.path.now in
    let n = node_of c.args.content.now c.args.acl.now c.args.meta.now in
    let put = c.in_ok-put_path.ensures.put before stand in
    let ups = c.in_ok-put_path.ensures.ups before stand in
    let top : c.eq.result ≡ bytes_eq path root = c.eq.ensures ∙ ap (λ (p : List ℕ). bytes_eq p root) c.as_str.ensures in
    let body = subst (λ (t : Bool). Wrote (node_fields c.args.index (may_own c.args.ids.now t)) (c.args.content.now, (c.args.acl.now, figures_of c.args.meta.now)) c.put_path.new.out.items c.put_body.new.out.items) top c.in_ok-put_body.ensures in
    let at : c.as_str-2.result.now ≡ path = c.as_str-2.ensures in
    let tracks = subst (λ (last : List ℕ). Tracks before last) (ap (λ t. t.now) (sym c.put_path.ensures.last)) stand.0 in
    let kept = c.add.ensures before n tracks (rw at put.fits.1) (subst (λ (p : List ℕ). AreUps (is_open before) p c.put_path.new.trail.ups.items) (sym at) ups) refl in
    with_both c.add.result (Wrote (node_behind c.args.index c.args.ids.now before) (path, n) c.args.out.now.items c.put_body.new.out.items) (Stand (before ++ (path, n) ∷ []) c.add.new.self.last.now c.add.new.self.ups.items)
    (placed_written c.args.index c.args.ids.now before path c.args.content.now c.args.acl.now c.args.meta.now c.args.out.now.items c.put_path.new.out.items c.put_body.new.out.items put body)
    (subst (λ (p : List ℕ). OnOk c.add.result (Stand (before ++ (p, n) ∷ []) c.add.new.self.last.now c.add.new.self.ups.items)) at kept)
