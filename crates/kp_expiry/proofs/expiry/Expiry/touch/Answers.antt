use Rattle.std.proofs.Common.{◌≡◌, ◌<◌, length, slice_set, None, is_some, OnOk, OnErr, true≢false, ap, sym, subst, ◌∙◌, arith}
use Rattle.std.specs.FinMap as map
use Rattle.std.proofs.lemmas.List.{length-map}
use Rattle.kp_expiry.specs.declared.heard.Heard.{Heard}
use Rattle.kp_expiry.specs.Index.{heard_in, base_of}
use Rattle.kp_expiry.specs.Nodes.{tag, tags, AreRight}
use Rattle.kp_expiry.proofs.Mended.{written_back}
use Rattle.kp_expiry.proofs.Indexed.{get-base_of, heard_inside, index_heard, map_heard, not_there, not_heard, base_kept}
use Rattle.kp_expiry.proofs.expiry.Expiry.touch.Goals as goal

pub put-requires-clause-inside : goal.put-requires-clause-inside
put-requires-clause-inside c =
    let value : Heard = record { heard = c.args.now; timeout = c.args.timeout } in
    let inside : c.in-Some.node < length (tags c.self.inside.slots.items) = heard_inside c.self.inside.known.entries (tags c.self.inside.slots.items) c.self.invariant.0 c.hear.new.known.entries c.args.session c.in-Some.node value c.hear.ensures.change (sym c.in-Some.ensures.node) in
    omega (arith, inside, c.deref_mut.ensures.len, length-map c.self.inside.slots.items tag)

pub invariant_of-self : goal.invariant_of-self
invariant_of-self c =
    let value : Heard = record { heard = c.args.now; timeout = c.args.timeout } in
    let whole = written_back c.self.inside.slots.len c.put.new.slots c.self.inside.slots.items (omega (arith, c.put.auto.slots, c.deref_mut.ensures.len)) in (
      index_heard c.self.inside.known.entries (tags c.self.inside.slots.items) c.self.invariant.0 c.hear.new.known.entries c.args.session c.in-Some.node value c.hear.ensures.change (sym c.in-Some.ensures.node) _
          (ap tags whole
          ∙ c.put.ensures.tags
          ∙ ap (λ l. slice_set (tags l) c.in-Some.node (c.deadline.result, c.args.session)) c.deref_mut.ensures.value
          ∙ ap (λ d. slice_set (tags c.self.inside.slots.items) c.in-Some.node (d, c.args.session)) c.deadline.ensures),
      subst AreRight (sym whole) c.put.ensures.right,
    )

pub add_new-requires : goal.add_new-requires
add_new-requires c =
    let value : Heard = record { heard = c.args.now; timeout = c.args.timeout } in
    get-base_of c.hear.new.known.entries c.args.session
    ∙ ap heard_in (not_heard c.self.inside.known.entries (tags c.self.inside.slots.items) c.self.invariant.0 c.hear.new.known.entries c.args.session value c.hear.ensures.change c.in-None.ensures.node c.args.session
    ∙ not_there c.self.inside.known.entries (tags c.self.inside.slots.items) c.self.invariant.0 c.hear.new.known.entries c.args.session value c.hear.ensures.change c.in-None.ensures.node)

pub returns-in-Some-clause-ok : goal.returns-in-Some-clause-ok
returns-in-Some-clause-ok c =
    let value : Heard = record { heard = c.args.now; timeout = c.args.timeout } in
    map_heard c.self.inside.known.entries (tags c.self.inside.slots.items) c.self.invariant.0 c.hear.new.known.entries c.args.session c.in-Some.node value c.hear.ensures.change (sym c.in-Some.ensures.node)
    ∙ ap (λ m. map.insert m c.args.session value) c.self.view_is

pub returns-in-None-clause-ok : goal.returns-in-None-clause-ok
returns-in-None-clause-ok c =
    let value : Heard = record { heard = c.args.now; timeout = c.args.timeout } in
    let kept : base_of c.hear.new.known.entries ≡ c.args.self.now = base_kept c.self.inside.known.entries c.hear.new.known.entries (not_heard c.self.inside.known.entries (tags c.self.inside.slots.items) c.self.invariant.0 c.hear.new.known.entries c.args.session value c.hear.ensures.change c.in-None.ensures.node) ∙ c.self.view_is in
    subst (λ m. OnOk c.add_new.result (c.add_new.new.self ≡ map.insert m c.args.session value)) kept c.add_new.ensures.ok

pub returns-in-None-clause-err : goal.returns-in-None-clause-err
returns-in-None-clause-err c =
    let value : Heard = record { heard = c.args.now; timeout = c.args.timeout } in
    let kept : base_of c.hear.new.known.entries ≡ c.args.self.now = base_kept c.self.inside.known.entries c.hear.new.known.entries (not_heard c.self.inside.known.entries (tags c.self.inside.slots.items) c.self.invariant.0 c.hear.new.known.entries c.args.session value c.hear.ensures.change c.in-None.ensures.node) ∙ c.self.view_is in
    subst (λ m. OnErr c.add_new.result (c.add_new.new.self ≡ m)) kept c.add_new.ensures.err

pub returns-in-None-clause-there : goal.returns-in-None-clause-there
returns-in-None-clause-there c = λ e.
    let value : Heard = record { heard = c.args.now; timeout = c.args.timeout } in
    let none : map.get c.args.self.now c.args.session ≡ None =
    ap (λ m. map.get m c.args.session) (sym c.self.view_is)
    ∙ get-base_of c.self.inside.known.entries c.args.session
    ∙ ap heard_in (not_there c.self.inside.known.entries (tags c.self.inside.slots.items) c.self.invariant.0 c.hear.new.known.entries c.args.session value c.hear.ensures.change c.in-None.ensures.node) in
    absurd (true≢false (sym e ∙ ap is_some none))
