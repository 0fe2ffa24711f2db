use Rattle.std.proofs.Common.{ℕ, Some, Ok, ◌≡◌, inl, ◌+◌, Bool, length, sym, ◌∙◌, ap, subst, arith}
use Rattle.std.specs.Prelude.{not}
use Rattle.kp_entry.specs.Records.{spelled}
use Rattle.kp_journal.specs.declared.head.Head.{Head}
use Rattle.kp_journal.specs.Journals.{Journaled, unread}
use Rattle.kp_homes.specs.Stands.{stands, made, next_head, IsReady, StandsForEither}
use Rattle.kp_homes.proofs.Standing.{rest_only}
use Rattle.kp_homes.proofs.Sound.{rests_sound}
use Rattle.kp_homes.proofs.home.Home.make_slot.Goals as goal

pub returns-then-len-gt-MOST-clause-crash : goal.returns-then-len-gt-MOST-clause-crash
returns-then-len-gt-MOST-clause-crash g c b v st room below n d lt left = inl (rest_only g.H.Disk.held g.H.Disk.past _ _ b v st.rest st.value n d lt left)

pub returns-in-Ok-clause-crash : goal.returns-in-Ok-clause-crash
returns-in-Ok-clause-crash g c b v st room below =
    let old = c.args.self.now.journal.head in
    let next = c.next_head-head.ensures.next ∙ ap (λ (h : Head). next_head h (length c.args.image.now)) c.head.ensures in
    subst (λ (h : Head). StandsForEither old.node g.H.Disk.past c.args.self.now.disks.moments c.write_other.new.self.disks v (made h c.args.image.now c.args.rest.now)) next (c.in-Ok.ensures.crash b v st room below)

pub returns-in-Ok-clause-rest : goal.returns-in-Ok-clause-rest
returns-in-Ok-clause-rest g c b v st room below =
    let old = c.args.self.now.journal.head in
    let image = c.args.image.now in
    let rs = c.args.rest.now in
    let next = c.next_head-head.ensures.next ∙ ap (λ (h : Head). next_head h (length image)) c.head.ensures in
    let r = c.in-Ok.ensures.rest b v st room below in (
      r.0,
      record {
        rest = r.1;
        live = r.2 ∙ ap (λ (k : Bool). Some (not k)) (sym c.in-Ok.ensures.second);
        value = subst (λ (k : ℕ). stands k r.0 ≡ Some (Ok (made (next_head old (length image)) image rs))) (sym (ap (λ (j : Journaled). j.head.node) c.fresh.ensures ∙ ap (λ (h : Head). h.node) next))
            (r.3 ∙ ap (λ (h : Head). Some (Ok (made h image rs))) next);
        head = sym (ap (λ (j : Journaled). j.head) c.fresh.ensures ∙ next);
        gate = omega (arith, ap (λ (j : Journaled). j.gate) c.fresh.ensures, ap length c.bytes.ensures.spelled);
      },
    )

pub returns-in-Ok-clause-kept : goal.returns-in-Ok-clause-kept
returns-in-Ok-clause-kept g c b v st room below = let s = returns-in-Ok-clause-rest g c b v st room below in rest_only g.H.Disk.held g.H.Disk.past _ _ s.0 _ s.1.rest s.1.value

pub returns-in-Ok-clause-ready : goal.returns-in-Ok-clause-ready
returns-in-Ok-clause-ready g c =
    let head = c.next_head-head.result in
    let n = length (spelled c.args.rest.now) in
    let a = g.H.Disk.held c.write_other.new.self.disks.j0 in
    let z = g.H.Disk.held c.write_other.new.self.disks.j1 in
    let journal : unread head (27 + n) ≡ c.fresh.result = ap (λ (k : ℕ). unread head (27 + k)) (sym (ap length c.bytes.ensures.spelled)) ∙ sym c.fresh.ensures in
    subst (λ (i : Journaled). IsReady (not c.write_other.new.self.second) a z i) journal
    (subst (λ (k : Bool). IsReady (not k) a z (unread head (27 + n))) (sym c.in-Ok.ensures.second) c.in-Ok.ensures.ready)

pub returns-in-Err-clause-crash : goal.returns-in-Err-clause-crash
returns-in-Err-clause-crash g c b v st room below =
    let old = c.args.self.now.journal.head in
    let next = c.next_head-head.ensures.next ∙ ap (λ (h : Head). next_head h (length c.args.image.now)) c.head.ensures in
    subst (λ (h : Head). StandsForEither old.node g.H.Disk.past c.args.self.now.disks.moments c.write_other.new.self.disks v (made h c.args.image.now c.args.rest.now)) next (c.in-Err.ensures.crash b v st room below)

pub returns-in-Ok-clause-head : goal.returns-in-Ok-clause-head
returns-in-Ok-clause-head g c = ap (λ (j : Journaled). j.head) c.fresh.ensures ∙ c.next_head-head.ensures.next ∙ ap (λ (h : Head). next_head h (length c.args.image.now)) c.head.ensures

pub returns-then-len-gt-MOST-clause-sound : goal.returns-then-len-gt-MOST-clause-sound
returns-then-len-gt-MOST-clause-sound g c b v st room = rests_sound g.H.Disk.held g.H.Disk.past _ b st.rest
