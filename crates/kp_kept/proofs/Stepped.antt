-- What a step of a node leads to.
use Rattle.std.proofs.Common.{◌≡◌, ◌≤◌, ◌^◌, false, List, Option, Some, None, refl, ap, sym, subst, ◌∙◌}
use Rattle.kp_entry.specs.declared.record.Record.{Record}
use Rattle.kp_entry.specs.Held.{Held, replay}
use Rattle.kp_entry.specs.Log.{last_index}
use Rattle.kp_entry.specs.Records.{has_base}
use Rattle.kp_raft.specs.declared.mail.Mail.{Mail}
use Rattle.kp_event.specs.declared.event.NodeEvent.{NodeEvent}
use Rattle.kp_event.specs.declared.said.Said.{Said}
use Rattle.kp_event.specs.Kinds.{row_of_kind, row_of_said}
use Rattle.kp_snapshot.specs.Snapshots.{Snapshot}
use Rattle.kp_step.specs.Choices.{Choices}
use Rattle.kp_step.specs.Node.{Node}
use Rattle.kp_step.specs.Asking.{asked, reacted, installed}
use Rattle.kp_step.specs.Step.{together, step, turned}
use Rattle.kp_node.specs.declared.outcome.Outcome.{Outcome}
use Rattle.kp_node.specs.Facts.{words}
use Rattle.kp_node.specs.Parts.{Parts, node_of}
use Rattle.kp_node.specs.Steps.{Steps, images}
use Rattle.kp_kept.proofs.Shapes.{is_open, boots_none, are_all_fit, base_is}
use Rattle.kp_kept.proofs.Leads.{ShowsMade, Keeps, asked_keeps}
use Rattle.kp_kept.proofs.Turned.{Turns, turned_so}
use Rattle.kp_kept.proofs.Waits.{Leads, wants}

pub shows : ShowsMade images
shows = record { state = λ s t. refl; term = λ s t. refl }

wanted_of : (image : Option Snapshot) (rs : List Record) (x y : Node) → y.held ≡ replay x.held rs → last_index y.held.log ≤ 2 ^ 62 → Keeps Snapshot images shows x rs image → wants image rs x y
wanted_of None rs x y held le p = (is_open x.held rs p, are_all_fit x.held rs p (subst (λ (h : Held). last_index h.log ≤ 2 ^ 62) held le), boots_none x.held rs p)
wanted_of (Some i) rs x y held le b =
    let at = base_is x.held rs i.state.applied i.term b in
    record { index = sym (ap (λ (h : Held). h.log.base) held ∙ at.0); term = sym (ap (λ (h : Held). h.log.base_term) held ∙ at.1) }

module _ (ch : Choices) (x y : Parts) (e : NodeEvent (Mail Snapshot)) (o : Outcome) (s : Steps (step words images ch (node_of x) e) x y o) where
  pub kept : Keeps Snapshot images shows (node_of x) o.records o.image
  unfolding step together
  kept =
      subst (λ (image : Option Snapshot). Keeps Snapshot images shows (node_of x) o.records image) (sym s.is.image)
      (subst (λ (rs : List Record). Keeps Snapshot images shows (node_of x) rs (step words images ch (node_of x) e).image) (sym s.is.records)
      (asked_keeps Snapshot images shows (node_of x) words ch e.now e.kind))

  held_is : (node_of y).held ≡ replay (node_of x).held o.records
  unfolding step together
  held_is = ap (λ (n : Node). n.held) s.is.node ∙ ap (replay (node_of x).held) (sym s.is.records)

  turns : Turns (node_of x) (row_of_kind e.kind) (turned words images ch (node_of x) e.now (reacted (node_of x) (asked words images ch (node_of x) e.now e.kind)) (installed (node_of x) (asked words images ch (node_of x) e.now e.kind)) e.kind)
  turns = turned_so Snapshot words images ch (node_of x) e.now (reacted (node_of x) (asked words images ch (node_of x) e.now e.kind)) (installed (node_of x) (asked words images ch (node_of x) e.now e.kind)) e.kind

  boot_is : (node_of y).boot ≡ (node_of x).boot
  unfolding step together
  boot_is = ap (λ (n : Node). n.boot) s.is.node ∙ turns.boot

  pub me_is : (node_of y).me ≡ (node_of x).me
  unfolding step together
  me_is = ap (λ (n : Node). n.me) s.is.node ∙ turns.me

  pub members_are : (node_of y).members ≡ (node_of x).members
  unfolding step together
  members_are = ap (λ (n : Node). n.members) s.is.node ∙ turns.members

  pub says_so : row_of_said o.said ≡ row_of_kind e.kind
  unfolding step together
  says_so = ap (λ (w : Said). row_of_said w) s.is.said ∙ turns.says

  pub leads : last_index (node_of y).held.log ≤ 2 ^ 62 → Leads o.records o.image (node_of x) (node_of y)
  leads le = record { held = held_is; boot = boot_is; wanted = wanted_of o.image o.records (node_of x) (node_of y) held_is le kept }

  -- without an image no base is among the records
  open_of : (image : Option Snapshot) (rs : List Record) → Keeps Snapshot images shows (node_of x) rs image → image ≡ None → has_base rs ≡ false
  open_of None rs p none = is_open (node_of x).held rs p
  open_of (Some i) rs b none = absurd (cc none)

  pub plain_of : o.image ≡ None → has_base o.records ≡ false
  plain_of none = open_of o.image o.records kept none
