-- What a stop within a step of a node leaves.
use Rattle.std.proofs.Common.{◌≡◌, ℕ, ◌≤◌, ◌^◌, Bool, true, false, cond, List, [], length, take, Option, Some, None, refl, ap, sym, subst, ◌∙◌}
use Rattle.std.specs.Prelude.{nat_lt}
use Rattle.kp_entry.specs.declared.record.Record.{Record}
use Rattle.kp_entry.specs.Held.{Held}
use Rattle.kp_entry.specs.Log.{last_index}
use Rattle.kp_entry.specs.Records.{has_base}
use Rattle.kp_raft.specs.declared.mail.Mail.{Mail}
use Rattle.kp_event.specs.declared.event.NodeEvent.{NodeEvent}
use Rattle.kp_snapshot.specs.Snapshots.{Snapshot}
use Rattle.kp_step.specs.Choices.{Choices}
use Rattle.kp_step.specs.Node.{Node}
use Rattle.kp_step.specs.Asking.{Input, idle, asked, reacted, installed}
use Rattle.kp_step.specs.Step.{together, step, base_image}
use Rattle.kp_homes.specs.Opening.{Start, Found, are_fit, started}
use Rattle.kp_node.specs.declared.outcome.Outcome.{Outcome}
use Rattle.kp_node.specs.Facts.{words}
use Rattle.kp_node.specs.Parts.{Parts, node_of}
use Rattle.kp_node.specs.Steps.{Steps, images}
use Rattle.kp_kept.specs.Ahead.{Waiting, IsAhead, image_then, nothing_waits, start_of}
use Rattle.kp_kept.specs.Tearing.{WantsNone, part_fits, part_found, part_image, says_none, torn_found}
use Rattle.kp_kept.proofs.Leads.{Keeps}
use Rattle.kp_kept.proofs.Stepped.{shows, kept, leads}
use Rattle.kp_kept.proofs.Torn.{take_fits, take_all, plain_part, based_part, based_fits, based_boots}
use Rattle.kp_kept.proofs.Void.{asks_none}
use Rattle.kp_kept.proofs.Waits.{Leads, start_is}

is_short : (b : Bool) (i : Snapshot) → ◌≡◌ {A = Option Snapshot} (cond b None (Some i)) None → b ≡ true
is_short true i e = refl
is_short false i e = absurd (cc e)

part_open_by : (x : Node) (rs : List Record) (k : ℕ) (image : Option Snapshot) → Keeps Snapshot images shows x rs image → part_image k rs image ≡ None → has_base (take k rs) ≡ false
part_open_by x rs k None p none = plain_part x.held rs k p
part_open_by x rs k (Some i) b none = based_part rs i.state.applied i.term b k (is_short (nat_lt k (length rs)) i none)

module _ (x y : Node) (rs : List Record) (k : ℕ) (f : Found) (at : f.start ≡ start_of x) where
  held_is : f.start.held ≡ x.held
  held_is = ap (λ (s : Start). s.held) at

  fits_by : (image : Option Snapshot) → Keeps Snapshot images shows x rs image → Leads rs image x y → (b : Bool) → nat_lt k (length rs) ≡ b → part_fits (cond b None image) (take k rs) f y
  fits_by None p l true e = ap (λ (h : Held). are_fit h (take k rs)) held_is ∙ take_fits x.held rs k l.wanted.1
  fits_by None p l false e = ap (λ (h : Held). are_fit h (take k rs)) held_is ∙ take_fits x.held rs k l.wanted.1
  fits_by (Some i) b l true e = based_fits rs i.state.applied i.term b f.start.held k e
  fits_by (Some i) b l false e = l.wanted

  whole_start : (i : Snapshot) → Keeps Snapshot images shows x rs (Some i) → Leads rs (Some i) x y → nat_lt k (length rs) ≡ false → start_of y ≡ started f.start (take k rs)
  whole_start i b l e =
      sym (start_is rs x y l.held l.boot (λ n. based_boots rs i.state.applied i.term b n))
      ∙ ap (λ (s : Start). started s rs) (sym at)
      ∙ ap (λ (qs : List Record). started f.start qs) (sym (take_all rs k e))

  found_by : (image : Option Snapshot) → Keeps Snapshot images shows x rs image → Leads rs image x y → (b : Bool) → nat_lt k (length rs) ≡ b
      → part_found (cond b None image) (take k rs) f y ≡ record { image = image_then f.image (cond b None image); start = started f.start (take k rs) }
  found_by None p l true e = refl
  found_by None p l false e = refl
  found_by (Some i) b l true e = refl
  found_by (Some i) b l false e = ap (λ (s : Start). let g : Found = record { image = Some i; start = s } in g) (whole_start i b l e)

module _ (ch : Choices) (x y : Parts) (e : NodeEvent (Mail Snapshot)) (o : Outcome) (s : Steps (step words images ch (node_of x) e) x y o) where
  -- without the image no base is among the first records
  pub part_open : (k : ℕ) → part_image k o.records o.image ≡ None → has_base (take k o.records) ≡ false
  part_open k none = part_open_by (node_of x) o.records k o.image (kept ch x y e o s) none

  pub fits : last_index (node_of y).held.log ≤ 2 ^ 62 → (k : ℕ) (f : Found) → f.start ≡ start_of (node_of x) → part_fits (part_image k o.records o.image) (take k o.records) f (node_of y)
  fits le k f at = fits_by (node_of x) (node_of y) o.records k f at o.image (kept ch x y e o s) (leads ch x y e o s le) (nat_lt k (length o.records)) refl

  pub found_is : last_index (node_of y).held.log ≤ 2 ^ 62 → (k : ℕ) (f : Found) → f.start ≡ start_of (node_of x) → part_found (part_image k o.records o.image) (take k o.records) f (node_of y) ≡ torn_found k o f
  found_is le k f at = found_by (node_of x) (node_of y) o.records k f at o.image (kept ch x y e o s) (leads ch x y e o s le) (nat_lt k (length o.records)) refl

  asks_idle : says_none o.said ≡ true → asked words images ch (node_of x) e.now e.kind ≡ idle
  unfolding step together
  asks_idle e1 =
      asks_none words images ch (node_of x) e.now (reacted (node_of x) (asked words images ch (node_of x) e.now e.kind)) (installed (node_of x) (asked words images ch (node_of x) e.now e.kind)) e.kind
      (ap says_none (sym s.is.said) ∙ e1)

  records_none : says_none o.said ≡ true → o.records ≡ []
  unfolding step together reacted
  records_none e1 = s.is.records ∙ ap (λ (i : Input Snapshot). (reacted (node_of x) i).records) (asks_idle e1)

  image_none : says_none o.said ≡ true → o.image ≡ None
  unfolding step together reacted installed
  image_none e1 = s.is.image ∙ ap (λ (i : Input Snapshot). base_image images (node_of x) (reacted (node_of x) i).records (installed (node_of x) i)) (asks_idle e1)

  pub none_wanted : says_none o.said ≡ true → WantsNone o
  none_wanted e1 = record { records = records_none e1; image = image_none e1 }

-- nothing waits: what is found is what the node keeps
pub idle_start : (w : Waiting) (f : Found) (x : Node) → w ≡ nothing_waits → IsAhead w f x → f.start ≡ start_of x
idle_start w f x e a = (subst (λ (v : Waiting). IsAhead v f x) e a).1
