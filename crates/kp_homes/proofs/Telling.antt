-- What is told of a home without a change.
use Rattle.std.specs.Prelude.{IfSome}
use Rattle.kp_model.specs.LogEntry.{LogEntry}
use Rattle.kp_snapshot.specs.Snapshots.{Snapshot}
use Rattle.std.proofs.Common.{◌≡◌, ℕ, List, Bool, true, false, Option, Some, None, Ok, sym, ◌∙◌, ap, subst}
use Rattle.kp_journal.specs.declared.head.Head.{Head}
use Rattle.kp_journal.specs.Heads.{generation}
use Rattle.kp_journal.specs.Journals.{Journaled}
use Rattle.kp_homes.specs.declared.inspecting.LiveSlot.{LiveSlot}
use Rattle.kp_homes.specs.declared.reading.Live.{Live}
use Rattle.kp_homes.specs.Stands.{Bytes4, Stand, choice, stands}
use Rattle.kp_homes.specs.Opening.{IsWithin, found}
use Rattle.kp_homes.specs.Reading.{IsLive, found_of, seen}
use Rattle.kp_homes.specs.Homes.{IsKept}
use Rattle.kp_homes.specs.Inspects.{IsLiveSlot, journal_in}
use Rattle.kp_homes.proofs.Standing.{opened_of, live_first, live_second}

-- the head of the live slot's journal is the one that its bytes say
slot_generation : (node : ℕ) (second : Bool) (b : Bytes4) (v : Stand) → choice b.j0 b.j1 ≡ Some second → stands node b ≡ Some (Ok v) → v.journal.head.generation ≡ generation (journal_in second b)
slot_generation node false b v live is = ap (λ (h : Head). h.generation) (opened_of node b.j0 v.journal (live_first node b v live is)).1
slot_generation node true b v live is = ap (λ (h : Head). h.generation) (opened_of node b.j1 v.journal (live_second node b v live is)).1

live_generation : (node : ℕ) (second : Bool) (b : Bytes4) (v : Stand) (j : Journaled) → choice b.j0 b.j1 ≡ Some second → stands node b ≡ Some (Ok v) → v.journal ≡ j → j.head.generation ≡ generation (journal_in second b)
live_generation node second b v j live is same = ap (λ (k : Journaled). k.head.generation) (sym same) ∙ slot_generation node second b v live is

pub told_blank : (node : ℕ) (b : Bytes4) (o : Option Live) → IsLive node b o → o ≡ None → choice b.j0 b.j1 ≡ None
told_blank node b o live is = subst (λ (q : Option Live). IsLive node b q) is live

pub told_live : (node : ℕ) (b : Bytes4) (o : Option Live) (l : Live) (s : LiveSlot) → found node b ≡ Ok (seen o) → IsLive node b o → o ≡ Some l → s.second ≡ l.second → s.generation ≡ l.journal.head.generation → IsKept s.kept (found_of l) → IsLiveSlot node b s
told_live node b o l s finds live is second gen kept = by_parts (subst (λ (q : Option Live). IsLive node b q) is live)
  where
    by_parts : IsLive node b (Some l) → IsLiveSlot node b s
    by_parts there = record {
      live = there.0 ∙ ap (λ (k : Bool). Some k) (sym second);
      generation = gen ∙ live_generation node l.second b there.1.0 l.journal there.0 there.1.1 there.1.2 ∙ ap (λ (k : Bool). generation (journal_in k b)) (sym second);
      finds = found_of l;
      found = finds ∙ ap (λ (q : Option Live). Ok (seen q)) is;
      kept = kept;
    }

pub told_within : (o : Option Live) (l : Live) (s : LiveSlot) → IfSome o (λ v. IsWithin v.image v.replay.held.log.entries) → o ≡ Some l → IsKept s.kept (found_of l) → IsWithin s.kept.image s.kept.rest.items
told_within o l s room is kept =
    subst (λ (es : List LogEntry). IsWithin s.kept.image es) (sym kept.rest)
    (subst (λ (i : Option Snapshot). IsWithin i l.replay.held.log.entries) (sym kept.image) (subst (λ (q : Option Live). IfSome q (λ v. IsWithin v.image v.replay.held.log.entries)) is room))
