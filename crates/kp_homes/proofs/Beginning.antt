-- How an opening ends.
use Rattle.std.proofs.Common.{◌≡◌, inl, inr, ℕ, ◌≤◌, ◌<◌, Bool, List, [], ◌∷◌, Option, Some, None, Result, Ok, Err, refl, sym, ◌∙◌, ap, subst}
use Rattle.std.specs.Prelude.{◌⊎◌, IfOk, IfSome}
use Rattle.std.proofs.lemmas.Bool.Decides.{leb_tells}
use Rattle.kp_io.specs.Crash.{Past, HasRoom}
use Rattle.kp_io.specs.Faults.{Rose}
use Rattle.kp_io.specs.Homes.{home_faults}
use Rattle.kp_io.specs.declared.home.Four.{Four}
use Rattle.kp_entry.specs.declared.record.Record.{Record}
use Rattle.kp_entry.specs.declared.record.Record.TheVariants as record_
use Rattle.kp_journal.specs.declared.head.Head.{Head}
use Rattle.kp_journal.specs.Journals.{Journaled, unread}
use Rattle.kp_homes.specs.declared.fail.HomeFail.{HomeFail}
use Rattle.kp_homes.specs.declared.fail.HomeFail.TheVariants as home_fail
use Rattle.kp_homes.specs.declared.reading.Live.{Live}
use Rattle.kp_homes.specs.Stands.{Bytes4, Stand, Stands, StandsForEither, IsRest, IsAtRest, IsOfWriting, LeftIf, HomeLeft, choice, stands, stands_by, slot_number, with_more, made}
use Rattle.kp_homes.specs.Opening.{Found, Fails, IsEarlier, IsHeld, Holds, LeftNow, AreTold, found, found_by, found_in, live_slot, blank_found, image_in, restarted, booted, next_boot, first_records}
use Rattle.kp_homes.specs.Reading.{found_of, seen, IsLive, IsUntouched}
use Rattle.kp_homes.specs.Homes.{IsKept, IsOfStart, IsOfFirst, IsRefused, Keeps, IsBootedOrNot, Opening, Opens, fail_of}
use Rattle.std.proofs.lemmas.Option.{none-some, same_Some}
use Rattle.kp_homes.proofs.Looking.{found_at, blank_finds}
use Rattle.kp_homes.proofs.Standing.{rest_later, rest_left}
use Rattle.kp_homes.proofs.Lifting.{found_more, found_either}

-- the record of the next start
abbrev pub next_start : Live → List Record
next_start l = record_.Boot (next_boot l.replay.boot) ∷ []

-- what was read stands on disks at rest
pub stands_live : {H : Type 0} (held : H → Option (List ℕ)) (past : H → Option Past) (home : Four H) (node : ℕ) (b : Bytes4) (l : Live) → IsAtRest held past home b → (is : IsLive node b (Some l)) → l.journal.head.node ≡ node
    → Stands held past home l.second l.journal b is.1.0
stands_live held past home node b l rest is same = record {
  rest = rest;
  live = is.0;
  value = subst (λ (k : ℕ). stands k b ≡ Some (Ok is.1.0)) (sym same) is.1.1;
  head = ap (λ (j : Journaled). j.head) is.1.2;
  gate = ap (λ (j : Journaled). j.gate) is.1.2;
}

-- what was read is found in its slot
pub in_slot : (node : ℕ) (b : Bytes4) (l : Live) (is : IsLive node b (Some l)) → found node b ≡ Ok (found_of l) → found_in (slot_number l.second) (Ok is.1.0) ≡ Ok (found_of l)
in_slot node b l is finds =
    ap (λ (o : Option Bool). found_by (live_slot o) (Some (Ok is.1.0))) (sym is.0) ∙ sym (found_at node b (Some (Ok is.1.0)) is.1.1) ∙ finds

one_boot : (k m : ℕ) (l : Live) (v : Stand) → found_in k (Ok v) ≡ Ok (found_of l) → found_in m (Ok (with_more (next_start l) v)) ≡ Ok (booted (found_of l))
one_boot k m l v finds = found_more k m v (found_of l) (next_start l) finds refl

-- a crash while the start is added
pub live_left : (node at : ℕ) (b c : Bytes4) (l : Live) (is : IsLive node b (Some l)) → found node b ≡ Ok (found_of l) → at ≡ node → (stands at c ≡ Some (Ok is.1.0)) ⊎ (stands at c ≡ Some (Ok (with_more (next_start l) is.1.0)))
    → IsBootedOrNot (found node b) (found node c)
live_left node at b c l is finds same (inl old) =
    inl (found_at node c (Some (Ok is.1.0)) (subst (λ (k : ℕ). stands k c ≡ Some (Ok is.1.0)) same old) ∙ found_either (slot_number l.second) (live_slot (choice c.j0 c.j1)) is.1.0 (found_of l) (in_slot node b l is finds) ∙ sym finds)
live_left node at b c l is finds same (inr more) =
    inr (
      found_of l,
      finds,
      found_at node c (Some (Ok (with_more (next_start l) is.1.0))) (subst (λ (k : ℕ). stands k c ≡ Some (Ok (with_more (next_start l) is.1.0))) same more) ∙ one_boot (slot_number l.second) (live_slot (choice c.j0 c.j1)) l is.1.0 (in_slot node b l is finds),
    )

-- behind the start
pub live_keeps : {H : Type 0} (held : H → Option (List ℕ)) (past : H → Option Past) (home : Four H) (second : Bool) (j : Journaled) (node : ℕ) (b : Bytes4) (l : Live) (is : IsLive node b (Some l)) → found node b ≡ Ok (found_of l)
    → ((c : Bytes4) × Stands held past home second j c (with_more (next_start l) is.1.0)) → (f : Found) × (found node b ≡ Ok f) × Keeps held past home second j (booted f)
live_keeps held past home second j node b l is finds (c, st) = (
  found_of l,
  finds,
  record { bytes = c; value = with_more (next_start l) is.1.0; stands = st; finds = one_boot (slot_number l.second) (slot_number second) l is.1.0 (in_slot node b l is finds) },
)

-- ---- a blank home

none_yet : (h : Head) → found_in 0 (Ok (record { image = []; journal = unread h 22 })) ≡ Ok blank_found
unfolding image_in restarted
none_yet h = refl

first_finds : (k : ℕ) (h : Head) → found_in k (Ok (made h [] first_records)) ≡ Ok (booted blank_found)
first_finds k h = found_more 0 k (record { image = []; journal = unread h 22 }) blank_found first_records (none_yet h) refl

pub blank_left : (node : ℕ) (b c : Bytes4) (h : Head) → choice b.j0 b.j1 ≡ None → (stands node c ≡ None) ⊎ (stands node c ≡ Some (Ok (made h [] first_records))) → IsBootedOrNot (found node b) (found node c)
blank_left node b c h none (inl same) = inl (found_at node c None same ∙ sym (blank_finds node b none))
blank_left node b c h none (inr new) =
    inr (blank_found, blank_finds node b none, found_at node c (Some (Ok (made h [] first_records))) new ∙ first_finds (live_slot (choice c.j0 c.j1)) h)

pub blank_keeps : {H : Type 0} (held : H → Option (List ℕ)) (past : H → Option Past) (home : Four H) (second : Bool) (j : Journaled) (node : ℕ) (b : Bytes4) (h : Head) → choice b.j0 b.j1 ≡ None
    → ((c : Bytes4) × Stands held past home second j c (made h [] first_records)) → (f : Found) × (found node b ≡ Ok f) × Keeps held past home second j (booted f)
blank_keeps held past home second j node b h none (c, st) =
    (blank_found, blank_finds node b none, record { bytes = c; value = made h [] first_records; stands = st; finds = first_finds (slot_number second) h })

-- ---- the whole

-- a crash before the first write leaves what one before the call could leave, and one behind it what the writes leave
pub in_order : {H : Type 0} (past : H → Option Past) (old mid new : Four H) (m n : ℕ) (c : Bytes4) (W : Type 0) → m < n → HomeLeft past new n c → IsEarlier past mid new
    → (HomeLeft past mid n c → LeftNow past old c) → (mid.moments < n → W) → LeftNow past old c ⊎ W
in_order past old mid new m n c W lt left earlier before behind = elim (leb_tells n mid.moments) [
  | inl small ↦ inl (before (earlier n c small.1 left))
  | inr more ↦ inr (behind more.1)
]

-- ---- the answers of an opening

pub told_holds : {H : Type 0} (held : H → Option (List ℕ)) (past : H → Option Past) (home : Four H) (b : Bytes4) → AreTold held past home b → Holds held home b
told_holds held past home b t = record { on_j0 = t.on_j0.holds; on_j1 = t.on_j1.holds; on_i0 = t.on_i0.holds; on_i1 = t.on_i1.holds }

started_alone : (f : HomeFail) (is : Result Found HomeFail) → IsOfStart f → IsRefused f is
started_alone home_fail.DiskFault is of = tt
started_alone (home_fail.Damaged slot at) is of = absurd of
started_alone (home_fail.Full slot len) is of = tt
started_alone home_fail.NoMemory is of = tt

first_alone : (f : HomeFail) (is : Result Found HomeFail) → IsOfFirst f → IsRefused f is
first_alone home_fail.DiskFault is of = tt
first_alone (home_fail.Damaged slot at) is of = absurd of
first_alone (home_fail.Full slot len) is of = absurd of
first_alone home_fail.NoMemory is of = tt

pub live_opens : {H : Type 0} (r : Opening H) (node : ℕ) (b : Bytes4) (l : Live) → found node b ≡ Ok (found_of l) → IfOk r (λ x. IsKept x.1 (booted (found_of l))) → ((f : HomeFail) → fail_of r ≡ Some f → IsOfStart f) → Opens r (found node b)
live_opens (Ok x) node b l finds kept only = (found_of l, finds, kept)
live_opens (Err x) node b l finds kept only = started_alone x.0 (found node b) (only x.0 refl)

pub blank_opens : {H : Type 0} (r : Opening H) (node : ℕ) (b : Bytes4) → found node b ≡ Ok blank_found → IfOk r (λ x. IsKept x.1 (booted blank_found)) → ((f : HomeFail) → fail_of r ≡ Some f → IsOfFirst f) → Opens r (found node b)
blank_opens (Ok x) node b finds kept only = (blank_found, finds, kept)
blank_opens (Err x) node b finds kept only = first_alone x.0 (found node b) (only x.0 refl)

pub refused_opens : (f : HomeFail) (is : Result Found HomeFail) → Fails f is → IsRefused f is
refused_opens home_fail.DiskFault is fails = tt
refused_opens (home_fail.Damaged slot at) is fails = fails
refused_opens (home_fail.Full slot len) is fails = absurd fails
refused_opens home_fail.NoMemory is fails = tt

-- ---- the syncs and the reading

left_as : (n : ℕ) (c : List ℕ) (old new : Option Past) → new ≡ old → LeftIf new n c → LeftIf old n c
left_as n c old new same left = subst (λ (o : Option Past). LeftIf o n c) same left

pub untouched_left : {H : Type 0} (held : H → Option (List ℕ)) (past : H → Option Past) (old new : Four H) (n : ℕ) (c : Bytes4) → IsUntouched held past old new → HomeLeft past new n c → HomeLeft past old n c
untouched_left held past old new n c u left = record {
  on_j0 = left_as n c.j0 _ _ u.past_j0 left.on_j0;
  on_j1 = left_as n c.j1 _ _ u.past_j1 left.on_j1;
  on_i0 = left_as n c.i0 _ _ u.past_i0 left.on_i0;
  on_i1 = left_as n c.i1 _ _ u.past_i1 left.on_i1;
}

rest_as : (m m' : ℕ) (xs : List ℕ) (held held' : Option (List ℕ)) (past past' : Option Past) → m ≤ m' → held' ≡ held → past' ≡ past → IsRest m xs held past → IsRest m' xs held' past'
rest_as m m' xs held held' past past' le h p r = rest_later m m' xs held' past' le (subst (λ (o : Option (List ℕ)). IsRest m xs o past') (sym h) (subst (λ (o : Option Past). IsRest m xs held o) (sym p) r))

pub untouched_rest : {H : Type 0} (held : H → Option (List ℕ)) (past : H → Option Past) (old new : Four H) (b : Bytes4) → IsUntouched held past old new → old.moments ≤ new.moments → IsAtRest held past old b → IsAtRest held past new b
untouched_rest held past old new b u le r = record {
  at_j0 = rest_as _ _ b.j0 _ _ _ _ le u.held_j0 u.past_j0 r.at_j0;
  at_j1 = rest_as _ _ b.j1 _ _ _ _ le u.held_j1 u.past_j1 r.at_j1;
  at_i0 = rest_as _ _ b.i0 _ _ _ _ le u.held_i0 u.past_i0 r.at_i0;
  at_i1 = rest_as _ _ b.i1 _ _ _ _ le u.held_i1 u.past_i1 r.at_i1;
}

pub held_holds : {H : Type 0} (held : H → Option (List ℕ)) (old new : Four H) (b : Bytes4) → IsHeld held old new → Holds held old b → Holds held new b
held_holds held old new b h is = record { on_j0 = h.j0 ∙ is.on_j0; on_j1 = h.j1 ∙ is.on_j1; on_i0 = h.i0 ∙ is.on_i0; on_i1 = h.i1 ∙ is.on_i1 }

pub all_ok : {T E : Type 0} {P : Type 0} (r : Result T E) → P → IfOk r (λ _. P)
all_ok (Ok x) p = p
all_ok (Err e) p = tt

-- ---- the refusals of a start

fail_same : (f g : HomeFail) → ◌≡◌ {A = Option HomeFail} (Some f) (Some g) → f ≡ g
fail_same f g e = same_Some f g e

pub writing_starts : (f : HomeFail) → IsOfWriting f → IsOfStart f
writing_starts home_fail.DiskFault of = tt
writing_starts (home_fail.Damaged slot at) of = absurd of
writing_starts (home_fail.Full slot len) of = tt
writing_starts home_fail.NoMemory of = absurd of

pub err_of : {U : Type 0} (f g : HomeFail) → ◌≡◌ {A = Option HomeFail} (Some f) (Some g) → ◌≡◌ {A = Result U HomeFail} (Err f) (Err g)
err_of {U} f g e = ap (λ (h : HomeFail). Err h) (fail_same f g e)

pub not_failed : (P : Type 0) (g : HomeFail) → ◌≡◌ {A = Option HomeFail} None (Some g) → P
not_failed P g e = absurd (none-some g e)

pub live_opened : {H : Type 0} (held : H → Option (List ℕ)) (past : H → Option Past) (r : Opening H) (node : ℕ) (b : Bytes4) (l : Live) (is : IsLive node b (Some l)) → found node b ≡ Ok (found_of l)
    → IfOk r (λ x. (c : Bytes4) × Stands held past x.0.disks x.0.second x.0.journal c (with_more (next_start l) is.1.0))
    → IfOk r (λ x. (f : Found) × (found node b ≡ Ok f) × Keeps held past x.0.disks x.0.second x.0.journal (booted f))
live_opened held past (Ok x) node b l is finds rest = live_keeps held past x.0.disks x.0.second x.0.journal node b l is finds rest
live_opened held past (Err x) node b l is finds rest = tt

pub blank_opened : {H : Type 0} (held : H → Option (List ℕ)) (past : H → Option Past) (r : Opening H) (node : ℕ) (b : Bytes4) (h : Head) → choice b.j0 b.j1 ≡ None
    → IfOk r (λ x. (c : Bytes4) × Stands held past x.0.disks x.0.second x.0.journal c (made h [] first_records))
    → IfOk r (λ x. (f : Found) × (found node b ≡ Ok f) × Keeps held past x.0.disks x.0.second x.0.journal (booted f))
blank_opened held past (Ok x) node b h none rest = blank_keeps held past x.0.disks x.0.second x.0.journal node b h none rest
blank_opened held past (Err x) node b h none rest = tt

pub nodes_as : {H : Type 0} (r : Opening H) (k node : ℕ) → IfOk r (λ x. x.0.journal.head.node ≡ k) → k ≡ node → IfOk r (λ x. x.0.journal.head.node ≡ node)
nodes_as (Ok x) k node is same = is ∙ same
nodes_as (Err x) k node is same = tt

-- a blank home that is not written stays blank
pub blank_stays : {H : Type 0} (held : H → Option (List ℕ)) (past : H → Option Past) (node : ℕ) (home : Four H) (b : Bytes4) → IsAtRest held past home b → choice b.j0 b.j1 ≡ None → (n : ℕ) (c : Bytes4) → home.moments < n → HomeLeft past home n c → stands node c ≡ None
blank_stays held past node home b rest none n c lt left =
    let e0 = rest_left home.moments n b.j0 c.j0 _ _ rest.at_j0 lt left.on_j0 in
    let e1 = rest_left home.moments n b.j1 c.j1 _ _ rest.at_j1 lt left.on_j1 in
    ap (λ (o : Option Bool). stands_by node o c) (ap (λ (l : List ℕ). choice l c.j1) e0 ∙ ap (λ (l : List ℕ). choice b.j0 l) e1 ∙ none)

-- what was read is some, or none
pub as_found : (node : ℕ) (b : Bytes4) (o o' : Option Live) → o ≡ o' → found node b ≡ Ok (seen o) → found node b ≡ Ok (seen o')
as_found node b o o' is e = e ∙ ap (λ (x : Option Live). Ok (seen x)) is

pub as_live : (node : ℕ) (b : Bytes4) (o o' : Option Live) → o ≡ o' → IsLive node b o → IsLive node b o'
as_live node b o o' is e = subst (λ (x : Option Live). IsLive node b x) is e

pub as_node : (node : ℕ) (o : Option Live) (l : Live) → o ≡ Some l → IfSome o (λ v. v.journal.head.node ≡ node) → l.journal.head.node ≡ node
as_node node o l is e = subst (λ (x : Option Live). IfSome x (λ v. v.journal.head.node ≡ node)) is e

-- ---- a home that is closed

pub closed_either : {H : Type 0} (past : H → Option Past) (node m : ℕ) (d d' : Four H) (v w : Stand) → d' ≡ d → (HasRoom d.moments → StandsForEither node past m d v w) → HasRoom d'.moments → StandsForEither node past m d' v w
closed_either {H} past node m d d' v w same either room = subst (λ (x : Four H). StandsForEither node past m x v w) (sym same) (either (subst (λ (x : Four H). HasRoom x.moments) same room))

pub closed_earlier : {H : Type 0} (past : H → Option Past) (old d d' : Four H) → d' ≡ d → (HasRoom d.moments → IsEarlier past old d) → HasRoom d'.moments → IsEarlier past old d'
closed_earlier {H} past old d d' same earlier room = subst (λ (x : Four H). IsEarlier past old x) (sym same) (earlier (subst (λ (x : Four H). HasRoom x.moments) same room))

pub closed_rose : {H : Type 0} (faults : H → ℕ) (old d d' : Four H) → d' ≡ d → Rose (home_faults faults old) (home_faults faults d) → Rose (home_faults faults old) (home_faults faults d')
closed_rose {H} faults old d d' same rose = subst (λ (x : Four H). Rose (home_faults faults old) (home_faults faults x)) (sym same) rose
