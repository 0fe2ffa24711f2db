-- A new slot beside the live one.
use Rattle.std.proofs.Common.{◌≡◌, inl, inr, ℕ, ◌+◌, ◌^◌, ◌≤◌, ◌<◌, Bool, true, false, cond, List, [], ◌∷◌, length, take, Option, Some, None, Result, Ok, Err, refl, sym, ◌∙◌, ap, subst, arith}
use Rattle.std.specs.Prelude.{nat_lt, IfSome, ◌⊎◌, ◌&&◌}
use Rattle.std.specs.Option.{option_map}
use Rattle.std.proofs.lemmas.Bool.Decides.{nat_tests}
use Rattle.std.proofs.lemmas.List.{take_all}
use Rattle.kp_entry.specs.declared.record.Record.{Record}
use Rattle.kp_entry.specs.Records.{spelled, has_base, IsRun}
use Rattle.kp_journal.specs.declared.fail.JournalFail.{JournalFail}
use Rattle.kp_journal.specs.declared.head.Head.{Head}
use Rattle.kp_journal.specs.Heads.{is_open, generation, IsHead}
use Rattle.kp_journal.specs.Journals.{Journaled, journal_of, new_journal, unread, StandsFor}
use Rattle.kp_journal.proofs.NewJournal.{finished_is}
use Rattle.kp_homes.specs.declared.fail.HomeFail.TheVariants as home_fail
use Rattle.kp_homes.specs.Slots.{Loses, is_shut, closed_head, filled, IsOldOrNew}
use Rattle.kp_homes.specs.Stands.{Bytes4, Stand, slot_of, choice, stands_by, stands, next_head, made}
use Rattle.kp_homes.proofs.Two.{closed_is_shut}
use Rattle.kp_homes.proofs.Standing.{opened_of}

-- a file that stands for a new journal, and its image
pub record NewSlot (node : ℕ) (h : Head) (rs : List Record) (image f : List ℕ) : Type 0 where
  pub is : journal_of node f ≡ Ok (new_journal h rs)
  pub len : h.image_len ≡ length image

shut_some : (xs : List ℕ) → is_shut xs ≡ true → 0 < length xs
shut_some [] e = absurd cc
shut_some (x ∷ xs) e = omega arith

pub made_slot : (j h : Head) (rs : List Record) (image body xs : List ℕ) → h ≡ next_head j (length image) → IsHead h → body ≡ spelled rs → IsRun rs → has_base rs ≡ false → length body < 2 ^ 32
    → NewSlot j.node h rs image (filled h body (closed_head xs))
made_slot j h rs image body xs is fits text run based short = record {
  is = subst (λ (n : ℕ). journal_of n (filled h body (closed_head xs)) ≡ Ok (new_journal h rs)) (ap (λ (k : Head). k.node) is)
      (subst (λ (l : List ℕ). journal_of h.node (filled h l (closed_head xs)) ≡ Ok (new_journal h rs)) (sym text)
      (finished_is h rs (closed_head xs) fits run based (subst (λ (l : List ℕ). length l < 2 ^ 32) text short) (shut_some (closed_head xs) (closed_is_shut xs))));
  len = ap (λ (k : Head). k.image_len) is;
}

-- the generation of a journal is its head's
pub head_generation : (node : ℕ) (c : List ℕ) (v : Journaled) (h : Head) → journal_of node c ≡ Ok v → v.head ≡ h → generation c ≡ h.generation
head_generation node c v h e is = ap (λ (k : Head). k.generation) (sym (opened_of node c v e).1 ∙ is)

pub next_generation : (j h : Head) (len g : ℕ) → h ≡ next_head j len → j.generation < 2 ^ 62 → g ≡ j.generation → h.generation ≡ g + 1
next_generation j h len g is below same = omega (arith, ap (λ (k : Head). k.generation) is, below, same)

test_less : (a b : ℕ) → a < b → nat_lt a b ≡ true
test_less a b lt = grind (arith, nat_tests)

test_long : (a b : ℕ) → b ≤ a → nat_lt a b ≡ false
test_long a b le = grind (arith, nat_tests)

new_stands : (node k : ℕ) (h : Head) (rs : List Record) (image f : List ℕ) → NewSlot node h rs image f → slot_of k (journal_of node f) image ≡ Ok (made h image rs)
new_stands node k h rs image f n =
    ap (λ (o : Result Journaled JournalFail). slot_of k o image) n.is
    ∙ ap (λ (m : ℕ). cond (nat_lt (length image) m) (Err (home_fail.Damaged k 14)) (Ok (record { image = take m image; journal = new_journal h rs }))) n.len
    ∙ ap (λ (b : Bool). cond b (Err (home_fail.Damaged k 14)) (Ok (record { image = take (length image) image; journal = new_journal h rs }))) (test_long (length image) (length image) (omega arith))
    ∙ ap (λ (l : List ℕ). Ok (record { image = l; journal = new_journal h rs })) (take_all (length image) image (omega arith))

-- ---- which slot is chosen

some_bool : (a b : Bool) → Some a ≡ Some b → a ≡ b
some_bool a b e = cc

none_bool : (P : Type 0) (b : Bool) → None ≡ Some b → P
none_bool P b e = absurd cc

and_true : (a b : Bool) → (a && b) ≡ true → (a ≡ true) × (b ≡ true)
and_true true b e = (refl, e)
and_true false b e = absurd cc

false_true : (P : Type 0) → false ≡ true → P
false_true P e = absurd cc

-- the parts of a choice, by the tests
chosen_false : (p q r : Bool) → cond p (Some (q && r)) (cond q (Some true) None) ≡ Some false → (p ≡ true) × ((q && r) ≡ false)
chosen_false true q r e = (refl, some_bool _ _ e)
chosen_false false true r e = false_true _ (sym (some_bool _ _ e))
chosen_false false false r e = none_bool _ _ e

chosen_true : (p q r : Bool) → cond p (Some (q && r)) (cond q (Some true) None) ≡ Some true → (q ≡ true) × (p ≡ true → r ≡ true)
chosen_true true q r e = let both = and_true q r (some_bool _ _ e) in (both.0, λ h. both.1)
chosen_true false true r e = (refl, λ h. false_true _ h)
chosen_true false false r e = none_bool _ _ e

to_false : (p q r : Bool) → p ≡ true → (q ≡ true → r ≡ false) → cond p (Some (q && r)) (cond q (Some true) None) ≡ Some false
to_false true true r e h = ap Some (h refl)
to_false true false r e h = refl
to_false false q r e h = false_true _ e

to_true : (p q r : Bool) → q ≡ true → (p ≡ true → r ≡ true) → cond p (Some (q && r)) (cond q (Some true) None) ≡ Some true
to_true true true r e h = ap Some (h refl)
to_true false true r e h = refl
to_true p false r e h = false_true _ e

less_not : (a b : ℕ) → nat_lt a b ≡ false → b < a + 1
less_not a b e = grind (arith, nat_tests)

less_is : (a b : ℕ) → nat_lt a b ≡ true → a < b
less_is a b e = grind (arith, nat_tests)

and_false : (a b : Bool) → (a && b) ≡ false → a ≡ true → b ≡ false
and_false true b e h = e
and_false false b e h = false_true _ h

-- the slot that is not live loses
pub second_loses : (a b : List ℕ) → choice a b ≡ Some false → Loses (generation a + 1) b
second_loses a b e opens =
    let p = chosen_false (is_open a) (is_open b) (nat_lt (generation a) (generation b)) e in
    less_not (generation a) (generation b) (and_false (is_open b) _ p.1 opens)

pub first_loses : (a b : List ℕ) → choice a b ≡ Some true → Loses (generation b) a
first_loses a b e opens =
    let p = chosen_true (is_open a) (is_open b) (nat_lt (generation a) (generation b)) e in
    less_is (generation a) (generation b) (p.1 opens)

-- ---- a new slot beside the live one

-- the new journal is chosen
chosen_second : (node : ℕ) (b : Bytes4) (h : Head) (rs : List Record) (image f : List ℕ) → choice b.j0 b.j1 ≡ Some false → h.generation ≡ generation b.j0 + 1 → NewSlot node h rs image f → choice b.j0 f ≡ Some true
chosen_second node b h rs image f live higher n =
    let gen : generation f ≡ h.generation = head_generation node f (new_journal h rs) h n.is refl in
    to_true (is_open b.j0) (is_open f) (nat_lt (generation b.j0) (generation f)) (opened_of node f (new_journal h rs) n.is).0
    (λ e. test_less (generation b.j0) (generation f) (omega (arith, gen, higher)))

chosen_first : (node : ℕ) (b : Bytes4) (h : Head) (rs : List Record) (image f : List ℕ) → choice b.j0 b.j1 ≡ Some true → h.generation ≡ generation b.j1 + 1 → NewSlot node h rs image f → choice f b.j1 ≡ Some false
chosen_first node b h rs image f live higher n =
    let gen : generation f ≡ h.generation = head_generation node f (new_journal h rs) h n.is refl in
    to_false (is_open f) (is_open b.j1) (nat_lt (generation f) (generation b.j1)) (opened_of node f (new_journal h rs) n.is).0
    (λ e. test_long (generation f) (generation b.j1) (omega (arith, gen, higher)))

pub new_second : (node : ℕ) (b c : Bytes4) (h : Head) (rs : List Record) (image f : List ℕ) → choice b.j0 b.j1 ≡ Some false → h.generation ≡ generation b.j0 + 1 → NewSlot node h rs image f
    → c.j1 ≡ f → c.i1 ≡ image → c.j0 ≡ b.j0 → (choice c.j0 c.j1 ≡ Some true) × (stands node c ≡ Some (Ok (made h image rs)))
new_second node b c h rs image f live higher n j1 i1 j0 =
    let chosen : choice c.j0 c.j1 ≡ Some true = ap (λ (l : List ℕ). choice l c.j1) j0 ∙ ap (λ (l : List ℕ). choice b.j0 l) j1 ∙ chosen_second node b h rs image f live higher n in (
      chosen,
      ap (λ (o : Option Bool). stands_by node o c) chosen ∙ ap (λ (l : List ℕ). Some (slot_of 1 (journal_of node l) c.i1)) j1 ∙ ap (λ (l : List ℕ). Some (slot_of 1 (journal_of node f) l)) i1
          ∙ ap Some (new_stands node 1 h rs image f n),
    )

pub new_first : (node : ℕ) (b c : Bytes4) (h : Head) (rs : List Record) (image f : List ℕ) → choice b.j0 b.j1 ≡ Some true → h.generation ≡ generation b.j1 + 1 → NewSlot node h rs image f
    → c.j0 ≡ f → c.i0 ≡ image → c.j1 ≡ b.j1 → (choice c.j0 c.j1 ≡ Some false) × (stands node c ≡ Some (Ok (made h image rs)))
new_first node b c h rs image f live higher n j0 i0 j1 =
    let chosen : choice c.j0 c.j1 ≡ Some false = ap (λ (l : List ℕ). choice c.j0 l) j1 ∙ ap (λ (l : List ℕ). choice l b.j1) j0 ∙ chosen_first node b h rs image f live higher n in (
      chosen,
      ap (λ (o : Option Bool). stands_by node o c) chosen ∙ ap (λ (l : List ℕ). Some (slot_of 0 (journal_of node l) c.i0)) j0 ∙ ap (λ (l : List ℕ). Some (slot_of 0 (journal_of node f) l)) i0
          ∙ ap Some (new_stands node 0 h rs image f n),
    )

pub compact_second : (node : ℕ) (b c : Bytes4) (h : Head) (rs : List Record) (image f : List ℕ) (s : Stand) → choice b.j0 b.j1 ≡ Some false → stands node b ≡ Some (Ok s) → h.generation ≡ generation b.j0 + 1 → NewSlot node h rs image f
    → IsOldOrNew (generation b.j0 + 1) f image c.j1 c.i1 → c.j0 ≡ b.j0 → c.i0 ≡ b.i0 → (stands node c ≡ Some (Ok s)) ⊎ (stands node c ≡ Some (Ok (made h image rs)))
compact_second node b c h rs image f s live is higher n (inl loses) j0 i0 =
    let p = chosen_false (is_open b.j0) (is_open b.j1) (nat_lt (generation b.j0) (generation b.j1)) live in
    let chosen : choice b.j0 c.j1 ≡ Some false = to_false (is_open b.j0) (is_open c.j1) (nat_lt (generation b.j0) (generation c.j1)) p.0
    (λ e. test_long (generation b.j0) (generation c.j1) (omega (arith, loses e))) in
    inl (ap (λ (o : Option Bool). stands_by node o c) (ap (λ (l : List ℕ). choice l c.j1) j0 ∙ chosen)
    ∙ ap (λ (l : List ℕ). Some (slot_of 0 (journal_of node l) c.i0)) j0 ∙ ap (λ (l : List ℕ). Some (slot_of 0 (journal_of node b.j0) l)) i0
    ∙ ap (λ (o : Option Bool). stands_by node o b) (sym live) ∙ is)
compact_second node b c h rs image f s live is higher n (inr new) j0 i0 = inr (new_second node b c h rs image f live higher n new.0 new.1 j0).1

pub compact_first : (node : ℕ) (b c : Bytes4) (h : Head) (rs : List Record) (image f : List ℕ) (s : Stand) → choice b.j0 b.j1 ≡ Some true → stands node b ≡ Some (Ok s) → h.generation ≡ generation b.j1 + 1 → NewSlot node h rs image f
    → IsOldOrNew (generation b.j1) f image c.j0 c.i0 → c.j1 ≡ b.j1 → c.i1 ≡ b.i1 → (stands node c ≡ Some (Ok s)) ⊎ (stands node c ≡ Some (Ok (made h image rs)))
compact_first node b c h rs image f s live is higher n (inl loses) j1 i1 =
    let p = chosen_true (is_open b.j0) (is_open b.j1) (nat_lt (generation b.j0) (generation b.j1)) live in
    let chosen : choice c.j0 b.j1 ≡ Some true = to_true (is_open c.j0) (is_open b.j1) (nat_lt (generation c.j0) (generation b.j1)) p.0
    (λ e. test_less (generation c.j0) (generation b.j1) (loses e)) in
    inl (ap (λ (o : Option Bool). stands_by node o c) (ap (λ (l : List ℕ). choice c.j0 l) j1 ∙ chosen)
    ∙ ap (λ (l : List ℕ). Some (slot_of 1 (journal_of node l) c.i1)) j1 ∙ ap (λ (l : List ℕ). Some (slot_of 1 (journal_of node b.j1) l)) i1
    ∙ ap (λ (o : Option Bool). stands_by node o b) (sym live) ∙ is)
compact_first node b c h rs image f s live is higher n (inr new) j1 i1 = inr (new_first node b c h rs image f live higher n new.0 new.1 j1).1

-- ---- the new journal is known

pub ready_made : (j h : Head) (rs : List Record) (image body : List ℕ) (old new : Option (List ℕ)) → h ≡ next_head j (length image) → IsHead h → body ≡ spelled rs → IsRun rs → has_base rs ≡ false → length body < 2 ^ 32
    → new ≡ option_map (λ xs. filled h body (closed_head xs)) old → IfSome new (StandsFor (unread h (27 + length (spelled rs))))
ready_made j h rs image body None new is fits text run based short was = subst (λ (o : Option (List ℕ)). IfSome o (StandsFor (unread h (27 + length (spelled rs))))) (sym was) tt
ready_made j h rs image body (Some xs) new is fits text run based short was =
    let n = made_slot j h rs image body xs is fits text run based short in
    let here : StandsFor (unread h (27 + length (spelled rs))) (filled h body (closed_head xs)) =
    (new_journal h rs, subst (λ (k : ℕ). journal_of k (filled h body (closed_head xs)) ≡ Ok (new_journal h rs)) (sym (ap (λ (k : Head). k.node) is)) n.is, refl) in
    subst (λ (o : Option (List ℕ)). IfSome o (StandsFor (unread h (27 + length (spelled rs))))) (sym was) here

-- ---- the first slot of a blank home

none_chosen : (p q r : Bool) → cond p (Some (q && r)) (cond q (Some true) None) ≡ None → (p ≡ false) × (q ≡ false)
none_chosen true q r e = none_bool _ _ (sym e)
none_chosen false true r e = none_bool _ _ (sym e)
none_chosen false false r e = (refl, refl)

to_none : (p q r : Bool) → p ≡ false → q ≡ false → cond p (Some (q && r)) (cond q (Some true) None) ≡ None
to_none false false r a b = refl
to_none true q r a b = false_true _ (sym a)
to_none false true r a b = false_true _ (sym b)

pub blank_loses : (a b : List ℕ) → choice a b ≡ None → Loses 0 a
blank_loses a b e opens = false_true _ (sym (none_chosen (is_open a) (is_open b) (nat_lt (generation a) (generation b)) e).0 ∙ opens)

loses_all : (c : List ℕ) → Loses 0 c → is_open c ≡ false
loses_all c loses = by_test (is_open c) refl
  where
    by_test : (t : Bool) → is_open c ≡ t → is_open c ≡ false
    by_test true e = absurd (omega (arith, loses e))
    by_test false e = e

pub first_slot : (h : Head) (rs : List Record) (body xs : List ℕ) → IsHead h → h.image_len ≡ 0 → body ≡ spelled rs → IsRun rs → has_base rs ≡ false → length body < 2 ^ 32 → NewSlot h.node h rs [] (filled h body (closed_head xs))
first_slot h rs body xs fits no_image text run based short = record {
  is = subst (λ (l : List ℕ). journal_of h.node (filled h l (closed_head xs)) ≡ Ok (new_journal h rs)) (sym text)
      (finished_is h rs (closed_head xs) fits run based (subst (λ (l : List ℕ). length l < 2 ^ 32) text short) (shut_some (closed_head xs) (closed_is_shut xs)));
  len = no_image;
}

pub blank_made : (node : ℕ) (b c : Bytes4) (h : Head) (rs : List Record) (f : List ℕ) → choice b.j0 b.j1 ≡ None → NewSlot node h rs [] f → c.j0 ≡ f → c.i0 ≡ [] → c.j1 ≡ b.j1
    → (choice c.j0 c.j1 ≡ Some false) × (stands node c ≡ Some (Ok (made h [] rs)))
blank_made node b c h rs f none n j0 i0 j1 =
    let shut = none_chosen (is_open b.j0) (is_open b.j1) (nat_lt (generation b.j0) (generation b.j1)) none in
    let chosen : choice c.j0 c.j1 ≡ Some false = ap (λ (l : List ℕ). choice c.j0 l) j1 ∙ ap (λ (l : List ℕ). choice l b.j1) j0
    ∙ to_false (is_open f) (is_open b.j1) (nat_lt (generation f) (generation b.j1)) (opened_of node f (new_journal h rs) n.is).0 (λ e. false_true _ (sym shut.1 ∙ e)) in (
      chosen,
      ap (λ (o : Option Bool). stands_by node o c) chosen ∙ ap (λ (l : List ℕ). Some (slot_of 0 (journal_of node l) c.i0)) j0 ∙ ap (λ (l : List ℕ). Some (slot_of 0 (journal_of node f) l)) i0
          ∙ ap Some (new_stands node 0 h rs [] f n),
    )

pub blank_either : (node : ℕ) (b c : Bytes4) (h : Head) (rs : List Record) (f : List ℕ) → choice b.j0 b.j1 ≡ None → NewSlot node h rs [] f → IsOldOrNew 0 f [] c.j0 c.i0 → c.j1 ≡ b.j1
    → (stands node c ≡ None) ⊎ (stands node c ≡ Some (Ok (made h [] rs)))
blank_either node b c h rs f none n (inl loses) j1 =
    let shut = none_chosen (is_open b.j0) (is_open b.j1) (nat_lt (generation b.j0) (generation b.j1)) none in
    let chosen : choice c.j0 b.j1 ≡ None = to_none (is_open c.j0) (is_open b.j1) (nat_lt (generation c.j0) (generation b.j1)) (loses_all c.j0 loses) shut.1 in
    inl (ap (λ (o : Option Bool). stands_by node o c) (ap (λ (l : List ℕ). choice c.j0 l) j1 ∙ chosen))
blank_either node b c h rs f none n (inr new) j1 = inr (blank_made node b c h rs f none n new.0 new.1 j1).1

pub first_ready : (h : Head) (rs : List Record) (body : List ℕ) (old new : Option (List ℕ)) → IsHead h → h.image_len ≡ 0 → body ≡ spelled rs → IsRun rs → has_base rs ≡ false → length body < 2 ^ 32
    → new ≡ option_map (λ xs. filled h body (closed_head xs)) old → IfSome new (StandsFor (unread h (27 + length (spelled rs))))
first_ready h rs body None new fits no_image text run based short was = subst (λ (o : Option (List ℕ)). IfSome o (StandsFor (unread h (27 + length (spelled rs))))) (sym was) tt
first_ready h rs body (Some xs) new fits no_image text run based short was =
    let n = first_slot h rs body xs fits no_image text run based short in
    let here : StandsFor (unread h (27 + length (spelled rs))) (filled h body (closed_head xs)) = (new_journal h rs, n.is, refl) in
    subst (λ (o : Option (List ℕ)). IfSome o (StandsFor (unread h (27 + length (spelled rs))))) (sym was) here
