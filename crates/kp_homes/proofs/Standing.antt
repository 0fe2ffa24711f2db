-- What crashes leave a home standing for.
use Rattle.std.proofs.Common.{◌≡◌, inl, inr, ⊎_elim, ℕ, ◌≤◌, ◌<◌, Bool, true, false, cond, List, length, take, Option, Some, None, Result, Ok, Err, refl, sym, ◌∙◌, ap, subst}
use Rattle.std.specs.Prelude.{nat_lt, ◌⊎◌, ◌&&◌}
use Rattle.kp_io.specs.Crash.{Past, MayLeave, LeavesIf, IsSettled}
use Rattle.kp_io.specs.declared.home.Four.{Four}
use Rattle.kp_io.proofs.Leaving.{wear_now}
use Rattle.kp_io.proofs.Wears.{settled_kept}
use Rattle.kp_jute.specs.declared.fault.JuteFail.{JuteFail}
use Rattle.kp_entry.specs.declared.record.Record.{Record}
use Rattle.kp_journal.specs.declared.fail.JournalFail.{JournalFail}
use Rattle.kp_journal.specs.declared.head.Head.{Head}
use Rattle.kp_journal.specs.Frames.{Framed}
use Rattle.kp_journal.specs.Heads.{is_open, head_in, head_fault, generation}
use Rattle.kp_journal.specs.Journals.{Journaled, journal_of, with_head, written, with_batch, IsWithOrWithout}
use Rattle.kp_journal.proofs.Standing.{in_journal}
use Rattle.kp_homes.specs.declared.fail.HomeFail.{HomeFail}
use Rattle.kp_homes.specs.declared.fail.HomeFail.TheVariants as home_fail
use Rattle.kp_homes.proofs.Two.{settled_later}
use Rattle.kp_homes.specs.Slots.{LeavesTwoIf}
use Rattle.kp_homes.specs.Stands.{Bytes4, Stand, slot_of, choice, stands_by, stands, with_more, LeftIf, IsRest, IsAtRest, StandsForOnly}

-- ---- one disk and two at a number

pub settled_only : (m n : ℕ) (xs c : List ℕ) (o : Option Past) → IsSettled m xs o → m < n → LeftIf o n c → c ≡ xs
settled_only m n xs c None is lt left = absurd left
settled_only m n xs c (Some p) is lt left = settled_kept xs c (subst (λ w. MayLeave w c) (wear_now m n p.now p.notes is.1 lt ∙ is.0) left)

pub rest_left : (m n : ℕ) (xs c : List ℕ) (held : Option (List ℕ)) (o : Option Past) → IsRest m xs held o → m < n → LeftIf o n c → c ≡ xs
rest_left m n xs c held o r lt left = settled_only m n xs c o r.rests lt left

pub run_left : (m0 m n : ℕ) (Q : List ℕ → Type 0) (c : List ℕ) (old new : Option Past) → LeavesIf m0 m Q old new → m0 < n → LeftIf new n c → Q c
run_left m0 m n Q c None None run lt left = absurd left
run_left m0 m n Q c None (Some new) run lt left = absurd run
run_left m0 m n Q c (Some old) None run lt left = absurd run
run_left m0 m n Q c (Some old) (Some new) run lt left = run.since n c lt left

two_told : (m0 m n : ℕ) (Q : List ℕ → List ℕ → Type 0) (cj ci : List ℕ) (p q : Past) (nj ni : Option Past) → LeavesTwoIf m0 m Q (Some p) (Some q) nj ni → m0 < n → LeftIf nj n cj → LeftIf ni n ci → Q cj ci
two_told m0 m n Q cj ci p q None ni two lt lj li = absurd lj
two_told m0 m n Q cj ci p q (Some nj) None two lt lj li = absurd li
two_told m0 m n Q cj ci p q (Some nj) (Some ni) two lt lj li = two.since n cj ci lt lj li

pub two_left : (m0 m n : ℕ) (Q : List ℕ → List ℕ → Type 0) (cj ci xj xi : List ℕ) (hj hi : Option (List ℕ)) (oj oi nj ni : Option Past) → IsRest m0 xj hj oj → IsRest m0 xi hi oi → LeavesTwoIf m0 m Q oj oi nj ni → m0 < n → LeftIf nj n cj → LeftIf ni n ci → Q cj ci
two_left m0 m n Q cj ci xj xi hj hi oj oi nj ni rj ri two lt lj li =
    two_told m0 m n Q cj ci rj.told ri.told nj ni (subst (λ (o : Option Past). LeavesTwoIf m0 m Q o (Some ri.told) nj ni) rj.tells (subst (λ (o : Option Past). LeavesTwoIf m0 m Q oj o nj ni) ri.tells two)) lt lj li

-- ---- a home at rest later

-- while other disks are called
pub rest_later : (m m' : ℕ) (xs : List ℕ) (held : Option (List ℕ)) (past : Option Past) → m ≤ m' → IsRest m xs held past → IsRest m' xs held past
rest_later m m' xs held past le r = record { holds = r.holds; told = r.told; tells = r.tells; rests = settled_later m m' xs past le r.rests }

told_since : (m0 m : ℕ) (Q : List ℕ → Type 0) (p : Past) (new : Option Past) → LeavesIf m0 m Q (Some p) new → (q : Past) × (new ≡ Some q)
told_since m0 m Q p None run = absurd run
told_since m0 m Q p (Some q) run = (q, refl)

-- behind a run that ended in a sync
pub rest_made : (m m' : ℕ) (Q : List ℕ → Type 0) (xs ys : List ℕ) (held held' : Option (List ℕ)) (o new : Option Past) → IsRest m xs held o → LeavesIf m m' Q o new → held' ≡ Some ys → IsSettled m' ys new → IsRest m' ys held' new
rest_made m m' Q xs ys held held' o new r run holds rests =
    let q = told_since m m' Q r.told new (subst (λ (p : Option Past). LeavesIf m m' Q p new) r.tells run) in
    record { holds = holds; told = q.0; tells = q.1; rests = rests }

two_since : (m0 m : ℕ) (Q : List ℕ → List ℕ → Type 0) (p q : Past) (nj ni : Option Past) → LeavesTwoIf m0 m Q (Some p) (Some q) nj ni → ((r : Past) × (nj ≡ Some r)) × ((r : Past) × (ni ≡ Some r))
two_since m0 m Q p q None ni two = absurd two
two_since m0 m Q p q (Some nj) None two = absurd two
two_since m0 m Q p q (Some nj) (Some ni) two = ((nj, refl), (ni, refl))

pub two_told_after : (m0 m : ℕ) (Q : List ℕ → List ℕ → Type 0) (xj xi : List ℕ) (hj hi : Option (List ℕ)) (oj oi nj ni : Option Past) → IsRest m0 xj hj oj → IsRest m0 xi hi oi → LeavesTwoIf m0 m Q oj oi nj ni
    → ((r : Past) × (nj ≡ Some r)) × ((r : Past) × (ni ≡ Some r))
two_told_after m0 m Q xj xi hj hi oj oi nj ni rj ri two =
    two_since m0 m Q rj.told ri.told nj ni (subst (λ (o : Option Past). LeavesTwoIf m0 m Q o (Some ri.told) nj ni) rj.tells (subst (λ (o : Option Past). LeavesTwoIf m0 m Q oj o nj ni) ri.tells two))

-- what a home at rest stands for is what each crash from now on leaves
pub rest_only : {H : Type 0} (held : H → Option (List ℕ)) (past : H → Option Past) (node : ℕ) (home : Four H) (b : Bytes4) (v : Stand) → IsAtRest held past home b → stands node b ≡ Some (Ok v) → StandsForOnly node past home.moments home v
rest_only held past node home b v rest is n c lt left =
    let e0 = rest_left home.moments n b.j0 c.j0 _ _ rest.at_j0 lt left.on_j0 in
    let e1 = rest_left home.moments n b.j1 c.j1 _ _ rest.at_j1 lt left.on_j1 in
    let e2 = rest_left home.moments n b.i0 c.i0 _ _ rest.at_i0 lt left.on_i0 in
    let e3 = rest_left home.moments n b.i1 c.i1 _ _ rest.at_i1 lt left.on_i1 in
    let same : c ≡ b = λ i. record { j0 = e0 i; j1 = e1 i; i0 = e2 i; i1 = e3 i } in
    ap (stands node) same ∙ is

-- ---- an open head

ok_head : Result Journaled JournalFail → Head → Head
ok_head (Ok v) d = v.head
ok_head (Err e) d = d

head_of : (o : Option ℕ) (h : Head) (f : Result Framed JuteFail) (v : Journaled) → with_head o h f ≡ Ok v → v.head ≡ h
unfolding ok_head
head_of None h (Ok fr) v e = sym (ap (λ (r : Result Journaled JournalFail). ok_head r h) e)
head_of None h (Err f) v e = absurd cc
head_of (Some at) h f v e = absurd cc

pub opened_of : (node : ℕ) (c : List ℕ) (v : Journaled) → journal_of node c ≡ Ok v → (is_open c ≡ true) × (v.head ≡ head_in (take 22 c))
unfolding written
opened_of node c v e = let p = in_journal node c v e in (p.0, head_of (head_fault node (take 22 c)) (head_in (take 22 c)) _ v p.1)

-- ---- the choice between two slots

pub same_choice_first : (x c y : List ℕ) → is_open c ≡ is_open x → generation c ≡ generation x → choice c y ≡ choice x y
same_choice_first x c y opens gen =
    ap (λ (b : Bool). cond b (Some (is_open y && nat_lt (generation c) (generation y))) (cond (is_open y) (Some true) None)) opens
    ∙ ap (λ (g : ℕ). cond (is_open x) (Some (is_open y && nat_lt g (generation y))) (cond (is_open y) (Some true) None)) gen

pub same_choice_second : (x c y : List ℕ) → is_open c ≡ is_open x → generation c ≡ generation x → choice y c ≡ choice y x
same_choice_second x c y opens gen =
    ap (λ (b : Bool). cond (is_open y) (Some (b && nat_lt (generation y) (generation c))) (cond b (Some true) None)) opens
    ∙ ap (λ (g : ℕ). cond (is_open y) (Some (is_open x && nat_lt (generation y) g)) (cond (is_open x) (Some true) None)) gen

-- ---- a batch more

none_ok : (P : Type 0) (e : HomeFail) (v : Stand) → Err e ≡ Ok v → P
none_ok P e v is = absurd cc

value_of : Result Stand HomeFail → Stand → Stand
value_of (Ok v) d = v
value_of (Err e) d = d

ok_stand : (v w : Stand) → ◌≡◌ {A = Result Stand HomeFail} (Ok v) (Ok w) → v ≡ w
unfolding value_of
ok_stand v w e = ap (λ (r : Result Stand HomeFail). value_of r v) e

inner : Option (Result Stand HomeFail) → Result Stand HomeFail → Result Stand HomeFail
inner None d = d
inner (Some r) d = r

pub some_result : (a b : Result Stand HomeFail) → Some a ≡ Some b → a ≡ b
unfolding inner
some_result a b e = ap (λ (o : Option (Result Stand HomeFail)). inner o a) e

-- the slot's value with a batch more
slot_more : (k : ℕ) (v : Journaled) (image : List ℕ) (rs : List Record) (s : Stand) → slot_of k (Ok v) image ≡ Ok s → slot_of k (Ok (with_batch rs v)) image ≡ Ok (with_more rs s)
slot_more k v image rs s e = by_test (nat_lt (length image) v.head.image_len) e
  where
    by_test : (b : Bool) → cond b (Err (home_fail.Damaged k 14)) (Ok (record { image = take v.head.image_len image; journal = v })) ≡ Ok s
        → cond b (Err (home_fail.Damaged k 14)) (Ok (record { image = take v.head.image_len image; journal = with_batch rs v })) ≡ Ok (with_more rs s)
    by_test true e = none_ok _ (home_fail.Damaged k 14) s e
    by_test false e = ap (λ (w : Stand). Ok (with_more rs w)) (ok_stand _ s e)

-- the slot's journal is its value's
pub slot_journal : (k : ℕ) (v : Journaled) (image : List ℕ) (s : Stand) → slot_of k (Ok v) image ≡ Ok s → v ≡ s.journal
slot_journal k v image s e = by_test (nat_lt (length image) v.head.image_len) e
  where
    by_test : (b : Bool) → cond b (Err (home_fail.Damaged k 14)) (Ok (record { image = take v.head.image_len image; journal = v })) ≡ Ok s → v ≡ s.journal
    by_test true e = none_ok _ (home_fail.Damaged k 14) s e
    by_test false e = ap (λ (w : Stand). w.journal) (ok_stand _ s e)

slot_found : (k : ℕ) (r : Result Journaled JournalFail) (image : List ℕ) (s : Stand) → slot_of k r image ≡ Ok s → r ≡ Ok s.journal
slot_found k (Ok v) image s e = ap Ok (slot_journal k v image s e)
slot_found k (Err f) image s e = none_ok _ _ s e

-- the live slot's journal
pub live_first : (node : ℕ) (b : Bytes4) (v : Stand) → choice b.j0 b.j1 ≡ Some false → stands node b ≡ Some (Ok v) → journal_of node b.j0 ≡ Ok v.journal
live_first node b v live is = slot_found 0 (journal_of node b.j0) b.i0 v (some_result _ _ (ap (λ (o : Option Bool). stands_by node o b) (sym live) ∙ is))

pub live_second : (node : ℕ) (b : Bytes4) (v : Stand) → choice b.j0 b.j1 ≡ Some true → stands node b ≡ Some (Ok v) → journal_of node b.j1 ≡ Ok v.journal
live_second node b v live is = slot_found 1 (journal_of node b.j1) b.i1 v (some_result _ _ (ap (λ (o : Option Bool). stands_by node o b) (sym live) ∙ is))

slot_either : (node k : ℕ) (v : Journaled) (image c : List ℕ) (rs : List Record) (s : Stand) → slot_of k (Ok v) image ≡ Ok s → IsWithOrWithout node v rs c
    → (slot_of k (journal_of node c) image ≡ Ok s) ⊎ (slot_of k (journal_of node c) image ≡ Ok (with_more rs s))
slot_either node k v image c rs s e (inl same) = inl (ap (λ (o : Result Journaled JournalFail). slot_of k o image) same ∙ e)
slot_either node k v image c rs s e (inr more) = inr (ap (λ (o : Result Journaled JournalFail). slot_of k o image) more ∙ slot_more k v image rs s e)

-- with the batch or without it the head is the same
head_either : (node : ℕ) (v : Journaled) (rs : List Record) (x c : List ℕ) → journal_of node x ≡ Ok v → IsWithOrWithout node v rs c → (is_open c ≡ is_open x) × (generation c ≡ generation x)
head_either node v rs x c e (inl same) =
    let a = opened_of node c v same in
    let b = opened_of node x v e in
    (a.0 ∙ sym b.0, ap (λ (h : Head). h.generation) (sym a.1 ∙ b.1))
head_either node v rs x c e (inr more) =
    let a = opened_of node c (with_batch rs v) more in
    let b = opened_of node x v e in
    (a.0 ∙ sym b.0, ap (λ (h : Head). h.generation) (sym a.1 ∙ b.1))

pub append_first : (node : ℕ) (b c : Bytes4) (v : Journaled) (rs : List Record) (s : Stand) → choice b.j0 b.j1 ≡ Some false → stands node b ≡ Some (Ok s) → journal_of node b.j0 ≡ Ok v
    → IsWithOrWithout node v rs c.j0 → c.j1 ≡ b.j1 → c.i0 ≡ b.i0 → (stands node c ≡ Some (Ok s)) ⊎ (stands node c ≡ Some (Ok (with_more rs s)))
append_first node b c v rs s live is e left j1 i0 =
    let h = head_either node v rs b.j0 c.j0 e left in
    let chosen : choice c.j0 c.j1 ≡ Some false = ap (λ (l : List ℕ). choice c.j0 l) j1 ∙ same_choice_first b.j0 c.j0 b.j1 h.0 h.1 ∙ live in
    let before : slot_of 0 (Ok v) b.i0 ≡ Ok s = ap (λ (o : Result Journaled JournalFail). slot_of 0 o b.i0) (sym e) ∙ some_result _ _ (ap (λ (o : Option Bool). stands_by node o b) (sym live) ∙ is) in
    let now : stands node c ≡ Some (slot_of 0 (journal_of node c.j0) b.i0) = ap (λ (o : Option Bool). stands_by node o c) chosen ∙ ap (λ (l : List ℕ). Some (slot_of 0 (journal_of node c.j0) l)) i0 in
    ⊎_elim (λ same. inl (now ∙ ap Some same)) (λ more. inr (now ∙ ap Some more)) (slot_either node 0 v b.i0 c.j0 rs s before left)

pub append_second : (node : ℕ) (b c : Bytes4) (v : Journaled) (rs : List Record) (s : Stand) → choice b.j0 b.j1 ≡ Some true → stands node b ≡ Some (Ok s) → journal_of node b.j1 ≡ Ok v
    → IsWithOrWithout node v rs c.j1 → c.j0 ≡ b.j0 → c.i1 ≡ b.i1 → (stands node c ≡ Some (Ok s)) ⊎ (stands node c ≡ Some (Ok (with_more rs s)))
append_second node b c v rs s live is e left j0 i1 =
    let h = head_either node v rs b.j1 c.j1 e left in
    let chosen : choice c.j0 c.j1 ≡ Some true = ap (λ (l : List ℕ). choice l c.j1) j0 ∙ same_choice_second b.j1 c.j1 b.j0 h.0 h.1 ∙ live in
    let before : slot_of 1 (Ok v) b.i1 ≡ Ok s = ap (λ (o : Result Journaled JournalFail). slot_of 1 o b.i1) (sym e) ∙ some_result _ _ (ap (λ (o : Option Bool). stands_by node o b) (sym live) ∙ is) in
    let now : stands node c ≡ Some (slot_of 1 (journal_of node c.j1) b.i1) = ap (λ (o : Option Bool). stands_by node o c) chosen ∙ ap (λ (l : List ℕ). Some (slot_of 1 (journal_of node c.j1) l)) i1 in
    ⊎_elim (λ same. inl (now ∙ ap Some same)) (λ more. inr (now ∙ ap Some more)) (slot_either node 1 v b.i1 c.j1 rs s before left)

-- after the batch was added
pub kept_first : (node : ℕ) (b c : Bytes4) (v : Journaled) (rs : List Record) (s : Stand) → choice b.j0 b.j1 ≡ Some false → stands node b ≡ Some (Ok s) → journal_of node b.j0 ≡ Ok v
    → journal_of node c.j0 ≡ Ok (with_batch rs v) → c.j1 ≡ b.j1 → c.i0 ≡ b.i0 → (choice c.j0 c.j1 ≡ Some false) × (stands node c ≡ Some (Ok (with_more rs s)))
kept_first node b c v rs s live is e more j1 i0 =
    let h = head_either node v rs b.j0 c.j0 e (inr more) in
    let chosen : choice c.j0 c.j1 ≡ Some false = ap (λ (l : List ℕ). choice c.j0 l) j1 ∙ same_choice_first b.j0 c.j0 b.j1 h.0 h.1 ∙ live in
    let before : slot_of 0 (Ok v) b.i0 ≡ Ok s = ap (λ (o : Result Journaled JournalFail). slot_of 0 o b.i0) (sym e) ∙ some_result _ _ (ap (λ (o : Option Bool). stands_by node o b) (sym live) ∙ is) in (
      chosen,
      ap (λ (o : Option Bool). stands_by node o c) chosen ∙ ap (λ (l : List ℕ). Some (slot_of 0 (journal_of node c.j0) l)) i0
          ∙ ap (λ (o : Result Journaled JournalFail). Some (slot_of 0 o b.i0)) more ∙ ap Some (slot_more 0 v b.i0 rs s before),
    )

pub kept_second : (node : ℕ) (b c : Bytes4) (v : Journaled) (rs : List Record) (s : Stand) → choice b.j0 b.j1 ≡ Some true → stands node b ≡ Some (Ok s) → journal_of node b.j1 ≡ Ok v
    → journal_of node c.j1 ≡ Ok (with_batch rs v) → c.j0 ≡ b.j0 → c.i1 ≡ b.i1 → (choice c.j0 c.j1 ≡ Some true) × (stands node c ≡ Some (Ok (with_more rs s)))
kept_second node b c v rs s live is e more j0 i1 =
    let h = head_either node v rs b.j1 c.j1 e (inr more) in
    let chosen : choice c.j0 c.j1 ≡ Some true = ap (λ (l : List ℕ). choice l c.j1) j0 ∙ same_choice_second b.j1 c.j1 b.j0 h.0 h.1 ∙ live in
    let before : slot_of 1 (Ok v) b.i1 ≡ Ok s = ap (λ (o : Result Journaled JournalFail). slot_of 1 o b.i1) (sym e) ∙ some_result _ _ (ap (λ (o : Option Bool). stands_by node o b) (sym live) ∙ is) in (
      chosen,
      ap (λ (o : Option Bool). stands_by node o c) chosen ∙ ap (λ (l : List ℕ). Some (slot_of 1 (journal_of node c.j1) l)) i1
          ∙ ap (λ (o : Result Journaled JournalFail). Some (slot_of 1 o b.i1)) more ∙ ap Some (slot_more 1 v b.i1 rs s before),
    )
