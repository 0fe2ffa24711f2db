-- A run over two disks, and what the journal of a slot that is made anew stands for on its way.
use Rattle.std.proofs.Common.{◌≡◌, inl, inr, ℕ, ◌+◌, ◌≤◌, ◌<◌, Bool, true, false, cond, List, [], ◌∷◌, ◌++◌, length, get_or, take, drop, Option, Some, None, refl, sym, ◌∙◌, ap, subst, arith, length-append}
use Rattle.std.specs.Prelude.{Result, Ok, Err, OnOk, nat_eq, not, IfSome}
use Rattle.std.specs.Option.{option_map}
use Rattle.std.proofs.lemmas.Bool.{cases_eq}
use Rattle.std.proofs.lemmas.Bool.Decides.{nat_tests, leb_tells}
use Rattle.std.proofs.lemmas.List.{take_at}
use Rattle.kp_io.specs.Crash.{Past, MayLeave, LeavesIf, IsSettled, HasFront, IsButFor, settled, worn}
use Rattle.kp_io.proofs.Leaving.{wear_now, up_to_more}
use Rattle.kp_io.proofs.Wears.{settled_kept, byte_torn}
use Rattle.kp_journal.specs.Gates.{staged, opened, appended, Appended}
use Rattle.kp_journal.proofs.Staging.{staged_front, staged_long}
use Rattle.kp_io.specs.Disks.{written_at}
use Rattle.kp_journal.specs.declared.head.Head.{Head}
use Rattle.kp_journal.specs.Heads.{is_open, generation, headed}
use Rattle.kp_journal.proofs.HeadBytes.{head_long}
use Rattle.kp_homes.specs.Slots.{Loses, is_shut, closed_head, filled, LeavesTwoIf, IsOldOrNew, IsDone}

-- ---- two disks

-- nothing was called
pub two_start : (m : ℕ) (Q : List ℕ → List ℕ → Type 0) (xj xi : List ℕ) (oj oi : Option Past) → IsSettled m xj oj → IsSettled m xi oi → Q xj xi → LeavesTwoIf m m Q oj oi oj oi
two_start m Q xj xi None oi ij ii here = tt
two_start m Q xj xi (Some pj) None ij ii here = tt
two_start m Q xj xi (Some pj) (Some pi) ij ii here = record {
  later = omega arith;
  since = λ n cj ci lt lj li.
      let ej : cj ≡ xj = settled_kept xj cj (subst (λ w. MayLeave w cj) (wear_now m n pj.now pj.notes ij.1 lt ∙ ij.0) lj) in
      let ei : ci ≡ xi = settled_kept xi ci (subst (λ w. MayLeave w ci) (wear_now m n pi.now pi.notes ii.1 lt ∙ ii.0) li) in
      subst (λ (l : List ℕ). Q l ci) (sym ej) (subst (λ (l : List ℕ). Q xj l) (sym ei) here);
  before_j = λ n c le left. left;
  before_i = λ n c le left. left;
  up_to_j = ij.1;
  up_to_i = ii.1;
}

-- a run on the first while nothing is unsynced on the second
pub two_first : (m0 m m' : ℕ) (Q : List ℕ → List ℕ → Type 0) (R : List ℕ → Type 0) (xi : List ℕ) (oj oi mj mi nj : Option Past) → LeavesTwoIf m0 m Q oj oi mj mi → LeavesIf m m' R mj nj → IsSettled m xi mi
    → ((c : List ℕ) → R c → Q c xi) → LeavesTwoIf m0 m' Q oj oi nj mi
two_first m0 m m' Q R xi None oi mj mi nj two run ii wider = tt
two_first m0 m m' Q R xi (Some oj) None mj mi nj two run ii wider = tt
two_first m0 m m' Q R xi (Some oj) (Some oi) None mi nj two run ii wider = absurd two
two_first m0 m m' Q R xi (Some oj) (Some oi) (Some mj) None nj two run ii wider = absurd two
two_first m0 m m' Q R xi (Some oj) (Some oi) (Some mj) (Some mi) None two run ii wider = absurd run
two_first m0 m m' Q R xi (Some oj) (Some oi) (Some mj) (Some mi) (Some nj) two run ii wider = record {
  later = omega (arith, two.later, run.later);
  since = λ n cj ci lt lj li. elim (leb_tells n m) [
    | inl small ↦ two.since n cj ci lt (run.before n cj small.1 lj) li
    | inr more ↦
        let ei : ci ≡ xi = settled_kept xi ci (subst (λ w. MayLeave w ci) (wear_now m n mi.now mi.notes ii.1 more.1 ∙ ii.0) li) in
        subst (λ (l : List ℕ). Q cj l) (sym ei) (wider cj (run.since n cj more.1 lj))
  ];
  before_j = λ n c le left. two.before_j n c le (run.before n c (omega (arith, le, two.later)) left);
  before_i = two.before_i;
  up_to_j = run.up_to;
  up_to_i = up_to_more m m' mi.notes run.later two.up_to_i;
}

-- a run on the second while nothing is unsynced on the first
pub two_second : (m0 m m' : ℕ) (Q : List ℕ → List ℕ → Type 0) (R : List ℕ → Type 0) (xj : List ℕ) (oj oi mj mi ni : Option Past) → LeavesTwoIf m0 m Q oj oi mj mi → LeavesIf m m' R mi ni → IsSettled m xj mj
    → ((c : List ℕ) → R c → Q xj c) → LeavesTwoIf m0 m' Q oj oi mj ni
two_second m0 m m' Q R xj None oi mj mi ni two run ij wider = tt
two_second m0 m m' Q R xj (Some oj) None mj mi ni two run ij wider = tt
two_second m0 m m' Q R xj (Some oj) (Some oi) None mi ni two run ij wider = absurd two
two_second m0 m m' Q R xj (Some oj) (Some oi) (Some mj) None ni two run ij wider = absurd two
two_second m0 m m' Q R xj (Some oj) (Some oi) (Some mj) (Some mi) None two run ij wider = absurd run
two_second m0 m m' Q R xj (Some oj) (Some oi) (Some mj) (Some mi) (Some ni) two run ij wider = record {
  later = omega (arith, two.later, run.later);
  since = λ n cj ci lt lj li. elim (leb_tells n m) [
    | inl small ↦ two.since n cj ci lt lj (run.before n ci small.1 li)
    | inr more ↦
        let ej : cj ≡ xj = settled_kept xj cj (subst (λ w. MayLeave w cj) (wear_now m n mj.now mj.notes ij.1 more.1 ∙ ij.0) lj) in
        subst (λ (l : List ℕ). Q l ci) (sym ej) (wider ci (run.since n ci more.1 li))
  ];
  before_j = two.before_j;
  before_i = λ n c le left. two.before_i n c le (run.before n c (omega (arith, le, two.later)) left);
  up_to_j = up_to_more m m' mj.notes run.later two.up_to_j;
  up_to_i = run.up_to;
}

-- a settled disk stays so while others are called
pub settled_later : (m m' : ℕ) (xs : List ℕ) (o : Option Past) → m ≤ m' → IsSettled m xs o → IsSettled m' xs o
settled_later m m' xs None le is = tt
settled_later m m' xs (Some p) le is = (is.0, up_to_more m m' p.notes le is.1)

-- ---- journals that lose

pub open_fact : (c : List ℕ) → is_open c ≡ true → (23 ≤ length c) × (get_or c 0 0 ≡ 1)
open_fact c e = (grind (arith, nat_tests), grind (arith, nat_tests))

pub open_test : (c : List ℕ) → 23 ≤ length c → get_or c 0 0 ≡ 1 → is_open c ≡ true
open_test c long first = grind (arith, nat_tests)

is_one : (x : ℕ) → not (nat_eq x 1) ≡ false → x ≡ 1
is_one x e = elim (cases_eq x 1) [
  | inl is ↦ is
  | inr unlike ↦ grind (arith, nat_tests)
]

not_one : (x : ℕ) → not (nat_eq x 1) ≡ true → x ≡ 1 → ⊥
not_one x e is = grind (arith, nat_tests)

-- a byte of an empty or open journal's head is torn
pub closing_loses : (bound : ℕ) (xs c : List ℕ) → is_shut xs ≡ false → Loses bound xs → MayLeave (worn 0 1 (settled xs)) c → Loses bound c
closing_loses bound [] c open_it loses left opens = absurd (omega (arith, left.no_longer, (open_fact c opens).0))
closing_loses bound (x ∷ xs) c open_it loses left opens =
    let torn = byte_torn 0 (x ∷ xs) c (omega arith) left in
    let long : 23 ≤ length (x ∷ xs) = omega (arith, (open_fact c opens).0, ap length torn.1) in
    let gen : generation c ≡ generation (x ∷ xs) = ap generation torn.1 in
    subst (λ (k : ℕ). k < bound) (sym gen) (loses (open_test (x ∷ xs) long (is_one x open_it)))

-- a head that is not open
pub shut_loses : (bound : ℕ) (xs : List ℕ) → is_shut xs ≡ true → Loses bound xs
shut_loses bound [] e opens = absurd (omega (arith, (open_fact [] opens).0))
shut_loses bound (x ∷ xs) e opens = absurd (not_one x e (open_fact (x ∷ xs) opens).1)

pub front_loses : (bound : ℕ) (xs c : List ℕ) → is_shut xs ≡ true → HasFront 1 xs c → Loses bound c
front_loses bound [] c e front opens = absurd cc
front_loses bound (x ∷ xs) [] e front opens = absurd (omega (arith, (open_fact [] opens).0))
front_loses bound (x ∷ xs) (y ∷ c) e front opens = absurd (not_one x e (sym (heads y x front) ∙ (open_fact (y ∷ c) opens).1))
  where
    heads : (y x : ℕ) → y ∷ [] ≡ x ∷ [] → y ≡ x
    heads y x e = ap (λ (l : List ℕ). get_or l 0 0) e

pub closed_is_shut : (xs : List ℕ) → is_shut (closed_head xs) ≡ true
closed_is_shut [] = refl
closed_is_shut (x ∷ xs) = by_test (not (nat_eq x 1)) refl
  where
    by_test : (b : Bool) → not (nat_eq x 1) ≡ b → is_shut (cond b (x ∷ xs) (0 ∷ xs)) ≡ true
    by_test true e = e
    by_test false e = refl

-- the head is opened at last: the whole new journal, or one whose head is not open
pub opening_wins : (bound : ℕ) (ys image c : List ℕ) → IsButFor 0 ys c → IsOldOrNew bound (opened 0 ys) image c image
unfolding opened
opening_wins bound ys image c but = elim (cases_eq but.0 1) [
  | inl is ↦ inr (but.1 ∙ ap (λ (x : ℕ). x ∷ drop 1 ys) is, refl)
  | inr unlike ↦ inl (λ opens. absurd (unlike (sym (ap (λ (l : List ℕ). get_or l 0 0) but.1) ∙ (open_fact c opens).1)))
]

pub closed_same : (xs : List ℕ) → is_shut xs ≡ true → closed_head xs ≡ xs
closed_same xs e = ap (λ (b : Bool). cond b xs (0 ∷ drop 1 xs)) e

pub closed_other : (xs : List ℕ) → is_shut xs ≡ false → closed_head xs ≡ 0 ∷ drop 1 xs
closed_other xs e = ap (λ (b : Bool). cond b xs (0 ∷ drop 1 xs)) e

-- ---- the journal's way

front_of : (l : List ℕ) → take 1 l ≡ take 1 (take 23 l)
front_of [] = refl
front_of (a ∷ l) = refl

torn_first : (x : ℕ) (s c : List ℕ) → 22 < length s → c ≡ take 22 s ++ x ∷ drop 23 s → take 1 c ≡ take 1 s
torn_first x [] c long is = absurd (omega arith)
torn_first x (a ∷ s) c long is = ap (take 1) is

-- while the first batch is added the head stays as it is
pub appended_front : (body hx c : List ℕ) → 22 < length hx → Appended 22 body hx c → HasFront 1 hx c
appended_front body hx c long (inl front) = front_of c ∙ ap (take 1) front ∙ sym (front_of hx)
appended_front body hx c long (inr but) =
    torn_first but.0 (staged 22 body hx) c (staged_long 22 body hx long) but.1
    ∙ front_of (staged 22 body hx) ∙ ap (take 1) (staged_front 22 body hx long) ∙ sym (front_of hx)

pub headed_front : (head : Head) (xs : List ℕ) → is_shut xs ≡ true → HasFront 1 xs (headed head xs)
headed_front head [] e = absurd cc
headed_front head (x ∷ xs) e = refl

pub headed_long : (head : Head) (xs : List ℕ) → is_shut xs ≡ true → 22 < length (headed head xs)
headed_long head [] e = absurd cc
headed_long head (x ∷ xs) e = omega (arith, head_long head)

pub batch_loses : (bound : ℕ) (head : Head) (body xs c : List ℕ) → is_shut xs ≡ true → Appended 22 body (headed head xs) c → Loses bound c
batch_loses bound head body xs c e left =
    front_loses bound xs c e (appended_front body (headed head xs) c (headed_long head xs e) left ∙ headed_front head xs e)

pub some_byte : (body : List ℕ) (o end : Option (List ℕ)) → end ≡ option_map (appended 22 body) o → IfSome end (λ xs. 0 < length xs)
unfolding opened
some_byte body None end was = subst (λ (q : Option (List ℕ)). IfSome q (λ xs. 0 < length xs)) (sym was) tt
some_byte body (Some xs) end was =
    subst (λ (q : Option (List ℕ)). IfSome q (λ xs. 0 < length xs)) (sym was) (omega (arith, length-append (take 22 (staged 22 body xs)) (1 ∷ drop 23 (staged 22 body xs))))

-- ---- bytes of single calls

pub image_is : (image xs : List ℕ) → take (length image) (written_at 0 image xs) ≡ image
image_is image xs = take_at image (drop (0 + length image) xs) (length image) refl

pub all_done : {T E : Type 0} (m : ℕ) (xj xi : List ℕ) (hj hi : Option (List ℕ)) (pj pi : Option Past) (r : Result T E) → OnOk r (hj ≡ Some xj) → hi ≡ Some xi → OnOk r (IsSettled m xj pj) → IsSettled m xi pi
    → OnOk r (IsDone m xj hj pj × IsDone m xi hi pi)
all_done m xj xi hj hi pj pi (Ok x) a b c d = (record { holds = a; rests = c }, record { holds = b; rests = d })
all_done m xj xi hj hi pj pi (Err e) a b c d = tt

pub same_held : (o : Option (List ℕ)) (shut : Bool) → IfSome o (λ xs. shut ≡ is_shut xs) → shut ≡ true → o ≡ option_map closed_head o
same_held None shut is e = refl
same_held (Some xs) shut is e = ap Some (sym (closed_same xs (sym is ∙ e)))

pub other_held : (o : Option (List ℕ)) (shut : Bool) → IfSome o (λ xs. shut ≡ is_shut xs) → shut ≡ false → option_map (written_at 0 (0 ∷ [])) o ≡ option_map closed_head o
other_held None shut is e = refl
other_held (Some xs) shut is e = ap Some (sym (closed_other xs (sym is ∙ e)))

pub filled_held : (head : Head) (body : List ℕ) (o : Option (List ℕ)) → option_map (opened 0) (option_map (appended 22 body) (option_map (headed head) (option_map closed_head o))) ≡ option_map (λ xs. filled head body (closed_head xs)) o
filled_held head body None = refl
filled_held head body (Some xs) = refl
