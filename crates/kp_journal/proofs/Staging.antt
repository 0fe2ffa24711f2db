-- What writes behind a gate make of a disk's bytes, and of what a crash leaves.
use Rattle.std.proofs.Common.{◌≡◌, inl, inr, ℕ, ◌+◌, ◌≤◌, ◌<◌, List, [], ◌∷◌, ◌++◌, length, take, drop, take-append-drop, append_assoc, Option, Some, None, Result, Ok, Err, refl, sym, ◌∙◌, ap, subst, arith, length-append}
use Rattle.std.specs.Prelude.{OnOk, OnErr, IfSome}
use Rattle.std.specs.Option.{option_map}
use Rattle.std.proofs.lemmas.List.{take_at, drop_at, drop-drop, length-take}
use Rattle.std.specs.Int.{w32, to_be_bytes}
use Rattle.kp_io.specs.Crash.{Past, MayLeave, LeavesIf, IsSettled, HasFront, IsButFor, HasRoom, wrote}
use Rattle.kp_io.specs.Faults.{one_more}
use Rattle.kp_io.specs.Disks.{written_at}
use Rattle.kp_io.proofs.Leaving.{start}
use Rattle.kp_io.proofs.Wears.{settled_kept}
use Rattle.kp_io.proofs.Behind.{BehindIf, stepped, wrote_behind, joined_if, weakened_if}
use Rattle.kp_journal.specs.Gates.{staged, opened, Appended}

-- ---- bytes

-- a write at the end of a front
behind_front : (a b rest : List ℕ) (at : ℕ) → length a ≡ at → written_at at b (a ++ rest) ≡ (a ++ b) ++ drop (length b) rest
behind_front a b rest at is =
    let front : take at (a ++ rest) ≡ a = take_at a rest at is in
    let back : drop (at + length b) (a ++ rest) ≡ drop (length b) rest = sym (drop-drop (length b) at (a ++ rest)) ∙ ap (drop (length b)) (drop_at a rest at is) in
    ap (λ (l : List ℕ). l ++ (b ++ drop (at + length b) (a ++ rest))) front ∙ ap (λ (l : List ℕ). a ++ (b ++ l)) back ∙ sym (append_assoc a b (drop (length b) rest))

pub front_long : (k : ℕ) (xs : List ℕ) → k ≤ length xs → length (take k xs) ≡ k
front_long k xs le = omega (arith, length-take k xs, le)

-- the three writes of a stage
pub three_writes : (gate : ℕ) (len body xs : List ℕ) → gate < length xs → length len ≡ 4
    → written_at (gate + 5 + length body) (0 ∷ []) (written_at (gate + 5) body (written_at (gate + 1) len xs))
    ≡ take (gate + 1) xs ++ (len ++ (body ++ (0 ∷ drop (gate + 6 + length body) xs)))
three_writes gate len body xs lt four =
    let f = take (gate + 1) xs in
    let r = drop (gate + 1) xs in
    let long : length f ≡ gate + 1 = front_long (gate + 1) xs (omega (arith, lt)) in
    let one : written_at (gate + 1) len xs ≡ (f ++ len) ++ drop (length len) r =
    ap (written_at (gate + 1) len) (sym (take-append-drop (gate + 1) xs)) ∙ behind_front f len r (gate + 1) long in
    let two : written_at (gate + 5) body (written_at (gate + 1) len xs) ≡ ((f ++ len) ++ body) ++ drop (length body) (drop (length len) r) =
    ap (written_at (gate + 5) body) one ∙ behind_front (f ++ len) body (drop (length len) r) (gate + 5) (omega (arith, length-append f len, long, four)) in
    let three : written_at (gate + 5 + length body) (0 ∷ []) (written_at (gate + 5) body (written_at (gate + 1) len xs)) ≡ (((f ++ len) ++ body) ++ (0 ∷ [])) ++ drop 1 (drop (length body) (drop (length len) r)) =
    ap (written_at (gate + 5 + length body) (0 ∷ [])) two
    ∙ behind_front ((f ++ len) ++ body) (0 ∷ []) (drop (length body) (drop (length len) r)) (gate + 5 + length body) (omega (arith, length-append (f ++ len) body, length-append f len, long, four)) in
    let rest : drop 1 (drop (length body) (drop (length len) r)) ≡ drop (gate + 6 + length body) xs =
    ap (λ (l : List ℕ). drop 1 (drop (length body) l)) (drop-drop (length len) (gate + 1) xs)
    ∙ ap (drop 1) (drop-drop (length body) (gate + 1 + length len) xs)
    ∙ drop-drop 1 (gate + 1 + length len + length body) xs
    ∙ ap (λ (k : ℕ). drop k xs) (sum_is four) in
    three ∙ ap (λ (l : List ℕ). (((f ++ len) ++ body) ++ (0 ∷ [])) ++ l) rest
    ∙ append_assoc ((f ++ len) ++ body) (0 ∷ []) (drop (gate + 6 + length body) xs)
    ∙ append_assoc (f ++ len) body (0 ∷ drop (gate + 6 + length body) xs)
    ∙ append_assoc f len (body ++ (0 ∷ drop (gate + 6 + length body) xs))
  where
    sum_is : length len ≡ 4 → gate + 1 + length len + length body + 1 ≡ gate + 6 + length body
    sum_is is = omega (arith, is)

pub staged_is : (gate : ℕ) (len body xs : List ℕ) → gate < length xs → length len ≡ 4 → len ≡ to_be_bytes w32 (length body)
    → written_at (gate + 5 + length body) (0 ∷ []) (written_at (gate + 5) body (written_at (gate + 1) len xs)) ≡ staged gate body xs
unfolding staged
staged_is gate len body xs lt four is = three_writes gate len body xs lt four ∙ ap (λ (l : List ℕ). take (gate + 1) xs ++ (l ++ (body ++ (0 ∷ drop (gate + 6 + length body) xs)))) is

pub staged_front : (gate : ℕ) (body xs : List ℕ) → gate < length xs → HasFront (gate + 1) xs (staged gate body xs)
unfolding staged
staged_front gate body xs lt = take_at (take (gate + 1) xs) _ (gate + 1) (front_long (gate + 1) xs (omega (arith, lt)))

pub staged_long : (gate : ℕ) (body xs : List ℕ) → gate < length xs → gate < length (staged gate body xs)
unfolding staged
staged_long gate body xs lt =
    omega (arith, length-append (take (gate + 1) xs) (to_be_bytes w32 (length body) ++ (body ++ (0 ∷ drop (gate + 6 + length body) xs))), front_long (gate + 1) xs (omega (arith, lt)))

pub opened_is : (gate : ℕ) (xs : List ℕ) → written_at gate (1 ∷ []) xs ≡ opened gate xs
unfolding opened
opened_is gate xs = refl

pub opened_but : (gate : ℕ) (xs : List ℕ) → IsButFor gate xs (opened gate xs)
unfolding opened
opened_but gate xs = (1, refl)

-- ---- answers

pub either_way : {T E A B C : Type 0} (r : Result T E) → OnOk r A → OnErr r B → (A → C) → (B → C) → C
either_way (Ok x) a b f g = f a
either_way (Err e) a b f g = g b

pub some_of : (o : Option (List ℕ)) (P : List ℕ → Type 0) (xs : List ℕ) → IfSome o P → o ≡ Some xs → P xs
some_of o P xs h is = subst (λ (q : Option (List ℕ)). IfSome q P) is h

-- a write at or behind the front, in a run
pub writes_on : (m0 m m' k : ℕ) (xs : List ℕ) (o mid new : Option Past) (at n : ℕ) → BehindIf m0 m k xs o mid → m' ≡ one_more m → HasRoom m' → new ≡ option_map (wrote m' at n) mid → k ≤ at → BehindIf m0 m' k xs o new
writes_on m0 m m' k xs o mid new at n so_far is room was le = wrote_behind m0 m m' k xs o mid new at n so_far (stepped m m' is room) was le

pub held_staged : (gate : ℕ) (len body : List ℕ) (o end : Option (List ℕ)) → IfSome o (λ xs. gate < length xs) → length len ≡ 4 → len ≡ to_be_bytes w32 (length body)
    → end ≡ option_map (written_at (gate + 5 + length body) (0 ∷ [])) (option_map (written_at (gate + 5) body) (option_map (written_at (gate + 1) len) o)) → end ≡ option_map (staged gate body) o
held_staged gate len body None end there four is was = was
held_staged gate len body (Some xs) end there four is was = was ∙ ap Some (staged_is gate len body xs there four is)

pub held_opened : (gate : ℕ) (o end : Option (List ℕ)) → end ≡ option_map (written_at gate (1 ∷ [])) o → end ≡ option_map (opened gate) o
held_opened gate None end was = was
held_opened gate (Some xs) end was = was ∙ ap Some (opened_is gate xs)

pub there_staged : (gate : ℕ) (body : List ℕ) (o end : Option (List ℕ)) → IfSome o (λ xs. gate < length xs) → end ≡ option_map (staged gate body) o → IfSome end (λ xs. gate < length xs)
there_staged gate body None end there was = subst (λ (q : Option (List ℕ)). IfSome q (λ xs. gate < length xs)) (sym was) tt
there_staged gate body (Some xs) end there was = subst (λ (q : Option (List ℕ)). IfSome q (λ ys. gate < length ys)) (sym was) (staged_long gate body xs there)

pub front_of_append : (m0 m gate : ℕ) (body xs : List ℕ) (old new : Option Past) → LeavesIf m0 m (HasFront (gate + 1) xs) old new → LeavesIf m0 m (Appended gate body xs) old new
front_of_append m0 m gate body xs old new run = weakened_if m0 m (HasFront (gate + 1) xs) (Appended gate body xs) old new (λ c front. inl front) run

pub both_of_append : (m0 m m' gate : ℕ) (body xs : List ℕ) (old mid new : Option Past) → LeavesIf m0 m (HasFront (gate + 1) xs) old mid → LeavesIf m m' (IsButFor gate (staged gate body xs)) mid new → LeavesIf m0 m' (Appended gate body xs) old new
both_of_append m0 m m' gate body xs old mid new run later =
    joined_if m0 m m' (Appended gate body xs) old mid new (front_of_append m0 m gate body xs old mid run)
    (weakened_if m m' (IsButFor gate (staged gate body xs)) (Appended gate body xs) mid new (λ c but. inr but) later)

-- nothing was called
pub still : (m : ℕ) (Q : List ℕ → Type 0) (xs : List ℕ) (o : Option Past) → IsSettled m xs o → Q xs → LeavesIf m m Q o o
still m Q xs None is here = tt
still m Q xs (Some p) is here = start m Q p is.1 (λ c left. subst Q (sym (settled_kept xs c (subst (λ w. MayLeave w c) is.0 left))) here)

pub wider : (m0 m : ℕ) (Q Q' : List ℕ → Type 0) (old new : Option Past) → LeavesIf m0 m Q old new → ((c : List ℕ) → Q c → Q' c) → LeavesIf m0 m Q' old new
wider m0 m Q Q' old new run h = weakened_if m0 m Q Q' old new h run
