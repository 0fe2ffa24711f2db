-- What a disk holds is always something that a crash may leave.
use Rattle.std.proofs.Common.{◌≡◌, inl, inr, ℕ, zero, suc, ◌+◌, ◌≤◌, ◌<◌, Bool, true, false, List, [], ◌∷◌, ◌++◌, length, take, drop, refl, sym, ◌∙◌, ap, subst, arith, length-append, length-drop}
use Rattle.std.specs.Prelude.{slice_get, nat_le, nat_lt, ◌&&◌, ◌||◌}
use Rattle.std.proofs.lemmas.List.{length-take, drop-drop}
use Rattle.std.proofs.Math.Seq.{drop-nil}
use Rattle.std.proofs.lemmas.Bool.Decides.{nat_tests, leb_tells}
use Rattle.kp_io.specs.Crash.{Wear, Past, MayLeave, settled, worn, shortened, is_within}
use Rattle.kp_io.specs.Disks.{written_at, cut_to}
use Rattle.kp_io.specs.Calls.{past_from, past_of, noted_by, WroteOn, CutOn, SyncedOn}
use Rattle.kp_io.specs.declared.past_disk.Call.{Call}
use Rattle.kp_io.specs.declared.past_disk.Call.TheVariants.{Write, Cut, Sync}
use Rattle.kp_io.specs.Crash.{wrote, cut_down, synced}

pub past_push : (p : Past) (cs : List Call) (c : Call) → past_from p (cs ++ c ∷ []) ≡ noted_by c (past_from p cs)
unfolding past_from
past_push p [] c = refl
past_push p (d ∷ cs) c = past_push (noted_by d p) cs c

pub settled_left : (xs : List ℕ) → MayLeave (settled xs) xs
settled_left xs = record { no_shorter = omega arith; no_longer = omega arith; stays = λ i lt out. refl }

behind : (bs c : List ℕ) (i : ℕ) → length bs ≤ i → slice_get (bs ++ drop (length bs) c) i ≡ slice_get c i
behind [] c i le = refl
behind (b ∷ bs) c zero le = absurd (omega (arith, le))
behind (b ∷ bs) [] (suc i) le = ap (λ (l : List ℕ). slice_get (bs ++ l) i) (sym (drop-nil (length bs))) ∙ behind bs [] i (omega (arith, le)) ∙ refl
behind (b ∷ bs) (x ∷ c) (suc i) le = behind bs c i (omega (arith, le))

before : (at : ℕ) (c rest : List ℕ) (i : ℕ) → i < at → at ≤ length c → slice_get (take at c ++ rest) i ≡ slice_get c i
before zero c rest i lt le = absurd (omega arith)
before (suc at) [] rest i lt le = absurd (omega arith)
before (suc at) (x ∷ c) rest zero lt le = refl
before (suc at) (x ∷ c) rest (suc i) lt le = before at c rest i (omega (arith, lt)) (omega (arith, le))

-- what lies behind a write
behind_at : (at : ℕ) (bs c : List ℕ) (i : ℕ) → at ≤ length c → at + length bs ≤ i → slice_get (take at c ++ (bs ++ drop (length bs) (drop at c))) i ≡ slice_get c i
behind_at zero bs c i le past = behind bs c i (omega (arith, past))
behind_at (suc at) bs [] i le past = absurd (omega arith)
behind_at (suc at) bs (x ∷ c) zero le past = absurd (omega arith)
behind_at (suc at) bs (x ∷ c) (suc i) le past = behind_at at bs c i (omega (arith, le)) (omega (arith, past))

first_out : (p q : Bool) → (p || q) ≡ false → (p ≡ false) × (q ≡ false)
first_out true q e = absurd cc
first_out false q e = (refl, e)

-- where a place is in no written range, a write leaves it
kept_place : (at : ℕ) (bs c : List ℕ) (i : ℕ) → at ≤ length c → (nat_le at i && nat_lt i (at + length bs)) ≡ false → slice_get (written_at at bs c) i ≡ slice_get c i
kept_place at bs c i le out = elim (leb_tells at i) [
  | inl from ↦
      let past : at + length bs ≤ i = grind (arith, nat_tests) in
      ap (λ (l : List ℕ). slice_get (take at c ++ (bs ++ l)) i) (sym (drop-drop (length bs) at c)) ∙ behind_at at bs c i le past
  | inr less ↦ before at c (bs ++ drop (at + length bs) c) i less.1 le
]

pub worn_holds : (w : Wear) (at : ℕ) (bs c : List ℕ) → at ≤ length c → MayLeave w c → MayLeave (worn at (length bs) w) (written_at at bs c)
worn_holds w at bs c le m =
    let size = length-append (take at c) (bs ++ drop (at + length bs) c) in
    let size2 = length-append bs (drop (at + length bs) c) in
    let front = length-take at c in
    let back = length-drop (at + length bs) c in
    record {
      no_shorter = omega (arith, size, size2, front, back, m.no_shorter, le);
      no_longer = omega (arith, size, size2, front, back, m.no_longer, le);
      stays = λ i lt out. let o = first_out (nat_le at i && nat_lt i (at + length bs)) (is_within w.spans i) out in kept_place at bs c i le o.0 ∙ m.stays i lt o.1;
    }

cut_place : (n i : ℕ) (c : List ℕ) → i < n → slice_get (take n c) i ≡ slice_get c i
cut_place zero i c lt = absurd (omega arith)
cut_place (suc n) i [] lt = refl
cut_place (suc n) zero (x ∷ c) lt = refl
cut_place (suc n) (suc i) (x ∷ c) lt = cut_place n i c (omega (arith, lt))

pub shortened_holds : (w : Wear) (n : ℕ) (c : List ℕ) → MayLeave w c → MayLeave (shortened n w) (cut_to n c)
shortened_holds w n c m = record {
  no_shorter = omega (arith, length-take n c, m.no_shorter);
  no_longer = omega (arith, length-take n c, m.no_longer);
  stays = λ i lt out. cut_place n i c (omega (arith, lt)) ∙ m.stays i (omega (arith, lt)) out;
}

-- ---- the fields of a disk after a call

pub write_noted : (first : List ℕ) (number at : ℕ) (bs : List ℕ) (calls calls' : List Call) (items items' : List ℕ) → WroteOn number at bs calls calls' items items' → past_of first calls' ≡ wrote number at (length bs) (past_of first calls)
write_noted first number at bs calls calls' items items' w = ap (past_of first) w.noted ∙ past_push (record { now = settled first; notes = [] }) calls (Write number at (length bs))

pub write_holds : (first : List ℕ) (number at : ℕ) (bs : List ℕ) (calls calls' : List Call) (items items' : List ℕ) → WroteOn number at bs calls calls' items items' → at ≤ length items → MayLeave (past_of first calls).now items → MayLeave (past_of first calls').now items'
write_holds first number at bs calls calls' items items' w le m =
    subst (λ (p : Past). MayLeave p.now items') (sym (write_noted first number at bs calls calls' items items' w)) (subst (MayLeave (worn at (length bs) (past_of first calls).now)) (sym w.made) (worn_holds (past_of first calls).now at bs items le m))

pub cut_noted : (first : List ℕ) (number len : ℕ) (calls calls' : List Call) (items items' : List ℕ) → CutOn number len calls calls' items items' → past_of first calls' ≡ cut_down number len (past_of first calls)
cut_noted first number len calls calls' items items' w = ap (past_of first) w.noted ∙ past_push (record { now = settled first; notes = [] }) calls (Cut number len)

pub cut_holds : (first : List ℕ) (number len : ℕ) (calls calls' : List Call) (items items' : List ℕ) → CutOn number len calls calls' items items' → MayLeave (past_of first calls).now items → MayLeave (past_of first calls').now items'
cut_holds first number len calls calls' items items' w m =
    subst (λ (p : Past). MayLeave p.now items') (sym (cut_noted first number len calls calls' items items' w)) (subst (MayLeave (shortened len (past_of first calls).now)) (sym w.made) (shortened_holds (past_of first calls).now len items m))

pub sync_noted : (first : List ℕ) (number : ℕ) (calls calls' : List Call) (items : List ℕ) → SyncedOn number calls calls' items → past_of first calls' ≡ synced number items (past_of first calls)
sync_noted first number calls calls' items w = ap (past_of first) w.noted ∙ past_push (record { now = settled first; notes = [] }) calls (Sync number w.bytes) ∙ ap (λ (l : List ℕ). synced number l (past_of first calls)) w.are

pub sync_holds : (first : List ℕ) (number : ℕ) (calls calls' : List Call) (items : List ℕ) → SyncedOn number calls calls' items → MayLeave (past_of first calls').now items
sync_holds first number calls calls' items w = subst (λ (p : Past). MayLeave p.now items) (sym (sync_noted first number calls calls' items w)) (settled_left items)

-- a disk that was made just now
pub made_past : (first : List ℕ) (calls : List Call) → calls ≡ [] → past_of first calls ≡ record { now = settled first; notes = [] }
unfolding past_from
made_past first calls is = ap (past_of first) is

pub made_holds : (first bytes : List ℕ) (calls : List Call) → calls ≡ [] → first ≡ bytes → MayLeave (past_of first calls).now bytes
made_holds first bytes calls is same = subst (λ (p : Past). MayLeave p.now bytes) (sym (made_past first calls is)) (subst (λ (l : List ℕ). MayLeave (settled l) bytes) (sym same) (settled_left bytes))

pub made_view : (first bytes : List ℕ) (calls : List Call) → calls ≡ [] → first ≡ bytes → past_of first calls ≡ record { now = settled bytes; notes = [] }
made_view first bytes calls is same = made_past first calls is ∙ ap (λ (l : List ℕ). record { now = settled l; notes = [] }) same
