-- A path is judged by the lengths kept of those before it.
use Rattle.std.proofs.Common.{◌≡◌, ℕ, Bool, true, false, List, [], ◌∷◌, length, take, refl, sym, ap, subst, ◌∙◌, arith}
use Rattle.std.specs.Prelude.{◌&&◌, ◌==◌}
use Rattle.std.specs.List.{list_all}
use Rattle.std.specs.Ordering.{is_lt}
use Rattle.std.specs.Str.{bytes_eq}
use Rattle.std.proofs.lemmas.Bool.{eqb-true}
use Rattle.std.proofs.lemmas.Slice.Eq.{bytes_eq-Decides}
use Rattle.kp_model.specs.Path.{root, parent, is_well_formed}
use Rattle.kp_model.specs.State.{path_cmp}
use Rattle.kp_snapshot.specs.Rules.{Placed, is_open, may_be_path}
use Rattle.kp_snapshot.specs.Ups.{AreUps, NoneBehind}
use Rattle.kp_snapshot.specs.Knowing.{EndsAt, Stand}

pub came : (before : List Placed) (last path a b ups ups2 : List ℕ) → a ≡ last → b ≡ path → (AreUps (is_open before) a ups → NoneBehind (is_open before) a → AreUps (is_open before) b ups2) → EndsAt before last → AreUps (is_open before) last ups → AreUps (is_open before) path ups2
came before last path a b ups ups2 ea eb up end lengths =
    let old = subst (λ (z : List ℕ). AreUps (is_open before) z ups) (sym ea) lengths in
    let none = subst (λ (z : List ℕ). NoneBehind (is_open before) z) (sym ea) end.none in
    subst (λ (z : List ℕ). AreUps (is_open before) z ups2) eb (up old none)

pub come : (before : List Placed) (last path a b ups ups2 xs : List ℕ) (r : Bool) (n : ℕ) → a ≡ last → b ≡ path → xs ≡ ups2 → true ≡ is_lt (path_cmp a b) → (AreUps (is_open before) a ups → NoneBehind (is_open before) a → AreUps (is_open before) b ups2) → (AreUps (is_open before) path xs → r ≡ is_open before (take n path)) → take n path ≡ parent path → EndsAt before last → AreUps (is_open before) last ups → r ≡ (is_lt (path_cmp last path) && is_open before (parent path))
come before last path a b ups ups2 xs r n ea eb ex less up has par end lengths =
    let new = subst (λ (z : List ℕ). AreUps (is_open before) path z) (sym ex) (came before last path a b ups ups2 ea eb up end lengths) in
    let lt : true ≡ is_lt (path_cmp last path) = subst (λ (z : List ℕ). true ≡ is_lt (path_cmp last z)) eb (subst (λ (z : List ℕ). true ≡ is_lt (path_cmp z b)) ea less) in
    has new ∙ ap (is_open before) par ∙ ap (λ (t : Bool). t && is_open before (parent path)) lt

pub judged : (before : List Placed) (last path ups : List ℕ) (r : Bool) → false ≡ (length last == 0) → is_well_formed path ≡ true → (EndsAt before last → AreUps (is_open before) last ups → r ≡ (is_lt (path_cmp last path) && is_open before (parent path))) → Stand before last ups → r ≡ may_be_path before path
judged [] [] path ups r some formed may st = absurd cc
judged [] (b ∷ bs) path ups r some formed may st = absurd (let bad : false ≡ true = st.0 in cc)
judged (x ∷ xs) last path ups r some formed may st =
    may st.0 st.1
    ∙ ap (λ (t : Bool). t && is_open (x ∷ xs) (parent path)) (sym (st.0.order path))
    ∙ ap (λ (t : Bool). t && (list_all (λ (n : Placed). is_lt (path_cmp n.0 path)) (x ∷ xs) && is_open (x ∷ xs) (parent path))) (sym formed)

-- the lengths of a path behind some
pub followed : (before : List Placed) (last path ups ups2 : List ℕ) → false ≡ (length last == 0) → (EndsAt before last → AreUps (is_open before) last ups → AreUps (is_open before) path ups2) → Stand before last ups → AreUps (is_open before) path ups2
followed [] [] path ups ups2 some may st = absurd cc
followed [] (b ∷ bs) path ups ups2 some may st = absurd (let bad : false ≡ true = st.0 in cc)
followed (x ∷ xs) last path ups ups2 some may st = may st.0 st.1

-- before the first node no lengths are kept
no_ups : (path last ups : List ℕ) → AreUps (is_open []) last ups → AreUps (is_open []) path ups
no_ups path last ups is = record {
  rising = is.rising;
  there = λ l le e. absurd cc;
  only = λ i lt. absurd (let bad = (is.only i lt).1 in cc);
}

pub first_ups : (before : List Placed) (last path ups : List ℕ) → true ≡ (length last == 0) → Stand before last ups → AreUps (is_open before) path ups
first_ups [] last path ups none st = no_ups path last ups st.1
first_ups (x ∷ xs) [] path ups none st = absurd (let bad : true ≡ false = st.0.some in cc)
first_ups (x ∷ xs) (b ∷ bs) path ups none st = absurd (omega (arith, eqb-true (length (b ∷ bs)) 0 (sym none)))

pub first_judged : (before : List Placed) (last path ups : List ℕ) → true ≡ (length last == 0) → Stand before last ups → bytes_eq path root ≡ may_be_path before path
first_judged [] last path ups none st = refl
first_judged (x ∷ xs) [] path ups none st = absurd (let bad : true ≡ false = st.0.some in cc)
first_judged (x ∷ xs) (b ∷ bs) path ups none st = absurd (omega (arith, eqb-true (length (b ∷ bs)) 0 (sym none)))

pub none_stand : (ups : List ℕ) → ups ≡ [] → Stand [] [] ups
none_stand ups e = (refl, subst (AreUps (is_open []) []) (sym e) (record { rising = λ i j lt lu. absurd (omega (arith, lu)); there = λ l le e. absurd cc; only = λ i lt. absurd (omega (arith, lt)) }))

pub not_judged : (before : List Placed) (last path ups : List ℕ) → false ≡ (length last == 0) → is_well_formed path ≡ false → Stand before last ups → false ≡ may_be_path before path
not_judged [] [] path ups some formed st = absurd cc
not_judged [] (b ∷ bs) path ups some formed st = absurd (let bad : false ≡ true = st.0 in cc)
not_judged (x ∷ xs) last path ups some formed st = ap (λ (t : Bool). t && (list_all (λ (n : Placed). is_lt (path_cmp n.0 path)) (x ∷ xs) && is_open (x ∷ xs) (parent path))) (sym formed)

-- the root is well formed
pub root_formed : (path : List ℕ) → bytes_eq path root ≡ true → is_well_formed path ≡ true
unfolding is_well_formed
root_formed path e = ap is_well_formed ((bytes_eq-Decides path root).0 e)
