-- What a walk over numbers of paths has found.
use Rattle.std.proofs.Common.{◌≡◌, ◌<◌, ◌≤◌, ◌+◌, nat_eq, ℕ, length, take, arith, Bool, true, false, cond, ◌||◌, List, [], ◌∷◌, ◌++◌, Option, Some, None, refl, ap, sym, ◌∙◌}
use Rattle.std.specs.Prelude.{map, slice_index}
use Rattle.std.proofs.lemmas.Grind.{common_steps}
use Rattle.std.specs.Option.{option_map_or, option_and_then}
use Rattle.std.specs.Str.{bytes_eq}
use Rattle.std.specs.Ordering.{nat_cmp, eq_by_cmp}
use Rattle.std.specs.Cmp.{eq_by_cmp_equiv, unsigned_tied}
use Rattle.std.specs.Cmp.Lexicographic.{nat_list_cmp_total}
use Rattle.kp_model.specs.State.{path_cmp, is_child}
use Rattle.kp_cells.proofs.Named.{path_tied}
use Rattle.std.specs.FinMap.{FinMap, get, find, keys, entries, get-entries}
use Rattle.std.proofs.lemmas.List.Folds.{list_any-append}
use Rattle.std.proofs.lemmas.Bool.{eqb-true}
use Rattle.std.proofs.lemmas.Slice.Eq.{bytes_eq-Decides}
use Rattle.kp_model.specs.declared.node.Meta.{Meta}
use Rattle.kp_cells.specs.Listed.{Test, taken, takes, is_the, passing_path, one_passing, AreAmong}
use Rattle.kp_cells.specs.Traced.{is_in}
use Rattle.kp_cells.specs.Naming.{Naming, IsNaming}
use Rattle.kp_cells.proofs.Maps.{no}
use Rattle.kp_cells.proofs.Forgotten.{nothing_is}

-- one number more of a list, and all of them
pub one_taken : (ns : List ℕ) (i : ℕ) → i < length ns → take (i + 1) ns ≡ take i ns ++ slice_index ns i ∷ []
one_taken ns i h = grind (arith, common_steps)

pub all_taken : (ns : List ℕ) (i : ℕ) → length ns ≤ i → take i ns ≡ ns
all_taken ns i h = grind (arith, common_steps)

-- what is found by the numbers: only paths that are taken, and all of them that have such a number
pub record Walked (f : Test) (names : Naming) (m : FinMap nat_cmp Meta) (ns : List ℕ) (found : List ℕ → Bool) : Type 0 where
  pub only : (q : List ℕ) → found q ≡ true → takes f names m q ≡ true
  pub all : (q : List ℕ) (n : ℕ) → get names.numbers q ≡ Some n → is_in n ns ≡ true → takes f names m q ≡ true → found q ≡ true

either : {A : Type 0} (a b : Bool) → (a || b) ≡ true → (a ≡ true → A) → (b ≡ true → A) → A
either true b h f g = f refl
either false b h f g = g h

pub left_holds : (a b : Bool) → a ≡ true → (a || b) ≡ true
left_holds true b h = refl
left_holds false b h = no false refl h

pub right_holds : (a b : Bool) → b ≡ true → (a || b) ≡ true
right_holds true b h = refl
right_holds false b h = h

swap : (b c : Bool) → cond b true c ≡ (c || b)
swap true true = refl
swap true false = refl
swap false true = refl
swap false false = refl

-- a path more in a set
pub added : (p q : List ℕ) (c : Bool) → cond (eq_by_cmp path_cmp p q) true c ≡ (c || bytes_eq q p)
added p q c = ap (λ b. cond b true c) ((eq_by_cmp_equiv nat_list_cmp_total).symm p q ∙ path_tied q p) ∙ swap (bytes_eq q p) c

module _ (f : Test) (names : Naming) (m : FinMap nat_cmp Meta) where
  pub none_walked : (found : List ℕ → Bool) → ((q : List ℕ) → found q ≡ false) → Walked f names m [] found
  none_walked found h = record { only = λ q e. no (found q) (h q) e; all = λ q n e i t. no false refl i }

  module _ (h : IsNaming names) where
    the_takes : (q : List ℕ) (i : ℕ) → is_the q (taken f names m i) ≡ true → takes f names m q ≡ true
    the_takes q i = go (get names.texts i) refl (get m i) refl where
      pass : (p : List ℕ) (v : Meta) → get names.texts i ≡ Some p → get m i ≡ Some v → (b : Bool) → f p v ≡ b → is_the q (cond b (Some p) None) ≡ true → takes f names m q ≡ true
      pass p v e g false s t = no false refl t
      pass p v e g true s t =
          let same : q ≡ p = (bytes_eq-Decides q p).0 t in
          ap (takes f names m) same
          ∙ ap (λ r. option_map_or (f p) (option_and_then (get m) r) false) (h.back p i e)
          ∙ ap (λ r. option_map_or (f p) r false) g
          ∙ s

      go : (t : Option (List ℕ)) → get names.texts i ≡ t → (r : Option Meta) → get m i ≡ r → is_the q (passing_path f r t) ≡ true → takes f names m q ≡ true
      go None e r g t = no false refl t
      go (Some p) e None g t = no false refl t
      go (Some p) e (Some v) g t = pass p v e g (f p v) refl t

    takes_the : (q : List ℕ) (i : ℕ) → get names.numbers q ≡ Some i → takes f names m q ≡ true → is_the q (taken f names m i) ≡ true
    takes_the q i e t =
        ap (λ r. is_the q (passing_path f (get m i) r)) (h.there q i e)
        ∙ got (get m i) (sym (ap (λ r. option_map_or (f q) (option_and_then (get m) r) false) e) ∙ t) where
          got : (r : Option Meta) → option_map_or (f q) r false ≡ true → is_the q (one_passing f q r) ≡ true
          got None s = no false refl s
          got (Some v) s = ap (λ b. is_the q (cond b (Some q) None)) s ∙ (bytes_eq-Decides q q).1 refl

    pub one_walked : (ns : List ℕ) (i : ℕ) (found more : List ℕ → Bool) → Walked f names m ns found → ((q : List ℕ) → more q ≡ (found q || is_the q (taken f names m i))) → Walked f names m (ns ++ i ∷ []) more
    one_walked ns i found more w is = record {
      only = λ q t. either (found q) (is_the q (taken f names m i)) (sym (is q) ∙ t) (w.only q) (the_takes q i);
      all = λ q n e among t. either (is_in n ns) (nat_eq n i || false) (sym (list_any-append (nat_eq n) ns (i ∷ [])) ∙ among)
          (λ before. is q ∙ left_holds (found q) (is_the q (taken f names m i)) (w.all q n e before t))
          (λ here. is q ∙ right_holds (found q) (is_the q (taken f names m i)) (takes_the q i (e ∙ ap Some (eqb-true n i (either (nat_eq n i) false here (λ same. same) (λ none. no false refl none)))) t));
    }

  -- the number of each path that is taken is among those
  pub all_walked : (ns : List ℕ) (found : List ℕ → Bool) → AreAmong f names m ns → Walked f names m ns found → (q : List ℕ) → found q ≡ takes f names m q
  all_walked ns found among w q = cases (get names.numbers q) refl (takes f names m q) refl where
    cases : (r : Option ℕ) → get names.numbers q ≡ r → (b : Bool) → takes f names m q ≡ b → found q ≡ b
    cases r e false t = not_found (found q) refl where
      not_found : (c : Bool) → found q ≡ c → c ≡ false
      not_found false s = refl
      not_found true s = no (takes f names m q) t (w.only q s)
    cases None e true t = no false refl (sym (ap (λ r. option_map_or (f q) (option_and_then (get m) r) false) e) ∙ t)
    cases (Some n) e true t = w.all q n e (among q n e t) t

-- what the map has is at one of its keys
pub among_keys : {X : Type 0} (m : FinMap nat_cmp X) (n : ℕ) (x : X) → get m n ≡ Some x → is_in n (keys m) ≡ true
among_keys {X = X} m n x e = in_entries (entries m) (sym (get-entries m n) ∙ e) where
  here : (k : ℕ) (v : X) (es : List (ℕ × X)) (b : Bool) → cond b (Some v) (find nat_cmp n es) ≡ Some x → (find nat_cmp n es ≡ Some x → is_in n (map (λ e. e.0) es) ≡ true) → (b || is_in n (map (λ e. e.0) es)) ≡ true
  here k v es true f rest = refl
  here k v es false f rest = rest f

  in_entries : (es : List (ℕ × X)) → find nat_cmp n es ≡ Some x → is_in n (map (λ e. e.0) es) ≡ true
  in_entries [] f = absurd (nothing_is f)
  in_entries (e ∷ es) f =
      ap (λ b. b || is_in n (map (λ e. e.0) es)) (sym (unsigned_tied n e.0))
      ∙ here e.0 e.1 es (eq_by_cmp nat_cmp n e.0) f (in_entries es)

module _ (names : Naming) (h : IsNaming names) (m : FinMap nat_cmp Meta) where
  -- a path that is taken is in the map
  pub taken_there : (f : Test) (q : List ℕ) (n : ℕ) → get names.numbers q ≡ Some n → takes f names m q ≡ true → option_map_or (f q) (get m n) false ≡ true
  taken_there f q n e t = sym (ap (λ r. option_map_or (f q) (option_and_then (get m) r) false) e) ∙ t

  -- the numbers of the children of a path
  pub children_among : (path : List ℕ) (ns : List ℕ) → ((n : ℕ) → is_in n ns ≡ option_map_or (is_child path) (get names.texts n) false) → AreAmong (λ q _. is_child path q) names m ns
  children_among path ns is q n e t = is n ∙ ap (λ r. option_map_or (is_child path) r false) (h.there q n e) ∙ child (get m n) (taken_there (λ q _. is_child path q) q n e t) where
    child : (r : Option Meta) → option_map_or (λ _. is_child path q) r false ≡ true → is_child path q ≡ true
    child None f = no false refl f
    child (Some v) f = f

  -- all keys of the map
  pub keys_among : (f : Test) → AreAmong f names m (keys m)
  keys_among f q n e t = here (get m n) refl (taken_there f q n e t) where
    here : (r : Option Meta) → get m n ≡ r → option_map_or (f q) r false ≡ true → is_in n (keys m) ≡ true
    here None g s = no false refl s
    here (Some v) g s = among_keys m n v g
