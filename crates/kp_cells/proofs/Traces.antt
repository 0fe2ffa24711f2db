-- What a trace has of a part, before and after each change, and which numbers go out of use with a layer.
use Rattle.std.proofs.Common.{◌≡◌, ℕ, zero, suc, ◌-◌, Bool, true, false, nat_eq, ◌||◌, List, [], ◌∷◌, ◌++◌, take, drop, length, Option, Some, None, refl, ap, sym, ◌∙◌, subst, arith}
use Rattle.std.specs.Prelude.{unwrap_or}
use Rattle.std.specs.Ordering.{nat_cmp, eq_by_cmp}
use Rattle.std.specs.Cmp.{unsigned_tied, nat_eq_equiv}
use Rattle.kp_layers.specs.Layering.{Layering, staged_of, first_layer, begun, written, undone, sealed, abandoned, front_committed, back_dropped}
use Rattle.kp_layers.specs.Used.{is_written, is_used, last_layer}
use Rattle.kp_layers.proofs.Used.{any-append, used_begun, used_written, used_sealed, used_undone, used_abandoned, used_front_committed, used_back_dropped}
use Rattle.std.specs.Cmp.{nat_cmp_total}
use Rattle.kp_model.specs.declared.node.Acl.{Acl}
use Rattle.kp_model.specs.declared.node.Meta.{Meta}
use Rattle.kp_cells.specs.Traced.{Trace, latest_in, is_in, HasKeys, HaveKeys, IsTraced, uses}
use Rattle.kp_cells.proofs.Named.{no_number}
use Rattle.kp_cells.proofs.Released.{left_true, right_true, one_of}

-- a number goes out of use only if it is among those
abbrev pub Loses : {V : Type 0} → Layering nat_cmp V → Layering nat_cmp V → List ℕ → Type 0
Loses l l' ns = (n : ℕ) → is_used l n ≡ true → is_used l' n ≡ false → is_in n ns ≡ true

-- a number that is in use stays so
abbrev pub Keeps : {V : Type 0} → Layering nat_cmp V → Layering nat_cmp V → Type 0
Keeps l l' = (n : ℕ) → is_used l n ≡ true → is_used l' n ≡ true

went : (u u' w : Bool) → u ≡ (u' || w) → u ≡ true → u' ≡ false → w ≡ true
went u true w e h k = absurd (no_number true refl k)
went u false w e h k = sym e ∙ h

module _ {V : Type 0} where
  keys_of_none : (o : Option (List (ℕ × Option V))) (ns : List ℕ) → o ≡ None → HasKeys ns (unwrap_or o [])
  keys_of_none None ns e n h = absurd (no_number false h refl)
  keys_of_none (Some ws) ns e n h = (cc)

  taken_writes : (k : ℕ) (ws : List (ℕ × Option V)) (n : ℕ) → is_written nat_cmp (take k ws) n ≡ true → is_written nat_cmp ws n ≡ true
  taken_writes zero ws n h = absurd (no_number false h refl)
  taken_writes (suc k) [] n h = h
  taken_writes (suc k) (w ∷ ws) n h = one_of (eq_by_cmp nat_cmp n w.0) (is_written nat_cmp (take k ws) n)
      (λ e. left_true (eq_by_cmp nat_cmp n w.0) (is_written nat_cmp ws n) e)
      (λ e. right_true (eq_by_cmp nat_cmp n w.0) (is_written nat_cmp ws n) (taken_writes k ws n e))
      h

  keys_first : (trace : List (List ℕ)) (layers : List (List (ℕ × Option V))) → HaveKeys trace layers → HasKeys (first_layer trace) (first_layer layers)
  keys_first [] [] h n e = e
  keys_first [] (ws ∷ layers) h n e = absurd h
  keys_first (ns ∷ trace) [] h n e = absurd h
  keys_first (ns ∷ trace) (ws ∷ layers) h n e = h.0 n e

  keys_rest : (trace : List (List ℕ)) (layers : List (List (ℕ × Option V))) → HaveKeys trace layers → HaveKeys (drop 1 trace) (drop 1 layers)
  keys_rest [] [] h = h
  keys_rest [] (ws ∷ layers) h = absurd h
  keys_rest (ns ∷ trace) [] h = absurd h
  keys_rest (ns ∷ trace) (ws ∷ layers) h = h.1

  keys_last : (trace : List (List ℕ)) (layers : List (List (ℕ × Option V))) → HaveKeys trace layers → HasKeys (last_layer trace) (last_layer layers)
  keys_last [] [] h n e = e
  keys_last [] (ws ∷ layers) h n e = absurd h
  keys_last (ns ∷ trace) [] h n e = absurd h
  keys_last (ns ∷ []) (ws ∷ []) h n e = h.0 n e
  keys_last (ns ∷ []) (ws ∷ (us ∷ layers)) h n e = absurd h.1
  keys_last (ns ∷ (ms ∷ trace)) (ws ∷ []) h n e = absurd h.1
  keys_last (ns ∷ (ms ∷ trace)) (ws ∷ (us ∷ layers)) h n e = keys_last (ms ∷ trace) (us ∷ layers) h.1 n e

  keys_front : (trace : List (List ℕ)) (layers : List (List (ℕ × Option V))) → HaveKeys trace layers → HaveKeys (take (length trace - 1) trace) (take (length layers - 1) layers)
  keys_front [] [] h = h
  keys_front [] (ws ∷ layers) h = absurd h
  keys_front (ns ∷ trace) [] h = absurd h
  keys_front (ns ∷ []) (ws ∷ []) h = tt
  keys_front (ns ∷ []) (ws ∷ (us ∷ layers)) h = absurd h.1
  keys_front (ns ∷ (ms ∷ trace)) (ws ∷ []) h = absurd h.1
  keys_front (ns ∷ (ms ∷ trace)) (ws ∷ (us ∷ layers)) h =
      let e : suc (length (ms ∷ trace) - 1) ≡ length (ns ∷ (ms ∷ trace)) - 1 = omega arith in
      let f : suc (length (us ∷ layers) - 1) ≡ length (ws ∷ (us ∷ layers)) - 1 = omega arith in
      let rest : HaveKeys (take (length (ms ∷ trace) - 1) (ms ∷ trace)) (take (length (us ∷ layers) - 1) (us ∷ layers)) = keys_front (ms ∷ trace) (us ∷ layers) h.1 in
      let all : HaveKeys (take (suc (length (ms ∷ trace) - 1)) (ns ∷ (ms ∷ trace))) (take (suc (length (us ∷ layers) - 1)) (ws ∷ (us ∷ layers))) = (h.0, rest) in
      subst (λ i. HaveKeys (take i (ns ∷ (ms ∷ trace))) (take (length (ws ∷ (us ∷ layers)) - 1) (ws ∷ (us ∷ layers)))) e
      (subst (λ i. HaveKeys (take (suc (length (ms ∷ trace) - 1)) (ns ∷ (ms ∷ trace))) (take i (ws ∷ (us ∷ layers)))) f all)

  keys_push : (trace : List (List ℕ)) (layers : List (List (ℕ × Option V))) (ns : List ℕ) (ws : List (ℕ × Option V)) → HaveKeys trace layers → HasKeys ns ws → HaveKeys (trace ++ ns ∷ []) (layers ++ ws ∷ [])
  keys_push [] [] ns ws h k = (k, tt)
  keys_push [] (us ∷ layers) ns ws h k = absurd h
  keys_push (ms ∷ trace) [] ns ws h k = absurd h
  keys_push (ms ∷ trace) (us ∷ layers) ns ws h k = (h.0, keys_push trace layers ns ws h.1 k)

  -- what the trace has of the part after each change
  pub traced_same : (t t' : Trace) (l : Layering nat_cmp V) → t'.layers ≡ t.layers → t'.staged ≡ t.staged → IsTraced t l → IsTraced t' l
  traced_same t t' l layers staged h = record {
    layers = subst (λ x. HaveKeys x l.layers) (sym layers) h.layers;
    staged = subst (λ x. HasKeys (unwrap_or x []) (staged_of l)) (sym staged) h.staged;
  }

  pub traced_begun : (t t' : Trace) (l l' : Layering nat_cmp V) → l' ≡ begun l → t'.layers ≡ t.layers → IsTraced t l → IsTraced t' l'
  traced_begun t t' l l' e layers h = subst (IsTraced t') (sym e) (record {
    layers = subst (λ x. HaveKeys x l.layers) (sym layers) h.layers;
    staged = λ n w. absurd (no_number false w refl);
  })

  pub traced_undone : (t : Trace) (l l' : Layering nat_cmp V) (mark : ℕ) → l' ≡ undone l mark → IsTraced t l → IsTraced t l'
  traced_undone t l l' mark e h = subst (IsTraced t) (sym e) (record {
    layers = h.layers;
    staged = λ n w. h.staged n (taken_writes mark (staged_of l) n w);
  })

  pub traced_sealed : (t t' : Trace) (l l' : Layering nat_cmp V) → l' ≡ sealed l → t'.layers ≡ t.layers ++ latest_in t ∷ [] → IsTraced t l → IsTraced t' l'
  traced_sealed t t' l l' e layers h = subst (IsTraced t') (sym e) (record {
    layers = subst (λ x. HaveKeys x (l.layers ++ staged_of l ∷ [])) (sym layers) (keys_push t.layers l.layers (latest_in t) (staged_of l) h.layers h.staged);
    staged = λ n w. absurd (no_number false w refl);
  })

  pub traced_abandoned : (t t' : Trace) (l l' : Layering nat_cmp V) → l' ≡ abandoned l → t'.layers ≡ t.layers → IsTraced t l → IsTraced t' l'
  traced_abandoned t t' l l' e layers h = subst (IsTraced t') (sym e) (record {
    layers = subst (λ x. HaveKeys x l.layers) (sym layers) h.layers;
    staged = λ n w. absurd (no_number false w refl);
  })

  pub traced_committed : (t t' : Trace) (l l' : Layering nat_cmp V) → l' ≡ front_committed l → t'.layers ≡ drop 1 t.layers → t'.staged ≡ t.staged → IsTraced t l → IsTraced t' l'
  traced_committed t t' l l' e layers staged h = subst (IsTraced t') (sym e) (record {
    layers = subst (λ x. HaveKeys x (drop 1 l.layers)) (sym layers) (keys_rest t.layers l.layers h.layers);
    staged = subst (λ x. HasKeys (unwrap_or x []) (staged_of l)) (sym staged) h.staged;
  })

  pub traced_dropped : (t t' : Trace) (l l' : Layering nat_cmp V) → l' ≡ back_dropped l → t'.layers ≡ take (length t.layers - 1) t.layers → t'.staged ≡ t.staged → IsTraced t l → IsTraced t' l'
  traced_dropped t t' l l' e layers staged h = subst (IsTraced t') (sym e) (record {
    layers = subst (λ x. HaveKeys x (take (length l.layers - 1) l.layers)) (sym layers) (keys_front t.layers l.layers h.layers);
    staged = subst (λ x. HasKeys (unwrap_or x []) (staged_of l)) (sym staged) h.staged;
  })

  -- a number more in the open layer of the trace
  module _ (t t' : Trace) (number : ℕ) (layers : t'.layers ≡ t.layers) (numbers : (n : ℕ) → is_in n (latest_in t') ≡ (is_in n (latest_in t) || nat_eq n number)) where
    pub traced_more : (l : Layering nat_cmp V) → IsTraced t l → IsTraced t' l
    traced_more l h = record {
      layers = subst (λ x. HaveKeys x l.layers) (sym layers) h.layers;
      staged = λ n w. numbers n ∙ left_true (is_in n (latest_in t)) (nat_eq n number) (h.staged n w);
    }

    pub traced_written : (l l' : Layering nat_cmp V) (value : Option V) → l' ≡ written l number value → IsTraced t l → IsTraced t' l'
    traced_written l l' value e h = subst (IsTraced t') (sym e) (record {
      layers = subst (λ x. HaveKeys x l.layers) (sym layers) h.layers;
      staged = λ n w. numbers n ∙ one_of (is_written nat_cmp (staged_of l) n) (eq_by_cmp nat_cmp n number || false)
          (λ s. left_true (is_in n (latest_in t)) (nat_eq n number) (h.staged n s))
          (λ s. right_true (is_in n (latest_in t)) (nat_eq n number) (one_of (eq_by_cmp nat_cmp n number) false (λ u. sym (unsigned_tied n number) ∙ u) (λ u. absurd (no_number false u refl)) s))
          (sym (any-append (λ w. eq_by_cmp nat_cmp n w.0) (staged_of l) ((number, value) ∷ [])) ∙ w);
    })

  -- the numbers that go out of use with a layer are those that the trace has of it
  pub loses_undone : (t : Trace) (l l' : Layering nat_cmp V) (mark : ℕ) (ns : List ℕ) → ns ≡ latest_in t → l' ≡ undone l mark → IsTraced t l → Loses l l' ns
  loses_undone t l l' mark ns e f h n u v =
      ap (is_in n) e
      ∙ h.staged n (dropped_writes mark (staged_of l) (went (is_used l n) (is_used (undone l mark) n) (is_written nat_cmp (drop mark (staged_of l)) n) (used_undone l mark n) u (ap (λ x. is_used x n) (sym f) ∙ v)))
    where
      dropped_writes : (k : ℕ) (ws : List (ℕ × Option V)) → is_written nat_cmp (drop k ws) n ≡ true → is_written nat_cmp ws n ≡ true
      dropped_writes zero ws w = w
      dropped_writes (suc k) [] w = w
      dropped_writes (suc k) (x ∷ ws) w = right_true (eq_by_cmp nat_cmp n x.0) (is_written nat_cmp ws n) (dropped_writes k ws w)

  pub loses_abandoned : (t : Trace) (l l' : Layering nat_cmp V) (ns : List ℕ) → ns ≡ latest_in t → l' ≡ abandoned l → IsTraced t l → Loses l l' ns
  loses_abandoned t l l' ns e f h n u v =
      ap (is_in n) e
      ∙ h.staged n (went (is_used l n) (is_used (abandoned l) n) (is_written nat_cmp (staged_of l) n) (used_abandoned l n) u (ap (λ x. is_used x n) (sym f) ∙ v))

  pub loses_committed : (t : Trace) (l l' : Layering nat_cmp V) (ns : List ℕ) → ns ≡ first_layer t.layers → l' ≡ front_committed l → IsTraced t l → Loses l l' ns
  loses_committed t l l' ns e f h n u v =
      ap (is_in n) e
      ∙ keys_first t.layers l.layers h.layers n (went (is_used l n) (is_used (front_committed l) n) (is_written nat_cmp (first_layer l.layers) n) (used_front_committed nat_cmp_total l n) u (ap (λ x. is_used x n) (sym f) ∙ v))

  pub loses_dropped : (t : Trace) (l l' : Layering nat_cmp V) (ns : List ℕ) → ns ≡ last_layer t.layers → l' ≡ back_dropped l → IsTraced t l → Loses l l' ns
  loses_dropped t l l' ns e f h n u v =
      ap (is_in n) e
      ∙ keys_last t.layers l.layers h.layers n (went (is_used l n) (is_used (back_dropped l) n) (is_written nat_cmp (last_layer l.layers) n) (used_back_dropped l n) u (ap (λ x. is_used x n) (sym f) ∙ v))

  -- where no key goes out of use
  pub keeps_begun : (l l' : Layering nat_cmp V) → l.staged ≡ None → l' ≡ begun l → Keeps l l'
  keeps_begun l l' none e n u = ap (λ x. is_used x n) e ∙ used_begun l n none ∙ u

  pub keeps_sealed : (l l' : Layering nat_cmp V) → l' ≡ sealed l → Keeps l l'
  keeps_sealed l l' e n u = ap (λ x. is_used x n) e ∙ used_sealed l n ∙ u

  pub keeps_written : (l l' : Layering nat_cmp V) (number : ℕ) (value : Option V) → l' ≡ written l number value → Keeps l l'
  keeps_written l l' number value e n u = ap (λ x. is_used x n) e ∙ used_written l number value n ∙ left_true (is_used l n) (eq_by_cmp nat_cmp n number) u

  -- the key of a write is in use
  pub writes_use : (l l' : Layering nat_cmp V) (number : ℕ) (value : Option V) → l' ≡ written l number value → is_used l' number ≡ true
  writes_use l l' number value e = ap (λ x. is_used x number) e ∙ used_written l number value number ∙ right_true (is_used l number) (eq_by_cmp nat_cmp number number) (unsigned_tied number number ∙ nat_eq_equiv.refl number)

-- one of five
lost : {X : Type 0} (a b a' b' : Bool) → (a ≡ true → a' ≡ false → X) → (b ≡ true → b' ≡ false → X) → (a || b) ≡ true → (a' || b') ≡ false → X
lost true b true b' f g h k = absurd (no_number true refl k)
lost true b false b' f g h k = f refl refl
lost false b true b' f g h k = absurd (no_number true refl k)
lost false b false b' f g h k = g h k

module _ (metas metas' : Layering nat_cmp Meta) (contents contents' : Layering nat_cmp (List ℕ)) (acls acls' : Layering nat_cmp (List Acl)) (children children' : Layering nat_cmp (Unit {0})) (owners owners' : Layering nat_cmp ℕ) where
  pub all_lost : (ns : List ℕ) → Loses metas metas' ns → Loses contents contents' ns → Loses acls acls' ns → Loses children children' ns → Loses owners owners' ns
      → (n : ℕ) → uses metas contents acls children owners n ≡ true → uses metas' contents' acls' children' owners' n ≡ false → is_in n ns ≡ true
  all_lost ns m c a k o n =
      lost (is_used metas n) _ (is_used metas' n) _ (m n)
      (lost (is_used contents n) _ (is_used contents' n) _ (c n)
      (lost (is_used acls n) _ (is_used acls' n) _ (a n)
      (lost (is_used children n) _ (is_used children' n) _ (k n) (o n))))

  either_kept : (a b a' b' : Bool) → (a ≡ true → a' ≡ true) → (b ≡ true → b' ≡ true) → (a || b) ≡ true → (a' || b') ≡ true
  either_kept a b a' b' f g = one_of a b (λ h. left_true a' b' (f h)) (λ h. right_true a' b' (g h))

  pub all_kept : Keeps metas metas' → Keeps contents contents' → Keeps acls acls' → Keeps children children' → Keeps owners owners'
      → (n : ℕ) → uses metas contents acls children owners n ≡ true → uses metas' contents' acls' children' owners' n ≡ true
  all_kept m c a k o n =
      either_kept (is_used metas n) _ (is_used metas' n) _ (m n)
      (either_kept (is_used contents n) _ (is_used contents' n) _ (c n)
      (either_kept (is_used acls n) _ (is_used acls' n) _ (a n)
      (either_kept (is_used children n) _ (is_used children' n) _ (k n) (o n))))

pub keeps_same : {V : Type 0} (l l' : Layering nat_cmp V) → l' ≡ l → Keeps l l'
keeps_same l l' e n u = ap (λ x. is_used x n) e ∙ u
