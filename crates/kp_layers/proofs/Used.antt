-- Which keys are in use, before and after each change of the layers.
use Rattle.std.proofs.Common.{◌≡◌, ℕ, zero, suc, ◌-◌, Bool, true, false, cond, nat_eq, List, [], ◌∷◌, ◌++◌, length, take, drop, Option, Some, None, is_some, refl, ap, sym, ◌∙◌, arith}
use Rattle.std.specs.Prelude.{◌||◌, unwrap_or, sum}
use Rattle.std.specs.List.{list_any}
use Rattle.std.specs.declared.cmp.Ordering.{Ordering}
use Rattle.std.specs.Ordering.{eq_by_cmp, nat_cmp}
use Rattle.std.specs.Cmp.{IsTotalOrder, unsigned_tied}
use Rattle.std.specs.Map.{lookup}
use Rattle.std.specs.FinMap as map
use Rattle.std.specs.FinMap.{FinMap, get, get-empty, get-insert, get-remove}
use Rattle.std.proofs.lemmas.Bool.{lt-ltb, le-ltb}
use Rattle.std.proofs.Math.Bool.{or-true}
use Rattle.std.proofs.Math.Dec.{ltb}
use Rattle.std.proofs.Math.Seq.{take-add}
use Rattle.std.proofs.lemmas.List.{take-append-drop}
use Rattle.kp_layers.specs.declared.cells.Cell.{Cell}
use Rattle.kp_layers.specs.declared.history.Write.{Write}
use Rattle.kp_layers.specs.Overlay.{put, overlay}
use Rattle.kp_layers.specs.Chains.{place, place_before, shown, base_of, committed_in, newest_in, holds, HasChains}
use Rattle.kp_layers.specs.Layering.{Layering, layering, staged_of, first_layer, begun, written, undone, sealed, abandoned, front_committed, back_dropped, empty_layering, cut, IsCut}
use Rattle.kp_layers.specs.Used.{is_written, is_written_in, is_used, is_known, last_layer}
use Rattle.kp_layers.proofs.Chained.{get-base_of}
use Rattle.kp_layers.proofs.Cuts.{sum-cons, staged_is}

or-assoc : (a b c : Bool) → (a || b) || c ≡ a || (b || c)
or-assoc true b c = refl
or-assoc false b c = refl

or-comm : (a b : Bool) → a || b ≡ b || a
or-comm true true = refl
or-comm true false = refl
or-comm false true = refl
or-comm false false = refl

or-none : (a : Bool) → a || false ≡ a
or-none true = refl
or-none false = refl

pub any-append : {A : Type 0} (f : A → Bool) (xs ys : List A) → list_any f (xs ++ ys) ≡ list_any f xs || list_any f ys
any-append f [] ys = refl
any-append f (x ∷ xs) ys = ap (λ b. f x || b) (any-append f xs ys) ∙ sym (or-assoc (f x) (list_any f xs) (list_any f ys))

any_cut : {A : Type 0} (f : A → Bool) (n : ℕ) (xs : List A) → list_any f xs ≡ list_any f (take n xs) || list_any f (drop n xs)
any_cut f n xs = ap (list_any f) (sym (take-append-drop n xs)) ∙ any-append f (take n xs) (drop n xs)

-- a is lost among b, c and d, which come in another order
last_out : (a b c d : Bool) → a || ((b || c) || d) ≡ (a || (b || d)) || c
last_out true b c d = refl
last_out false b c d = or-assoc b c d ∙ ap (λ x. b || x) (or-comm c d) ∙ sym (or-assoc b d c)

first_out : (a b c d : Bool) → a || ((b || c) || d) ≡ (a || b) || (c || d)
first_out true b c d = refl
first_out false b c d = or-assoc b c d

shuffle : (a a' w t s : Bool) → a' || w ≡ a || w → a || ((w || t) || s) ≡ (a' || (t || s)) || w
shuffle a a' true t s h = or-true a ∙ sym (or-true (a' || (t || s)))
shuffle a a' false t s h = ap (λ b. b || (t || s)) (sym (or-none a) ∙ sym h ∙ or-none a') ∙ sym (or-none (a' || (t || s)))

module _ {K : Type 0} (R : K → K → Ordering) {V : Type 0} where
  written_empty : (o : Option (List (K × Option V))) (k : K) → o ≡ None → is_written R (unwrap_or o []) k ≡ false
  written_empty None k e = refl
  written_empty (Some ws) k e = ap (λ x. is_written R (unwrap_or x []) k) e

  any_last : (layers : List (List (K × Option V))) (k : K) → is_written_in R layers k ≡ is_written_in R (take (length layers - 1) layers) k || is_written R (last_layer layers) k
  any_last [] k = refl
  any_last (ws ∷ []) k = or-none (is_written R ws k)
  any_last (ws ∷ (us ∷ layers)) k =
      let e : length (ws ∷ (us ∷ layers)) - 1 ≡ suc (length (us ∷ layers) - 1) = omega arith in
      ap (λ b. is_written R ws k || b) (any_last (us ∷ layers) k)
      ∙ sym (or-assoc (is_written R ws k) (is_written_in R (take (length (us ∷ layers) - 1) (us ∷ layers)) k) (is_written R (last_layer (us ∷ layers)) k))
      ∙ ap (λ n. is_written_in R (take n (ws ∷ (us ∷ layers))) k || is_written R (last_layer (us ∷ layers)) k) (sym e)

  any_first : (layers : List (List (K × Option V))) (k : K) → is_written_in R layers k ≡ is_written R (first_layer layers) k || is_written_in R (drop 1 layers) k
  any_first [] k = refl
  any_first (ws ∷ layers) k = refl

module _ {K : Type 0} {R : K → K → Ordering} {V : Type 0} where
  -- an open layer without writes uses no key
  pub used_begun : (l : Layering R V) (k : K) → l.staged ≡ None → is_used (begun l) k ≡ is_used l k
  used_begun l k none = ap (λ b. map.contains_key l.base k || (is_written_in R l.layers k || b)) (sym (written_empty R l.staged k none))

  -- a write more: the key of the write is in use
  pub used_written : (l : Layering R V) (key : K) (value : Option V) (k : K) → is_used (written l key value) k ≡ is_used l k || eq_by_cmp R k key
  used_written l key value k =
      ap (λ b. map.contains_key l.base k || (is_written_in R l.layers k || b)) (any-append (λ w. eq_by_cmp R k w.0) (staged_of l) ((key, value) ∷ []) ∙ ap (λ b. is_written R (staged_of l) k || b) (or-none (eq_by_cmp R k key)))
      ∙ ap (λ b. map.contains_key l.base k || b) (sym (or-assoc (is_written_in R l.layers k) (is_written R (staged_of l) k) (eq_by_cmp R k key)))
      ∙ sym (or-assoc (map.contains_key l.base k) (is_written_in R l.layers k || is_written R (staged_of l) k) (eq_by_cmp R k key))

  -- the same keys are in use when the open layer is sealed
  pub used_sealed : (l : Layering R V) (k : K) → is_used (sealed l) k ≡ is_used l k
  used_sealed l k = ap (λ b. map.contains_key l.base k || b)
      (or-none (is_written_in R (l.layers ++ staged_of l ∷ []) k)
      ∙ any-append (λ ws. is_written R ws k) l.layers (staged_of l ∷ [])
      ∙ ap (λ b. is_written_in R l.layers k || b) (or-none (is_written R (staged_of l) k)))

  -- a key goes out of use only with the writes that are taken back
  pub used_undone : (l : Layering R V) (mark : ℕ) (k : K) → is_used l k ≡ is_used (undone l mark) k || is_written R (drop mark (staged_of l)) k
  used_undone l mark k =
      ap (λ b. map.contains_key l.base k || (is_written_in R l.layers k || b)) (any_cut (λ w. eq_by_cmp R k w.0) mark (staged_of l))
      ∙ ap (λ b. map.contains_key l.base k || b) (sym (or-assoc (is_written_in R l.layers k) _ _))
      ∙ sym (or-assoc (map.contains_key l.base k) _ _)

  -- a key goes out of use only with the writes of the open layer
  pub used_abandoned : (l : Layering R V) (k : K) → is_used l k ≡ is_used (abandoned l) k || is_written R (staged_of l) k
  used_abandoned l k =
      sym (or-assoc (map.contains_key l.base k) (is_written_in R l.layers k) (is_written R (staged_of l) k))
      ∙ ap (λ b. (map.contains_key l.base k || b) || is_written R (staged_of l) k) (sym (or-none (is_written_in R l.layers k)))

  -- a key goes out of use only with the writes of the last layer
  pub used_back_dropped : (l : Layering R V) (k : K) → is_used l k ≡ is_used (back_dropped l) k || is_written R (last_layer l.layers) k
  used_back_dropped l k =
      ap (λ b. map.contains_key l.base k || (b || is_written R (staged_of l) k)) (any_last R l.layers k)
      ∙ last_out (map.contains_key l.base k) (is_written_in R (take (length l.layers - 1) l.layers) k) (is_written R (last_layer l.layers) k) (is_written R (staged_of l) k)

  module _ (o : IsTotalOrder R) where
    put_uses : (b : Bool) (w m : Option V) → is_some (cond b w m) || b ≡ is_some m || b
    put_uses true w m = or-true (is_some w) ∙ sym (or-true (is_some m))
    put_uses false w m = refl

    has-put : (m : FinMap R V) (key : K) (value : Option V) (k : K) → map.contains_key (put m key value) k || eq_by_cmp R k key ≡ map.contains_key m k || eq_by_cmp R k key
    has-put m key (Some v) k = ap (λ r. is_some r || eq_by_cmp R k key) (get-insert o m key v k) ∙ put_uses (eq_by_cmp R k key) (Some v) (get m k)
    has-put m key None k = ap (λ r. is_some r || eq_by_cmp R k key) (get-remove o m key k) ∙ put_uses (eq_by_cmp R k key) None (get m k)

    pub has-overlay : (m : FinMap R V) (ws : List (K × Option V)) (k : K) → map.contains_key (overlay m ws) k || is_written R ws k ≡ map.contains_key m k || is_written R ws k
    has-overlay m [] k = refl
    has-overlay m (w ∷ ws) k =
        ap (λ b. map.contains_key (overlay (put m w.0 w.1) ws) k || b) (or-comm (eq_by_cmp R k w.0) (is_written R ws k))
        ∙ sym (or-assoc _ (is_written R ws k) (eq_by_cmp R k w.0))
        ∙ ap (λ b. b || eq_by_cmp R k w.0) (has-overlay (put m w.0 w.1) ws k ∙ or-comm _ (is_written R ws k))
        ∙ or-assoc (is_written R ws k) _ (eq_by_cmp R k w.0)
        ∙ ap (λ b. is_written R ws k || b) (has-put m w.0 w.1 k ∙ or-comm (map.contains_key m k) (eq_by_cmp R k w.0))
        ∙ sym (or-assoc (is_written R ws k) (eq_by_cmp R k w.0) (map.contains_key m k))
        ∙ or-comm _ (map.contains_key m k)
        ∙ ap (λ b. map.contains_key m k || b) (or-comm (is_written R ws k) (eq_by_cmp R k w.0))

    -- a key goes out of use only with the writes of the first layer, which are made on the base
    pub used_front_committed : (l : Layering R V) (k : K) → is_used l k ≡ is_used (front_committed l) k || is_written R (first_layer l.layers) k
    used_front_committed l k =
        ap (λ b. map.contains_key l.base k || (b || is_written R (staged_of l) k)) (any_first R l.layers k)
        ∙ shuffle (map.contains_key l.base k) (map.contains_key (overlay l.base (first_layer l.layers)) k) (is_written R (first_layer l.layers) k) (is_written_in R (drop 1 l.layers) k) (is_written R (staged_of l) k) (has-overlay l.base (first_layer l.layers) k)

-- no key is in use before the first write
pub used_empty : (V : Type 0) (k : ℕ) → is_used (empty_layering {R = nat_cmp} {V = V}) k ≡ false
used_empty V k = ap (λ r. is_some r || false) (get-empty nat_cmp k)

any_step : (b : Bool) (n : ℕ) → b || ltb 0 n ≡ ltb 0 (place_before b n)
any_step true zero = refl
any_step false zero = refl
any_step b (suc n) = ap (λ x. b || x) (lt-ltb 0 (suc n) (omega arith)) ∙ or-true b ∙ sym (lt-ltb 0 (suc (suc n)) (omega arith))

above : (first newest n : ℕ) → newest - first ≡ n → ltb first newest ≡ ltb 0 n
above first newest zero e = le-ltb first newest (omega arith)
above first newest (suc n) e = lt-ltb first newest (omega arith) ∙ sym (lt-ltb 0 (suc n) (omega arith))

module _ {V : Type 0} where
  -- the key has a write exactly where its last write has a place
  written_placed : (k : ℕ) (log : List (Write V)) → is_written nat_cmp (shown log) k ≡ ltb 0 (place k log)
  written_placed k [] = refl
  written_placed k (w ∷ ws) =
      ap (λ b. b || is_written nat_cmp (shown ws) k) (unsigned_tied k w.key)
      ∙ ap (λ b. nat_eq k w.key || b) (written_placed k ws)
      ∙ any_step (nat_eq k w.key) (place k ws)

  cell_used : (cell : Option (Cell V)) (first n : ℕ) → newest_in cell - first ≡ n → holds first cell ≡ true → is_some cell ≡ is_some (committed_in cell) || ltb 0 n
  cell_used None first zero e h = refl
  cell_used None first (suc n) e h = absurd (omega arith)
  cell_used (Some c) first n e h = sym (ap (λ b. is_some c.committed || b) (sym (above first c.newest n e)) ∙ h)

  -- a key has a cell exactly where it is in use
  pub cell_is : (cells : List (ℕ × Cell V)) (log : List (Write V)) (first k : ℕ) → HasChains cells log first → is_some (lookup (nat_eq k) cells) ≡ is_known (record { base = base_of cells; writes = shown log }) k
  cell_is cells log first k h =
      cell_used _ first (place k log) (h.newest k) (h.filled k)
      ∙ ap (λ o. is_some o || ltb 0 (place k log)) (sym (get-base_of cells k))
      ∙ ap (λ b. is_some (get (base_of cells) k) || b) (sym (written_placed k log))

  any_layers : (ns : List ℕ) (ws : List (ℕ × Option V)) (k : ℕ) → is_written_in nat_cmp (cut ns ws) k ≡ is_written nat_cmp (take (sum ns) ws) k
  any_layers [] ws k = refl
  any_layers (n ∷ ns) ws k =
      ap (λ b. is_written nat_cmp (take n ws) k || b) (any_layers ns (drop n ws) k)
      ∙ sym (any-append (λ w. eq_by_cmp nat_cmp k w.0) (take n ws) (take (sum ns) (drop n ws)))
      ∙ ap (λ us. is_written nat_cmp us k) (sym (take-add n (sum ns) ws) ∙ ap (λ i. take i ws) (sym (sum-cons n ns)))

  -- the writes of a history are those of its layers
  pub known_is : (b : FinMap nat_cmp V) (ns : List ℕ) (count : Option ℕ) (ws : List (ℕ × Option V)) (room k : ℕ) → IsCut ns count ws room → is_known (record { base = b; writes = ws }) k ≡ is_used (layering b ns count ws) k
  known_is b ns count ws room k h = ap (λ x. map.contains_key b k || x)
      (any_cut (λ w. eq_by_cmp nat_cmp k w.0) (sum ns) ws
      ∙ ap (λ x. x || is_written nat_cmp (drop (sum ns) ws) k) (sym (any_layers ns ws k))
      ∙ ap (λ us. is_written_in nat_cmp (cut ns ws) k || is_written nat_cmp us k) (staged_is ns count ws room h))
