-- The whole index after a spot less, a connection less, or a watch more.
use Rattle.std.proofs.Common.{◌≡◌, ℕ, ◌+◌, ◌<◌, Bool, true, false, cond, nat_eq, not, ◌&&◌, ◌||◌, List, [], ◌∷◌, ◌++◌, Option, Some, None, is_some, refl, ap, sym, subst, ◌∙◌, arith}
use Rattle.std.specs.Prelude.{map, OnOk, OnErr, Result, Ok, Err}
use Rattle.std.specs.Result.{is_err}
use Rattle.std.specs.List.{filter, list_any, flat_map, IsDistinct}
use Rattle.std.specs.declared.cmp.Ordering.TheVariants.{Greater}
use Rattle.std.specs.Ordering.{match_ordering, nat_cmp}
use Rattle.std.specs.Cmp.{nat_eq_equiv, nat_cmp_is}
use Rattle.std.specs.BTreeMap.{insert_entry}
use Rattle.std.specs.BTreeSet.{BTreeSet}
use Rattle.std.proofs.lemmas.Bool.{eqb-true}
use Rattle.kp_watch.specs.declared.watch.Watch.{Watch}
use Rattle.kp_watch.specs.declared.kind.Kind.{Kind}
use Rattle.kp_watch.specs.declared.sides.Sides.{Sides}
use Rattle.kp_watch.specs.Watching.{is_at, same_watch, is_of, dropped, watching}
use Rattle.kp_watch.specs.Spots.{Pairs, AreApart, pairs_of, number_of, number_among}
use Rattle.kp_watch.specs.Owners.{is_own, is_within, set_of}
use Rattle.kp_watch.specs.Numbered.{Numbered, watches_of, watch_at, conn_at, AreOrdered, Lists}
use Rattle.kp_watch.specs.Indexed.{is_number, passes, AreBeside, AreIndexed, AreBelow}
use Rattle.kp_watch.proofs.Beside.{no, same_exact, beside_spotless, beside_more, beside_same}
use Rattle.kp_watch.proofs.Owned.{owned_spotless, owned_without, owned_more, owned_same}
use Rattle.kp_watch.proofs.Paired.{pair_is, number_is, numbers_differ, among}
use Rattle.kp_watch.proofs.Numbering.{AreKnown, all_known, gone, any_found, none_found, numbers_are, conns_are}

-- ---- the two ends of a call
pub not_err : {T E : Type 0} (r : Result T E) {P : Type 0} → is_err r ≡ false → OnOk r P → P
not_err (Ok x) e p = p
not_err (Err x) e p = no true e refl

pub an_err : {T E : Type 0} (r : Result T E) {P : Type 0} → is_err r ≡ true → OnErr r P → P
an_err (Ok x) e p = no false refl e
an_err (Err x) e p = p

-- fewer watches are below the same number
kept_from : (b : Bool) (o : Option Watch) (w : Watch) → cond b None o ≡ Some w → o ≡ Some w
kept_from true o w h = no false refl (ap is_some h)
kept_from false o w h = h

pub fewer_below : (p : ℕ → Bool) (es es' : Numbered) → ((n : ℕ) → watch_at es' n ≡ cond (p n) None (watch_at es n)) → (next : ℕ) → AreBelow next es → AreBelow next es'
fewer_below p es es' same next h n w is = h n w (kept_from (p n) (watch_at es n) w (sym (same n) ∙ is))

module _ (es es' : Numbered) (sides sides' : Sides) (own own' : List (ℕ × BTreeSet ℕ)) (h : AreIndexed es sides own) (h' : AreOrdered es') where
  -- ---- a spot less
  module _ (path : List ℕ) (kind : Kind) (ps : Pairs) (apart : AreApart ps) (is : ps ≡ pairs_of sides kind path)
      (book : (n : ℕ) → watch_at es' n ≡ cond (list_any (λ (e : ℕ × ℕ). nat_eq e.1 n) ps) None (watch_at es n)) where
    beside_it : (c n : ℕ) → is_number (number_among ps c) n ≡ passes (same_watch (record { path = path; kind = kind; conn = c })) (watch_at es n)
    beside_it c n = ap (λ l. is_number (number_among l c) n) is ∙ h.beside kind path c n

    looks : (n : ℕ) → watch_at es' n ≡ cond (passes (is_at path kind) (watch_at es n)) None (watch_at es n)
    looks n = book n ∙ ap (λ b. cond b None (watch_at es n)) (number_is ps apart path kind (watch_at es) beside_it n)

    pub spot_watches : watches_of es' ≡ filter (λ w. not (is_at path kind w)) (watches_of es)
    spot_watches = gone (is_at path kind) es es' h.ordered h' looks

    pub spot_cleared : ((k : Kind) (p : List ℕ) (c : ℕ) → number_of sides' k p c ≡ cond (is_at p k (record { path = path; kind = kind; conn = c })) None (number_of sides k p c))
        → ((c n : ℕ) → is_own own' c n ≡ (is_own own c n && not (list_any (λ (e : ℕ × ℕ). nat_eq e.0 c && nat_eq e.1 n) ps))) → AreIndexed es' sides' own'
    spot_cleared taken left = record {
      ordered = h';
      beside = beside_spotless sides sides' (watch_at es) (watch_at es') path kind h.beside looks taken;
      owned = owned_spotless own own' (watch_at es) (watch_at es') h.owned path kind looks
          (λ c n. left c n ∙ ap (λ b. is_own own c n && not b) (pair_is ps apart path kind (watch_at es) beside_it c n));
    }

  -- ---- a connection less
  module _ (conn : ℕ) (numbers : Option (BTreeSet ℕ)) (is : numbers ≡ set_of own conn) (book : (n : ℕ) → watch_at es' n ≡ cond (is_within numbers n) None (watch_at es n)) where
    looks_too : (n : ℕ) → watch_at es' n ≡ cond (passes (is_of conn) (watch_at es n)) None (watch_at es n)
    looks_too n = book n ∙ ap (λ b. cond b None (watch_at es n)) (ap (λ s. is_within s n) is ∙ h.owned conn n)

    pub conn_watches : watches_of es' ≡ dropped (watches_of es) conn
    conn_watches = gone (is_of conn) es es' h.ordered h' looks_too

    pub conn_cleared : AreBeside sides' (watch_at es') → ((c n : ℕ) → is_own own' c n ≡ (is_own own c n && not (nat_eq conn c))) → AreIndexed es' sides' own'
    conn_cleared beside left = record { ordered = h'; beside = beside; owned = owned_without own own' (watch_at es) (watch_at es') h.owned conn looks_too left }

-- ---- whether a watch is there
pub there : (es : Numbered) (sides : Sides) (q : Watch) → AreOrdered es → AreBeside sides (watch_at es) → is_some (number_of sides q.kind q.path q.conn) ≡ list_any (same_watch q) (watches_of es)
there es sides q h beside = by (number_of sides q.kind q.path q.conn) (λ n. beside q.kind q.path q.conn n) where
  by : (x : Option ℕ) → ((n : ℕ) → is_number x n ≡ passes (same_watch q) (watch_at es n)) → is_some x ≡ list_any (same_watch q) (watches_of es)
  by None f = sym (none_found (same_watch q) es h (λ n. sym (f n)))
  by (Some m) f = sym (any_found (same_watch q) m es (sym (f m) ∙ nat_eq_equiv.refl m))

none_is : (x : Option ℕ) → is_some x ≡ false → x ≡ None
none_is None h = refl
none_is (Some m) h = no true h refl

pub not_there : (es : Numbered) (sides : Sides) (q : Watch) → AreOrdered es → AreBeside sides (watch_at es) → list_any (same_watch q) (watches_of es) ≡ false → number_of sides q.kind q.path q.conn ≡ None
not_there es sides q h beside fresh = none_is _ (there es sides q h beside ∙ fresh)

-- ---- the connections of a path and a kind
pub conns_listed : (es : Numbered) (sides : Sides) (path : List ℕ) (kind : Kind) → AreOrdered es → AreBeside sides (watch_at es) → AreApart (pairs_of sides kind path)
    → (ids ns : List ℕ) → ids ≡ map (λ (e : ℕ × ℕ). e.1) (pairs_of sides kind path) → (IsDistinct nat_eq ids → Lists ids ns) → flat_map (conn_at (watch_at es)) ns ≡ watching (watches_of es) path kind
conns_listed es sides path kind h beside apart ids ns is sort =
    let ps : Pairs = pairs_of sides kind path in
    let l : Lists ids ns = sort (subst (IsDistinct nat_eq) (sym is) (numbers_differ ps apart path kind (watch_at es) (λ c n. beside kind path c n))) in
    ap (flat_map (conn_at (watch_at es))) (numbers_are (is_at path kind) es ns h l.sorted (λ n.
    l.members n ∙ ap (list_any (nat_eq n)) is ∙ among n ps ∙ number_is ps apart path kind (watch_at es) (λ c n. beside kind path c n) n))
    ∙ conns_are (is_at path kind) es h

-- ---- a watch more
free_of : (o : Option Watch) (m n : ℕ) → ((w : Watch) → o ≡ Some w → n < m) → m ≡ n → o ≡ None
free_of None m n h e = refl
free_of (Some w) m n h e = absurd (omega (arith, h w refl, e))

pub free : (es : Numbered) (m : ℕ) → AreBelow m es → watch_at es m ≡ None
free es m h = free_of (watch_at es m) m m (λ w is. h m w is) refl

-- every number is below the one after it
below_step : (b : Bool) (m n : ℕ) (w v : Watch) (o : Option Watch) → (b ≡ true → m ≡ n) → (o ≡ Some v → n < m) → cond b (Some w) o ≡ Some v → n < m + 1
below_step true m n w v o same h is = omega (arith, same refl)
below_step false m n w v o same h is = omega (arith, h is)

pub below_more : (es es' : Numbered) (m : ℕ) (w : Watch) → AreBelow m es → ((n : ℕ) → watch_at es' n ≡ cond (nat_eq m n) (Some w) (watch_at es n)) → AreBelow (m + 1) es'
below_more es es' m w h there n v is = below_step (nat_eq m n) m n w v (watch_at es n) (eqb-true m n) (h n v) (sym (there n) ∙ is)

pub below_still : (es es' : Numbered) (m : ℕ) → AreBelow m es → es' ≡ es → AreBelow (m + 1) es'
below_still es es' m h same n v is = omega (arith, h n v (sym (ap (λ es. watch_at es n) same) ∙ is))

last_from : (all es : Numbered) (m : ℕ) (w : Watch) → AreBelow m all → AreKnown all es → insert_entry nat_cmp es m w ≡ es ++ (m, w) ∷ []
last_from all [] m w below h = refl
last_from all (e ∷ es) m w below h =
    ap (λ r. match_ordering r ((m, w) ∷ e ∷ es) ((e.0, w) ∷ es) (e ∷ insert_entry nat_cmp es m w)) (sym (nat_cmp_is m e.0 Greater (below e.0 e.1 h.0)))
    ∙ ap (λ l. e ∷ l) (last_from all es m w below h.1)

pub inserted_last : (es : Numbered) (m : ℕ) (w : Watch) → AreOrdered es → AreBelow m es → insert_entry nat_cmp es m w ≡ es ++ (m, w) ∷ []
inserted_last es m w h below = last_from es es m w below (all_known es h)

module _ (es es' : Numbered) (sides sides' : Sides) (own own' : List (ℕ × BTreeSet ℕ)) (h : AreIndexed es sides own) (h' : AreOrdered es') (m : ℕ) (w : Watch) (below : AreBelow m es)
    (fresh : list_any (same_watch w) (watches_of es) ≡ false) where
  pub entered : ((n : ℕ) → watch_at es' n ≡ cond (nat_eq m n) (Some w) (watch_at es n))
      → ((k : Kind) (p : List ℕ) (c : ℕ) → number_of sides' k p c ≡ cond (same_watch (record { path = p; kind = k; conn = c }) w) (Some m) (number_of sides k p c))
      → ((c n : ℕ) → is_own own' c n ≡ (is_own own c n || (nat_eq w.conn c && nat_eq m n))) → AreIndexed es' sides' own'
  entered book put join = record {
    ordered = h';
    beside = beside_more sides sides' (watch_at es) (watch_at es') m w h.beside (free es m below) (not_there es sides w h.ordered h.beside fresh) book put;
    owned = owned_more own own' (watch_at es) (watch_at es') h.owned m w (free es m below) book join;
  }

  back_again : (k : Kind) (p : List ℕ) (c : ℕ) (b : Bool) → same_watch (record { path = p; kind = k; conn = c }) w ≡ b → cond b None (cond b (Some m) (number_of sides k p c)) ≡ number_of sides k p c
  back_again k p c true is = sym (sym (ap (λ (v : Watch). number_of sides v.kind v.path v.conn) (same_exact (record { path = p; kind = k; conn = c }) w is)) ∙ not_there es sides w h.ordered h.beside fresh)
  back_again k p c false is = refl

  out_again : (c n : ℕ) (b : Bool) → (b ≡ true → m ≡ n) → ((is_own own c n || (nat_eq w.conn c && b)) && not (nat_eq w.conn c && b)) ≡ is_own own c n
  out_again c n true same = go (is_own own c n) (nat_eq w.conn c) (h.owned c n ∙ ap (λ k. passes (is_of c) (watch_at es k)) (sym (same refl)) ∙ ap (passes (is_of c)) (free es m below)) where
    go : (x y : Bool) → x ≡ false → ((x || (y && true)) && not (y && true)) ≡ x
    go x true e = and_none (x || true) ∙ sym e where
      and_none : (z : Bool) → (z && false) ≡ false
      and_none true = refl
      and_none false = refl
    go true false e = refl
    go false false e = refl
  out_again c n false same = go (is_own own c n) (nat_eq w.conn c) where
    go : (x y : Bool) → ((x || (y && false)) && not (y && false)) ≡ x
    go true true = refl
    go true false = refl
    go false true = refl
    go false false = refl

  pub taken_back : (sides'' : Sides) (own'' : List (ℕ × BTreeSet ℕ)) → ((n : ℕ) → watch_at es' n ≡ watch_at es n)
      → ((k : Kind) (p : List ℕ) (c : ℕ) → number_of sides' k p c ≡ cond (same_watch (record { path = p; kind = k; conn = c }) w) (Some m) (number_of sides k p c))
      → ((c n : ℕ) → is_own own' c n ≡ (is_own own c n || (nat_eq w.conn c && nat_eq m n)))
      → ((k : Kind) (p : List ℕ) (c : ℕ) → number_of sides'' k p c ≡ cond (same_watch (record { path = p; kind = k; conn = c }) w) None (number_of sides' k p c))
      → ((c n : ℕ) → is_own own'' c n ≡ (is_own own' c n && not (nat_eq w.conn c && nat_eq m n))) → AreIndexed es' sides'' own''
  taken_back sides'' own'' book put join take leave = record {
    ordered = h';
    beside = beside_same sides sides'' (watch_at es) (watch_at es') h.beside book
        (λ k p c. take k p c ∙ ap (λ x. cond (same_watch (record { path = p; kind = k; conn = c }) w) None x) (put k p c) ∙ back_again k p c _ refl);
    owned = owned_same own own'' (watch_at es) (watch_at es') h.owned book
        (λ c n. leave c n ∙ ap (λ x. x && not (nat_eq w.conn c && nat_eq m n)) (join c n) ∙ out_again c n (nat_eq m n) (λ e. eqb-true m n e));
  }
