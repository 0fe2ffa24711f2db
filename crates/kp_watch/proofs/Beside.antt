-- The indexes after a watch more, a watch less, a spot less, or a connection less.
use Rattle.std.proofs.Common.{◌≡◌, ℕ, Bool, true, false, cond, nat_eq, ◌&&◌, List, Option, Some, None, refl, ap, sym, ◌∙◌}
use Rattle.std.proofs.lemmas.Bool.{eqb-true, false≢true}
use Rattle.std.proofs.lemmas.Slice.Eq.{bytes_eq-Decides}
use Rattle.std.specs.Str.{bytes_eq}
use Rattle.kp_watch.specs.declared.watch.Watch.{Watch}
use Rattle.kp_watch.specs.declared.kind.Kind.{Kind}
use Rattle.kp_watch.specs.declared.kind.Kind.TheVariants as kind
use Rattle.kp_watch.specs.declared.sides.Sides.{Sides}
use Rattle.kp_watch.specs.Watching.{same_kind, is_at, same_watch}
use Rattle.kp_watch.specs.Spots.{number_of}
use Rattle.kp_watch.specs.Indexed.{is_number, passes, AreBeside}

-- ---- tests that hold
pub no : {A : Type 0} (b : Bool) → b ≡ false → b ≡ true → A
no b e h = absurd (false≢true (sym e ∙ h))

pub left : (a b : Bool) → (a && b) ≡ true → a ≡ true
left true b h = refl
left false b h = h

pub right : (a b : Bool) → (a && b) ≡ true → b ≡ true
right true b h = h
right false b h = no false refl h

kind_exact : (a b : Kind) → same_kind a b ≡ true → a ≡ b
kind_exact kind.Data kind.Data h = refl
kind_exact kind.Child kind.Child h = refl
kind_exact kind.Data kind.Child h = no false refl h
kind_exact kind.Child kind.Data h = no false refl h

pub same_path : (p : List ℕ) (k : Kind) (w : Watch) → is_at p k w ≡ true → w.path ≡ p
same_path p k w h = (bytes_eq-Decides w.path p).0 (right (same_kind w.kind k) _ h)

pub same_kinds : (p : List ℕ) (k : Kind) (w : Watch) → is_at p k w ≡ true → w.kind ≡ k
same_kinds p k w h = kind_exact w.kind k (left _ _ h)

pub same_exact : (q w : Watch) → same_watch q w ≡ true → w ≡ q
same_exact q w h = λ i. record {
  path = same_path q.path q.kind w (left _ _ h) i;
  kind = same_kinds q.path q.kind w (left _ _ h) i;
  conn = eqb-true w.conn q.conn (right (is_at q.path q.kind w) _ h) i;
}

-- ---- a number in a spot
is_it : (x : Option ℕ) (m : ℕ) → is_number x m ≡ true → x ≡ Some m
is_it None m h = no false refl h
is_it (Some k) m h = ap Some (eqb-true k m h)

less : (x : Option ℕ) (m n : ℕ) (q : Watch) (o : Option Watch) (a b : Bool) → is_number x n ≡ passes (same_watch q) o → is_number x m ≡ a → nat_eq m n ≡ b → is_number (cond a None x) n ≡ passes (same_watch q) (cond b None o)
less x m n q o true true h at is = refl
less x m n q o true false h at is = sym (sym h ∙ ap (λ y. is_number y n) (is_it x m at) ∙ is)
less x m n q o false true h at is = ap (is_number x) (sym (eqb-true m n is)) ∙ at
less x m n q o false false h at is = h

more : (x : Option ℕ) (m n : ℕ) (q w : Watch) (o : Option Watch) (a b : Bool) → is_number x n ≡ passes (same_watch q) o → same_watch q w ≡ a → (a ≡ true → x ≡ None) → (b ≡ true → o ≡ None) → nat_eq m n ≡ b → is_number (cond a (Some m) x) n ≡ passes (same_watch q) (cond b (Some w) o)
more x m n q w o true true h a none free is = is ∙ sym a
more x m n q w o true false h a none free is = is ∙ sym (sym h ∙ ap (λ y. is_number y n) (none refl))
more x m n q w o false true h a none free is = h ∙ ap (passes (same_watch q)) (free refl) ∙ sym a
more x m n q w o false false h a none free is = h

-- without a watch
pub beside_less : (sides sides' : Sides) (look look' : ℕ → Option Watch) (m : ℕ) (w : Watch) → AreBeside sides look → look m ≡ Some w → ((n : ℕ) → look' n ≡ cond (nat_eq m n) None (look n))
    → ((k : Kind) (p : List ℕ) (c : ℕ) → number_of sides' k p c ≡ cond (same_watch (record { path = p; kind = k; conn = c }) w) None (number_of sides k p c)) → AreBeside sides' look'
beside_less sides sides' look look' m w h at gone taken k p c n =
    let q : Watch = record { path = p; kind = k; conn = c } in
    ap (λ x. is_number x n) (taken k p c)
    ∙ less (number_of sides k p c) m n q (look n) (same_watch q w) (nat_eq m n) (h k p c n) (h k p c m ∙ ap (passes (same_watch q)) at) refl
    ∙ sym (ap (passes (same_watch q)) (gone n))

-- with a watch more
pub beside_more : (sides sides' : Sides) (look look' : ℕ → Option Watch) (m : ℕ) (w : Watch) → AreBeside sides look → look m ≡ None → number_of sides w.kind w.path w.conn ≡ None → ((n : ℕ) → look' n ≡ cond (nat_eq m n) (Some w) (look n))
    → ((k : Kind) (p : List ℕ) (c : ℕ) → number_of sides' k p c ≡ cond (same_watch (record { path = p; kind = k; conn = c }) w) (Some m) (number_of sides k p c)) → AreBeside sides' look'
beside_more sides sides' look look' m w h free none there put k p c n =
    let q : Watch = record { path = p; kind = k; conn = c } in
    ap (λ x. is_number x n) (put k p c)
    ∙ more (number_of sides k p c) m n q w (look n) (same_watch q w) (nat_eq m n) (h k p c n) refl
    (λ e. sym (ap (λ (v : Watch). number_of sides v.kind v.path v.conn) (same_exact q w e)) ∙ none)
    (λ e. ap look (sym (eqb-true m n e)) ∙ free)
    refl
    ∙ sym (ap (passes (same_watch q)) (there n))

-- nothing changed
pub beside_same : (sides sides' : Sides) (look look' : ℕ → Option Watch) → AreBeside sides look → ((n : ℕ) → look' n ≡ look n) → ((k : Kind) (p : List ℕ) (c : ℕ) → number_of sides' k p c ≡ number_of sides k p c) → AreBeside sides' look'
beside_same sides sides' look look' h same is k p c n = ap (λ x. is_number x n) (is k p c) ∙ h k p c n ∙ sym (ap (passes (same_watch (record { path = p; kind = k; conn = c }))) (same n))

-- without the spot of a path and a kind
spotless : (x : Option ℕ) (n : ℕ) (path : List ℕ) (kind : Kind) (p : List ℕ) (k : Kind) (c : ℕ) (w : Watch) (a d : Bool) → is_number x n ≡ same_watch (record { path = p; kind = k; conn = c }) w → is_at p k (record { path = path; kind = kind; conn = c }) ≡ a → is_at path kind w ≡ d
    → is_number (cond a None x) n ≡ passes (same_watch (record { path = p; kind = k; conn = c })) (cond d None (Some w))
spotless x n path kind p k c w true true h a d = refl
spotless x n path kind p k c w false true h a d =
    h ∙ ap (λ b. b && nat_eq w.conn c) ((λ i. same_kind (same_kinds path kind w d i) k && bytes_eq (same_path path kind w d i) p) ∙ a)
spotless x n path kind p k c w true false h a d =
    let at : Watch = record { path = path; kind = kind; conn = c } in
    sym (ap (λ b. b && nat_eq w.conn c) ((λ i. same_kind w.kind (sym (same_kinds p k at a) i) && bytes_eq w.path (sym (same_path p k at a) i)) ∙ d))
spotless x n path kind p k c w false false h a d = h

pub beside_spotless : (sides sides' : Sides) (look look' : ℕ → Option Watch) (path : List ℕ) (kind : Kind) → AreBeside sides look → ((n : ℕ) → look' n ≡ cond (passes (is_at path kind) (look n)) None (look n))
    → ((k : Kind) (p : List ℕ) (c : ℕ) → number_of sides' k p c ≡ cond (is_at p k (record { path = path; kind = kind; conn = c })) None (number_of sides k p c)) → AreBeside sides' look'
beside_spotless sides sides' look look' path kind h gone taken k p c n =
    let q : Watch = record { path = p; kind = k; conn = c } in
    ap (λ x. is_number x n) (taken k p c)
    ∙ by (look n) (h k p c n)
    ∙ sym (ap (passes (same_watch q)) (gone n))
  where
    none : (a : Bool) (x : Option ℕ) → is_number x n ≡ false → is_number (cond a None x) n ≡ false
    none true x e = refl
    none false x e = e

    by : (o : Option Watch) → is_number (number_of sides k p c) n ≡ passes (same_watch (record { path = p; kind = k; conn = c })) o
        → is_number (cond (is_at p k (record { path = path; kind = kind; conn = c })) None (number_of sides k p c)) n ≡ passes (same_watch (record { path = p; kind = k; conn = c })) (cond (passes (is_at path kind) o) None o)
    by None e = none (is_at p k (record { path = path; kind = kind; conn = c })) (number_of sides k p c) e
    by (Some w) e = spotless (number_of sides k p c) n path kind p k c w _ _ e refl refl
