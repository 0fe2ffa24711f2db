-- The numbers of the connections after a watch more, a spot less, or a connection less.
use Rattle.std.proofs.Common.{◌≡◌, ℕ, Bool, true, false, cond, nat_eq, not, ◌&&◌, ◌||◌, List, Option, Some, None, refl, ap, sym, ◌∙◌}
use Rattle.std.proofs.lemmas.Bool.{eqb-true}
use Rattle.std.specs.BTreeSet.{BTreeSet}
use Rattle.kp_watch.specs.declared.watch.Watch.{Watch}
use Rattle.kp_watch.specs.declared.kind.Kind.{Kind}
use Rattle.kp_watch.specs.Watching.{is_at, same_watch, is_of}
use Rattle.kp_watch.specs.Owners.{is_own}
use Rattle.kp_watch.specs.Indexed.{passes, AreOwned}
use Rattle.kp_watch.proofs.Beside.{no}

or_false : (b : Bool) → (b || false) ≡ b
or_false true = refl
or_false false = refl

and_false : (b : Bool) → (b && false) ≡ false
and_false true = refl
and_false false = refl

and_true : (b : Bool) → (b && true) ≡ b
and_true true = refl
and_true false = refl

module _ (own own' : List (ℕ × BTreeSet ℕ)) (look look' : ℕ → Option Watch) (h : AreOwned own look) where
  -- nothing changed
  pub owned_same : ((n : ℕ) → look' n ≡ look n) → ((c n : ℕ) → is_own own' c n ≡ is_own own c n) → AreOwned own' look'
  owned_same same is c n = is c n ∙ h c n ∙ sym (ap (passes (is_of c)) (same n))

  -- a watch more
  pub owned_more : (m : ℕ) (w : Watch) → look m ≡ None → ((n : ℕ) → look' n ≡ cond (nat_eq m n) (Some w) (look n)) → ((c n : ℕ) → is_own own' c n ≡ (is_own own c n || (nat_eq w.conn c && nat_eq m n))) → AreOwned own' look'
  owned_more m w free there put c n = put c n ∙ by (nat_eq m n) (eqb-true m n) ∙ sym (ap (passes (is_of c)) (there n)) where
    by : (b : Bool) → (b ≡ true → m ≡ n) → (is_own own c n || (nat_eq w.conn c && b)) ≡ passes (is_of c) (cond b (Some w) (look n))
    by true same = ap (λ x. x || (nat_eq w.conn c && true)) (h c n ∙ ap (λ k. passes (is_of c) (look k)) (sym (same refl)) ∙ ap (passes (is_of c)) free) ∙ and_true (nat_eq w.conn c)
    by false same = ap (λ x. is_own own c n || x) (and_false (nat_eq w.conn c)) ∙ or_false (is_own own c n) ∙ h c n

  -- a watch less
  pub owned_less : (m : ℕ) (w : Watch) → look m ≡ Some w → ((n : ℕ) → look' n ≡ cond (nat_eq m n) None (look n)) → ((c n : ℕ) → is_own own' c n ≡ (is_own own c n && not (nat_eq w.conn c && nat_eq m n))) → AreOwned own' look'
  owned_less m w at gone left c n = left c n ∙ by (nat_eq m n) (eqb-true m n) ∙ sym (ap (passes (is_of c)) (gone n)) where
    not_itself : (x : Bool) → (x && not (x && true)) ≡ false
    not_itself true = refl
    not_itself false = refl

    stays : (x y : Bool) → (x && not (y && false)) ≡ x
    stays true true = refl
    stays true false = refl
    stays false y = refl

    by : (b : Bool) → (b ≡ true → m ≡ n) → (is_own own c n && not (nat_eq w.conn c && b)) ≡ passes (is_of c) (cond b None (look n))
    by true same = ap (λ x. x && not (nat_eq w.conn c && true)) (h c n ∙ ap (λ k. passes (is_of c) (look k)) (sym (same refl)) ∙ ap (passes (is_of c)) at) ∙ not_itself (nat_eq w.conn c)
    by false same = stays (is_own own c n) (nat_eq w.conn c) ∙ h c n

  -- a spot less
  pub owned_spotless : (path : List ℕ) (kind : Kind) → ((n : ℕ) → look' n ≡ cond (passes (is_at path kind) (look n)) None (look n))
      → ((c n : ℕ) → is_own own' c n ≡ (is_own own c n && not (passes (same_watch (record { path = path; kind = kind; conn = c })) (look n)))) → AreOwned own' look'
  owned_spotless path kind gone left c n = left c n ∙ ap (λ b. b && not (passes (same_watch (record { path = path; kind = kind; conn = c })) (look n))) (h c n) ∙ by (look n) ∙ sym (ap (passes (is_of c)) (gone n)) where
    one : (d x : Bool) (w : Watch) → nat_eq w.conn c ≡ x → (x && not (d && x)) ≡ passes (is_of c) (cond d None (Some w))
    one true true w e = refl
    one true false w e = refl
    one false true w e = sym e
    one false false w e = sym e

    by : (o : Option Watch) → (passes (is_of c) o && not (passes (same_watch (record { path = path; kind = kind; conn = c })) o)) ≡ passes (is_of c) (cond (passes (is_at path kind) o) None o)
    by None = refl
    by (Some w) = one (is_at path kind w) (nat_eq w.conn c) w refl

  -- a connection less
  pub owned_without : (conn : ℕ) → ((n : ℕ) → look' n ≡ cond (passes (is_of conn) (look n)) None (look n)) → ((c n : ℕ) → is_own own' c n ≡ (is_own own c n && not (nat_eq conn c))) → AreOwned own' look'
  owned_without conn gone left c n = left c n ∙ ap (λ b. b && not (nat_eq conn c)) (h c n) ∙ by (look n) ∙ sym (ap (passes (is_of c)) (gone n)) where
    one : (d x y : Bool) (w : Watch) → nat_eq w.conn conn ≡ d → nat_eq w.conn c ≡ x → nat_eq conn c ≡ y → (x && not y) ≡ passes (is_of c) (cond d None (Some w))
    one true true true w d x y = refl
    one true true false w d x y = no false refl (sym y ∙ sym (ap (λ z. nat_eq z c) (eqb-true w.conn conn d)) ∙ x)
    one true false y w d x e = refl
    one false true true w d x y = no false refl (sym d ∙ ap (nat_eq w.conn) (eqb-true conn c y) ∙ x)
    one false true false w d x y = sym x
    one false false y w d x e = sym x

    by : (o : Option Watch) → (passes (is_of c) o && not (nat_eq conn c)) ≡ passes (is_of c) (cond (passes (is_of conn) o) None o)
    by None = refl
    by (Some w) = one (nat_eq w.conn conn) (nat_eq w.conn c) (nat_eq conn c) w refl refl refl
