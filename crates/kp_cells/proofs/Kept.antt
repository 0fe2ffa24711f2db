-- Which paths are in use after a path has got a number, and what is kept of the parts.
use Rattle.std.proofs.Common.{◌≡◌, ℕ, Bool, true, false, cond, nat_eq, ◌||◌, List, [], ◌∷◌, Some, is_some, refl, ap, sym, ◌∙◌, subst}
use Rattle.std.specs.Str.{bytes_eq}
use Rattle.std.specs.Ordering.{nat_cmp}
use Rattle.std.specs.Cmp.{nat_eq_equiv}
use Rattle.std.specs.FinMap.{get, get-empty}
use Rattle.std.proofs.lemmas.Bool.{eqb-true}
use Rattle.kp_layers.specs.Layering.{Layering, empty_layering}
use Rattle.kp_model.specs.declared.node.Acl.{Acl}
use Rattle.kp_model.specs.declared.node.Meta.{Meta}
use Rattle.kp_model.specs.declared.session.Session.{Session}
use Rattle.kp_model.specs.State.{path_cmp}
use Rattle.kp_cells.specs.Naming.{Naming, no_names}
use Rattle.kp_cells.specs.Traced.{Trace, no_trace, left, IsTraced, AreUsed, AreKept}
use Rattle.kp_cells.proofs.Named.{no_number}
use Rattle.kp_cells.proofs.Forgotten.{nothing_is}
use Rattle.kp_cells.proofs.Released.{left_true, right_true, one_of, used_still}
use Rattle.kp_cells.proofs.Traces.{traced_same}

-- a number that a path has got
module _ (names given : Naming) (path : List ℕ) (number : ℕ) (used used' : ℕ → Bool)
    (only : (p : List ℕ) → get given.numbers p ≡ cond (bytes_eq path p) (Some number) (get names.numbers p))
    (was : AreUsed names used) (kept : (n : ℕ) → used n ≡ true → used' n ≡ true) where
  old_or_new : (p : List ℕ) (n : ℕ) (b : Bool) → cond b (Some number) (get names.numbers p) ≡ Some n → (used' n || nat_eq number n) ≡ true
  old_or_new p n true e = let same : number ≡ n = cc in right_true (used' n) (nat_eq number n) (ap (λ k. nat_eq k n) same ∙ nat_eq_equiv.refl n)
  old_or_new p n false e = left_true (used' n) (nat_eq number n) (kept n (was p n e))

  given_used : AreUsed given (λ n. used' n || nat_eq number n)
  given_used p n e = old_or_new p n (bytes_eq path p) (sym (only p) ∙ e)

  -- where it is written, it is in use
  pub used_then : used' number ≡ true → AreUsed given used'
  used_then here p n e = one_of (used' n) (nat_eq number n) (λ u. u) (λ same. ap used' (sym (eqb-true number n same)) ∙ here) (given_used p n e)

  -- where it isn't, it is given back unless it was in use before
  pub used_in_vain : (names' : Naming) → ((p : List ℕ) → get names'.numbers p ≡ left used' (number ∷ []) (get given.numbers p)) → AreUsed names' used'
  used_in_vain names' numbers = used_still given names' used' (number ∷ []) numbers (λ n. used' n || nat_eq number n) given_used (λ n u v.
      one_of (used' n) (nat_eq number n)
      (λ w. absurd (no_number (used' n) w v))
      (λ same. left_true (nat_eq n number) false (nat_eq_equiv.symm n number ∙ same))
      u)

-- only the room of the trace has changed
pub kept_room : (names : Naming) (t t' : Trace) (metas : Layering nat_cmp Meta) (contents : Layering nat_cmp (List ℕ)) (acls : Layering nat_cmp (List Acl)) (children : Layering nat_cmp (Unit {0})) (owners : Layering nat_cmp ℕ) (sessions : Layering nat_cmp Session) (next : Layering nat_cmp ℕ) → t'.layers ≡ t.layers → t'.staged ≡ t.staged → AreKept names t metas contents acls children owners sessions next → AreKept names t' metas contents acls children owners sessions next
kept_room names t t' metas contents acls children owners sessions next layers staged h = record {
  held = h.held;
  used = h.used;
  open_too = ap is_some staged ∙ h.open_too;
  metas_traced = traced_same t t' metas layers staged h.metas_traced;
  contents_traced = traced_same t t' contents layers staged h.contents_traced;
  acls_traced = traced_same t t' acls layers staged h.acls_traced;
  children_traced = traced_same t t' children layers staged h.children_traced;
  owners_traced = traced_same t t' owners layers staged h.owners_traced;
}

-- where no path has a number
pub none_used : (names : Naming) (used : ℕ → Bool) → names ≡ no_names → AreUsed names used
none_used names used e p n is = absurd (nothing_is (sym (get-empty path_cmp p) ∙ ap (λ m. get m.numbers p) (sym e) ∙ is))

pub traced_empty : {V : Type 0} (t : Trace) (l : Layering nat_cmp V) → t ≡ no_trace → l ≡ empty_layering → IsTraced t l
traced_empty t l e f = subst (λ s. IsTraced s l) (sym e) (subst (IsTraced no_trace) (sym f) (record { layers = tt; staged = λ n w. absurd (no_number false w refl) }))
