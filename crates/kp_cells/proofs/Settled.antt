-- Cells whose parts are those of a state, with no layer on them.
use Rattle.std.proofs.Common.{◌≡◌, ℕ, Option, refl, ap, sym, ◌∙◌, subst}
use Rattle.std.specs.Prelude.{unwrap_or}
use Rattle.std.specs.Ordering.{nat_cmp, eq_by_cmp, is_eq}
use Rattle.std.specs.Cmp.{nat_cmp_total}
use Rattle.std.proofs.lemmas.Cmp.{tied_itself}
use Rattle.std.specs.Prelude.{cond, Some, Bool, IsSome}
use Rattle.std.specs.FinMap as map
use Rattle.kp_model.specs.State.{State, empty}
use Rattle.kp_cells.specs.Parts.{Parts, parts_of, whole, FitTogether}
use Rattle.kp_cells.specs.Overlays.{Overlays, IsSettled, IsClosed, all_abandoned, settled, root_parts, committed_parts, committed_state, next_in}
use Rattle.kp_cells.proofs.Whole.{whole_parts, fit_together}
use Rattle.kp_cells.proofs.Root.{parts_empty}

-- a value at a key is found there
found : (n : ℕ) → map.get (map.insert (map.empty {R = nat_cmp}) 0 n) 0 ≡ Some n
found n = map.get-insert nat_cmp_total map.empty 0 n 0

-- the next session number that was set is the one that is found
pub next_again : (n : ℕ) → next_in (map.insert map.empty 0 n) ≡ n
next_again n = ap (λ (o : Option ℕ). unwrap_or o 1) (found n)

parts_again : (applied : ℕ) (p : Parts) → committed_parts (settled applied p) ≡ p
parts_again applied p = ap (λ (n : ℕ). record p { next = n }) (next_again p.next)

state_again : (s : State) → committed_state (settled s.applied (parts_of s)) ≡ s
state_again s = ap (whole s.applied) (parts_again s.applied (parts_of s)) ∙ whole_parts s

-- cells that are those of a state stand for it
pub state_is : (o : Overlays) (s : State) → o ≡ settled s.applied (parts_of s) → committed_state o ≡ s
state_is o s e = ap committed_state e ∙ state_again s

pub settled_is : (o : Overlays) (s : State) → o ≡ settled s.applied (parts_of s) → IsSettled o
settled_is o s e =
    let index : o.applied ≡ s.applied = ap (λ (x : Overlays). x.applied) e in
    e ∙ (λ i. settled (sym index i) (parts_of (sym (state_is o s e) i)))

-- what settled cells have
pub settled_parts : (o : Overlays) → IsSettled o → committed_parts o ≡ parts_of (committed_state o)
settled_parts o h = ap committed_parts h ∙ parts_again o.applied (parts_of (committed_state o))

pub settled_fits : (o : Overlays) → IsSettled o → FitTogether (committed_parts o)
settled_fits o h = fit_together (committed_state o) (committed_parts o) (settled_parts o h)

pub settled_closed : (o : Overlays) → IsSettled o → IsClosed o
settled_closed o h = ap (λ (x : Overlays). x.metas.staged) h

pub settled_bare : (o : Overlays) → IsSettled o → all_abandoned o ≡ o
settled_bare o h = ap all_abandoned h ∙ sym h

pub settled_next : (o : Overlays) → IsSettled o → IsSome (map.get o.next.base 0)
settled_next o h = subst (λ (x : Overlays). IsSome (map.get x.next.base 0)) (sym h) (subst IsSome (sym (found (parts_of (committed_state o)).next)) refl)

-- the root alone
pub root_is : settled 0 root_parts ≡ settled 0 (parts_of empty)
root_is = ap (settled 0) (ap (λ (n : ℕ). record root_parts { next = n }) (sym (next_again 1)) ∙ parts_empty (next_in (map.insert map.empty 0 1)) refl)

applied_none : empty.applied ≡ 0
unfolding empty
applied_none = refl

root_at : (o : Overlays) → o ≡ settled 0 root_parts → o ≡ settled empty.applied (parts_of empty)
root_at o e = e ∙ root_is ∙ ap (λ (n : ℕ). settled n (parts_of empty)) (sym applied_none)

pub root_settled : (o : Overlays) → o ≡ settled 0 root_parts → IsSettled o
root_settled o e = settled_is o empty (root_at o e)

pub root_empty : (o : Overlays) → o ≡ settled 0 root_parts → committed_state o ≡ empty
root_empty o e = state_is o empty (root_at o e)
