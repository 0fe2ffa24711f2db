-- A committed value that takes the place of another.
use Rattle.std.proofs.Common.{◌≡◌, ℕ, ◌+◌, Bool, true, false, cond, List, Option, Some, None, IsSome, refl, sym, ap, ◌∙◌}
use Rattle.std.specs.Prelude.{nat_eq}
use Rattle.std.specs.Map.{lookup}
use Rattle.std.specs.BTreeMap.{BTreeMap}
use Rattle.kp_layers.specs.declared.cells.Cell.{Cell}
use Rattle.kp_layers.specs.declared.history.Write.{Write}
use Rattle.kp_layers.specs.Chains.{committed_in, HasChains, Commits}
use Rattle.kp_layers.specs.Overlay.{Past}
use Rattle.std.specs.FinMap as map
use Rattle.kp_layers.specs.Grouped.{is_of, one, positive, times, HasIndex}

pub cell_there : {V : Type 0} (o : Option (Cell V)) → IsSome (committed_in o) → IsSome o
cell_there None h = h
cell_there (Some c) h = refl

true_either : (b c : Bool) → c ≡ true → cond b true c ≡ true
true_either true c e = refl
true_either false c e = e

pub chains_kept : {V : Type 0} (old new : List (ℕ × Cell V)) (log : List (Write V)) (first key : ℕ) (value : Option V) → HasChains old log first → Commits first old new key value → HasChains new log first
chains_kept old new log first key value h c = record {
  newest = λ k. c.newest k ∙ h.newest k;
  previous = h.previous;
  filled = λ k. c.filled k ∙ true_either (nat_eq key k) _ (h.filled k);
  fits = h.fits;
}

in_none : {G V : Type 0} (eq : G → G → Bool) (g : G) (o : Option V) → is_of eq (λ _. None) g o ≡ false
in_none eq g None = refl
in_none eq g (Some v) = refl

pub index_kept : {G V : Type 0} (eq : G → G → Bool) (groups : List (G × BTreeMap ℕ ℕ)) (old new : List (ℕ × Cell V)) (log : List (Write V)) → HasIndex eq (λ _. None) groups old log → HasIndex eq (λ _. None) groups new log
index_kept {G} {V} eq groups old new log h = record {
  counted = λ g k. h.counted g k ∙ ap (λ (b : Bool). positive (one b + times eq (λ _. None) g k log)) (in_none eq g (committed_in (lookup (nat_eq k) old)) ∙ sym (in_none eq g (committed_in (lookup (nat_eq k) new))));
  filled = h.filled;
}

pub base_replaced : {V : Type 0} (p q : Past V) (key : ℕ) (value : V) → p ≡ q → ◌≡◌ {A = Past V} (record { base = map.insert p.base key value; writes = p.writes }) (record { base = map.insert q.base key value; writes = q.writes })
base_replaced p q key value e = λ i. record { base = map.insert (e i).base key value; writes = (e i).writes }
