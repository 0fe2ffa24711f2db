-- How many keys have a value in the base map.
use Rattle.std.proofs.Common.{◌≡◌, ℕ, zero, suc, ◌+◌, ◌-◌, ◌≤◌, Bool, true, false, true≢false, cond, nat_eq, List, [], Option, Some, None, refl, ap, sym, ◌∙◌, arith}
use Rattle.std.specs.Prelude.{is_some}
use Rattle.std.specs.Ordering.{nat_cmp}
use Rattle.std.specs.Cmp.{nat_cmp_total}
use Rattle.std.specs.Map.{lookup}
use Rattle.std.specs.FinMap as fin
use Rattle.std.specs.FinMap.{FinMap}
use Rattle.kp_layers.specs.declared.cells.Cell.{Cell}
use Rattle.kp_layers.specs.Overlay.{put}
use Rattle.kp_layers.specs.Chains.{base_of, committed_in, recounted, IsCounted}
use Rattle.kp_layers.proofs.Chained.{get-base_of, base_kept, base_put}

split : (b : Bool) (n : ℕ) → cond b n (n + 1) ≡ recounted b true n
split true n = refl
split false n = refl

cut : (b : Bool) (n : ℕ) → cond b (n - 1) n ≡ recounted b false n
cut true n = refl
cut false n = refl

recounted_most : (b c : Bool) (n first : ℕ) → n ≤ first → recounted b c n ≤ first + 1
recounted_most true true n first h = omega (arith, h)
recounted_most true false n first h = omega (arith, h)
recounted_most false true n first h = omega (arith, h)
recounted_most false false n first h = omega (arith, h)

module _ {V : Type 0} where
  -- a key that has a value is one of those that are counted
  pub some_there : (m : FinMap nat_cmp V) (k : ℕ) → is_some (fin.get m k) ≡ true → 1 ≤ fin.len m
  some_there m k h = by_len (fin.len m) refl where
    by_len : (n : ℕ) → fin.len m ≡ n → 1 ≤ n
    by_len zero e = absurd (true≢false (sym h ∙ ap (λ (x : FinMap nat_cmp V). is_some (fin.get x k)) (fin.empty_of_len m e) ∙ ap is_some (fin.get-empty nat_cmp k)))
    by_len (suc n) e = omega arith

  pub len-put : (m : FinMap nat_cmp V) (k : ℕ) (v : Option V) → fin.len (put m k v) ≡ recounted (is_some (fin.get m k)) (is_some v) (fin.len m)
  len-put m k (Some v) = fin.len-insert nat_cmp_total m k v ∙ split (is_some (fin.get m k)) (fin.len m)
  len-put m k None = fin.len-remove nat_cmp_total m k ∙ cut (is_some (fin.get m k)) (fin.len m)

  pub counted_empty : (cells : List (ℕ × Cell V)) → cells ≡ [] → IsCounted cells 0 0
  counted_empty cells e = record { many = sym (ap (λ es. fin.len (base_of es)) e ∙ fin.len-empty nat_cmp V); below = omega arith }

  pub counted_kept : (old new : List (ℕ × Cell V)) (first count : ℕ) → ((k : ℕ) → committed_in (lookup (nat_eq k) new) ≡ committed_in (lookup (nat_eq k) old)) → IsCounted old first count → IsCounted new first count
  counted_kept old new first count same h = record { many = h.many ∙ ap fin.len (sym (base_kept old new same)); below = h.below }

  pub counted_same : (old new : List (ℕ × Cell V)) (first count : ℕ) → new ≡ old → IsCounted old first count → IsCounted new first count
  counted_same old new first count same h = counted_kept old new first count (λ k. ap (λ es. committed_in (lookup (nat_eq k) es)) same) h

  pub counted_there : (cells : List (ℕ × Cell V)) (first count k : ℕ) (o : Option V) → o ≡ committed_in (lookup (nat_eq k) cells) → IsCounted cells first count → is_some o ≡ true → 1 ≤ count
  counted_there cells first count k o e h some = omega (arith, h.many, some_there (base_of cells) k (ap is_some (get-base_of cells k ∙ sym e) ∙ some))

  pub counted_put : (old new : List (ℕ × Cell V)) (first count key : ℕ) (before value : Option V) → before ≡ committed_in (lookup (nat_eq key) old) → ((k : ℕ) → committed_in (lookup (nat_eq k) new) ≡ cond (nat_eq key k) value (committed_in (lookup (nat_eq k) old))) → IsCounted old first count → IsCounted new (first + 1) (recounted (is_some before) (is_some value) count)
  counted_put old new first count key before value was change h = record {
    many = ap (recounted (is_some before) (is_some value)) h.many
        ∙ ap (λ b. recounted b (is_some value) (fin.len (base_of old))) (ap is_some (was ∙ sym (get-base_of old key)))
        ∙ sym (len-put (base_of old) key value)
        ∙ ap fin.len (sym (base_put old new key value change));
    below = recounted_most (is_some before) (is_some value) count first h.below;
  }

  -- a key that has a value gets another
  pub counted_replaced : (old new : List (ℕ × Cell V)) (first count key : ℕ) (value : V) → is_some (fin.get (base_of old) key) ≡ true → ((k : ℕ) → committed_in (lookup (nat_eq k) new) ≡ cond (nat_eq key k) (Some value) (committed_in (lookup (nat_eq k) old))) → IsCounted old first count → IsCounted new first count
  counted_replaced old new first count key value there change h = record {
    many = h.many
        ∙ ap (λ b. recounted b true (fin.len (base_of old))) (sym there)
        ∙ sym (len-put (base_of old) key (Some value))
        ∙ ap fin.len (sym (base_put old new key (Some value) change));
    below = h.below;
  }
