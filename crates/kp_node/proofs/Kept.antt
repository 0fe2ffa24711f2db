-- The entries of a log as records, one by one.
use Rattle.std.proofs.Common.{◌≡◌, ℕ, ◌+◌, ◌-◌, ◌≤◌, Bool, true, false, List, [], ◌∷◌, ◌++◌, take, Option, Some, None, refl, ap, sym, ◌∙◌, arith, append-nil, append_assoc}
use Rattle.std.proofs.lemmas.List.{map-append, take_all}
use Rattle.std.proofs.lemmas.List.Folds.{list_any-append}
use Rattle.std.specs.Prelude.{slice_get, option_map, ◌||◌, cond, nat_le}
use Rattle.std.proofs.lemmas.Bool.Decides.{nat_tests}
use Rattle.kp_model.specs.LogEntry.{LogEntry}
use Rattle.kp_entry.specs.declared.record.Record.{Record}
use Rattle.kp_entry.specs.declared.record.Record.TheVariants as record_
use Rattle.kp_entry.specs.Heads.{appended}
use Rattle.kp_entry.specs.Log.{Log, entry_at, last_index}
use Rattle.kp_entry.specs.Records.{is_base, has_base}
use Rattle.kp_node.proofs.Appended.{taken_on}

-- ---- no base is among them

both_open : (a b : Bool) → a ≡ false → b ≡ false → (a || b) ≡ false
both_open true b p q = absurd (cc p)
both_open false b p q = q

pub appended_open : (es : List LogEntry) → has_base (appended es) ≡ false
appended_open [] = refl
appended_open (e ∷ es) = appended_open es

pub open_behind : (old rs new : List Record) → has_base old ≡ false → has_base rs ≡ false → new ≡ old ++ rs → has_base new ≡ false
open_behind old rs new e f is = ap has_base is ∙ list_any-append is_base old rs ∙ both_open (has_base old) (has_base rs) e f

-- ---- one entry more

module _ (log : Log) (old : List Record) where
  -- the records of the entries before this index are added
  abbrev pub IsAdded : ℕ → List Record → Type 0
  IsAdded k rs = rs ≡ old ++ appended (take (k - log.base) log.entries)

  entry_there : (k : ℕ) → log.base ≤ k → entry_at log (k + 1) ≡ slice_get log.entries (k - log.base)
  entry_there k le =
      let above : nat_le (k + 1) log.base ≡ false = grind (arith, nat_tests) in
      let place : k + 1 - log.base - 1 ≡ k - log.base = omega (arith, le) in
      ap (λ (b : Bool). cond b None (slice_get log.entries (k + 1 - log.base - 1))) above ∙ ap (λ (n : ℕ). slice_get log.entries n) place

  one_more_of : (rs new : List Record) (k : ℕ) → log.base ≤ k → IsAdded k rs → (o : Option LogEntry) → o ≡ slice_get log.entries (k - log.base) → Some new ≡ option_map (λ (e : LogEntry). rs ++ record_.Append e ∷ []) o → IsAdded (k + 1) new
  one_more_of rs new k le so_far None is one = absurd (cc one)
  one_more_of rs new k le so_far (Some e) is one =
      let next : k + 1 - log.base ≡ k - log.base + 1 = omega (arith, le) in
      let made : new ≡ rs ++ record_.Append e ∷ [] = cc one in
      made ∙ ap (λ (xs : List Record). xs ++ record_.Append e ∷ []) so_far
      ∙ append_assoc old (appended (take (k - log.base) log.entries)) (record_.Append e ∷ [])
      ∙ ap (λ (xs : List Record). old ++ xs)
      (sym (ap appended (ap (λ (n : ℕ). take n log.entries) next ∙ taken_on log.entries (k - log.base) e is) ∙ map-append (λ (x : LogEntry). record_.Append x) (take (k - log.base) log.entries) (e ∷ [])))

  pub one_more : (rs new : List Record) (k : ℕ) → log.base ≤ k → IsAdded k rs → Some new ≡ option_map (λ (e : LogEntry). rs ++ record_.Append e ∷ []) (entry_at log (k + 1)) → IsAdded (k + 1) new
  one_more rs new k le so_far one = one_more_of rs new k le so_far (entry_at log (k + 1)) (entry_there k le) one

  pub all_added : (rs : List Record) (k : ℕ) → last_index log ≤ k → IsAdded k rs → rs ≡ old ++ appended log.entries
  all_added rs k le so_far = so_far ∙ ap (λ (es : List LogEntry). old ++ appended es) (take_all (k - log.base) log.entries (omega (arith, le)))

  pub none_added : IsAdded log.base old
  none_added = sym (append-nil old) ∙ ap (λ (n : ℕ). old ++ appended (take n log.entries)) zero_left
    where
      zero_left : 0 ≡ log.base - log.base
      zero_left = omega arith

pub still_open : (rs new : List Record) (o : Option LogEntry) → has_base rs ≡ false → Some new ≡ option_map (λ (e : LogEntry). rs ++ record_.Append e ∷ []) o → has_base new ≡ false
still_open rs new None none one = absurd (cc one)
still_open rs new (Some e) none one = let made : new ≡ rs ++ record_.Append e ∷ [] = cc one in open_behind rs (record_.Append e ∷ []) new none refl made
