-- What is known of the sessions and the tree of deadlines, when all sessions are heard again.
use Rattle.std.proofs.Common.{◌≡◌, ◌≢◌, ℕ, zero, suc, ◌+◌, ◌<◌, ◌≤◌, inl, inr, cond, nat_eq, List, [], ◌∷◌, length, slice_get, get_or, Option, Some, None, refl, ap, sym, ◌∙◌, arith}
use Rattle.std.specs.Option.{option_map}
use Rattle.std.proofs.Math.ListN.{set}
use Rattle.std.specs.Map.{lookup}
use Rattle.std.proofs.lemmas.Option.{same_Some, slice_get_within}
use Rattle.std.proofs.lemmas.Bool.{lt-ltb, le-ltb}
use Rattle.std.proofs.lemmas.Bool.Decides.{eqb_tells}
use Rattle.kp_expiry.specs.declared.heard.Heard.{Heard}
use Rattle.kp_expiry.specs.declared.expiry.Known.{Known}
use Rattle.kp_expiry.specs.declared.tree.Slot.{Slot}
use Rattle.kp_expiry.specs.Deadline.{deadline}
use Rattle.kp_expiry.specs.Nodes.{tag, tags}
use Rattle.kp_expiry.specs.Index.{heard_in, heard_at, heard_again, known_again, known_at, known_before, IsIndex}
use Rattle.kp_expiry.proofs.Mended.{le_or}
use Rattle.kp_expiry.proofs.Indexed.{here, apart, entry_of, index_heard}

-- ---- one session
module _ (known : List (ℕ × Known)) (ts : List (ℕ × ℕ)) (h : IsIndex known ts) (now node d session : ℕ) (stands : slice_get ts node ≡ Some (d, session)) where
  pub found : (c : Known) × (lookup (nat_eq session) known ≡ Some c) × (c.node ≡ node)
  found = entry_of known ts h session node (sym (h.back node (d, session) stands))

  pub is_heard : Some (heard_again now found.0.heard) ≡ option_map (heard_again now) (heard_in (lookup (nat_eq session) known))
  is_heard = ap (λ o. option_map (heard_again now) (heard_in o)) (sym found.1)

  module _ (known' : List (ℕ × Known)) (change : (k : ℕ) → lookup (nat_eq k) known' ≡ cond (nat_eq session k) (option_map (known_again now) (lookup (nat_eq k) known)) (lookup (nat_eq k) known)) where
    other_node : (k : ℕ) (b : Known) → session ≢ k → lookup (nat_eq k) known ≡ Some b → b.node ≢ node
    other_node k b q e = λ n. q (ap (λ (t : ℕ × ℕ). t.1) (same_Some _ _ (sym stands ∙ ap (slice_get ts) (sym n) ∙ h.there k b e)))

    its_own : (k : ℕ) → session ≡ k → option_map (known_again now) (lookup (nat_eq k) known) ≡ option_map (known_at node now) (lookup (nat_eq k) known)
    its_own k p =
        let was : lookup (nat_eq k) known ≡ Some found.0 = ap (λ q. lookup (nat_eq q) known) (sym p) ∙ found.1 in
        ap (option_map (known_again now)) was
        ∙ sym (ap (option_map (known_at node now)) was ∙ ap Some (here found.0.node node (known_again now found.0) found.0 found.2))

    as_was : (k : ℕ) → session ≢ k → lookup (nat_eq k) known ≡ option_map (known_at node now) (lookup (nat_eq k) known)
    as_was k q = by_case (lookup (nat_eq k) known) refl where
      by_case : (o : Option Known) → lookup (nat_eq k) known ≡ o → o ≡ option_map (known_at node now) o
      by_case None e = refl
      by_case (Some b) e = sym (ap Some (apart b.node node (known_again now b) b (other_node k b q e)))

    pub known_then : (k : ℕ) → lookup (nat_eq k) known' ≡ option_map (known_at node now) (lookup (nat_eq k) known)
    known_then k = change k ∙ elim (eqb_tells session k) [
      | inl p ↦ here session k (option_map (known_again now) (lookup (nat_eq k) known)) (lookup (nat_eq k) known) p.1 ∙ its_own k p.1
      | inr p ↦ apart session k (option_map (known_again now) (lookup (nat_eq k) known)) (lookup (nat_eq k) known) p.1 ∙ as_was k p.1
    ]

    as_heard : (k : ℕ) → lookup (nat_eq k) known' ≡ cond (nat_eq session k) (heard_at (heard_again now found.0.heard) (lookup (nat_eq k) known)) (lookup (nat_eq k) known)
    as_heard k = change k ∙ elim (eqb_tells session k) [
      | inl p ↦
          let was : lookup (nat_eq k) known ≡ Some found.0 = ap (λ q. lookup (nat_eq q) known) (sym p.1) ∙ found.1 in
          ap (λ o. cond (nat_eq session k) (option_map (known_again now) o) o) was
          ∙ sym (ap (λ o. cond (nat_eq session k) (heard_at (heard_again now found.0.heard) o) o) was)
      | inr p ↦
          apart session k (option_map (known_again now) (lookup (nat_eq k) known)) (lookup (nat_eq k) known) p.1
          ∙ sym (apart session k (heard_at (heard_again now found.0.heard) (lookup (nat_eq k) known)) (lookup (nat_eq k) known) p.1)
    ]

    pub index_then : (value : Heard) → Some value ≡ option_map (heard_again now) (heard_in (lookup (nat_eq session) known)) → (ts' : List (ℕ × ℕ)) → ts' ≡ set ts node (deadline value, session) → IsIndex known' ts'
    index_then value is ts' e =
        index_heard known ts h known' session node (heard_again now found.0.heard) as_heard (h.back node (d, session) stands) ts'
        (e ∙ ap (λ v. set ts node (deadline v, session)) (same_Some value (heard_again now found.0.heard) (is ∙ sym is_heard)))

-- ---- one node after another
one_more : (n now : ℕ) (c : Known) → known_at n now (known_before n now c) ≡ known_before (n + 1) now c
one_more n now c = elim (le_or c.node n) [
  | inl l ↦
      ap (λ b. known_at n now (cond b (known_again now c) c)) (lt-ltb c.node n l)
      ∙ apart c.node n (known_again now (known_again now c)) (known_again now c) (λ e. omega (arith, l, e))
      ∙ sym (ap (λ b. cond b (known_again now c) c) (lt-ltb c.node (n + 1) (omega (arith, l))))
  | inr l ↦
      ap (λ b. known_at n now (cond b (known_again now c) c)) (le-ltb c.node n l)
      ∙ elim (eqb_tells c.node n) [
        | inl p ↦ here c.node n (known_again now c) c p.1 ∙ sym (ap (λ b. cond b (known_again now c) c) (lt-ltb c.node (n + 1) (omega (arith, p.1))))
        | inr p ↦ apart c.node n (known_again now c) c p.1 ∙ sym (ap (λ b. cond b (known_again now c) c) (le-ltb c.node (n + 1) (omega (arith, l, p.1))))
      ]
]

pub next_known : (n now : ℕ) (o : Option Known) → option_map (known_at n now) (option_map (known_before n now) o) ≡ option_map (known_before (n + 1) now) o
next_known n now None = refl
next_known n now (Some c) = ap Some (one_more n now c)

pub none_known : (now : ℕ) (o : Option Known) → o ≡ option_map (known_before 0 now) o
none_known now None = refl
none_known now (Some c) = sym (ap (λ b. Some (cond b (known_again now c) c)) (le-ltb c.node 0 (omega arith)))

pub all_known : (known : List (ℕ × Known)) (ts : List (ℕ × ℕ)) → IsIndex known ts → (n now : ℕ) → length ts ≤ n → (k : ℕ) → option_map (known_before n now) (lookup (nat_eq k) known) ≡ option_map (known_again now) (lookup (nat_eq k) known)
all_known known ts h n now l k = by_case (lookup (nat_eq k) known) refl where
  by_case : (o : Option Known) → lookup (nat_eq k) known ≡ o → option_map (known_before n now) o ≡ option_map (known_again now) o
  by_case None e = refl
  by_case (Some c) e = ap (λ b. Some (cond b (known_again now c) c)) (lt-ltb c.node n (omega (arith, l, slice_get_within ts c.node (deadline c.heard, k) (h.there k c e))))

-- ---- the map
pub heard_known : (now : ℕ) (o : Option Known) → heard_in (option_map (known_again now) o) ≡ option_map (heard_again now) (heard_in o)
heard_known now None = refl
heard_known now (Some c) = refl

-- the node's deadline and session
pub tag_at : (slots : List Slot) (node : ℕ) (d : Slot) → node < length slots → slice_get (tags slots) node ≡ Some (tag (get_or slots node d))
tag_at [] node d l = absurd (omega (arith, l))
tag_at (s ∷ slots) zero d l = refl
tag_at (s ∷ slots) (suc node) d l = tag_at slots node d (omega (arith, l))
