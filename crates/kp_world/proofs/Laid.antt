-- How a larger world is laid on the network: a change of one member, seen through its part that is the network's.
use Rattle.std.proofs.Common.{◌≡◌, ℕ, Bool, true, false, cond, refl, List, ◌++◌, take, Option, None, Some}
use Rattle.std.specs.Prelude.{nat_eq}
use mathlib.Core.Path.{fun_ext}
use Rattle.kp_raft.specs.Numbers.{set_at}
use Rattle.kp_world.specs.Net.{Node, Sent, Net, Act, behind_records, sent_with, did}

pub seen_change : {A B : Type 0} (p : A → B) (f : ℕ → A) (k : ℕ) (x : A) → (λ j. p (set_at f k x j)) ≡ set_at (λ j. p (f j)) k (p x)
seen_change p f k x = fun_ext (λ j. here j (nat_eq j k))
  where
    here : (j : ℕ) (t : Bool) → p (cond t x (f j)) ≡ cond t (p x) (p (f j))
    here j true = refl
    here j false = refl

-- a member with something more
pub record Large (X : Type 0) : Type 0 where
  pub node : Node
  pub rest : X

pub record World (I X : Type 0) : Type 0 where
  pub members : ℕ → Large X
  pub sent : List (Sent I)

abbrev pub below : {I X : Type 0} → World I X → Net I
below w = record { nodes = λ k. (w.members k).node; sent = w.sent }

-- a step whose Raft part is this act, and which leaves this rest
abbrev pub large_did : {I X : Type 0} → World I X → ℕ → Act I → X → Option ℕ → World I X
large_did w k a x None = record {
  members = set_at w.members k (record { node = record { stored = behind_records a.list (w.members k).node.stored a.out.records; running = Some a.out.running; done = a.done }; rest = x });
  sent = sent_with a.list a.out.mail ++ w.sent;
}
large_did w k a x (Some j) = record {
  members = set_at w.members k (record { node = record { stored = behind_records a.list (w.members k).node.stored (take j a.out.records); running = None; done = (w.members k).node.done }; rest = x });
  sent = w.sent;
}

pub laid_did : {I X : Type 0} (w : World I X) (k : ℕ) (a : Act I) (x : X) (stop : Option ℕ) → below (large_did w k a x stop) ≡ did (below w) k a stop
laid_did w k a x None = λ i. record { nodes = seen_change (λ m. m.node) w.members k (record { node = record { stored = behind_records a.list (w.members k).node.stored a.out.records; running = Some a.out.running; done = a.done }; rest = x }) i; sent = sent_with a.list a.out.mail ++ w.sent }
laid_did w k a x (Some j) = λ i. record { nodes = seen_change (λ m. m.node) w.members k (record { node = record { stored = behind_records a.list (w.members k).node.stored (take j a.out.records); running = None; done = (w.members k).node.done }; rest = x }) i; sent = w.sent }
