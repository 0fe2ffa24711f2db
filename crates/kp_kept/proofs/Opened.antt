-- A node that starts with what its home kept.
use Rattle.std.proofs.Common.{◌≡◌, ℕ, ◌+◌, ◌≤◌, ◌^◌, length, arith, List, Option, Some, None, Result, Ok, Err, refl, ap, sym, subst, ◌∙◌}
use Rattle.std.specs.Prelude.{IfOk}
use Rattle.kp_io.specs.Crash.{Past}
use Rattle.kp_io.specs.declared.disk.Disk.{Ghosts}
use Rattle.kp_model.specs.LogEntry.{LogEntry}
use Rattle.kp_model.specs.State.{empty}
use Rattle.kp_entry.specs.Held.{Held}
use Rattle.kp_snapshot.specs.Snapshots.{Snapshot}
use Rattle.kp_step.specs.Node.{Node}
use Rattle.kp_step.specs.Runs.{begun}
use Rattle.kp_homes.specs.declared.fail.HomeFail.{HomeFail}
use Rattle.kp_homes.specs.declared.fail.HomeFail.TheVariants as home_fail
use Rattle.kp_homes.specs.declared.home.Home.{Home}
use Rattle.kp_homes.specs.declared.kept.Kept0.{Kept0}
use Rattle.kp_homes.specs.Homes as homes
use Rattle.kp_homes.specs.Homes.{IsKept, IsRefused}
use Rattle.kp_homes.specs.Opening.{Found, IsWithin, base_of, booted}
use Rattle.kp_node.specs.Parts.{Parts, node_of}
use Rattle.kp_node.specs.declared.start.Stored.{Stored}
use Rattle.kp_node.specs.Starting.{state_in, term_in}
use Rattle.kp_kept.specs.Ahead.{start_of, nothing_waits, IsAhead, Waiting}
use Rattle.kp_kept.specs.declared.kept.Kept.{Kept}
use Rattle.kp_kept.specs.Keeping.{KeepsUp, waiting_of}
use Rattle.kp_kept.specs.Opening.{Opened, fail_of, StartsWith, begun_with, OpensNode}
use Rattle.kp_kept.proofs.Based.{IsBehind}

-- what was kept, as what the node holds
base_in : (image : Option Snapshot) → ((state_in image).applied ≡ (base_of image).base) × (term_in image ≡ (base_of image).base_term)
unfolding empty
base_in None = (refl, refl)
base_in (Some i) = (refl, refl)

pub room_for : (k : Kept0) (s : Stored) → s ≡ record { boot = k.boot; term = k.term; vote = k.vote; image = k.image; entries = k.rest.items } → IsWithin k.image k.rest.items → (state_in s.image).applied + length s.entries ≤ 2 ^ 62
room_for k s is within =
    let at = (base_in k.image).0 in
    subst (λ (t : Stored). (state_in t.image).applied + length t.entries ≤ 2 ^ 62) (sym is) (omega (arith, at, within))

abbrev held_of : ℕ → ℕ → ℕ → ℕ → List LogEntry → Held
held_of term vote base base_term entries = record { term = term; vote = vote; log = record { base = base; base_term = base_term; entries = entries } }

kept_held : (k : Kept0) (f : Found) → IsKept k f → IsBehind f → held_of k.term k.vote (state_in k.image).applied (term_in k.image) k.rest.items ≡ f.start.held
kept_held k f is b =
    let at = base_in f.image in
    ap (λ (n : ℕ). held_of n k.vote (state_in k.image).applied (term_in k.image) k.rest.items) is.term
    ∙ ap (λ (n : ℕ). held_of f.start.held.term n (state_in k.image).applied (term_in k.image) k.rest.items) is.vote
    ∙ ap (λ (i : Option Snapshot). held_of f.start.held.term f.start.held.vote (state_in i).applied (term_in i) k.rest.items) is.image
    ∙ ap (λ (n : ℕ). held_of f.start.held.term f.start.held.vote n (term_in f.image) k.rest.items) (at.0 ∙ sym b.base)
    ∙ ap (λ (n : ℕ). held_of f.start.held.term f.start.held.vote f.start.held.log.base n k.rest.items) (at.1 ∙ sym b.term)
    ∙ ap (λ (es : List LogEntry). held_of f.start.held.term f.start.held.vote f.start.held.log.base f.start.held.log.base_term es) is.rest

pub begun_so : (me members now : ℕ) (k : Kept0) (f : Found) (p : Parts) → IsKept k f → IsBehind f → StartsWith me members now k p → node_of p ≡ begun_with me members now f
begun_so me members now k f p is b s =
    s.node
    ∙ ap (λ (n : ℕ). begun me members n now (held_of k.term k.vote (state_in k.image).applied (term_in k.image) k.rest.items) (state_in k.image)) is.boot
    ∙ ap (λ (h : Held). begun me members f.start.boot now h (state_in k.image)) (kept_held k f is b)
    ∙ ap (λ (i : Option Snapshot). begun me members f.start.boot now f.start.held (state_in i)) is.image

module _ (me members now : ℕ) (k : Kept0) (f : Found) (kept : IsKept k (booted f)) (behind : IsBehind f) where
  pub opens_node : {H : Type 0} {G : Ghosts H} (r : Opened H G) (is : Result Found HomeFail) → is ≡ Ok f → IfOk r (λ y. StartsWith me members now k y.node) → ((e : HomeFail) → fail_of r ≡ Some e → e ≡ home_fail.NoMemory) → OpensNode me members now r is
  opens_node (Ok y) is e starts only = (f, e, begun_so me members now k (booted f) y.node kept behind starts)
  opens_node (Err x) is e starts only = subst (λ (u : HomeFail). IsRefused u is) (sym (only x.0 refl)) tt

  start_is : (p : Parts) → StartsWith me members now k p → (booted f).start ≡ start_of (node_of p)
  start_is p s = sym (ap (λ (x : Node). start_of x) (begun_so me members now k (booted f) p kept behind s))

  keeps_up : {H : Type 0} {G : Ghosts H} (held : H → Option (List ℕ)) (past : H → Option Past) (home : Home H) (y : Kept H G) → y.home ≡ home → waiting_of y ≡ nothing_waits → StartsWith me members now k y.node
      → homes.Keeps held past home.disks home.second home.journal (booted f) → KeepsUp held past y (booted f)
  keeps_up {H} held past home y same none s keeps = record {
    keeps = subst (λ (h : Home H). homes.Keeps held past h.disks h.second h.journal (booted f)) (sym same) keeps;
    ahead = subst (λ (w : Waiting). IsAhead w (booted f) (node_of y.node)) (sym none) (refl, start_is y.node s);
  }

  pub opens_up : {H : Type 0} {G : Ghosts H} (held : H → Option (List ℕ)) (past : H → Option Past) (home : Home H) (r : Opened H G) (is : Result Found HomeFail) → is ≡ Ok f
      → IfOk r (λ y. y.home ≡ home) → IfOk r (λ y. waiting_of y ≡ nothing_waits) → IfOk r (λ y. StartsWith me members now k y.node)
      → homes.Keeps held past home.disks home.second home.journal (booted f) → IfOk r (λ y. (g : Found) × (is ≡ Ok g) × KeepsUp held past y (booted g))
  opens_up held past home (Ok y) is e same none s keeps = (f, e, keeps_up held past home y same none s keeps)
  opens_up held past home (Err x) is e same none s keeps = tt
