-- An event that is taken and kept at once.
use Rattle.std.proofs.Common.{◌≡◌, ◌⊎◌, inl, inr, ℕ, ◌+◌, ◌≤◌, ◌<◌, ◌^◌, true, List, [], ◌∷◌, length, Option, Some, None, Ok, Err, refl, ap, sym, subst, ◌∙◌, arith}
use Rattle.std.specs.Prelude.{◌↔◌, ◌==◌, IsSome, IsTrue}
use Rattle.std.proofs.lemmas.Bool.Decides.{nat_tests}
use Rattle.kp_io.specs.Crash.{Past, HasRoom}
use Rattle.kp_io.specs.Faults.{Rose}
use Rattle.kp_io.specs.declared.disk.Disk.{Ghosts}
use Rattle.kp_entry.specs.declared.record.Record.{Record}
use Rattle.kp_raft.specs.declared.mail.Mail.{Mail}
use Rattle.kp_event.specs.declared.event.NodeEvent.{NodeEvent}
use Rattle.kp_event.specs.declared.thought.Thought.{Thought}
use Rattle.kp_event.specs.declared.fail.KeptFail.{KeptFail}
use Rattle.kp_event.specs.declared.fail.KeptFail.TheVariants as fail
use Rattle.kp_event.specs.declared.fail.Why.{Why}
use Rattle.kp_snapshot.specs.Snapshots.{Snapshot}
use Rattle.kp_step.specs.Step.{step}
use Rattle.kp_homes.specs.declared.home.Home.{Home}
use Rattle.kp_homes.specs.Homes.{FindsEither, FindsOnly}
use Rattle.kp_homes.specs.Opening.{Found}
use Rattle.kp_node.specs.declared.outcome.Outcome.{Outcome}
use Rattle.kp_node.specs.Facts.{words}
use Rattle.kp_node.specs.Parts.{Parts, node_of}
use Rattle.kp_node.specs.Steps.{Steps, images}
use Rattle.kp_kept.specs.declared.kept.Kept.{Kept}
use Rattle.kp_kept.specs.Answers.{IsOfThink}
use Rattle.kp_kept.specs.Ahead.{Waiting, all_records, all_want, nothing_waits, waits_behind, found_then}
use Rattle.kp_kept.specs.Events.{EventEnds, IsKeptWith, IsTaken, found_with}
use Rattle.kp_kept.specs.Flushing.{Flushes}
use Rattle.kp_kept.specs.Keeping.{KeepsUp, OnlyWaits, found_behind, waiting_of}
use Rattle.kp_kept.specs.Thinking.{Letter, Moves}

-- ---- nothing waits

-- steps that want something want nothing together only where there are none
pub none_want : (rss : List (List Record)) → all_want rss ≡ true → all_records rss ≡ [] → rss ≡ []
none_want [] w e = refl
none_want ([] ∷ rss) w e = absurd (cc w)
none_want ((r ∷ rs) ∷ rss) w e = absurd (cc e)

pub image_none : (image : Option Snapshot) (rs : List Record) → ◌≡◌ {A = Waiting} (record { image = image; records = rs }) nothing_waits → image ≡ None
image_none image rs e = ap (λ (w : Waiting). w.image) e

pub records_none : (image : Option Snapshot) (rs : List Record) → ◌≡◌ {A = Waiting} (record { image = image; records = rs }) nothing_waits → rs ≡ []
records_none image rs e = ap (λ (w : Waiting). w.records) e

same : (a i : ℕ) → (a == i) ≡ true → a ≡ i
same a i e = grind (arith, nat_tests)

pub some_waits : (image : Option Snapshot) (rss : List (List Record)) (n : ℕ) → n ≡ length rss → all_want rss ≡ true → (n ≡ 0 → ⊥) → IsTrue (n == 0) ↔ (◌≡◌ {A = Waiting} (record { image = image; records = all_records rss }) nothing_waits)
some_waits image rss n len want some = (λ t. absurd (some (same n 0 t)), λ e. absurd (some (len ∙ ap length (none_want rss want (records_none image (all_records rss) e)))))

module _ {H : Type 0} {G : Ghosts H} (held : H → Option (List ℕ)) (past : H → Option Past) (faults : Kept H G → ℕ) (x m y : Kept H G) (e : NodeEvent (Mail Snapshot)) where
  -- ---- a think, and then a flush

  module _ (o : Outcome) (node : y.node ≡ m.node) (waits : waiting_of m ≡ waits_behind (waiting_of x) o.records o.image) (home : m.home ≡ x.home) where
    found_so : (f : Found) → found_behind m f ≡ found_with x o f (node_of y.node)
    found_so f = ap (λ (w : Waiting). found_then w f (node_of m.node)) waits ∙ ap (λ (p : Parts). found_then (waits_behind (waiting_of x) o.records o.image) f (node_of p)) (sym node)

    generation_is : x.home.journal.head.generation < 2 ^ 62 → m.home.journal.head.generation < 2 ^ 62
    generation_is below = subst (λ (h : Home H). h.journal.head.generation < 2 ^ 62) (sym home) below

    pub kept_with : ((f : Found) → KeepsUp held past x f → KeepsUp held past m f)
        → ((f : Found) → KeepsUp held past m f → HasRoom y.home.disks.moments → m.home.journal.head.generation < 2 ^ 62 → KeepsUp held past y (found_behind m f))
        → ((f : Found) → KeepsUp held past m f → HasRoom y.home.disks.moments → m.home.journal.head.generation < 2 ^ 62 → FindsOnly y.home.journal.head.node past y.home.disks.moments y.home.disks (found_behind m f))
        → ((f : Found) → KeepsUp held past m f → HasRoom y.home.disks.moments → m.home.journal.head.generation < 2 ^ 62 → FindsEither m.home.journal.head.node past m.home.disks.moments y.home.disks f (found_behind m f))
        → IsKeptWith held past x o y
    kept_with up keeps kept crash = record {
      keeps = λ f k room below. subst (λ (g : Found). KeepsUp held past y g) (found_so f) (keeps f (up f k) room (generation_is below));
      kept = λ f k room below. subst (λ (g : Found). FindsOnly y.home.journal.head.node past y.home.disks.moments y.home.disks g) (found_so f) (kept f (up f k) room (generation_is below));
      crash = λ f k room below. subst (λ (h : Home H). FindsEither h.journal.head.node past h.disks.moments y.home.disks f (found_with x o f (node_of y.node))) home
          (subst (λ (g : Found). FindsEither m.home.journal.head.node past m.home.disks.moments y.home.disks f g) (found_so f) (crash f (up f k) room (generation_is below)));
    }

  -- ---- how it ends

  module _ (o : Outcome) (t : Thought Letter) (v : Moves x.node e o t m.node) (waits : waiting_of m ≡ waits_behind (waiting_of x) o.records o.image) where
    taken : y.node ≡ m.node → waiting_of y ≡ waiting_of m → IsTaken x e y
    taken node still = record {
      outcome = o;
      choices = v.choices;
      steps = subst (λ (p : Parts). Steps (step words images v.choices (node_of x.node) e) x.node p o) (sym node) v.steps;
      waits = still ∙ waits;
    }

    module _ (alive : x.death ≡ None) (home : m.home ≡ x.home) (kept : m.kept ≡ x.kept) where
      pub ends_well : (n : ℕ) → Flushes faults m (Ok n) y → waiting_of y ≡ nothing_waits → faults m ≡ faults x → EventEnds faults x e (Ok t) y
      ends_well n f none same = (alive, f.4.0, f.3 ∙ f.2 ∙ sym v.thought.number_is, none, f.4.1 ∙ same)

      pub ends_badly : (u : KeptFail) → Flushes faults m (Err u) y → waiting_of y ≡ waiting_of m → faults m ≡ faults x → m.death ≡ None
          → (u ≡ fail.NoMemory → waiting_of x ≡ nothing_waits → IsSome o.image) → EventEnds faults x e (Err u) y
      unfolding taken
      ends_badly fail.NoMemory f still same lives wants = (alive, f.2.0, f.1.kept ∙ kept, f.2.1 ∙ home, inr (taken f.1.node still, wants refl))
      ends_badly fail.DiskFault f still same lives wants = (alive, f.2.0, f.1.kept ∙ kept, subst (λ (n : ℕ). Rose n (faults y)) same f.2.1, taken f.1.node still)
      ends_badly (fail.Full slot len) f still same lives wants = (alive, f.2.0, f.1.kept ∙ kept, f.2.1 ∙ home, f.2.2, taken f.1.node still)
      ends_badly (fail.Dead w) f still same lives wants = absurd (cc (f.0, lives))

  -- what a flush that isn't Ok leaves to be found
  node_left : (u : KeptFail) → Flushes faults m (Err u) y → y.node ≡ m.node
  node_left fail.NoMemory f = f.1.node
  node_left fail.DiskFault f = f.1.node
  node_left (fail.Full slot len) f = f.1.node
  node_left (fail.Dead w) f = ap (λ (z : Kept H G). z.node) f.1

  pub left_badly : (u : KeptFail) → Flushes faults m (Err u) y → waiting_of y ≡ waiting_of m → m.home ≡ x.home → (f : Found)
      → FindsEither m.home.journal.head.node past m.home.disks.moments y.home.disks f (found_behind m f)
      → FindsEither x.home.journal.head.node past x.home.disks.moments y.home.disks f (found_behind y f)
  left_badly u fl still home f crash =
      subst (λ (h : Home H). FindsEither h.journal.head.node past h.disks.moments y.home.disks f (found_behind y f)) home
      (subst (λ (g : Found). FindsEither m.home.journal.head.node past m.home.disks.moments y.home.disks f g)
      (ap (λ (w : Waiting). found_then w f (node_of m.node)) (sym still) ∙ ap (λ (p : Parts). found_then (waiting_of y) f (node_of p)) (sym (node_left u fl))) crash)

-- where nothing waited, a step that wants memory to be kept has an image
wants_image_by : (image : Option Snapshot) (rs : List Record) → IsSome (waits_behind nothing_waits rs image).image → IsSome image
wants_image_by None rs some = absurd (cc some)
wants_image_by (Some i) rs some = refl

pub wants_image : (w v : Waiting) (image : Option Snapshot) (rs : List Record) (old new : ℕ) → v ≡ waits_behind w rs image → w ≡ nothing_waits → (w ≡ nothing_waits → old ≡ 0) → new ≤ old + 1 → IsSome v.image ⊎ (2 ≤ new) → IsSome image
wants_image w v image rs old new is none count few (inl some) = wants_image_by image rs (subst (λ (u : Waiting). IsSome (waits_behind u rs image).image) none (subst (λ (u : Waiting). IsSome u.image) is some))
wants_image w v image rs old new is none count few (inr two) = let c = count none in absurd (omega (arith, few, two, c))

-- a refusal that isn't a death is of a node that isn't dead
pub not_dead : (d : Option Why) (u : KeptFail) → ((w : Why) → d ≡ Some w → u ≡ fail.Dead w) → u ≡ fail.NoMemory → d ≡ None
not_dead None u dead is = refl
not_dead (Some w) u dead is = absurd (cc (dead w refl, is))

pub refused_so : {H : Type 0} {G : Ghosts H} (faults : Kept H G → ℕ) (x y : Kept H G) (e : NodeEvent (Mail Snapshot)) (u : KeptFail) → OnlyWaits x y → waiting_of y ≡ waiting_of x
    → ((w : Why) → u ≡ fail.Dead w → x.death ≡ Some w) → (u ≡ fail.NoMemory → x.death ≡ None) → IsOfThink u → EventEnds faults x e (Err u) y
refused_so faults x y e fail.NoMemory same still dead alive only = (alive refl, same.death ∙ alive refl, same.kept, same.home, inl (same.node, still))
refused_so faults x y e fail.DiskFault same still dead alive only = absurd only
refused_so faults x y e (fail.Full slot len) same still dead alive only = absurd only
refused_so faults x y e (fail.Dead w) same still dead alive only = (dead w refl, same, still)
