-- A node with its home behind a torn event.
use Rattle.std.proofs.Common.{◌≡◌, inr, ℕ, ◌≤◌, ◌<◌, ◌^◌, Bool, true, false, cond, List, [], length, take, Option, Some, None, Result, Ok, Err, refl, ap, sym, subst, ◌∙◌}
use Rattle.std.specs.Prelude.{OnErr, OnOk, IfOk, IsSome, nat_lt}
use Rattle.kp_io.specs.Crash.{Past, HasRoom}
use Rattle.kp_io.specs.declared.disk.Disk.{Ghosts}
use Rattle.kp_entry.specs.declared.record.Record.{Record}
use Rattle.kp_entry.specs.Log.{last_index}
use Rattle.kp_raft.specs.declared.mail.Mail.{Mail}
use Rattle.kp_event.specs.declared.event.NodeEvent.{NodeEvent}
use Rattle.kp_event.specs.declared.fail.KeptFail.{KeptFail}
use Rattle.kp_event.specs.declared.fail.KeptFail.TheVariants as fail
use Rattle.kp_event.specs.declared.fail.Why.{Why}
use Rattle.kp_event.specs.declared.fail.Why.TheVariants as why
use Rattle.kp_event.specs.declared.said.Said.{Said}
use Rattle.kp_snapshot.specs.Snapshots.{Snapshot}
use Rattle.kp_step.specs.Choices.{Choices}
use Rattle.kp_step.specs.Step.{step}
use Rattle.kp_homes.specs.declared.home.Home.{Home}
use Rattle.kp_homes.specs.Homes.{FindsEither}
use Rattle.kp_homes.specs.Opening.{Found}
use Rattle.kp_node.specs.declared.outcome.Outcome.{Outcome}
use Rattle.kp_node.specs.Facts.{words}
use Rattle.kp_node.specs.Parts.{Parts, node_of}
use Rattle.kp_node.specs.Steps.{Steps, images}
use Rattle.kp_kept.specs.declared.kept.Kept.{Kept}
use Rattle.kp_kept.specs.declared.tearing.TornStep.{TornStep}
use Rattle.kp_kept.specs.Ahead.{Waiting, nothing_waits, start_of, waits_behind}
use Rattle.kp_kept.specs.Finding.{Has, LeavesEither}
use Rattle.kp_kept.specs.Keeping.{KeepsUp, waiting_of}
use Rattle.kp_kept.specs.Tearing.{HasPart, IsTorn, IsTornOrNot, LeavesPart, TearEnds, TornEnds, WantsNone, part_image, says_none, torn_found}
use Rattle.kp_kept.proofs.Found.{finds_only}
use Rattle.kp_kept.proofs.Stepped.{leads}
use Rattle.kp_kept.proofs.Tears.{fits, found_is, idle_start, none_wanted}
use Rattle.kp_kept.proofs.Thoughts.{keeps_on}

-- an image of the first records is that of all
image_whole : (b : Bool) (image : Option Snapshot) → IsSome (cond b None image) → (cond b None image ≡ image) × IsSome image
image_whole true image some = absurd (cc some)
image_whole false image some = (refl, some)

waits_image : (image : Option Snapshot) (rs : List Record) → IsSome image → ◌≡◌ {A = Waiting} (record { image = image; records = [] }) (waits_behind nothing_waits rs image)
waits_image None rs some = absurd (cc some)
waits_image (Some i) rs some = refl

alive_still : (P : Type 0) (w : Why) (d : Option Why) → d ≡ Some w → d ≡ None → P
alive_still P w d is none = absurd (cc (is, none))

by_void : (P : Type 0) (b : Bool) (d : Option Why) → d ≡ cond b None (Some why.Torn) → d ≡ None → (b ≡ true → P) → P
by_void P true d is none then_so = then_so refl
by_void P false d is none then_so = alive_still P why.Torn d is none

module _ {H : Type 0} {G : Ghosts H} (held : H → Option (List ℕ)) (past : H → Option Past) (faults : Home H → ℕ) (x y : Kept H G) (e : NodeEvent (Mail Snapshot)) (k : ℕ)
    (o : Outcome) (ch : Choices) (p : Parts) (s : Steps (step words images ch (node_of x.node) e) x.node p o) (le : last_index (node_of p).held.log ≤ 2 ^ 62)
    (idle : waiting_of x ≡ nothing_waits) (alive : x.death ≡ None) (node : y.node ≡ p) where
  steps_to : Steps (step words images ch (node_of x.node) e) x.node y.node o
  steps_to = subst (λ (q : Parts). Steps (step words images ch (node_of x.node) e) x.node q o) (sym node) s

  -- what waits behind the step is the image of the first records, where there is one
  waits_so : IsSome (part_image k o.records o.image) → waiting_of y ≡ record { image = part_image k o.records o.image; records = [] } → waiting_of y ≡ waits_behind (waiting_of x) o.records o.image
  waits_so some waits =
      let w = image_whole (nat_lt k (length o.records)) o.image some in
      waits
      ∙ ap (λ (i : Option Snapshot). let v : Waiting = record { image = i; records = [] } in v) w.0
      ∙ waits_image o.image o.records w.1
      ∙ ap (λ (v : Waiting). waits_behind v o.records o.image) (sym idle)

  pub torn_ends : (r : Result TornStep KeptFail) → TearEnds faults x.home o k r y → TornEnds (λ (z : Kept H G). faults z.home) x e r y
  torn_ends (Ok t) c = (alive, c.0 ∙ ap (λ (w : Said). cond (says_none w) None (Some why.Torn)) (sym c.4.said), c.1, c.2, λ v. c.3 (sym (ap says_none c.4.said) ∙ v))
  torn_ends (Err fail.NoMemory) c = (alive, c.0, c.1, inr (record { outcome = o; choices = ch; steps = steps_to; waits = waits_so c.2 c.3 }, (image_whole (nat_lt k (length o.records)) o.image c.2).1))
  torn_ends (Err fail.DiskFault) c = (alive, c.0, c.1)
  torn_ends (Err (fail.Full slot len)) c = (alive, c.0, c.1, c.2)
  torn_ends (Err (fail.Dead w)) c = absurd c

  at_rest : (f : Found) → KeepsUp held past x f → f.start ≡ start_of (node_of x.node)
  at_rest f u = idle_start (waiting_of x) f (node_of x.node) idle u.ahead

  module _ (crash : LeavesPart held past x.home y.home (part_image k o.records o.image) (take k o.records) (node_of p)) where
    left_so : (f : Found) → KeepsUp held past x f → HasRoom y.home.disks.moments → x.home.journal.head.generation < 2 ^ 62 → LeavesEither held past x.home y.home f (torn_found k o f)
    left_so f u room below = subst (λ (g : Found). LeavesEither held past x.home y.home f g) (found_is ch x.node p e o s le k f (at_rest f u)) (crash f u.keeps room below (fits ch x.node p e o s le k f (at_rest f u)))

    pub torn_left : (r : Result TornStep KeptFail) (f : Found) → KeepsUp held past x f → HasRoom y.home.disks.moments → x.home.journal.head.generation < 2 ^ 62
        → OnErr r ((g : Found) × IsTornOrNot x e k f g × FindsEither x.home.journal.head.node past x.home.disks.moments y.home.disks f g)
    torn_left (Ok t) f u room below = tt
    torn_left (Err v) f u room below = (torn_found k o f, inr (o, ch, p, s, refl), left_so f u room below)

    pub is_torn : (r : Result TornStep KeptFail) → TearEnds faults x.home o k r y → OnOk r (HasPart held past x.home y.home (part_image k o.records o.image) (take k o.records) (node_of p)) → IfOk r (λ t. IsTorn held past x e k t y)
    is_torn (Ok t) c had = record {
      outcome = o;
      choices = ch;
      steps = steps_to;
      part = c.4;
      has = has;
      kept = λ f u room below. finds_only held past y.home.disks y.home.second y.home.journal (torn_found k o f) (has f u room below);
      crash = left_so;
    }
      where
        has : (f : Found) → KeepsUp held past x f → HasRoom y.home.disks.moments → x.home.journal.head.generation < 2 ^ 62 → Has held past y.home (torn_found k o f)
        has f u room below = subst (λ (g : Found). Has held past y.home g) (found_is ch x.node p e o s le k f (at_rest f u)) (had f u.keeps room below (fits ch x.node p e o s le k f (at_rest f u)))
    is_torn (Err v) c had = tt

  -- a node that isn't dead is ahead of its home by what waits
  goes_on : (f : Found) → KeepsUp held past x f → y.home ≡ x.home → waiting_of y ≡ waits_behind (waiting_of x) o.records o.image → KeepsUp held past y f
  goes_on f u home waits = keeps_on held past x y p o.records o.image f home node waits (leads ch x.node p e o s le) u

  void_waits : WantsNone o → waits_behind (waiting_of x) o.records o.image ≡ nothing_waits
  void_waits w = ap (λ (v : Waiting). waits_behind v o.records o.image) idle ∙ ap (λ (rs : List Record). waits_behind nothing_waits rs o.image) w.records ∙ ap (λ (i : Option Snapshot). waits_behind nothing_waits [] i) w.image

  pub torn_lives : (r : Result TornStep KeptFail) → TearEnds faults x.home o k r y → (f : Found) → KeepsUp held past x f → y.death ≡ None → KeepsUp held past y f
  torn_lives (Ok t) c f u lives = by_void _ (says_none o.said) y.death c.0 lives (λ v. goes_on f u (c.3 v) (c.1 ∙ sym (void_waits (none_wanted ch x.node p e o s v))))
  torn_lives (Err fail.NoMemory) c f u lives = goes_on f u c.1 (waits_so c.2 c.3)
  torn_lives (Err fail.DiskFault) c f u lives = alive_still _ _ y.death c.0 lives
  torn_lives (Err (fail.Full slot len)) c f u lives = alive_still _ _ y.death c.0 lives
  torn_lives (Err (fail.Dead w)) c f u lives = absurd c
