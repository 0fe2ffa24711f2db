-- What one event makes of a world, for a member that runs.
use Rattle.std.proofs.Common.{◌≡◌, ℕ, zero, suc, true, cond, List, [], ◌∷◌, ◌++◌, take, Option, Some, None, refl, sym, ap, subst, ◌∙◌}
use Rattle.std.specs.List.{AllByRecursion}
use Rattle.kp_model.specs.LogEntry.{LogEntry}
use Rattle.kp_model.specs.State.{State}
use Rattle.kp_entry.specs.declared.record.Record.{Record}
use Rattle.kp_entry.specs.declared.record.Record.TheVariants as record_
use Rattle.kp_entry.specs.Held.{Held, replay}
use Rattle.kp_raft.specs.declared.mail.Mail.{Mail}
use Rattle.kp_event.specs.declared.event.NodeEventKind.{NodeEventKind}
use Rattle.kp_event.specs.declared.event.NodeEventKind.TheVariants as kind
use Rattle.kp_snapshot.specs.Snapshots.{Snapshot}
use Rattle.kp_homes.specs.Opening.{Found}
use Rattle.kp_step.specs.Node.{Node, Images}
use Rattle.kp_step.specs.Asking.{Words}
use Rattle.kp_step.specs.Step.{Stepped, step, state_of}
use Rattle.kp_world.specs.Net.{Sent, sent_with, is_member}
use Rattle.kp_cluster.specs.World as world
use Rattle.kp_cluster.specs.World.{World, Event, Act, At, Comes, Does, Tears, did, acts, heard, acted, heard_by, happens, done_after, image_behind, stored_behind, is_own}
use Rattle.kp_ample.specs.Ample.{ample}
use Rattle.kp_play.specs.Stage.{tree_of}
use Rattle.kp_play.specs.Keeping.{newer, image_with, replayed}
use Rattle.kp_worlds.specs.Standing.{ShowsItsState, WasSent, MayCome, IsStored}
use Rattle.kp_worlds.proofs.Lists.{set_there, set_elsewhere}

-- ---- messages that were sent

later : (x : Sent Snapshot) (xs : List (Sent Snapshot)) (l : ℕ × Mail Snapshot) → WasSent xs l → WasSent (x ∷ xs) l
later x xs l s = record { place = suc s.place; letter = s.letter; there = s.there; to = s.to; message = s.message }

pub sent_before : (xs ys : List (Sent Snapshot)) (l : ℕ × Mail Snapshot) → WasSent ys l → WasSent (xs ++ ys) l
sent_before [] ys l s = s
sent_before (x ∷ xs) ys l s = later x (xs ++ ys) l (sent_before xs ys l s)

all_later : (x : Sent Snapshot) (xs : List (Sent Snapshot)) (ls : List (ℕ × Mail Snapshot)) → AllByRecursion (WasSent xs) ls → AllByRecursion (WasSent (x ∷ xs)) ls
all_later x xs [] p = tt
all_later x xs (l ∷ ls) p = (later x xs l p.0, all_later x xs ls p.1)

pub all_sent : (list : List LogEntry) (ms : List (ℕ × Mail Snapshot)) (ys : List (Sent Snapshot)) → AllByRecursion (WasSent (sent_with list ms ++ ys)) ms
all_sent list [] ys = tt
all_sent list (m ∷ ms) ys = (
  record { place = zero; letter = record { to = m.0; message = m.1; list = list }; there = refl; to = refl; message = refl },
  all_later (record { to = m.0; message = m.1; list = list }) (sent_with list ms ++ ys) ms (all_sent list ms ys),
)

pub may_before : (xs ys : List (Sent Snapshot)) (k : ℕ) (v : NodeEventKind (Mail Snapshot)) → MayCome ys k v → MayCome (xs ++ ys) k v
may_before xs ys k (kind.Deliver m) s = sent_before xs ys (k, m) s
may_before xs ys k (kind.Accept draw) s = tt
may_before xs ys k (kind.Client c bytes) s = tt
may_before xs ys k (kind.Hangup c) s = tt
may_before xs ys k (kind.Drain c) s = tt
may_before xs ys k kind.Timeout s = tt
may_before xs ys k kind.Beat s = tt
may_before xs ys k kind.CommitOne s = tt
may_before xs ys k kind.ExpireDue s = tt
may_before xs ys k kind.Snapshot s = tt

-- ---- an event is a step of the member

module _ (words : Words) (im : Images Snapshot) (n : ℕ) (w : World Snapshot) (k : ℕ) (x : Node) where
  -- an event of the world makes of it what this step makes
  pub record Makes (o : Stepped Snapshot) (stop : Option ℕ) : Type 0 where
    pub act : Act Snapshot
    pub list : List LogEntry
    pub is : acts words im n w ample act stop ≡ did im w k list o stop

  abbrev StepAt : ℕ → NodeEventKind (Mail Snapshot) → Stepped Snapshot
  StepAt now v = step words im ample x (record { now = now; kind = v })

  module _ (member : is_member n k ≡ true) (runs : (w.members k).node ≡ Some x) (now : ℕ) (stop : Option ℕ) where
    own_makes : (v : NodeEventKind (Mail Snapshot)) → is_own v ≡ true → Makes (StepAt now v) stop
    own_makes v own = record {
      act = At k (record { now = now; kind = v });
      list = take x.state.applied (w.members k).done;
      is =
          ap (λ b. cond b (cond (is_own v) (acted words im w k ample (record { now = now; kind = v }) stop (w.members k).node) w) w) member
          ∙ ap (λ b. cond b (acted words im w k ample (record { now = now; kind = v }) stop (w.members k).node) w) own
          ∙ ap (acted words im w k ample (record { now = now; kind = v }) stop) runs;
    }

    letter_is : (s : Sent Snapshot) (m : Mail Snapshot) → s.to ≡ k → s.message ≡ m → heard words im n w ample now stop (Some s) ≡ did im w k s.list (StepAt now (kind.Deliver m)) stop
    letter_is s m to message =
        ap (λ j. cond (is_member n j) (heard_by words im w s ample now stop (w.members j).node) w) to
        ∙ ap (λ b. cond b (heard_by words im w s ample now stop (w.members k).node) w) member
        ∙ ap (heard_by words im w s ample now stop) runs
        ∙ ap (λ j. did im w j s.list (StepAt now (kind.Deliver s.message)) stop) to
        ∙ ap (λ z. did im w k s.list (StepAt now (kind.Deliver z)) stop) message

    letter_makes : (m : Mail Snapshot) → WasSent w.sent (k, m) → Makes (StepAt now (kind.Deliver m)) stop
    letter_makes m s = record {
      act = Comes s.place now;
      list = s.letter.list;
      is = ap (heard words im n w ample now stop) s.there ∙ letter_is s.letter m s.to s.message;
    }

    pub makes : (v : NodeEventKind (Mail Snapshot)) → MayCome w.sent k v → Makes (StepAt now v) stop
    makes (kind.Deliver m) s = letter_makes m s
    makes (kind.Accept draw) s = own_makes (kind.Accept draw) refl
    makes (kind.Client c bytes) s = own_makes (kind.Client c bytes) refl
    makes (kind.Hangup c) s = own_makes (kind.Hangup c) refl
    makes (kind.Drain c) s = own_makes (kind.Drain c) refl
    makes kind.Timeout s = own_makes kind.Timeout refl
    makes kind.Beat s = own_makes kind.Beat refl
    makes kind.CommitOne s = own_makes kind.CommitOne refl
    makes kind.ExpireDue s = own_makes kind.ExpireDue refl
    makes kind.Snapshot s = own_makes kind.Snapshot refl

-- ---- what a step leaves

-- the tree of the last base is the same
image_same : (new old : Option Snapshot) (s t : State) → s ≡ tree_of new → t ≡ tree_of old → (rs : List Record) → image_behind s t rs ≡ tree_of (image_with new old rs)
image_same new old s t e f [] = f
image_same new old s t e f (record_.Vote a b ∷ rs) = image_same new old s t e f rs
image_same new old s t e f (record_.Boot a ∷ rs) = image_same new old s t e f rs
image_same new old s t e f (record_.Append a ∷ rs) = image_same new old s t e f rs
image_same new old s t e f (record_.Truncate a ∷ rs) = image_same new old s t e f rs
image_same new old s t e f (record_.Base a b ∷ rs) = image_same new new s s e e rs

newer_same : (im : Images Snapshot) → ShowsItsState im → (s : State) (old image : Option Snapshot) → s ≡ tree_of old → state_of im s image ≡ tree_of (newer old image)
newer_same im shows s old None e = e
newer_same im shows s old (Some i) e = shows.shows i

-- of a member k that was changed in a world: it stores what was found, replayed with these records, and its node is this; the other members are as they were, and more messages were sent
pub record Leaves (w : World Snapshot) (k : ℕ) (f : Found) (o : Option Node) (letters : List (ℕ × Mail Snapshot)) (u : World Snapshot) : Type 0 where
  pub stored : IsStored f (u.members k)
  pub runs : (u.members k).node ≡ o
  pub others : (j : ℕ) → (j ≡ k → ⊥) → u.members j ≡ w.members j
  pub more : List (Sent Snapshot)
  pub sent : u.sent ≡ more ++ w.sent
  pub mail : AllByRecursion (WasSent u.sent) letters

module _ (im : Images Snapshot) (shows : ShowsItsState im) (w : World Snapshot) (k : ℕ) (list : List LogEntry) (o : Stepped Snapshot) (f : Found) (stored : IsStored f (w.members k)) where
  new_stored : (rs : List Record) (p : Option Node) (done : List LogEntry) → IsStored (replayed f o.image rs) (stored_behind im (w.members k) list o rs p done)
  unfolding replayed
  new_stored rs p done = record {
    held = ap (λ (h : Held). replay h rs) stored.held;
    image = image_same (newer f.image o.image) f.image (state_of im (w.members k).image o.image) (w.members k).image (newer_same im shows (w.members k).image f.image o.image stored.image) stored.image rs;
    boot = stored.boot;
  }

  changed : (rs : List Record) (p : Option Node) (done : List LogEntry) (mail : List (ℕ × Mail Snapshot)) (sent more : List (Sent Snapshot)) → sent ≡ more ++ w.sent → AllByRecursion (WasSent sent) mail
      → Leaves w k (replayed f o.image rs) p mail (record { members = Rattle.kp_raft.specs.Numbers.set_at w.members k (stored_behind im (w.members k) list o rs p done); sent = sent })
  changed rs p done mail sent more e all = record {
    stored = subst (IsStored (replayed f o.image rs)) (sym (set_there w.members k (stored_behind im (w.members k) list o rs p done))) (new_stored rs p done);
    runs = ap (λ (m : world.Member). m.node) (set_there w.members k (stored_behind im (w.members k) list o rs p done));
    others = λ j differ. set_elsewhere w.members k j (stored_behind im (w.members k) list o rs p done) differ;
    more = more;
    sent = e;
    mail = all;
  }

  -- a whole step
  pub whole : Leaves w k (replayed f o.image o.records) (Some o.node) o.mail (did im w k list o None)
  whole = changed o.records (Some o.node) (done_after list o.installed o.applied (w.members k).done) o.mail (sent_with list o.mail ++ w.sent) (sent_with list o.mail) refl (all_sent list o.mail w.sent)

  -- a torn one
  pub torn : (j : ℕ) → Leaves w k (replayed f o.image (take j o.records)) None [] (did im w k list o (Some j))
  torn j = changed (take j o.records) None (w.members k).done [] w.sent [] refl tt
