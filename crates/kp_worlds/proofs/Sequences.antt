-- Steps of a member, one behind the other, are events of its world.
use Rattle.std.proofs.Common.{◌≡◌, ℕ, true, List, [], ◌∷◌, ◌++◌, Option, Some, None, refl, sym, ap, subst, ◌∙◌, append_assoc}
use Rattle.std.specs.List.{AllByRecursion}
use Rattle.kp_raft.specs.declared.mail.Mail.{Mail}
use Rattle.kp_event.specs.declared.event.NodeEvent.{NodeEvent}
use Rattle.kp_snapshot.specs.Snapshots.{Snapshot}
use Rattle.kp_homes.specs.Opening.{Found}
use Rattle.kp_step.specs.Node.{Node, Images}
use Rattle.kp_step.specs.Asking.{Words}
use Rattle.kp_step.specs.Step.{Stepped, step}
use Rattle.kp_world.specs.Net.{Sent, is_member}
use Rattle.kp_cluster.specs.World.{World, Event, Does, happens, run}
use Rattle.kp_ample.specs.Ample.{ample}
use Rattle.kp_play.specs.Stage.{Thought}
use Rattle.kp_play.specs.Keeping.{replayed, found_behind}
use Rattle.kp_play.specs.Playing.{all_mail}
use Rattle.kp_worlds.specs.Standing.{ShowsItsState, WasSent, MayCome, IsStored, LeadTo}
use Rattle.kp_worlds.proofs.Lists.{all_join, all_turn}
use Rattle.kp_worlds.proofs.Effects.{Makes, makes, Leaves, whole, sent_before, may_before}

-- all of these were sent, also where more is sent
pub all_before : (more old new : List (Sent Snapshot)) → new ≡ more ++ old → (ls : List (ℕ × Mail Snapshot)) → AllByRecursion (WasSent old) ls → AllByRecursion (WasSent new) ls
all_before more old new e ls p = subst (λ (sent : List (Sent Snapshot)). AllByRecursion (WasSent sent) ls) (sym e) (all_turn (WasSent old) (WasSent (more ++ old)) (sent_before more old) ls p)

pub all_may : (more old new : List (Sent Snapshot)) → new ≡ more ++ old → (k : ℕ) (vs : List (NodeEvent (Mail Snapshot))) → AllByRecursion (λ (v : NodeEvent (Mail Snapshot)). MayCome old k v.kind) vs
    → AllByRecursion (λ (v : NodeEvent (Mail Snapshot)). MayCome new k v.kind) vs
all_may more old new e k vs p = subst (λ (sent : List (Sent Snapshot)). AllByRecursion (λ (v : NodeEvent (Mail Snapshot)). MayCome sent k v.kind) vs) (sym e)
    (all_turn (λ (v : NodeEvent (Mail Snapshot)). MayCome old k v.kind) (λ (v : NodeEvent (Mail Snapshot)). MayCome (more ++ old) k v.kind) (λ v. may_before more old k v.kind) vs p)

-- one change of a member behind another
join_leaves : (w u t : World Snapshot) (k : ℕ) (f g : Found) (p q : Option Node) (ls ms : List (ℕ × Mail Snapshot)) → Leaves w k f p ls u → Leaves u k g q ms t → Leaves w k g q (ls ++ ms) t
join_leaves w u t k f g p q ls ms a b = record {
  stored = b.stored;
  runs = b.runs;
  others = λ j differ. b.others j differ ∙ a.others j differ;
  more = b.more ++ a.more;
  sent = b.sent ∙ ap (λ (sent : List (Sent Snapshot)). b.more ++ sent) a.sent ∙ sym (append_assoc b.more a.more w.sent);
  mail = all_join (WasSent t.sent) ls ms (all_before b.more u.sent t.sent b.sent ls a.mail) b.mail;
}

module _ (words : Words) (im : Images Snapshot) (shows : ShowsItsState im) (n k : ℕ) (member : is_member n k ≡ true) where
  -- events of the world that do this to member k
  pub record Out (w : World Snapshot) (f : Found) (p : Option Node) (ls : List (ℕ × Mail Snapshot)) : Type 0 where
    pub events : List (Event Snapshot)
    pub leaves : Leaves w k f p ls (run words im n events w)

  -- one step
  pub one_out : (w : World Snapshot) (x : Node) (f : Found) → (w.members k).node ≡ Some x → IsStored f (w.members k) → (v : NodeEvent (Mail Snapshot)) → MayCome w.sent k v.kind
      → (e : Event Snapshot) × Leaves w k (replayed f (step words im ample x v).image (step words im ample x v).records) (Some (step words im ample x v).node) (step words im ample x v).mail (happens words im n w e)
  one_out w x f runs stored v may =
      let m : Makes words im n w k x (step words im ample x v) None = makes words im n w k x member runs v.now None v.kind may in (
        Does ample m.act,
        subst (Leaves w k (replayed f (step words im ample x v).image (step words im ample x v).records) (Some (step words im ample x v).node) (step words im ample x v).mail) (sym m.is)
            (whole im shows w k m.list (step words im ample x v) f stored),
      )

  pub all_out : (vs : List (NodeEvent (Mail Snapshot))) (ts : List Thought) (w : World Snapshot) (x y : Node) (f : Found) → (w.members k).node ≡ Some x → IsStored f (w.members k)
      → AllByRecursion (λ (v : NodeEvent (Mail Snapshot)). MayCome w.sent k v.kind) vs → LeadTo words im x vs ts y → Out w (found_behind f ts) (Some y) (all_mail ts)
  all_out [] [] w x y f runs stored may lead = record { events = []; leaves = record { stored = stored; runs = runs ∙ ap Some lead; others = λ j differ. refl; more = []; sent = refl; mail = tt } }
  all_out [] (t ∷ ts) w x y f runs stored may lead = absurd lead
  all_out (v ∷ vs) [] w x y f runs stored may lead = absurd lead
  all_out (v ∷ vs) (t ∷ ts) w x y f runs stored may lead =
      let first = one_out w x f runs stored v may.0 in
      let u : World Snapshot = happens words im n w first.0 in
      let o : Stepped Snapshot = step words im ample x v in
      let rest = all_out vs ts u o.node y (replayed f o.image o.records) first.1.runs first.1.stored (all_may first.1.more w.sent u.sent first.1.sent k vs may.1) lead.1 in
      subst (λ (z : Thought). Out w (found_behind (replayed f z.image z.records) ts) (Some y) (z.mail ++ all_mail ts)) (sym lead.0)
      (record {
        events = first.0 ∷ rest.events;
        leaves = join_leaves w u (run words im n rest.events u) k (replayed f o.image o.records) (found_behind (replayed f o.image o.records) ts) (Some o.node) (Some y) o.mail (all_mail ts) first.1 rest.leaves;
      })
