-- What a change of one member makes of a stage that stands for a world.
use Rattle.std.proofs.Common.{◌≡◌, ℕ, ◌+◌, ◌-◌, ◌≤◌, not, cond, List, [], ◌∷◌, ◌++◌, length, take, Option, Some, None, Result, Ok, Err, refl, sym, ap, subst, ◌∙◌, length-set}
use Rattle.std.specs.Prelude.{nat_lt, nat_le}
use Rattle.std.specs.List.{AllByRecursion}
use Rattle.kp_entry.specs.declared.record.Record.{Record}
use Rattle.kp_raft.specs.declared.mail.Mail.{Mail}
use Rattle.kp_event.specs.declared.event.NodeEvent.{NodeEvent}
use Rattle.kp_entry.specs.Records.{spelled}
use Rattle.kp_snapshot.specs.Snapshots.{Snapshot, images}
use Rattle.kp_homes.specs.Opening.{Found}
use Rattle.kp_homes.specs.Stands.{slot_number}
use Rattle.kp_step.specs.Node.{Node, Images}
use Rattle.kp_step.specs.Asking.{Words}
use Rattle.kp_step.specs.Step.{step}
use Rattle.kp_world.specs.Net.{Sent}
use Rattle.kp_cluster.specs.World as world
use Rattle.kp_cluster.specs.World.{World}
use Rattle.kp_ample.specs.Ample.{ample}
use Rattle.kp_play.specs.Stage.{Home, Thought, Member, Stage, gate_behind, member_at, with_member, with_letters}
use Rattle.kp_play.specs.Keeping.{Full, most, own_records, replayed, found_behind, Waits, waits_of, put, put_image, put_waits, kept, put_some, torn}
use Rattle.kp_play.specs.Playing.{thought_of}
use Rattle.kp_worlds.specs.Standing.{WasSent, IsStored, LeadTo, NodeIs, MemberIs, StandsFor}
use Rattle.kp_worlds.proofs.Lists.{pick, all_join, at_number_is, at_set}
use Rattle.kp_worlds.proofs.Effects.{Leaves}
use Rattle.kp_worlds.proofs.Sequences.{all_before, all_may}

-- ---- homes

-- what is found where a home had room
abbrev pub FoundIs : Found → Result Home Full → Type 0
FoundIs f (Ok h) = h.found ≡ f
FoundIs f (Err full) = Unit {0}

pub put_finds : (h : Home) (rs : List Record) (f : Found) → FoundIs f (put h rs f)
unfolding put
put_finds h [] f = refl
put_finds h (r ∷ rs) f = pick (FoundIs f) (nat_lt most (h.gate + 6 + length (spelled (r ∷ rs)))) (Err (record { slot = slot_number h.second; len = h.gate + 6 + length (spelled (r ∷ rs)) }))
    (Ok (record h { found = f; gate = h.gate + 5 + length (spelled (r ∷ rs)) })) (λ _. tt) (λ _. refl)

image_finds : (h : Home) (i : Snapshot) (x : Node) (f : Found) → FoundIs f (put_image h i x f)
unfolding put_image
image_finds h i x f = pick (FoundIs f) (nat_lt most (length (images.spell i))) (Err (record { slot = cond h.second 2 3; len = length (images.spell i) }))
    (Ok (record { found = f; second = not h.second; gate = gate_behind (own_records x) })) (λ _. tt) (λ _. refl)

waits_find : (h : Home) (w : Waits) (image : Option Snapshot) (x : Node) (f : Found) → FoundIs f (put_waits h w image x f)
waits_find h w None x f = put_finds h w.records f
waits_find h w (Some i) x f = image_finds h i x f

pub kept_finds : (h : Home) (ts : List Thought) (x : Node) → FoundIs (found_behind h.found ts) (kept h ts x)
unfolding kept
kept_finds h ts x = waits_find h (waits_of ts) (waits_of ts).image x (found_behind h.found ts)

some_find : (h : Home) (some all : List Record) (image : Option Snapshot) (x : Node) (f : Found) → FoundIs f (put_some h some all image x f)
some_find h some all None x f = put_finds h some f
some_find h some all (Some i) x f = pick (FoundIs f) (nat_le (length all) (length some)) (put_image h i x f) (put h some f) (λ _. image_finds h i x f) (λ _. put_finds h some f)

pub torn_finds : (h : Home) (k : ℕ) (t : Thought) (x : Node) → FoundIs (replayed h.found t.image (take k t.records)) (torn h k t x)
unfolding torn
torn_finds h k t x = some_find h (take k t.records) t.records t.image x (replayed h.found t.image (take k t.records))

pub replayed_boot : (f : Found) (image : Option Snapshot) (rs : List Record) → (replayed f image rs).start.boot ≡ f.start.boot
unfolding replayed
replayed_boot f image rs = refl

pub behind_boot : (f : Found) (ts : List Thought) → (found_behind f ts).start.boot ≡ f.start.boot
behind_boot f [] = refl
behind_boot f (t ∷ ts) = behind_boot (replayed f t.image t.records) ts ∙ replayed_boot f t.image t.records

take_none : (rs : List Record) → take 0 rs ≡ []
take_none [] = refl
take_none (r ∷ rs) = refl

replayed_none : (f : Found) (image : Option Snapshot) → replayed f image [] ≡ f
unfolding replayed
replayed_none f image = refl

pub replayed_nothing : (f : Found) (image : Option Snapshot) (rs : List Record) → replayed f image (take 0 rs) ≡ f
replayed_nothing f image rs = ap (replayed f image) (take_none rs) ∙ replayed_none f image

-- ---- nodes

module _ (words : Words) (im : Images Snapshot) where
  abbrev NodeAt : List (Sent Snapshot) → ℕ → Option (List Thought) → Option Node → Option Node → Type 0
  NodeAt = NodeIs words im

  node_before : (more old new : List (Sent Snapshot)) → new ≡ more ++ old → (k : ℕ) (h : Option (List Thought)) (o p : Option Node) → NodeAt old k h o p → NodeAt new k h o p
  node_before more old new e k None o p is = is
  node_before more old new e k (Some ts) (Some y) (Some x) is = record { events = is.events; may = all_may more old new e k is.events is.may; lead = is.lead }
  node_before more old new e k (Some ts) None p is = absurd is
  node_before more old new e k (Some ts) (Some y) None is = absurd is

  member_before : (more old new : List (Sent Snapshot)) → new ≡ more ++ old → (k : ℕ) (m : Member) (v u : world.Member) → u ≡ v → MemberIs words im old k m v → MemberIs words im new k m u
  member_before more old new e k m v u same is =
      subst (MemberIs words im new k m) (sym same) (record { home = is.home; node = node_before more old new e k m.held m.node v.node is.node })

  -- one step more is held back
  pub lead_more : (vs : List (NodeEvent (Mail Snapshot))) (ts : List Thought) (x y : Node) (v : NodeEvent (Mail Snapshot)) → LeadTo words im x vs ts y
      → LeadTo words im x (vs ++ v ∷ []) (ts ++ thought_of (step words im ample y v) ∷ []) (step words im ample y v).node
  lead_more [] [] x y v lead = (ap (λ z. thought_of (step words im ample z v)) (sym lead), ap (λ z. (step words im ample z v).node) lead)
  lead_more [] (t ∷ ts) x y v lead = absurd lead
  lead_more (u ∷ vs) [] x y v lead = absurd lead
  lead_more (u ∷ vs) (t ∷ ts) x y v lead = (lead.0, lead_more vs ts (step words im ample x u).node y v lead.1)

  -- ---- the stage

  module _ (n : ℕ) (st : Stage) (w : World Snapshot) (s : StandsFor words im n st w) where
    -- messages that were sent are laid on the stage
    pub post : (ms : List (ℕ × Mail Snapshot)) → AllByRecursion (WasSent w.sent) ms → StandsFor words im n (with_letters st ms) w
    post ms all = record { size = s.size; members = s.members; letters = all_join (WasSent w.sent) st.letters ms s.letters all; boots = s.boots }

    -- member k is exchanged
    pub exchange : (k : ℕ) (m : Member) → member_at st k ≡ Some m → (f : Found) (o : Option Node) (ls : List (ℕ × Mail Snapshot)) (u : World Snapshot) → Leaves w k f o ls u
        → (new : Member) → new.home.found ≡ f → NodeAt u.sent k new.held new.node o → f.start.boot ≤ st.lines + 1 → StandsFor words im n (with_member st k new) u
    exchange k m there f o ls u l new found node boot =
        let number = at_number_is st.members k m there in
        record {
          size = length-set st.members (k - 1) new ∙ s.size;
          members = at_set (λ j y. MemberIs words im u.sent j y (u.members j)) st.members k new number
              (record { home = subst (λ (g : Found). IsStored g (u.members k)) (sym found) l.stored; node = subst (NodeAt u.sent k new.held new.node) (sym l.runs) node })
              (λ j y differ at. member_before l.more w.sent u.sent l.sent j y (w.members j) (u.members j) (l.others j differ) (s.members j y at));
          letters = all_before l.more w.sent u.sent l.sent st.letters s.letters;
          boots = at_set (λ j (y : Member). y.home.found.start.boot ≤ st.lines + 1) st.members k new number
              (subst (λ (g : Found). g.start.boot ≤ st.lines + 1) (sym found) boot) (λ j y differ at. s.boots j y at);
        }

    -- nothing happened in the world
    pub same_leaves : (k : ℕ) (f : Found) → IsStored f (w.members k) → Leaves w k f (w.members k).node [] w
    same_leaves k f stored = record { stored = stored; runs = refl; others = λ j differ. refl; more = []; sent = refl; mail = tt }
