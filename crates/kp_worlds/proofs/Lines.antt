-- Each line, done on a stage that stands for a world, is some events of that world.
use Rattle.std.proofs.Common.{◌≡◌, ℕ, ◌+◌, ◌≤◌, ◌<◌, ◌^◌, min, true, List, [], ◌∷◌, ◌++◌, length, take, Option, Some, None, Result, Ok, Err, refl, sym, ap, subst, ◌∙◌, arith}
use Rattle.std.specs.Option.{option_map}
use Rattle.kp_entry.specs.declared.record.Record.TheVariants as record_
use Rattle.kp_raft.specs.declared.mail.Mail.{Mail}
use Rattle.kp_event.specs.declared.event.NodeEvent.{NodeEvent}
use Rattle.kp_event.specs.declared.event.NodeEventKind.{NodeEventKind}
use Rattle.kp_event.specs.declared.event.NodeEventKind.TheVariants as kind
use Rattle.kp_snapshot.specs.Snapshots.{Snapshot}
use Rattle.kp_homes.specs.Opening.{Found, next_boot, booted}
use Rattle.kp_script.specs.declared.event.EventLine.{EventLine}
use Rattle.kp_script.specs.declared.event.EventLine.TheVariants.{Accept, In, Hangup, Drain, Timeout, Deliver, Beat, Commit, Expire, Snap}
use Rattle.kp_script.specs.declared.line.LookLine.{LookLine}
use Rattle.kp_script.specs.declared.line.ScriptLine.{ScriptLine}
use Rattle.kp_script.specs.declared.line.ScriptLine.TheVariants as script
use Rattle.kp_step.specs.Node.{Node, Images}
use Rattle.kp_step.specs.Asking.{Words}
use Rattle.kp_step.specs.Step.{Stepped, step}
use Rattle.kp_step.specs.Runs.{begun}
use Rattle.kp_world.specs.Net.{is_member}
use Rattle.kp_cluster.specs.World as world
use Rattle.kp_cluster.specs.World.{World, Event, Does, Tears, Starts, At, did, happens, run, started}
use Rattle.kp_ample.specs.Ample.{ample}
use Rattle.kp_play.specs.Stage.{Home, Thought, Member, Stage, opened, member_at, letter_at}
use Rattle.kp_play.specs.Texts.{numbered, said_text}
use Rattle.kp_play.specs.Keeping.{Full, replayed, found_behind, put, kept, torn}
use Rattle.kp_play.specs.Playing.{Turn, prints, stands, all_mail, issue, event_of, comes, is_idle, thought_of, hold_back, let_out, stepped, event_by, event_at, event_turn, stops_in, torn_step, torn_held, torn_by, torn_at, torn_turn, size, crash_by, start_on, start_by, hold_with, hold_by, flush_with, flush_by, look_by, at_member, line_turn}
use Rattle.kp_worlds.specs.Standing.{ShowsItsState, WasSent, MayCome, IsStored, NodeIs, MemberIs, StandsFor, Happened}
use lib.Chars.{codes}
use Rattle.kp_worlds.proofs.Lists.{pick, OfSome, all_join, all_at, IsNumber, at_number_is, member_is, set_there, set_elsewhere}
use Rattle.kp_worlds.proofs.Effects.{Makes, makes, Leaves, torn as torn_leaves}
use Rattle.kp_worlds.proofs.Sequences.{Out, all_out}
use Rattle.kp_worlds.proofs.Members.{FoundIs, put_finds, kept_finds, torn_finds, behind_boot, replayed_boot, replayed_nothing, lead_more, post, exchange, same_leaves}

-- a boot of a number below the last one is the next number
next_is : (b : ℕ) → b < 2 ^ 62 → min (b + 1) (2 ^ 62) ≡ b + 1
next_is b less = omega (arith, less)

module _ (words : Words) (im : Images Snapshot) (shows : ShowsItsState im) (n : ℕ) (st : Stage) (w : World Snapshot) (s : StandsFor words im n st w)
    (low : (k : ℕ) (m : Member) → member_at st k ≡ Some m → m.home.found.start.boot ≤ st.lines) (few : st.lines < 2 ^ 62) where
  -- a line that is done leaves a stage that stands for what some events make of the world, and counts no line itself
  abbrev pub Good : Turn → Type 0
  Good (Ok d) = (d.next.lines ≡ st.lines) × Happened words im n w d.next
  Good (Err full) = Unit {0}

  stays : (st.lines ≡ st.lines) × Happened words im n w st
  stays = (refl, record { events = []; stands = s })

  module _ (k : ℕ) (m : Member) (there : member_at st k ≡ Some m) where
    is : is_member n k ≡ true
    is = member_is k n (subst (IsNumber k) s.size (at_number_is st.members k m there))

    old : MemberIs words im w.sent k m (w.members k)
    old = s.members k m there

    boot_low : m.home.found.start.boot ≤ st.lines + 1
    boot_low = let b = low k m there in omega (arith, b)

    -- the member's node in the world, where it holds nothing back
    runs_so : m.held ≡ None → (w.members k).node ≡ m.node
    runs_so e = subst (λ (h : Option (List Thought)). NodeIs words im w.sent k h m.node (w.members k).node) e old.node

    -- and where it does
    ahead_so : (ts : List Thought) (x : Node) → m.held ≡ Some ts → m.node ≡ Some x → NodeIs words im w.sent k (Some ts) (Some x) (w.members k).node
    ahead_so ts x e f = subst (λ (o : Option Node). NodeIs words im w.sent k (Some ts) o (w.members k).node) f (subst (λ (h : Option (List Thought)). NodeIs words im w.sent k h m.node (w.members k).node) e old.node)

    -- ---- steps are let out

    issued_by : (x : Node) (ts : List Thought) (before : List (List ℕ)) → Out words im shows n k is w (found_behind m.home.found ts) (Some x) (all_mail ts)
        → (r : Result Home Full) → FoundIs (found_behind m.home.found ts) r → Good (issue st k x ts before r)
    issued_by x ts before out (Err full) f = tt
    issued_by x ts before out (Ok h) f = (
      refl,
      record {
        events = out.events;
        stands = post words im n (stands st k h (Some x)) (run words im n out.events w)
            (exchange words im n st w s k m there (found_behind m.home.found ts) (Some x) (all_mail ts) (run words im n out.events w) out.leaves
            (record { home = h; node = Some x; held = None }) f refl (subst (λ (b : ℕ). b ≤ st.lines + 1) (sym (behind_boot m.home.found ts)) boot_low))
            (all_mail ts) out.leaves.mail;
      },
    )

    issues : (x : Node) (ts : List Thought) (before : List (List ℕ)) → Out words im shows n k is w (found_behind m.home.found ts) (Some x) (all_mail ts) → Good (issue st k x ts before (kept m.home ts x))
    issues x ts before out = issued_by x ts before out (kept m.home ts x) (kept_finds m.home ts x)

    module _ (x : Node) (v : NodeEventKind (Mail Snapshot)) (may : MayCome w.sent k v) where
      abbrev e : NodeEvent (Mail Snapshot)
      e = record { now = st.time; kind = v }

      abbrev o : Stepped Snapshot
      o = step words im ample x e

      lets : m.held ≡ None → m.node ≡ Some x → Good (let_out words im st k m o)
      lets h f = issues o.node (thought_of o ∷ []) []
          (all_out words im shows n k is (e ∷ []) (thought_of o ∷ []) w x o.node m.home.found (runs_so h ∙ f) old.home (may, tt) (refl, refl))

      -- ---- a step is held back

      held_node : (ts : List Thought) (p : Option Node) → NodeIs words im w.sent k (Some ts) (Some x) p → NodeIs words im w.sent k (Some (ts ++ thought_of o ∷ [])) (Some o.node) p
      held_node ts None a = absurd a
      held_node ts (Some z) a = record {
        events = a.events ++ e ∷ [];
        may = all_join (λ (u : NodeEvent (Mail Snapshot)). MayCome w.sent k u.kind) a.events (e ∷ []) a.may (may, tt);
        lead = lead_more words im a.events ts z x e a.lead;
      }

      holds : (ts : List Thought) → m.held ≡ Some ts → m.node ≡ Some x → Good (hold_back words im st k m ts o)
      holds ts h f = (
        refl,
        record {
          events = [];
          stands = exchange words im n st w s k m there m.home.found (w.members k).node [] w (same_leaves words im n st w s k m.home.found old.home)
              (record { home = m.home; node = Some o.node; held = Some (ts ++ thought_of o ∷ []) }) refl (held_node ts (w.members k).node (ahead_so ts x h f)) boot_low;
        },
      )

      steps : (h : Option (List Thought)) → m.held ≡ h → m.node ≡ Some x → Good (stepped words im st k m h o)
      steps None h f = lets h f
      steps (Some ts) h f = holds ts h f

      -- ---- a step is torn

      stopped : (j stayed : ℕ) (y : Makes words im n w k x o (Some j)) → (r : Result Home Full) → FoundIs (replayed m.home.found o.image (take j o.records)) r → Good (stops_in words im st k stayed r)
      stopped j stayed y (Err full) f = tt
      stopped j stayed y (Ok h) f = (
        refl,
        record {
          events = Tears ample y.act j ∷ [];
          stands = exchange words im n st w s k m there (replayed m.home.found o.image (take j o.records)) None [] (happens words im n w (Tears ample y.act j))
              (subst (Leaves w k (replayed m.home.found o.image (take j o.records)) None []) (sym y.is) (torn_leaves im shows w k y.list o m.home.found old.home j))
              (record { home = h; node = None; held = None }) f refl (subst (λ (b : ℕ). b ≤ st.lines + 1) (sym (replayed_boot m.home.found o.image (take j o.records))) boot_low);
        },
      )

      tears : (j : ℕ) → m.held ≡ None → m.node ≡ Some x → Good (torn_step words im st j k m o)
      tears j h f = pick Good (is_idle o.said) (prints st (said_text o.node o.said)) (stops_in words im st k (min j (length o.records)) (torn m.home j (thought_of o) o.node)) (λ _. stays)
          (λ _. stopped j (min j (length o.records)) (makes words im n w k x is (runs_so h ∙ f) st.time (Some j) v may) (torn m.home j (thought_of o) o.node) (torn_finds m.home j (thought_of o) o.node))

      tears_held : (j : ℕ) (h : Option (List Thought)) → m.held ≡ h → m.node ≡ Some x → Good (torn_held words im st j k m h o)
      tears_held j None h f = tears j h f
      tears_held j (Some ts) h f = stays

    -- ---- by the node

    event_by_good : (v : NodeEventKind (Mail Snapshot)) → MayCome w.sent k v → (p : Option Node) → m.node ≡ p → Good (event_by words im st k v m p)
    event_by_good v may None f = stays
    event_by_good v may (Some x) f = steps x v may m.held refl f

    torn_by_good : (j : ℕ) (v : NodeEventKind (Mail Snapshot)) → MayCome w.sent k v → (p : Option Node) → m.node ≡ p → Good (torn_by words im st j k v m p)
    torn_by_good j v may None f = stays
    torn_by_good j v may (Some x) f = tears_held x v may j m.held refl f

    -- a member that runs on the stage runs in the world
    runs_of : (x : Node) (h : Option (List Thought)) (p : Option Node) → NodeIs words im w.sent k h (Some x) p → (z : Node) × (p ≡ Some z)
    runs_of x None p a = (x, a)
    runs_of x (Some ts) None a = absurd a
    runs_of x (Some ts) (Some z) a = (z, refl)

    -- a stop is a step of which no record stays
    crash_leaves : (z : Node) → (w.members k).node ≡ Some z → (e : Event Snapshot) × Leaves w k m.home.found None [] (happens words im n w e)
    crash_leaves z e =
        let o : Stepped Snapshot = step words im ample z (record { now = 0; kind = kind.Timeout }) in
        let y : Makes words im n w k z o (Some 0) = makes words im n w k z is e 0 (Some 0) kind.Timeout tt in (
          Tears ample y.act 0,
          subst (λ (f : Found). Leaves w k f None [] (happens words im n w (Tears ample y.act 0))) (replayed_nothing m.home.found o.image o.records)
              (subst (Leaves w k (replayed m.home.found o.image (take 0 o.records)) None []) (sym y.is) (torn_leaves im shows w k y.list o m.home.found old.home 0)),
        )

    crash_good : (p : Option Node) → m.node ≡ p → Good (crash_by st k m p)
    crash_good None f = stays
    crash_good (Some x) f =
        let z = runs_of x m.held (w.members k).node (subst (λ (o : Option Node). NodeIs words im w.sent k m.held o (w.members k).node) f old.node) in
        let c = crash_leaves z.0 z.1 in (
          refl,
          record {
            events = c.0 ∷ [];
            stands = exchange words im n st w s k m there m.home.found None [] (happens words im n w c.0) c.1 (record { home = m.home; node = None; held = None }) refl refl boot_low;
          },
        )

    -- a start
    boot_is : next_boot m.home.found.start.boot ≡ (w.members k).boot + 1
    boot_is = let b = low k m there in next_is m.home.found.start.boot (omega (arith, b, few)) ∙ ap (λ (i : ℕ). i + 1) (sym old.home.boot)

    start_leaves : (h : Home) → h.found ≡ booted m.home.found → Leaves w k (booted m.home.found) (Some (opened k (size st) st.time h.found)) [] (happens words im n w (Starts k st.time))
    start_leaves h f = record {
      stored = subst (IsStored (booted m.home.found)) (sym (set_there w.members k (started n k (w.members k) st.time))) (record { held = old.home.held; image = old.home.image; boot = sym boot_is });
      runs = ap (λ (v : world.Member). v.node) (set_there w.members k (started n k (w.members k) st.time))
          ∙ (λ i. Some (begun k (sym s.size i) (sym boot_is i) st.time (old.home.held i) (old.home.image i)))
          ∙ ap (λ (g : Found). Some (opened k (size st) st.time g)) (sym f);
      others = λ j differ. set_elsewhere w.members k j (started n k (w.members k) st.time) differ;
      more = [];
      sent = refl;
      mail = tt;
    }

    starts_on : (r : Result Home Full) → FoundIs (booted m.home.found) r → Good (start_on st k r)
    starts_on (Err full) f = tt
    starts_on (Ok h) f = (
      refl,
      record {
        events = Starts k st.time ∷ [];
        stands = exchange words im n st w s k m there (booted m.home.found) (Some (opened k (size st) st.time h.found)) [] (happens words im n w (Starts k st.time)) (start_leaves h f)
            (record { home = h; node = Some (opened k (size st) st.time h.found); held = None }) f refl boot_next;
      },
    )
      where
        boot_next : next_boot m.home.found.start.boot ≤ st.lines + 1
        boot_next = let b = low k m there in let n = next_is m.home.found.start.boot (omega (arith, b, few)) in omega (arith, b, n)

    start_good : (p : Option Node) → m.node ≡ p → Good (start_by st k m p)
    start_good None f = starts_on (put m.home (record_.Boot (next_boot m.home.found.start.boot) ∷ []) (booted m.home.found)) (put_finds m.home (record_.Boot (next_boot m.home.found.start.boot) ∷ []) (booted m.home.found))
    start_good (Some x) f = stays

    -- holding begins
    hold_with_good : (x : Node) (h : Option (List Thought)) → m.held ≡ h → m.node ≡ Some x → Good (hold_with st k m h)
    hold_with_good x None h f = (
      refl,
      record {
        events = [];
        stands = exchange words im n st w s k m there m.home.found (w.members k).node [] w (same_leaves words im n st w s k m.home.found old.home) (record { home = m.home; node = m.node; held = Some [] }) refl
            (subst (λ (o : Option Node). NodeIs words im w.sent k (Some []) o (w.members k).node) (sym f) (subst (NodeIs words im w.sent k (Some []) (Some x)) (sym (runs_so h ∙ f)) (record { events = []; may = tt; lead = refl }))) boot_low;
      },
    )
    hold_with_good x (Some ts) h f = stays

    hold_good : (p : Option Node) → m.node ≡ p → Good (hold_by st k m p)
    hold_good None f = stays
    hold_good (Some x) f = hold_with_good x m.held refl f

    flushes : (x : Node) (h : Option (List Thought)) → m.held ≡ h → m.node ≡ Some x → Good (flush_with st k m x h)
    flushes x None h f = stays
    flushes x (Some ts) h f = lets_all (w.members k).node refl (ahead_so ts x h f)
      where
        lets_all : (p : Option Node) → (w.members k).node ≡ p → NodeIs words im w.sent k (Some ts) (Some x) p → Good (flush_with st k m x (Some ts))
        lets_all None at a = absurd a
        lets_all (Some z) at a = issues x ts (numbered (codes "flush") (length ts) ∷ []) (all_out words im shows n k is a.events ts w z x m.home.found at old.home a.may a.lead)

    flush_good : (p : Option Node) → m.node ≡ p → Good (flush_by st k m p)
    flush_good None f = stays
    flush_good (Some x) f = flushes x m.held refl f

    look_good : (l : LookLine) (p : Option Node) → Good (look_by st l p)
    look_good l None = stays
    look_good l (Some x) = stays

  -- ---- by the member

  at_good : (k : ℕ) (f : Member → Option Node → Turn) → ((m : Member) → member_at st k ≡ Some m → Good (f m m.node)) → (o : Option Member) → member_at st k ≡ o → Good (at_member st o f)
  at_good k f g None e = stays
  at_good k f g (Some m) e = g m e

  event_at_good : (k : ℕ) (v : NodeEventKind (Mail Snapshot)) → MayCome w.sent k v → (o : Option Member) → member_at st k ≡ o → Good (event_at words im st k v o)
  event_at_good k v may None e = stays
  event_at_good k v may (Some m) e = event_by_good k m e v may m.node refl

  torn_at_good : (j k : ℕ) (v : NodeEventKind (Mail Snapshot)) → MayCome w.sent k v → (o : Option Member) → member_at st k ≡ o → Good (torn_at words im st j k v o)
  torn_at_good j k v may None e = stays
  torn_at_good j k v may (Some m) e = torn_by_good k m e j v may m.node refl

  -- what comes by a line may come
  abbrev Comes : Option (ℕ × NodeEventKind (Mail Snapshot)) → Type 0
  Comes o = OfSome (λ (e : ℕ × NodeEventKind (Mail Snapshot)). MayCome w.sent e.0 e.1) o

  letter_comes : (o : Option (ℕ × Mail Snapshot)) → OfSome (WasSent w.sent) o → Comes (option_map comes o)
  letter_comes None p = tt
  letter_comes (Some l) p = p

  may_come : (e : EventLine) → Comes (event_of st e)
  unfolding event_of
  may_come (Accept k draw) = tt
  may_come (In k conn bytes) = tt
  may_come (Hangup k conn) = tt
  may_come (Drain k conn) = tt
  may_come (Timeout k) = tt
  may_come (Deliver m) = letter_comes (letter_at st m) (all_at (WasSent w.sent) st.letters m s.letters)
  may_come (Beat k) = tt
  may_come (Commit k) = tt
  may_come (Expire k) = tt
  may_come (Snap k) = tt

  event_good : (o : Option (ℕ × NodeEventKind (Mail Snapshot))) → Comes o → Good (event_turn words im st o)
  event_good None p = stays
  event_good (Some e) p = event_at_good e.0 e.1 p (member_at st e.0) refl

  torn_good : (j : ℕ) (o : Option (ℕ × NodeEventKind (Mail Snapshot))) → Comes o → Good (torn_turn words im st j o)
  torn_good j None p = stays
  torn_good j (Some e) p = torn_at_good j e.0 e.1 p (member_at st e.0) refl

  pub line_good : (l : ScriptLine) → Good (line_turn words im st l)
  unfolding line_turn
  line_good (script.Time t) = (refl, record { events = []; stands = record { size = s.size; members = s.members; letters = s.letters; boots = s.boots } })
  line_good (script.Event e) = event_good (event_of st e) (may_come e)
  line_good (script.Torn j e) = torn_good j (event_of st e) (may_come e)
  line_good (script.Crash k) = at_good k (crash_by st k) (λ m there. crash_good k m there m.node refl) (member_at st k) refl
  line_good (script.Start k) = at_good k (start_by st k) (λ m there. start_good k m there m.node refl) (member_at st k) refl
  line_good (script.Hold k) = at_good k (hold_by st k) (λ m there. hold_good k m there m.node refl) (member_at st k) refl
  line_good (script.Flush k) = at_good k (flush_by st k) (λ m there. flush_good k m there m.node refl) (member_at st k) refl
  line_good (script.Look k l) = at_good k (λ m. look_by st l) (λ m there. look_good k m there l m.node) (member_at st k) refl
