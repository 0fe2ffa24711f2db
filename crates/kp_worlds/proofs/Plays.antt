-- Lines one behind the other, and the blank stage.
use Rattle.std.proofs.Common.{◌≡◌, ◌⊎◌, inl, inr, ℕ, zero, suc, ◌+◌, ◌-◌, ◌≤◌, ◌<◌, ◌^◌, Bool, true, false, cond, List, [], ◌∷◌, ◌++◌, length, slice_get, Some, None, Ok, Err, refl, sym, ap, subst, ◌∙◌, arith, length-append}
use Rattle.std.specs.Prelude.{nat_lt}
use Rattle.std.proofs.lemmas.Bool.Decides.{nat_tests}
use Rattle.kp_snapshot.specs.Snapshots.{Snapshot}
use Rattle.kp_script.specs.declared.line.ScriptLine.{ScriptLine}
use Rattle.kp_step.specs.Node.{Images}
use Rattle.kp_step.specs.Asking.{Words}
use Rattle.kp_cluster.specs.World as world
use Rattle.kp_cluster.specs.World.{World, Event, happens, run}
use Rattle.kp_play.specs.Stage as stage
use Rattle.kp_play.specs.Stage.{Member, Stage, blank_member, blank_members, at_number}
use Rattle.kp_play.specs.Playing.{Turn, Done, counted, turn, then_done, plays_on, plays}
use Rattle.kp_worlds.specs.Standing.{ShowsItsState, MemberIs, StandsFor, Happened, LinesAreEvents, ScriptsAreWorlds}
use Rattle.kp_worlds.proofs.Lines.{Good, line_good}

module _ (words : Words) (im : Images Snapshot) (n : ℕ) where
  pub run_join : (es more : List (Event Snapshot)) (w : World Snapshot) → run words im n (es ++ more) w ≡ run words im n more (run words im n es w)
  run_join [] more w = refl
  run_join (e ∷ es) more w = run_join es more (happens words im n w e)

  -- what is left stands for what some events make of the world, and so many lines were done
  abbrev GoesOn : ℕ → World Snapshot → Turn → Type 0
  GoesOn lines w (Ok d) = Happened words im n w d.next × (d.next.lines ≡ lines)
  GoesOn lines w (Err full) = Unit {0}

  counted_stands : (st : Stage) (w : World Snapshot) → StandsFor words im n st w → StandsFor words im n (counted st) w
  counted_stands st w s = record { size = s.size; members = s.members; letters = s.letters; boots = λ k m there. (let b = s.boots k m there in omega (arith, b)) }

  then_good : (lines : ℕ) (w : World Snapshot) (es : List (Event Snapshot)) (texts : List (List ℕ)) (r : Turn) → GoesOn lines (run words im n es w) r → GoesOn lines w (then_done texts r)
  then_good lines w es texts (Err full) g = tt
  then_good lines w es texts (Ok d) g = (record { events = es ++ g.0.events; stands = subst (StandsFor words im n d.next) (sym (run_join es g.0.events w)) g.0.stands }, g.1)

  module _ (shows : ShowsItsState im) where
    -- lines that go on from wherever the first one leads
    by_line : (ls : List ScriptLine) (st : Stage) (w : World Snapshot) (s : StandsFor words im n st w) (few : st.lines + 1 < 2 ^ 62) (lines : ℕ)
        → ((next : Stage) (u : World Snapshot) → StandsFor words im n next u → next.lines ≡ st.lines + 1 → GoesOn lines u (plays_on words im ls next))
        → (r : Turn) → Good words im shows n (counted st) w (counted_stands st w s) s.boots few r
        → GoesOn lines w (elim r as (λ _. Turn) [ Err full ↦ Err full | Ok d ↦ then_done d.texts (plays_on words im ls d.next) ])
    by_line ls st w s few lines on (Err full) g = tt
    by_line ls st w s few lines on (Ok d) g = then_good lines w g.1.events d.texts (plays_on words im ls d.next) (on d.next (run words im n g.1.events w) g.1.stands g.0)

    plays_good : (ls : List ScriptLine) (st : Stage) (w : World Snapshot) → StandsFor words im n st w → st.lines + length ls < 2 ^ 62 → (lines : ℕ) → lines ≡ st.lines + length ls → GoesOn lines w (plays_on words im ls st)
    plays_good [] st w s few lines sum = (record { events = []; stands = s }, omega (arith, sum))
    plays_good (l ∷ ls) st w s few lines sum =
        by_line ls st w s (omega (arith, few)) lines (λ next u t e. plays_good ls next u t (omega (arith, few, e)) lines (omega (arith, sum, e)))
        (turn words im st l) (line_good words im shows n (counted st) w (counted_stands st w s) s.boots (omega (arith, few)) l)

    pub lines_after : (ls : List ScriptLine) (st : Stage) (w : World Snapshot) → StandsFor words im n st w → st.lines + length ls < 2 ^ 62 → (d : Done) → plays words im st ls ≡ Ok d
        → Happened words im n w d.next × (d.next.lines ≡ st.lines + length ls)
    unfolding plays
    lines_after ls st w s few d e = subst (GoesOn (st.lines + length ls) w) e (plays_good ls st w s few (st.lines + length ls) refl)

pub lines_are_events : LinesAreEvents
lines_are_events words im shows n st w s ls d few e = (lines_after words im n shows ls st w s few d e).0

-- ---- the blank stage

blank_size : (n k : ℕ) → length (blank_members n k) ≡ k
blank_size n zero = refl
blank_size n (suc k) = let more = length-append (blank_members n k) (blank_member n (suc k) ∷ []) in let old = blank_size n k in omega (arith, more, old)

get_last : (xs : List Member) (y : Member) (i : ℕ) (m : Member) → slice_get (xs ++ y ∷ []) i ≡ Some m → (slice_get xs i ≡ Some m) ⊎ ((i ≡ length xs) × (y ≡ m))
get_last [] y zero m e = inr (refl, cc e)
get_last [] y (suc i) m e = absurd (cc e)
get_last (x ∷ xs) y zero m e = inl e
get_last (x ∷ xs) y (suc i) m e = elim (get_last xs y i m e) [ inl p ↦ inl p | inr q ↦ inr (ap suc q.0, q.1) ]

blank_at : (n k i : ℕ) (m : Member) → slice_get (blank_members n k) i ≡ Some m → blank_member n (suc i) ≡ m
blank_at n zero i m e = absurd (cc e)
blank_at n (suc k) i m e = elim (get_last (blank_members n k) (blank_member n (suc k)) i m e) [
  | inl p ↦ blank_at n k i m p
  | inr q ↦ ap (blank_member n) (ap suc (q.0 ∙ blank_size n k)) ∙ q.1
]

blank_by : (n k : ℕ) (m : Member) (b : Bool) → nat_lt 0 k ≡ b → cond b (slice_get (blank_members n n) (k - 1)) None ≡ Some m → blank_member n k ≡ m
blank_by n k m true e there = let some : 0 < k = grind (arith, nat_tests) in ap (blank_member n) (omega (arith, some)) ∙ blank_at n n (k - 1) m there
blank_by n k m false e there = absurd (cc there)

module _ (words : Words) (im : Images Snapshot) (n : ℕ) where
  blank_is : (k : ℕ) → MemberIs words im [] k (blank_member n k) ((world.blank {I = Snapshot} n).members k)
  blank_is k = record { home = record { held = refl; image = refl; boot = refl }; node = refl }

  pub blank_stands : StandsFor words im n (stage.blank n) (world.blank n)
  blank_stands = record {
    size = blank_size n n;
    members = λ k m there. subst (λ (z : Member). MemberIs words im [] k z ((world.blank {I = Snapshot} n).members k)) (blank_by n k m (nat_lt 0 k) refl there) (blank_is k);
    letters = tt;
    boots = λ k m there. subst (λ (z : Member). z.home.found.start.boot ≤ 0 + 1) (blank_by n k m (nat_lt 0 k) refl there) (omega arith);
  }

pub scripts_are_worlds : ScriptsAreWorlds
scripts_are_worlds words im shows n ls d few e = lines_are_events words im shows n (stage.blank n) (world.blank n) (blank_stands words im n) ls d (omega (arith, few)) e
