-- The law of the nodes' world, told of a stage.
use Rattle.std.proofs.Common.{◌≡◌, ℕ, List, [], ◌++◌, Option, Some, None, sym, subst, ◌∙◌, arith}
use Rattle.std.specs.Prelude.{◌⊎◌}
use mathlib.Core.List.{IsPrefix}
use Rattle.kp_model.specs.LogEntry.{LogEntry}
use Rattle.kp_snapshot.specs.Snapshots.{Snapshot}
use Rattle.kp_step.specs.Node.{Node, Images}
use Rattle.kp_step.specs.Asking.{Words}
use Rattle.kp_cluster.specs.World as world
use Rattle.kp_cluster.specs.World.{World, Event, run, world_after}
use Rattle.kp_cluster.specs.Laws.{AreFaithful, OneList, StatesFold}
use Rattle.kp_play.specs.Stage.{Member, Stage, Thought, blank, member_at}
use Rattle.kp_worlds.specs.Standing.{NodeIs, StandsFor}
use Rattle.kp_worlds.specs.OneTree.{AreFolds, AreOneTree, ScriptsAreOneTree}
use Rattle.kp_worlds.proofs.Plays.{run_join, lines_after, blank_stands}

module _ (words : Words) (im : Images Snapshot) (faithful : AreFaithful im) (n : ℕ) (one : OneList Snapshot) (folds : StatesFold Snapshot) where
  abbrev applied : List (Event Snapshot) → ℕ → List LogEntry
  applied es k = ((world_after words im n es).members k).done

  -- a member that holds nothing back runs in the world as on the stage
  runs : (es : List (Event Snapshot)) (st : Stage) → StandsFor words im n st (world_after words im n es) → (k : ℕ) (m : Member) (x : Node) → member_at st k ≡ Some m → m.held ≡ None → m.node ≡ Some x
      → ((world_after words im n es).members k).node ≡ Some x
  runs es st s k m x there free run =
      subst (λ (h : Option (List Thought)). NodeIs words im (world_after words im n es).sent k h m.node ((world_after words im n es).members k).node) free (s.members k m there).node ∙ run

  fold_of : (es : List (Event Snapshot)) (st : Stage) → StandsFor words im n st (world_after words im n es) → AreFolds st (applied es)
  fold_of es st s = record {
    committed = λ k m x there free run. (folds words im faithful n es k x (runs es st s k m x there free run)).committed;
    uncommitted = λ k m x there free run. (folds words im faithful n es k x (runs es st s k m x there free run)).uncommitted;
  }

  at_two : (st later : Stage) (es more : List (Event Snapshot)) → StandsFor words im n st (world_after words im n es) → StandsFor words im n later (world_after words im n (es ++ more)) → AreOneTree st later
  at_two st later es more s t = record {
    before = applied es;
    behind = applied (es ++ more);
    folds_before = fold_of es st s;
    folds_behind = fold_of (es ++ more) later t;
    first = one words im faithful n es [];
    second = one words im faithful n (es ++ more) [];
    across = λ j k. subst (λ (w : World Snapshot). IsPrefix (applied es j) (w.members k).done ⊎ IsPrefix (w.members k).done (applied es j))
        (sym (run_join words im n es more (world.blank n))) (one words im faithful n es more j k);
  }

-- with the law of the nodes' world
pub one_tree_of : OneList Snapshot → StatesFold Snapshot → ScriptsAreOneTree
one_tree_of one folds words im shows faithful n ls more d e few p q =
    let a = lines_after words im n shows ls (blank n) (world.blank n) (blank_stands words im n) (omega (arith, few)) d p in
    let b = lines_after words im n shows more d.next (run words im n a.0.events (world.blank n)) a.0.stands (let l = a.1 in omega (arith, few, l)) e q in
    at_two words im faithful n one folds d.next e.next a.0.events b.0.events a.0.stands
    (subst (StandsFor words im n e.next) (sym (run_join words im n a.0.events b.0.events (world.blank n))) b.0.stands)
