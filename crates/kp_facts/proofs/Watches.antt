-- Who watches what, listed.
use Rattle.std.proofs.Common.{◌≡◌, ℕ, List, [], ◌∷◌, refl, ap, ◌∙◌}
use Rattle.std.specs.Prelude.{map, ◌==◌}
use Rattle.std.specs.List.{AllByRecursion}
use Rattle.std.specs.Str.{bytes_eq}
use Rattle.std.specs.Ordering.{nat_cmp, eq_by_cmp}
use Rattle.std.specs.Cmp.{nat_cmp_total, unsigned_tied}
use Rattle.std.proofs.lemmas.Cmp.{nat_list_cmp_total}
use Rattle.std.proofs.lemmas.Map.Text.{is_eq-slice_cmp}
use Rattle.std.specs.BTreeSet.{BTreeSet}
use Rattle.std.specs.FinMap as fin
use Rattle.std.specs.FinMap.{nat_cmp-IsAntisymmetric, slice_cmp-IsAntisymmetric}
use Rattle.kp_model.specs.State.{path_cmp}
use Rattle.kp_layers.specs.Listed.{Lists}
use Rattle.kp_watch.specs.declared.watch.Watch.{Watch}
use Rattle.kp_words.specs.declared.facts.SessionPaths.{SessionPaths}
use Rattle.kp_words.specs.declared.facts.WatchedPath.{WatchedPath}
use Rattle.kp_step.specs.Node.{Seats}
use Rattle.kp_facts.specs.Groups.{has_group, is_in, Gathers, shown}
use Rattle.kp_facts.specs.Watched.{conn_of, path_of, conns_of, paths_of, watched_by, watched_at, paths_each, conns_each}
use Rattle.kp_facts.specs.Facts.{session_at, watcher_facts, path_facts, watchers_facts, watched_facts}
use Rattle.kp_facts.proofs.Listing.{list_is}

path_same : fin.IsAntisymmetric path_cmp
path_same = slice_cmp-IsAntisymmetric nat_cmp-IsAntisymmetric

at_conn : (k : ℕ) (w : Watch) → eq_by_cmp nat_cmp w.conn k ≡ (w.conn == k)
at_conn k w = unsigned_tied w.conn k

at_path : (p : List ℕ) (w : Watch) → eq_by_cmp path_cmp w.path p ≡ bytes_eq w.path p
at_path p w = is_eq-slice_cmp w.path p

module _ {W : Type 0} (items : W → List (List ℕ)) (ws : List Watch) (groups : List (ℕ × BTreeSet (List ℕ))) (g : Gathers nat_cmp path_cmp conn_of path_of ws groups) where
  pub by_conn : (list : List (ℕ × W)) → Lists nat_cmp (has_group nat_cmp groups) (map (λ e. e.0) list) → AllByRecursion (λ e. Lists path_cmp (is_in nat_cmp path_cmp groups e.0) (items e.1)) list → shown items list ≡ paths_each ws
  by_conn list keys values = list_is nat_cmp path_cmp conn_of path_of (λ k w. w.conn == k) items nat_cmp_total nat_cmp-IsAntisymmetric nat_list_cmp_total path_same at_conn ws groups g list keys values

module _ {W : Type 0} (items : W → List ℕ) (ws : List Watch) (groups : List (List ℕ × BTreeSet ℕ)) (g : Gathers path_cmp nat_cmp path_of conn_of ws groups) where
  pub by_path : (list : List (List ℕ × W)) → Lists path_cmp (has_group path_cmp groups) (map (λ e. e.0) list) → AllByRecursion (λ e. Lists nat_cmp (is_in path_cmp nat_cmp groups e.0) (items e.1)) list → shown items list ≡ conns_each ws
  by_path list keys values = list_is path_cmp nat_cmp path_of conn_of (λ p w. bytes_eq w.path p) items nat_list_cmp_total path_same nat_cmp_total nat_cmp-IsAntisymmetric at_path ws groups g list keys values

-- ---- with the sessions of the connections

abbrev pub watcher_of : {W : Type 0} → (W → List (List ℕ)) → Seats → ℕ × W → SessionPaths
watcher_of items seats e = record { session = session_at seats e.0; paths = items e.1 }

abbrev pub watched_of : {W : Type 0} → (W → List ℕ) → Seats → List ℕ × W → WatchedPath
watched_of items seats e = record { path = e.0; sessions = map (session_at seats) (items e.1) }

abbrev by_itself : {X : Type 0} → X → X
by_itself x = x

watchers_shown : {W : Type 0} (items : W → List (List ℕ)) (seats : Seats) (list : List (ℕ × W)) → map (watcher_of items seats) list ≡ map (watcher_of by_itself seats) (shown items list)
watchers_shown items seats [] = refl
watchers_shown items seats (e ∷ es) = ap (λ l. watcher_of items seats e ∷ l) (watchers_shown items seats es)

watchers_each : (seats : Seats) (ws : List Watch) (ks : List ℕ) → map (watcher_of by_itself seats) (map (λ k. (k, paths_of (watched_by k ws))) ks) ≡ map (watcher_facts seats ws) ks
watchers_each seats ws [] = refl
watchers_each seats ws (k ∷ ks) = ap (λ l. watcher_facts seats ws k ∷ l) (watchers_each seats ws ks)

pub watchers_are : {W : Type 0} (items : W → List (List ℕ)) (seats : Seats) (ws : List Watch) (list : List (ℕ × W)) → shown items list ≡ paths_each ws → map (watcher_of items seats) list ≡ watchers_facts seats ws
watchers_are items seats ws list h = watchers_shown items seats list ∙ ap (map (watcher_of by_itself seats)) h ∙ watchers_each seats ws (conns_of ws)

watched_shown : {W : Type 0} (items : W → List ℕ) (seats : Seats) (list : List (List ℕ × W)) → map (watched_of items seats) list ≡ map (watched_of by_itself seats) (shown items list)
watched_shown items seats [] = refl
watched_shown items seats (e ∷ es) = ap (λ l. watched_of items seats e ∷ l) (watched_shown items seats es)

watched_each : (seats : Seats) (ws : List Watch) (ps : List (List ℕ)) → map (watched_of by_itself seats) (map (λ p. (p, conns_of (watched_at p ws))) ps) ≡ map (path_facts seats ws) ps
watched_each seats ws [] = refl
watched_each seats ws (p ∷ ps) = ap (λ l. path_facts seats ws p ∷ l) (watched_each seats ws ps)

pub watched_are : {W : Type 0} (items : W → List ℕ) (seats : Seats) (ws : List Watch) (list : List (List ℕ × W)) → shown items list ≡ conns_each ws → map (watched_of items seats) list ≡ watched_facts seats ws
watched_are items seats ws list h = watched_shown items seats list ∙ ap (map (watched_of by_itself seats)) h ∙ watched_each seats ws (paths_of ws)
