-- The facts of which a word tells, with nothing that it does not print.
use Rattle.std.specs.Prelude.{◌≡◌, ◌==◌, not, [], length, map}
use Rattle.std.specs.List.{filter}
use Rattle.std.specs.FinMap as map
use Rattle.kp_model.specs.declared.node.Node as tree
use Rattle.kp_words.specs.declared.facts.Facts.{Facts}
use Rattle.kp_words.specs.declared.facts.Counts.{Counts}
use Rattle.kp_words.specs.declared.word.Word.{Word}
use Rattle.kp_words.specs.declared.word.Word.TheVariants as word
use Rattle.kp_words.specs.Answers.{text_of}
use Rattle.kp_step.specs.Node.{Node}
use Rattle.kp_facts.specs.Tree.{owner_facts, is_owner, size_in}
use Rattle.kp_facts.specs.Watched.{paths_of, conns_of}
use Rattle.kp_facts.specs.Facts.{log_facts, conns_facts, watchers_facts, watched_facts, facts_of}

-- the counts that cost nothing
abbrev pub plain_counts : Node → Counts
plain_counts x = record {
  nodes = map.len x.state.nodes;
  ephemerals = length (filter (λ (n : tree.Node). not (n.owner == 0)) (map.values x.state.nodes));
  size = 0;
  connections = map.len x.seats;
  sessions = map.len x.state.sessions;
  watches = length x.watches;
  watching = 0;
  watched = 0;
}

abbrev pub plain_facts : Node → Facts
plain_facts x = record { members = x.members; role = x.running.role; log = log_facts x; counts = plain_counts x; conns = []; watchers = []; watched = []; sessions = []; owners = [] }

abbrev pub asked_facts : Word → Node → Facts
asked_facts word.Connections x = record (plain_facts x) { conns = conns_facts x.seats }
asked_facts word.Stat x = record (plain_facts x) { conns = conns_facts x.seats }
asked_facts word.Monitor x = record (plain_facts x) { counts = record (plain_counts x) { size = size_in x.state } }
asked_facts word.WatchSums x = record (plain_facts x) { counts = record (plain_counts x) { watching = length (conns_of x.watches); watched = length (paths_of x.watches) } }
asked_facts word.WatchesByConnection x = record (plain_facts x) { watchers = watchers_facts x.seats x.watches }
asked_facts word.WatchesByPath x = record (plain_facts x) { watched = watched_facts x.seats x.watches }
asked_facts word.Dump x = record (plain_facts x) { sessions = map.keys x.state.sessions; owners = map (owner_facts x.state) (filter (is_owner x.state) (map.keys x.state.sessions)) }
asked_facts w x = plain_facts x

-- they tell what all facts tell
abbrev pub AskedTell : Type 0
AskedTell = (w : Word) (x : Node) → text_of w (asked_facts w x) ≡ text_of w (facts_of x)
