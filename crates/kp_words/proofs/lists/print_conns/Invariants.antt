use Rattle.std.proofs.Common.{◌≡◌, ◌++◌, drop}
use Rattle.std.specs.List.{flat_map}
use Rattle.kp_words.specs.Texts.{conn_line}
use Rattle.kp_words.proofs.lists.print_conns.Given as goal

abbrev pub invariant-loop-conn : goal.invariant-loop-conn
invariant-loop-conn l = l.out.items ++ flat_map conn_line (drop l.conn-index l.conns) ≡ l.fn.out.items ++ flat_map conn_line l.conns
