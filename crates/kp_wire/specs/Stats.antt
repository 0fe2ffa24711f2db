-- The numbers of a node as they are sent: all but how many children it ever had.
use Rattle.kp_model.specs.declared.node.Meta.{Meta}
use Rattle.kp_wire.specs.declared.stat.Stat.{Stat}

abbrev pub stat_of : Meta → Stat
stat_of m = record { czxid = m.czxid; mzxid = m.mzxid; pzxid = m.pzxid; ctime = m.ctime; mtime = m.mtime; version = m.version; cversion = m.cversion; aversion = m.aversion; owner = m.owner; len = m.len; kids = m.kids }
