use Rattle.std.proofs.Common.{◌≡◌, length, drop}
use Rattle.std.specs.Vec.Iter.{into_iter_items, into_iter_len}
use Rattle.kp_model.specs.Majority.{count}
use Rattle.kp_raft.specs.Numbers.{for_peers}
use Rattle.kp_raft.specs.Appends.{lags, beat_for}
use Rattle.kp_raft.specs.Members.{running_of}
use Rattle.kp_raft.proofs.raft.Raft.beat_mail.Given as goal

abbrev pub invariant-loop-k : goal.invariant-loop-k
invariant-loop-k g l = record {
  so_far : l.mails ≡ for_peers l.k l.self.node (beat_for l.self.node l.self.held (running_of l.self) l.index l.fn.images);
  rest : into_iter_items l.images ≡ drop (count l.k (lags l.self.node l.self.held (running_of l.self))) l.fn.images;
  left : into_iter_len l.images ≡ length (into_iter_items l.images);
}
