use Rattle.std.proofs.Common.{ap, ◌∙◌, ℕ}
use Rattle.std.specs.Vec.Iter.{into_iter_items}
use Rattle.kp_raft.specs.Members.{running_of}
use Rattle.kp_raft.proofs.Beats.{one_peer, one_image}
use Rattle.kp_raft.proofs.raft.Raft.beat_mail.Goals as goal

pub loop-k-preserved : goal.loop-k-preserved
loop-k-preserved g c = record {
  so_far = one_peer {I = g.row.I.Denot} c.args.self.now.node c.loop-k.k c.args.self.now.held (running_of c.args.self.now) c.args.index c.args.images (into_iter_items c.loop-k.images) c.loop-k.mails c.beat_to.new.mails c.loop-k.invariant.rest c.loop-k.invariant.so_far c.in_ok-beat_to.ensures.mail;
  rest = one_image {I = g.row.I.Denot} c.args.self.now.node c.loop-k.k c.args.self.now.held (running_of c.args.self.now) c.args.images (into_iter_items c.loop-k.images) (into_iter_items c.beat_to.new.images) c.loop-k.invariant.rest c.in_ok-beat_to.ensures.rest;
  left = c.in_ok-beat_to.ensures.left;
}
