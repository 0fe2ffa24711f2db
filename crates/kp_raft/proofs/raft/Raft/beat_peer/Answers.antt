use Rattle.std.proofs.Common.{arith, ◌≡◌, ◌∙◌, sym, true, false}
use Rattle.std.proofs.lemmas.Bool.Decides.{nat_tests}
use Rattle.kp_raft.specs.Members.{running_of}
use Rattle.kp_raft.proofs.Beats.{runs_ahead}
use Rattle.kp_raft.proofs.raft.Raft.beat_peer.Goals as goal

pub append_for-requires-clause-next : goal.append_for-requires-clause-next
append_for-requires-clause-next g c =
    let ahead : c.lags.result ≡ false = grind (arith, nat_tests, c.if-not-lags.true) in
    runs_ahead c.args.peer c.args.self.now.node ((running_of c.args.self.now).nexts c.args.peer) c.args.self.now.held.log.base c.requires.other (sym c.lags.ensures ∙ ahead)
