use Rattle.std.proofs.Common.{subst}
use Rattle.kp_entry.specs.Records.{IsRecord}
use Rattle.kp_homes.proofs.Ranges.{vote_fits, boot_fits}
use Rattle.kp_homes.proofs.replay.Replay.take.Goals as goal

pub invariant_of-self : goal.invariant_of-self
invariant_of-self c = let fits = vote_fits c.in-Vote.term c.in-Vote.vote (subst IsRecord c.in-Vote.is c.requires.is) in (fits.1, fits.0, c.self.invariant.2)

pub invariant_of-self-in-Boot : goal.invariant_of-self-in-Boot
invariant_of-self-in-Boot c = (c.self.invariant.0, c.self.invariant.1, boot_fits c.in-Boot.boot (subst IsRecord c.in-Boot.is c.requires.is))
