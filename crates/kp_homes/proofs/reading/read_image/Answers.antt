use Rattle.std.proofs.Common.{◌≡◌, arith}
use Rattle.std.proofs.lemmas.Bool.Decides.{nat_tests}
use Rattle.kp_homes.proofs.Looking.{no_image}
use Rattle.kp_homes.proofs.reading.read_image.Goals as goal

pub returns-then-len-eq0-clause-read : goal.returns-then-len-eq0-clause-read
returns-then-len-eq0-clause-read g c =
    let test = c.if-len-eq0.true in
    let none : c.args.len ≡ 0 = grind (arith, nat_tests) in
    no_image c.args.slot c.args.len (g.D.Disk.held c.args.disk.now) none
