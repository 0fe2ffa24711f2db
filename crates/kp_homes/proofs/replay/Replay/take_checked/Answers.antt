use Rattle.std.proofs.Common.{◌≡◌, ℕ, false, true, Err, drop, sym, ◌∙◌, ap, arith}
use Rattle.std.proofs.lemmas.Bool.Decides.{nat_tests}
use Rattle.kp_homes.specs.declared.fail.HomeFail.TheVariants as home_fail
use Rattle.kp_homes.specs.Opening.{Start, restarted}
use Rattle.kp_homes.proofs.Replaying.{goes, stops}
use Rattle.kp_homes.proofs.replay.Replay.take_checked.Goals as goal

pub returns-then-not-is_fit : goal.returns-then-not-is_fit
returns-then-not-is_fit c rs ps place =
    let test = c.if-not-is_fit.true in
    let said : c.is_fit.result ≡ false = grind (arith, nat_tests) in
    stops c.args.slot c.args.place c.args.self.now c.args.next rs ps (sym c.is_fit.ensures ∙ said) place ∙ ap (λ (k : ℕ). Err (home_fail.Damaged c.args.slot k)) (sym c.refused_at-at.ensures)

pub returns : goal.returns
returns c rs ps place =
    let test = c.if-not-is_fit.false in
    let said : c.is_fit.result ≡ true = grind (arith, nat_tests) in
    goes c.args.slot c.args.self.now c.args.next rs ps (sym c.is_fit.ensures ∙ said) ∙ ap (λ (s : Start). restarted c.args.slot s rs (drop 1 ps)) (sym c.in_ok-take.ensures)
