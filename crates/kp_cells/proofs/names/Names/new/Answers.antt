use Rattle.std.proofs.Common.{◌≡◌, ap}
use Rattle.kp_cells.specs.Naming.{no_names, numbers_in, texts_in}
use Rattle.kp_cells.proofs.Named.{empty_naming}
use Rattle.kp_cells.proofs.Kinned.{empty_kin}
use Rattle.kp_cells.proofs.names.Names.new.Goals as goal

pub invariant_of-result : goal.invariant_of-result
invariant_of-result c =
    let none : record { numbers = numbers_in c.new.result.entries; texts = texts_in c.new-2.result.entries } ≡ no_names = λ i. record { numbers = numbers_in (c.new.ensures.empty i); texts = texts_in (c.new-2.ensures.empty i) } in
    record {
      naming = (empty_naming _ none).0;
      below = (empty_naming _ none).1;
      kin = empty_kin c.new-3.result.entries (texts_in c.new-2.result.entries) c.new-3.ensures.empty (ap texts_in c.new-2.ensures.empty);
    }

pub returns-clause-naming : goal.returns-clause-naming
returns-clause-naming c = (empty_naming _ (λ i. record { numbers = numbers_in (c.new.ensures.empty i); texts = texts_in (c.new-2.ensures.empty i) })).0
