use Rattle.std.proofs.Common.{arith}
use Rattle.std.proofs.lemmas.Grind.{common_steps}
use Rattle.sets.specs.Held.{items}
use Rattle.sets.proofs.Ends.{greatest_last}
use Rattle.sets.proofs.rows.Row.greatest.Goals as goal

pub returns : goal.returns
returns c =
    let e = greatest_last (items c.args.self.now) in
    grind (arith, common_steps)
