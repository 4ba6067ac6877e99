use Rattle.std.proofs.Common.{[]}
use Rattle.sets.proofs.Slots.{changed}
use Rattle.sets.proofs.lent.RowStoreSetStore.empty.Goals as goal

pub returns-clause-leaves : goal.returns-clause-leaves
returns-clause-leaves c =
    let s = c.args.self.now in
    changed c.args.slot c.in_ok-rows.field-0 (λ _. []) s.rows.now c.clear.new.self c.index-rows-branch.result c.in_ok-rows.ensures s.full c.clear.ensures
