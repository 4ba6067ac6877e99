use Rattle.std.proofs.Common.{◌≡◌, get_or}
use Rattle.sets.specs.Held.{items}
use Rattle.sets.specs.Sets.{put_in}
use Rattle.sets.proofs.Ordering.{seen}
use Rattle.sets.proofs.Slots.{changed}
use Rattle.sets.proofs.lent.RowStoreSetStore.add.Goals as goal

pub returns-clause-leaves : goal.returns-clause-leaves
returns-clause-leaves c =
    let s = c.args.self.now in
    let i = c.in_ok-rows.field-0 in
    let r = c.index-rows-branch.result in
    let h = seen (λ m. items c.add.new.self ≡ put_in m (items (get_or s.rows.now i r))) c.args.n c.ranges.n c.add.ensures.leaves in
    changed c.args.slot i (put_in c.args.n) s.rows.now c.add.new.self r c.in_ok-rows.ensures s.full h
