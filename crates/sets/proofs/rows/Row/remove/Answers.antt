use Rattle.std.proofs.Common.{◌≡◌, ◌-◌, ◌≤◌, ◌++◌, length, take, drop, arith}
use Rattle.sets.specs.Held.{items}
use Rattle.sets.specs.Searches.{Found}
use Rattle.sets.specs.Sets.{cut}
use Rattle.sets.proofs.Members.{cut_rises}
use Rattle.sets.proofs.Ordering.{seen}
use Rattle.sets.proofs.Removing.{removed_row}
use Rattle.sets.proofs.rows.Row.remove.Goals as goal
use Rattle.sets.proofs.rows.Row.remove.Goals.{After-remove_at}

-- what the row holds after the removal
after : (c : goal.After-remove_at) → take (c.args.self.now.count - 1) (c.remove_at.new.cells ++ drop (c.from.result - 0) c.args.self.now.cells) ≡ cut c.args.n (items c.args.self.now)
after c =
    let s = c.args.self.now in
    let l : s.count ≤ length s.cells = omega arith in
    let h = seen (λ m. Found m (items s) c.in-Ok.p) c.args.n c.ranges.n c.in-Ok.ensures in
    removed_row c.args.n s.cells c.remove_at.new.cells s.count (c.from.result - 0) c.in-Ok.p (omega arith) l h c.remove_at.ensures

pub invariant_of-self : goal.invariant_of-self
invariant_of-self c =
    let s = c.args.self.now in
    record { fit = omega arith; rises = rw (after c) (cut_rises c.args.n (items s) s.rises) }

pub returns-in-Ok : goal.returns-in-Ok
returns-in-Ok c = after (goal.at.returns-in-Ok c).After-remove_at
