use Rattle.std.specs.List.Sorted.{IsBinarySearchResult}
use Rattle.std.specs.Ordering.{int_cmp}
use Rattle.sets.specs.Held.{items}
use Rattle.sets.proofs.Ordering.{seen}
use Rattle.sets.proofs.Places.{searched}
use Rattle.sets.proofs.rows.Row.find.Goals as goal

pub returns : goal.returns
returns c =
    let s = c.args.self.now in
    let r = c.binary_search.result in
    let e = rw c.numbers.ensures at c.binary_search.ensures in
    searched c.args.n (items s) r s.rises e.bound (seen (λ m. IsBinarySearchResult (λ y. int_cmp y m) (items s) r) c.args.n c.ranges.n e.position)
