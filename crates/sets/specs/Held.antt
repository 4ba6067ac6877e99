-- What rows hold.
use Rattle.std.specs.Prelude.{List, map, take, ℤ}
use Rattle.sets.specs.declared.rows.Row.{Row}

-- the set that a row holds
abbrev pub items : Row → List ℤ
items r = take r.count r.cells

abbrev pub held : List Row → List (List ℤ)
held rows = map items rows
