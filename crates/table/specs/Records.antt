-- Records of a node table.
use Rattle.std.specs.Prelude.{ℕ, pos}
use Rattle.table.specs.declared.kinds.Kind.{Kind}
use Rattle.table.specs.declared.nodes.Node.{Node}
use Rattle.table.specs.Numbers.{kind_number}

-- no node
abbrev pub zero : Node
zero = record { kind = 0; length = 0; first = 0; second = 0; third = 0; next = 0; place = 0; value = pos 0 }

-- a node with a kind and a place alone
abbrev pub bare : Kind → ℕ → Node
bare k p = record { kind = kind_number k; length = 0; first = 0; second = 0; third = 0; next = 0; place = p; value = pos 0 }
