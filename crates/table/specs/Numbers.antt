-- The numbers of kinds and types.
use Rattle.std.specs.Prelude.{ℕ}
use Rattle.table.specs.declared.kinds.Kind.{Kind}
use Rattle.table.specs.declared.kinds.Kind.TheVariants as kind
use Rattle.table.specs.declared.kinds.DataType.{DataType}
use Rattle.table.specs.declared.kinds.DataType.TheVariants as type

abbrev pub kind_number : Kind → ℕ
kind_number kind.Number = 1
kind_number kind.True = 2
kind_number kind.False = 3
kind_number kind.Variable = 4
kind_number kind.Call = 5
kind_number kind.Plus = 6
kind_number kind.Minus = 7
kind_number kind.Times = 8
kind_number kind.Divide = 9
kind_number kind.Equal = 10
kind_number kind.Less = 11
kind_number kind.AtMost = 12
kind_number kind.And = 13
kind_number kind.Or = 14
kind_number kind.Not = 15
kind_number kind.In = 16
kind_number kind.Least = 17
kind_number kind.Greatest = 18
kind_number kind.Count = 19
kind_number kind.Empty = 20
kind_number kind.Expression = 21
kind_number kind.Assign = 22
kind_number kind.If = 23
kind_number kind.While = 24
kind_number kind.Read = 25
kind_number kind.Write = 26
kind_number kind.Add = 27
kind_number kind.Remove = 28
kind_number kind.Return = 29
kind_number kind.Declared = 30
kind_number kind.Parameter = 31
kind_number kind.Function = 32
kind_number kind.Forward = 33
kind_number kind.Program = 34

abbrev pub type_number : DataType → ℕ
type_number type.Integer = 1
type_number type.Truth = 2
type_number type.IntegerSet = 3
type_number type.Void = 4
