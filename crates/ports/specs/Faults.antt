-- The number of each refusal, and the number that it carries.
use Rattle.std.specs.Prelude.{ℕ, ℤ, pos}
use Rattle.ports.specs.declared.faults.Malformed.{Malformed}
use Rattle.ports.specs.declared.faults.PortFault.{PortFault}
use Rattle.ports.specs.declared.faults.PortFault.TheVariants.{NoneWaits, NoRoom, OutOfRange}
use Rattle.ports.specs.declared.faults.RangeFault.{RangeFault}
use Rattle.ports.specs.declared.faults.RangeFault.TheVariants.{Reversed}

abbrev pub fault_number : PortFault → ℕ
fault_number NoneWaits = 43
fault_number (NoRoom n) = 49
fault_number (OutOfRange n) = 50

abbrev pub fault_carries : PortFault → ℤ
fault_carries NoneWaits = pos 0
fault_carries (NoRoom n) = n
fault_carries (OutOfRange n) = n

abbrev pub range_number : RangeFault → ℕ
range_number Reversed = 53

abbrev pub malformed_number : Malformed → ℕ
malformed_number m = 54
