-- What a fault tells.
use Rattle.std.specs.Prelude.{ℕ}
use Rattle.sets.specs.declared.faults.SetFault.{SetFault}
use Rattle.sets.specs.declared.faults.SetFault.TheVariants.{NoSlot, Full}

abbrev pub fault_number : SetFault → ℕ
fault_number (NoSlot slot) = 56
fault_number (Full slot) = 46

abbrev pub fault_slot : SetFault → ℕ
fault_slot (NoSlot slot) = slot
fault_slot (Full slot) = slot
