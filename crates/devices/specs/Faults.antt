-- The number of each fault, and what it carries.
use Rattle.std.specs.Prelude.{ℕ, ℤ, pos}
use Rattle.ports.specs.Faults as port
use Rattle.sets.specs.Faults as store
use Rattle.devices.specs.declared.faults.DeviceFault.{DeviceFault}
use Rattle.devices.specs.declared.faults.DeviceFault.TheVariants.{Store, Port}

abbrev pub device_number : DeviceFault → ℕ
device_number (Store f) = store.fault_number f
device_number (Port f) = port.fault_number f

-- the slot, or the number
abbrev pub device_carries : DeviceFault → ℤ
device_carries (Store f) = pos (store.fault_slot f)
device_carries (Port f) = port.fault_carries f
