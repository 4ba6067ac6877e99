-- What a port over lists of numbers means.
use Rattle.std.specs.Prelude.{◌-◌, length, take}
use Rattle.ports.specs.declared.lists.ListPort.{ListPort}
use Rattle.ports.specs.Meanings.{Meaning, open32}

abbrev pub list_meaning : ListPort → Meaning
list_meaning s = open32 s.input.now (take s.used s.output.now) (length s.output.now - s.used)
