-- A port's meaning behind a range.
use Rattle.std.specs.Prelude.{◌≡◌, false, cond, ℤ, Ok, Err, Result, int_lt}
use Rattle.std.specs.Int.{int_max, int_min}
use Rattle.ports.specs.declared.faults.RangeFault.{RangeFault}
use Rattle.ports.specs.declared.faults.RangeFault.TheVariants.{Reversed}
use Rattle.ports.specs.declared.fences.Range.{Range}
use Rattle.ports.specs.Meanings.{Meaning, within, write_leaves}

abbrev pub range_over : ℤ → ℤ → Result Range RangeFault
range_over low high = cond (int_lt high low) (Err Reversed) (Ok (record { low = low; high = high }))

-- the larger lowest and the smaller highest, and all else as it was
abbrev pub fenced : Range → Meaning → Meaning
fenced g m =
    record { waiting = m.waiting; written = m.written; room = m.room; low = int_max m.low g.low; high = int_min m.high g.high }

-- a write of a number outside the range changes nothing
abbrev pub Guards : Range → Meaning → Type 0
Guards g m = (n : ℤ) → within g.low g.high n ≡ false → write_leaves (fenced g m) n ≡ fenced g m
