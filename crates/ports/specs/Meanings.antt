-- What a port is, and what a read and a write of it give and leave.
use Rattle.std.specs.Prelude.{ℕ, ◌-◌, Bool, cond, not, ◌&&◌, List, [], ◌∷◌, ◌++◌, ℤ, pos, negsuc, Ok, Err, Result, ◌==◌, int_le}
use Rattle.ports.specs.declared.faults.PortFault.{PortFault}
use Rattle.ports.specs.declared.faults.PortFault.TheVariants.{NoneWaits, NoRoom, OutOfRange}

-- the numbers waiting and written, for how many more there is room, and the lowest and the highest allowed
pub record Meaning : Type 0 where
  pub waiting : List ℤ
  pub written : List ℤ
  pub room : ℕ
  pub low : ℤ
  pub high : ℤ

-- every number of 32 bits allowed
abbrev pub open32 : List ℤ → List ℤ → ℕ → Meaning
open32 waiting written room =
    record { waiting = waiting; written = written; room = room; low = negsuc 2147483647; high = pos 2147483647 }

abbrev pub first_waiting : List ℤ → Result ℤ PortFault
first_waiting [] = Err NoneWaits
first_waiting (n ∷ ns) = Ok n

abbrev pub rest_of : List ℤ → List ℤ
rest_of [] = []
rest_of (n ∷ ns) = ns

abbrev pub read_gives : Meaning → Result ℤ PortFault
read_gives m = first_waiting m.waiting

abbrev pub read_leaves : Meaning → Meaning
read_leaves m =
    record { waiting = rest_of m.waiting; written = m.written; room = m.room; low = m.low; high = m.high }

abbrev pub within : ℤ → ℤ → ℤ → Bool
within low high n = int_le low n && int_le n high

abbrev pub write_gives : Meaning → ℤ → Result Unit PortFault
write_gives m n =
    cond (within m.low m.high n) (cond (m.room == 0) (Err (NoRoom n)) (Ok tt)) (Err (OutOfRange n))

abbrev pub added : Meaning → ℤ → Meaning
added m n =
    record { waiting = m.waiting; written = m.written ++ (n ∷ []); room = m.room - 1; low = m.low; high = m.high }

abbrev pub write_leaves : Meaning → ℤ → Meaning
write_leaves m n = cond (within m.low m.high n && not (m.room == 0)) (added m n) m
