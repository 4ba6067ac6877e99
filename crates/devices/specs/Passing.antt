-- A number read, put into a set, and written: what comes of it, by the meanings of store and port alone.
use Rattle.std.specs.Prelude.{ℕ, List, ℤ, Ok, Err, Result}
use Rattle.ports.specs.declared.faults.PortFault.{PortFault}
use Rattle.ports.specs.Meanings.{Meaning, read_gives, read_leaves, write_gives, write_leaves}
use Rattle.sets.specs.declared.faults.SetFault.{SetFault}
use Rattle.sets.specs.Sets.{put_in}
use Rattle.sets.specs.Slots.{change, add_gives}
use Rattle.devices.specs.declared.faults.DeviceFault.{DeviceFault}
use Rattle.devices.specs.declared.faults.DeviceFault.TheVariants.{Store, Port}

abbrev pub Answer : Type 0
Answer = Result (Unit {0}) DeviceFault

abbrev pub of_port : Result (Unit {0}) PortFault → Answer
of_port (Ok u) = Ok u
of_port (Err f) = Err (Port f)

-- unless the store refuses
abbrev pub after_add : Result (Unit {0}) SetFault → Answer → Answer
after_add (Ok u) r = r
after_add (Err f) r = Err (Store f)

abbrev pub after_read : Result ℤ PortFault → (ℤ → Answer) → Answer
after_read (Ok n) k = k n
after_read (Err f) k = Err (Port f)

abbrev pub when_added : {X : Type 0} → Result (Unit {0}) SetFault → X → X → X
when_added (Ok u) x y = x
when_added (Err f) x y = y

abbrev pub when_read : {X : Type 0} → Result ℤ PortFault → (ℤ → X) → X → X
when_read (Ok n) k y = k n
when_read (Err f) k y = y

abbrev pub pass_gives : ℕ → Meaning → List (List ℤ) → Answer
pass_gives slot m S = after_read (read_gives m) (λ n. after_add (add_gives slot n S) (of_port (write_gives (read_leaves m) n)))

abbrev pub pass_sets : ℕ → Meaning → List (List ℤ) → List (List ℤ)
pass_sets slot m S = when_read (read_gives m) (λ n. change slot (put_in n) S) S

abbrev pub pass_leaves : ℕ → Meaning → List (List ℤ) → Meaning
pass_leaves slot m S =
    when_read (read_gives m) (λ n. when_added (add_gives slot n S) (write_leaves (read_leaves m) n) (read_leaves m)) (read_leaves m)
