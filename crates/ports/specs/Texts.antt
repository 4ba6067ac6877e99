-- What a port over bytes means, and which bytes it writes.
use Rattle.std.specs.Prelude.{◌≡◌, ℕ, ◌+◌, List, ◌++◌, length, take, drop, ℤ, Ok, Err, Result}
use Rattle.ports.specs.declared.faults.PortFault.{PortFault}
use Rattle.ports.specs.declared.texts.TextPort.{TextPort}
use Rattle.ports.specs.Meanings.{Meaning, open32}
use Rattle.ports.specs.Spellings.{spelled}
use Rattle.ports.specs.Words.{numbers_in}

-- The bytes of an output, and how many of them are written.
abbrev pub bytes_of : TextPort → List ℕ
bytes_of s = s.output.bytes.now

abbrev pub used_of : TextPort → ℕ
used_of s = s.output.used

abbrev pub text_meaning : TextPort → Meaning
text_meaning s =
    open32 (numbers_in (drop s.words.place s.words.text.now)) (numbers_in (take (used_of s) (bytes_of s))) s.room

-- Where a write of n answers r, it turns the bytes of s into those of t: n is spelled after the bytes used, and the rest is kept.
abbrev pub Spelt : TextPort → ℤ → Result Unit PortFault → TextPort → Type 0
Spelt s n (Ok _) t =
    (used_of t ≡ used_of s + length (spelled n)) × (bytes_of t ≡ (take (used_of s) (bytes_of s) ++ spelled n) ++ drop (used_of t) (bytes_of s))
Spelt s n (Err _) t = (used_of t ≡ used_of s) × (bytes_of t ≡ bytes_of s)
