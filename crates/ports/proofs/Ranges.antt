-- Ranges: all of 32 bits, and one within another.
use Rattle.std.proofs.Common.{◌≡◌, true, ℤ, pos, negsuc, arith, w32, SFits}
use Rattle.std.specs.Int.{int_max, int_min}
use Rattle.std.proofs.lemmas.Int.{ints}
use Rattle.std.proofs.lemmas.Bool.{le-leb}
use Rattle.ports.specs.Meanings.{within}

pub all_within : (n : ℤ) → SFits w32 n → within (negsuc 2147483647) (pos 2147483647) n ≡ true
all_within (pos n) f = le-leb n 2147483647 (omega (arith, f.sfits))
all_within (negsuc n) f = rw (le-leb n 2147483647 (omega (arith, f.sfits)))

pub fence_in : (l m h k n : ℤ) → within m k n ≡ true → within (int_max l m) (int_min h k) n ≡ within l h n
fence_in l m h k n e = grind (arith, ints)
