-- Numbers spelled as decimals, each with a line feed after it.
use Rattle.std.specs.Prelude.{◌≡◌, ℕ, Bool, true, List, [], ◌∷◌, ◌++◌, ℤ, pos, negsuc, decimal, unsigned_abs}
use Rattle.std.specs.List.{AllByRecursion}
use Rattle.ports.specs.Meanings.{within}
use Rattle.ports.specs.Words.{numbers_in}

-- `-` below zero
abbrev pub sign_of : ℤ → List ℕ
sign_of (pos n) = []
sign_of (negsuc n) = 45 ∷ []

unfoldable pub spelled : ℤ → List ℕ
spelled n = (sign_of n ++ decimal (unsigned_abs n)) ++ (10 ∷ [])

abbrev pub spellings : List ℤ → List ℕ
spellings [] = []
spellings (n ∷ ns) = spelled n ++ spellings ns

-- a number of 32 bits
abbrev pub fits32 : ℤ → Bool
fits32 n = within (negsuc 2147483647) (pos 2147483647) n

-- what was spelled is read back
abbrev pub ReadBack : Type 0
ReadBack = (ns : List ℤ) → AllByRecursion (λ n. fits32 n ≡ true) ns → numbers_in (spellings ns) ≡ ns
