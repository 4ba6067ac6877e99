-- The words of a text, and the numbers that they spell.
use Rattle.std.specs.Prelude.{ℕ, ◌+◌, ◌-◌, ◌*◌, Bool, cond, not, ◌&&◌, ◌||◌, List, [], ◌∷◌, length, drop, ℤ, pos, neg_ℤ, Some, None, Option, ◌==◌, nat_le}
use Rattle.std.specs.List.{slice_split, find}
use Rattle.std.specs.Option.{is_some, option_map}
use Rattle.ports.specs.declared.faults.Malformed.{Malformed}

-- space, tab, line feed and carriage return
abbrev pub blank : ℕ → Bool
blank b = b == 32 || (b == 9 || (b == 10 || b == 13))

-- what words are made of
abbrev pub solid : ℕ → Bool
solid b = not (blank b)

-- 0 to 9
abbrev pub digit : ℕ → Bool
digit b = nat_le 48 b && nat_le b 57

-- a text cut at each of its blanks: the words, and an empty piece wherever two blanks meet
abbrev pub pieces : List ℕ → List (List ℕ)
pieces bs = slice_split blank bs

-- the words among pieces that stand one after another from place i on, a blank between each two; and where each stands
abbrev pub words_of : ℕ → List (List ℕ) → List (ℕ × List ℕ)
words_of i [] = []
words_of i ([] ∷ ps) = words_of (i + 1) ps
words_of i ((b ∷ w) ∷ ps) = (i, b ∷ w) ∷ words_of (i + length (b ∷ w) + 1) ps

-- the words of a text from place i on
unfoldable pub words_from : ℕ → List ℕ → List (ℕ × List ℕ)
words_from i text = words_of i (pieces (drop i text))

-- the number that digits spell after those of n, if it is at most `most`
abbrev pub magnitude_from : ℕ → ℕ → List ℕ → Option ℕ
magnitude_from most n [] = cond (nat_le n most) (Some n) None
magnitude_from most n (d ∷ ds) = cond (digit d) (magnitude_from most (n * 10 + (d - 48)) ds) None

-- one digit at least
abbrev pub magnitude_of : ℕ → List ℕ → Option ℕ
magnitude_of most [] = None
magnitude_of most (d ∷ ds) = magnitude_from most 0 (d ∷ ds)

-- the number of 32 bits that a word spells: `-` or nothing, and then digits
unfoldable pub number_of : List ℕ → Option ℤ
number_of [] = None
number_of (b ∷ bs) =
    cond (b == 45) (option_map (λ n. neg_ℤ (pos n)) (magnitude_of 2147483648 bs)) (option_map pos (magnitude_of 2147483647 (b ∷ bs)))

-- a number before others, or none where the first is missing
abbrev pub leading : Option ℤ → List ℤ → List ℤ
leading None ns = []
leading (Some n) ns = n ∷ ns

-- the numbers of the words up to the first that spells none
abbrev pub numbers_of : List (List ℕ) → List ℤ
numbers_of [] = []
numbers_of ([] ∷ ps) = numbers_of ps
numbers_of ((b ∷ w) ∷ ps) = leading (number_of (b ∷ w)) (numbers_of ps)

-- the numbers that wait in a text
unfoldable pub numbers_in : List ℕ → List ℤ
numbers_in bs = numbers_of (pieces bs)

-- where the first word stands that spells no number, of a text that begins at place i
unfoldable pub malformed_in : ℕ → List ℕ → Option Malformed
malformed_in i bs =
    option_map (λ w. record { place = w.0 }) (find (λ w. not (is_some (number_of w.1))) (words_of i (pieces bs)))
