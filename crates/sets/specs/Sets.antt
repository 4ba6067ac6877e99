-- A set of numbers, as the list of them in rising order.
use Rattle.std.specs.Prelude.{Bool, true, false, cond, not, ◌&&◌, ◌||◌, List, [], ◌∷◌, length, ℤ, Some, None, Option, int_lt, nat_lt}

-- x is below the first number of a list, if there is one
abbrev pub under : ℤ → List ℤ → Bool
under x [] = true
under x (y ∷ ys) = int_lt x y

abbrev pub rising : List ℤ → Bool
rising [] = true
rising (x ∷ xs) = under x xs && rising xs

abbrev pub same : ℤ → ℤ → Bool
same x y = not (int_lt x y) && not (int_lt y x)

-- n is a member
abbrev pub has : ℤ → List ℤ → Bool
has n [] = false
has n (x ∷ xs) = same x n || has n xs

-- with n in its place
abbrev pub put : ℤ → List ℤ → List ℤ
put n [] = n ∷ []
put n (x ∷ xs) = cond (int_lt x n) (x ∷ put n xs) (cond (int_lt n x) (n ∷ x ∷ xs) (x ∷ xs))

-- without n
abbrev pub cut : ℤ → List ℤ → List ℤ
cut n [] = []
cut n (x ∷ xs) = cond (same x n) xs (x ∷ cut n xs)

abbrev pub least : List ℤ → Option ℤ
least [] = None
least (x ∷ xs) = Some x

abbrev pub greatest : List ℤ → Option ℤ
greatest [] = None
greatest (x ∷ []) = Some x
greatest (x ∷ y ∷ ys) = greatest (y ∷ ys)

-- a set of at most 64 takes n where it has n already, or has room
abbrev pub takes : ℤ → List ℤ → Bool
takes n xs = has n xs || nat_lt (length xs) 64

-- with n in its place, where the set takes n
abbrev pub put_in : ℤ → List ℤ → List ℤ
put_in n xs = cond (takes n xs) (put n xs) xs
