-- Where a number stands in a set, or belongs.
use Rattle.std.specs.Prelude.{◌≡◌, ℕ, ◌<◌, ◌≤◌, true, false, List, length, ℤ}
use Rattle.std.specs.List.{insert, remove}
use Rattle.sets.specs.Sets.{has, put, cut}

-- n stands at place p
pub record Found (n : ℤ) (xs : List ℤ) (p : ℕ) : Type 0 where
  pub within : p < length xs
  pub there : has n xs ≡ true
  pub puts : put n xs ≡ xs
  pub cuts : cut n xs ≡ remove xs p

-- n is missing, and belongs at place p
pub record Missing (n : ℤ) (xs : List ℤ) (p : ℕ) : Type 0 where
  pub within : p ≤ length xs
  pub lacks : has n xs ≡ false
  pub puts : put n xs ≡ insert xs p n
  pub cuts : cut n xs ≡ xs
