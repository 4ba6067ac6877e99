-- The laws of sets.
use Rattle.std.proofs.Common.{◌≡◌, ◌+◌, ◌-◌, true, false, cond, ◌≢◌, ◌↔◌, List, [], ◌∷◌, length, ℤ, ◌≤ℤ◌, Some, None, sym, refl, ◌∙◌, inl, inr, arith}
use Rattle.std.specs.Int.Signed.{lt_z}
use Rattle.std.proofs.lemmas.Bool.{cases_Bool}
use Rattle.std.proofs.lemmas.Bool.Decides.{nat_tests}
use Rattle.std.proofs.lemmas.Grind.{common_steps}
use Rattle.std.proofs.lemmas.Int.{ints}
use Rattle.sets.specs.Laws.{SetLaws}
use Rattle.sets.specs.Sets.{under, rising, same, has, put, cut, least, greatest}
use Rattle.sets.proofs.Ordering.{not_under}

-- ---- put

pub put_has : (n : ℤ) (xs : List ℤ) → has n (put n xs) ≡ true
put_has n [] = grind arith
put_has n (x ∷ xs) = grind (arith, put_has n xs)

pub put_others : (m n : ℤ) (xs : List ℤ) → m ≢ n → has m (put n xs) ≡ has m xs
put_others m n [] ne = grind arith
put_others m n (x ∷ xs) ne = grind (arith, put_others m n xs ne)

under_put : (x n : ℤ) (xs : List ℤ) → lt_z x n ≡ true → under x xs ≡ true → under x (put n xs) ≡ true
under_put x n xs l u = grind arith

pub put_rises : (n : ℤ) (xs : List ℤ) → rising xs ≡ true → rising (put n xs) ≡ true
put_rises n [] r = refl
put_rises n (x ∷ xs) r = grind (arith, put_rises n xs, under_put)

pub put_member : (n : ℤ) (xs : List ℤ) → rising xs ≡ true → has n xs ≡ true → put n xs ≡ xs
put_member n [] r h = cc
put_member n (x ∷ xs) r h = grind (arith, put_member n xs, not_under n)

pub put_size : (n : ℤ) (xs : List ℤ) → rising xs ≡ true → length (put n xs) ≡ cond (has n xs) (length xs) (length xs + 1)
put_size n [] r = refl
put_size n (x ∷ xs) r = grind (arith, put_size n xs, not_under n)

-- ---- cut

under_cut : (x n : ℤ) (xs : List ℤ) → under x xs ≡ true → rising xs ≡ true → under x (cut n xs) ≡ true
under_cut x n xs u r = grind arith

pub cut_rises : (n : ℤ) (xs : List ℤ) → rising xs ≡ true → rising (cut n xs) ≡ true
cut_rises n [] r = refl
cut_rises n (x ∷ xs) r = grind (arith, cut_rises n xs, under_cut)

pub cut_size : (n : ℤ) (xs : List ℤ) → length (cut n xs) ≡ cond (has n xs) (length xs - 1) (length xs)
cut_size n [] = refl
cut_size n (x ∷ xs) = grind (arith, ints, nat_tests, common_steps, cut_size n xs)

pub cut_lacks : (n : ℤ) (xs : List ℤ) → rising xs ≡ true → has n (cut n xs) ≡ false
cut_lacks n [] r = refl
cut_lacks n (x ∷ xs) r = grind (arith, cut_lacks n xs, not_under n xs)

pub cut_others : (m n : ℤ) (xs : List ℤ) → m ≢ n → has m (cut n xs) ≡ has m xs
cut_others m n [] ne = refl
cut_others m n (x ∷ xs) ne = grind (arith, cut_others m n xs ne)

pub cut_absent : (n : ℤ) (xs : List ℤ) → has n xs ≡ false → cut n xs ≡ xs
cut_absent n [] h = refl
cut_absent n (x ∷ xs) h = grind (arith, cut_absent n xs)

-- ---- the least and the greatest

pub least_none : (xs : List ℤ) → (least xs ≡ None) ↔ (xs ≡ [])
least_none xs = grind arith

pub least_has : (x : ℤ) (xs : List ℤ) → least xs ≡ Some x → has x xs ≡ true
least_has x xs e = grind arith

pub least_bound : (x y : ℤ) (xs : List ℤ) → rising xs ≡ true → least xs ≡ Some x → has y xs ≡ true → x ≤ℤ y
least_bound x y [] r e h = cc
least_bound x y (z ∷ zs) r e h = grind (arith, not_under y (z ∷ zs))

pub greatest_none : (xs : List ℤ) → (greatest xs ≡ None) ↔ (xs ≡ [])
greatest_none [] = grind arith
greatest_none (x ∷ []) = grind arith
greatest_none (x ∷ y ∷ ys) = grind (arith, greatest_none (y ∷ ys))

pub greatest_has : (x : ℤ) (xs : List ℤ) → greatest xs ≡ Some x → has x xs ≡ true
greatest_has x [] e = cc
greatest_has x (y ∷ []) e = grind arith
greatest_has x (y ∷ z ∷ zs) e = grind (arith, greatest_has x (z ∷ zs))

pub greatest_bound : (x y : ℤ) (xs : List ℤ) → rising xs ≡ true → greatest xs ≡ Some x → has y xs ≡ true → y ≤ℤ x
greatest_bound x y [] r e h = cc
greatest_bound x y (z ∷ []) r e h = grind (arith, ints)
greatest_bound x y (z ∷ w ∷ ws) r e h =
    grind (arith, ints, greatest_bound x y (w ∷ ws), greatest_bound x w (w ∷ ws))

-- ---- sets with the same members

first_alike : (x y : ℤ) (xs ys : List ℤ) → rising (x ∷ xs) ≡ true → rising (y ∷ ys) ≡ true → has x (x ∷ xs) ≡ has x (y ∷ ys) → has y (x ∷ xs) ≡ has y (y ∷ ys) → x ≡ y
first_alike x y xs ys r s h k = grind (arith, ints, not_under x (y ∷ ys), not_under y (x ∷ xs))

-- the first number of a rising list does not come again
first_once : (x n : ℤ) (xs : List ℤ) → rising (x ∷ xs) ≡ true → same x n ≡ true → has n xs ≡ false
first_once x n xs r t = grind (arith, ints, not_under n xs)

rest_alike : (x n : ℤ) (xs ys : List ℤ) → rising (x ∷ xs) ≡ true → rising (x ∷ ys) ≡ true → has n (x ∷ xs) ≡ has n (x ∷ ys) → has n xs ≡ has n ys
rest_alike x n xs ys r s h =
    elim (cases_Bool (same x n)) [
      | inl t ↦ first_once x n xs r t ∙ sym (first_once x n ys s t)
      | inr f ↦ simp f at h
    ]

pub alike : (xs ys : List ℤ) → rising xs ≡ true → rising ys ≡ true → ((n : ℤ) → has n xs ≡ has n ys) → xs ≡ ys
alike [] [] r s h = refl
alike [] (y ∷ ys) r s h = grind (arith, h y)
alike (x ∷ xs) [] r s h = grind (arith, h x)
alike (x ∷ xs) (y ∷ ys) r s h =
    let e : x ≡ y = first_alike x y xs ys r s (h x) (h y) in
    let s' : rising (x ∷ ys) ≡ true = rw e s in
    let rest = alike xs ys (grind arith) (grind arith) (λ n. rest_alike x n xs ys r s' (rw (← e) at (h n))) in
    cc

pub set_laws : SetLaws
set_laws = record {
  put_has = put_has;
  put_others = put_others;
  put_rises = put_rises;
  put_size = put_size;
  put_member = put_member;
  cut_lacks = cut_lacks;
  cut_others = cut_others;
  cut_rises = cut_rises;
  cut_size = cut_size;
  cut_absent = cut_absent;
  least_none = least_none;
  least_has = least_has;
  least_bound = least_bound;
  greatest_none = greatest_none;
  greatest_has = greatest_has;
  greatest_bound = greatest_bound;
  alike = alike;
}
