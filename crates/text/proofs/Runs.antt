-- The longest front whose bytes pass a test: what it is.
use Rattle.std.proofs.Common.{◌≡◌, ℕ, suc, ◌+◌, ◌≤◌, Bool, true, false, cond, List, [], ◌∷◌, ◌++◌, length, take, sym, refl, ap, ◌∙◌, subst, one-add, arith}
use Rattle.std.specs.List.{prefix_len}
use Rattle.text.specs.Laws.{Each}

-- by its first byte
pub run_some : (p : ℕ → Bool) (b : ℕ) (bs : List ℕ) → p b ≡ true → prefix_len p (b ∷ bs) ≡ suc (prefix_len p bs)
run_some p b bs e = ap (λ t. cond t (1 + prefix_len p bs) 0) e ∙ one-add (prefix_len p bs)

pub run_none : (p : ℕ → Bool) (b : ℕ) (bs : List ℕ) → p b ≡ false → prefix_len p (b ∷ bs) ≡ 0
run_none p b bs e = ap (λ t. cond t (1 + prefix_len p bs) 0) e

-- what a run is: bytes that pass, and as many as can be
pub run_each : (p : ℕ → Bool) (xs : List ℕ) → Each p (take (prefix_len p xs) xs)
run_each p [] = tt
run_each p (b ∷ bs) = go (p b) refl (run_each p bs)
  where
    go : (t : Bool) → p b ≡ t → Each p (take (prefix_len p bs) bs) → Each p (take (prefix_len p (b ∷ bs)) (b ∷ bs))
    go true e h = subst (λ n. Each p (take n (b ∷ bs))) (sym (run_some p b bs e)) (e, h)
    go false e h = subst (λ n. Each p (take n (b ∷ bs))) (sym (run_none p b bs e)) tt

pub run_most : (p : ℕ → Bool) (v more : List ℕ) → Each p v → length v ≤ prefix_len p (v ++ more)
run_most p [] more h = omega arith
run_most p (b ∷ bs) more (e, h) =
    let k = run_most p bs more h in
    let r = run_some p b (bs ++ more) e in
    omega arith
