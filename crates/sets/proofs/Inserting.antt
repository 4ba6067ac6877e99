-- A number put into a row: a rotation of the part from its place on, and a write at its place.
use Rattle.std.proofs.Common.{◌≡◌, ℕ, ◌+◌, ◌-◌, ◌<◌, List, ◌∷◌, ◌++◌, length, take, drop, set, ℤ, ap, ◌∙◌, arith}
use borrow.Rule.Slice.PartMut.{put_mid, mid_of}
use Rattle.std.specs.List.{insert}
use Rattle.std.proofs.lemmas.Grind.{common_steps}
use Rattle.std.proofs.lemmas.List.{length-drop, length-append, drop_at, drop-take, set_split, set-append_right, take_all, length-take-le}
use Rattle.sets.specs.Searches.{Missing}
use Rattle.sets.specs.Sets.{put}

drop_take_at : (p m q : ℕ) (xs : List ℤ) → q ≡ p + m → drop p (take q xs) ≡ take m (drop p xs)
drop_take_at p m q xs e = rw e (drop-take p m xs)

-- the last in front, and n in its place
turned : (D : List ℤ) (n : ℤ) → 0 < length D → set (drop (length D - 1) D ++ take (length D - 1) D) 0 n ≡ n ∷ take (length D - 1) D
turned D n h =
    let A : List ℤ = drop (length D - 1) D in
    let W : List ℤ = take (length D - 1) D in
    let one : length A ≡ 1 = simp length-drop (omega arith) in
    let l : 0 < length (A ++ W) = simp length-append (omega arith) in
    set_split (A ++ W) 0 n l ∙ ap (λ (ws : List ℤ). n ∷ ws) (drop_at A W 1 one)

-- what the rotation and the write leave
pub inserts : (xs ys : List ℤ) (p : ℕ) (n : ℤ) → p < length xs → ys ≡ drop (length (mid_of p (length xs - p) xs) - 1) (mid_of p (length xs - p) xs) ++ take (length (mid_of p (length xs - p) xs) - 1) (mid_of p (length xs - p) xs) → set (put_mid p (length xs - p) xs ys) p n ≡ insert (take (length xs - 1) xs) p n
inserts xs ys p n h e =
    let D : List ℤ = drop p xs in
    let m : mid_of p (length xs - p) xs ≡ D = take_all (length xs - p) D (simp length-drop (omega arith)) in
    let f : ys ≡ drop (length D - 1) D ++ take (length D - 1) D = rw m at e in
    let s : set ys 0 n ≡ n ∷ take (length D - 1) D = rw f (turned D n (simp length-drop (omega arith))) in
    let t = set-append_right (take p xs) ys p p n (length-take-le p xs (omega arith)) in
    grind (arith, common_steps, drop_take_at p (length D - 1) (length xs - 1) xs)

-- what a row then holds
pub inserted_row : (n : ℤ) (cells ys : List ℤ) (count k p : ℕ) → k ≡ count + 1 → count < length cells → Missing n (take count cells) p → ys ≡ insert (take (length (take k cells) - 1) (take k cells)) p n → take (count + 1) (ys ++ drop k cells) ≡ put n (take count cells)
inserted_row n cells ys count k p ek l h e = grind (arith, common_steps, h.puts)
