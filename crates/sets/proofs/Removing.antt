-- A number taken out of a row: a rotation of the part from its place on.
use Rattle.std.proofs.Common.{◌≡◌, ℕ, suc, ◌+◌, ◌-◌, ◌<◌, ◌≤◌, List, [], ◌++◌, length, take, drop, ℤ, ap, ◌∙◌, arith}
use borrow.Rule.Slice.PartMut.{put_mid, mid_of}
use Rattle.std.specs.List.{remove}
use Rattle.std.proofs.lemmas.Grind.{common_steps}
use Rattle.std.proofs.lemmas.List.{length-drop, take_all, drop_all, drop-drop, append-nil, append_assoc}
use Rattle.sets.specs.Searches.{Found}
use Rattle.sets.specs.Sets.{cut}

-- what the rotation leaves
pub removes : (xs ys : List ℤ) (p : ℕ) → p < length xs → ys ≡ drop 1 (mid_of p (length xs - p) xs) ++ take 1 (mid_of p (length xs - p) xs) → put_mid p (length xs - p) xs ys ≡ remove xs p ++ take 1 (drop p xs)
removes xs ys p h e =
    let m : mid_of p (length xs - p) xs ≡ drop p xs = take_all (length xs - p) (drop p xs) (simp length-drop (omega arith)) in
    let q : p + 1 ≡ suc p = omega arith in
    let d : drop 1 (drop p xs) ≡ drop (suc p) xs = drop-drop 1 p xs ∙ ap (λ (k : ℕ). drop k xs) q in
    let z : drop (length xs - p) (drop p xs) ≡ [] = drop_all (length xs - p) (drop p xs) (simp length-drop (omega arith)) in
    let f : ys ≡ drop (suc p) xs ++ take 1 (drop p xs) = e ∙ simp (m, d) in
    simp (z, f, append-nil, append_assoc)

-- what a row then holds
pub removed_row : (n : ℤ) (cells ys : List ℤ) (count k p : ℕ) → k ≡ count → count ≤ length cells → Found n (take count cells) p → ys ≡ remove (take k cells) p ++ take 1 (drop p (take k cells)) → take (count - 1) (ys ++ drop k cells) ≡ cut n (take count cells)
removed_row n cells ys count k p ek l h e = grind (arith, common_steps, h.cuts)
