-- A list whose front is written: `p ++ drop k l`, where k is p's length and l the list before.
use Rattle.std.proofs.Common.{◌≡◌, ℕ, ◌+◌, ◌<◌, List, [], ◌∷◌, ◌++◌, length, get_or, drop, set, ℤ, pos, negsuc, refl, sym, ap, ◌∙◌}
use Rattle.std.specs.Fmt.{signed_decimal}
use Rattle.std.proofs.lemmas.List.{set_at, drop_more, append_assoc, length_push}
use Rattle.ports.specs.Spellings.{spelled}

-- one more after the front p
one_more_lem : (p l : List ℕ) (k a : ℕ) → length p ≡ k → k < length l → set (p ++ drop k l) k a ≡ (p ++ (a ∷ [])) ++ drop (k + 1) l
one_more_lem p l k a e h =
    ap (λ z. set (p ++ z) k a) (drop_more l k 0 h) ∙ set_at p (get_or l k 0) (drop (k + 1) l) a k e
    ∙ sym (append_assoc p (a ∷ []) (drop (k + 1) l))

spelled_is : (n : ℤ) → spelled n ≡ signed_decimal n ++ (10 ∷ [])
unfolding spelled
spelled_is (pos n) = refl
spelled_is (negsuc n) = refl

-- the text of a number, and then a line feed
pub length_spelled : (n : ℤ) (text : List ℕ) → text ≡ signed_decimal n → length text + 1 ≡ length (spelled n)
length_spelled n text e = ap (λ w. length w + 1) e ∙ sym (ap length (spelled_is n) ∙ length_push (signed_decimal n) 10)

pub spelled_front : (n : ℤ) (text front l : List ℕ) → text ≡ signed_decimal n → front ≡ text → length text < length l → set (front ++ drop (length text) l) (length text) 10 ≡ spelled n ++ drop (length text + 1) l
spelled_front n text front l e f h =
    one_more_lem front l (length text) 10 (ap length f) h
    ∙ ap (λ w. (w ++ (10 ∷ [])) ++ drop (length text + 1) l) (f ∙ e)
    ∙ ap (λ w. w ++ drop (length text + 1) l) (sym (spelled_is n))
