-- Blanks and comments between tokens: how far they go.
use Rattle.std.proofs.Common.{◌≡◌, ℕ, suc, ◌+◌, ◌<◌, ◌≤◌, Bool, true, false, cond, not, eqb, List, [], ◌∷◌, length, get_or, drop, Some, None, Ok, Err, Option, Result, sym, refl, ap, ◌∙◌, subst, ltb, add-zero, one-add, arith, Bor, MatchOption}
use Rattle.std.specs.List.{prefix_len, position, HoldsAt}
use Rattle.std.specs.Option.{option_eq}
use Rattle.std.proofs.lemmas.List.Sums.{prefix_len-drop_yes, prefix_len-le-length, prefix_len_stops}
use Rattle.std.proofs.lemmas.List.{at_drop_more, at_drop_all, drop-drop, length-drop, get_or-drop}
use Rattle.std.proofs.lemmas.Bool.{not-true, not-false, ne_eqb, eqb-true, eqb-false, ltb-true, ltb-false, both_ways}
use Rattle.text.specs.Classes.{class_of}
use Rattle.text.specs.Lexemes.{blank, inside}
use Rattle.text.specs.Steps.{gap}
use Rattle.text.proofs.Runs.{run_some, run_none}

abbrev first_of : Bool → Bool → Result ℕ ℕ → Result ℕ ℕ → Result ℕ ℕ → Result ℕ ℕ
first_of t u x y z = cond t x (cond u y z)

-- the blanks at the front
pub gap_blanks : (xs : List ℕ) (i : ℕ) → gap None xs i ≡ gap None (drop (prefix_len blank xs) xs) (i + prefix_len blank xs)
gap_blanks [] i = ap Ok (sym (add-zero i))
gap_blanks (b ∷ bs) i = go (blank b) refl (gap_blanks bs (i + 1))
  where
    later : i + 1 + prefix_len blank bs ≡ i + suc (prefix_len blank bs)
    later = omega arith

    go : (t : Bool) → blank b ≡ t → gap None bs (i + 1) ≡ gap None (drop (prefix_len blank bs) bs) (i + 1 + prefix_len blank bs) → gap None (b ∷ bs) i ≡ gap None (drop (prefix_len blank (b ∷ bs)) (b ∷ bs)) (i + prefix_len blank (b ∷ bs))
    go true e h =
        ap (λ u. first_of u (eqb b 123) (gap None bs (i + 1)) (gap (Some i) bs (i + 1)) (Ok i)) e
        ∙ h
        ∙ ap (gap None (drop (prefix_len blank bs) bs)) later
        ∙ ap (λ k. gap None (drop k (b ∷ bs)) (i + k)) (sym (run_some blank b bs e))
    go false e h =
        sym (ap (λ k. gap None (drop k (b ∷ bs)) (i + k)) (run_none blank b bs e) ∙ ap (gap None (b ∷ bs)) (add-zero i))

-- inside a comment: at its end, and before it
at_close : (start b : ℕ) (bs : List ℕ) (i : ℕ) → eqb b 125 ≡ true → gap (Some start) (b ∷ bs) i ≡ gap None bs (i + 1)
at_close start b bs i e = ap (λ t. cond t (gap None bs (i + 1)) (gap (Some start) bs (i + 1))) e

before_close : (start b : ℕ) (bs : List ℕ) (i : ℕ) → eqb b 125 ≡ false → gap (Some start) (b ∷ bs) i ≡ gap (Some start) bs (i + 1)
before_close start b bs i e = ap (λ t. cond t (gap None bs (i + 1)) (gap (Some start) bs (i + 1))) e

-- the rest of a comment that is left open
pub gap_open : (start : ℕ) (xs : List ℕ) (i : ℕ) → prefix_len inside xs ≡ length xs → gap (Some start) xs i ≡ Err start
gap_open start [] i h = refl
gap_open start (b ∷ bs) i h = go (eqb b 125) refl (gap_open start bs (i + 1))
  where
    go : (t : Bool) → eqb b 125 ≡ t → (prefix_len inside bs ≡ length bs → gap (Some start) bs (i + 1) ≡ Err start) → gap (Some start) (b ∷ bs) i ≡ Err start
    go true e k = let n = run_none inside b bs (ap not e) in absurd (omega arith)
    go false e k = let n = run_some inside b bs (ap not e) in before_close start b bs i e ∙ k (omega arith)

-- the rest of a whole comment
pub gap_shut : (start : ℕ) (xs : List ℕ) (i : ℕ) → prefix_len inside xs < length xs → gap (Some start) xs i ≡ gap None (drop (suc (prefix_len inside xs)) xs) (i + suc (prefix_len inside xs))
gap_shut start [] i h = absurd (omega arith)
gap_shut start (b ∷ bs) i h = go (eqb b 125) refl (gap_shut start bs (i + 1))
  where
    later : i + 1 + suc (prefix_len inside bs) ≡ i + suc (suc (prefix_len inside bs))
    later = omega arith

    go : (t : Bool) → eqb b 125 ≡ t → (prefix_len inside bs < length bs → gap (Some start) bs (i + 1) ≡ gap None (drop (suc (prefix_len inside bs)) bs) (i + 1 + suc (prefix_len inside bs))) → gap (Some start) (b ∷ bs) i ≡ gap None (drop (suc (prefix_len inside (b ∷ bs))) (b ∷ bs)) (i + suc (prefix_len inside (b ∷ bs)))
    go true e k =
        at_close start b bs i e
        ∙ ap (λ j. gap None (drop (suc j) (b ∷ bs)) (i + suc j)) (sym (run_none inside b bs (ap not e)))
    go false e k =
        let n = run_some inside b bs (ap not e) in
        before_close start b bs i e
        ∙ k (omega arith)
        ∙ ap (gap None (drop (suc (prefix_len inside bs)) bs)) later
        ∙ ap (λ j. gap None (drop (suc j) (b ∷ bs)) (i + suc j)) (sym n)

-- From a place p of a text: n blanks on.
pub past_blanks : (text : List ℕ) (p n : ℕ) → n ≡ prefix_len blank (drop p text) → gap None (drop p text) p ≡ gap None (drop (p + n) text) (p + n)
past_blanks text p n e =
    gap_blanks (drop p text) p
    ∙ ap (λ k. gap None (drop k (drop p text)) (p + k)) (sym e)
    ∙ ap (λ l. gap None l (p + n)) (drop-drop n p text)

-- at the end of the text
pub gap_end : (text : List ℕ) (q : ℕ) → length text ≤ q → gap None (drop q text) q ≡ Ok q
gap_end text q h = at_drop_all (λ l. gap None l q) text q h

-- at a token
pub gap_token : (text : List ℕ) (q : ℕ) → q < length text → blank (get_or text q 0) ≡ false → (get_or text q 0 ≡ 123 → ⊥) → gap None (drop q text) q ≡ Ok q
gap_token text q h b n =
    let x = get_or text q 0 in
    let rest = drop (q + 1) text in
    at_drop_more (λ l. gap None l q) text q 0 h
    ∙ ap (λ t. first_of t (eqb x 123) (gap None rest (q + 1)) (gap (Some q) rest (q + 1)) (Ok q)) b
    ∙ ap (λ u. first_of false u (gap None rest (q + 1)) (gap (Some q) rest (q + 1)) (Ok q)) (ne_eqb x 123 n)

-- at a comment
pub gap_brace : (text : List ℕ) (q : ℕ) → q < length text → get_or text q 0 ≡ 123 → gap None (drop q text) q ≡ gap (Some q) (drop (q + 1) text) (q + 1)
unfolding class_of
gap_brace text q h e =
    at_drop_more (λ l. gap None l q) text q 0 h
    ∙ ap (λ x. gap None (x ∷ drop (q + 1) text) q) e

pub run_brace : (text : List ℕ) (q : ℕ) → q < length text → get_or text q 0 ≡ 123 → prefix_len inside (drop q text) ≡ suc (prefix_len inside (drop (q + 1) text))
run_brace text q h e = prefix_len-drop_yes inside text q 0 h (ap inside e) ∙ one-add (prefix_len inside (drop (q + 1) text))

abbrev pub Closing : List ℕ → Option ℕ → Type 0
Closing rest None = prefix_len inside rest ≡ length rest
Closing rest (Some m) = (m ≡ prefix_len inside rest) × (m < length rest)

-- where the first `}` stands
pub closing : (rest : List ℕ) (o : Option ℕ) → o ≡ position (λ b. eqb b 125) rest → Closing rest o
closing rest o e = subst (Closing rest) (sym e) (go (ltb (prefix_len inside rest) (length rest)) refl)
  where
    go : (t : Bool) → ltb (prefix_len inside rest) (length rest) ≡ t → Closing rest (cond t (Some (prefix_len inside rest)) None)
    go true h = (refl, ltb-true (prefix_len inside rest) (length rest) h)
    go false h =
        let most = ltb-false (prefix_len inside rest) (length rest) h in
        let least = prefix_len-le-length inside rest in
        omega arith

pub comment_open : (text : List ℕ) (q : ℕ) → q < length text → get_or text q 0 ≡ 123 → Closing (drop q text) None → gap None (drop q text) q ≡ Err q
comment_open text q h e l =
    let b = run_brace text q h e in
    let d = length-drop q text in
    let k = length-drop (q + 1) text in
    gap_brace text q h e ∙ gap_open q (drop (q + 1) text) (q + 1) (omega arith)

pub comment_shut : (text : List ℕ) (q m : ℕ) → q < length text → get_or text q 0 ≡ 123 → Closing (drop q text) (Some m) → gap None (drop q text) q ≡ gap None (drop (q + (m + 1)) text) (q + (m + 1))
comment_shut text q m h e (r, l) =
    let b = run_brace text q h e in
    let c = length-drop q text in
    let d = length-drop (q + 1) text in
    let k : suc (prefix_len inside (drop (q + 1) text)) ≡ m = omega arith in
    let s : q + 1 + m ≡ q + (m + 1) = omega arith in
    gap_brace text q h e
    ∙ gap_shut q (drop (q + 1) text) (q + 1) (omega arith)
    ∙ ap (λ j. gap None (drop j (drop (q + 1) text)) (q + 1 + j)) k
    ∙ ap (λ x. gap None x (q + 1 + m)) (drop-drop m (q + 1) text)
    ∙ ap (λ j. gap None (drop j text) j) s

-- the byte after the blanks is none
pub after_blanks : (text : List ℕ) (p n : ℕ) → n ≡ prefix_len blank (drop p text) → p + n < length text → blank (get_or text (p + n) 0) ≡ false
after_blanks text p n e h =
    let d = length-drop p text in
    ap blank (sym (get_or-drop p text n 0))
    ∙ ap (λ k. blank (get_or (drop p text) k 0)) e
    ∙ prefix_len_stops blank (drop p text) 0 (omega arith)

-- what the byte at q is, read as an option
abbrev pub ReadAt : List ℕ → ℕ → Option (Bor ℕ) → Type 0
ReadAt text q o = MatchOption o (length text ≤ q) (λ x. (q < length text) × HoldsAt (λ y. x.now ≡ y) text q)

pub brace_read : (text : List ℕ) (q : ℕ) (o : Option (Bor ℕ)) (k : Bor ℕ) → ReadAt text q o → k.now ≡ 123 → not (option_eq (λ x y. eqb x.now y.now) o (Some k)) ≡ false → (q < length text) × (get_or text q 0 ≡ 123)
brace_read text q None k h b e = absurd (both_ways true e refl)
brace_read text q (Some x) k h b e = (h.0, sym (h.1 0) ∙ eqb-true x.now k.now (not-false (eqb x.now k.now) e) ∙ b)

pub gap_past : (text : List ℕ) (q : ℕ) (o : Option (Bor ℕ)) (k : Bor ℕ) → ReadAt text q o → k.now ≡ 123 → (q < length text → blank (get_or text q 0) ≡ false) → not (option_eq (λ x y. eqb x.now y.now) o (Some k)) ≡ true → gap None (drop q text) q ≡ Ok q
gap_past text q None k h b n e = gap_end text q h
gap_past text q (Some x) k h b n e = gap_token text q h.0 (n h.0) (λ g. eqb-false x.now k.now (not-true (eqb x.now k.now) e) (h.1 0 ∙ g ∙ sym b))
