-- The token at the front of a text is its longest front of a token's shape.
use Rattle.std.proofs.Common.{◌≡◌, ℕ, suc, ◌<◌, ◌≤◌, Bool, true, false, List, [], ◌∷◌, ◌++◌, length, get_or, take, drop, Some, None, Option, sym, refl, ap, ◌∙◌, subst, inl, inr, arith}
use Rattle.std.proofs.lemmas.List.{take-append-drop, length-take-le, length-take}
use Rattle.std.specs.List.{prefix_len}
use Rattle.std.proofs.lemmas.List.Sums.{prefix_len-le-length}
use Rattle.std.proofs.lemmas.Bool.{eqb-true, or_left, both_ways}
use Rattle.std.proofs.lemmas.Option.{same_Some, none-some}
use Rattle.text.specs.declared.spellings.Sign.{Sign}
use Rattle.text.specs.Classes.{class_of, class_number}
use Rattle.text.specs.Laws.{Each, Shaped, Longest, Shapeless}
use Rattle.text.specs.Lexemes.{letter, digit, part, width, sign_width}
use Rattle.text.specs.Spellings.{spelled_sign, sign_at}
use Rattle.text.proofs.Fronts.{width_by_lem}
use Rattle.text.proofs.Runs.{run_some, run_each, run_most}
use Rattle.text.proofs.Signs.{signed, sign_front, sign_longest}

-- nothing has no shape
pub never_empty : Shaped [] → ⊥
never_empty (inl h) = h
never_empty (inr (inl h)) = h
never_empty (inr (inr (s, e))) = let h = (signed s).some in let k = ap length e in omega arith

pub shaped_some : (w : List ℕ) → Shaped w → 0 < length w
shaped_some [] h = absurd (never_empty h)
shaped_some (b ∷ bs) h = omega arith

head_same : (x y : ℕ) (xs ys : List ℕ) → x ∷ xs ≡ y ∷ ys → x ≡ y
head_same x y xs ys e = cc

-- the first byte of a sign
pub sign_head : (x : ℕ) (xs : List ℕ) (s : Sign) → x ∷ xs ≡ spelled_sign s → class_number (class_of x) ≡ 4
sign_head x xs s e = ap (λ l. class_number (class_of (get_or l 0 0))) e ∙ ap class_number (signed s).first

-- where the text begins with a letter, its fronts are words
word_most : (b : ℕ) (bs v more : List ℕ) → letter b ≡ true → Shaped v → b ∷ bs ≡ v ++ more → length v ≤ prefix_len part (b ∷ bs)
word_most b bs [] more l h e = absurd (never_empty h)
word_most b bs (x ∷ xs) more l (inl (w, h)) e =
    subst (λ t. suc (length xs) ≤ prefix_len part t) (sym e) (run_most part (x ∷ xs) more (or_left (letter x) (digit x) w, h))
word_most b bs (x ∷ xs) more l (inr (inl (d, h))) e =
    let two = eqb-true (class_number (class_of b)) 2 l in
    let three = eqb-true (class_number (class_of x)) 3 d in
    let same = ap (λ y. class_number (class_of y)) (head_same b x bs (xs ++ more) e) in
    absurd (omega arith)
word_most b bs (x ∷ xs) more l (inr (inr (s, k))) e =
    let two = eqb-true (class_number (class_of b)) 2 l in
    let four = sign_head x xs s k in
    let same = ap (λ y. class_number (class_of y)) (head_same b x bs (xs ++ more) e) in
    absurd (omega arith)

-- where it begins with a digit, they are digits
digits_most : (b : ℕ) (bs v more : List ℕ) → digit b ≡ true → Shaped v → b ∷ bs ≡ v ++ more → length v ≤ prefix_len digit (b ∷ bs)
digits_most b bs [] more l h e = absurd (never_empty h)
digits_most b bs (x ∷ xs) more l (inl (w, h)) e =
    let three = eqb-true (class_number (class_of b)) 3 l in
    let two = eqb-true (class_number (class_of x)) 2 w in
    let same = ap (λ y. class_number (class_of y)) (head_same b x bs (xs ++ more) e) in
    absurd (omega arith)
digits_most b bs (x ∷ xs) more l (inr (inl (d, h))) e =
    subst (λ t. suc (length xs) ≤ prefix_len digit t) (sym e) (run_most digit (x ∷ xs) more (d, h))
digits_most b bs (x ∷ xs) more l (inr (inr (s, k))) e =
    let three = eqb-true (class_number (class_of b)) 3 l in
    let four = sign_head x xs s k in
    let same = ap (λ y. class_number (class_of y)) (head_same b x bs (xs ++ more) e) in
    absurd (omega arith)

-- else they are signs
signs_only : (b : ℕ) (bs v more : List ℕ) → letter b ≡ false → digit b ≡ false → Shaped v → b ∷ bs ≡ v ++ more → (s : Sign) × (v ≡ spelled_sign s)
signs_only b bs [] more l d h e = absurd (never_empty h)
signs_only b bs (x ∷ xs) more l d (inl (w, h)) e =
    absurd (both_ways (letter b) l (ap letter (head_same b x bs (xs ++ more) e) ∙ w))
signs_only b bs (x ∷ xs) more l d (inr (inl (w, h))) e =
    absurd (both_ways (digit b) d (ap digit (head_same b x bs (xs ++ more) e) ∙ w))
signs_only b bs (x ∷ xs) more l d (inr (inr h)) e = h

signs_most : (b : ℕ) (bs v more : List ℕ) → letter b ≡ false → digit b ≡ false → Shaped v → b ∷ bs ≡ v ++ more → (r : Sign) × (sign_at (b ∷ bs) ≡ Some r) × (length v ≤ length (spelled_sign r))
signs_most b bs v more l d h e =
    let (s, k) = signs_only b bs v more l d h e in
    let (r, f, n) = sign_longest (b ∷ bs) s more (e ∙ ap (λ x. x ++ more) k) in
    (r, f, subst (λ x. length x ≤ length (spelled_sign r)) (sym k) n)

-- a front of n bytes
longest_by : (text : List ℕ) (n : ℕ) → n ≤ length text → Shaped (take n text) → ((v more : List ℕ) → Shaped v → text ≡ v ++ more → length v ≤ n) → Longest (take n text) text
longest_by text n h s most =
    let k = length-take-le n text h in
    record {
      shaped = s;
      rest = drop n text;
      front = sym (take-append-drop n text);
      longest = λ v more t e. let m = most v more t e in omega arith;
    }

-- what the width of a token at the front says
abbrev Widest : List ℕ → ℕ → Type 0
Widest text n = (n ≤ length text) × ((n ≡ 0 → Shapeless text) × (0 < n → Longest (take n text) text))

run_widest : (p : ℕ → Bool) (b : ℕ) (bs : List ℕ) (n : ℕ) → n ≡ prefix_len p (b ∷ bs) → p b ≡ true → (Each p (take (prefix_len p bs) bs) → Shaped (b ∷ take (prefix_len p bs) bs)) → ((v more : List ℕ) → Shaped v → b ∷ bs ≡ v ++ more → length v ≤ prefix_len p (b ∷ bs)) → Widest (b ∷ bs) n
run_widest p b bs n e t shape most =
    let one : n ≡ suc (prefix_len p bs) = e ∙ run_some p b bs t in
    let within = prefix_len-le-length p (b ∷ bs) in
    let w : n ≤ length (b ∷ bs) = omega arith in (
      w,
      (
        (λ z. absurd (omega arith)),
        (λ z. longest_by (b ∷ bs) n w
            (subst (λ k. Shaped (take k (b ∷ bs))) (sym one) (shape (run_each p bs)))
            (λ v more s k. let m = most v more s k in omega arith)),
      ),
    )

sign_widest : (b : ℕ) (bs : List ℕ) (n : ℕ) (o : Option Sign) → letter b ≡ false → digit b ≡ false → sign_at (b ∷ bs) ≡ o → n ≡ sign_width o → Widest (b ∷ bs) n
sign_widest b bs n None l d e k = (
  omega arith,
  (
    (λ z v more s h. let (r, f, m) = signs_most b bs v more l d s h in none-some r (sym e ∙ f)),
    (λ z. absurd (omega arith)),
  ),
)
sign_widest b bs n (Some s) l d e k =
    let size = ap length (sign_front (b ∷ bs) s e) in
    let cut = length-take (length (spelled_sign s)) (b ∷ bs) in
    let some = (signed s).some in
    let w : n ≤ length (b ∷ bs) = omega arith in (
      w,
      (
        (λ z. absurd (omega arith)),
        (λ z. longest_by (b ∷ bs) n w
            (inr (inr (s, ap (λ j. take j (b ∷ bs)) k ∙ sign_front (b ∷ bs) s e)))
            (λ v more t h.
            let (r, f, m) = signs_most b bs v more l d t h in
            let same = ap (λ q. length (spelled_sign q)) (same_Some r s (sym f ∙ e)) in
            omega arith)),
      ),
    )

pub widest : (b : ℕ) (bs : List ℕ) → Widest (b ∷ bs) (width (b ∷ bs))
widest b bs = go (letter b) refl (digit b) refl
  where
    go : (l : Bool) → letter b ≡ l → (d : Bool) → digit b ≡ d → Widest (b ∷ bs) (width (b ∷ bs))
    go true e d f =
        run_widest part b bs (width (b ∷ bs)) (width_by_lem b bs true d e f) (or_left (letter b) (digit b) e) (λ h. inl (e, h)) (λ v more. word_most b bs v more e)
    go false e true f =
        run_widest digit b bs (width (b ∷ bs)) (width_by_lem b bs false true e f) f (λ h. inr (inl (f, h))) (λ v more. digits_most b bs v more f)
    go false e false f = sign_widest b bs (width (b ∷ bs)) (sign_at (b ∷ bs)) e f refl (width_by_lem b bs false false e f)
