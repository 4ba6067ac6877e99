-- The token at the front of a text, by the class of its first byte.
use Rattle.std.proofs.Common.{◌≡◌, ℕ, suc, ◌<◌, Bool, true, false, cond, ◌||◌, List, [], ◌∷◌, length, get_or, take, Some, None, Ok, Err, Option, Result, sym, refl, ap, ◌∙◌, arith}
use Rattle.std.specs.List.{prefix_len}
use Rattle.std.proofs.lemmas.Bool.{both_ways}
use Rattle.std.proofs.lemmas.Option.{none-some}
use Rattle.text.specs.declared.classes.ByteClass.{ByteClass}
use Rattle.text.specs.declared.classes.ByteClass.TheVariants as class
use Rattle.text.specs.declared.spellings.Sign.{Sign}
use Rattle.text.specs.declared.tokens.LexFault.{LexFault}
use Rattle.text.specs.declared.tokens.LexFault.TheVariants.{NoToken}
use Rattle.text.specs.declared.tokens.Token.TheVariants as token
use Rattle.text.specs.Classes.{class_of, is_class}
use Rattle.text.specs.Lexemes.{letter, digit, part, word_means, number_means, magnitude_of, meaning, width, sign_width, sign_means}
use Rattle.text.specs.Spellings.{keyword_of, sign_at, sign_of, spelled_sign}
use Rattle.text.specs.Steps.{sized, front}
use Rattle.text.specs.Tokens.{Lexeme}
use Rattle.text.proofs.Runs.{run_some}
use Rattle.text.proofs.Signs.{signed, sign_front, sign_class_lem}

abbrev pub width_by : Bool → Bool → List ℕ → ℕ
width_by l d xs = cond l (prefix_len part xs) (cond d (prefix_len digit xs) (sign_width (sign_at xs)))

-- by whether its first byte is a letter, and a digit
pub width_by_lem : (b : ℕ) (bs : List ℕ) (l d : Bool) → letter b ≡ l → digit b ≡ d → width (b ∷ bs) ≡ width_by l d (b ∷ bs)
unfolding width
width_by_lem b bs l d e f = ap (λ t. width_by t (digit b) (b ∷ bs)) e ∙ ap (λ t. width_by l t (b ∷ bs)) f

abbrev pub meaning_by : Bool → Bool → List ℕ → Result Lexeme LexFault
meaning_by l d w = cond l (word_means (keyword_of w) w) (cond d (number_means (magnitude_of w)) (sign_means (sign_of w)))

pub meaning_by_lem : (b : ℕ) (bs : List ℕ) (l d : Bool) → letter b ≡ l → digit b ≡ d → meaning (b ∷ bs) ≡ meaning_by l d (b ∷ bs)
unfolding meaning
meaning_by_lem b bs l d e f = ap (λ t. meaning_by t (digit b) (b ∷ bs)) e ∙ ap (λ t. meaning_by l t (b ∷ bs)) f

sign_empty : (o : Option Sign) → sign_at [] ≡ o → sized 0 (meaning []) ≡ sized (sign_width o) (meaning (take (sign_width o) []))
unfolding sign_at sign_of meaning
sign_empty None e = refl
sign_empty (Some s) e = absurd (none-some s e)

-- where a run of bytes from the first on is the token
front_run : (p : ℕ → Bool) (b : ℕ) (bs : List ℕ) (l d : Bool) (n m : ℕ) → letter b ≡ l → digit b ≡ d → p b ≡ true → width_by l d (b ∷ bs) ≡ prefix_len p (b ∷ bs) → n ≡ prefix_len p (b ∷ bs) → m ≡ n → front (b ∷ bs) ≡ sized n (meaning_by l d (take m (b ∷ bs)))
unfolding front
front_run p b bs l d n m e f t w r k =
    let one = run_some p b bs t in
    let size : width (b ∷ bs) ≡ suc (prefix_len p bs) = width_by_lem b bs l d e f ∙ w ∙ one in
    let n-is : suc (prefix_len p bs) ≡ n = sym one ∙ sym r in
    let m-is : suc (prefix_len p bs) ≡ m = n-is ∙ sym k in
    ap (λ j. sized j (meaning (take j (b ∷ bs)))) size
    ∙ ap (sized (suc (prefix_len p bs))) (meaning_by_lem b (take (prefix_len p bs) bs) l d e f)
    ∙ ap (λ j. sized j (meaning_by l d (take (suc (prefix_len p bs)) (b ∷ bs)))) n-is
    ∙ ap (λ j. sized n (meaning_by l d (take j (b ∷ bs)))) m-is

-- a word
pub front_word : (xs : List ℕ) (n m : ℕ) → 0 < length xs → class_of (get_or xs 0 0) ≡ class.Letter → n ≡ prefix_len part xs → m ≡ n → front xs ≡ sized n (word_means (keyword_of (take m xs)) (take m xs))
front_word [] n m h e r k = absurd (omega arith)
front_word (b ∷ bs) n m h e r k =
    front_run part b bs true (digit b) n m (ap (λ c. is_class c class.Letter) e) refl (ap (λ c. is_class c class.Letter || is_class c class.Digit) e) refl r k

-- decimal digits
pub front_number : (xs : List ℕ) (n m : ℕ) → 0 < length xs → class_of (get_or xs 0 0) ≡ class.Digit → n ≡ prefix_len digit xs → m ≡ n → front xs ≡ sized n (number_means (magnitude_of (take m xs)))
front_number [] n m h e r k = absurd (omega arith)
front_number (b ∷ bs) n m h e r k =
    front_run digit b bs false true n m (ap (λ c. is_class c class.Letter) e) (ap (λ c. is_class c class.Digit) e) (ap (λ c. is_class c class.Digit) e) refl r k

-- neither
front_other : (xs : List ℕ) → letter (get_or xs 0 0) ≡ false → digit (get_or xs 0 0) ≡ false → (o : Option Sign) → sign_at xs ≡ o → front xs ≡ sized (sign_width o) (meaning (take (sign_width o) xs))
unfolding front width
front_other [] h k o e = sign_empty o e
front_other (b ∷ bs) h k o e =
    ap (λ n. sized n (meaning (take n (b ∷ bs)))) (width_by_lem b bs false false h k ∙ ap sign_width e)

-- a sign
pub front_sign : (xs : List ℕ) (s : Sign) → class_of (get_or xs 0 0) ≡ class.Sign → sign_at xs ≡ Some s → front xs ≡ Ok (token.Sign s, length (spelled_sign s))
front_sign xs s c e =
    front_other xs (ap (λ k. is_class k class.Letter) c) (ap (λ k. is_class k class.Digit) c) (Some s) e
    ∙ ap (λ w. sized (length (spelled_sign s)) (meaning w)) (sign_front xs s e)
    ∙ ap (sized (length (spelled_sign s))) (signed s).means

-- no token
pub front_none : (xs : List ℕ) → letter (get_or xs 0 0) ≡ false → digit (get_or xs 0 0) ≡ false → sign_at xs ≡ None → front xs ≡ Err NoToken
unfolding meaning
front_none xs h k e = front_other xs h k None e

pub front_unknown : (xs : List ℕ) (k : ByteClass) → class_of (get_or xs 0 0) ≡ k → is_class k class.Letter ≡ false → is_class k class.Digit ≡ false → is_class k class.Sign ≡ false → front xs ≡ Err NoToken
front_unknown xs k e l d s = go (sign_at xs) refl
  where
    go : (o : Option Sign) → sign_at xs ≡ o → front xs ≡ Err NoToken
    go None h = front_none xs (ap (λ c. is_class c class.Letter) e ∙ l) (ap (λ c. is_class c class.Digit) e ∙ d) h
    go (Some m) h =
        absurd (both_ways (is_class k class.Sign) s (ap (λ c. is_class c class.Sign) (sym e ∙ sign_class_lem xs m h)))
