-- The signs: what antt computes of each, and the longest at the front of a text.
use Rattle.std.proofs.Common.{◌≡◌, ℕ, ◌<◌, ◌≤◌, min, ◌⊎◌, List, ◌++◌, length, get_or, take, drop, Some, None, Ok, Option, sym, refl, ap, ◌∙◌, inl, inr, ⊎_elim, arith, lit<}
use Rattle.std.proofs.lemmas.Bool.{cases_lt}
use Rattle.std.proofs.lemmas.List.{take-append-drop, take-append-le, take_all, get_or-take}
use Rattle.text.specs.declared.classes.ByteClass.TheVariants as class
use Rattle.text.specs.declared.spellings.Sign.{Sign}
use Rattle.text.specs.declared.spellings.Sign.TheVariants as sign
use Rattle.text.specs.declared.tokens.Token.TheVariants as token
use Rattle.text.specs.Classes.{class_of}
use Rattle.text.specs.Lexemes.{meaning}
use Rattle.text.specs.Spellings.{spelled_sign, every_sign, sign_of, sign_at, sign_from}
use Rattle.text.proofs.Spelled.{whose_spells}

-- what antt computes of a sign
pub record Signed (s : Sign) : Type 0 where
  pub some : 0 < length (spelled_sign s)
  pub first : class_of (get_or (spelled_sign s) 0 0) ≡ class.Sign
  pub means : meaning (spelled_sign s) ≡ Ok (token.Sign s)
  pub found : sign_of (spelled_sign s) ≡ Some s
  pub size : (length (spelled_sign s) ≡ 1) ⊎ (length (spelled_sign s) ≡ 2)

pub signed : (s : Sign) → Signed s
unfolding class_of meaning sign_of
signed sign.Becomes = record { some = lit< tt; first = refl; means = refl; found = refl; size = inr refl }
signed sign.AtMost = record { some = lit< tt; first = refl; means = refl; found = refl; size = inr refl }
signed sign.And = record { some = lit< tt; first = refl; means = refl; found = refl; size = inr refl }
signed sign.Or = record { some = lit< tt; first = refl; means = refl; found = refl; size = inr refl }
signed sign.Semicolon = record { some = lit< tt; first = refl; means = refl; found = refl; size = inl refl }
signed sign.Colon = record { some = lit< tt; first = refl; means = refl; found = refl; size = inl refl }
signed sign.Comma = record { some = lit< tt; first = refl; means = refl; found = refl; size = inl refl }
signed sign.Open = record { some = lit< tt; first = refl; means = refl; found = refl; size = inl refl }
signed sign.Close = record { some = lit< tt; first = refl; means = refl; found = refl; size = inl refl }
signed sign.Plus = record { some = lit< tt; first = refl; means = refl; found = refl; size = inl refl }
signed sign.Minus = record { some = lit< tt; first = refl; means = refl; found = refl; size = inl refl }
signed sign.Times = record { some = lit< tt; first = refl; means = refl; found = refl; size = inl refl }
signed sign.Divide = record { some = lit< tt; first = refl; means = refl; found = refl; size = inl refl }
signed sign.Count = record { some = lit< tt; first = refl; means = refl; found = refl; size = inl refl }
signed sign.Equal = record { some = lit< tt; first = refl; means = refl; found = refl; size = inl refl }
signed sign.Less = record { some = lit< tt; first = refl; means = refl; found = refl; size = inl refl }
signed sign.Not = record { some = lit< tt; first = refl; means = refl; found = refl; size = inl refl }

-- a front of a text, by its own length
pub front_again : (l xs : List ℕ) (n : ℕ) → l ≡ take n xs → take (length l) xs ≡ l
front_again l xs n e =
    let whole : l ++ drop n xs ≡ xs = ap (λ a. a ++ drop n xs) e ∙ take-append-drop n xs in
    ap (take (length l)) (sym whole)
    ∙ take-append-le (length l) l (drop n xs) (omega arith)
    ∙ take_all (length l) l (omega arith)

-- a sign at the front is spelled there
pub sign_front : (xs : List ℕ) (s : Sign) → sign_at xs ≡ Some s → take (length (spelled_sign s)) xs ≡ spelled_sign s
unfolding sign_at sign_of
sign_front xs s e = go (sign_of (take 2 xs)) refl e
  where
    go : (o : Option Sign) → sign_of (take 2 xs) ≡ o → sign_from o (sign_of (take 1 xs)) ≡ Some s → take (length (spelled_sign s)) xs ≡ spelled_sign s
    go (Some r) h e = front_again (spelled_sign s) xs 2 (whose_spells spelled_sign every_sign (take 2 xs) s (h ∙ e))
    go None h e = front_again (spelled_sign s) xs 1 (whose_spells spelled_sign every_sign (take 1 xs) s e)

-- and its first byte is a sign's
pub sign_class_lem : (xs : List ℕ) (s : Sign) → sign_at xs ≡ Some s → class_of (get_or xs 0 0) ≡ class.Sign
sign_class_lem xs s e =
    let n = length (spelled_sign s) in
    ap class_of (sym (get_or-take n xs 0 0 (signed s).some) ∙ ap (λ l. get_or l 0 0) (sign_front xs s e)) ∙ (signed s).first

-- the two first bytes, or the one that there is
two_first : (xs : List ℕ) (n : ℕ) → n ≡ min (length xs) 2 → take n xs ≡ take 2 xs
two_first xs n e = ⊎_elim short long (cases_lt (length xs) 2)
  where
    short : length xs < 2 → take n xs ≡ take 2 xs
    short h = take_all n xs (omega arith) ∙ sym (take_all 2 xs (omega arith))

    long : 2 ≤ length xs → take n xs ≡ take 2 xs
    long h = let k : n ≡ 2 = omega arith in ap (λ j. take j xs) k

pub sign_two : (xs : List ℕ) (n : ℕ) (o : Option Sign) → n ≡ min (length xs) 2 → o ≡ sign_of (take n xs) → sign_from o (sign_of (take 1 xs)) ≡ sign_at xs
unfolding sign_at
sign_two xs n o e h = ap (λ k. sign_from k (sign_of (take 1 xs))) (h ∙ ap sign_of (two_first xs n e))

-- a front of a text, by its length
front_is : (text v more : List ℕ) (n : ℕ) → text ≡ v ++ more → length v ≡ n → take n text ≡ v
front_is text v more n e k =
    ap (take n) e ∙ take-append-le n v more (omega arith) ∙ take_all n v (omega arith)

-- no sign at the front is longer than the one that is found
pub sign_longest : (text : List ℕ) (s : Sign) (more : List ℕ) → text ≡ spelled_sign s ++ more → (r : Sign) × (sign_at text ≡ Some r) × (length (spelled_sign s) ≤ length (spelled_sign r))
unfolding sign_at
sign_longest text s more e = ⊎_elim one two (signed s).size
  where
    by : (o : Option Sign) → sign_of (take 2 text) ≡ o → length (spelled_sign s) ≡ 1 → (r : Sign) × (sign_at text ≡ Some r) × (length (spelled_sign s) ≤ length (spelled_sign r))
    by (Some r) h k = let l = (signed r).some in (r, ap (λ o. sign_from o (sign_of (take 1 text))) h, omega arith)
    by None h k =
        (s, ap (λ o. sign_from o (sign_of (take 1 text))) h ∙ ap sign_of (front_is text (spelled_sign s) more 1 e k) ∙ (signed s).found, omega arith)

    one : length (spelled_sign s) ≡ 1 → (r : Sign) × (sign_at text ≡ Some r) × (length (spelled_sign s) ≤ length (spelled_sign r))
    one k = by (sign_of (take 2 text)) refl k

    two : length (spelled_sign s) ≡ 2 → (r : Sign) × (sign_at text ≡ Some r) × (length (spelled_sign s) ≤ length (spelled_sign r))
    two k =
        (s, ap (λ o. sign_from o (sign_of (take 1 text))) (ap sign_of (front_is text (spelled_sign s) more 2 e k) ∙ (signed s).found), omega arith)
