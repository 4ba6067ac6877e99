-- A token that the text layer gives is of a size that records hold.
use Rattle.std.proofs.Common.{◌≡◌, ℕ, Bool, true, false, cond, leb, List, [], ◌∷◌, length, Some, None, Ok, Err, Option, Result, refl, subst, arith}
use Rattle.std.proofs.lemmas.Bool.{leb-true}
use Rattle.text.specs.declared.places.Placed.{Placed}
use Rattle.text.specs.declared.spellings.Keyword.{Keyword}
use Rattle.text.specs.declared.spellings.Sign.{Sign}
use Rattle.text.specs.declared.tokens.LexFault.{LexFault}
use Rattle.text.specs.declared.tokens.LexFault.TheVariants.{NameTooLong}
use Rattle.text.specs.declared.tokens.Token.TheVariants as token
use Rattle.text.specs.Laws.{Next}
use Rattle.text.specs.Lexemes.{meaning, letter, digit, word_means, number_means, sign_means, magnitude_of, value_from}
use Rattle.text.specs.Spellings.{keyword_of, sign_of}
use Rattle.text.specs.Tokens.{Lexeme}
use Rattle.reading.specs.Sizes.{Fits}

abbrev Fit : Result Lexeme LexFault → Type 0
Fit (Ok t) = Fits t
Fit (Err f) = Unit {0}

word_fits : (k : Option Keyword) (w : List ℕ) → Fit (word_means k w)
word_fits (Some k) w = omega arith
word_fits None w = go (leb (length w) 24) refl
  where
    go : (b : Bool) → leb (length w) 24 ≡ b → Fit (cond b (Ok (token.Name w)) (Err NameTooLong))
    go true e = leb-true (length w) 24 e
    go false e = tt

number_fits : (ds : List ℕ) → Fit (number_means (magnitude_of ds))
number_fits ds = go (leb (value_from 0 ds) 2147483648) refl
  where
    go : (b : Bool) → leb (value_from 0 ds) 2147483648 ≡ b → Fit (number_means (cond b (Some (value_from 0 ds)) None))
    go true e = leb-true (value_from 0 ds) 2147483648 e
    go false e = tt

sign_fits : (s : Option Sign) → Fit (sign_means s)
sign_fits (Some s) = omega arith
sign_fits None = tt

unfoldable meaning_fits : (w : List ℕ) → Fit (meaning w)
unfolding meaning
meaning_fits [] = tt
meaning_fits (b ∷ bs) = go (letter b) (digit b)
  where
    go : (x y : Bool) → Fit (cond x (word_means (keyword_of (b ∷ bs)) (b ∷ bs)) (cond y (number_means (magnitude_of (b ∷ bs))) (sign_means (sign_of (b ∷ bs)))))
    go true y = word_fits (keyword_of (b ∷ bs)) (b ∷ bs)
    go false true = number_fits (b ∷ bs)
    go false false = sign_fits (sign_of (b ∷ bs))

-- the next token of a text
pub next_fits : (i j : ℕ) (text : List ℕ) (n : Placed Lexeme) → Next i text (Ok n) j → Fits n.item
next_fits i j text n (Next.ends e) = omega arith
next_fits i j text n (Next.takes rest k) = subst Fit k.means (meaning_fits k.bytes)
