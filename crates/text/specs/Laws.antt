-- How a text is made of tokens, with no word on how they are found.
use Rattle.std.specs.Prelude.{◌≡◌, ℕ, ◌+◌, ◌<◌, ◌≤◌, Bool, true, false, ◌⊎◌, List, [], ◌∷◌, ◌++◌, length, drop, Ok, Err, MatchBool, ◌≢◌}
use Rattle.std.specs.List.{AllByRecursion}
use Rattle.text.specs.declared.places.Placed.{Placed}
use Rattle.text.specs.declared.spellings.Sign.{Sign}
use Rattle.text.specs.declared.tokens.LexFault.{LexFault}
use Rattle.text.specs.declared.tokens.LexFault.TheVariants.{NoToken, CommentOpen, NumberTooLarge, NameTooLong}
use Rattle.text.specs.declared.tokens.Token.TheVariants.{End}
use Rattle.text.specs.Lexemes.{blank, letter, digit, part, inside, meaning}
use Rattle.text.specs.Spellings.{spelled_sign}
use Rattle.text.specs.Steps.{at, step}
use Rattle.text.specs.Tokens.{Lexeme, is_end, Answer, Verdict}

-- every byte passes a test
abbrev pub Each : (ℕ → Bool) → List ℕ → Type 0
Each p bs = AllByRecursion (λ b. p b ≡ true) bs

-- blanks and whole comments, and nothing else
pub data Between : List ℕ → Type 0 where
  none : Between []
  gap : {b : ℕ} {bs : List ℕ} → blank b ≡ true → Between bs → Between (b ∷ bs)
  comment : (c : List ℕ) {bs : List ℕ} → Each inside c → Between bs → Between (123 ∷ (c ++ (125 ∷ bs)))

-- a comment left open: no `}` follows its `{`
abbrev pub Unclosed : List ℕ → Type 0
Unclosed text = (c : List ℕ) × (text ≡ 123 ∷ c) × Each inside c

-- a letter, then letters and digits
abbrev pub Word : List ℕ → Type 0
Word [] = ⊥
Word (b ∷ bs) = (letter b ≡ true) × Each part bs

-- digits, one at least
abbrev pub Digits : List ℕ → Type 0
Digits [] = ⊥
Digits (b ∷ bs) = (digit b ≡ true) × Each digit bs

-- of the shape of a token, be it lawful or too large or too long
abbrev pub Shaped : List ℕ → Type 0
Shaped w = Word w ⊎ (Digits w ⊎ ((s : Sign) × (w ≡ spelled_sign s)))

-- the longest front of a text that has the shape of a token
pub record Longest (w text : List ℕ) : Type 0 where
  pub shaped : Shaped w
  pub rest : List ℕ
  pub front : text ≡ w ++ rest
  pub longest : (v more : List ℕ) → Shaped v → text ≡ v ++ more → length v ≤ length w

-- no front of a text has the shape of a token
abbrev pub Shapeless : List ℕ → Type 0
Shapeless text = (v more : List ℕ) → Shaped v → text ≢ v ++ more

-- some byte that neither is a blank nor begins a comment
abbrev pub Solid : List ℕ → Type 0
Solid [] = ⊥
Solid (b ∷ bs) = (blank b ≡ false) × (b ≢ 123)

-- From place i, a text goes on with a token; after it, from place j, with rest.
pub record Takes (i : ℕ) (text : List ℕ) (t : Placed Lexeme) (j : ℕ) (rest : List ℕ) : Type 0 where
  pub before : List ℕ
  pub bytes : List ℕ
  pub whole : text ≡ before ++ (bytes ++ rest)
  pub between : Between before
  pub longest : Longest bytes (bytes ++ rest)
  pub means : meaning bytes ≡ Ok t.item
  pub place : t.place ≡ i + length before
  pub after : j ≡ t.place + length bytes

-- From place i there is no token any more, and the text ends at place p.
pub record Ends (i : ℕ) (text : List ℕ) (p : ℕ) : Type 0 where
  pub between : Between text
  pub place : p ≡ i + length text

-- what is wrong at the front of a text
abbrev pub Wrong : LexFault → List ℕ → Type 0
Wrong NoToken text = Solid text × Shapeless text
Wrong CommentOpen text = Unclosed text
Wrong NumberTooLarge text = (w : List ℕ) × Longest w text × (meaning w ≡ Err NumberTooLarge)
Wrong NameTooLong text = (w : List ℕ) × Longest w text × (meaning w ≡ Err NameTooLong)

-- From place i, a text goes on with what is no token.
pub record Refuses (i : ℕ) (text : List ℕ) (f : Placed LexFault) : Type 0 where
  pub before : List ℕ
  pub rest : List ℕ
  pub whole : text ≡ before ++ rest
  pub between : Between before
  pub wrong : Wrong f.item rest
  pub place : f.place ≡ i + length before

-- what may come next in a text from place i on, and the place after it
pub data Next (i : ℕ) (text : List ℕ) : Answer → ℕ → Type 0 where
  ends : {p : ℕ} → Ends i text p → Next i text (Ok (at End p)) p
  takes : {t : Placed Lexeme} {j : ℕ} (rest : List ℕ) → Takes i text t j rest → Next i text (Ok t) j
  refuses : {f : Placed LexFault} → Refuses i text f → Next i text (Err f) f.place

-- and nothing else may
abbrev pub NextOnly : ℕ → List ℕ → Answer → ℕ → Type 0
NextOnly i text a j = (b : Answer) (k : ℕ) → Next i text b k → (b ≡ a) × (k ≡ j)

-- What a step leaves of a text: after a token fewer bytes than there were, after the end none, after a fault no more.
abbrev pub Shortens : List ℕ → Answer → List ℕ → Type 0
Shortens text (Ok t) rest = MatchBool (is_end t.item) (length rest ≡ 0) (length rest < length text)
Shortens text (Err f) rest = length rest ≤ length text

-- All of a step from place i of a text: the answer and the place after it are those defined, and they are what the rules allow.
pub record Stepped (text : List ℕ) (i : ℕ) (a : Answer) (j : ℕ) : Type 0 where
  pub answer : a ≡ (step text i).answer
  pub after : j ≡ (step text i).after
  pub lawful : Next i (drop i text) a j
  pub only : NextOnly i (drop i text) a j
  pub shortens : Shortens (drop i text) a (drop j text)

-- A text from place i on is these tokens one after another, and then it ends, or goes on with what is no token.
pub data Lexes : ℕ → List ℕ → List (Placed Lexeme) → Verdict → Type 0 where
  ends : {i p : ℕ} {text : List ℕ} → Ends i text p → Lexes i text [] (Ok p)
  refuses : {i : ℕ} {text : List ℕ} {f : Placed LexFault} → Refuses i text f → Lexes i text [] (Err f)
  takes : {i : ℕ} {text : List ℕ} {t : Placed Lexeme} {ts : List (Placed Lexeme)} {v : Verdict} (j : ℕ) (rest : List ℕ) → Takes i text t j rest → Lexes j rest ts v → Lexes i text (t ∷ ts) v

-- A whole text is these tokens, no more than it has bytes, and can be taken apart in no other way.
pub record Apart (text : List ℕ) (ts : List (Placed Lexeme)) (v : Verdict) : Type 0 where
  pub lexes : Lexes 0 text ts v
  pub few : length ts ≤ length text
  pub only : (us : List (Placed Lexeme)) (w : Verdict) → Lexes 0 text us w → (us ≡ ts) × (w ≡ v)

-- how many tokens a text has, or what is no token in it
abbrev pub Counted : List ℕ → Verdict → Type 0
Counted text (Ok n) = (ts : List (Placed Lexeme)) × Apart text ts (Ok (length text)) × (length ts ≡ n)
Counted text (Err f) = (ts : List (Placed Lexeme)) × Apart text ts (Err f)
