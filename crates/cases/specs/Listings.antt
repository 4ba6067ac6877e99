-- The listing of a text: a line for each token, and a last one for its end or a refusal.
use Rattle.std.specs.Prelude.{ℕ, List, [], ◌∷◌, ◌++◌, Ok, Err, codes, decimal}
use Rattle.text.specs.declared.places.Placed.{Placed}
use Rattle.text.specs.declared.tokens.Token.TheVariants.{Word, Name, Number, Sign, End}
use Rattle.text.specs.Lexings.{Lexing}
use Rattle.text.specs.Spellings.{spelled_keyword, spelled_sign}
use Rattle.text.specs.Tokens.{Lexeme, Verdict, fault_number, refused_at}

-- a place, a kind and bytes
abbrev pub entry : ℕ → List ℕ → List ℕ → List ℕ
entry p kind bytes = decimal p ++ (codes " " ++ (kind ++ (codes " " ++ (bytes ++ codes "\n"))))

abbrev pub token_line : ℕ → Lexeme → List ℕ
token_line p (Word k) = entry p (codes "word") (spelled_keyword k)
token_line p (Name n) = entry p (codes "name") n
token_line p (Number v) = entry p (codes "number") (decimal v)
token_line p (Sign s) = entry p (codes "sign") (spelled_sign s)
token_line p End = decimal p ++ codes " end\n"

abbrev pub token_lines : List (Placed Lexeme) → List ℕ
token_lines [] = []
token_lines (t ∷ ts) = token_line t.place t.item ++ token_lines ts

abbrev pub last_line : Verdict → List ℕ
last_line (Ok p) = token_line p End
last_line (Err f) = refused_at (fault_number f.item) f.place ++ codes "\n"

abbrev pub listing : Lexing → List ℕ
listing l = token_lines l.tokens ++ last_line l.verdict
