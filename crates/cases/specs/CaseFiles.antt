-- How a case file is cut into lines and parts.
use Rattle.std.specs.Prelude.{◌≡◌, ℕ, List, ◌∷◌, ◌++◌}

-- a line stands before a line feed and what follows it
abbrev pub Lined : List ℕ → List ℕ → List ℕ → Type 0
Lined text line rest = text ≡ line ++ (10 ∷ rest)

-- the bytes of a part stand after the line that announces them, and before a line feed
abbrev pub Announced : List ℕ → List ℕ → List ℕ → Type 0
Announced text bytes rest = (line : List ℕ) × (text ≡ line ++ (10 ∷ (bytes ++ (10 ∷ rest))))

-- a case stands at the front: a line for its number, then its script and its tokens, each announced
abbrev pub HasCase : List ℕ → List ℕ → List ℕ → List ℕ → Type 0
HasCase text script tokens rest = (line after more : List ℕ) × Lined text line after × Announced after script more × Announced more tokens rest
