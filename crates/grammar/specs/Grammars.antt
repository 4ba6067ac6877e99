-- Grammars, their trees, and what a tree spells.
use Rattle.std.specs.Prelude.{◌≡◌, ℕ, zero, suc, true, ◌⊎◌, List, [], ◌∷◌, ◌++◌}
use Rattle.std.proofs.Common.{inl, inr}
use Rattle.text.specs.declared.places.Placed.{Placed}
use Rattle.text.specs.Tokens.{Lexeme}
use Rattle.grammar.specs.TokenClasses.{class_of, is_class, among}

-- A grammar over the rules N. Tokens are told apart by their classes.
pub data Gram (N : Type 0) : Type 0 where
  -- a token of a class
  tok : ℕ → Gram N
  -- a token of a class and one of several, read as one
  joint : ℕ → List ℕ → Gram N
  -- nothing
  nil : Gram N
  -- one after the other
  seq : Gram N → Gram N → Gram N
  -- one or the other
  alt : Gram N → Gram N → Gram N
  -- any number of them
  many : Gram N → Gram N
  -- tokens of two classes and then the first, or else the second
  ahead : ℕ → ℕ → Gram N → Gram N → Gram N
  -- a token of a class opens a rule, one level further in
  nest : ℕ → N → Gram N

-- a token of a class, or of several
abbrev pub Of : ℕ → Type 0
Of c = (t : Placed Lexeme) × (is_class c t ≡ true)

abbrev pub OneOf : List ℕ → Type 0
OneOf cs = (t : Placed Lexeme) × (among cs (class_of t.item) ≡ true)

-- the trees of a grammar, over what stands one level further in
unfoldable pub Tree : {N : Type 0} → (N → Type 0) → Gram N → Type 0
Tree In (tok c) = Of c
Tree In (joint c cs) = Of c × OneOf cs
Tree In nil = Unit {0}
Tree In (seq a b) = Tree In a × Tree In b
Tree In (alt a b) = Tree In a ⊎ Tree In b
Tree In (many g) = List (Tree In g)
Tree In (ahead c e g h) = (Of c × Of e × Tree In g) ⊎ Tree In h
Tree In (nest c n) = Of c × In n

abbrev pub Yield : Type 0 → Type 0
Yield X = X → List (Placed Lexeme)

abbrev pub each_yield : {X : Type 0} → Yield X → Yield (List X)
each_yield y [] = []
each_yield y (x ∷ xs) = y x ++ each_yield y xs

abbrev pub either_yield : {X Y : Type 0} → Yield X → Yield Y → Yield (X ⊎ Y)
either_yield y z (inl x) = y x
either_yield y z (inr x) = z x

abbrev pub ahead_yield : (c e : ℕ) {X Y : Type 0} → Yield X → Yield Y → Yield ((Of c × Of e × X) ⊎ Y)
ahead_yield c e y z (inl x) = x.0.0 ∷ (x.1.0 ∷ y x.2)
ahead_yield c e y z (inr x) = z x

-- the tokens that a tree spells
unfoldable pub yield : {N : Type 0} {In : N → Type 0} → ((n : N) → Yield (In n)) → (g : Gram N) → Yield (Tree In g)
unfolding Tree
yield In (tok c) x = x.0 ∷ []
yield In (joint c cs) x = x.0.0 ∷ (x.1.0 ∷ [])
yield In nil x = []
yield In (seq a b) x = yield In a x.0 ++ yield In b x.1
yield In (alt a b) x = either_yield (yield In a) (yield In b) x
yield In (many g) x = each_yield (yield In g) x
yield In (ahead c e g h) x = ahead_yield c e (yield In g) (yield In h) x
yield In (nest c n) x = x.0.0 ∷ In n x.1

-- what a rule may be where d constructs may still be opened, this one included
unfoldable pub Inner : {N : Type 0} → (N → Gram N) → ℕ → N → Type 0
Inner rule zero n = ⊥
Inner rule (suc d) n = Tree (Inner rule d) (rule n)

unfoldable pub inner_yield : {N : Type 0} (rule : N → Gram N) (d : ℕ) (n : N) → Yield (Inner rule d n)
unfolding Inner
inner_yield rule zero n x = []
inner_yield rule (suc d) n x = yield (inner_yield rule d) (rule n) x

-- a tree of a grammar, where d constructs may be opened
abbrev pub TreeAt : {N : Type 0} → (N → Gram N) → ℕ → Gram N → Type 0
TreeAt rule d g = Tree (Inner rule d) g

abbrev pub spelled : {N : Type 0} (rule : N → Gram N) (d : ℕ) (g : Gram N) → Yield (TreeAt rule d g)
spelled rule d g = yield (inner_yield rule d) g
