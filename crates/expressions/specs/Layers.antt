-- Layers of operators.
use Rattle.std.specs.Prelude.{ℕ, List, [], ◌∷◌}
use Rattle.grammar.specs.Grammars.{seq, many, Tree}
use Rattle.syntax.specs.Nodes.{Acts, Makes, with, over, chained, chosen, operator_kind, operand_made, product_made, negation_made, variable, sum_made}
use Rattle.grammar.specs.TokenClasses.{class_of}
use Rattle.table.specs.declared.kinds.Kind.TheVariants as kind
use Rattle.syntax.specs.Syntax.{G, Rule, any_of, operand, product, negation, compared}
use Rattle.std.proofs.Common.{inl, inr}
use Rattle.expressions.specs.declared.layers.Layer.{Layer}
use Rattle.expressions.specs.declared.layers.Layer.TheVariants as layer

-- the classes of a layer's operators
abbrev pub first_sign : Layer → ℕ
first_sign layer.Product = 42
first_sign layer.Sum = 40
first_sign layer.Logic = 33

abbrev pub other_signs : Layer → List ℕ
other_signs layer.Product = 43 ∷ []
other_signs layer.Sum = 41 ∷ []
other_signs layer.Logic = 34 ∷ []

-- what stands between them
abbrev pub tighter_gram : Layer → G
tighter_gram layer.Product = operand
tighter_gram layer.Sum = product
tighter_gram layer.Logic = negation

unfoldable pub tighter_made : {In : Rule → Type 0} (l : Layer) → Acts In → Makes (Tree In (tighter_gram l))
tighter_made layer.Product I = operand_made I
tighter_made layer.Sum I = product_made I
tighter_made layer.Logic I = negation_made I

-- an operator and what stands on its right
abbrev pub turn_gram : Layer → G
turn_gram l = seq (any_of (first_sign l) (other_signs l)) (tighter_gram l)

abbrev pub layer_gram : Layer → G
layer_gram l = seq (tighter_gram l) (many (turn_gram l))

unfoldable pub layer_made : {In : Rule → Type 0} (l : Layer) → Acts In → Makes (Tree In (layer_gram l))
unfolding Tree
layer_made {In} l I x c = chained (chosen In (first_sign l) (other_signs l)) (tighter_made l I) (tighter_made l I x.0 c) x.1 c

-- a node over the node with a number on its left, and what is read on its right
unfoldable pub turn_made : {In : Rule → Type 0} (l : Layer) → Acts In → ℕ → Makes (Tree In (turn_gram l))
unfolding Tree
turn_made {In} l I left x c =
    let sign = chosen In (first_sign l) (other_signs l) x.0 in
    let right = tighter_made l I x.1 c in
    with right.nodes (over (operator_kind (class_of sign.item)) sign.place left right.number 0) c

unfoldable pub compared_made_over : {In : Rule → Type 0} → Acts In → ℕ → Makes (Tree In compared)
unfolding Tree
compared_made_over {In} I left (inl x) c =
    let sign = chosen In 45 (46 ∷ (32 ∷ [])) x.0 in
    let right = sum_made I x.1 c in
    with right.nodes (over (operator_kind (class_of sign.item)) sign.place left right.number 0) c
compared_made_over I left (inr x) c =
    let right = variable x.1.0 c in
    with right.nodes (over kind.In x.0.0.place left right.number 0) c

-- how deep a layer lies
abbrev pub rank : Layer → ℕ
rank layer.Product = 4
rank layer.Sum = 7
rank layer.Logic = 13
