-- Operators of a layer one after another, arguments, and what is denied: what each turn makes.
use Rattle.std.proofs.Common.{◌≡◌, ℕ, zero, suc, ◌+◌, ◌-◌, ◌<◌, ◌≤◌, Bool, false, List, [], ◌∷◌, ◌++◌, length, map, Ok, Err, sym, refl, ap, ◌∙◌, subst, inl, inr, arith}
use Rattle.std.proofs.lemmas.List.{length-append, append_assoc}
use Rattle.std.specs.List.{list_any}
use Rattle.table.specs.declared.kinds.Kind.{Kind}
use Rattle.table.specs.declared.kinds.Kind.TheVariants as kind
use Rattle.table.specs.declared.nodes.Node.{Node}
use Rattle.text.specs.declared.spellings.Keyword.TheVariants as word
use Rattle.text.specs.declared.spellings.Sign.TheVariants as mark
use Rattle.grammar.specs.Firsts.{firsts}
use Rattle.grammar.specs.Grammars.{seq, tok, nest, Tree, TreeAt, Inner}
use Rattle.grammar.specs.Parsers.{Read, parse_at}
use Rattle.grammar.specs.Streams.{Stream, Refusal}
use Rattle.grammar.specs.contracts.classing.TokenClassPartialEq.TheImpl.{ghosts}
use Rattle.grammar.specs.declared.classing.TokenClass.{TokenClass}
use Rattle.grammar.specs.declared.classing.TokenClass.TheVariants as class
use Rattle.grammar.specs.TokenClasses.{class_number, among}
use Rattle.grammar.proofs.ClassNumbers.{class_one, class_among}
use Rattle.syntax.specs.Nodes.{Made, after, with, over, joining, operated, chosen, inner_made, rule_made, operand_made, product_made, sum_made, compared_made, comparison_made, negation_made, expression_made, variable}
use Rattle.syntax.specs.Syntax.{rule, arguments, negated, operand, sum, compared, comparison, negation, expression, sign}
use Rattle.reading.specs.declared.readers.Reader.{Reader}
use Rattle.reading.specs.Nests.{nest_made, rule_at}
use Rattle.reading.specs.States.{stream_of, Recorded, Answer, Reads, Takes, Builds}
use Rattle.reading.specs.Steps.{front_of, taken, opened, any_taken, token_made, mark_made, bare_made, of_variable_made}
use Rattle.reading.proofs.Branches.{reads_as, none_of}
use Rattle.reading.proofs.Commas.{list_made}
use Rattle.reading.proofs.Loops.{Item, Going, extended, items, goes_from}
use Rattle.reading.proofs.Nests.{nested, open_left}
use Rattle.reading.proofs.Sequences.{unit, begin, first, only, node, pair, stop_last, over_is}
use Rattle.expressions.specs.declared.layers.Layer.{Layer}
use Rattle.expressions.specs.declared.layers.Layer.TheVariants as layer
use Rattle.expressions.specs.Layers.{first_sign, other_signs, tighter_gram, tighter_made, turn_gram, layer_gram, layer_made, turn_made, compared_made_over}
use Rattle.expressions.specs.Rules.{arguments_gram, arguments_made}

-- ---- a node over what is there and what comes

pub joining_extends : (k : Kind) (p : ℕ) (m r : Made) (c i : ℕ) → i ≡ m.number → extended m (with r.nodes (over k p i r.number 0) (c + length m.nodes)) ≡ joining k p m r c
joining_extends k p m r c i e =
    let n = length-append m.nodes r.nodes in
    let size : c + length m.nodes + length r.nodes + 1 ≡ c + length (m.nodes ++ r.nodes) + 1 = omega arith in
    ap (λ j. extended m (with r.nodes (over k p j r.number 0) (c + length m.nodes))) e
    ∙ ap (λ ns. record { nodes = ns; number = c + length m.nodes + length r.nodes + 1; place = p }) (sym (append_assoc m.nodes r.nodes (over k p m.number r.number 0 ∷ [])))
    ∙ ap (λ j. record { nodes = (m.nodes ++ r.nodes) ++ (over k p m.number r.number 0 ∷ []); number = j; place = p }) size

-- ---- layers

pub layer_item : (l : Layer) → Item (turn_gram l)
layer_item layer.Product = record { some = refl; begun = refl }
layer_item layer.Sum = record { some = refl; begun = refl }
layer_item layer.Logic = record { some = refl; begun = refl }

pub layer_signs : (l : Layer) → firsts (turn_gram l) ≡ first_sign l ∷ other_signs l
layer_signs layer.Product = refl
layer_signs layer.Sum = refl
layer_signs layer.Logic = refl

unfoldable pub layer_turn : (d : ℕ) (l : Layer) → ℕ → Made → TreeAt rule d (turn_gram l) → Made
unfolding Tree
layer_turn d l c m t = operated (chosen (Inner rule d) (first_sign l) (other_signs l) t.0) m (tighter_made l (inner_made d) t.1 (after m c)) c

pub layer_turns : (d : ℕ) (l : Layer) (m : Made) (i c : ℕ) → i ≡ m.number → (x : TreeAt rule d (turn_gram l)) → extended m (turn_made l (inner_made d) i x (c + length m.nodes)) ≡ layer_turn d l c m x
unfolding Tree turn_made layer_turn
layer_turns d l m i c e x = joining_extends _ _ m (tighter_made l (inner_made d) x.1 (c + length m.nodes)) c i e

-- from one turn on to another
abbrev pub LayerRuns : (d : ℕ) → Layer → Reader → ℕ → ℕ → Reader → ℕ → ℕ → Type 0
LayerRuns d l m i p n j q = (R : Read (TreeAt rule d (layer_gram l))) (a : Reader) → Going (layer_made l (inner_made d)) R a m d (turn_gram l) (layer_turn d l a.count) i p → Going (layer_made l (inner_made d)) R a n d (turn_gram l) (layer_turn d l a.count) j q

-- ---- comparisons

pub compared_item : Item compared
compared_item = record { some = refl; begun = refl }

pub compared_turns : (d : ℕ) (m : Made) (i c : ℕ) → i ≡ m.number → (x : TreeAt rule d compared) → extended m (compared_made_over (inner_made d) i x (c + length m.nodes)) ≡ compared_made (inner_made d) c m x
unfolding Tree compared_made compared_made_over
compared_turns d m i c e (inl x) = joining_extends _ _ m (sum_made (inner_made d) x.1 (c + length m.nodes)) c i e
compared_turns d m i c e (inr x) = joining_extends kind.In x.0.0.place m (variable x.1.0 (c + length m.nodes)) c i e

abbrev pub ComparisonRuns : (d : ℕ) → Reader → ℕ → ℕ → Reader → ℕ → ℕ → Type 0
ComparisonRuns d m i p n j q = (R : Read (TreeAt rule d comparison)) (a : Reader) → Going (comparison_made (inner_made d)) R a m d compared (compared_made (inner_made d) a.count) i p → Going (comparison_made (inner_made d)) R a n d compared (compared_made (inner_made d) a.count) j q

-- ---- arguments

-- arguments are a list of expressions with commas
same_list : (d : ℕ) (x : TreeAt rule d arguments_gram) (n : ℕ) → arguments_made d x n ≡ list_made d expression (expression_made (inner_made d)) x n
unfolding Tree arguments_made list_made
same_list d (inl x) n = refl
same_list d (inr x) n = refl

pub as_arguments : (d : ℕ) {a b : Reader} {r : Answer} → Reads (list_made d expression (expression_made (inner_made d))) (parse_at rule d arguments_gram (stream_of a)) a r b → Reads (arguments_made d) (parse_at rule d arguments_gram (stream_of a)) a r b
as_arguments d {a} r = reads_as (arguments_made d) (parse_at rule d arguments_gram (stream_of a)) (λ x. x) (unit _) (same_list d) r

-- the nodes so far end with the answer
abbrev pub OnTop : Reader → ℕ → Reader → Type 0
OnTop m i n = (i ≡ n.count) × (m.count ≤ n.count)

-- ---- a layer is what its grammar is called

module _ (d : ℕ) {a b : Reader} {r : Answer} where
  pub from_product : Builds (layer_made layer.Product (inner_made d)) (parse_at rule d (layer_gram layer.Product) (stream_of a)) a r b → Builds (tighter_made layer.Sum (inner_made d)) (parse_at rule d (tighter_gram layer.Sum) (stream_of a)) a r b
  unfolding Tree layer_made tighter_made product_made
  from_product x = x

  pub from_operand : Builds (operand_made (inner_made d)) (parse_at rule d operand (stream_of a)) a r b → Builds (tighter_made layer.Product (inner_made d)) (parse_at rule d (tighter_gram layer.Product) (stream_of a)) a r b
  unfolding tighter_made
  from_operand x = x

  pub from_negation : Builds (negation_made (inner_made d)) (parse_at rule d negation (stream_of a)) a r b → Builds (tighter_made layer.Logic (inner_made d)) (parse_at rule d (tighter_gram layer.Logic) (stream_of a)) a r b
  unfolding tighter_made
  from_negation x = x

  pub to_expression : Builds (layer_made layer.Logic (inner_made d)) (parse_at rule d (layer_gram layer.Logic) (stream_of a)) a r b → Builds (expression_made (inner_made d)) (parse_at rule d expression (stream_of a)) a r b
  unfolding Tree layer_made tighter_made expression_made
  to_expression x = x

  pub to_sum : Builds (layer_made layer.Sum (inner_made d)) (parse_at rule d (layer_gram layer.Sum) (stream_of a)) a r b → Builds (sum_made (inner_made d)) (parse_at rule d sum (stream_of a)) a r b
  unfolding Tree layer_made tighter_made sum_made
  to_sum x = x

  -- whichever layer it is
  pub tighter_as : {l : Layer} (k : Layer) → l ≡ k → Builds (tighter_made k (inner_made d)) (parse_at rule d (tighter_gram k) (stream_of a)) a r b → Builds (tighter_made l (inner_made d)) (parse_at rule d (tighter_gram l) (stream_of a)) a r b
  tighter_as k e x = subst (λ l. Builds (tighter_made l (inner_made d)) (parse_at rule d (tighter_gram l) (stream_of a)) a r b) (sym e) x

-- the signs of a layer, as its code has them
pub take_signs : {xs ys : List ℕ} {a b : Reader} {r : Answer} → xs ≡ ys → Takes mark_made (any_taken xs (stream_of a)) a r b → Takes mark_made (any_taken ys (stream_of a)) a r b
take_signs {a = a} {b} {r} e t = subst (λ cs. Takes mark_made (any_taken cs (stream_of a)) a r b) e t

-- a node of a token whose class is known by its number
pub bare_by : (k : Kind) {c e : ℕ} {a b : Reader} {r : Answer} → c ≡ e → Builds (bare_made c k) (taken c (stream_of a)) a r b → Builds (bare_made e k) (taken e (stream_of a)) a r b
bare_by k {a = a} {b} {r} is t = subst (λ n. Builds (bare_made n k) (taken n (stream_of a)) a r b) is t

pub of_variable_by : (d : ℕ) (k : Kind) {c e : ℕ} {a b : Reader} {r : Answer} → c ≡ e → Builds (of_variable_made d c k) (parse_at rule d (seq (tok c) (tok 51)) (stream_of a)) a r b → Builds (of_variable_made d e k) (parse_at rule d (seq (tok e) (tok 51)) (stream_of a)) a r b
of_variable_by d k {a = a} {b} {r} is t = subst (λ n. Builds (of_variable_made d n k) (parse_at rule d (seq (tok n) (tok 51)) (stream_of a)) a r b) is t

pub layer_begins : (l : Layer) (cs : List TokenClass) (c : TokenClass) (s : Stream) {r b : Bool} → map class_number cs ≡ first_sign l ∷ other_signs l → class_number c ≡ front_of s → r ≡ list_any (λ x. ghosts.eq x c) cs → r ≡ b → among (firsts (turn_gram l)) (front_of s) ≡ b
layer_begins l cs c s e is told found = ap (λ ns. among ns (front_of s)) (layer_signs l ∙ sym e) ∙ class_among cs c is told found

-- ---- the classes that the code tests for

abbrev pub signs_of_comparison : List TokenClass
signs_of_comparison = class.Sign mark.Equal ∷ (class.Sign mark.Less ∷ (class.Sign mark.AtMost ∷ []))

abbrev pub starts_of_compared : List TokenClass
starts_of_compared = class.Sign mark.Equal ∷ (class.Sign mark.Less ∷ (class.Sign mark.AtMost ∷ (class.Word word.In ∷ [])))

abbrev pub starts_of_expression : List TokenClass
starts_of_expression =
    class.Sign mark.Not ∷ (class.Number ∷ (class.Sign mark.Minus ∷ (class.Word word.True ∷ (class.Word word.False ∷
    (class.Name ∷ (class.Word word.Min ∷ (class.Word word.Max ∷ (class.Sign mark.Count ∷ (class.Sign mark.Open ∷ [])))))))))

-- no operand but one in parentheses begins with the class
pub record NoOperand (c : TokenClass) : Type 0 where
  pub number : c ≡ class.Number → ⊥
  pub minus : c ≡ class.Sign mark.Minus → ⊥
  pub true_word : c ≡ class.Word word.True → ⊥
  pub false_word : c ≡ class.Word word.False → ⊥
  pub name : c ≡ class.Name → ⊥
  pub least : c ≡ class.Word word.Min → ⊥
  pub greatest : c ≡ class.Word word.Max → ⊥
  pub count : c ≡ class.Sign mark.Count → ⊥

pub no_operand : (c : TokenClass) {n : ℕ} → class_number c ≡ n → NoOperand c → among (52 ∷ (41 ∷ (21 ∷ (22 ∷ (51 ∷ (23 ∷ (24 ∷ (44 ∷ [])))))))) n ≡ false
no_operand c is off =
    ap (among (52 ∷ (41 ∷ (21 ∷ (22 ∷ (51 ∷ (23 ∷ (24 ∷ (44 ∷ []))))))))) (sym is)
    ∙ none_of (class_number c) (52 ∷ (41 ∷ (21 ∷ (22 ∷ (51 ∷ (23 ∷ (24 ∷ (44 ∷ []))))))))
    ((λ e. off.number (class_one c class.Number e)), ((λ e. off.minus (class_one c (class.Sign mark.Minus) e)), ((λ e. off.true_word (class_one c (class.Word word.True) e)), ((λ e. off.false_word (class_one c (class.Word word.False) e)), ((λ e. off.name (class_one c class.Name e)), ((λ e. off.least (class_one c (class.Word word.Min) e)), ((λ e. off.greatest (class_one c (class.Word word.Max) e)), ((λ e. off.count (class_one c (class.Sign mark.Count) e)), tt))))))))

-- ---- the first turn

pub layered_start : (d : ℕ) (l : Layer) {a m : Reader} {i p : ℕ} → Reads (tighter_made l (inner_made d)) (parse_at rule d (tighter_gram l) (stream_of a)) a (Ok (i, p)) m → Going (layer_made l (inner_made d)) (parse_at rule d (layer_gram l) (stream_of a)) a m d (turn_gram l) (layer_turn d l a.count) i p
unfolding Tree layer_made layer_turn items pair
layered_start d l {a} r = let s = first (begin d (layer_gram l) a) r in goes_from (tighter_made l (inner_made d) s.tree a.count) s.more (λ xs. refl) s.number s.place

pub comparison_start : (d : ℕ) {a m : Reader} {i p : ℕ} → Reads (sum_made (inner_made d)) (parse_at rule d sum (stream_of a)) a (Ok (i, p)) m → Going (comparison_made (inner_made d)) (parse_at rule d comparison (stream_of a)) a m d compared (compared_made (inner_made d) a.count) i p
unfolding Tree comparison_made items pair
comparison_start d {a} r = let s = first (begin d comparison a) r in goes_from (sum_made (inner_made d) s.tree a.count) s.more (λ xs. refl) s.number s.place

-- the nodes of arguments with their parenthesis
pub arguments_rule : (d p c : ℕ) (x : TreeAt rule d arguments_gram) (y : TreeAt rule d (sign mark.Close)) → arguments_made d x c ≡ rule_at d arguments p (pair d arguments_gram (sign mark.Close) x y) c
unfolding Tree arguments_made rule_made pair
arguments_rule d p c (inl x) y = refl
arguments_rule d p c (inr x) y = refl

-- ---- a `!` and what it denies

pub denial_ok : (d : ℕ) {a m b e : Reader} {i p j q : ℕ} {raw : Node} {r : ℕ × ℕ} → 0 < d → Takes (token_made 47) (opened d 47 (stream_of a)) a (Ok (i, p)) m → Reads (negation_made (inner_made (d - 1))) (parse_at rule (d - 1) negation (stream_of m)) m (Ok (j, q)) b → Recorded b e raw r → raw ≡ over kind.Not p j 0 0 → Builds (nest_made d 47 negated) (parse_at rule d (nest 47 negated) (stream_of a)) a (Ok r) e
unfolding Tree Inner nest_made nested inner_made rule_made
denial_ok zero h t n w is = absurd (omega arith)
denial_ok (suc d) {m = m} {b} {j = j} {q} h t n w is =
    let o = open_left d 47 negated t in
    let u = only o.more (subst (λ e. Reads (negation_made (inner_made e)) (parse_at rule e negation (stream_of m)) m (Ok (j, q)) b) (let z : suc d - 1 ≡ d = omega arith in z) n) in
    node u.whole w (over_is kind.Not is o.place u.number refl refl) refl

pub denial_stop : (d : ℕ) {a m b : Reader} {i p : ℕ} {f : Refusal} → 0 < d → Takes (token_made 47) (opened d 47 (stream_of a)) a (Ok (i, p)) m → Reads (negation_made (inner_made (d - 1))) (parse_at rule (d - 1) negation (stream_of m)) m (Err f) b → Reads (nest_made d 47 negated) (parse_at rule d (nest 47 negated) (stream_of a)) a (Err f) b
denial_stop zero h t n = absurd (omega arith)
denial_stop (suc d) {m = m} {b} {f = f} h t n = stop_last (open_left d 47 negated t).more (subst (λ e. Reads (negation_made (inner_made e)) (parse_at rule e negation (stream_of m)) m (Err f) b) (let z : suc d - 1 ≡ d = omega arith in z) n)
