use Rattle.std.proofs.Common.{◌≡◌, ℕ, ◌+◌, ◌⊎◌, [], ◌∷◌, refl, ap, ◌∙◌, inl, inr, arith}
use Rattle.table.specs.Numbers.{type_number}
use Rattle.table.specs.declared.kinds.Kind.TheVariants as kind
use Rattle.grammar.specs.Grammars.{Tree}
use Rattle.syntax.specs.Nodes.{keyword_type, type_of, marked, parameter_made}
use Rattle.syntax.specs.Syntax.{parameter}
use Rattle.reading.specs.States.{of_node}
use Rattle.reading.proofs.Marks.{take_mark}
use Rattle.reading.proofs.Sequences.{begin, first, only, past_name, past_token, stop, stop_token, stop_last, exit_node, node, pair, leaf_made, titled_is}
use Rattle.declarations.specs.Parameters.{mark_made}
use Rattle.declarations.proofs.parameters.parameter.Goals as goal

pub returns-in_err-mark : goal.returns-in_err-mark
returns-in_err-mark c = λ d. exit_node of_node _ c.from_residual.ensures.1 (stop (begin d parameter c.args.reader.now) (c.in_err-mark.ensures d))

pub returns-in_err-name : goal.returns-in_err-name
unfolding mark_made
returns-in_err-name c = λ d.
    let s = first (begin d parameter c.args.reader.now) (c.in_ok-mark.ensures d) in
    exit_node of_node _ c.from_residual-in_err-name.ensures.1 (stop_token s.more c.in_err-name.ensures)

pub returns-in_err-take : goal.returns-in_err-take
returns-in_err-take c = λ d.
    let s = first (begin d parameter c.args.reader.now) (c.in_ok-mark.ensures d) in
    let t = past_name s.more c.in_ok-name.ensures in
    exit_node of_node _ c.from_residual-in_err-take.ensures.1 (stop_token t.more c.in_err-take.ensures)

pub returns-in_err-word : goal.returns-in_err-word
returns-in_err-word c = λ d.
    let s = first (begin d parameter c.args.reader.now) (c.in_ok-mark.ensures d) in
    let t = past_name s.more c.in_ok-name.ensures in
    let u = past_token t.more c.in_ok-take.ensures in
    exit_node of_node _ c.from_residual-in_err-word.ensures.1 (stop_last u.more (take_mark d 26 (27 ∷ (28 ∷ [])) c.in_err-word.ensures).reads)

-- a mark is added to any number
added : {A B : Type 0} (x : A ⊎ B) (n : ℕ) → marked x 0 + n ≡ marked x n
added (inl x) n = omega arith
added (inr x) n = omega arith

pub returns : goal.returns
unfolding Tree mark_made parameter_made type_of pair leaf_made
returns c = λ d.
    let s = first (begin d parameter c.args.reader.now) (c.in_ok-mark.ensures d) in
    let t = past_name s.more c.in_ok-name.ensures in
    let u = past_token t.more c.in_ok-take.ensures in
    let v = only u.more (take_mark d 26 (27 ∷ (28 ∷ [])) c.in_ok-word.ensures).reads in
    let type = c.number.ensures ∙ ap type_number (c.keyword_type.ensures ∙ ap keyword_type v.number) in
    let value = ap (λ n. n + c.from-2.result) (c.from.ensures ∙ s.number) ∙ ap (λ n. marked s.tree 0 + n) (c.from-2.ensures ∙ type) ∙ added s.tree _ in
    node v.whole c.record.ensures (titled_is kind.Parameter c.valued-node.ensures t.number t.place refl refl refl value) refl
