use Rattle.std.proofs.Common.{eqb, ◌∙◌, rules}
use Rattle.std.proofs.lemmas.Iterator.{YieldsList-from_slice}
use Rattle.std.proofs.lemmas.Iterator.Search.{any_from_yields_List}
use Rattle.grammar.specs.TokenClasses.{class_number}
use Rattle.reading.proofs.Marks.{among_any}
use Rattle.reading.proofs.steps.among.Goals as goal

pub returns : goal.returns
returns g c =
    let n = class_number c.args.class in
    let asked = g.C.Asked.asked in
    any_from_yields_List (λ x. eqb n (asked x)) _ _ c.any.result c.any.ensures.ran (YieldsList-from_slice c.args.classes.now cc) (λ x b q k. search rules)
    ∙ among_any asked n c.args.classes.now
