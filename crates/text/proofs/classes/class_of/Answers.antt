-- The table is the rule at each byte in turn, which antt computes; so its entry at b is the rule at b.
use Rattle.std.proofs.Common.{◌<◌, zero-add, ◌∙◌, rules}
use Rattle.std.proofs.lemmas.List.FromFn.{get_or-map-range_with_len}
use Rattle.text.specs.declared.classes.ByteClass.TheVariants.{Other}
use Rattle.text.specs.Classes.{class_of}
use Rattle.text.proofs.classes.class_of.Goals as goal

pub returns : goal.returns
unfolding class_of
returns c =
    let h : c.from.result < 256 = search rules in
    get_or-map-range_with_len class_of 0 256 c.from.result c.args.b Other h (zero-add c.from.result ∙ c.from.ensures)
