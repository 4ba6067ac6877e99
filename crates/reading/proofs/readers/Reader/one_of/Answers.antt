use Rattle.std.proofs.Common.{map, sym, ap, ◌∙◌}
use Rattle.grammar.specs.TokenClasses.{class_number, among}
use Rattle.reading.specs.States.{of_mark}
use Rattle.reading.proofs.Marks.{not_any, any_refused, any_took}
use Rattle.reading.proofs.Sequences.{exit_token}
use Rattle.reading.proofs.readers.Reader.one_of.Goals as goal

pub returns-then-not-among : goal.returns-then-not-among
returns-then-not-among g c =
    let ns = map g.C.Asked.asked c.args.classes.now in
    not_any ns c.args.self.now c.misfit.ensures (ap (among ns) (sym c.class-class.ensures) ∙ sym c.among.ensures ∙ c.if-not-among.true)

pub returns-in_err-place : goal.returns-in_err-place
returns-in_err-place g c =
    let ns = map g.C.Asked.asked c.args.classes.now in
    let taken = any_refused ns (class_number c.class-class.result) {a = c.args.self.now} {b = c.take.new.self} (sym c.class-class.ensures) (sym c.among.ensures ∙ c.if-not-among.false) c.in_err-place.ensures in
    exit_token of_mark _ c.from_residual.ensures.1 taken c.in_err-place.ensures.keeps

pub returns : goal.returns
returns g c =
    let ns = map g.C.Asked.asked c.args.classes.now in
    any_took ns (class_number c.class-class.result) {a = c.args.self.now} {b = c.take.new.self} {p = c.in_ok-place.place} (sym c.class-class.ensures) (sym c.among.ensures ∙ c.if-not-among.false) c.in_ok-place.ensures
