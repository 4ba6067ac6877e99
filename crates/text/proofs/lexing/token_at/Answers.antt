use Rattle.std.proofs.Common.{◌≡◌, length, Ok, Err, sym, ap, ◌∙◌, refl, inl, inr, rules, tests}
use Rattle.std.specs.List.{prefix_len}
use Rattle.std.specs.Option.{ok_or}
use Rattle.text.specs.declared.tokens.LexFault.TheVariants.{NoToken}
use Rattle.text.specs.Classes.{is_class}
use Rattle.std.proofs.lemmas.Iterator.{YieldsList-from_slice}
use Rattle.std.proofs.lemmas.Iterator.Consumers.{count_from_yields_List}
use Rattle.std.proofs.lemmas.Iterator.Search.{YieldsList-from_take_while}
use Rattle.std.proofs.lemmas.List.Folds.{length-prefix_len}
use Rattle.std.proofs.lemmas.Result.{err_from_is_err_and}
use Rattle.text.specs.declared.classes.ByteClass.TheVariants as class
use Rattle.text.specs.declared.tokens.Token.TheVariants as token
use Rattle.text.specs.Lexemes.{part, digit}
use Rattle.text.specs.Steps.{sized, meant, taken}
use Rattle.text.proofs.Fronts.{front_word, front_number, front_sign, front_none, front_unknown}
use Rattle.text.proofs.lexing.token_at.Goals as goal

pub returns-in-Letter : goal.returns-in-Letter
returns-in-Letter c =
    let n : c.count-n.result ≡ prefix_len part c.args.rest.now =
    count_from_yields_List c.take_while.result _ c.count-n.ensures.ran
    (YieldsList-from_take_while _ part (YieldsList-from_slice c.args.rest.now cc) c.take_while.ensures.closure c.take_while.ensures.done (λ x b q k. search (rules, tests)))
    ∙ length-prefix_len part c.args.rest.now in
    let s : taken c.map.result ≡ sized c.count-n.result (meant c.word.result) = search rules in
    s
    ∙ ap (sized c.count-n.result) c.word.ensures
    ∙ sym (front_word c.args.rest.now c.count-n.result _ c.requires (sym c.class_of.ensures ∙ c.in-Letter.is) n refl)

pub returns-in-Digit : goal.returns-in-Digit
returns-in-Digit c =
    let n : c.count-n-in-Digit.result ≡ prefix_len digit c.args.rest.now =
    count_from_yields_List c.take_while-in-Digit.result _ c.count-n-in-Digit.ensures.ran
    (YieldsList-from_take_while _ digit (YieldsList-from_slice c.args.rest.now cc) c.take_while-in-Digit.ensures.closure c.take_while-in-Digit.ensures.done (λ x b q k. search (rules, tests)))
    ∙ length-prefix_len digit c.args.rest.now in
    let s : taken c.map-in-Digit.result ≡ sized c.count-n-in-Digit.result (meant c.number.result) = search rules in
    s
    ∙ ap (sized c.count-n-in-Digit.result) c.number.ensures
    ∙ sym (front_number c.args.rest.now c.count-n-in-Digit.result _ c.requires (sym c.class_of.ensures ∙ c.in-Digit.is) n refl)

pub returns-in_ok-sign-in-Sign : goal.returns-in_ok-sign-in-Sign
returns-in_ok-sign-in-Sign c =
    let e = sym c.sign_at.ensures in
    ap (λ w. Ok (token.Sign c.in_ok-sign-in-Sign.sign, length w)) c.spelling.ensures
    ∙ sym (front_sign c.args.rest.now c.in_ok-sign-in-Sign.sign (sym c.class_of.ensures ∙ c.in-Sign.is) (e ∙ c.in_ok-sign-in-Sign.ensures.ok_part))

pub returns-in_err-sign-in-Sign : goal.returns-in_err-sign-in-Sign
returns-in_err-sign-in-Sign c =
    let p = err_from_is_err_and c.from_residual.result c.from_residual.ensures.1 in
    let kind = sym c.class_of.ensures ∙ c.in-Sign.is in
    let told = c.in_err-sign-in-Sign.ensures.value ∙ ap (λ o. ok_or o NoToken) c.in_err-sign-in-Sign.ensures.ok_part in
    let fault : c.in_err-sign-in-Sign.field-0.0 ≡ NoToken = cc in
    ap taken p.1 ∙ ap Err (p.2 ∙ fault)
    ∙ sym (front_none c.args.rest.now (ap (λ k. is_class k class.Letter) kind) (ap (λ k. is_class k class.Digit) kind) (sym c.sign_at.ensures ∙ c.in_err-sign-in-Sign.ensures.ok_part))

pub returns-in-Other : goal.returns-in-Other
returns-in-Other c =
    let k = sym c.class_of.ensures in
    elim c.in-Other.is [
      | inl e ↦ sym (front_unknown c.args.rest.now class.Other (k ∙ e) refl refl refl)
      | inr (inl e) ↦ sym (front_unknown c.args.rest.now class.Blank (k ∙ e) refl refl refl)
      | inr (inr e) ↦ sym (front_unknown c.args.rest.now class.Brace (k ∙ e) refl refl refl)
    ]
