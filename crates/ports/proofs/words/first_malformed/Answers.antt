use Rattle.std.proofs.Common.{◌≡◌, ℕ, List, not, Some, None, Option, refl, ap, ◌∙◌, rules, tests}
use Rattle.std.specs.Iterator.{YieldsFirstBy}
use Rattle.std.specs.Option.{is_some, option_map}
use Rattle.std.proofs.lemmas.Iterator.Consumers.{YieldsList-from_first}
use Rattle.std.proofs.lemmas.Iterator.Search.{find_from_yields_List}
use Rattle.ports.specs.declared.faults.Malformed.{Malformed}
use Rattle.ports.specs.declared.words.Word.{Word}
use Rattle.ports.specs.declared.words.Words.{Words}
use Rattle.ports.specs.Words.{words_from, malformed_in, number_of}
use Rattle.ports.proofs.words.first_malformed.Goals as goal

-- the place of a word, by what is seen of it
seen : (r : Option Word) → option_map (λ w. record { place = w.place }) r ≡ option_map {U = Malformed} (λ (w : ℕ × List ℕ). record { place = w.0 }) (option_map (λ w. (w.place, w.bytes.now)) r)
seen None = refl
seen (Some w) = refl

pub returns : goal.returns
unfolding words_from malformed_in
returns c =
    let told : c.map.result ≡ option_map (λ w. record { place = w.place }) c.find.result = search rules in
    let show : Word → ℕ × List ℕ = λ w. (w.place, w.bytes.now) in
    let left : Words → List (ℕ × List ℕ) = λ s. words_from s.place s.text.now in
    told ∙ seen c.find.result
    ∙ ap (option_map (λ w. record { place = w.0 }))
    (find_from_yields_List {steps = YieldsFirstBy show left} {v = show} (λ w. not (is_some (number_of w.1))) c.find.new.self _ c.find.result c.find.ensures.ran (YieldsList-from_first show left (words_from 0 c.args.text.now) refl) (λ x b q k. search (rules, tests)))
