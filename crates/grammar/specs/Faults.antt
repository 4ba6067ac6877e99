-- The number of what is wrong at a token.
use Rattle.std.specs.Prelude.{ℕ}
use Rattle.text.specs.Tokens.{fault_number}
use Rattle.grammar.specs.declared.faults.GrammarFault.{GrammarFault}
use Rattle.grammar.specs.declared.faults.GrammarFault.TheVariants.{Lexical, Misfit, TooDeep}

abbrev pub grammar_number : GrammarFault → ℕ
grammar_number (Lexical f) = fault_number f
grammar_number Misfit = 15
grammar_number TooDeep = 16
