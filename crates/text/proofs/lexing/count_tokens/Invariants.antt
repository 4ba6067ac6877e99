use Rattle.std.proofs.Common.{◌≡◌, ◌-◌, ◌≤◌, length}
use Rattle.text.specs.Lexings.{lexed, counted}
use Rattle.text.proofs.Counting.{to_count}
use Rattle.text.proofs.lexing.count_tokens.Given as goal

abbrev pub invariant-loop-token : goal.invariant-loop-token
invariant-loop-token l =
    (l.lexer.source.now ≡ l.source) × (l.count ≤ l.lexer.place)
    × (to_count l.source l.count l.lexer.place ≡ counted (lexed l.source))

abbrev pub decreases-loop-token : goal.decreases-loop-token
decreases-loop-token l = length l.lexer.source.now - l.lexer.place
