use Rattle.std.proofs.Common.{◌≡◌, ◌-◌, length, drop, None}
use Rattle.text.specs.Steps.{gap}
use Rattle.text.proofs.lexing.Lexer.skip_gap.Given as goal

abbrev pub invariant-loop-self : goal.invariant-loop-self
invariant-loop-self l = (l.self.source ≡ l.fn.self.source) × (gap None (drop l.self.place l.self.source.now) l.self.place ≡ gap None (drop l.fn.self.place l.fn.self.source.now) l.fn.self.place)

abbrev pub decreases-loop-self : goal.decreases-loop-self
decreases-loop-self l = length l.self.source.now - l.self.place
