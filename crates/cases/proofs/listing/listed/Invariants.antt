use Rattle.std.proofs.Common.{◌≡◌, ◌++◌, ◌-◌, length}
use Rattle.text.specs.Lexings.{lexed}
use Rattle.cases.specs.Listings.{listing}
use Rattle.cases.proofs.Listed.{to_list}
use Rattle.cases.proofs.listing.listed.Given as goal

abbrev pub invariant-loop-token : goal.invariant-loop-token
invariant-loop-token l =
    (l.lexer.source.now ≡ l.source) × (l.out.items ++ to_list l.source l.lexer.place ≡ listing (lexed l.source))

abbrev pub decreases-loop-token : goal.decreases-loop-token
decreases-loop-token l = length l.lexer.source.now - l.lexer.place
