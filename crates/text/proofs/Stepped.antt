-- All that a step promises.
use Rattle.std.proofs.Common.{◌≡◌, ℕ, ◌+◌, ◌≤◌, List, length, drop, Ok, Err, Result, MatchResult, Bor, false, true, IfErr, sym, refl, ap, ◌∙◌, subst}
use Rattle.std.specs.Result.{is_ok}
use Rattle.std.proofs.lemmas.Bool.{both_ways}
use Rattle.text.specs.declared.places.Placed.{Placed}
use Rattle.text.specs.declared.tokens.LexFault.{LexFault}
use Rattle.text.specs.declared.tokens.LexFault.TheVariants.{CommentOpen}
use Rattle.text.specs.declared.tokens.Token.{Token}
use Rattle.text.specs.Laws.{Next, Stepped}
use Rattle.text.specs.Steps.{Step, step, at, taken, front}
use Rattle.text.proofs.Only.{next_only}
use Rattle.text.specs.Tokens.{lexeme}
use Rattle.text.proofs.Steps.{lawful, shortens, token_within}

pub stepped : (text : List ℕ) (i : ℕ) (s : Step) → i ≤ length text → step text i ≡ s → Stepped text i s.answer s.after
stepped text i s h e =
    let l = subst (λ (x : Step). Next i (drop i text) x.answer x.after) e (lawful text i) in
    record {
      answer = ap (λ (x : Step). x.answer) (sym e);
      after = ap (λ (x : Step). x.after) (sym e);
      lawful = l;
      only = next_only i (drop i text) s.answer s.after l;
      shortens = shortens text i h s.answer s.after l;
    }

-- a fault that is put where the lexer is: a comment left open, or what is no token
pub opened : {U : Type 0} (r : Result U LexFault) (x : Placed LexFault) (q : ℕ) (g : Result ℕ ℕ) → MatchResult r (λ u. g ≡ Ok q) (λ f. (f ≡ CommentOpen) × (g ≡ Err q)) → is_ok r ≡ false → IfErr r (λ f. x ≡ at f q) → (x ≡ at CommentOpen q) × (g ≡ Err q)
opened (Ok u) x q g h v k = absurd (both_ways true v refl)
opened (Err f) x q g (e, m) v k = (k ∙ ap (λ i. at i q) e, m)

pub faulted : (r : Result (Token (Bor (List ℕ)) × ℕ) LexFault) (x : Placed LexFault) (q : ℕ) (rest : List ℕ) → taken r ≡ front rest → is_ok r ≡ false → IfErr r (λ f. x ≡ at f q) → (f : LexFault) × (x ≡ at f q) × (Err f ≡ front rest)
faulted (Ok t) x q rest h v k = absurd (both_ways true v refl)
faulted (Err f) x q rest h v k = (f, k, h)

-- a token that is taken lies within the text
pub taken_within : (text rest : List ℕ) (q : ℕ) (r : Result (Token (Bor (List ℕ)) × ℕ) LexFault) (t : Token (Bor (List ℕ))) (n : ℕ) → q ≤ length text → rest ≡ drop q text → taken r ≡ front rest → r ≡ Ok (t, n) → q + n ≤ length text
taken_within text rest q r t n h e f k = token_within text q n (lexeme t) h (ap taken (sym k) ∙ f ∙ ap front e)
