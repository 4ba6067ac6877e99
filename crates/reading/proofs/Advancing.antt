-- The stream after one token.
use Rattle.std.proofs.Common.{◌≡◌, ℕ, suc, ◌<◌, ◌≤◌, Bool, true, false, cond, List, [], ◌∷◌, ◌++◌, length, drop, IsErrAnd, Ok, Err, Result, sym, refl, ap, ◌∙◌, arith}
use Rattle.std.proofs.lemmas.List.{length-drop, length-append}
use Rattle.std.proofs.lemmas.Result.{err_from_is_err_and}
use Rattle.text.specs.declared.places.Placed.{Placed}
use Rattle.text.specs.declared.tokens.LexFault.{LexFault}
use Rattle.text.specs.Laws.{Next, Stepped}
use Rattle.text.specs.Lexings.{Lexing, lexed_from, onward, only, before}
use Rattle.text.specs.Steps.{at, step}
use Rattle.text.specs.Tokens.{Lexeme, is_end}
use Rattle.text.proofs.Counting.{lexed_step}
use Rattle.text.proofs.Longest.{shaped_some}
use Rattle.grammar.specs.declared.faults.GrammarFault.TheVariants.{Lexical}
use Rattle.grammar.specs.Streams.{Stream, Refusal, from}
use Rattle.reading.specs.States.{stream_by}
use Rattle.reading.specs.Steps.{advanced, tail_of}

abbrev lexed_at : List ℕ → ℕ → Lexing
lexed_at text i = lexed_from (suc (length text)) text i

tail_is : (t : Lexeme) (p : ℕ) (l : Lexing) → is_end t ≡ false → tail_of (stream_by t p l) ≡ from l.tokens l.verdict
tail_is t p l e = ap (λ b. tail_of (cond b (record { tokens = []; verdict = Ok p }) (record { tokens = at t p ∷ l.tokens; verdict = l.verdict }))) e

-- a token or the end
next_ok : (n : Placed Lexeme) (l : Lexing) → from (onward (Ok n) l).tokens (onward (Ok n) l).verdict ≡ Ok (stream_by n.item n.place l)
next_ok n l = go (is_end n.item)
  where
    go : (b : Bool) → from (cond b (only (Ok n.place)) (before n l)).tokens (cond b (only (Ok n.place)) (before n l)).verdict ≡ Ok (cond b (record { tokens = []; verdict = Ok n.place }) (record { tokens = at n.item n.place ∷ l.tokens; verdict = l.verdict }))
    go true = refl
    go false = refl

pub advance_ok : (text : List ℕ) (i j p : ℕ) (t : Lexeme) (n : Placed Lexeme) → i ≤ length text → is_end t ≡ false → Stepped text i (Ok n) j → Ok (stream_by n.item n.place (lexed_at text j)) ≡ tail_of (stream_by t p (lexed_at text i))
advance_ok text i j p t n h e s =
    sym (tail_is t p (lexed_at text i) e
    ∙ ap (λ (l : Lexing). from l.tokens l.verdict) (lexed_step text i h ∙ ap (λ a. onward a (lexed_at text (step text i).after)) (sym s.answer) ∙ ap (λ k. onward (Ok n) (lexed_at text k)) (sym s.after))
    ∙ next_ok n (lexed_at text j))

pub advance_err : (text : List ℕ) (i j p : ℕ) (t : Lexeme) (f : Placed LexFault) → i ≤ length text → is_end t ≡ false → Stepped text i (Err f) j → Err (at (Lexical f.item) f.place) ≡ tail_of (stream_by t p (lexed_at text i))
advance_err text i j p t f h e s =
    sym (tail_is t p (lexed_at text i) e
    ∙ ap (λ (l : Lexing). from l.tokens l.verdict) (lexed_step text i h ∙ ap (λ a. onward a (lexed_at text (step text i).after)) (sym s.answer)))

-- the fault of the lexer, as the refusal that it is
pub refused_as_is : (r : Refusal) (f : Placed LexFault) → r.item ≡ Lexical f.item → r.place ≡ f.place → r ≡ at (Lexical f.item) f.place
refused_as_is r f item place = λ i. record { item = item i; place = place i }

pub stopped : (r : Result (Unit {0}) Refusal) (s : Stream) {f : Refusal} → IsErrAnd r (λ y. y ≡ f) → advanced r s ≡ Err f
stopped r s h = let p = err_from_is_err_and r h in ap (λ x. advanced x s) (p.1 ∙ ap Err p.2)

-- where the next token stands
pub next_place : (text : List ℕ) (i j : ℕ) (n : Placed Lexeme) → i ≤ length text → Next i (drop i text) (Ok n) j → (i ≤ n.place) × (n.place ≤ j) × (j ≤ length text) × (is_end n.item ≡ false → n.place < j)
next_place text i j n h (Next.ends e) =
    let k = e.place in
    let d = length-drop i text in
    (omega arith, omega arith, omega arith, (λ z. absurd (let q : ◌≡◌ {A = Bool} true false = z in no_way q)))
  where
    no_way : true ≡ false → ⊥
    no_way q = let z : ◌≡◌ {A = ℕ} 0 1 = cc in omega arith
next_place text i j n h (Next.takes rest k) =
    let place = k.place in
    let after = k.after in
    let some = shaped_some k.bytes k.longest.shaped in
    let whole = ap length k.whole ∙ length-append k.before (k.bytes ++ rest) in
    let more = length-append k.bytes rest in
    let d = length-drop i text in
    (omega arith, omega arith, omega arith, (λ z. omega arith))
