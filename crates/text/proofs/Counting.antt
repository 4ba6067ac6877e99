-- A whole text, step by step: it is its tokens one after another.
use Rattle.std.proofs.Common.{◌≡◌, ℕ, zero, suc, ◌+◌, ◌-◌, ◌<◌, ◌≤◌, true, false, cond, List, ◌++◌, length, drop, Ok, Err, sym, refl, ap, ◌∙◌, subst, add-zero, zero-add, arith, Bor}
use native.Mathlib.Nat.{sub-zero}
use Rattle.std.proofs.lemmas.List.{length-drop, length-append}
use Rattle.std.proofs.lemmas.Bool.Decides.{when_false}
use Rattle.text.specs.declared.places.Placed.{Placed}
use Rattle.text.specs.declared.tokens.LexFault.{LexFault}
use Rattle.text.specs.declared.tokens.Token.{Token}
use Rattle.text.specs.declared.tokens.Token.TheVariants as token
use Rattle.text.specs.Laws.{Next, Lexes, Apart, Counted, Shortens}
use Rattle.text.specs.Lexings.{Lexing, only, before, onward, lexed_from, lexed, counting, counted}
use Rattle.text.specs.Steps.{at, step}
use Rattle.text.specs.Tokens.{Lexeme, lexeme, is_end, Answer, Verdict}
use Rattle.text.proofs.Longest.{shaped_some}
use Rattle.text.proofs.Only.{lexes_only}
use Rattle.text.proofs.Steps.{lawful, takes_onward, takes_token}

-- a count that goes on
counting_more : (n : ℕ) (t : Placed Lexeme) (l : Lexing) → counting n (before t l) ≡ counting (n + 1) l
counting_more n t l = go l.verdict
  where
    go : (v : Verdict) → counting n (before t (record { tokens = l.tokens; verdict = v })) ≡ counting (n + 1) (record { tokens = l.tokens; verdict = v })
    go (Ok p) = let k : n + suc (length l.tokens) ≡ n + 1 + length l.tokens = omega arith in ap Ok k
    go (Err f) = refl

counting_none : (l : Lexing) → counting 0 l ≡ counted l
counting_none l = go l.verdict
  where
    go : (v : Verdict) → counting 0 (record { tokens = l.tokens; verdict = v }) ≡ counted (record { tokens = l.tokens; verdict = v })
    go (Ok p) = ap Ok (zero-add (length l.tokens))
    go (Err f) = refl

-- what is to be counted from place i on, after n tokens
abbrev pub to_count : List ℕ → ℕ → ℕ → Verdict
to_count text n i = counting n (lexed_from (suc (length text) - n) text i)

fuel : (text : List ℕ) (n i : ℕ) → n ≤ length text → to_count text n i ≡ counting n (onward (step text i).answer (lexed_from (suc (length text) - (n + 1)) text (step text i).after))
unfolding lexed_from
fuel text n i h =
    let k : suc (length text) - n ≡ suc (suc (length text) - (n + 1)) = omega arith in
    ap (λ m. counting n (lexed_from m text i)) k

pub count_start : (text : List ℕ) → to_count text 0 0 ≡ counted (lexed text)
unfolding lexed
count_start text = ap (λ n. counting 0 (lexed_from n text 0)) (sub-zero (suc (length text))) ∙ counting_none (lexed text)

pub count_more : (text : List ℕ) (n i j : ℕ) (t : Placed Lexeme) → n ≤ length text → Ok t ≡ (step text i).answer → j ≡ (step text i).after → is_end t.item ≡ false → to_count text (n + 1) j ≡ to_count text n i
count_more text n i j t h e k z =
    let rest = lexed_from (suc (length text) - (n + 1)) text (step text i).after in
    sym (fuel text n i h
    ∙ ap (λ a. counting n (onward a rest)) (sym e)
    ∙ ap (λ b. counting n (cond b (only (Ok t.place)) (before t rest))) z
    ∙ counting_more n t rest
    ∙ ap (λ x. counting (n + 1) (lexed_from (suc (length text) - (n + 1)) text x)) (sym k))

pub count_end : (text : List ℕ) (n i : ℕ) (t : Placed Lexeme) → n ≤ length text → Ok t ≡ (step text i).answer → is_end t.item ≡ true → Ok n ≡ to_count text n i
count_end text n i t h e z =
    let rest = lexed_from (suc (length text) - (n + 1)) text (step text i).after in
    sym (fuel text n i h
    ∙ ap (λ a. counting n (onward a rest)) (sym e)
    ∙ ap (λ b. counting n (cond b (only (Ok t.place)) (before t rest))) z
    ∙ ap Ok (add-zero n))

pub count_fault : (text : List ℕ) (n i : ℕ) (f : Placed LexFault) → n ≤ length text → Err f ≡ (step text i).answer → Err f ≡ to_count text n i
count_fault text n i f h e =
    let rest = lexed_from (suc (length text) - (n + 1)) text (step text i).after in
    sym (fuel text n i h ∙ ap (λ a. counting n (onward a rest)) (sym e))

-- any token but the end
pub goes_on_lem : (x : Token (Bor (List ℕ))) → (x ≡ token.End → ⊥) → is_end (lexeme x) ≡ false
goes_on_lem (token.Word k) h = refl
goes_on_lem (token.Name n) h = refl
goes_on_lem (token.Number v) h = refl
goes_on_lem (token.Sign s) h = refl
goes_on_lem token.End h = absurd (h refl)

-- after it the place is farther on
pub farther_on : (text : List ℕ) (i j p : ℕ) (t : Lexeme) → j ≤ length text → is_end t ≡ false → Shortens (drop i text) (Ok (at t p)) (drop j text) → i < j
farther_on text i j p t h z s =
    let k = when_false _ _ z s in
    let d = length-drop i text in
    let e = length-drop j text in
    omega arith

-- where tokens begin and end: a text from i on that ends at p
lexes_end : (i : ℕ) (text : List ℕ) (ts : List (Placed Lexeme)) (p : ℕ) → Lexes i text ts (Ok p) → p ≡ i + length text
lexes_end i text _ p (Lexes.ends e) = e.place
lexes_end i text _ p (Lexes.takes {t = t} {ts = ts} j rest k l) =
    let e = lexes_end j rest ts p l in
    let whole = ap length k.whole ∙ length-append k.before (k.bytes ++ rest) in
    let more = length-append k.bytes rest in
    let place = k.place in
    let after = k.after in
    omega arith

abbrev LexesBy : ℕ → List ℕ → Lexing → Type 0
LexesBy i text l = Lexes i text l.tokens l.verdict

-- by what comes next, where the rest is known
lexes_on : (text : List ℕ) (i j m : ℕ) (a : Answer) → i ≤ length text → length text < i + suc m → (j ≤ length text → length text < j + m → LexesBy j (drop j text) (lexed_from m text j)) → Next i (drop i text) a j → LexesBy i (drop i text) (onward a (lexed_from m text j))
lexes_on text i j m _ h f ih (Next.ends e) = Lexes.ends e
lexes_on text i j m _ h f ih (Next.refuses r) = Lexes.refuses r
lexes_on text i j m _ h f ih (Next.takes {t} rest k) =
    let o = takes_onward text i j t rest h k in
    let later = subst (λ l. LexesBy j l (lexed_from m text j)) o.2 (ih o.1 (omega arith)) in
    subst (λ b. LexesBy i (drop i text) (cond b (only (Ok t.place)) (before t (lexed_from m text j)))) (sym (takes_token (drop i text) i j t rest k))
    (Lexes.takes j rest k later)

lexes_from : (n : ℕ) (text : List ℕ) (i : ℕ) → i ≤ length text → length text < i + n → LexesBy i (drop i text) (lexed_from n text i)
unfolding lexed_from
lexes_from zero text i h f = absurd (omega arith)
lexes_from (suc m) text i h f =
    lexes_on text i (step text i).after m (step text i).answer h f (lexes_from m text (step text i).after) (lawful text i)

-- A text is its tokens one after another.
pub lexes : (text : List ℕ) → Lexes 0 text (lexed text).tokens (lexed text).verdict
unfolding lexed
lexes text = lexes_from (suc (length text)) text 0 (omega arith) (omega arith)

-- each token takes a byte at least
lexes_few : (i : ℕ) (text : List ℕ) (ts : List (Placed Lexeme)) (v : Verdict) → Lexes i text ts v → length ts ≤ length text
lexes_few i text _ _ (Lexes.ends e) = omega arith
lexes_few i text _ _ (Lexes.refuses r) = omega arith
lexes_few i text _ v (Lexes.takes {ts = ts} j rest k l) =
    let h = lexes_few j rest ts v l in
    let whole = ap length k.whole ∙ length-append k.before (k.bytes ++ rest) in
    let more = length-append k.bytes rest in
    let some = shaped_some k.bytes k.longest.shaped in
    omega arith

apart : (text : List ℕ) (v : Verdict) → Lexes 0 text (lexed text).tokens v → Apart text (lexed text).tokens v
apart text v l = record { lexes = l; few = lexes_few 0 text (lexed text).tokens v l; only = λ us w m. lexes_only 0 text (lexed text).tokens us v w l m }

pub counted_lawful : (text : List ℕ) → Counted text (counted (lexed text))
counted_lawful text = go (lexed text).verdict (lexes text)
  where
    go : (v : Verdict) → Lexes 0 text (lexed text).tokens v → Counted text (counted (record { tokens = (lexed text).tokens; verdict = v }))
    go (Ok p) l =
        let e = lexes_end 0 text (lexed text).tokens p l ∙ zero-add (length text) in
        ((lexed text).tokens, apart text (Ok (length text)) (subst (λ q. Lexes 0 text (lexed text).tokens (Ok q)) e l), refl)
    go (Err f) l = ((lexed text).tokens, apart text (Err f) l)

-- Steps beyond those that are needed change nothing.
fuel_on : (text : List ℕ) (i j n m : ℕ) (a : Answer) → i ≤ length text → length text < i + suc n → length text < i + suc m → (j ≤ length text → length text < j + n → length text < j + m → lexed_from n text j ≡ lexed_from m text j) → Next i (drop i text) a j → onward a (lexed_from n text j) ≡ onward a (lexed_from m text j)
fuel_on text i j n m _ h f g ih (Next.ends e) = refl
fuel_on text i j n m _ h f g ih (Next.refuses r) = refl
fuel_on text i j n m _ h f g ih (Next.takes {t} rest k) =
    let o = takes_onward text i j t rest h k in
    ap (onward (Ok t)) (ih o.1 (omega arith) (omega arith))

fuel_enough : (n m : ℕ) (text : List ℕ) (i : ℕ) → i ≤ length text → length text < i + n → length text < i + m → lexed_from n text i ≡ lexed_from m text i
unfolding lexed_from
fuel_enough zero m text i h f g = absurd (omega arith)
fuel_enough (suc n) zero text i h f g = absurd (omega arith)
fuel_enough (suc n) (suc m) text i h f g =
    fuel_on text i (step text i).after n m (step text i).answer h f g (fuel_enough n m text (step text i).after) (lawful text i)

unroll : (text : List ℕ) (i : ℕ) → lexed_from (suc (suc (length text))) text i ≡ onward (step text i).answer (lexed_from (suc (length text)) text (step text i).after)
unfolding lexed_from
unroll text i = refl

-- the tokens from a place on are the one there and those after it
pub lexed_step : (text : List ℕ) (i : ℕ) → i ≤ length text → lexed_from (suc (length text)) text i ≡ onward (step text i).answer (lexed_from (suc (length text)) text (step text i).after)
lexed_step text i h =
    fuel_enough (suc (length text)) (suc (suc (length text))) text i h (omega arith) (omega arith) ∙ unroll text i
