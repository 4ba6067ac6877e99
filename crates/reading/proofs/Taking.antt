-- A token taken from the stream of a reader.
use Rattle.std.proofs.Common.{◌≡◌, ℕ, zero, suc, ◌+◌, ◌<◌, ◌≤◌, Bool, true, false, cond, not, ◌&&◌, eqb, List, [], ◌∷◌, length, Ok, Err, Result, sym, refl, ap, ◌∙◌, arith}
use Rattle.std.proofs.lemmas.Bool.{eq-eqb, ne_eqb, both_ways}
use Rattle.std.specs.Borrow.{Bor}
use Rattle.std.specs.Result.{MatchResult}
use Rattle.text.specs.declared.places.Placed.{Placed}
use Rattle.text.specs.declared.tokens.LexFault.{LexFault}
use Rattle.text.specs.declared.tokens.Token.{Token}
use Rattle.text.specs.declared.tokens.Token.TheVariants as token
use Rattle.text.specs.Laws.{Stepped}
use Rattle.text.specs.Lexings.{Lexing, lexed_from}
use Rattle.text.specs.Steps.{at, answered}
use Rattle.text.specs.Tokens.{Lexeme, lexeme, is_end, Verdict}
use Rattle.grammar.specs.declared.faults.GrammarFault.TheVariants.{TooDeep}
use Rattle.grammar.specs.Parsers.{passed, take_by, two, misfit}
use Rattle.grammar.specs.Streams.{Stream, Refusal, from}
use Rattle.grammar.specs.TokenClasses.{class_of, is_class}
use Rattle.grammar.proofs.Inversions.{never_ok, passed_on}
use Rattle.reading.specs.declared.readers.Reader.{Reader}
use Rattle.reading.specs.States.{stream_by, stream_of, IsAhead, state_of, Lends, Keeps, applied, written, Takes}
use Rattle.reading.specs.Steps.{tail_of, front_of, misfit_of, taken, opened, token_made}
use Rattle.reading.proofs.Advancing.{advance_ok, advance_err}

-- the class of the token ahead is that of the stream
pub front_class_lem : (t : Lexeme) (p : ℕ) (l : Lexing) → front_of (stream_by t p l) ≡ class_of t
front_class_lem (token.Word k) p l = refl
front_class_lem (token.Name n) p l = refl
front_class_lem (token.Number v) p l = refl
front_class_lem (token.Sign s) p l = refl
front_class_lem token.End p l = refl

streamed : (t : Lexeme) (p : ℕ) (l : Lexing) → is_end t ≡ false → stream_by t p l ≡ record { tokens = at t p ∷ l.tokens; verdict = l.verdict }
streamed t p l e = ap (λ b. cond b (record { tokens = []; verdict = Ok p }) (record { tokens = at t p ∷ l.tokens; verdict = l.verdict })) e

-- the token ahead is of the class
pub record Kept (c : ℕ) (s : Stream) (t : Placed Lexeme) : Type 0 where
  pub class : is_class c t ≡ true
  pub taken_as : taken c s ≡ passed (t, class) (tail_of s)

kept_by : (c : ℕ) (t : Placed Lexeme) (ts : List (Placed Lexeme)) (v : Verdict) (b : Bool) (e : is_class c t ≡ b) → b ≡ true → (k : is_class c t ≡ true) × (take_by c t ts v b e ≡ passed (t, k) (from ts v))
kept_by c t ts v true e h = (e, refl)
kept_by c t ts v false e h = absurd (both_ways false refl h)

pub taken_here : (t : Lexeme) (p : ℕ) (l : Lexing) (c : ℕ) → is_end t ≡ false → class_of t ≡ c → Kept c (stream_by t p l) (at t p)
taken_here t p l c h e =
    let s = streamed t p l h in
    let (k, q) = kept_by c (at t p) l.tokens l.verdict (is_class c (at t p)) refl (eq-eqb (class_of t) c e) in
    record { class = k; taken_as = ap (taken c) s ∙ q ∙ ap (λ x. passed (at t p, k) (tail_of x)) (sym s) }

refused_by : (c : ℕ) (t : Placed Lexeme) (ts : List (Placed Lexeme)) (v : Verdict) (b : Bool) (e : is_class c t ≡ b) → b ≡ false → take_by c t ts v b e ≡ Err (misfit (t ∷ ts) v)
refused_by c t ts v true e h = absurd (both_ways true h refl)
refused_by c t ts v false e h = refl

-- what was taken has no node
unfoldable taken_state : (a b : Reader) → b.table.now ≡ a.table.now → b.count ≡ a.count → state_of b ≡ applied [] (stream_of b) (state_of a)
unfolding state_of
taken_state a b t c =
    ap (λ x. record { stream = stream_of b; count = b.count; table = x }) t
    ∙ ap (λ k. record { stream = stream_of b; count = k; table = a.table.now }) (c ∙ (let z : a.count ≡ a.count + 0 = omega arith in z))

pub front : (a : Reader) → front_of (stream_of a) ≡ class_of (lexeme a.token)
front a = front_class_lem (lexeme a.token) a.place _

-- the token ahead was taken
pub took : (c : ℕ) (a b : Reader) → IsAhead c a → Lends a b → b.lexer.source ≡ a.lexer.source → Keeps a b → a.place < b.place → Ok (stream_of b) ≡ tail_of (stream_of a) → Takes (token_made c) (taken c (stream_of a)) a (Ok (0, a.place)) b
took c a b is l same_text w on s =
    let k = taken_here (lexeme a.token) a.place _ c is.0 is.1 in
    let read = k.taken_as ∙ ap (passed (at (lexeme a.token) a.place, k.class)) (sym s) in
    let same = w.1 in
    record {
      reads =
          record {
            lends = l;
            goes = record { source = same_text; onward = omega arith; paced = omega arith };
            reads = ap (λ st. Ok (0, a.place, st)) (taken_state a b w.0 w.1) ∙ sym (ap (written (token_made c) (state_of a)) read);
          };
      keeps = w;
      steps = (w.1, on);
    }

-- ---- where no more constructs may be open

closed_not : (t : Lexeme) (p : ℕ) (l : Lexing) (c : ℕ) → (is_end t ≡ false → class_of t ≡ c → ⊥) → opened 0 c (stream_by t p l) ≡ Err (misfit_of (stream_by t p l))
closed_not t p l c n = go (is_end t) refl
  where
    go : (b : Bool) → is_end t ≡ b → opened 0 c (cond b (record { tokens = []; verdict = Ok p }) (record { tokens = at t p ∷ l.tokens; verdict = l.verdict })) ≡ Err (misfit_of (cond b (record { tokens = []; verdict = Ok p }) (record { tokens = at t p ∷ l.tokens; verdict = l.verdict })))
    go true e = refl
    go false e =
        let differs = ne_eqb (class_of t) c (n e) in
        ap (λ b. cond b (Err (at TooDeep p)) (taken c (record { tokens = at t p ∷ l.tokens; verdict = l.verdict }))) differs
        ∙ refused_by c (at t p) l.tokens l.verdict (is_class c (at t p)) refl differs

-- a token that would open a construct is not there, and none may be opened
pub shut_misfit : (d c : ℕ) (a : Reader) {f : Refusal} → d ≤ 0 → f ≡ misfit_of (stream_of a) → (IsAhead c a → ⊥) → Takes (token_made c) (opened d c (stream_of a)) a (Err f) a
shut_misfit zero c a h m n =
    let read = closed_not (lexeme a.token) a.place _ c (λ i e. n (i, e)) ∙ ap Err (sym m) in
    record { reads = record { lends = refl; goes = tt; reads = sym (ap (written (token_made c) (state_of a)) read) }; keeps = (refl, refl); steps = tt }
shut_misfit (suc d) c a h m n = absurd (omega arith)

-- ---- two tokens ahead

headed : ℕ → List (Placed Lexeme) → Bool
headed e [] = false
headed e (u ∷ us) = is_class e u

two_by : (c e : ℕ) (t : Placed Lexeme) (ts : List (Placed Lexeme)) (v : Verdict) → is_class c t ≡ true → two c e (t ∷ ts) ≡ headed e ts
unfolding headed
two_by c e t [] v h = refl
two_by c e t (u ∷ ts) v h = ap (λ b. b && is_class e u) h

tail_tokens : (ts : List (Placed Lexeme)) (v : Verdict) (s : Stream) → Ok s ≡ from ts v → ts ≡ s.tokens
tail_tokens ts v s q = (passed_on {X = ℕ} 0 ts v (0, s) (ap (passed {X = ℕ} 0) (sym q))).1

tail_none : (ts : List (Placed Lexeme)) (v : Verdict) (f : Refusal) → Err f ≡ from ts v → ts ≡ []
tail_none [] v f q = refl
tail_none (t ∷ ts) v f q = absurd (never_ok _ _ q)

-- the token ahead is of the first class, and then comes u
two_ok : (c e : ℕ) (t : Lexeme) (p : ℕ) (l : Lexing) (u : Lexeme) (q : ℕ) (m : Lexing) → is_end t ≡ false → class_of t ≡ c → Ok (stream_by u q m) ≡ tail_of (stream_by t p l) → is_end u ≡ false → two c e (stream_by t p l).tokens ≡ eqb (class_of u) e
unfolding headed
two_ok c e t p l u q m h k next some =
    let s = streamed t p l h in
    let tail = next ∙ ap tail_of s in
    ap (λ (x : Stream). two c e x.tokens) s ∙ two_by c e (at t p) l.tokens l.verdict (eq-eqb (class_of t) c k) ∙ ap (headed e) (tail_tokens l.tokens l.verdict _ tail)
    ∙ ap (λ (x : Stream). headed e x.tokens) (streamed u q m some)

two_end : (c e : ℕ) (t : Lexeme) (p : ℕ) (l : Lexing) (u : Lexeme) (q : ℕ) (m : Lexing) → is_end t ≡ false → class_of t ≡ c → Ok (stream_by u q m) ≡ tail_of (stream_by t p l) → is_end u ≡ true → two c e (stream_by t p l).tokens ≡ false
unfolding headed
two_end c e t p l u q m h k next none =
    let s = streamed t p l h in
    let tail = next ∙ ap tail_of s in
    ap (λ (x : Stream). two c e x.tokens) s ∙ two_by c e (at t p) l.tokens l.verdict (eq-eqb (class_of t) c k) ∙ ap (headed e) (tail_tokens l.tokens l.verdict _ tail)
    ∙ ap (λ b. headed e (cond {A = Stream} b (record { tokens = []; verdict = Ok q }) (record { tokens = at u q ∷ m.tokens; verdict = m.verdict })).tokens) none

two_err : (c e : ℕ) (t : Lexeme) (p : ℕ) (l : Lexing) (f : Refusal) → is_end t ≡ false → class_of t ≡ c → Err f ≡ tail_of (stream_by t p l) → two c e (stream_by t p l).tokens ≡ false
unfolding headed
two_err c e t p l f h k next =
    let s = streamed t p l h in
    let tail = next ∙ ap tail_of s in
    ap (λ (x : Stream). two c e x.tokens) s ∙ two_by c e (at t p) l.tokens l.verdict (eq-eqb (class_of t) c k) ∙ ap (headed e) (tail_none l.tokens l.verdict _ tail)

-- the token ahead is none or of another class
pub two_not : (c e : ℕ) (t : Lexeme) (p : ℕ) (l : Lexing) → (is_end t ≡ false → class_of t ≡ c → ⊥) → two c e (stream_by t p l).tokens ≡ false
two_not c e t p l n = go (is_end t) refl
  where
    by : (ts : List (Placed Lexeme)) → is_class c (at t p) ≡ false → two c e (at t p ∷ ts) ≡ false
    by [] h = refl
    by (u ∷ us) h = ap (λ b. b && is_class e u) h

    go : (b : Bool) → is_end t ≡ b → two c e (cond {A = Stream} b (record { tokens = []; verdict = Ok p }) (record { tokens = at t p ∷ l.tokens; verdict = l.verdict })).tokens ≡ false
    go true k = refl
    go false k = by l.tokens (ne_eqb (class_of t) c (n k))

-- the next token, as the code has it, decides
pub two_told : (text : List ℕ) (i j p : ℕ) (t : Lexeme) (c e : ℕ) (n : Result (Placed (Token (Bor (List ℕ)))) (Placed LexFault)) (r : Bool) → i ≤ length text → is_end t ≡ false → class_of t ≡ c → Stepped text i (answered n) j → MatchResult n (λ x. r ≡ (not (is_end (lexeme x.item)) && eqb (class_of (lexeme x.item)) e)) (λ f. r ≡ false) → r ≡ two c e (stream_by t p (lexed_from (suc (length text)) text i)).tokens
two_told text i j p t c e (Ok n) r within some class stepped told = go (is_end (lexeme n.item)) refl
  where
    next : Ok (stream_by (lexeme n.item) n.place (lexed_from (suc (length text)) text j)) ≡ tail_of (stream_by t p (lexed_from (suc (length text)) text i))
    next = advance_ok text i j p t (at (lexeme n.item) n.place) within some stepped

    go : (b : Bool) → is_end (lexeme n.item) ≡ b → r ≡ two c e (stream_by t p (lexed_from (suc (length text)) text i)).tokens
    go true end = told ∙ ap (λ b. not b && eqb (class_of (lexeme n.item)) e) end ∙ sym (two_end c e t p _ (lexeme n.item) n.place _ some class next end)
    go false more = told ∙ ap (λ b. not b && eqb (class_of (lexeme n.item)) e) more ∙ sym (two_ok c e t p _ (lexeme n.item) n.place _ some class next more)
two_told text i j p t c e (Err f) r within some class stepped told = told ∙ sym (two_err c e t p _ _ some class (advance_err text i j p t f within some stepped))
