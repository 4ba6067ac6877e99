-- The outcomes of reading any number of items.
use Rattle.std.proofs.Common.{◌≡◌, ℕ, zero, suc, ◌<◌, ◌≤◌, Bool, true, false, cond, List, [], ◌∷◌, ◌++◌, length, Ok, Err, sym, refl, ap, ◌∙◌, subst, arith}
use Rattle.std.proofs.lemmas.List.{length-append}
use Rattle.std.proofs.lemmas.Bool.{both_ways, cond-true, cond-false}
use Rattle.text.specs.Tokens.{Verdict}
use Rattle.grammar.specs.Firsts.{apart}
use Rattle.grammar.specs.Grammars.{Yield, each_yield}
use Rattle.grammar.specs.Parsers.{Read, front_class}
use Rattle.grammar.specs.Streams.{Stream}
use Rattle.grammar.specs.TokenClasses.{among}
use Rattle.grammar.specs.Viable.{Tokens, SameFront}
use Rattle.grammar.proofs.Classes.{among_apart}
use Rattle.grammar.proofs.Outcomes.{whole, same_class, same_from, Reads, Outcome, and_then, outcome_then}
use Rattle.grammar.proofs.Quiets.{Quiet, Unmet, unmet_quiet}
use Rattle.grammar.proofs.Soundness.{Took, took_none}
use Rattle.grammar.proofs.Unrolling.{starts, repeat, again_or_end}

-- the front is the same, so an item begins or does not
pub starts_same : (cs : List ℕ) (s : Stream) (u rest ts : Tokens) (e : ℕ) (b : Bool) → s.tokens ≡ u ++ rest → SameFront rest s.verdict ts → starts cs s ≡ b → starts cs (whole (u ++ ts) e) ≡ b
starts_same cs s u rest ts e b are h k =
    ap (among cs) (sym (same_class s.tokens s.verdict (u ++ ts) e (same_from s u rest ts s.verdict are refl h))) ∙ k

pub off_quiet : (cs : List ℕ) (ts : Tokens) (v : Verdict) → among cs (front_class ts v) ≡ false → Quiet cs ts
off_quiet cs [] v h = tt
off_quiet cs (t ∷ ts) v h = h

abbrev cons : {X : Type 0} → X → List X → List X
cons x xs = x ∷ xs

module _ {X : Type 0} (y : Yield X) (item : Stream → Read X) (cs : List ℕ) (null : Bool)
    (ends : apart cs (0 ∷ 99 ∷ []) ≡ true)
    (long : (x : X) → 0 < length (y x))
    (items : (s : Stream) → Outcome y item (Quiet cs) (Unmet null cs) s (item s)) where
  quiet_off : (ts : Tokens) (v : Verdict) → Quiet cs ts → among cs (front_class ts v) ≡ false
  quiet_off [] (Ok p) h = among_apart cs (0 ∷ 99 ∷ []) 0 ends refl
  quiet_off [] (Err f) h = among_apart cs (0 ∷ 99 ∷ []) 99 ends refl
  quiet_off (t ∷ ts) v h = h

  took_shorter : (x : X) (s s₁ : Stream) → Took (y x) s s₁ → length s₁.tokens < length s.tokens
  took_shorter x s s₁ t =
      let l = long x in
      let m = ap length t.tokens ∙ length-append (y x) s₁.tokens in
      omega arith

  sound_item : (s : Stream) (p : X × Stream) → item s ≡ Ok p → Took (y p.0) s p.1
  sound_item s p e = let o : Reads y item (Quiet cs) s p = subst (Outcome y item (Quiet cs) (Unmet null cs) s) e (items s) in o.took

  unrolled : (s : Stream) → repeat cs item s ≡ cond (starts cs s) (and_then cons (item s) (repeat cs item)) (Ok ([], s))
  unrolled s = again_or_end y item cs ends long sound_item s

  abbrev Repeated : Stream → Read (List X) → Type 0
  Repeated s r = Outcome (each_yield y) (repeat cs item) (Quiet cs) (Unmet true cs) s r

  stop : (s : Stream) → starts cs s ≡ false → Reads (each_yield y) (repeat cs item) (Quiet cs) s ([], s)
  stop s n = record {
    took = took_none s;
    live = λ a. a;
    again = λ ts e h. unrolled (whole ts e) ∙ cond-false _ _ _ (starts_same cs s [] s.tokens ts e false refl h n);
    idle = λ q. off_quiet cs s.tokens s.verdict n;
  }

  step : (s : Stream) → starts cs s ≡ true → ((s₁ : Stream) → length s₁.tokens < length s.tokens → Repeated s₁ (repeat cs item s₁)) → Repeated s (and_then cons (item s) (repeat cs item))
  step s on next =
      let never : Quiet cs s.tokens → ⊥ = λ q. both_ways (starts cs s) (quiet_off s.tokens s.verdict q) on in
      outcome_then y (each_yield y) (each_yield y) cons (λ x xs. refl) item (repeat cs item) (repeat cs item)
      (Quiet cs) (Unmet null cs) (Quiet cs) (Unmet true cs) (Quiet cs) (Unmet true cs) [] s
      (λ q r. q) (λ u. absurd (never (unmet_quiet null cs s.tokens u))) (λ q u. u)
      (λ u rest ts e are h n. unrolled (whole (u ++ ts) e) ∙ cond-true _ _ _ (starts_same cs s u rest ts e true are h on))
      (item s) (items s) (λ x s₁ t. next s₁ (took_shorter x s s₁ t))

  none_left : (s : Stream) → length s.tokens ≤ 0 → starts cs s ≡ false
  none_left s h = quiet_off s.tokens s.verdict (empty_quiet s.tokens h)
    where
      empty_quiet : (ts : Tokens) → length ts ≤ 0 → Quiet cs ts
      empty_quiet [] n = tt
      empty_quiet (t ∷ ts) n = absurd (omega arith)

  repeated : (n : ℕ) (s : Stream) → length s.tokens ≤ n → Repeated s (repeat cs item s)
  repeated zero s h = subst (Repeated s) (sym (unrolled s ∙ cond-false _ _ _ (none_left s h))) (stop s (none_left s h))
  repeated (suc n) s h = subst (Repeated s) (sym (unrolled s)) (go (starts cs s) refl (λ s₁ l. repeated n s₁ (omega arith)))
    where
      go : (b : Bool) → starts cs s ≡ b → ((s₁ : Stream) → length s₁.tokens < length s.tokens → Repeated s₁ (repeat cs item s₁)) → Repeated s (cond b (and_then cons (item s) (repeat cs item)) (Ok ([], s)))
      go true k next = step s k next
      go false k next = stop s k

  pub outcome_repeat : (s : Stream) → Outcome (each_yield y) (repeat cs item) (Quiet cs) (Unmet true cs) s (repeat cs item s)
  outcome_repeat s = repeated (length s.tokens) s (omega arith)
