-- Any number of items is one and then any number, or none.
use Rattle.std.proofs.Common.{◌≡◌, ℕ, zero, suc, ◌<◌, ◌≤◌, Bool, true, false, cond, List, [], ◌∷◌, length, Ok, Err, sym, refl, ap, ◌∙◌, inl, inr, arith}
use Rattle.std.proofs.lemmas.List.{length-append}
use Rattle.std.proofs.lemmas.Bool.{both_ways, cond-false}
use Rattle.text.specs.Tokens.{Verdict}
use Rattle.grammar.specs.Firsts.{apart, firsts, nullable}
use Rattle.grammar.specs.Grammars.{Gram, many, Tree, Yield, yield}
use Rattle.grammar.specs.Parsers.{Read, bind, loop, parse, front_class, begins}
use Rattle.grammar.specs.Streams.{Stream}
use Rattle.grammar.specs.TokenClasses.{among}
use Rattle.grammar.specs.Viable.{Tokens}
use Rattle.grammar.proofs.Classes.{among_apart}
use Rattle.grammar.proofs.Heads.{Headed, headed}
use Rattle.grammar.proofs.Soundness.{Took, sound}

abbrev pub starts : List ℕ → Stream → Bool
starts cs s = among cs (front_class s.tokens s.verdict)

-- items for as long as one may begin
abbrev pub repeat : {X : Type 0} → List ℕ → (Stream → Read X) → Stream → Read (List X)
repeat cs item s = loop (starts cs) item (length s.tokens) s

-- an item, and then what is read after it
abbrev pub then_more : {X : Type 0} → Read X → (Stream → Read (List X)) → Read (List X)
then_more r more = bind r (λ x s₁. bind (more s₁) (λ xs s₂. Ok (x ∷ xs, s₂)))

module _ {X : Type 0} (y : Yield X) (item : Stream → Read X) (cs : List ℕ)
    (ends : apart cs (0 ∷ 99 ∷ []) ≡ true)
    (long : (x : X) → 0 < length (y x))
    (sounds : (s : Stream) (p : X × Stream) → item s ≡ Ok p → Took (y p.0) s p.1) where
  -- none begins at the end
  ended : (ts : Tokens) (v : Verdict) → length ts ≤ 0 → among cs (front_class ts v) ≡ false
  ended [] (Ok p) n = among_apart cs (0 ∷ 99 ∷ []) 0 ends refl
  ended [] (Err f) n = among_apart cs (0 ∷ 99 ∷ []) 99 ends refl
  ended (t ∷ ts) v n = absurd (omega arith)

  shorter : (s : Stream) (p : X × Stream) → item s ≡ Ok p → length p.1.tokens < length s.tokens
  shorter s p e =
      let l = long p.0 in
      let m = ap length (sounds s p e).tokens ∙ length-append (y p.0) p.1.tokens in
      omega arith

  -- with what reads the rest alike, all is read alike
  same_then : (s : Stream) (r : Read X) → item s ≡ r → (l m : Stream → Read (List X)) → ((s₁ : Stream) → length s₁.tokens < length s.tokens → l s₁ ≡ m s₁) → then_more r l ≡ then_more r m
  same_then s (Err f) e l m h = refl
  same_then s (Ok p) e l m h = ap (λ w. bind w (λ xs s₂. Ok (p.0 ∷ xs, s₂))) (h p.1 (shorter s p e))

  -- no more steps are made than there are tokens
  fuel : (k j : ℕ) (s : Stream) → length s.tokens ≤ k → length s.tokens ≤ j → loop (starts cs) item k s ≡ loop (starts cs) item j s
  unfolding loop
  fuel zero zero s a b = refl
  fuel zero (suc j) s a b = sym (cond-false (starts cs s) _ _ (ended s.tokens s.verdict a))
  fuel (suc k) zero s a b = cond-false (starts cs s) _ _ (ended s.tokens s.verdict b)
  fuel (suc k) (suc j) s a b =
      ap (λ w. cond (starts cs s) w (Ok ([], s)))
      (same_then s (item s) refl (loop (starts cs) item k) (loop (starts cs) item j) (λ s₁ n. fuel k j s₁ (omega arith) (omega arith)))

  pub again_or_end : (s : Stream) → repeat cs item s ≡ cond (starts cs s) (then_more (item s) (repeat cs item)) (Ok ([], s))
  unfolding loop
  again_or_end s =
      fuel (length s.tokens) (suc (length s.tokens)) s (omega arith) (omega arith)
      ∙ ap (λ w. cond (starts cs s) w (Ok ([], s)))
      (same_then s (item s) refl (loop (starts cs) item (length s.tokens)) (repeat cs item) (λ s₁ n. fuel (length s.tokens) (length s₁.tokens) s₁ (omega arith) (omega arith)))

pub long_of : (null : Bool) (cs : List ℕ) (ts : Tokens) → null ≡ false → Headed null cs ts → 0 < length ts
long_of null cs ts h (inl (e, n)) = absurd (both_ways null h n)
long_of null cs ts h (inr b) = let e = ap length b.are in omega arith

-- trees of any number of items: none, and one more
unfoldable pub none : {N : Type 0} (In : N → Type 0) (g : Gram N) → Stream → Read (Tree In (many g))
unfolding Tree
none In g s = Ok ([], s)

unfoldable pub one_more : {N : Type 0} (In : N → Type 0) (g : Gram N) → Read (Tree In g) → (Stream → Read (Tree In (many g))) → Read (Tree In (many g))
unfolding Tree
one_more In g r more = then_more r more

-- of a grammar that spells something
module _ {N : Type 0} (In : N → Type 0) (yIn : (n : N) → Yield (In n)) (d : ℕ) (inner : (n : N) → Stream → Read (In n)) (sounds : (n : N) (s : Stream) (p : In n × Stream) → inner n s ≡ Ok p → Took (yIn n p.0) s p.1) where
  pub many_again : (g : Gram N) → nullable g ≡ false → apart (firsts g) (0 ∷ 99 ∷ []) ≡ true → (s : Stream) → parse d inner (many g) s ≡ cond (begins g s) (one_more In g (parse d inner g s) (parse d inner (many g))) (none In g s)
  unfolding Tree parse none one_more
  many_again g n e s = again_or_end (yield yIn g) (parse d inner g) (firsts g) e (λ x. long_of (nullable g) (firsts g) (yield yIn g x) n (headed yIn g x)) (sound yIn d inner sounds g) s
