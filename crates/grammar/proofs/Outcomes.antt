-- What a reader's answer says of other tokens that begin alike, and how it joins with the next one's.
use Rattle.std.proofs.Common.{◌≡◌, ℕ, ◌⊎◌, List, [], ◌∷◌, ◌++◌, Ok, Err, sym, refl, ap, ◌∙◌, subst, inl, inr, arith}
use Rattle.std.proofs.lemmas.List.{append_assoc, append-nil}
use Rattle.text.specs.Tokens.{Verdict}
use Rattle.grammar.specs.declared.faults.GrammarFault.{GrammarFault}
use Rattle.grammar.specs.declared.faults.GrammarFault.TheVariants.{Lexical, Misfit, TooDeep}
use Rattle.grammar.specs.Grammars.{Yield}
use Rattle.grammar.specs.Parsers.{Read, bind, front_class}
use Rattle.grammar.specs.Streams.{Stream, Refusal, place_in}
use Rattle.grammar.specs.Viable.{Tokens, Alive, SameFront}
use Rattle.grammar.proofs.Soundness.{Took, took_both}

-- tokens and then the end
abbrev pub whole : Tokens → ℕ → Stream
whole ts e = record { tokens = ts; verdict = Ok e }

pub same_class : (a : Tokens) (v : Verdict) (b : Tokens) (e : ℕ) → SameFront a v b → front_class a v ≡ front_class b (Ok e)
same_class (t ∷ ts) v (t' ∷ ts') e h = h
same_class (t ∷ ts) v [] e h = absurd h
same_class [] (Ok p) (t' ∷ ts') e h = absurd h
same_class [] (Ok p) [] e h = refl
same_class [] (Err f) b e h = absurd h

-- what stands before two fronts that are the same
pub same_after : (u a : Tokens) (v : Verdict) (b : Tokens) → SameFront a v b → SameFront (u ++ a) v (u ++ b)
same_after [] a v b h = h
same_after (t ∷ u) a v b h = refl

pub same_from : (s : Stream) (u a b : Tokens) (v : Verdict) → s.tokens ≡ u ++ a → v ≡ s.verdict → SameFront a v b → SameFront s.tokens s.verdict (u ++ b)
same_from s u a b v e w h =
    subst (λ z. SameFront s.tokens z (u ++ b)) w (subst (λ l. SameFront l v (u ++ b)) (sym e) (same_after u a v b h))

pub nothing_both : {A : Type 0} (a b : List A) → a ++ b ≡ [] → (a ≡ []) × (b ≡ [])
nothing_both [] b e = (refl, e)
nothing_both (x ∷ a) b e = let z : ◌≡◌ {A = ℕ} 0 1 = cc in absurd (omega arith)

-- An accepted tree: its tokens are read so before whatever has the same front.
-- I is known of the tokens where none is read.
pub record Reads {X : Type 0} (y : Yield X) (r : Stream → Read X) (I : Tokens → Type 0) (s : Stream) (p : X × Stream) : Type 0 where
  pub took : Took (y p.0) s p.1
  pub live : Alive s.tokens s.verdict → Alive p.1.tokens p.1.verdict
  pub again : (ts : Tokens) (e : ℕ) → SameFront p.1.tokens p.1.verdict ts → r (whole (y p.0 ++ ts) e) ≡ Ok (p.0, whole ts e)
  pub idle : y p.0 ≡ [] → I s.tokens

-- A token that does not fit: the tokens before it begin a tree, and are refused before whatever has the same front.
-- U is known of the tokens where it is the first.
pub record Stuck {X : Type 0} (y : Yield X) (r : Stream → Read X) (U : Tokens → Type 0) (s : Stream) (p : ℕ) : Type 0 where
  pub before : Tokens
  pub rest : Tokens
  pub tokens : s.tokens ≡ before ++ rest
  pub place : p ≡ place_in rest s.verdict
  pub live : Alive s.tokens s.verdict → Alive rest s.verdict
  pub on : (before ≡ []) ⊎ ((w : Tokens) × (x : X) × (y x ≡ before ++ w))
  pub again : (ts : Tokens) (e : ℕ) → SameFront rest s.verdict ts → (f : Refusal) × (r (whole (before ++ ts) e) ≡ Err f)
  pub fresh : before ≡ [] → U s.tokens

abbrev pub OnMisfit : GrammarFault → Type 0 → Type 0
OnMisfit (Lexical f) S = Unit {0}
OnMisfit Misfit S = S
OnMisfit TooDeep S = Unit {0}

pub on_misfit : {S T : Type 0} (f : GrammarFault) → (S → T) → OnMisfit f S → OnMisfit f T
on_misfit (Lexical l) k h = tt
on_misfit Misfit k h = k h
on_misfit TooDeep k h = tt

abbrev pub Outcome : {X : Type 0} (y : Yield X) (r : Stream → Read X) (I U : Tokens → Type 0) (s : Stream) → Read X → Type 0
Outcome y r I U s (Ok p) = Reads y r I s p
Outcome y r I U s (Err f) = OnMisfit f.item (Stuck y r U s f.place)

-- one reader and then another
abbrev pub and_then : {X Z W : Type 0} → (X → Z → W) → Read X → (Stream → Read Z) → Read W
and_then f a k = bind a (λ x s₁. bind (k s₁) (λ z s₂. Ok (f x z, s₂)))

module _ {X Z W : Type 0} (yX : Yield X) (yZ : Yield Z) (yW : Yield W) (f : X → Z → W) (splits : (x : X) (z : Z) → yW (f x z) ≡ yX x ++ yZ z)
    (rX : Stream → Read X) (rZ : Stream → Read Z) (rW : Stream → Read W)
    (IX UX IZ UZ IW UW : Tokens → Type 0)
    (spare : Z) (s : Stream)
    (idle : IX s.tokens → IZ s.tokens → IW s.tokens)
    (unmet-left : UX s.tokens → UW s.tokens)
    (unmet-right : IX s.tokens → UZ s.tokens → UW s.tokens)
    (agrees : (u rest ts : Tokens) (e : ℕ) → s.tokens ≡ u ++ rest → SameFront rest s.verdict ts → (u ≡ [] → IW s.tokens ⊎ UW s.tokens) → rW (whole (u ++ ts) e) ≡ and_then f (rX (whole (u ++ ts) e)) rZ) where
  -- where the first is read, and how the second goes on
  second_goes : (x : X) (s₁ : Stream) (o : Reads yX rX IX s (x, s₁)) (u rest ts : Tokens) (e : ℕ) (b : Read Z) → s₁.tokens ≡ u ++ rest → SameFront rest s.verdict ts → (yX x ++ u ≡ [] → IW s.tokens ⊎ UW s.tokens) → rZ (whole (u ++ ts) e) ≡ b → rW (whole ((yX x ++ u) ++ ts) e) ≡ bind b (λ z s₂. Ok (f x z, s₂))
  second_goes x s₁ o u rest ts e b are h i k =
      let all : s.tokens ≡ (yX x ++ u) ++ rest = o.took.tokens ∙ ap (λ l. yX x ++ l) are ∙ sym (append_assoc (yX x) u rest) in
      let first : rX (whole ((yX x ++ u) ++ ts) e) ≡ Ok (x, whole (u ++ ts) e) =
      ap (λ l. rX (whole l e)) (append_assoc (yX x) u ts) ∙ o.again (u ++ ts) e (same_from s₁ u rest ts s.verdict are (sym o.took.verdict) h) in
      agrees (yX x ++ u) rest ts e all h i ∙ ap (λ a. and_then f a rZ) first ∙ ap (λ a. bind a (λ z s₂. Ok (f x z, s₂))) k

  both_read : (x : X) (s₁ : Stream) (o : Reads yX rX IX s (x, s₁)) (z : Z) (s₂ : Stream) (k : Reads yZ rZ IZ s₁ (z, s₂)) → Reads yW rW IW s (f x z, s₂)
  both_read x s₁ o z s₂ k =
      let quiet : yX x ++ yZ z ≡ [] → IW s.tokens =
      λ n.
      let m = nothing_both (yX x) (yZ z) n in
      let same : s₁.tokens ≡ s.tokens = sym (o.took.tokens ∙ ap (λ l. l ++ s₁.tokens) m.0) in
      idle (o.idle m.0) (subst IZ same (k.idle m.1))
      in
      record {
        took = subst (λ l. Took l s s₂) (sym (splits x z)) (took_both (yX x) (yZ z) s s₁ s₂ o.took k.took);
        live = λ a. k.live (o.live a);
        again = λ ts e h.
            ap (λ l. rW (whole (l ++ ts) e)) (splits x z)
            ∙ second_goes x s₁ o (yZ z) s₂.tokens ts e (Ok (z, whole ts e)) k.took.tokens
            (subst (λ v. SameFront s₂.tokens v ts) (k.took.verdict ∙ o.took.verdict) h) (λ n. inl (quiet n)) (k.again ts e h);
        idle = λ n. quiet (sym (splits x z) ∙ n);
      }

  stuck_left : (p : ℕ) → Stuck yX rX UX s p → Stuck yW rW UW s p
  stuck_left p o = record {
    before = o.before;
    rest = o.rest;
    tokens = o.tokens;
    place = o.place;
    live = o.live;
    on = go o.on;
    again = λ ts e h.
        let (l, q) = o.again ts e h in
        (l, agrees o.before o.rest ts e o.tokens h (λ n. inr (unmet-left (o.fresh n))) ∙ ap (λ a. and_then f a rZ) q);
    fresh = λ n. unmet-left (o.fresh n);
  }
    where
      go : (o.before ≡ []) ⊎ ((w : Tokens) × (x : X) × (yX x ≡ o.before ++ w)) → (o.before ≡ []) ⊎ ((w : Tokens) × (x : W) × (yW x ≡ o.before ++ w))
      go (inl n) = inl n
      go (inr (w, x, e)) = inr (w ++ yZ spare, f x spare, splits x spare ∙ ap (λ l. l ++ yZ spare) e ∙ append_assoc o.before w (yZ spare))

  stuck_right : (x : X) (s₁ : Stream) (o : Reads yX rX IX s (x, s₁)) (p : ℕ) → Stuck yZ rZ UZ s₁ p → Stuck yW rW UW s p
  stuck_right x s₁ o p k =
      let unmet : yX x ++ k.before ≡ [] → UW s.tokens =
      λ n.
      let m = nothing_both (yX x) k.before n in
      let same : s₁.tokens ≡ s.tokens = sym (o.took.tokens ∙ ap (λ l. l ++ s₁.tokens) m.0) in
      unmet-right (o.idle m.0) (subst UZ same (k.fresh m.1))
      in
      record {
        before = yX x ++ k.before;
        rest = k.rest;
        tokens = o.took.tokens ∙ ap (λ l. yX x ++ l) k.tokens ∙ sym (append_assoc (yX x) k.before k.rest);
        place = k.place ∙ ap (place_in k.rest) o.took.verdict;
        live = λ a. subst (Alive k.rest) o.took.verdict (k.live (o.live a));
        on = inr (go k.on);
        again = λ ts e h.
            let (l, q) = k.again ts e (subst (λ v. SameFront k.rest v ts) (sym o.took.verdict) h) in
            (l, second_goes x s₁ o k.before k.rest ts e (Err l) k.tokens h (λ n. inr (unmet n)) q);
        fresh = unmet;
      }
    where
      go : (k.before ≡ []) ⊎ ((w : Tokens) × (z : Z) × (yZ z ≡ k.before ++ w)) → (w : Tokens) × (a : W) × (yW a ≡ (yX x ++ k.before) ++ w)
      go (inl n) = (yZ spare, f x spare, splits x spare ∙ ap (λ l. l ++ yZ spare) (sym (ap (λ l. yX x ++ l) n ∙ append-nil (yX x))))
      go (inr (w, z, e)) = (w, f x z, splits x z ∙ ap (λ l. yX x ++ l) e ∙ sym (append_assoc (yX x) k.before w))

  pub outcome_then : (a : Read X) → Outcome yX rX IX UX s a → ((x : X) (s₁ : Stream) → Took (yX x) s s₁ → Outcome yZ rZ IZ UZ s₁ (rZ s₁)) → Outcome yW rW IW UW s (and_then f a rZ)
  outcome_then (Err l) o next = on_misfit l.item (stuck_left l.place) o
  outcome_then (Ok p) o next = go (rZ p.1) (next p.0 p.1 o.took)
    where
      go : (b : Read Z) → Outcome yZ rZ IZ UZ p.1 b → Outcome yW rW IW UW s (bind b (λ z s₂. Ok (f p.0 z, s₂)))
      go (Ok q) k = both_read p.0 p.1 o q.0 q.1 k
      go (Err l) k = on_misfit l.item (stuck_right p.0 p.1 o l.place) k
