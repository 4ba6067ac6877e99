-- What a reader accepts is a tree, and its tokens are those that the tree spells.
use Rattle.std.proofs.Common.{◌≡◌, ℕ, zero, suc, Bool, true, false, List, [], ◌∷◌, ◌++◌, Ok, Err, sym, refl, ap, ◌∙◌, subst, ⊎_elim}
use Rattle.std.proofs.lemmas.List.{append_assoc}
use Rattle.text.specs.declared.places.Placed.{Placed}
use Rattle.text.specs.Tokens.{Lexeme, Verdict}
use Rattle.grammar.specs.Grammars.{Gram, tok, joint, nil, seq, alt, many, ahead, nest, Of, OneOf, Tree, Yield, yield, each_yield, either_yield, ahead_yield, Inner, inner_yield}
use Rattle.grammar.specs.Parsers.{Read, passed, take_by, take, second_by, second, take_joint_by, take_joint, loop, two, open_by, opening, begins, parse, parse_in}
use Rattle.grammar.specs.Streams.{Stream, from}
use Rattle.grammar.specs.TokenClasses.{class_of, is_class, among}
use Rattle.grammar.proofs.Inversions.{same_ok, never_ok, bound, chosen, passed_on}

-- from s to s' these tokens are read
pub record Took (ts : List (Placed Lexeme)) (s s' : Stream) : Type 0 where
  pub tokens : s.tokens ≡ ts ++ s'.tokens
  pub verdict : s'.verdict ≡ s.verdict

pub took_none : (s : Stream) → Took [] s s
took_none s = record { tokens = refl; verdict = refl }

pub took_both : (a b : List (Placed Lexeme)) (s s₁ s₂ : Stream) → Took a s s₁ → Took b s₁ s₂ → Took (a ++ b) s s₂
took_both a b s s₁ s₂ h k =
    record { tokens = h.tokens ∙ ap (λ r. a ++ r) k.tokens ∙ sym (append_assoc a b s₂.tokens); verdict = k.verdict ∙ h.verdict }

-- a token
took_by_lem : (c : ℕ) (t : Placed Lexeme) (ts : List (Placed Lexeme)) (v : Verdict) (b : Bool) (e : is_class c t ≡ b) (p : Of c × Stream) → take_by c t ts v b e ≡ Ok p → Took (p.0.0 ∷ []) (record { tokens = t ∷ ts; verdict = v }) p.1
took_by_lem c t ts v true e p h =
    let q = passed_on (t, e) ts v p h in
    record { tokens = ap (λ x. x.0 ∷ ts) q.0 ∙ ap (λ r. p.0.0 ∷ r) q.1; verdict = q.2 }
took_by_lem c t ts v false e p h = absurd (never_ok p _ h)

took_take : (c : ℕ) (ts : List (Placed Lexeme)) (v : Verdict) (p : Of c × Stream) → take c ts v ≡ Ok p → Took (p.0.0 ∷ []) (record { tokens = ts; verdict = v }) p.1
took_take c [] v p h = absurd (never_ok p _ h)
took_take c (t ∷ ts) v p h = took_by_lem c t ts v (is_class c t) refl p h

-- two tokens as one
took_second : (c : ℕ) (cs : List ℕ) (x : Of c) (ts : List (Placed Lexeme)) (v : Verdict) (p : (Of c × OneOf cs) × Stream) → second c cs x ts v ≡ Ok p → Took (p.0.0.0 ∷ (p.0.1.0 ∷ [])) (record { tokens = x.0 ∷ ts; verdict = v }) p.1
took_second c cs x [] (Ok m) p h = absurd (never_ok p _ h)
took_second c cs x [] (Err f) p h = absurd (never_ok p _ h)
took_second c cs x (t ∷ ts) v p h = go (among cs (class_of t.item)) refl h
  where
    go : (b : Bool) (e : among cs (class_of t.item) ≡ b) → second_by c cs x t ts v b e ≡ Ok p → Took (p.0.0.0 ∷ (p.0.1.0 ∷ [])) (record { tokens = x.0 ∷ (t ∷ ts); verdict = v }) p.1
    go true e h =
        let q = passed_on (x, (t, e)) ts v p h in
        record { tokens = ap (λ y. y.0.0 ∷ (y.1.0 ∷ ts)) q.0 ∙ ap (λ r. p.0.0.0 ∷ (p.0.1.0 ∷ r)) q.1; verdict = q.2 }
    go false e h = absurd (never_ok p _ h)

took_joint : (c : ℕ) (cs : List ℕ) (ts : List (Placed Lexeme)) (v : Verdict) (p : (Of c × OneOf cs) × Stream) → take_joint c cs ts v ≡ Ok p → Took (p.0.0.0 ∷ (p.0.1.0 ∷ [])) (record { tokens = ts; verdict = v }) p.1
took_joint c cs [] v p h = absurd (never_ok p _ h)
took_joint c cs (t ∷ ts) v p h = go (is_class c t) refl h
  where
    go : (b : Bool) (e : is_class c t ≡ b) → take_joint_by c cs t ts v b e ≡ Ok p → Took (p.0.0.0 ∷ (p.0.1.0 ∷ [])) (record { tokens = t ∷ ts; verdict = v }) p.1
    go true e h = took_second c cs (t, e) ts v p h
    go false e h = absurd (never_ok p _ h)

abbrev Sound : {X : Type 0} → Yield X → (Stream → Read X) → Type 0
Sound y r = (s : Stream) (p : _ × Stream) → r s ≡ Ok p → Took (y p.0) s p.1

-- any number of items
took_loop : {X : Type 0} (y : Yield X) (item : Stream → Read X) (more : Stream → Bool) → Sound y item → (k : ℕ) → Sound (each_yield y) (loop more item k)
unfolding loop
took_loop y item more h zero s p e =
    let q = same_ok ([], s) p e in subst (λ r. Took (each_yield y r.0) s r.1) q (took_none s)
took_loop y item more h (suc k) s p e =
    ⊎_elim
    (λ w.
    let a = bound (item s) _ p w.1 in
    let b = bound (loop more item k a.0.1) _ p a.2 in
    let q = same_ok _ p b.2 in
    subst (λ r. Took (each_yield y r.0) s r.1) q
    (took_both _ _ s a.0.1 b.0.1 (h s a.0 a.1) (took_loop y item more h k a.0.1 b.0 b.1)))
    (λ w. let q = same_ok ([], s) p w.1 in subst (λ r. Took (each_yield y r.0) s r.1) q (took_none s))
    (chosen (more s) _ _ p e)

-- what a token opens
took_open : {X : Type 0} (y : Yield X) (inner : Stream → Read X) → Sound y inner → (d c : ℕ) (ts : List (Placed Lexeme)) (v : Verdict) (p : (Of c × X) × Stream) → opening d c inner ts v ≡ Ok p → Took (p.0.0.0 ∷ y p.0.1) (record { tokens = ts; verdict = v }) p.1
took_open y inner h d c [] v p e = absurd (never_ok p _ e)
took_open {X} y inner h d c (t ∷ ts) v p e = go d (is_class c t) refl e
  where
    go : (d : ℕ) (b : Bool) (k : is_class c t ≡ b) → open_by d c inner t ts v b k ≡ Ok p → Took (p.0.0.0 ∷ y p.0.1) (record { tokens = t ∷ ts; verdict = v }) p.1
    go zero true k e = absurd (never_ok p _ e)
    go zero false k e = absurd (never_ok p _ e)
    go (suc d) false k e = absurd (never_ok p _ e)
    go (suc d) true k e =
        let a = bound (passed (t, k) (from ts v)) _ p e in
        let o = passed_on (t, k) ts v a.0 a.1 in
        let b = bound (inner a.0.1) _ p a.2 in
        let q = same_ok _ p b.2 in
        let in-it = h a.0.1 b.0 b.1 in
        subst (λ (r : (Of c × X) × Stream). Took (r.0.0.0 ∷ y r.0.1) (record { tokens = t ∷ ts; verdict = v }) r.1) q
        (record { tokens = ap (λ x. x.0 ∷ ts) o.0 ∙ ap (λ r. a.0.0.0 ∷ r) (o.1 ∙ in-it.tokens); verdict = in-it.verdict ∙ o.2 })

module _ {N : Type 0} {In : N → Type 0} (yIn : (n : N) → Yield (In n)) (d : ℕ) (inner : (n : N) → Stream → Read (In n)) (sounds : (n : N) → Sound (yIn n) (inner n)) where
  pub sound : (g : Gram N) → Sound (yield yIn g) (parse d inner g)
  unfolding Tree yield parse
  sound (tok c) s p e = took_take c s.tokens s.verdict p e
  sound (joint c cs) s p e = took_joint c cs s.tokens s.verdict p e
  sound nil s p e = let q = same_ok (tt, s) p e in subst (λ r. Took [] s r.1) q (took_none s)
  sound (seq a b) s p e =
      let l = bound (parse d inner a s) _ p e in
      let r = bound (parse d inner b l.0.1) _ p l.2 in
      let q = same_ok _ p r.2 in
      subst (λ w. Took (yield yIn a w.0.0 ++ yield yIn b w.0.1) s w.1) q
      (took_both _ _ s l.0.1 r.0.1 (sound a s l.0 l.1) (sound b l.0.1 r.0 r.1))
  sound (alt a b) s p e =
      ⊎_elim
      (λ w.
      let l = bound (parse d inner a s) _ p w.1 in
      let q = same_ok _ p l.2 in
      subst (λ r. Took (either_yield (yield yIn a) (yield yIn b) r.0) s r.1) q (sound a s l.0 l.1))
      (λ w.
      let l = bound (parse d inner b s) _ p w.1 in
      let q = same_ok _ p l.2 in
      subst (λ r. Took (either_yield (yield yIn a) (yield yIn b) r.0) s r.1) q (sound b s l.0 l.1))
      (chosen (begins a s) _ _ p e)
  sound (many g) s p e = took_loop (yield yIn g) (parse d inner g) _ (sound g) _ s p e
  sound (ahead c k g h) s p e =
      ⊎_elim
      (λ w.
      let l = bound (take c s.tokens s.verdict) _ p w.1 in
      let m = bound (take k l.0.1.tokens l.0.1.verdict) _ p l.2 in
      let r = bound (parse d inner g m.0.1) _ p m.2 in
      let q = same_ok _ p r.2 in
      subst (λ z. Took (ahead_yield c k (yield yIn g) (yield yIn h) z.0) s z.1) q
      (took_both _ _ s l.0.1 r.0.1 (took_take c s.tokens s.verdict l.0 l.1)
      (took_both _ _ l.0.1 m.0.1 r.0.1 (took_take k l.0.1.tokens l.0.1.verdict m.0 m.1) (sound g m.0.1 r.0 r.1))))
      (λ w.
      let l = bound (parse d inner h s) _ p w.1 in
      let q = same_ok _ p l.2 in
      subst (λ z. Took (ahead_yield c k (yield yIn g) (yield yIn h) z.0) s z.1) q (sound h s l.0 l.1))
      (chosen (two c k s.tokens) _ _ p e)
  sound (nest c n) s p e = took_open (yIn n) (inner n) (sounds n) d c s.tokens s.verdict p e

module _ {N : Type 0} (rule : N → Gram N) where
  pub sound_in : (d : ℕ) (n : N) → Sound (inner_yield rule d n) (parse_in rule d n)
  unfolding Inner inner_yield parse_in
  sound_in zero n s p e = absurd (never_ok p _ e)
  sound_in (suc d) n s p e = sound (inner_yield rule d) d (parse_in rule d) (sound_in d) (rule n) s p e
