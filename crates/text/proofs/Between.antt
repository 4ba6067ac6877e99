-- What is passed over on the way to the next token is blanks and whole comments.
use Rattle.std.proofs.Common.{◌≡◌, ℕ, suc, ◌+◌, Bool, true, false, cond, not, eqb, ◌⊎◌, List, [], ◌∷◌, ◌++◌, length, Some, None, Ok, Err, Option, Result, sym, refl, ap, ◌∙◌, subst, inl, inr, add-zero, arith}
use Rattle.std.proofs.lemmas.List.{append_assoc, length-append}
use Rattle.std.proofs.lemmas.Bool.{eqb-true, eqb-false}
use Rattle.text.specs.Laws.{Between, Unclosed, Solid, Each}
use Rattle.text.specs.Lexemes.{blank, inside}
use Rattle.text.specs.Steps.{gap}

-- from place i, the text goes on at p with a token or the end
pub record Skipped (i : ℕ) (text : List ℕ) (p : ℕ) : Type 0 where
  pub before : List ℕ
  pub rest : List ℕ
  pub whole : text ≡ before ++ rest
  pub between : Between before
  pub place : p ≡ i + length before
  pub fresh : (rest ≡ []) ⊎ Solid rest

-- or at p with a comment that is left open
pub record Opened (i : ℕ) (text : List ℕ) (p : ℕ) : Type 0 where
  pub before : List ℕ
  pub rest : List ℕ
  pub whole : text ≡ before ++ rest
  pub between : Between before
  pub place : p ≡ i + length before
  pub unclosed : Unclosed rest

-- inside a comment: it is closed, and then P holds of the place after it and what is left
abbrev pub Closed : ℕ → List ℕ → (ℕ → List ℕ → Type 0) → Type 0
Closed i text P = (c more : List ℕ) × (text ≡ c ++ (125 ∷ more)) × Each inside c × P (i + suc (length c)) more

abbrev pub Came : Option ℕ → ℕ → List ℕ → Result ℕ ℕ → Type 0
Came None i text (Ok p) = Skipped i text p
Came None i text (Err p) = Opened i text p
Came (Some start) i text (Ok p) = Closed i text (λ j more. Skipped j more p)
Came (Some start) i text (Err p) = ((p ≡ start) × Each inside text) ⊎ Closed i text (λ j more. Opened j more p)

-- one blank before
blank_on : (i b : ℕ) (bs : List ℕ) (r : Result ℕ ℕ) → blank b ≡ true → Came None (i + 1) bs r → Came None i (b ∷ bs) r
blank_on i b bs (Ok p) e s =
    let h = s.place in
    record { before = b ∷ s.before; rest = s.rest; whole = ap (λ l. b ∷ l) s.whole; between = Between.gap e s.between; place = omega arith; fresh = s.fresh }
blank_on i b bs (Err p) e s =
    let h = s.place in
    record { before = b ∷ s.before; rest = s.rest; whole = ap (λ l. b ∷ l) s.whole; between = Between.gap e s.between; place = omega arith; unclosed = s.unclosed }

-- a whole comment before
around : (c more before rest : List ℕ) → more ≡ before ++ rest → 123 ∷ (c ++ (125 ∷ more)) ≡ (123 ∷ (c ++ (125 ∷ before))) ++ rest
around c more before rest e = ap (λ l. 123 ∷ (c ++ (125 ∷ l))) e ∙ ap (λ l. 123 ∷ l) (sym (append_assoc c (125 ∷ before) rest))

farther : (i p : ℕ) (c before : List ℕ) → p ≡ i + 1 + suc (length c) + length before → p ≡ i + length (123 ∷ (c ++ (125 ∷ before)))
farther i p c before e = let n = length-append c (125 ∷ before) in omega arith

comment_on : (i : ℕ) (bs : List ℕ) (r : Result ℕ ℕ) → Came (Some i) (i + 1) bs r → Came None i (123 ∷ bs) r
comment_on i bs (Ok p) (c, more, e, h, s) =
    record {
      before = 123 ∷ (c ++ (125 ∷ s.before));
      rest = s.rest;
      whole = ap (λ l. 123 ∷ l) e ∙ around c more s.before s.rest s.whole;
      between = Between.comment c h s.between;
      place = farther i p c s.before s.place;
      fresh = s.fresh;
    }
comment_on i bs (Err p) (inl (e, h)) =
    record { before = []; rest = 123 ∷ bs; whole = refl; between = Between.none; place = e ∙ sym (add-zero i); unclosed = (bs, refl, h) }
comment_on i bs (Err p) (inr (c, more, e, h, s)) =
    record {
      before = 123 ∷ (c ++ (125 ∷ s.before));
      rest = s.rest;
      whole = ap (λ l. 123 ∷ l) e ∙ around c more s.before s.rest s.whole;
      between = Between.comment c h s.between;
      place = farther i p c s.before s.place;
      unclosed = s.unclosed;
    }

-- the end of a comment before
shut_on : (i start : ℕ) (bs : List ℕ) (r : Result ℕ ℕ) → Came None (i + 1) bs r → Came (Some start) i (125 ∷ bs) r
shut_on i start bs (Ok p) s = ([], bs, refl, tt, s)
shut_on i start bs (Err p) s = inr ([], bs, refl, tt, s)

-- a byte of a comment before
closed_on : (i b : ℕ) (bs : List ℕ) (P : ℕ → List ℕ → Type 0) → inside b ≡ true → Closed (i + 1) bs P → Closed i (b ∷ bs) P
closed_on i b bs P t (c, more, e, h, s) =
    let k : i + 1 + suc (length c) ≡ i + suc (length (b ∷ c)) = omega arith in
    (b ∷ c, more, ap (λ l. b ∷ l) e, (t, h), subst (λ j. P j more) k s)

inside_on : (i start b : ℕ) (bs : List ℕ) (r : Result ℕ ℕ) → inside b ≡ true → Came (Some start) (i + 1) bs r → Came (Some start) i (b ∷ bs) r
inside_on i start b bs (Ok p) t s = closed_on i b bs (λ j more. Skipped j more p) t s
inside_on i start b bs (Err p) t (inl (e, h)) = inl (e, (t, h))
inside_on i start b bs (Err p) t (inr s) = inr (closed_on i b bs (λ j more. Opened j more p) t s)

pub came : (o : Option ℕ) (text : List ℕ) (i : ℕ) → Came o i text (gap o text i)
came None [] i = record { before = []; rest = []; whole = refl; between = Between.none; place = sym (add-zero i); fresh = inl refl }
came None (b ∷ bs) i = go (blank b) refl (eqb b 123) refl (came None bs (i + 1)) (came (Some i) bs (i + 1))
  where
    go : (t : Bool) → blank b ≡ t → (u : Bool) → eqb b 123 ≡ u → Came None (i + 1) bs (gap None bs (i + 1)) → Came (Some i) (i + 1) bs (gap (Some i) bs (i + 1)) → Came None i (b ∷ bs) (cond t (gap None bs (i + 1)) (cond u (gap (Some i) bs (i + 1)) (Ok i)))
    go true e u f s k = blank_on i b bs (gap None bs (i + 1)) e s
    go false e true f s k =
        subst (λ x. Came None i (x ∷ bs) (gap (Some i) bs (i + 1))) (sym (eqb-true b 123 f)) (comment_on i bs (gap (Some i) bs (i + 1)) k)
    go false e false f s k =
        record { before = []; rest = b ∷ bs; whole = refl; between = Between.none; place = sym (add-zero i); fresh = inr (e, eqb-false b 123 f) }
came (Some start) [] i = inl (refl, tt)
came (Some start) (b ∷ bs) i = go (eqb b 125) refl (came None bs (i + 1)) (came (Some start) bs (i + 1))
  where
    go : (t : Bool) → eqb b 125 ≡ t → Came None (i + 1) bs (gap None bs (i + 1)) → Came (Some start) (i + 1) bs (gap (Some start) bs (i + 1)) → Came (Some start) i (b ∷ bs) (cond t (gap None bs (i + 1)) (gap (Some start) bs (i + 1)))
    go true e s k = subst (λ x. Came (Some start) i (x ∷ bs) (gap None bs (i + 1))) (sym (eqb-true b 125 e)) (shut_on i start bs (gap None bs (i + 1)) s)
    go false e s k = inside_on i start b bs (gap (Some start) bs (i + 1)) (ap not e) k
