-- A text can be taken apart in one way only.
use Rattle.std.proofs.Common.{◌≡◌, ℕ, zero, suc, ◌+◌, ◌-◌, Bool, true, false, cond, eqb, List, [], ◌∷◌, ◌++◌, length, take, drop, Some, None, Ok, Err, Result, sym, refl, ap, ◌∙◌, subst, inl, inr, add-zero, arith}
use Rattle.std.proofs.lemmas.List.Prefix.{front_rest}
use Rattle.std.proofs.lemmas.List.{append-nil, length-append, length-take-le, append_assoc, drop_all, take-append-le, take_all}
use Rattle.std.proofs.lemmas.Bool.{not-true, ne_eqb, eqb-true, both_ways}
use Rattle.text.specs.declared.places.Placed.{Placed}
use Rattle.text.specs.declared.tokens.LexFault.{LexFault}
use Rattle.text.specs.declared.tokens.LexFault.TheVariants.{NoToken, CommentOpen, NumberTooLarge, NameTooLong}
use Rattle.text.specs.declared.tokens.Token.TheVariants.{End}
use Rattle.text.specs.Classes.{class_of, class_number}
use Rattle.text.specs.Laws.{Each, Between, Unclosed, Shaped, Longest, Shapeless, Solid, Takes, Ends, Refuses, Next, NextOnly, Lexes}
use Rattle.text.specs.Lexemes.{inside, meaning, width}
use Rattle.text.specs.Steps.{gap, at, Step, took, step_at}
use Rattle.text.specs.Tokens.{Lexeme, is_end, Answer, Verdict}
use Rattle.text.proofs.Longest.{widest, shaped_some, never_empty, sign_head}
use Rattle.text.proofs.Steps.{step_solid, takes_token, nothing_means}

-- a comment's bytes are passed over up to its end
comment_through : (start : ℕ) (c more : List ℕ) (i : ℕ) → Each inside c → gap (Some start) (c ++ (125 ∷ more)) i ≡ gap None more (i + suc (length c))
comment_through start [] more i h = refl
comment_through start (b ∷ bs) more i (e, h) =
    let k : eqb b 125 ≡ false = not-true (eqb b 125) e in
    let j : i + 1 + suc (length bs) ≡ i + suc (suc (length bs)) = omega arith in
    ap (λ t. cond t (gap None (bs ++ (125 ∷ more)) (i + 1)) (gap (Some start) (bs ++ (125 ∷ more)) (i + 1))) k
    ∙ comment_through start bs more (i + 1) h
    ∙ ap (gap None more) j

-- and so is whatever lies between tokens
gap_through : (g rest : List ℕ) (i : ℕ) → Between g → gap None (g ++ rest) i ≡ gap None rest (i + length g)
unfolding class_of
gap_through _ rest i Between.none = ap (gap None rest) (sym (add-zero i))
gap_through _ rest i (Between.gap {b} {bs} e h) =
    let j : i + 1 + length bs ≡ i + suc (length bs) = omega arith in
    ap (λ t. cond t (gap None (bs ++ rest) (i + 1)) (cond (eqb b 123) (gap (Some i) (bs ++ rest) (i + 1)) (Ok i))) e
    ∙ gap_through bs rest (i + 1) h
    ∙ ap (gap None rest) j
gap_through _ rest i (Between.comment c {bs} e h) =
    let n = length-append c (125 ∷ bs) in
    let j : i + 1 + suc (length c) + length bs ≡ i + suc (length (c ++ (125 ∷ bs))) = omega arith in
    ap (λ l. gap (Some i) l (i + 1)) (append_assoc c (125 ∷ bs) rest)
    ∙ comment_through i c (bs ++ rest) (i + 1) e
    ∙ gap_through bs rest (i + 1 + suc (length c)) h
    ∙ ap (gap None rest) j

-- up to a token
gap_solid : (rest : List ℕ) (i : ℕ) → Solid rest → gap None rest i ≡ Ok i
gap_solid [] i h = absurd h
gap_solid (b ∷ bs) i (e, h) =
    ap (λ t. cond t (gap None bs (i + 1)) (cond (eqb b 123) (gap (Some i) bs (i + 1)) (Ok i))) e
    ∙ ap (λ t. cond t (gap (Some i) bs (i + 1)) (Ok i)) (ne_eqb b 123 h)

-- or a comment left open
comment_over : (start : ℕ) (c : List ℕ) (i : ℕ) → Each inside c → gap (Some start) c i ≡ Err start
comment_over start [] i h = refl
comment_over start (b ∷ bs) i (e, h) =
    ap (λ t. cond t (gap None bs (i + 1)) (gap (Some start) bs (i + 1))) (not-true (eqb b 125) e) ∙ comment_over start bs (i + 1) h

gap_unclosed : (rest : List ℕ) (i : ℕ) → Unclosed rest → gap None rest i ≡ Err i
unfolding class_of
gap_unclosed rest i (c, e, h) = ap (λ l. gap None l i) e ∙ comment_over i c (i + 1) h

-- a token's first byte neither is a blank nor begins a comment
brace_class : class_number (class_of 123) ≡ 5
unfolding class_of
brace_class = refl

solid_by : (b : ℕ) (bs : List ℕ) → (class_number (class_of b) ≡ 1 → ⊥) → (class_number (class_of b) ≡ 5 → ⊥) → Solid (b ∷ bs)
solid_by b bs h k = (ne_eqb (class_number (class_of b)) 1 h, λ e. k (ap (λ x. class_number (class_of x)) e ∙ brace_class))

shaped_solid : (w rest : List ℕ) → Shaped w → Solid (w ++ rest)
shaped_solid [] rest h = absurd (never_empty h)
shaped_solid (b ∷ bs) rest (inl (l, h)) =
    let two = eqb-true (class_number (class_of b)) 2 l in solid_by b (bs ++ rest) (λ e. omega arith) (λ e. omega arith)
shaped_solid (b ∷ bs) rest (inr (inl (d, h))) =
    let three = eqb-true (class_number (class_of b)) 3 d in solid_by b (bs ++ rest) (λ e. omega arith) (λ e. omega arith)
shaped_solid (b ∷ bs) rest (inr (inr (s, k))) =
    let four = sign_head b bs s k in solid_by b (bs ++ rest) (λ e. omega arith) (λ e. omega arith)

longest_solid : (w text : List ℕ) → Longest w text → Solid text
longest_solid w text l = subst Solid (sym l.front) (shaped_solid w l.rest l.shaped)

-- the longest front is the one that is taken
longest_width : (w text : List ℕ) → Longest w text → width text ≡ length w
longest_width w [] l =
    absurd (let n = ap length l.front ∙ length-append w l.rest in let s = shaped_some w l.shaped in omega arith)
longest_width w (b ∷ bs) l = go (width (b ∷ bs)) refl
  where
    go : (n : ℕ) → width (b ∷ bs) ≡ n → n ≡ length w
    go zero e = absurd ((widest b bs).1.0 e w l.rest l.shaped l.front)
    go (suc m) e =
        let within = (widest b bs).0 in
        let it = (widest b bs).1.1 (omega arith) in
        let size = length-take-le (width (b ∷ bs)) (b ∷ bs) within in
        let most = it.longest w l.rest l.shaped l.front in
        let least = l.longest (take (width (b ∷ bs)) (b ∷ bs)) it.rest it.shaped it.front in
        omega arith

longest_front : (w text : List ℕ) → Longest w text → take (width text) text ≡ w
longest_front w text l =
    ap (λ n. take n text) (longest_width w text l)
    ∙ ap (take (length w)) l.front
    ∙ take-append-le (length w) w l.rest (omega arith)
    ∙ take_all (length w) w (omega arith)

-- so the token there is what it means
step_longest : (p : ℕ) (w text : List ℕ) (r : Result Lexeme LexFault) → Longest w text → meaning w ≡ r → step_at p text ≡ took p (length w) r
step_longest p w text r l e =
    let n = ap length l.front ∙ length-append w l.rest in
    let s = shaped_some w l.shaped in
    step_solid p text (omega arith)
    ∙ ap (λ k. took p k (meaning (take (width text) text))) (longest_width w text l)
    ∙ ap (λ x. took p (length w) (meaning x)) (longest_front w text l)
    ∙ ap (took p (length w)) e

-- and no token is there where nothing has the shape of one
step_shapeless : (p : ℕ) (text : List ℕ) → Solid text → Shapeless text → step_at p text ≡ record { answer = Err (at NoToken p); after = p }
step_shapeless p [] s h = absurd s
step_shapeless p (b ∷ bs) s h = go (width (b ∷ bs)) refl
  where
    go : (n : ℕ) → width (b ∷ bs) ≡ n → took p n (meaning (take n (b ∷ bs))) ≡ record { answer = Err (at NoToken p); after = p }
    go zero e = ap (took p 0) nothing_means
    go (suc m) e =
        let it = (widest b bs).1.1 (omega arith) in
        absurd (h (take (width (b ∷ bs)) (b ∷ bs)) it.rest it.shaped it.front)

-- What comes next, as a function of what is left and its place.
past : ℕ → List ℕ → Result ℕ ℕ → Step
past i text (Ok p) = step_at p (drop (p - i) text)
past i text (Err p) = record { answer = Err (at CommentOpen p); after = p }

next : ℕ → List ℕ → Step
next i text = past i text (gap None text i)

next_solid : (i p : ℕ) (text before rest : List ℕ) → text ≡ before ++ rest → Between before → p ≡ i + length before → Solid rest → next i text ≡ step_at p rest
unfolding past next
next_solid i p text before rest e b k s =
    let reach : gap None text i ≡ Ok p = ap (λ l. gap None l i) e ∙ gap_through before rest i b ∙ gap_solid rest (i + length before) s ∙ ap Ok (sym k) in
    let n : p - i ≡ length before = omega arith in
    ap (past i text) reach ∙ ap (λ m. step_at p (drop m text)) n ∙ ap (step_at p) (front_rest text before rest e)

next_unclosed : (i p : ℕ) (text before rest : List ℕ) → text ≡ before ++ rest → Between before → p ≡ i + length before → Unclosed rest → next i text ≡ record { answer = Err (at CommentOpen p); after = p }
unfolding past next
next_unclosed i p text before rest e b k u =
    ap (past i text) (ap (λ l. gap None l i) e ∙ gap_through before rest i b ∙ gap_unclosed rest (i + length before) u ∙ ap Err (sym k))

next_ends : (i p : ℕ) (text : List ℕ) → Ends i text p → next i text ≡ record { answer = Ok (at End p); after = p }
unfolding past next
next_ends i p text e =
    let k = e.place in
    let reach : gap None text i ≡ Ok p = ap (λ l. gap None l i) (sym (append-nil text)) ∙ gap_through text [] i e.between ∙ ap Ok (sym k) in
    ap (past i text) reach ∙ ap (step_at p) (drop_all (p - i) text (omega arith))

next_takes : (i j : ℕ) (text rest : List ℕ) (t : Placed Lexeme) → Takes i text t j rest → next i text ≡ record { answer = Ok t; after = j }
next_takes i j text rest t k =
    next_solid i t.place text k.before (k.bytes ++ rest) k.whole k.between k.place (longest_solid k.bytes (k.bytes ++ rest) k.longest)
    ∙ step_longest t.place k.bytes (k.bytes ++ rest) (Ok t.item) k.longest k.means
    ∙ ap (λ n. record { answer = Ok t; after = n }) (sym k.after)

next_refuses : (i : ℕ) (text : List ℕ) (f : LexFault) (p : ℕ) → Refuses i text (at f p) → next i text ≡ record { answer = Err (at f p); after = p }
next_refuses i text NoToken p r =
    next_solid i p text r.before r.rest r.whole r.between r.place r.wrong.0
    ∙ step_shapeless p r.rest r.wrong.0 r.wrong.1
next_refuses i text CommentOpen p r = next_unclosed i p text r.before r.rest r.whole r.between r.place r.wrong
next_refuses i text NumberTooLarge p r =
    next_solid i p text r.before r.rest r.whole r.between r.place (longest_solid r.wrong.0 r.rest r.wrong.1)
    ∙ step_longest p r.wrong.0 r.rest (Err NumberTooLarge) r.wrong.1 r.wrong.2
next_refuses i text NameTooLong p r =
    next_solid i p text r.before r.rest r.whole r.between r.place (longest_solid r.wrong.0 r.rest r.wrong.1)
    ∙ step_longest p r.wrong.0 r.rest (Err NameTooLong) r.wrong.1 r.wrong.2

next_is : (i : ℕ) (text : List ℕ) (a : Answer) (j : ℕ) → Next i text a j → next i text ≡ record { answer = a; after = j }
next_is i text _ j (Next.ends e) = next_ends i j text e
next_is i text _ j (Next.takes {t} rest k) = next_takes i j text rest t k
next_is i text _ _ (Next.refuses {f} r) = next_refuses i text f.item f.place r

-- Nothing else may come next.
pub next_only : (i : ℕ) (text : List ℕ) (a : Answer) (j : ℕ) → Next i text a j → NextOnly i text a j
next_only i text a j n b k m =
    let e = sym (next_is i text b k m) ∙ next_is i text a j n in
    (ap (λ (s : Step). s.answer) e, ap (λ (s : Step). s.after) e)

-- what is left after a token
takes_rest : (i j : ℕ) (text rest : List ℕ) (t : Placed Lexeme) → Takes i text t j rest → drop (j - i) text ≡ rest
takes_rest i j text rest t k =
    let place = k.place in
    let after = k.after in
    let n = length-append k.before k.bytes in
    let m : j - i ≡ length (k.before ++ k.bytes) = omega arith in
    ap (λ l. drop l text) m ∙ front_rest text (k.before ++ k.bytes) rest (k.whole ∙ sym (append_assoc k.before k.bytes rest))

abbrev Says : ℕ → List ℕ → Answer → ℕ → Type 0
Says i text a j = next i text ≡ record { answer = a; after = j }

-- the end, a fault and a token exclude one another
end_fault : (i : ℕ) (text : List ℕ) (t : Placed Lexeme) (f : Placed LexFault) (j k : ℕ) → Says i text (Ok t) j → Says i text (Err f) k → ⊥
end_fault i text t f j k a b =
    let e = ap (λ (s : Step). s.answer) (sym a ∙ b) in
    let z : ◌≡◌ {A = ℕ} 0 1 = cc in omega arith

end_token : (i : ℕ) (text rest : List ℕ) (p j : ℕ) (t : Placed Lexeme) → Says i text (Ok (at End p)) p → Takes i text t j rest → ⊥
end_token i text rest p j t a k =
    let e = ap (λ (s : Step). ended s.answer) (sym a ∙ next_takes i j text rest t k) in
    both_ways true (e ∙ takes_token text i j t rest k) refl
  where
    ended : Answer → Bool
    ended (Ok x) = is_end x.item
    ended (Err f) = true

-- A text can be taken apart in one way only.
pub lexes_only : (i : ℕ) (text : List ℕ) (ts us : List (Placed Lexeme)) (v w : Verdict) → Lexes i text ts v → Lexes i text us w → (us ≡ ts) × (w ≡ v)
lexes_only i text _ _ _ _ (Lexes.ends e) (Lexes.ends f) = (refl, ap Ok (f.place ∙ sym e.place))
lexes_only i text _ _ _ _ (Lexes.ends {p = p} e) (Lexes.refuses {f = f} r) =
    absurd (end_fault i text (at End p) f p f.place (next_ends i p text e) (next_refuses i text f.item f.place r))
lexes_only i text _ _ _ _ (Lexes.ends {p = p} e) (Lexes.takes {t = t} j rest k l) = absurd (end_token i text rest p j t (next_ends i p text e) k)
lexes_only i text _ _ _ _ (Lexes.refuses {f = f} r) (Lexes.ends {p = p} e) =
    absurd (end_fault i text (at End p) f p f.place (next_ends i p text e) (next_refuses i text f.item f.place r))
lexes_only i text _ _ _ _ (Lexes.refuses {f = f} r) (Lexes.refuses {f = g} s) =
    let e = ap (λ (x : Step). x.answer) (sym (next_refuses i text g.item g.place s) ∙ next_refuses i text f.item f.place r) in
    let same : g ≡ f = cc in (refl, ap Err same)
lexes_only i text _ _ _ _ (Lexes.refuses {f = f} r) (Lexes.takes {t = t} j rest k l) =
    absurd (end_fault i text t f j f.place (next_takes i j text rest t k) (next_refuses i text f.item f.place r))
lexes_only i text _ _ _ _ (Lexes.takes {t = t} j rest k l) (Lexes.ends {p = p} e) = absurd (end_token i text rest p j t (next_ends i p text e) k)
lexes_only i text _ _ _ _ (Lexes.takes {t = t} j rest k l) (Lexes.refuses {f = f} r) =
    absurd (end_fault i text t f j f.place (next_takes i j text rest t k) (next_refuses i text f.item f.place r))
lexes_only i text _ _ v w (Lexes.takes {t = t} {ts = ts} j rest k l) (Lexes.takes {t = u} {ts = us} h more m n) =
    let e = sym (next_takes i h text more u m) ∙ next_takes i j text rest t k in
    let told = ap (λ (x : Step). x.answer) e in
    let token : u ≡ t = cc in
    let place = ap (λ (x : Step). x.after) e in
    let left = sym (takes_rest i h text more u m) ∙ ap (λ x. drop (x - i) text) place ∙ takes_rest i j text rest t k in
    let (same, verdict) = lexes_only j rest ts us v w l (subst (λ x. Lexes j x us w) left (subst (λ x. Lexes x more us w) place n)) in
    (ap (λ x. x ∷ us) token ∙ ap (λ x. t ∷ x) same, verdict)
