-- A step by the rules of a text.
use Rattle.std.proofs.Common.{◌≡◌, ℕ, zero, suc, ◌+◌, ◌<◌, ◌≤◌, Bool, true, false, cond, eqb, leb, ◌⊎◌, List, [], ◌∷◌, ◌++◌, length, take, drop, Some, None, Ok, Err, Option, Result, sym, refl, ap, ◌∙◌, subst, inl, inr, arith}
use Rattle.std.proofs.lemmas.List.Prefix.{front_rest}
use Rattle.std.proofs.lemmas.List.{append-nil, drop_all, append_assoc, drop-drop, length-drop, length-append, length-take-le, take-append-drop}
use Rattle.std.proofs.lemmas.Bool.{eqb-true}
use Rattle.text.specs.declared.places.Placed.{Placed}
use Rattle.text.specs.declared.spellings.Keyword.{Keyword}
use Rattle.text.specs.declared.tokens.Token.TheVariants as token
use Rattle.text.specs.declared.tokens.LexFault.{LexFault}
use Rattle.text.specs.declared.tokens.LexFault.TheVariants.{NoToken, CommentOpen, NumberTooLarge, NameTooLong}
use Rattle.text.specs.Classes.{class_of, class_number}
use Rattle.text.specs.Laws.{Between, Shaped, Longest, Solid, Takes, Ends, Next, Shortens}
use Rattle.text.specs.Lexemes.{digit, meaning, width, word_means, number_means, magnitude_of}
use Rattle.text.specs.Spellings.{keyword_of}
use Rattle.text.specs.Steps.{gap, at, Step, took, sized, front, step_at, step_past, step}
use Rattle.text.specs.Tokens.{Lexeme, is_end, Answer}
use Rattle.text.proofs.Between.{Skipped, Opened, Came, came}
use Rattle.text.proofs.Fronts.{meaning_by_lem}
use Rattle.text.proofs.Longest.{widest, never_empty, shaped_some}
use Rattle.text.proofs.Signs.{signed}

-- what has the shape of a token is one, and not the end, but for its size
abbrev Oversize : LexFault → Type 0
Oversize NoToken = ⊥
Oversize CommentOpen = ⊥
Oversize NumberTooLarge = Unit {0}
Oversize NameTooLong = Unit {0}

abbrev Sizable : Result Lexeme LexFault → Type 0
Sizable (Ok t) = is_end t ≡ false
Sizable (Err f) = Oversize f

word_sizable : (o : Option Keyword) (w : List ℕ) → Sizable (word_means o w)
word_sizable (Some k) w = refl
word_sizable None w = go (leb (length w) 24)
  where
    go : (t : Bool) → Sizable (cond t (Ok (token.Name w)) (Err NameTooLong))
    go true = refl
    go false = tt

number_sizable : (o : Option ℕ) → Sizable (number_means o)
number_sizable (Some n) = refl
number_sizable None = tt

shaped_sizable : (w : List ℕ) → Shaped w → Sizable (meaning w)
shaped_sizable [] h = absurd (never_empty h)
shaped_sizable (b ∷ bs) (inl (l, h)) =
    subst Sizable (sym (meaning_by_lem b bs true (digit b) l refl)) (word_sizable (keyword_of (b ∷ bs)) (b ∷ bs))
shaped_sizable (b ∷ bs) (inr (inl (d, h))) =
    let three = eqb-true (class_number (class_of b)) 3 d in
    subst Sizable (sym (meaning_by_lem b bs false true (ap (λ c. eqb c 2) three) d)) (number_sizable (magnitude_of (b ∷ bs)))
shaped_sizable (b ∷ bs) (inr (inr (s, e))) = subst Sizable (sym (ap meaning e ∙ (signed s).means)) refl

-- the end of a text
next_end : (i p : ℕ) (text before : List ℕ) → text ≡ before ++ [] → Between before → p ≡ i + length before → Ends i text p
next_end i p text before e b k =
    let same : text ≡ before = e ∙ append-nil before in
    record { between = subst Between (sym same) b; place = k ∙ ap (λ l. i + length l) (sym same) }

-- a front of a text that has a token's shape, by what it means
next_shaped : (i p n : ℕ) (text before rest : List ℕ) → text ≡ before ++ rest → Between before → p ≡ i + length before → n ≤ length rest → Longest (take n rest) rest → (r : Result Lexeme LexFault) → meaning (take n rest) ≡ r → Sizable r → Next i text (took p n r).answer (took p n r).after
next_shaped i p n text before rest e b k w l (Ok t) m z =
    let same = take-append-drop n rest in
    let size = length-take-le n rest w in
    Next.takes (drop n rest)
    (record {
      before = before;
      bytes = take n rest;
      whole = e ∙ ap (λ x. before ++ x) (sym same);
      between = b;
      longest = subst (Longest (take n rest)) (sym same) l;
      means = m;
      place = k;
      after = ap (λ x. p + x) (sym size);
    })
next_shaped i p n text before rest e b k w l (Err NoToken) m z = absurd z
next_shaped i p n text before rest e b k w l (Err CommentOpen) m z = absurd z
next_shaped i p n text before rest e b k w l (Err NumberTooLarge) m z =
    Next.refuses (record { before = before; rest = rest; whole = e; between = b; wrong = (take n rest, l, m); place = k })
next_shaped i p n text before rest e b k w l (Err NameTooLong) m z =
    Next.refuses (record { before = before; rest = rest; whole = e; between = b; wrong = (take n rest, l, m); place = k })

pub nothing_means : meaning [] ≡ Err NoToken
unfolding meaning
nothing_means = refl

abbrev NextBy : ℕ → List ℕ → Step → Type 0
NextBy i text s = Next i text s.answer s.after

-- a token or what is none
next_solid : (i p : ℕ) (text before : List ℕ) (b : ℕ) (bs : List ℕ) → text ≡ before ++ (b ∷ bs) → Between before → p ≡ i + length before → Solid (b ∷ bs) → NextBy i text (step_at p (b ∷ bs))
next_solid i p text before b bs e g k s = go (width (b ∷ bs)) refl
  where
    go : (n : ℕ) → width (b ∷ bs) ≡ n → NextBy i text (took p n (meaning (take n (b ∷ bs))))
    go zero h =
        subst (λ r. NextBy i text (took p 0 r)) (sym nothing_means)
        (Next.refuses (record { before = before; rest = b ∷ bs; whole = e; between = g; wrong = (s, (widest b bs).1.0 h); place = k }))
    go (suc n) h =
        let longest = subst (λ m. Longest (take m (b ∷ bs)) (b ∷ bs)) h ((widest b bs).1.1 (omega arith)) in
        let within = (widest b bs).0 in
        next_shaped i p (suc n) text before (b ∷ bs) e g k (omega arith) longest (meaning (take (suc n) (b ∷ bs))) refl (shaped_sizable _ longest.shaped)

next_at : (i p : ℕ) (text before rest : List ℕ) → text ≡ before ++ rest → Between before → p ≡ i + length before → (rest ≡ []) ⊎ Solid rest → NextBy i text (step_at p rest)
next_at i p text before [] e g k s = Next.ends (next_end i p text before e g k)
next_at i p text before (b ∷ bs) e g k (inl z) = absurd (let n = ap length z in omega arith)
next_at i p text before (b ∷ bs) e g k (inr s) = next_solid i p text before b bs e g k s

-- what is left after the bytes passed over
pub left : (text before rest : List ℕ) (i p : ℕ) → drop i text ≡ before ++ rest → p ≡ i + length before → drop p text ≡ rest
left text before rest i p e k =
    ap (λ j. drop j text) k ∙ sym (drop-drop (length before) i text) ∙ front_rest (drop i text) before rest e

-- The step from any place is by the rules.
pub lawful : (text : List ℕ) (i : ℕ) → Next i (drop i text) (step text i).answer (step text i).after
unfolding step
lawful text i = go (gap None (drop i text) i) refl
  where
    skipped : (p : ℕ) → Skipped i (drop i text) p → NextBy i (drop i text) (step_past text (Ok p))
    skipped p s =
        subst (λ l. NextBy i (drop i text) (step_at p l)) (sym (left text s.before s.rest i p s.whole s.place))
        (next_at i p (drop i text) s.before s.rest s.whole s.between s.place s.fresh)

    opened : (p : ℕ) → Opened i (drop i text) p → NextBy i (drop i text) (step_past text (Err p))
    opened p s =
        Next.refuses (record { before = s.before; rest = s.rest; whole = s.whole; between = s.between; wrong = s.unclosed; place = s.place })

    go : (r : Result ℕ ℕ) → gap None (drop i text) i ≡ r → NextBy i (drop i text) (step_past text r)
    go (Ok p) e = skipped p (subst (Came None i (drop i text)) e (came None (drop i text) i))
    go (Err p) e = opened p (subst (Came None i (drop i text)) e (came None (drop i text) i))

-- A step by what is found on the way: a comment left open,
pub step_open : (text : List ℕ) (i p : ℕ) → gap None (drop i text) i ≡ Err p → step text i ≡ record { answer = Err (at CommentOpen p); after = p }
unfolding step
step_open text i p e = ap (step_past text) e

-- the end,
pub step_end : (text : List ℕ) (i p : ℕ) → gap None (drop i text) i ≡ Ok p → length text ≤ p → step text i ≡ record { answer = Ok (at token.End p); after = p }
unfolding step
step_end text i p e h = ap (step_past text) e ∙ ap (step_at p) (drop_all p text h)

-- or the front of what is left
pub step_solid : (p : ℕ) (rest : List ℕ) → 0 < length rest → step_at p rest ≡ took p (width rest) (meaning (take (width rest) rest))
step_solid p [] h = absurd (omega arith)
step_solid p (b ∷ bs) h = refl

step_rest : (text : List ℕ) (i p : ℕ) → gap None (drop i text) i ≡ Ok p → p < length text → step text i ≡ took p (width (drop p text)) (meaning (take (width (drop p text)) (drop p text)))
unfolding step
step_rest text i p e h =
    let d = length-drop p text in
    ap (step_past text) e ∙ step_solid p (drop p text) (omega arith)

took_ok : (p n m : ℕ) (t : Lexeme) (r : Result Lexeme LexFault) → Ok (t, m) ≡ sized n r → took p n r ≡ record { answer = Ok (at t p); after = p + m }
took_ok p n m t (Ok u) e =
    let k : ◌≡◌ {A = Lexeme × ℕ} (u, n) (t, m) = cc in
    ap (λ x. took p x.1 (Ok x.0)) k
took_ok p n m t (Err f) e = absurd (let z : ◌≡◌ {A = ℕ} 0 1 = cc in omega arith)

took_err : (p n : ℕ) (f : LexFault) (r : Result Lexeme LexFault) → Err f ≡ sized n r → took p n r ≡ record { answer = Err (at f p); after = p }
took_err p n f (Ok u) e = absurd (let z : ◌≡◌ {A = ℕ} 0 1 = cc in omega arith)
took_err p n f (Err g) e = let k : g ≡ f = cc in ap (λ x. took p n (Err x)) k

pub step_token : (text : List ℕ) (i p n : ℕ) (t : Lexeme) → gap None (drop i text) i ≡ Ok p → p < length text → Ok (t, n) ≡ front (drop p text) → step text i ≡ record { answer = Ok (at t p); after = p + n }
unfolding front
step_token text i p n t e h f = step_rest text i p e h ∙ took_ok p _ n t _ f

pub step_fault : (text : List ℕ) (i p : ℕ) (g : LexFault) → gap None (drop i text) i ≡ Ok p → p < length text → Err g ≡ front (drop p text) → step text i ≡ record { answer = Err (at g p); after = p }
unfolding front
step_fault text i p g e h f = step_rest text i p e h ∙ took_err p _ g _ f

-- the token at the front lies within the text
front_width : (rest : List ℕ) (n : ℕ) (t : Lexeme) (r : Result Lexeme LexFault) → Ok (t, n) ≡ sized (width rest) r → n ≡ width rest
front_width rest n t (Ok u) e = let k : ◌≡◌ {A = Lexeme × ℕ} (t, n) (u, width rest) = cc in ap (λ x. x.1) k
front_width rest n t (Err f) e = absurd (let z : ◌≡◌ {A = ℕ} 0 1 = cc in omega arith)

pub width_within : (rest : List ℕ) → width rest ≤ length rest
unfolding width
width_within [] = omega arith
width_within (b ∷ bs) = (widest b bs).0

pub token_within : (text : List ℕ) (p n : ℕ) (t : Lexeme) → p ≤ length text → Ok (t, n) ≡ front (drop p text) → p + n ≤ length text
unfolding front
token_within text p n t h f =
    let e = front_width (drop p text) n t _ f in
    let w = width_within (drop p text) in
    let d = length-drop p text in
    omega arith

-- what a step leaves
pub takes_onward : (text : List ℕ) (i j : ℕ) (t : Placed Lexeme) (rest : List ℕ) → i ≤ length text → Takes i (drop i text) t j rest → (i < j) × (j ≤ length text) × (drop j text ≡ rest)
takes_onward text i j t rest h k =
    let place = k.place in
    let after = k.after in
    let some = shaped_some k.bytes k.longest.shaped in
    let whole = ap length k.whole ∙ length-append k.before (k.bytes ++ rest) in
    let more = length-append k.bytes rest in
    let both = length-append k.before k.bytes in
    let d = length-drop i text in (
      omega arith,
      omega arith,
      left text (k.before ++ k.bytes) rest i j (k.whole ∙ sym (append_assoc k.before k.bytes rest)) (omega arith),
    )

takes_fewer : (text : List ℕ) (i j : ℕ) (t : Placed Lexeme) (rest : List ℕ) → i ≤ length text → Takes i (drop i text) t j rest → length (drop j text) < length (drop i text)
takes_fewer text i j t rest h k =
    let o = takes_onward text i j t rest h k in
    let d = length-drop i text in
    let e = length-drop j text in
    omega arith

-- a token that is taken is not the end
pub takes_token : (text : List ℕ) (i j : ℕ) (t : Placed Lexeme) (rest : List ℕ) → Takes i text t j rest → is_end t.item ≡ false
takes_token text i j t rest k = subst Sizable k.means (shaped_sizable k.bytes k.longest.shaped)

pub shortens : (text : List ℕ) (i : ℕ) → i ≤ length text → (a : Answer) (j : ℕ) → Next i (drop i text) a j → Shortens (drop i text) a (drop j text)
shortens text i h _ j (Next.ends e) =
    let d = length-drop i text in
    let k = length-drop j text in
    let p = e.place in
    omega arith
shortens text i h _ j (Next.takes {t} rest k) =
    let n = takes_token (drop i text) i j t rest k in
    rw n (takes_fewer text i j t rest h k)
shortens text i h _ j (Next.refuses r) =
    let d = length-drop i text in
    let k = length-drop j text in
    let p = r.place in
    omega arith
