-- Numbers: their values, and a `-` that belongs to one.
use Rattle.std.proofs.Common.{◌≡◌, ℕ, zero, suc, ◌≤◌, Bool, true, false, cond, eqb, leb, List, [], ◌∷◌, ℤ, pos, Ok, Err, Result, sym, refl, ap, ◌∙◌, subst, arith, w32, SFits, to_z, of_z}
use Rattle.std.specs.Borrow.{Bor}
use Rattle.std.proofs.lemmas.Int.{to_z-of_z, to_z_pos}
use Rattle.std.proofs.lemmas.Bool.{leb-true, eqb-true}
use Rattle.text.specs.declared.places.Placed.{Placed}
use Rattle.text.specs.declared.tokens.Token.{Token}
use Rattle.text.specs.declared.tokens.Token.TheVariants as token
use Rattle.text.specs.Lexings.{Lexing}
use Rattle.text.specs.Steps.{at}
use Rattle.text.specs.Tokens.{Lexeme, lexeme, is_end, Verdict}
use Rattle.grammar.specs.Grammars.{joint, Of, OneOf, Tree, TreeAt}
use Rattle.grammar.specs.Parsers.{Read, passed, take_by, take_joint_by, second, second_by, misfit, parse, parse_at}
use Rattle.grammar.specs.Streams.{Stream, Refusal, from}
use Rattle.grammar.specs.declared.classing.TokenClass.{TokenClass}
use Rattle.grammar.specs.declared.classing.TokenClass.TheVariants as class
use Rattle.grammar.specs.TokenClasses.{class_number, class_of, is_class, among}
use Rattle.grammar.proofs.ClassNumbers.{class_one}
use Rattle.grammar.proofs.Inversions.{same_ok, never_ok, passed_on}
use Rattle.syntax.specs.Nodes.{Makes, magnitude, minus}
use Rattle.syntax.specs.Syntax.{rule}
use Rattle.reading.specs.declared.readers.Reader.{Reader}
use Rattle.reading.specs.Sizes.{size, most}
use Rattle.reading.specs.States.{stream_by, stream_of, state_of, Answer, written, Reads, Takes, Builds}
use Rattle.reading.specs.Steps.{taken, any_taken, jointly, token_made, mark_made, negative_made}
use Rattle.reading.proofs.Branches.{none_of}
use Rattle.reading.proofs.Sequences.{got, refused, Silent, silent_token, Whole, start, token_on}

-- a number of the class of those that stand alone
pub alone_small : (t : Lexeme) → eqb (class_of t) 52 ≡ true → magnitude t ≤ 2147483647
alone_small (token.Number v) h = go (leb v 2147483647) refl h
  where
    go : (b : Bool) → leb v 2147483647 ≡ b → eqb (cond b 52 53) 52 ≡ true → v ≤ 2147483647
    go true e h = leb-true v 2147483647 e
    go false e h = let z = eqb-true 53 52 h in omega arith
alone_small (token.Word k) h = omega arith
alone_small (token.Name n) h = omega arith
alone_small (token.Sign s) h = omega arith
alone_small token.End h = omega arith

-- ---- the token that was taken is the one ahead

token_by : (c : ℕ) (t : Placed Lexeme) (ts : List (Placed Lexeme)) (v : Verdict) (b : Bool) (e : is_class c t ≡ b) (x : Of c) (s : Stream) → take_by c t ts v b e ≡ Ok (x, s) → x.0 ≡ t
token_by c t ts v true e x s q = ap (λ (z : Of c). z.0) (sym (passed_on (t, e) ts v (x, s) q).0)
token_by c t ts v false e x s q = absurd (never_ok _ _ q)

pub token_is : (c : ℕ) (t : Lexeme) (p : ℕ) (l : Lexing) (x : Of c) (s : Stream) → taken c (stream_by t p l) ≡ Ok (x, s) → x.0 ≡ at t p
token_is c t p l x s = go (is_end t)
  where
    go : (b : Bool) → taken c (cond b (record { tokens = []; verdict = Ok p }) (record { tokens = at t p ∷ l.tokens; verdict = l.verdict })) ≡ Ok (x, s) → x.0 ≡ at t p
    go true q = absurd (never_ok _ _ q)
    go false q = token_by c (at t p) l.tokens l.verdict (is_class c (at t p)) refl x s q

any_by : (cs : List ℕ) (t : Placed Lexeme) (ts : List (Placed Lexeme)) (v : Verdict) (b : Bool) (u : Placed Lexeme) (s : Stream) → cond b (passed t (from ts v)) (Err (misfit (t ∷ ts) v)) ≡ Ok (u, s) → u ≡ t
any_by cs t ts v true u s q = sym (passed_on t ts v (u, s) q).0
any_by cs t ts v false u s q = absurd (never_ok _ _ q)

pub any_is : (cs : List ℕ) (t : Lexeme) (p : ℕ) (l : Lexing) (u : Placed Lexeme) (s : Stream) → any_taken cs (stream_by t p l) ≡ Ok (u, s) → u ≡ at t p
any_is cs t p l u s = go (is_end t)
  where
    go : (b : Bool) → any_taken cs (cond b (record { tokens = []; verdict = Ok p }) (record { tokens = at t p ∷ l.tokens; verdict = l.verdict })) ≡ Ok (u, s) → u ≡ at t p
    go true q = absurd (never_ok _ _ q)
    go false q = any_by cs (at t p) l.tokens l.verdict (among cs (class_of t)) u s q

-- ---- a `-` and a number are one

abbrev signed : List ℕ
signed = 52 ∷ (53 ∷ [])

-- a number after the `-`
pub Both : Of 41 → Placed Lexeme → Stream → Read (Of 41 × OneOf (52 ∷ (53 ∷ []))) → Type 0
Both x u s r = (e : among (52 ∷ (53 ∷ [])) (class_of u.item) ≡ true) × (r ≡ Ok ((x, (u, e)), s))

pass_both : (x : Of 41) (w u : Placed Lexeme) (q : among signed (class_of w.item) ≡ true) (r : Result Stream Refusal) (s : Stream) → passed w r ≡ Ok (u, s) → Both x u s (passed (x, (w, q)) r)
unfolding Both
pass_both x w u q (Ok z) s e =
    let h = same_ok (w, z) (u, s) e in
    subst (λ (y : Placed Lexeme × Stream). Both x y.0 y.1 (Ok ((x, (w, q)), z))) h (q, refl)
pass_both x w u q (Err f) s e = absurd (never_ok _ _ e)

second_by_lem : (x : Of 41) (w : Placed Lexeme) (ws : List (Placed Lexeme)) (v : Verdict) (b : Bool) (q : among signed (class_of w.item) ≡ b) (u : Placed Lexeme) (s : Stream) → cond b (passed w (from ws v)) (Err (misfit (w ∷ ws) v)) ≡ Ok (u, s) → Both x u s (second_by 41 signed x w ws v b q)
second_by_lem x w ws v true q u s e = pass_both x w u q (from ws v) s e
second_by_lem x w ws v false q u s e = absurd (never_ok _ _ e)

second_ok : (x : Of 41) (ts : List (Placed Lexeme)) (v : Verdict) (m : Stream) → Ok m ≡ from ts v → (u : Placed Lexeme) (s : Stream) → any_taken signed m ≡ Ok (u, s) → Both x u s (second 41 signed x ts v)
second_ok x (w ∷ ws) v m h u s e =
    second_by_lem x w ws v (among signed (class_of w.item)) refl u s (ap (any_taken signed) (sym (same_ok m _ h)) ∙ e)
second_ok x [] (Ok p) m h u s e = absurd (never_ok _ _ (ap (any_taken signed) (sym (same_ok m _ h)) ∙ e))
second_ok x [] (Err f) m h u s e = absurd (never_ok _ _ (sym h))

second_err : (x : Of 41) (ts : List (Placed Lexeme)) (v : Verdict) (m : Stream) → Ok m ≡ from ts v → (f : Refusal) → any_taken signed m ≡ Err f → second 41 signed x ts v ≡ Err f
second_err x (w ∷ ws) v m h f e = go (among signed (class_of w.item)) refl (ap (any_taken signed) (sym (same_ok m _ h)) ∙ e)
  where
    none : (q : among signed (class_of w.item) ≡ true) (r : Result Stream Refusal) → passed w r ≡ Err f → passed {X = Of 41 × OneOf (52 ∷ (53 ∷ []))} (x, (w, q)) r ≡ Err f
    none q (Ok z) k = absurd (never_ok _ _ (sym k))
    none q (Err g) k = let z : ◌≡◌ {A = Refusal} g f = cc in ap Err z

    go : (b : Bool) (q : among signed (class_of w.item) ≡ b) → cond b (passed w (from ws v)) (Err (misfit (w ∷ ws) v)) ≡ Err f → second_by 41 signed x w ws v b q ≡ Err f
    go true q k = none q (from ws v) k
    go false q k = let z : ◌≡◌ {A = Refusal} (misfit (w ∷ ws) v) f = cc in ap Err z
second_err x [] (Ok p) m h f e = let k = ap (any_taken signed) (sym (same_ok m _ h)) ∙ e in let z : ◌≡◌ {A = Refusal} (misfit [] (Ok p)) f = cc in ap Err z
second_err x [] (Err g) m h f e = absurd (never_ok _ _ (sym h))

-- the `-` is taken, and what comes then
tailed : (x : Of 41) (r : Result Stream Refusal) (y : Of 41) (m : Stream) → passed x r ≡ Ok (y, m) → (x ≡ y) × (Ok m ≡ r)
tailed x (Ok z) y m e = let h = same_ok (x, z) (y, m) e in (ap (λ (p : Of 41 × Stream). p.0) h, ap (λ (p : Of 41 × Stream). Ok p.1) (sym h))
tailed x (Err f) y m e = absurd (never_ok _ _ e)

joint_of : (t : Placed Lexeme) (ts : List (Placed Lexeme)) (v : Verdict) (b : Bool) (q : is_class 41 t ≡ b) (x : Of 41) (m : Stream) → take_by 41 t ts v b q ≡ Ok (x, m) → (take_joint_by 41 signed t ts v b q ≡ second 41 signed x ts v) × (Ok m ≡ from ts v)
joint_of t ts v true q x m e = let h = tailed (t, q) (from ts v) x m e in (ap (λ y. second 41 signed y ts v) h.0, h.1)
joint_of t ts v false q x m e = absurd (never_ok _ _ e)

pub joint_ok : (s : Stream) (x : Of 41) (m : Stream) (u : Placed Lexeme) (z : Stream) → taken 41 s ≡ Ok (x, m) → any_taken (52 ∷ (53 ∷ [])) m ≡ Ok (u, z) → Both x u z (jointly s)
joint_ok s x m u z = go s.tokens s.verdict
  where
    go : (ts : List (Placed Lexeme)) (v : Verdict) → taken 41 (record { tokens = ts; verdict = v }) ≡ Ok (x, m) → any_taken (52 ∷ (53 ∷ [])) m ≡ Ok (u, z) → Both x u z (jointly (record { tokens = ts; verdict = v }))
    go [] v e h = absurd (never_ok _ _ e)
    go (t ∷ ts) v e h = let j = joint_of t ts v (is_class 41 t) refl x m e in subst (Both x u z) (sym j.0) (second_ok x ts v m j.1 u z h)

pub joint_err : (s : Stream) (x : Of 41) (m : Stream) (f : Refusal) → taken 41 s ≡ Ok (x, m) → any_taken (52 ∷ (53 ∷ [])) m ≡ Err f → jointly s ≡ Err f
joint_err s x m f = go s.tokens s.verdict
  where
    go : (ts : List (Placed Lexeme)) (v : Verdict) → taken 41 (record { tokens = ts; verdict = v }) ≡ Ok (x, m) → any_taken (52 ∷ (53 ∷ [])) m ≡ Err f → jointly (record { tokens = ts; verdict = v }) ≡ Err f
    go [] v e h = absurd (never_ok _ _ e)
    go (t ∷ ts) v e h = let j = joint_of t ts v (is_class 41 t) refl x m e in j.0 ∙ second_err x ts v m j.1 f h

-- as a piece of the grammar
unfoldable pub joint_made : (d : ℕ) → Makes (Of 41 × OneOf (52 ∷ (53 ∷ []))) → Makes (TreeAt rule d (joint 41 (52 ∷ (53 ∷ []))))
unfolding Tree
joint_made d act x = act x

unfoldable pub build_joint : (d : ℕ) {act : Makes (Of 41 × OneOf (52 ∷ (53 ∷ [])))} {a b : Reader} {r : Answer} → Builds act (jointly (stream_of a)) a r b → Builds (joint_made d act) (parse_at rule d (joint 41 (52 ∷ (53 ∷ []))) (stream_of a)) a r b
unfolding Tree parse joint_made
build_joint d r = r

pub silent_mark : Silent mark_made
silent_mark = record { nodes = λ x n. refl; number = λ x n. refl; place = λ x n. refl }

-- a `-` and a number were taken
pub record Joined (a b : Reader) (p : ℕ) (t : Lexeme) : Type 0 where
  pub tree : Of 41 × OneOf (52 ∷ (53 ∷ []))
  pub place : p ≡ tree.0.0.place
  pub magnitude_is : magnitude t ≡ magnitude tree.1.0.item
  pub whole : Whole (jointly (stream_of a)) a b tree [] 2

unfoldable pub joined : {a m b : Reader} {i p k q : ℕ} → Takes (token_made 41) (taken 41 (stream_of a)) a (Ok (i, p)) m → Takes mark_made (any_taken (52 ∷ (53 ∷ [])) (stream_of m)) m (Ok (k, q)) b → Joined a b p (lexeme m.token)
unfolding Both
joined {a} {m} {b} r s =
    let x = got r.reads in
    let u = got s.reads in
    let j = joint_ok (stream_of a) x.tree (stream_of m) u.tree (stream_of b) x.read u.read in
    record {
      tree = (x.tree, (u.tree, j.0));
      place = x.place;
      magnitude_is = ap (λ (z : Placed Lexeme). magnitude z.item) (sym (any_is (52 ∷ (53 ∷ [])) (lexeme m.token) m.place _ u.tree (stream_of b) u.read));
      whole = record { part = token_on silent_mark.nodes (token_on (silent_token 41).nodes (start a refl) r _ refl) s _ j.1 };
    }

pub not_joined : {a m b : Reader} {i p : ℕ} {f : Refusal} → Takes (token_made 41) (taken 41 (stream_of a)) a (Ok (i, p)) m → Takes mark_made (any_taken (52 ∷ (53 ∷ [])) (stream_of m)) m (Err f) b → Reads negative_made (jointly (stream_of a)) a (Err f) b
not_joined {a} {m} {f = f} r s =
    let x = got r.reads in
    record { lends = s.reads.lends ∙ r.reads.lends; goes = tt; reads = sym (ap (written negative_made (state_of a)) (joint_err (stream_of a) x.tree (stream_of m) f x.read (refused s.reads))) }

-- what is no number has neither class of numbers
pub no_number : (t : Token (Bor (List ℕ))) → ((v : ℕ) → t ≡ token.Number v → ⊥) → among (52 ∷ (53 ∷ [])) (class_of (lexeme t)) ≡ false
no_number (token.Word k) n =
    none_of (class_number (class.Word k)) (52 ∷ (53 ∷ []))
    ((λ e. let q : ◌≡◌ {A = TokenClass} (class.Word k) class.Number = class_one (class.Word k) class.Number e in cc), ((λ e. let q : ◌≡◌ {A = TokenClass} (class.Word k) class.Large = class_one (class.Word k) class.Large e in cc), tt))
no_number (token.Sign s) n =
    none_of (class_number (class.Sign s)) (52 ∷ (53 ∷ []))
    ((λ e. let q : ◌≡◌ {A = TokenClass} (class.Sign s) class.Number = class_one (class.Sign s) class.Number e in cc), ((λ e. let q : ◌≡◌ {A = TokenClass} (class.Sign s) class.Large = class_one (class.Sign s) class.Large e in cc), tt))
no_number (token.Name b) n = refl
no_number (token.Number v) n = absurd (n v refl)
no_number token.End n = refl

-- ---- values of 32 bits

pub positive_value : (n : ℕ) (t : Lexeme) → n ≡ magnitude t → eqb (class_of t) 52 ≡ true → to_z w32 n ≡ pos (magnitude t)
positive_value n t e h = let small = alone_small t h in to_z_pos w32 n (omega arith) ∙ ap pos e

fits_neg : (n : ℕ) → n ≤ 2147483648 → SFits w32 (minus n)
fits_neg zero h = record { sfits = omega arith }
fits_neg (suc n) h = record { sfits = omega arith }

pub negative_value : (z : ℤ) (n : ℕ) → z ≡ minus n → n ≤ 2147483648 → to_z w32 (of_z w32 z) ≡ minus n
negative_value z n e h = ap (λ x. to_z w32 (of_z w32 x)) e ∙ to_z-of_z w32 (minus n) (fits_neg n h)

-- a number is no larger than the text layer lets it be
pub magnitude_fits : (t : Lexeme) → size t ≤ most t → magnitude t ≤ 2147483648
magnitude_fits (token.Word k) h = omega arith
magnitude_fits (token.Name n) h = omega arith
magnitude_fits (token.Number v) h = h
magnitude_fits (token.Sign s) h = omega arith
magnitude_fits token.End h = omega arith
