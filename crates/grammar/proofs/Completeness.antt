-- Every tree is read, and as itself.
use Rattle.std.proofs.Common.{◌≡◌, ℕ, zero, suc, ◌≤◌, Bool, true, false, not, ◌&&◌, List, [], ◌∷◌, ◌++◌, length, Ok, sym, refl, ap, ◌∙◌, subst, inl, inr, arith}
use mathlib.Core.Bool.{Bool-set}
use Rattle.std.proofs.lemmas.List.{append_assoc, length-append}
use Rattle.std.proofs.lemmas.Bool.{and_parts, not-true, both_ways}
use Rattle.text.specs.declared.places.Placed.{Placed}
use Rattle.text.specs.Tokens.{Lexeme, Verdict}
use Rattle.grammar.specs.Firsts.{nullable, when, firsts, apart, lacks, told, Language, Lawful}
use Rattle.grammar.specs.Grammars.{Gram, tok, joint, nil, seq, alt, many, ahead, nest, Of, OneOf, Tree, Yield, yield, each_yield, Inner, inner_yield, spelled}
use Rattle.grammar.specs.Parsers.{Read, bind, passed, take_by, take, second_by, second, take_joint_by, take_joint, loop, two, open_by, opening, begins, parse, parse_in, parse_at}
use Rattle.grammar.specs.Streams.{Stream, from}
use Rattle.grammar.specs.TokenClasses.{class_of, is_class, among}
use Rattle.grammar.proofs.Classes.{among_left, among_apart, among_within}
use Rattle.grammar.proofs.Heads.{Headed, Begun, headed, Fits, fits_headed, fits_some, fits_right}
use Rattle.grammar.proofs.Unrolling.{long_of}
use Rattle.grammar.proofs.Lacking.{NoClass, lacking, lacking_in, not_two}

abbrev pub at_hand : List (Placed Lexeme) → Verdict → Stream
at_hand ts v = record { tokens = ts; verdict = v }

-- a token
pub take_is : (c : ℕ) (x : Of c) (rest : List (Placed Lexeme)) (v : Verdict) → from rest v ≡ Ok (at_hand rest v) → take c (x.0 ∷ rest) v ≡ Ok (x, at_hand rest v)
take_is c (t, e) rest v alive = go (is_class c t) refl e
  where
    go : (b : Bool) (k : is_class c t ≡ b) → b ≡ true → take_by c t rest v b k ≡ Ok ((t, e), at_hand rest v)
    go true k h = ap (passed (t, k)) alive ∙ ap (λ q. Ok ((t, q), at_hand rest v)) (Bool-set (is_class c t) true k e)
    go false k h = absurd (both_ways false refl h)

second_is : (c : ℕ) (cs : List ℕ) (o : Of c) (x : OneOf cs) (rest : List (Placed Lexeme)) (v : Verdict) → from rest v ≡ Ok (at_hand rest v) → second c cs o (x.0 ∷ rest) v ≡ Ok ((o, x), at_hand rest v)
second_is c cs o (t, e) rest v alive = go (among cs (class_of t.item)) refl e
  where
    go : (b : Bool) (k : among cs (class_of t.item) ≡ b) → b ≡ true → second_by c cs o t rest v b k ≡ Ok ((o, (t, e)), at_hand rest v)
    go true k h = ap (passed (o, (t, k))) alive ∙ ap (λ q. Ok ((o, (t, q)), at_hand rest v)) (Bool-set (among cs (class_of t.item)) true k e)
    go false k h = absurd (both_ways false refl h)

pub joint_is : (c : ℕ) (cs : List ℕ) (o : Of c) (x : OneOf cs) (rest : List (Placed Lexeme)) (v : Verdict) → from rest v ≡ Ok (at_hand rest v) → take_joint c cs (o.0 ∷ (x.0 ∷ rest)) v ≡ Ok ((o, x), at_hand rest v)
joint_is c cs (t, e) x rest v alive = go (is_class c t) refl e
  where
    go : (b : Bool) (k : is_class c t ≡ b) → b ≡ true → take_joint_by c cs t (x.0 ∷ rest) v b k ≡ Ok (((t, e), x), at_hand rest v)
    go true k h = second_is c cs (t, k) x rest v alive ∙ ap (λ q. Ok (((t, q), x), at_hand rest v)) (Bool-set (is_class c t) true k e)
    go false k h = absurd (both_ways false refl h)

-- what a token opens
open_is : {X : Type 0} (d c : ℕ) (inner : Stream → Read X) (o : Of c) (x : X) (ts rest : List (Placed Lexeme)) (v : Verdict) → from ts v ≡ Ok (at_hand ts v) → inner (at_hand ts v) ≡ Ok (x, at_hand rest v) → opening (suc d) c inner (o.0 ∷ ts) v ≡ Ok ((o, x), at_hand rest v)
open_is d c inner (t, e) x ts rest v alive r = go (is_class c t) refl e
  where
    go : (b : Bool) (k : is_class c t ≡ b) → b ≡ true → open_by (suc d) c inner t ts v b k ≡ Ok (((t, e), x), at_hand rest v)
    go true k h =
        ap (λ w. bind (passed (t, k) w) (λ o s. bind (inner s) (λ y s₁. Ok ((o, y), s₁)))) alive
        ∙ ap (λ w. bind w (λ y s₁. Ok (((t, k), y), s₁))) r
        ∙ ap (λ q. Ok (((t, q), x), at_hand rest v)) (Bool-set (is_class c t) true k e)
    go false k h = absurd (both_ways false refl h)

abbrev Complete : {X : Type 0} → Yield X → List ℕ → (Stream → Read X) → Type 0
Complete {X} y fs r = (x : X) (rest : List (Placed Lexeme)) (v : Verdict) → Fits fs rest v → r (at_hand (y x ++ rest) v) ≡ Ok (x, at_hand rest v)

alive_more : (ts rest : List (Placed Lexeme)) (v : Verdict) → from rest v ≡ Ok (at_hand rest v) → from (ts ++ rest) v ≡ Ok (at_hand (ts ++ rest) v)
alive_more [] rest v h = h
alive_more (t ∷ ts) rest v h = refl

begun_of : (cs : List ℕ) (ts : List (Placed Lexeme)) → Headed false cs ts → Begun cs ts
begun_of cs ts (inl (e, n)) = absurd (both_ways false refl n)
begun_of cs ts (inr b) = b

-- any number of items
module _ {X : Type 0} (y : Yield X) (cs fs : List ℕ) (item : Stream → Read X) (more : Stream → Bool)
    (some : (x : X) → Headed false cs (y x))
    (on : (ts : List (Placed Lexeme)) (v : Verdict) → Fits cs ts v → more (at_hand ts v) ≡ true)
    (off : (ts : List (Placed Lexeme)) (v : Verdict) → Fits fs ts v → more (at_hand ts v) ≡ false)
    (items : Complete y (cs ++ fs) item) where
  follows : (xs : List X) (rest : List (Placed Lexeme)) (v : Verdict) → Fits fs rest v → Fits (cs ++ fs) (each_yield y xs ++ rest) v
  follows [] rest v f = fits_right cs fs rest v f
  follows (x ∷ xs) rest v f =
      let h = fits_some cs (y x) (each_yield y xs ++ rest) v (some x) in
      subst (λ l. Fits (cs ++ fs) l v) (sym (append_assoc (y x) (each_yield y xs) rest))
      (record { alive = h.alive; may = among_left cs fs _ h.may })

  pub loop_is : (xs : List X) (k : ℕ) (rest : List (Placed Lexeme)) (v : Verdict) → length (each_yield y xs ++ rest) ≤ k → Fits fs rest v → loop more item k (at_hand (each_yield y xs ++ rest) v) ≡ Ok (xs, at_hand rest v)
  unfolding loop
  loop_is [] zero rest v n f = refl
  loop_is [] (suc k) rest v n f = rw (off rest v f) refl
  loop_is (x ∷ xs) zero rest v n f =
      let l = long_of false cs (y x) refl (some x) in
      let m = length-append (y x ++ each_yield y xs) rest in
      let o = length-append (y x) (each_yield y xs) in
      absurd (omega arith)
  loop_is (x ∷ xs) (suc k) rest v n f =
      let assoc = append_assoc (y x) (each_yield y xs) rest in
      let l = long_of false cs (y x) refl (some x) in
      let m = ap length assoc ∙ length-append (y x) (each_yield y xs ++ rest) in
      let goes = on (y x ++ (each_yield y xs ++ rest)) v (fits_some cs (y x) (each_yield y xs ++ rest) v (some x)) in
      let one = items x (each_yield y xs ++ rest) v (follows xs rest v f) in
      let later = loop_is xs k rest v (omega arith) f in
      rw assoc (rw goes (rw one (rw later refl)))

module _ {N : Type 0} (L : Language N) {In : N → Type 0} (yIn : (n : N) → Yield (In n)) (d : ℕ) (inner : (n : N) → Stream → Read (In n))
    (room : (n : N) → In n → (e : ℕ) × (d ≡ suc e))
    (rules : (n : N) → Complete (yIn n) (L.follow n) (inner n))
    (none : (k : ℕ) (n : N) → L.bars k n ≡ true → (x : In n) → NoClass k (yIn n x)) where
  -- an alternative that is taken, and one that is passed over
  taken : (g : Gram N) (ts : List (Placed Lexeme)) (v : Verdict) → Fits (firsts g) ts v → begins g (at_hand ts v) ≡ true
  taken g ts v f = f.may

  passed_over : (g : Gram N) (fs : List ℕ) (ts : List (Placed Lexeme)) (v : Verdict) → apart (firsts g) fs ≡ true → Fits fs ts v → begins g (at_hand ts v) ≡ false
  passed_over g fs ts v h f = among_apart (firsts g) fs _ h f.may

  solid : (g : Gram N) → not (nullable g) ≡ true → (x : Tree In g) → Headed false (firsts g) (yield yIn g x)
  solid g h x = subst (λ b. Headed b (firsts g) (yield yIn g x)) (not-true (nullable g) h) (headed yIn g x)

  pub complete : (g : Gram N) (fs : List ℕ) → told L g fs ≡ true → Complete (yield yIn g) fs (parse d inner g)
  unfolding Tree yield parse
  complete (tok c) fs h x rest v f = take_is c x rest v f.alive
  complete (joint c cs) fs h x rest v f = joint_is c cs x.0 x.1 rest v f.alive
  complete nil fs h x rest v f = refl
  complete (seq a b) fs h x rest v f =
      let p = and_parts (told L a (firsts b ++ when (nullable b) fs)) (told L b fs) h in
      let left = complete a (firsts b ++ when (nullable b) fs) p.0 x.0 (yield yIn b x.1 ++ rest) v (fits_headed (nullable b) (firsts b) fs (yield yIn b x.1) rest v (headed yIn b x.1) f) in
      let right = complete b fs p.1 x.1 rest v f in
      rw (append_assoc (yield yIn a x.0) (yield yIn b x.1) rest) (rw left (rw right refl))
  complete (alt a b) fs h (inl x) rest v f =
      let p = and_parts (not (nullable a)) _ h in
      let q = and_parts (apart (firsts a) (firsts b ++ when (nullable b) fs)) _ p.1 in
      let r = and_parts (told L a fs) (told L b fs) q.1 in
      let goes = taken a (yield yIn a x ++ rest) v (fits_some (firsts a) (yield yIn a x) rest v (solid a p.0 x)) in
      rw goes (rw (complete a fs r.0 x rest v f) refl)
  complete (alt a b) fs h (inr x) rest v f =
      let p = and_parts (not (nullable a)) _ h in
      let q = and_parts (apart (firsts a) (firsts b ++ when (nullable b) fs)) _ p.1 in
      let r = and_parts (told L a fs) (told L b fs) q.1 in
      let stays = passed_over a (firsts b ++ when (nullable b) fs) (yield yIn b x ++ rest) v q.0 (fits_headed (nullable b) (firsts b) fs (yield yIn b x) rest v (headed yIn b x) f) in
      rw stays (rw (complete b fs r.1 x rest v f) refl)
  complete (many g) fs h x rest v f =
      let p = and_parts (not (nullable g)) _ h in
      let q = and_parts (apart (firsts g) fs) (told L g (firsts g ++ fs)) p.1 in
      loop_is (yield yIn g) (firsts g) fs (parse d inner g) (begins g) (solid g p.0) (taken g) (λ ts u. passed_over g fs ts u q.0) (complete g (firsts g ++ fs) q.1) x _ rest v (omega arith) f
  complete (ahead c e g l) fs h (inl x) rest v f =
      let p = and_parts (not (nullable l)) _ h in
      let q = and_parts (not (among fs e)) _ p.1 in
      let r = and_parts (lacks (L.bars e) e l) _ q.1 in
      let t = and_parts (told L g fs) (told L l fs) r.1 in
      let goes : two c e (x.0.0 ∷ (x.1.0 ∷ (yield yIn g x.2 ++ rest))) ≡ true = ap (λ b. b && is_class e x.1.0) x.0.1 ∙ x.1.1 in
      let first = take_is c x.0 (x.1.0 ∷ (yield yIn g x.2 ++ rest)) v refl in
      let next = take_is e x.1 (yield yIn g x.2 ++ rest) v (alive_more (yield yIn g x.2) rest v f.alive) in
      rw goes (rw first (rw next (rw (complete g fs t.0 x.2 rest v f) refl)))
  complete (ahead c e g l) fs h (inr x) rest v f =
      let p = and_parts (not (nullable l)) _ h in
      let q = and_parts (not (among fs e)) _ p.1 in
      let r = and_parts (lacks (L.bars e) e l) _ q.1 in
      let t = and_parts (told L g fs) (told L l fs) r.1 in
      let stays = not_two c e (firsts l) fs (yield yIn l x) rest v (begun_of (firsts l) (yield yIn l x) (solid l p.0 x)) (lacking yIn (L.bars e) e (none e) l r.0 x) (not-true (among fs e) q.0) f in
      rw stays (rw (complete l fs t.1 x rest v f) refl)
  complete (nest c n) fs h x rest v f =
      let (e, q) = room n x.1 in
      let inside = rules n x.1 rest v (record { alive = f.alive; may = among_within fs (L.follow n) _ h f.may }) in
      subst (λ k. opening k c (inner n) (x.0.0 ∷ (yIn n x.1 ++ rest)) v ≡ Ok (x, at_hand rest v)) (sym q)
      (open_is e c (inner n) x.0 x.1 (yIn n x.1 ++ rest) rest v (alive_more (yIn n x.1) rest v f.alive) inside)

module _ {N : Type 0} (L : Language N) (law : Lawful L) where
  -- something may be opened where there is a tree of what is opened
  room_in : (d : ℕ) (n : N) → Inner L.rule d n → (e : ℕ) × (d ≡ suc e)
  unfolding Inner
  room_in zero n x = absurd x
  room_in (suc d) n x = (d, refl)

  pub complete_in : (d : ℕ) (n : N) → Complete (inner_yield L.rule d n) (L.follow n) (parse_in L.rule d n)
  unfolding Inner inner_yield parse_in
  complete_in zero n x rest v f = absurd x
  complete_in (suc d) n x rest v f =
      complete L (inner_yield L.rule d) d (parse_in L.rule d) (room_in d) (complete_in d) (λ k m h. lacking_in L law k d m h) (L.rule n) (L.follow n) (law.rules n) x rest v f

  pub complete_at : (d : ℕ) (g : Gram N) (fs : List ℕ) → told L g fs ≡ true → Complete (spelled L.rule d g) fs (parse_at L.rule d g)
  complete_at d g fs h =
      complete L (inner_yield L.rule d) d (parse_in L.rule d) (room_in d) (complete_in d) (λ k m q. lacking_in L law k d m q) g fs h
