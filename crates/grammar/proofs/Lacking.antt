-- Trees that have no token of a class.
use Rattle.std.proofs.Common.{◌≡◌, ℕ, zero, suc, Bool, true, false, not, ◌&&◌, ◌||◌, eqb, List, [], ◌∷◌, ◌++◌, sym, refl, subst, inl, inr}
use Rattle.std.proofs.lemmas.Bool.{and_parts, not-true, ne_eqb, both_ways}
use Rattle.std.specs.List.{AllByRecursion}
use Rattle.text.specs.declared.places.Placed.{Placed}
use Rattle.text.specs.Tokens.{Lexeme, Verdict}
use Rattle.grammar.specs.Firsts.{lacks, Language, Lawful}
use Rattle.grammar.specs.Grammars.{Gram, tok, joint, nil, seq, alt, many, ahead, nest, OneOf, Tree, Yield, yield, each_yield, Inner, inner_yield}
use Rattle.grammar.specs.Parsers.{two}
use Rattle.grammar.specs.TokenClasses.{class_of, is_class, among}
use Rattle.grammar.proofs.Heads.{Fits, Begun, one_class}

abbrev pub NoClass : ℕ → List (Placed Lexeme) → Type 0
NoClass k ts = AllByRecursion (λ t. is_class k t ≡ false) ts

none_both : (k : ℕ) (a b : List (Placed Lexeme)) → NoClass k a → NoClass k b → NoClass k (a ++ b)
none_both k [] b h l = l
none_both k (t ∷ ts) b (e, h) l = (e, none_both k ts b h l)

none_each : {X : Type 0} (k : ℕ) (y : Yield X) → ((x : X) → NoClass k (y x)) → (xs : List X) → NoClass k (each_yield y xs)
none_each k y h [] = tt
none_each k y h (x ∷ xs) = none_both k (y x) (each_yield y xs) (h x) (none_each k y h xs)

-- a class that is not among some is none of theirs
other_class : (k : ℕ) (cs : List ℕ) (c : ℕ) → among cs k ≡ false → among cs c ≡ true → eqb c k ≡ false
other_class k cs c h e = ne_eqb c k (λ q. both_ways (among cs k) h (subst (λ z. among cs z ≡ true) q e))

two_of : (c : ℕ) (cs : List ℕ) (x : OneOf cs) → among (c ∷ cs) (class_of x.0.item) ≡ true
two_of c cs x = go (eqb (class_of x.0.item) c) x.1
  where
    go : (b : Bool) → among cs (class_of x.0.item) ≡ true → (b || among cs (class_of x.0.item)) ≡ true
    go true e = refl
    go false e = e

module _ {N : Type 0} {In : N → Type 0} (yIn : (n : N) → Yield (In n)) (bars : N → Bool) (k : ℕ) (inner : (n : N) → bars n ≡ true → (x : In n) → NoClass k (yIn n x)) where
  pub lacking : (g : Gram N) → lacks bars k g ≡ true → (x : Tree In g) → NoClass k (yield yIn g x)
  unfolding Tree yield
  lacking (tok c) h x = (other_class k (c ∷ []) _ (not-true _ h) (one_class c [] x), tt)
  lacking (joint c cs) h x =
      let n = not-true (among (c ∷ cs) k) h in
      (other_class k (c ∷ cs) _ n (one_class c cs x.0), (other_class k (c ∷ cs) _ n (two_of c cs x.1), tt))
  lacking nil h x = tt
  lacking (seq a b) h x =
      let p = and_parts (lacks bars k a) (lacks bars k b) h in
      none_both k _ _ (lacking a p.0 x.0) (lacking b p.1 x.1)
  lacking (alt a b) h (inl x) = lacking a (and_parts (lacks bars k a) (lacks bars k b) h).0 x
  lacking (alt a b) h (inr x) = lacking b (and_parts (lacks bars k a) (lacks bars k b) h).1 x
  lacking (many g) h x = none_each k (yield yIn g) (lacking g h) x
  lacking (ahead c e g l) h (inl x) =
      let p = and_parts (not (among (c ∷ (e ∷ [])) k)) _ h in
      let q = and_parts (lacks bars k g) (lacks bars k l) p.1 in
      let n = not-true (among (c ∷ (e ∷ [])) k) p.0 in
      (other_class k (c ∷ (e ∷ [])) _ n (one_class c (e ∷ []) x.0), (other_class k (c ∷ (e ∷ [])) _ n (two_of c (e ∷ []) (x.1.0, one_class e [] x.1)), lacking g q.0 x.2))
  lacking (ahead c e g l) h (inr x) =
      let p = and_parts (not (among (c ∷ (e ∷ [])) k)) _ h in
      lacking l (and_parts (lacks bars k g) (lacks bars k l) p.1).1 x
  lacking (nest c n) h x =
      let p = and_parts (not (among (c ∷ []) k)) (bars n) h in
      (other_class k (c ∷ []) _ (not-true _ p.0) (one_class c [] x.0), inner n p.1 x.1)

pub lacking_in : {N : Type 0} (L : Language N) → Lawful L → (k d : ℕ) (n : N) → L.bars k n ≡ true → (x : Inner L.rule d n) → NoClass k (inner_yield L.rule d n x)
unfolding Inner inner_yield
lacking_in L law k zero n h x = absurd x
lacking_in L law k (suc d) n h x =
    lacking (inner_yield L.rule d) (L.bars k) k (lacking_in L law k d) (L.rule n) (law.barred k n h) x

-- where the second token is not of a class
pub not_two : (c e : ℕ) (cs fs : List ℕ) (ts rest : List (Placed Lexeme)) (v : Verdict) → Begun cs ts → NoClass e ts → among fs e ≡ false → Fits fs rest v → two c e (ts ++ rest) ≡ false
not_two c e cs fs ts rest v b n h f =
    subst (λ l. two c e (l ++ rest) ≡ false) (sym b.are) (go b.more rest (subst (NoClass e) b.are n).1 f)
  where
    and_false : (x : Bool) (y : Bool) → y ≡ false → (x && y) ≡ false
    and_false true y q = q
    and_false false y q = refl

    go : (more rest : List (Placed Lexeme)) → NoClass e more → Fits fs rest v → two c e (b.first ∷ (more ++ rest)) ≡ false
    go [] [] n f = refl
    go [] (u ∷ us) n f = and_false (is_class c b.first) (is_class e u) (other_class e fs (class_of u.item) h f.may)
    go (u ∷ us) rest n f = and_false (is_class c b.first) (is_class e u) n.0
