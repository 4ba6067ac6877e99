-- A tree of a grammar of which one is easily made.
use Rattle.std.proofs.Common.{◌≡◌, ℕ, zero, suc, Bool, true, false, [], refl, inl, inr, ⊎_elim, arith}
use Rattle.std.proofs.lemmas.Bool.{and_parts, or_cases, both_ways}
use Rattle.grammar.specs.Grammars.{Gram, tok, joint, nil, seq, alt, many, ahead, nest, Tree, Inner}
use Rattle.grammar.specs.Viable.{easy, token_of, token_in, Ready}

pub sample : {N : Type 0} {In : N → Type 0} (deep : Bool) → (deep ≡ true → (n : N) → In n) → (g : Gram N) → easy deep g ≡ true → Tree In g
unfolding Tree
sample deep inner (tok c) h = (token_of c, h)
sample deep inner (joint c cs) h = let p = and_parts _ _ h in ((token_of c, p.0), (token_in cs, p.1))
sample deep inner nil h = tt
sample deep inner (seq a b) h =
    let p = and_parts (easy deep a) (easy deep b) h in
    (sample deep inner a p.0, sample deep inner b p.1)
sample deep inner (alt a b) h =
    ⊎_elim (λ e. inl (sample deep inner a e)) (λ e. inr (sample deep inner b e)) (or_cases (easy deep a) (easy deep b) h)
sample deep inner (many g) h = []
sample deep inner (ahead c e g l) h = inr (sample deep inner l h)
sample deep inner (nest c n) h = let p = and_parts deep _ h in ((token_of c, p.1), inner p.0 n)

-- a rule, where something may be opened
pub sample_in : {N : Type 0} (rule : N → Gram N) → Ready rule → (d e : ℕ) → d ≡ suc e → (n : N) → Inner rule d n
unfolding Inner
sample_in rule ready zero e h n = absurd (omega (arith, h))
sample_in rule ready (suc d) e h n = sample false (λ k. absurd (both_ways false refl k)) (rule n) (ready.made n)
