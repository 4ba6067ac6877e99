-- With which tokens a grammar may begin, and whether one token ahead tells what comes.
use Rattle.std.specs.Prelude.{◌≡◌, ℕ, Bool, true, false, cond, not, ◌&&◌, ◌||◌, List, [], ◌∷◌, ◌++◌}
use Rattle.grammar.specs.Grammars.{Gram, tok, joint, nil, seq, alt, many, ahead, nest}
use Rattle.grammar.specs.TokenClasses.{among}

-- whether a tree may spell nothing
abbrev pub nullable : {N : Type 0} → Gram N → Bool
nullable (tok c) = false
nullable (joint c cs) = false
nullable nil = true
nullable (seq a b) = nullable a && nullable b
nullable (alt a b) = nullable a || nullable b
nullable (many g) = true
nullable (ahead c e g h) = nullable h
nullable (nest c n) = false

abbrev pub when : Bool → List ℕ → List ℕ
when b cs = cond b cs []

-- the classes of the tokens that may be first
abbrev pub firsts : {N : Type 0} → Gram N → List ℕ
firsts (tok c) = c ∷ []
firsts (joint c cs) = c ∷ []
firsts nil = []
firsts (seq a b) = firsts a ++ when (nullable a) (firsts b)
firsts (alt a b) = firsts a ++ firsts b
firsts (many g) = firsts g
firsts (ahead c e g h) = c ∷ firsts h
firsts (nest c n) = c ∷ []

abbrev pub apart : List ℕ → List ℕ → Bool
apart [] ds = true
apart (c ∷ cs) ds = not (among ds c) && apart cs ds

abbrev pub within : List ℕ → List ℕ → Bool
within [] ds = true
within (c ∷ cs) ds = among ds c && within cs ds

-- no tree has a token of the class, nor any of the rules that `bars` holds of
abbrev pub lacks : {N : Type 0} → (N → Bool) → ℕ → Gram N → Bool
lacks bars k (tok c) = not (among (c ∷ []) k)
lacks bars k (joint c cs) = not (among (c ∷ cs) k)
lacks bars k nil = true
lacks bars k (seq a b) = lacks bars k a && lacks bars k b
lacks bars k (alt a b) = lacks bars k a && lacks bars k b
lacks bars k (many g) = lacks bars k g
lacks bars k (ahead c e g h) = not (among (c ∷ (e ∷ [])) k) && (lacks bars k g && lacks bars k h)
lacks bars k (nest c n) = not (among (c ∷ []) k) && bars n

-- a language: its rules, what may follow each, and which have no token of a class
pub record Language (N : Type 0) : Type 0 where
  pub rule : N → Gram N
  pub follow : N → List ℕ
  pub bars : ℕ → N → Bool

-- one token ahead tells what comes, where one of the classes fs follows
abbrev pub told : {N : Type 0} → Language N → Gram N → List ℕ → Bool
told L (tok c) fs = true
told L (joint c cs) fs = true
told L nil fs = true
told L (seq a b) fs = told L a (firsts b ++ when (nullable b) fs) && told L b fs
told L (alt a b) fs = not (nullable a) && (apart (firsts a) (firsts b ++ when (nullable b) fs) && (told L a fs && told L b fs))
told L (many g) fs = not (nullable g) && (apart (firsts g) fs && told L g (firsts g ++ fs))
told L (ahead c e g h) fs =
    not (nullable h) && (not (among fs e) && (lacks (L.bars e) e h && (told L g fs && told L h fs)))
told L (nest c n) fs = within fs (L.follow n)

-- a rule may be read where its follow comes, and has no token that it bars
pub record Lawful {N : Type 0} (L : Language N) : Type 0 where
  pub rules : (n : N) → told L (L.rule n) (L.follow n) ≡ true
  pub barred : (k : ℕ) (n : N) → L.bars k n ≡ true → lacks (L.bars k) k (L.rule n) ≡ true
