-- What an accepting answer says of its parts.
use Rattle.std.proofs.Common.{◌≡◌, ℕ, Bool, true, false, cond, ◌⊎◌, List, [], ◌∷◌, Ok, Err, Result, sym, refl, ap, inl, inr, arith}
use Rattle.text.specs.declared.places.Placed.{Placed}
use Rattle.text.specs.Tokens.{Lexeme, Verdict}
use Rattle.grammar.specs.Parsers.{Read, bind, passed}
use Rattle.grammar.specs.Streams.{Stream, from}

pub same_ok : {X E : Type 0} (x y : X) → ◌≡◌ {A = Result X E} (Ok x) (Ok y) → x ≡ y
same_ok x y e = cc

pub never_ok : {X E : Type 0} (x : X) (f : E) → ◌≡◌ {A = Result X E} (Err f) (Ok x) → ⊥
never_ok x f e = let z : ◌≡◌ {A = ℕ} 0 1 = cc in omega arith

pub bound : {X Y : Type 0} (r : Read X) (k : X → Stream → Read Y) (p : Y × Stream) → bind r k ≡ Ok p → (q : X × Stream) × (r ≡ Ok q) × (k q.0 q.1 ≡ Ok p)
bound (Ok q) k p e = (q, refl, e)
bound (Err f) k p e = absurd (never_ok p f e)

pub chosen : {X : Type 0} (b : Bool) (x y : Read X) (p : X × Stream) → cond b x y ≡ Ok p → ((b ≡ true) × (x ≡ Ok p)) ⊎ ((b ≡ false) × (y ≡ Ok p))
chosen true x y p e = inl (refl, e)
chosen false x y p e = inr (refl, e)

pub stream : List (Placed Lexeme) → Verdict → Stream
stream ts v = record { tokens = ts; verdict = v }

pub passed_on : {X : Type 0} (x : X) (ts : List (Placed Lexeme)) (v : Verdict) (p : X × Stream) → passed x (from ts v) ≡ Ok p → (x ≡ p.0) × (ts ≡ p.1.tokens) × (p.1.verdict ≡ v)
passed_on x (t ∷ ts) v p e =
    let q = same_ok (x, record { tokens = t ∷ ts; verdict = v }) p e in
    (ap (λ r. r.0) q, ap (λ r. r.1.tokens) q, ap (λ r. r.1.verdict) (sym q))
passed_on x [] (Ok m) p e =
    let q = same_ok (x, record { tokens = []; verdict = Ok m }) p e in
    (ap (λ r. r.0) q, ap (λ r. r.1.tokens) q, ap (λ r. r.1.verdict) (sym q))
passed_on x [] (Err f) p e = absurd (never_ok p _ e)
