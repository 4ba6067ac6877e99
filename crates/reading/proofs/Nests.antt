-- A construct one level further in, after the token that opens it.
use Rattle.std.proofs.Common.{◌≡◌, ℕ, zero, suc, ◌-◌, ◌<◌, Bool, true, false, cond, List, [], ◌∷◌, IfOk, Ok, Err, refl, ap, ◌∙◌, subst, arith}
use Rattle.text.specs.declared.places.Placed.{Placed}
use Rattle.text.specs.Steps.{at}
use Rattle.text.specs.Tokens.{Lexeme, Verdict}
use Rattle.grammar.specs.declared.faults.GrammarFault.TheVariants.{TooDeep}
use Rattle.grammar.specs.Grammars.{nest, Of, Tree, Inner, TreeAt}
use Rattle.grammar.specs.Parsers.{Read, bind, take_by, open_by, opening, misfit, parse, parse_in, parse_at}
use Rattle.grammar.specs.Streams.{Stream, Refusal}
use Rattle.grammar.specs.TokenClasses.{is_class}
use Rattle.syntax.specs.Nodes.{inner_made, rule_made}
use Rattle.syntax.specs.Syntax.{Rule, rule}
use Rattle.reading.specs.declared.readers.Reader.{Reader}
use Rattle.reading.specs.States.{stream_of, Answer, Reads, Takes, Builds}
use Rattle.reading.specs.Nests.{nest_made, rule_at}
use Rattle.reading.specs.Steps.{opened, opened_in, token_made}
use Rattle.reading.proofs.Sequences.{got, refused, refuse_as, silent_token, start, token_on, Left, only, pass, stop_last}

unfoldable pub nested : (d c : ℕ) (n : Rule) → Of c → TreeAt rule d (rule n) → TreeAt rule (suc d) (nest c n)
unfolding Tree Inner
nested d c n o x = (o, x)

open_by_lem : {X : Type 0} (d c : ℕ) (inner : Stream → Read X) (t : Placed Lexeme) (ts : List (Placed Lexeme)) (v : Verdict) (b : Bool) (e : is_class c t ≡ b) → open_by (suc d) c inner t ts v b e ≡ bind (take_by c t ts v b e) (λ o s. bind (inner s) (λ x s₁. Ok ((o, x), s₁)))
open_by_lem d c inner t ts v true e = refl
open_by_lem d c inner t ts v false e = refl

open_is : {X : Type 0} (d c : ℕ) (inner : Stream → Read X) (ts : List (Placed Lexeme)) (v : Verdict) → opening (suc d) c inner ts v ≡ bind (opened_in (suc d) c ts v) (λ o s. bind (inner s) (λ x s₁. Ok ((o, x), s₁)))
open_is d c inner [] v = refl
open_is d c inner (t ∷ ts) v = open_by_lem d c inner t ts v (is_class c t) refl

-- the token is taken, and the rule is left
after_open : (d c : ℕ) (n : Rule) (s m : Stream) (o : Of c) → opened (suc d) c s ≡ Ok (o, m) → parse_at rule (suc d) (nest c n) s ≡ bind (parse_at rule d (rule n) m) (λ x t. Ok (nested d c n o x, t))
unfolding Tree Inner parse parse_in nested
after_open d c n s m o e =
    open_is d c (parse_in rule (suc d) n) s.tokens s.verdict
    ∙ ap (λ r. bind r (λ o s. bind (parse_in rule (suc d) n s) (λ x s₁. Ok ((o, x), s₁)))) e

-- the token that would open it is refused
refused_by : {X : Type 0} (c : ℕ) (inner : Stream → Read X) (t : Placed Lexeme) (ts : List (Placed Lexeme)) (v : Verdict) (b : Bool) (e : is_class c t ≡ b) (f : Refusal) → cond b (Err (at TooDeep t.place)) (take_by c t ts v b e) ≡ Err f → open_by 0 c inner t ts v b e ≡ Err f
refused_by c inner t ts v true e f h = let z : ◌≡◌ {A = Refusal} (at TooDeep t.place) f = cc in ap Err z
refused_by c inner t ts v false e f h = let z : ◌≡◌ {A = Refusal} (misfit (t ∷ ts) v) f = cc in ap Err z

refused_in : {X : Type 0} (d c : ℕ) (inner : Stream → Read X) (ts : List (Placed Lexeme)) (v : Verdict) (f : Refusal) → opened_in d c ts v ≡ Err f → opening d c inner ts v ≡ Err f
refused_in zero c inner [] v f e = let z : ◌≡◌ {A = Refusal} (misfit [] v) f = cc in ap Err z
refused_in zero c inner (t ∷ ts) v f e = refused_by c inner t ts v (is_class c t) refl f e
refused_in (suc d) c inner ts v f e = open_is d c inner ts v ∙ ap (λ r. bind r (λ o s. bind (inner s) (λ x s₁. Ok ((o, x), s₁)))) e

refused_at : (d c : ℕ) (n : Rule) (s : Stream) (f : Refusal) → opened d c s ≡ Err f → parse_at rule d (nest c n) s ≡ Err f
unfolding Tree parse
refused_at d c n s f e = refused_in d c (parse_in rule d n) s.tokens s.verdict f e

pub not_opened : (d c : ℕ) (n : Rule) {a b : Reader} {f : Refusal} → Takes (token_made c) (opened d c (stream_of a)) a (Err f) b → Reads (nest_made d c n) (parse_at rule d (nest c n) (stream_of a)) a (Err f) b
not_opened d c n {a} {b} {f} t = refuse_as t.reads (refused_at d c n (stream_of a) f (refused t.reads))

-- the token was taken, and the rule is left
pub record Opened (d c : ℕ) (n : Rule) (a m : Reader) (p : ℕ) : Type 0 where
  pub token : Of c
  pub place : p ≡ token.0.place
  pub more : Left (parse_at rule (suc d) (nest c n) (stream_of a)) a m d (rule n) (nested d c n token) [] 1

pub open_left : (d c : ℕ) (n : Rule) {a m : Reader} {i p : ℕ} → Takes (token_made c) (opened (suc d) c (stream_of a)) a (Ok (i, p)) m → Opened d c n a m p
open_left d c n {a} {m} t =
    let g = got t.reads in
    record { token = g.tree; place = g.place; more = record { part = token_on (silent_token c).nodes (start a refl) t _ (after_open d c n (stream_of a) (stream_of m) g.tree g.read) } }

opened_at : (d c : ℕ) (n : Rule) {a m b : Reader} {i p : ℕ} (r : Answer) → Takes (token_made c) (opened (suc d) c (stream_of a)) a (Ok (i, p)) m → Reads (rule_at d n p) (parse_at rule d (rule n) (stream_of m)) m r b → Reads (nest_made (suc d) c n) (parse_at rule (suc d) (nest c n) (stream_of a)) a r b
unfolding Tree Inner nest_made nested inner_made
opened_at d c n {a} {m} {p = p} (Ok q) t r =
    let o = open_left d c n t in
    let u = only o.more r in
    pass u.whole ((λ i. record { nodes = (rule_made (inner_made d) n u.tree p a.count).nodes; number = u.number i; place = u.place i }) ∙ ap (λ z. rule_made (inner_made d) n u.tree z a.count) o.place)
opened_at d c n (Err f) t r = stop_last (open_left d c n t).more r

-- the same, by the number of those that may be open
pub opens : (d c : ℕ) (n : Rule) {a m b : Reader} {i p : ℕ} {r : Answer} → 0 < d → Takes (token_made c) (opened d c (stream_of a)) a (Ok (i, p)) m → Reads (rule_at (d - 1) n p) (parse_at rule (d - 1) (rule n) (stream_of m)) m r b → Reads (nest_made d c n) (parse_at rule d (nest c n) (stream_of a)) a r b
opens zero c n h t r = absurd (omega arith)
opens (suc d) c n {a} {m} {b} {i} {p} {r} h t q =
    opened_at d c n r t (subst (λ e. Reads (rule_at e n p) (parse_at rule e (rule n) (stream_of m)) m r b) (let z : suc d - 1 ≡ d = omega arith in z) q)

lasts : (a m b : Reader) (r : Answer) → m.count ≡ a.count → IfOk r (λ x. (x.0 ≡ b.count) × (m.count < b.count)) → IfOk r (λ x. (x.0 ≡ b.count) × (a.count < b.count))
lasts a m b (Ok q) same h = let more = h.1 in (h.0, omega arith)
lasts a m b (Err f) same h = tt

pub opens_node : (d c : ℕ) (n : Rule) {a m b : Reader} {i p : ℕ} {r : Answer} → 0 < d → Takes (token_made c) (opened d c (stream_of a)) a (Ok (i, p)) m → Builds (rule_at (d - 1) n p) (parse_at rule (d - 1) (rule n) (stream_of m)) m r b → Builds (nest_made d c n) (parse_at rule d (nest c n) (stream_of a)) a r b
opens_node d c n {a} {m} {b} {r = r} h t q = record { reads = opens d c n h t q.reads; last = lasts a m b r t.steps.0 q.last }
