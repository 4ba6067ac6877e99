-- Where a token does not fit, what stands before it begins a tree, and does not with that token.
use Rattle.std.proofs.Common.{◌≡◌, ℕ, zero, suc, Bool, true, false, cond, not, ◌||◌, ◌⊎◌, List, [], ◌∷◌, ◌++◌, Ok, Err, sym, refl, ap, ◌∙◌, subst, inl, inr, ⊎_elim}
use Rattle.std.proofs.lemmas.List.{append-nil}
use Rattle.std.proofs.lemmas.Bool.{and_parts, not-true, both_ways, cond-true, cond-false}
use Rattle.text.specs.Steps.{at}
use Rattle.grammar.specs.declared.faults.GrammarFault.TheVariants.{Misfit}
use Rattle.grammar.specs.Firsts.{nullable, firsts, apart, told, Language, Lawful}
use Rattle.grammar.specs.Grammars.{Gram, tok, joint, nil, seq, alt, many, ahead, nest, Tree, Yield, yield, Inner, inner_yield, TreeAt, spelled}
use Rattle.grammar.specs.Parsers.{Read, bind, two, parse, parse_in, parse_at}
use Rattle.grammar.specs.Streams.{Stream}
use Rattle.grammar.specs.TokenClasses.{is_class, among}
use Rattle.grammar.specs.Viable.{Tokens, SameFront, Continues, Blocked, Viable, token_of, easy, goes_on, may_open, Ready}
use Rattle.grammar.proofs.Completeness.{complete_at}
use Rattle.grammar.proofs.Heads.{headed}
use Rattle.grammar.proofs.Inversions.{never_ok}
use Rattle.grammar.proofs.Leaves.{alive, takes, one, token_then, outcome_take, outcome_joint, open_then, opens, outcome_closed}
use Rattle.grammar.proofs.Outcomes.{whole, Reads, Stuck, Outcome, and_then, outcome_then}
use Rattle.grammar.proofs.Quiets.{Quiet, Unmet, unmet_quiet, quiet_seq, unmet_seq_left, unmet_seq_right, quiet_alt, unmet_alt, quiet_begun, quiet_more, unmet_more, two_begun, two_same}
use Rattle.grammar.proofs.Repeats.{starts_same, off_quiet, outcome_repeat}
use Rattle.grammar.proofs.Samples.{sample, sample_in}
use Rattle.grammar.proofs.Soundness.{took_none}
use Rattle.grammar.proofs.Unrolling.{starts, long_of}

-- three readers, as one and then two
then_three : {X Y Z W : Type 0} (f : X → Y → Z → W) (a : Read X) (b : Stream → Read Y) (c : Stream → Read Z) → bind a (λ x s₁. bind (b s₁) (λ y s₂. bind (c s₂) (λ z s₃. Ok (f x y z, s₃)))) ≡ and_then (λ x (w : Y × Z). f x w.0 w.1) a (λ s₁. and_then (λ y z. (y, z)) (b s₁) c)
then_three f (Err l) b c = refl
then_three {X} {Y} {Z} {W} f (Ok p) b c = go (b p.1)
  where
    last : (y : Y) (r : Read Z) → bind r (λ z s₃. Ok (f p.0 y z, s₃)) ≡ bind (bind r (λ z s₃. Ok ((y, z), s₃))) (λ (w : Y × Z) s₃. Ok (f p.0 w.0 w.1, s₃))
    last y (Ok q) = refl
    last y (Err l) = refl

    go : (r : Read Y) → bind r (λ y s₂. bind (c s₂) (λ z s₃. Ok (f p.0 y z, s₃))) ≡ bind (and_then (λ y z. (y, z)) r c) (λ (w : Y × Z) s₃. Ok (f p.0 w.0 w.1, s₃))
    go (Ok q) = last q.0 (c q.1)
    go (Err l) = refl

-- nothing more is read
abbrev none : Yield (Unit {0})
none x = []

abbrev pass : Stream → Read (Unit {0})
pass s = Ok (tt, s)

passes : (s : Stream) → Reads none pass (λ ts. Unit {0}) s (tt, s)
passes s = record { took = took_none s; live = λ a. a; again = λ ts e h. refl; idle = λ n. tt }

module _ {N : Type 0} {In : N → Type 0} (yIn : (n : N) → Yield (In n)) (d : ℕ) (inner : (n : N) → Stream → Read (In n))
    (deep : Bool) (room : deep ≡ true → (e : ℕ) × (d ≡ suc e)) (spares : (e : ℕ) → d ≡ suc e → (n : N) → In n)
    (I U : N → Tokens → Type 0) (inners : (n : N) (s : Stream) → Outcome (yIn n) (inner n) (I n) (U n) s (inner n s)) where
  spare : (g : Gram N) → easy deep g ≡ true → Tree In g
  spare g h = sample deep (λ k. let (e, q) = room k in spares e q) g h

  abbrev OutcomeOf : Gram N → Stream → Type 0
  OutcomeOf g s = Outcome (yield yIn g) (parse d inner g) (Quiet (firsts g)) (Unmet (nullable g) (firsts g)) s (parse d inner g s)

  outcome_seq : (a b : Gram N) → easy deep b ≡ true → ((s : Stream) → OutcomeOf a s) → ((s : Stream) → OutcomeOf b s) → (s : Stream) → OutcomeOf (seq a b) s
  unfolding Tree yield parse
  outcome_seq a b h left right s =
      outcome_then (yield yIn a) (yield yIn b) (yield yIn (seq a b)) (λ x z. (x, z)) (λ x z. refl)
      (parse d inner a) (parse d inner b) (parse d inner (seq a b))
      (Quiet (firsts a)) (Unmet (nullable a) (firsts a)) (Quiet (firsts b)) (Unmet (nullable b) (firsts b)) (Quiet (firsts (seq a b))) (Unmet (nullable (seq a b)) (firsts (seq a b)))
      (spare b h) s
      (quiet_seq (nullable a) (firsts a) (firsts b) s.tokens)
      (unmet_seq_left (nullable a) (nullable b) (firsts a) (firsts b) s.tokens)
      (unmet_seq_right (nullable a) (nullable b) (firsts a) (firsts b) s.tokens)
      (λ u rest ts e are q n. refl)
      (parse d inner a s) (left s) (λ x s₁ t. right s₁)

  outcome_alt : (a b : Gram N) → nullable a ≡ false → ((s : Stream) → OutcomeOf a s) → ((s : Stream) → OutcomeOf b s) → (s : Stream) → OutcomeOf (alt a b) s
  unfolding Tree yield parse
  outcome_alt a b h left right s = go (starts (firsts a) s) refl
    where
      go : (t : Bool) → starts (firsts a) s ≡ t → Outcome (yield yIn (alt a b)) (parse d inner (alt a b)) (Quiet (firsts a ++ firsts b)) (Unmet (nullable a || nullable b) (firsts a ++ firsts b)) s (cond t (bind (parse d inner a s) (λ x s₁. Ok (inl x, s₁))) (bind (parse d inner b s) (λ x s₁. Ok (inr x, s₁))))
      go true k =
          outcome_then (yield yIn a) none (yield yIn (alt a b)) (λ x z. inl x) (λ x z. sym (append-nil (yield yIn a x)))
          (parse d inner a) pass (parse d inner (alt a b))
          (Quiet (firsts a)) (Unmet (nullable a) (firsts a)) (λ ts. Unit {0}) (λ ts. ⊥) (Quiet (firsts a ++ firsts b)) (Unmet (nullable a || nullable b) (firsts a ++ firsts b))
          tt s
          (λ q i. quiet_begun (Quiet (firsts a ++ firsts b)) tt (firsts a) s.tokens s.verdict k q)
          (λ u. quiet_begun (Unmet (nullable a || nullable b) (firsts a ++ firsts b)) tt (firsts a) s.tokens s.verdict k (unmet_quiet (nullable a) (firsts a) s.tokens u))
          (λ q i. absurd i)
          (λ u rest ts e are q n. cond-true _ _ _ (starts_same (firsts a) s u rest ts e true are q k))
          (parse d inner a s) (left s) (λ x s₁ t. passes s₁)
      go false k =
          outcome_then (yield yIn b) none (yield yIn (alt a b)) (λ x z. inr x) (λ x z. sym (append-nil (yield yIn b x)))
          (parse d inner b) pass (parse d inner (alt a b))
          (Quiet (firsts b)) (Unmet (nullable b) (firsts b)) (λ ts. Unit {0}) (λ ts. ⊥) (Quiet (firsts a ++ firsts b)) (Unmet (nullable a || nullable b) (firsts a ++ firsts b))
          tt s
          (λ q i. quiet_alt (firsts a) (firsts b) s.tokens (off_quiet (firsts a) s.tokens s.verdict k) q)
          (λ u. unmet_alt (nullable a) (nullable b) (firsts a) (firsts b) s.tokens h (off_quiet (firsts a) s.tokens s.verdict k) u)
          (λ q i. absurd i)
          (λ u rest ts e are q n. cond-false _ _ _ (starts_same (firsts a) s u rest ts e false are q k))
          (parse d inner b s) (right s) (λ x s₁ t. passes s₁)

  outcome_ahead : (c k : ℕ) (g l : Gram N) → among (firsts l) c ≡ true → is_class k (token_of k) ≡ true → easy deep g ≡ true → ((s : Stream) → OutcomeOf g s) → ((s : Stream) → OutcomeOf l s) → (s : Stream) → OutcomeOf (ahead c k g l) s
  unfolding Tree yield parse
  outcome_ahead c k g l h m n left right s = go (two c k s.tokens) refl
    where
      two_again : (t : Bool) → two c k s.tokens ≡ t → (u rest ts : Tokens) → s.tokens ≡ u ++ rest → SameFront rest s.verdict ts → (u ≡ [] → Quiet (c ∷ firsts l) s.tokens ⊎ Unmet (nullable l) (c ∷ firsts l) s.tokens) → two c k (u ++ ts) ≡ t
      two_again t q u rest ts are same i =
          two_same c k (firsts l) u rest s.verdict ts same (λ e. subst (Quiet (c ∷ firsts l)) are (⊎_elim (λ x. x) (unmet_quiet (nullable l) (c ∷ firsts l) s.tokens) (i e)))
          ∙ sym (ap (two c k) are) ∙ q

      later : (s₁ : Stream) → Outcome (token_then k (yield yIn g)) (λ s₂. and_then (λ y z. (y, z)) (takes k s₂) (parse d inner g)) (λ ts. Unit {0}) (λ ts. Unit {0}) s₁ (and_then (λ y z. (y, z)) (takes k s₁) (parse d inner g))
      later s₁ =
          outcome_then (one k) (yield yIn g) (token_then k (yield yIn g)) (λ y z. (y, z)) (λ y z. refl)
          (takes k) (parse d inner g) (λ s₂. and_then (λ y z. (y, z)) (takes k s₂) (parse d inner g))
          (λ ts. Unit {0}) (Unmet false (k ∷ [])) (Quiet (firsts g)) (Unmet (nullable g) (firsts g)) (λ ts. Unit {0}) (λ ts. Unit {0})
          (spare g n) s₁ (λ q i. tt) (λ u. tt) (λ q u. tt) (λ u rest ts e are q i. refl)
          (takes k s₁) (outcome_take (λ ts. Unit {0}) k s₁.tokens s₁.verdict) (λ x s₂ t. left s₂)

      go : (t : Bool) → two c k s.tokens ≡ t → Outcome (yield yIn (ahead c k g l)) (parse d inner (ahead c k g l)) (Quiet (c ∷ firsts l)) (Unmet (nullable l) (c ∷ firsts l)) s
          (cond t
          (bind (takes c s) (λ x s₁. bind (takes k s₁) (λ y s₂. bind (parse d inner g s₂) (λ z s₃. Ok (inl (x, y, z), s₃)))))
          (bind (parse d inner l s) (λ x s₁. Ok (inr x, s₁))))
      go true q =
          subst (Outcome (yield yIn (ahead c k g l)) (parse d inner (ahead c k g l)) (Quiet (c ∷ firsts l)) (Unmet (nullable l) (c ∷ firsts l)) s)
          (sym (then_three (λ x y z. inl (x, y, z)) (takes c s) (takes k) (parse d inner g)))
          (outcome_then (one c) (token_then k (yield yIn g)) (yield yIn (ahead c k g l)) (λ x w. inl (x, w.0, w.1)) (λ x w. refl)
          (takes c) (λ s₂. and_then (λ y z. (y, z)) (takes k s₂) (parse d inner g)) (parse d inner (ahead c k g l))
          (λ ts. ⊥) (Unmet false (c ∷ [])) (λ ts. Unit {0}) (λ ts. Unit {0}) (Quiet (c ∷ firsts l)) (Unmet (nullable l) (c ∷ firsts l))
          ((token_of k, m), spare g n) s
          (λ i j. absurd i)
          (λ u. absurd (two_begun c k [] s.tokens q (unmet_quiet false (c ∷ []) s.tokens u)))
          (λ i j. absurd i)
          (λ u rest ts e are same i. cond-true _ _ _ (two_again true q u rest ts are same i) ∙ then_three (λ x y z. inl (x, y, z)) (takes c (whole (u ++ ts) e)) (takes k) (parse d inner g))
          (takes c s) (outcome_take (λ ts. ⊥) c s.tokens s.verdict) (λ x s₁ t. later s₁))
      go false q =
          outcome_then (yield yIn l) none (yield yIn (ahead c k g l)) (λ x z. inr x) (λ x z. sym (append-nil (yield yIn l x)))
          (parse d inner l) pass (parse d inner (ahead c k g l))
          (Quiet (firsts l)) (Unmet (nullable l) (firsts l)) (λ ts. Unit {0}) (λ ts. ⊥) (Quiet (c ∷ firsts l)) (Unmet (nullable l) (c ∷ firsts l))
          tt s
          (λ i j. quiet_more c (firsts l) s.tokens h i)
          (unmet_more (nullable l) c (firsts l) s.tokens h)
          (λ i j. absurd j)
          (λ u rest ts e are same i. cond-false _ _ _ (two_again false q u rest ts are same i))
          (parse d inner l s) (right s) (λ x s₁ t. passes s₁)

  outcome_nest : (c : ℕ) (n : N) (s : Stream) → OutcomeOf (nest c n) s
  unfolding Tree yield parse
  outcome_nest c n s = go d refl
    where
      go : (b : ℕ) → d ≡ b → Outcome (token_then c (yIn n)) (opens b c (inner n)) (Quiet (c ∷ [])) (Unmet false (c ∷ [])) s (opens b c (inner n) s)
      go zero e = outcome_closed c (token_then c (yIn n)) (Quiet (c ∷ [])) (inner n) s.tokens s.verdict
      go (suc b) e =
          subst (Outcome (token_then c (yIn n)) (opens (suc b) c (inner n)) (Quiet (c ∷ [])) (Unmet false (c ∷ [])) s)
          (sym (open_then b c (inner n) s.tokens s.verdict))
          (outcome_then (one c) (yIn n) (token_then c (yIn n)) (λ o x. (o, x)) (λ o x. refl)
          (takes c) (inner n) (opens (suc b) c (inner n))
          (λ ts. ⊥) (Unmet false (c ∷ [])) (I n) (U n) (Quiet (c ∷ [])) (Unmet false (c ∷ []))
          (spares b e n) s (λ i j. absurd i) (λ u. u) (λ i j. absurd i)
          (λ u rest ts f are q i. open_then b c (inner n) (u ++ ts) (Ok f))
          (takes c s) (outcome_take (λ ts. ⊥) c s.tokens s.verdict) (λ x s₁ t. inners n s₁))

  pub outcome : (g : Gram N) → goes_on deep g ≡ true → (s : Stream) → OutcomeOf g s
  unfolding Tree yield parse
  outcome (tok c) h s = outcome_take (Quiet (c ∷ [])) c s.tokens s.verdict
  outcome (joint c cs) h s = outcome_joint (Quiet (c ∷ [])) c cs h s.tokens s.verdict
  outcome nil h s = record {
    took = took_none s;
    live = λ a. a;
    again = λ ts e q. refl;
    idle = λ n. off_quiet [] s.tokens s.verdict refl;
  }
  outcome (seq a b) h s =
      let p = and_parts (easy deep b) _ h in
      let q = and_parts (goes_on deep a) (goes_on deep b) p.1 in
      outcome_seq a b p.0 (outcome a q.0) (outcome b q.1) s
  outcome (alt a b) h s =
      let p = and_parts (not (nullable a)) _ h in
      let q = and_parts (goes_on deep a) (goes_on deep b) p.1 in
      outcome_alt a b (not-true (nullable a) p.0) (outcome a q.0) (outcome b q.1) s
  outcome (many g) h s =
      let p = and_parts (not (nullable g)) _ h in
      let q = and_parts (apart (firsts g) (0 ∷ 99 ∷ [])) (goes_on deep g) p.1 in
      outcome_repeat (yield yIn g) (parse d inner g) (firsts g) (nullable g) q.0
      (λ x. long_of (nullable g) (firsts g) (yield yIn g x) (not-true (nullable g) p.0) (headed yIn g x))
      (outcome g q.1) s
  outcome (ahead c k g l) h s =
      let p = and_parts (among (firsts l) c) _ h in
      let q = and_parts (is_class k (token_of k)) _ p.1 in
      let r = and_parts (easy deep g) _ q.1 in
      let t = and_parts (goes_on deep g) (goes_on deep l) r.1 in
      outcome_ahead c k g l p.0 q.0 r.0 (outcome g t.0) (outcome l t.1) s
  outcome (nest c n) h s = outcome_nest c n s

may_open_lem : (d : ℕ) → may_open d ≡ true → (e : ℕ) × (d ≡ suc e)
may_open_lem zero h = absurd (both_ways false refl h)
may_open_lem (suc d) h = (d, refl)

module _ {N : Type 0} (rule : N → Gram N) (ready : Ready rule) where
  abbrev I : N → Tokens → Type 0
  I n = Quiet (firsts (rule n))

  abbrev U : N → Tokens → Type 0
  U n = Unmet (nullable (rule n)) (firsts (rule n))

  outcome_in : (d : ℕ) (n : N) (s : Stream) → Outcome (inner_yield rule d n) (parse_in rule d n) (I n) (U n) s (parse_in rule d n s)
  unfolding Inner inner_yield parse_in
  outcome_in zero n s = tt
  outcome_in (suc d) n s =
      outcome (inner_yield rule d) d (parse_in rule d) false (λ k. absurd (both_ways false refl k)) (sample_in rule ready d) I U (outcome_in d) (rule n) (ready.goes n) s

  outcome_at : (d : ℕ) (g : Gram N) → goes_on (may_open d) g ≡ true → (s : Stream) → Outcome (spelled rule d g) (parse_at rule d g) (Quiet (firsts g)) (Unmet (nullable g) (firsts g)) s (parse_at rule d g s)
  outcome_at d g goes s =
      outcome (inner_yield rule d) d (parse_in rule d) (may_open d) (may_open_lem d) (sample_in rule ready d) I U (outcome_in d) g goes s

  sample_at : (d : ℕ) (g : Gram N) → easy (may_open d) g ≡ true → TreeAt rule d g
  sample_at d g h = sample (may_open d) (λ k. let (e, q) = may_open_lem d k in sample_in rule ready d e q) g h

  -- some tree goes on, if only from the start
  goes_on_lem : (d : ℕ) (g : Gram N) → easy (may_open d) g ≡ true → (u : Tokens) → (u ≡ []) ⊎ ((w : Tokens) × (x : TreeAt rule d g) × (spelled rule d g x ≡ u ++ w)) → Continues rule d g u
  goes_on_lem d g h u (inl n) =
      let x = sample_at d g h in
      record { more = spelled rule d g x; tree = x; spells = ap (λ l. l ++ spelled rule d g x) (sym n) }
  goes_on_lem d g h u (inr (w, x, q)) = record { more = w; tree = x; spells = q }

-- The viable prefix: the tokens before a misfit begin a tree, and no more than they do.
pub viable : {N : Type 0} (L : Language N) → Lawful L → Ready L.rule → (d : ℕ) (g : Gram N) (fs : List ℕ) → told L g fs ≡ true → goes_on (may_open d) g ≡ true → easy (may_open d) g ≡ true → (s : Stream) (p : ℕ) → parse_at L.rule d g s ≡ Err (at Misfit p) → Viable L.rule d g fs s p
viable L law ready d g fs tells goes made s p e =
    let read = parse_at L.rule d g in
    let o : Stuck (spelled L.rule d g) read (Unmet (nullable g) (firsts g)) s p =
    subst (Outcome (spelled L.rule d g) read (Quiet (firsts g)) (Unmet (nullable g) (firsts g)) s) e (outcome_at L.rule ready d g goes s)
    in
    record {
      before = o.before;
      rest = o.rest;
      tokens = o.tokens;
      place = o.place;
      alive = o.live;
      continues = goes_on_lem L.rule ready d g made o.before o.on;
      blocked = λ ts same x after m may is.
          let (f, q) = o.again ts m same in
          let r = complete_at L law d g fs tells x after (Ok m) (record { alive = alive after m; may = may }) in
          never_ok (x, whole after m) f (sym q ∙ ap (λ l. read (whole l m)) (sym is) ∙ r);
    }

-- only the end may follow: no tree is all of the tokens
pub blocked_whole : {N : Type 0} (rule : N → Gram N) (d : ℕ) (g : Gram N) (ts : Tokens) → Blocked rule d g (0 ∷ []) ts → (x : TreeAt rule d g) → spelled rule d g x ≡ ts → ⊥
blocked_whole rule d g ts h x e = h x [] 0 refl (append-nil (spelled rule d g x) ∙ e)
