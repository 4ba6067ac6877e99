-- The words of a text, one after another.
use Rattle.std.proofs.Common.{◌≡◌, ℕ, suc, ◌+◌, ◌<◌, ◌≤◌, Bool, true, false, cond, not, ltb, List, [], ◌∷◌, length, get_or, drop, ℤ, Some, None, sym, refl, ap, ◌∙◌, inl, inr, add-zero, arith}
use Rattle.std.specs.List.{position, position_or_len, before_first}
use Rattle.std.proofs.lemmas.Bool.{ltb-true, ltb-false}
use Rattle.std.proofs.lemmas.Bool.{not-false, not-true, cases_lt}
use Rattle.std.proofs.lemmas.Option.{cond_some}
use Rattle.std.proofs.lemmas.List.{drop_all, drop_more, drop-drop, length-drop, take_all}
use Rattle.std.proofs.lemmas.List.Folds.{length-prefix_len}
use Rattle.std.proofs.lemmas.List.Quantifiers.{position-Some}
use Rattle.std.proofs.lemmas.List.Splits.{slice_split-cons_yes, slice_split_none, slice_split_first}
use Rattle.std.proofs.lemmas.List.Sums.{prefix_len-le-length, prefix_len_stops, fails_before_first}
use Rattle.ports.specs.Words.{blank, solid, pieces, words_of, words_from, number_of, leading, numbers_of, numbers_in}

-- past the blanks
words_blanks : (i : ℕ) (bs : List ℕ) → words_of i (pieces bs) ≡ words_of (i + position_or_len solid bs) (pieces (drop (position_or_len solid bs) bs))
words_blanks i [] = refl
words_blanks i (b ∷ bs) = go (blank b) refl (words_blanks (i + 1) bs)
  where
    k : ℕ
    k = position_or_len solid bs

    go : (t : Bool) → blank b ≡ t → words_of (i + 1) (pieces bs) ≡ words_of (i + 1 + position_or_len solid bs) (pieces (drop (position_or_len solid bs) bs)) → words_of i (pieces (b ∷ bs)) ≡ words_of (i + cond (not (not t)) (1 + position_or_len solid bs) 0) (pieces (drop (cond (not (not t)) (1 + position_or_len solid bs) 0) (b ∷ bs)))
    go true t e =
        let far : i + 1 + position_or_len solid bs ≡ i + suc (position_or_len solid bs) = omega arith in
        let next : suc (position_or_len solid bs) ≡ 1 + position_or_len solid bs = omega arith in
        ap (words_of i) (slice_split-cons_yes blank b bs t) ∙ e
        ∙ ap (λ x. words_of x (pieces (drop (position_or_len solid bs) bs))) far
        ∙ ap (λ x. words_of (i + x) (pieces (drop x (b ∷ bs)))) next
    go false t e = ap (λ x. words_of x (pieces (b ∷ bs))) (sym (add-zero i))

-- the first piece, and the words after it
record Piece (bs : List ℕ) : Type 0 where
  later : List (List ℕ)
  split : pieces bs ≡ before_first blank bs ∷ later
  words : (j : ℕ) → words_of (j + 1) later ≡ words_of j (pieces (drop (position_or_len blank bs) bs))

piece_of : (bs : List ℕ) → Piece bs
piece_of bs = elim (cases_lt (position_or_len blank bs) (length bs)) [
  | inl h ↦ record {
    later = pieces (drop (position_or_len blank bs + 1) bs);
    split = slice_split_first blank bs 0 h;
    words = λ j.
        let stop = not-false (blank (get_or bs (position_or_len blank bs) 0)) (prefix_len_stops (λ x. not (blank x)) bs 0 h) in
        sym (ap (λ l. words_of j (pieces l)) (drop_more bs (position_or_len blank bs) 0 h)
        ∙ ap (words_of j) (slice_split-cons_yes blank (get_or bs (position_or_len blank bs) 0) (drop (position_or_len blank bs + 1) bs) stop));
  }
  | inr h ↦ record {
    later = [];
    split = slice_split_none blank bs (λ j d q. fails_before_first blank bs j d (omega arith)) ∙ ap (λ w. w ∷ []) (sym (take_all (position_or_len blank bs) bs h));
    words = λ j. sym (ap (λ l. words_of j (pieces l)) (drop_all (position_or_len blank bs) bs h));
  }
]

-- a word that is not empty
words_cons : (j : ℕ) (w : List ℕ) (ps : List (List ℕ)) → 0 < length w → words_of j (w ∷ ps) ≡ (j, w) ∷ words_of (j + length w + 1) ps
words_cons j [] ps h = absurd (omega arith)
words_cons j (b ∷ w) ps h = refl

words_word : (j : ℕ) (bs : List ℕ) → 0 < position_or_len blank bs → words_of j (pieces bs) ≡ (j, before_first blank bs) ∷ words_of (j + length (before_first blank bs)) (pieces (drop (position_or_len blank bs) bs))
words_word j bs h =
    let p = piece_of bs in
    let long = length-prefix_len (λ x. not (blank x)) bs in
    ap (words_of j) p.split
    ∙ words_cons j (before_first blank bs) p.later (omega arith)
    ∙ ap (λ ws. (j, before_first blank bs) ∷ ws) (p.words (j + length (before_first blank bs)))

found : (p : ℕ → Bool) (xs : List ℕ) (k : ℕ) → Some k ≡ position p xs → (k ≡ position_or_len p xs) × (k < length xs)
found p xs k e =
    let c = cond_some (ltb (position_or_len p xs) (length xs)) (position_or_len p xs) k (sym e) in
    (sym c.1, omega (arith, c.1, ltb-true (position_or_len p xs) (length xs) c.0))

missing : (p : ℕ → Bool) (xs : List ℕ) → None ≡ position p xs → length xs ≤ position_or_len p xs
missing p xs e = go (ltb (position_or_len p xs) (length xs)) refl e
  where
    go : (t : Bool) → ltb (position_or_len p xs) (length xs) ≡ t → None ≡ cond t (Some (position_or_len p xs)) None → length xs ≤ position_or_len p xs
    go true t e = absurd (cc)
    go false t e = omega (arith, ltb-false (position_or_len p xs) (length xs) t)

-- the word at place p is the next one from place i on
pub record Taken (text : List ℕ) (i p : ℕ) (bytes : List ℕ) : Type 0 where
  pub within : p + length bytes ≤ length text
  pub words : words_from i text ≡ (p, bytes) ∷ words_from (p + length bytes) text

some_piece : (x : ℕ) (xs bs : List ℕ) → bs ≡ x ∷ xs → blank x ≡ false → 0 < position_or_len blank bs
some_piece x xs bs e h =
    let one : position_or_len blank bs ≡ 1 + position_or_len blank xs = ap (position_or_len blank) e ∙ ap (λ (t : Bool). cond (not t) (1 + position_or_len blank xs) 0) h in
    omega arith

pub word_taken : (text rest tail bytes : List ℕ) (i k : ℕ) → i ≤ length text → rest ≡ drop i text → Some k ≡ position solid rest → tail ≡ drop k rest → bytes ≡ before_first blank tail → Taken text i (i + k) bytes
unfolding words_from
word_taken text rest tail bytes i k h r s t b =
    let f = found solid rest k s in
    let long = ap length r ∙ length-drop i text in
    let here : k < length rest = f.1 in
    let at : tail ≡ get_or rest k 0 ∷ drop (k + 1) rest = t ∙ drop_more rest k 0 here in
    let stop = not-true (blank (get_or rest k 0)) (position-Some solid rest k 0 (sym s)).1 in
    let some = some_piece (get_or rest k 0) (drop (k + 1) rest) tail at stop in
    let size : length bytes ≡ position_or_len blank tail = ap length b ∙ length-prefix_len (λ x. not (blank x)) tail in
    let most = prefix_len-le-length (λ x. not (blank x)) tail in
    let there : tail ≡ drop (i + k) text = t ∙ ap (drop k) r ∙ drop-drop k i text in
    let rear : drop (position_or_len blank tail) tail ≡ drop (i + k + length bytes) text =
    ap (drop (position_or_len blank tail)) there ∙ drop-drop (position_or_len blank tail) (i + k) text ∙ ap (λ x. drop (i + k + x) text) (sym size) in
    let left = ap length there ∙ length-drop (i + k) text in
    record {
      within = omega arith;
      words = ap (λ l. words_of i (pieces l)) (sym r)
          ∙ words_blanks i rest
          ∙ ap (λ x. words_of (i + x) (pieces (drop x rest))) (sym f.0)
          ∙ ap (λ l. words_of (i + k) (pieces l)) (sym t)
          ∙ words_word (i + k) tail some
          ∙ ap (λ l. (i + k, l) ∷ words_of (i + k + length l) (pieces (drop (position_or_len blank tail) tail))) (sym b)
          ∙ ap (λ l. (i + k, bytes) ∷ words_of (i + k + length bytes) (pieces l)) rear;
    }

pub none_taken : (text rest : List ℕ) (i : ℕ) → rest ≡ drop i text → None ≡ position solid rest → words_from i text ≡ []
unfolding words_from
none_taken text rest i r s =
    ap (λ l. words_of i (pieces l)) (sym r) ∙ words_blanks i rest
    ∙ ap (λ l. words_of (i + position_or_len solid rest) (pieces l)) (drop_all (position_or_len solid rest) rest (missing solid rest s))

-- the numbers of words
abbrev spelled_by : List (ℕ × List ℕ) → List ℤ
spelled_by [] = []
spelled_by ((p, w) ∷ ws) = leading (number_of w) (spelled_by ws)

numbers_words : (i : ℕ) (ps : List (List ℕ)) → numbers_of ps ≡ spelled_by (words_of i ps)
numbers_words i [] = refl
numbers_words i ([] ∷ ps) = numbers_words (i + 1) ps
numbers_words i ((b ∷ w) ∷ ps) = ap (leading (number_of (b ∷ w))) (numbers_words (i + length (b ∷ w) + 1) ps)

numbers_from : (i : ℕ) (text : List ℕ) → numbers_in (drop i text) ≡ spelled_by (words_from i text)
unfolding numbers_in words_from
numbers_from i text = numbers_words i (pieces (drop i text))

-- what waits from place i on: nothing, nothing for a malformed word, or the number of the next word and those after it
pub none_waits : (text : List ℕ) (i : ℕ) → words_from i text ≡ [] → numbers_in (drop i text) ≡ []
none_waits text i e = numbers_from i text ∙ ap spelled_by e

pub malformed_waits : (text : List ℕ) (i p : ℕ) (w : List ℕ) (ws : List (ℕ × List ℕ)) → words_from i text ≡ (p, w) ∷ ws → None ≡ number_of w → numbers_in (drop i text) ≡ []
malformed_waits text i p w ws e none = numbers_from i text ∙ ap spelled_by e ∙ ap (λ o. leading o (spelled_by ws)) (sym none)

pub number_waits : (text rest : List ℕ) (i j p : ℕ) (w : List ℕ) (n : ℤ) → words_from i text ≡ (p, w) ∷ words_from j rest → Some n ≡ number_of w → numbers_in (drop i text) ≡ n ∷ numbers_in (drop j rest)
number_waits text rest i j p w n e some =
    numbers_from i text ∙ ap spelled_by e ∙ ap (λ o. leading o (spelled_by (words_from j rest))) (sym some) ∙ ap (λ ns. n ∷ ns) (sym (numbers_from j rest))
