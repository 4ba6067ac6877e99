-- What is still to be listed from a place on, step by step.
use Rattle.std.proofs.Common.{◌≡◌, ℕ, suc, ◌≤◌, true, false, cond, List, ◌++◌, length, Ok, Err, sym, refl, ap, ◌∙◌}
use Rattle.text.specs.declared.places.Placed.{Placed}
use Rattle.text.specs.declared.tokens.LexFault.{LexFault}
use Rattle.text.specs.Lexings.{Lexing, lexed_from, lexed, only, before, onward}
use Rattle.text.specs.Steps.{step}
use Rattle.text.specs.Tokens.{Lexeme, Answer, is_end}
use Rattle.std.proofs.lemmas.List.{append_assoc}
use Rattle.text.proofs.Counting.{lexed_step}
use Rattle.cases.specs.Listings.{token_line, token_lines, last_line, listing}

abbrev pub to_list : List ℕ → ℕ → List ℕ
to_list text i = listing (lexed_from (suc (length text)) text i)

-- after the step at a place
abbrev rest_of : List ℕ → ℕ → Lexing
rest_of text i = lexed_from (suc (length text)) text (step text i).after

pub list_start : (text : List ℕ) → to_list text 0 ≡ listing (lexed text)
unfolding lexed
list_start text = refl

list_step : (text : List ℕ) (i : ℕ) (a : Answer) → i ≤ length text → a ≡ (step text i).answer → to_list text i ≡ listing (onward a (rest_of text i))
list_step text i a h e =
    ap listing (lexed_step text i h)
    ∙ ap (λ x. listing (onward x (rest_of text i))) (sym e)

pub list_more : (text out : List ℕ) (i j : ℕ) (t : Placed Lexeme) → i ≤ length text → Ok t ≡ (step text i).answer → j ≡ (step text i).after → is_end t.item ≡ false → (out ++ token_line t.place t.item) ++ to_list text j ≡ out ++ to_list text i
list_more text out i j t h e k z =
    append_assoc out (token_line t.place t.item) (to_list text j)
    ∙ ap (λ l. out ++ l) (ap (λ x. token_line t.place t.item ++ to_list text x) k
    ∙ sym (append_assoc (token_line t.place t.item) (token_lines (rest_of text i).tokens) (last_line (rest_of text i).verdict))
    ∙ sym (list_step text i (Ok t) h e
    ∙ ap (λ b. listing (cond b (only (Ok t.place)) (before t (rest_of text i)))) z))

pub list_end : (text : List ℕ) (i : ℕ) (t : Placed Lexeme) → i ≤ length text → Ok t ≡ (step text i).answer → is_end t.item ≡ true → last_line (Ok t.place) ≡ to_list text i
list_end text i t h e z =
    sym (list_step text i (Ok t) h e
    ∙ ap (λ b. listing (cond b (only (Ok t.place)) (before t (rest_of text i)))) z)

pub list_fault : (text : List ℕ) (i : ℕ) (f : Placed LexFault) → i ≤ length text → Err f ≡ (step text i).answer → last_line (Err f) ≡ to_list text i
list_fault text i f h e = sym (list_step text i (Err f) h e)
