-- Lists of instructions, and what holds them.
use Rattle.std.proofs.Common.{◌≡◌, ℕ, false, List, [], ◌∷◌, sym, refl, ap, ◌∙◌, subst, inl, inr, ◌++◌}
use Rattle.std.proofs.lemmas.List.{append-nil}
use Rattle.table.specs.declared.kinds.Kind.{Kind}
use Rattle.table.specs.declared.nodes.Node.{Node}
use Rattle.text.specs.declared.spellings.Keyword.TheVariants as keyword
use Rattle.text.specs.declared.spellings.Sign.TheVariants as mark
use Rattle.grammar.specs.declared.classing.TokenClass.{TokenClass}
use Rattle.grammar.specs.declared.classing.TokenClass.TheVariants as class
use Rattle.grammar.specs.Grammars.{seq, Tree, TreeAt}
use Rattle.grammar.specs.Parsers.{parse_at}
use Rattle.grammar.specs.TokenClasses.{class_number, keyword_class, among}
use Rattle.grammar.proofs.ClassNumbers.{class_one}
use Rattle.syntax.specs.Nodes.{with, inner_made, instruction_made, instructions_made, appended}
use Rattle.syntax.specs.Syntax.{G, rule, word, sign, choice, repetition, instruction, instructions, ◌▸◌}
use Rattle.reading.specs.declared.readers.Reader.{Reader}
use Rattle.reading.specs.States.{stream_of, Answer, Builds}
use Rattle.reading.proofs.Branches.{earlier, inject_last, right_tree, none_of}
use Rattle.reading.proofs.Loops.{Item, Listing, items, lists_from}
use Rattle.reading.proofs.Sequences.{Left, begin}
use Rattle.instructions.specs.Blocks.{condition_gram, else_gram}
use Rattle.instructions.specs.Simple.{of_expression_gram, of_expression_made, with_set_gram, with_set_made, wordless_gram, wordless_made}
use Rattle.reading.proofs.Groups.{apiece, grouped}

-- ---- lists

pub instruction_item : Item instruction
instruction_item = record { some = refl; begun = refl }

-- the instructions read from a on, up to m
abbrev pub Instructions : (d : ℕ) → Reader → Reader → ℕ → Type 0
Instructions d a m i = Listing (instructions_made (inner_made d)) (parse_at rule d instructions (stream_of a)) a m d instruction (appended (instruction_made (inner_made d)) a.count) i

pub none_yet : (d : ℕ) (a : Reader) → Instructions d a a 0
unfolding Tree instructions_made items
none_yet d a = lists_from (begin d instructions a) (λ xs. refl)

-- ---- one instruction

-- whichever word it is
pub of_expression_by : (d : ℕ) (k : Kind) {c e : ℕ} {a b : Reader} {r : Answer} → c ≡ e → Builds (of_expression_made d c k) (parse_at rule d (of_expression_gram c) (stream_of a)) a r b → Builds (of_expression_made d e k) (parse_at rule d (of_expression_gram e) (stream_of a)) a r b
of_expression_by d k {a = a} {b} {r} is t = subst (λ n. Builds (of_expression_made d n k) (parse_at rule d (of_expression_gram n) (stream_of a)) a r b) is t

pub with_set_by : (d l : ℕ) (k : Kind) {c e : ℕ} {a b : Reader} {r : Answer} → c ≡ e → Builds (with_set_made d c l k) (parse_at rule d (with_set_gram c l) (stream_of a)) a r b → Builds (with_set_made d e l k) (parse_at rule d (with_set_gram e l) (stream_of a)) a r b
with_set_by d l k {a = a} {b} {r} is t = subst (λ n. Builds (with_set_made d n l k) (parse_at rule d (with_set_gram n l) (stream_of a)) a r b) is t

-- no word of an instruction is of the class, nor the `;` that is one alone
pub record NoWord (c : TokenClass) : Type 0 where
  pub semicolon : c ≡ class.Sign mark.Semicolon → ⊥
  pub if_word : c ≡ class.Word keyword.If → ⊥
  pub while_word : c ≡ class.Word keyword.While → ⊥
  pub write : c ≡ class.Word keyword.Write → ⊥
  pub read : c ≡ class.Word keyword.Read → ⊥
  pub add : c ≡ class.Word keyword.Add → ⊥
  pub remove : c ≡ class.Word keyword.Remove → ⊥
  pub return_word : c ≡ class.Word keyword.Return → ⊥

abbrev words : List ℕ
words = 35 ∷ (7 ∷ (11 ∷ (14 ∷ (15 ∷ (16 ∷ (18 ∷ (20 ∷ [])))))))

pub no_word : (c : TokenClass) {n : ℕ} → class_number c ≡ n → NoWord c → among (earlier instruction) n ≡ false
no_word c is off =
    ap (among words) (sym is)
    ∙ none_of (class_number c) words
    ((λ e. off.semicolon (class_one c (class.Sign mark.Semicolon) e)), ((λ e. off.if_word (class_one c (class.Word keyword.If) e)), ((λ e. off.while_word (class_one c (class.Word keyword.While) e)), ((λ e. off.write (class_one c (class.Word keyword.Write) e)), ((λ e. off.read (class_one c (class.Word keyword.Read) e)), ((λ e. off.add (class_one c (class.Word keyword.Add) e)), ((λ e. off.remove (class_one c (class.Word keyword.Remove) e)), ((λ e. off.return_word (class_one c (class.Word keyword.Return) e)), tt))))))))

pub wordless_is : (d : ℕ) (x : TreeAt rule d wordless_gram) (n : ℕ) → instruction_made (inner_made d) (inject_last d instruction x) n ≡ wordless_made d x n
unfolding Tree instruction_made wordless_made inject_last right_tree
wordless_is d (inl x) n = refl
wordless_is d (inr x) n = refl

-- ---- what begins with a condition

abbrev pub branches_gram : G
branches_gram = instructions ▸ else_gram ▸ word keyword.Fi ▸ sign mark.Semicolon

abbrev pub repeated_gram : G
repeated_gram = instructions ▸ word keyword.Od ▸ sign mark.Semicolon

pub choice_begins : (d : ℕ) (a : Reader) → Left (parse_at rule d (rule choice) (stream_of a)) a a d (seq (condition_gram (keyword_class keyword.Then)) branches_gram) (apiece d (condition_gram (keyword_class keyword.Then)) branches_gram) [] 0
choice_begins d a = grouped (condition_gram (keyword_class keyword.Then)) branches_gram (begin d (rule choice) a)

pub repetition_begins : (d : ℕ) (a : Reader) → Left (parse_at rule d (rule repetition) (stream_of a)) a a d (seq (condition_gram (keyword_class keyword.Do)) repeated_gram) (apiece d (condition_gram (keyword_class keyword.Do)) repeated_gram) [] 0
repetition_begins d a = grouped (condition_gram (keyword_class keyword.Do)) repeated_gram (begin d (rule repetition) a)

-- no second list hangs on the node
pub without_else : (ns : List Node) (n : Node) (c : ℕ) → with ns n c ≡ with (ns ++ []) n c
without_else ns n c = ap (λ ms. with ms n c) (sym (append-nil ns))
