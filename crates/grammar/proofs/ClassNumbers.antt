-- Each class has a number of its own, so that comparing classes is comparing their numbers.
use Rattle.std.proofs.Common.{◌≡◌, ℕ, Bool, true, false, not, eqb, List, [], ◌∷◌, get_or, map, sym, refl, ap, ◌∙◌, rules}
use Rattle.std.proofs.lemmas.Bool.{both_ways, not-true, not-false}
use Rattle.std.proofs.lemmas.Bool.Decides.{Decides-eqb, Decides-like, same_from_decides}
use Rattle.std.specs.Bool.{Decides}
use Rattle.std.specs.List.{list_any}
use Rattle.text.specs.declared.spellings.Keyword.TheVariants as keyword
use Rattle.text.specs.declared.spellings.Sign.TheVariants as sign
use Rattle.grammar.specs.contracts.classing.TokenClassPartialEq.TheImpl.{ghosts}
use Rattle.grammar.specs.declared.classing.TokenClass.{TokenClass}
use Rattle.grammar.specs.declared.classing.TokenClass.TheVariants as class
use Rattle.grammar.specs.TokenClasses.{class_number, among}

-- the classes in the order of their numbers
abbrev in_order : List TokenClass
in_order =
    class.End ∷ (class.Word keyword.Program ∷ (class.Word keyword.Function ∷ (class.Word keyword.End ∷ (class.Word keyword.Var ∷ (class.Word keyword.Begin ∷
    (class.Word keyword.Forward ∷ (class.Word keyword.If ∷ (class.Word keyword.Then ∷ (class.Word keyword.Else ∷ (class.Word keyword.Fi ∷ (class.Word keyword.While ∷
    (class.Word keyword.Do ∷ (class.Word keyword.Od ∷ (class.Word keyword.Write ∷ (class.Word keyword.Read ∷ (class.Word keyword.Add ∷ (class.Word keyword.To ∷
    (class.Word keyword.Remove ∷ (class.Word keyword.From ∷ (class.Word keyword.Return ∷ (class.Word keyword.True ∷ (class.Word keyword.False ∷ (class.Word keyword.Min ∷
    (class.Word keyword.Max ∷ (class.Word keyword.In ∷ (class.Word keyword.Int ∷ (class.Word keyword.Bool ∷ (class.Word keyword.Iset ∷ (class.Word keyword.Void ∷
    (class.End ∷ (class.Sign sign.Becomes ∷ (class.Sign sign.AtMost ∷ (class.Sign sign.And ∷ (class.Sign sign.Or ∷ (class.Sign sign.Semicolon ∷
    (class.Sign sign.Colon ∷ (class.Sign sign.Comma ∷ (class.Sign sign.Open ∷ (class.Sign sign.Close ∷ (class.Sign sign.Plus ∷ (class.Sign sign.Minus ∷
    (class.Sign sign.Times ∷ (class.Sign sign.Divide ∷ (class.Sign sign.Count ∷ (class.Sign sign.Equal ∷ (class.Sign sign.Less ∷ (class.Sign sign.Not ∷
    (class.End ∷ (class.End ∷ (class.End ∷ (class.Name ∷ (class.Number ∷ (class.Large ∷ [])))))))))))))))))))))))))))))))))))))))))))))))))))))

abbrev class_at : ℕ → TokenClass
class_at n = get_or in_order n class.End

class_back : (c : TokenClass) → class_at (class_number c) ≡ c
class_back class.End = refl
class_back (class.Word keyword.Program) = refl
class_back (class.Word keyword.Function) = refl
class_back (class.Word keyword.End) = refl
class_back (class.Word keyword.Var) = refl
class_back (class.Word keyword.Begin) = refl
class_back (class.Word keyword.Forward) = refl
class_back (class.Word keyword.If) = refl
class_back (class.Word keyword.Then) = refl
class_back (class.Word keyword.Else) = refl
class_back (class.Word keyword.Fi) = refl
class_back (class.Word keyword.While) = refl
class_back (class.Word keyword.Do) = refl
class_back (class.Word keyword.Od) = refl
class_back (class.Word keyword.Write) = refl
class_back (class.Word keyword.Read) = refl
class_back (class.Word keyword.Add) = refl
class_back (class.Word keyword.To) = refl
class_back (class.Word keyword.Remove) = refl
class_back (class.Word keyword.From) = refl
class_back (class.Word keyword.Return) = refl
class_back (class.Word keyword.True) = refl
class_back (class.Word keyword.False) = refl
class_back (class.Word keyword.Min) = refl
class_back (class.Word keyword.Max) = refl
class_back (class.Word keyword.In) = refl
class_back (class.Word keyword.Int) = refl
class_back (class.Word keyword.Bool) = refl
class_back (class.Word keyword.Iset) = refl
class_back (class.Word keyword.Void) = refl
class_back (class.Sign sign.Becomes) = refl
class_back (class.Sign sign.AtMost) = refl
class_back (class.Sign sign.And) = refl
class_back (class.Sign sign.Or) = refl
class_back (class.Sign sign.Semicolon) = refl
class_back (class.Sign sign.Colon) = refl
class_back (class.Sign sign.Comma) = refl
class_back (class.Sign sign.Open) = refl
class_back (class.Sign sign.Close) = refl
class_back (class.Sign sign.Plus) = refl
class_back (class.Sign sign.Minus) = refl
class_back (class.Sign sign.Times) = refl
class_back (class.Sign sign.Divide) = refl
class_back (class.Sign sign.Count) = refl
class_back (class.Sign sign.Equal) = refl
class_back (class.Sign sign.Less) = refl
class_back (class.Sign sign.Not) = refl
class_back class.Name = refl
class_back class.Number = refl
class_back class.Large = refl

pub class_one : (a b : TokenClass) → class_number a ≡ class_number b → a ≡ b
class_one a b e = sym (class_back a) ∙ ap class_at e ∙ class_back b

-- `==` of the code decides whether two classes are one
pub same_class : (a b : TokenClass) → Decides (ghosts.eq a b) (a ≡ b)
same_class a b = search rules

pub same_number : (a b : TokenClass) → ghosts.eq a b ≡ eqb (class_number a) (class_number b)
same_number a b = same_from_decides _ _ (same_class a b) (Decides-like _ (class_one a b) (ap class_number) (Decides-eqb (class_number a) (class_number b)))

-- what the code's `==` and `!=` say of numbers
pub class_is : (a b : TokenClass) {r : Bool} → r ≡ ghosts.eq a b → r ≡ true → class_number a ≡ class_number b
class_is a b e h = ap class_number ((same_class a b).0 (sym e ∙ h))

pub class_is_not : (a b : TokenClass) {r : Bool} → r ≡ ghosts.eq a b → r ≡ false → class_number a ≡ class_number b → ⊥
class_is_not a b e h n = both_ways _ (sym e ∙ h) ((same_class a b).1 (class_one a b n))

pub class_differs : (a b : TokenClass) {r : Bool} → r ≡ not (ghosts.eq a b) → r ≡ true → class_number a ≡ class_number b → ⊥
class_differs a b e h = class_is_not a b refl (not-true (ghosts.eq a b) (sym e ∙ h))

pub class_same : (a b : TokenClass) {r : Bool} → r ≡ not (ghosts.eq a b) → r ≡ false → class_number a ≡ class_number b
class_same a b e h = class_is a b refl (not-false (ghosts.eq a b) (sym e ∙ h))

turned : (m n : ℕ) → eqb m n ≡ eqb n m
turned m n = same_from_decides _ _ (Decides-eqb m n) (Decides-like _ (λ e. sym e) (λ e. sym e) (Decides-eqb n m))

-- `contains` of the code tells whether a class is among several
pub among_classes : (cs : List TokenClass) (c : TokenClass) → list_any (λ x. ghosts.eq x c) cs ≡ among (map class_number cs) (class_number c)
among_classes [] c = refl
among_classes (x ∷ cs) c = rw (same_number x c, turned (class_number x) (class_number c), among_classes cs c)

-- the same, of the class with a number
pub class_among : (cs : List TokenClass) (c : TokenClass) {n : ℕ} {r b : Bool} → class_number c ≡ n → r ≡ list_any (λ x. ghosts.eq x c) cs → r ≡ b → among (map class_number cs) n ≡ b
class_among cs c is told found = ap (among (map class_number cs)) (sym is) ∙ sym (among_classes cs c) ∙ sym told ∙ found
