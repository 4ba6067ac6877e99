-- One number more in the bytes of an output.
use Rattle.std.proofs.Common.{◌≡◌, ℕ, ◌+◌, ◌-◌, ◌*◌, ◌<◌, ◌≤◌, true, List, ◌++◌, length, take, drop, ℤ, sym, ap, ◌∙◌, arith}
use Rattle.std.proofs.lemmas.List.{take_at, length-append, length-take-le, length-drop}
use Rattle.ports.specs.Meanings.{open32, write_leaves}
use Rattle.ports.specs.Spellings.{spelled, spellings, fits32}
use Rattle.ports.specs.Words.{numbers_in}
use Rattle.ports.proofs.Readback.{numbers_push, spellings_kept}
use Rattle.ports.proofs.Writes.{room_leaves}

-- n spelled after the first `used` of xs leaves ys
pub record Appended (xs : List ℕ) (used : ℕ) (n : ℤ) (ys : List ℕ) (after : ℕ) : Type 0 where
  pub fits : after ≤ length xs
  pub count : after ≡ used + length (spelled n)
  pub bytes : ys ≡ (take used xs ++ spelled n) ++ drop after xs

-- as an output tells it, of the number z that n is seen as
pub appended : (xs ys : List ℕ) (used after room : ℕ) (n z : ℤ) → z ≡ n → used + 12 * room ≤ length xs → 0 < room → after ≡ used + length (spelled z) → after ≤ used + 12 → ys ≡ (take used xs ++ spelled z) ++ drop after xs → Appended xs used n ys after
appended xs ys used after room n z e h some k s b =
    record { fits = omega arith; count = simp e at k; bytes = simp e at b }

front_length : (xs ys : List ℕ) (used after : ℕ) (n : ℤ) → Appended xs used n ys after → length (take used xs ++ spelled n) ≡ after
front_length xs ys used after n a =
    let k = length-take-le used xs (omega (arith, a.fits, a.count)) in
    simp length-append (omega (arith, a.count))

pub front_after : (xs ys : List ℕ) (used after : ℕ) (n : ℤ) → Appended xs used n ys after → take after ys ≡ take used xs ++ spelled n
front_after xs ys used after n a =
    ap (take after) a.bytes ∙ take_at (take used xs ++ spelled n) (drop after xs) after (front_length xs ys used after n a)

pub length_after : (xs ys : List ℕ) (used after : ℕ) (n : ℤ) → Appended xs used n ys after → length ys ≡ length xs
length_after xs ys used after n a =
    let f = front_length xs ys used after n a in
    let d = length-drop after xs in
    ap length a.bytes ∙ length-append (take used xs ++ spelled n) (drop after xs) ∙ omega (arith, a.fits)

pub wrote_after : (xs ys : List ℕ) (used after : ℕ) (n : ℤ) → Appended xs used n ys after → spellings (numbers_in (take used xs)) ≡ take used xs → fits32 n ≡ true → spellings (numbers_in (take after ys)) ≡ take after ys
wrote_after xs ys used after n a w h =
    let f = front_after xs ys used after n a in
    ap (λ bs. spellings (numbers_in bs)) f ∙ spellings_kept (take used xs) n w h ∙ sym f

pub leaves_after : (waiting : List ℤ) (xs ys : List ℕ) (used after room : ℕ) (n : ℤ) → Appended xs used n ys after → spellings (numbers_in (take used xs)) ≡ take used xs → fits32 n ≡ true → 0 < room → open32 waiting (numbers_in (take after ys)) (room - 1) ≡ write_leaves (open32 waiting (numbers_in (take used xs)) room) n
leaves_after waiting xs ys used after room n a w h some =
    ap (λ ns. open32 waiting ns (room - 1)) (ap numbers_in (front_after xs ys used after n a) ∙ numbers_push (take used xs) n w h)
    ∙ sym (room_leaves (open32 waiting (numbers_in (take used xs)) room) n h some)
