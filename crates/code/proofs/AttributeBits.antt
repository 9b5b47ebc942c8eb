-- The bits of a byte of attributes, and tests of two numbers.
use Rattle.std.proofs.Common.{◌≡◌, ◌≢◌, ◌==◌, ◌&&◌, ◌≤◌, ◌<◌, ◌+◌, ◌-◌, ◌%◌, ◌^◌, ℕ, Bool, true, false, if◌then◌else◌}
use Rattle.std.proofs.Common.{ap, ◌∙◌, arith, inl, inr, w8}
use Rattle.std.specs.Int.{bit_at}
use Rattle.std.proofs.lemmas.Bool.{cases_order, eq-eqb, ne_eqb}
use Rattle.std.proofs.lemmas.Nat.{pow_below}
use Rattle.std.proofs.lemmas.Nat.Bits.{bit_at_and, bit_at_or, bit_at_not, bit_at-pow_same, bit_at-pow_other}
use Rattle.zcore.specs.Entries.{object_entry, is_set}
use Rattle.zcore.specs.Objects.{with_bit, without_bit}
use Rattle.meaning.specs.Forests.{IsObjectNumber}

-- Bits of a byte

-- the place of an attribute's bit
abbrev pub bit_of : ℕ → ℕ
bit_of a = 7 - a % 8

pub set_here : (a byte : ℕ) → is_set (with_bit a byte) a ≡ true
set_here a byte =
    let either = bit_at_or byte (2 ^ bit_of a) (bit_of a) in
    let one = bit_at-pow_same (bit_of a) in
    eq-eqb (bit_at (with_bit a byte) (bit_of a)) 1 (omega (arith, either, one))

pub set_other : (a b byte : ℕ) → bit_of b ≢ bit_of a → is_set (with_bit a byte) b ≡ is_set byte b
set_other a b byte apart =
    let either = bit_at_or byte (2 ^ bit_of a) (bit_of b) in
    let none = bit_at-pow_other (bit_of a) (bit_of b) apart in
    let same : bit_at (with_bit a byte) (bit_of b) ≡ bit_at byte (bit_of b) = omega (arith, either, none) in
    ap (λ x. x == 1) same

-- the other bits of a byte
others : (k i : ℕ) → k < 8 → i < 8 → bit_at (255 - 2 ^ k) i ≡ 1 - bit_at (2 ^ k) i
others k i short within = bit_at_not w8 (2 ^ k) i (pow_below k 8 short) within

pub clear_here : (a byte : ℕ) → is_set (without_bit a byte) a ≡ false
clear_here a byte =
    let both = bit_at_and byte (255 - 2 ^ bit_of a) (bit_of a) in
    let one = bit_at-pow_same (bit_of a) in
    let none = others (bit_of a) (bit_of a) (omega arith) (omega arith) in
    ne_eqb (bit_at (without_bit a byte) (bit_of a)) 1 (λ e. omega (arith, both, one, none, e))

pub clear_other : (a b byte : ℕ) → bit_of b ≢ bit_of a → is_set (without_bit a byte) b ≡ is_set byte b
clear_other a b byte apart =
    let both = bit_at_and byte (255 - 2 ^ bit_of a) (bit_of b) in
    let none = bit_at-pow_other (bit_of a) (bit_of b) apart in
    let one = others (bit_of a) (bit_of b) (omega arith) (omega arith) in
    let same : bit_at (without_bit a byte) (bit_of b) ≡ bit_at byte (bit_of b) = omega (arith, both, none, one) in
    ap (λ x. x == 1) same

-- Tests of two numbers

pub if_both : {A : Type 0} (x o b a : ℕ) (y z : A) → x ≡ o → b ≡ a → (if x == o && b == a then y else z) ≡ y
if_both x o b a y z e f =
    ap (λ (t : Bool). if t && b == a then y else z) (eq-eqb x o e)
    ∙ ap (λ (t : Bool). if t then y else z) (eq-eqb b a f)

pub if_not_first : {A : Type 0} (x o b a : ℕ) (y z : A) → x ≢ o → (if x == o && b == a then y else z) ≡ z
if_not_first x o b a y z apart = ap (λ (t : Bool). if t && b == a then y else z) (ne_eqb x o apart)

pub if_not_second : {A : Type 0} (x o b a : ℕ) (y z : A) → x ≡ o → b ≢ a → (if x == o && b == a then y else z) ≡ z
if_not_second x o b a y z e apart =
    ap (λ (t : Bool). if t && b == a then y else z) (eq-eqb x o e)
    ∙ ap (λ (t : Bool). if t then y else z) (ne_eqb b a apart)

-- two bytes of entries are one where the objects and the offsets are
pub entries_apart : (n table x o d e : ℕ) → IsObjectNumber n x → IsObjectNumber n o → d < 14 → e < 14
    → (x ≡ o → d ≢ e) → object_entry table x + d ≢ object_entry table o + e
entries_apart n table x o d e i j short low apart same = elim (cases_order x o) [
  | inl is ↦
      let entry : object_entry table x ≡ object_entry table o = ap (object_entry table) is in
      apart is (omega (arith, entry, same))
  | inr (inl lt) ↦
      let first = i.low in
      let next : object_entry table x + 14 ≤ object_entry table o = omega arith in
      omega (arith, next, short, same)
  | inr (inr lt) ↦
      let first = j.low in
      let next : object_entry table o + 14 ≤ object_entry table x = omega arith in
      omega (arith, next, low, same)
]
