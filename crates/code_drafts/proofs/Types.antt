-- The types of operands.
use Rattle.std.proofs.Common.{◌≡◌, ℕ, zero, suc, ◌+◌, ◌*◌, ◌<◌, ◌≤◌, List, [], ◌∷◌, length, drop, slice_index}
use Rattle.std.proofs.Common.{slice_index_or, refl, ap, ◌∙◌, arith, length-append}
use Rattle.std.specs.Prelude.{map, replicate}
use Rattle.zcore.specs.declared.instruction.Operand.{Operand}
use Rattle.zcore.specs.InstructionBytes.{type_of, types_byte, types_to_write}

pub type_within : (xs : List Operand) (i : ℕ) (x : Operand) → i < length xs → x ≡ slice_index_or xs i x
    → type_of x ≡ slice_index (types_to_write xs) i
type_within [] i x h e = absurd (omega arith)
type_within (y ∷ ys) zero x h e = ap type_of e
type_within (y ∷ ys) (suc i) x h e = type_within ys i x (omega arith) e

threes : (i : ℕ) → i < 8 → 3 ≡ slice_index (replicate 8 3) i
threes zero h = refl
threes (suc zero) h = refl
threes (suc (suc zero)) h = refl
threes (suc (suc (suc zero))) h = refl
threes (suc (suc (suc (suc zero)))) h = refl
threes (suc (suc (suc (suc (suc zero))))) h = refl
threes (suc (suc (suc (suc (suc (suc zero)))))) h = refl
threes (suc (suc (suc (suc (suc (suc (suc zero))))))) h = refl
threes (suc (suc (suc (suc (suc (suc (suc (suc n)))))))) h = absurd (omega arith)

pub type_past : (xs : List Operand) (i : ℕ) → length xs ≤ i → i < 8 → 3 ≡ slice_index (types_to_write xs) i
type_past [] i h lt = threes i lt
type_past (y ∷ ys) zero h lt = absurd (omega arith)
type_past (y ∷ ys) (suc i) h lt = type_past ys i (omega arith) (omega arith)

at_least : (xs : List Operand) → 8 ≤ length (types_to_write xs)
at_least xs = omega (arith, length-append (map type_of xs) (replicate 8 3))

byte_at : (xs : List ℕ) (n : ℕ) → n + 4 ≤ length xs
    → types_byte (drop n xs) ≡ 64 * slice_index xs n + 16 * slice_index xs (suc n) + 4 * slice_index xs (suc (suc n))
    + slice_index xs (suc (suc (suc n)))
byte_at [] n h = absurd (omega arith)
byte_at (a ∷ []) zero h = absurd (omega arith)
byte_at (a ∷ b ∷ []) zero h = absurd (omega arith)
byte_at (a ∷ b ∷ c ∷ []) zero h = absurd (omega arith)
byte_at (a ∷ b ∷ c ∷ d ∷ xs) zero h = refl
byte_at (a ∷ xs) (suc n) h = byte_at xs n (omega arith)

pub types_byte_of : (xs : List Operand) (n a b c d : ℕ) → n ≤ 4 → a ≡ slice_index (types_to_write xs) n
    → b ≡ slice_index (types_to_write xs) (n + 1) → c ≡ slice_index (types_to_write xs) (n + 2)
    → d ≡ slice_index (types_to_write xs) (n + 3)
    → 64 * a + 16 * b + 4 * c + d ≡ types_byte (drop n (types_to_write xs))
types_byte_of xs n a b c d h ea eb ec ed =
    let ts = types_to_write xs in
    let e = byte_at ts n (omega (arith, at_least xs)) in
    let fb : b ≡ slice_index ts (suc n) = eb ∙ ap (λ k. slice_index ts k) (omega arith) in
    let fc : c ≡ slice_index ts (suc (suc n)) = ec ∙ ap (λ k. slice_index ts k) (omega arith) in
    let fd : d ≡ slice_index ts (suc (suc (suc n))) = ed ∙ ap (λ k. slice_index ts k) (omega arith) in
    omega (arith, e, ea, fb, fc, fd)
