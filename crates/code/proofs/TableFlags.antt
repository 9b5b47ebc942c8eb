-- The attributes of an object, in the six bytes that hold them at first.
use Rattle.std.proofs.Common.{◌≡◌, ◌==◌, ◌≤◌, ◌<◌, ◌+◌, ◌-◌, ◌*◌, ◌/◌, ◌%◌, ◌^◌, ℕ, zero, suc, Bool, true, false}
use Rattle.std.proofs.Common.{if◌then◌else◌, List, slice_index, refl, ap, ◌∙◌, arith}
use Rattle.std.specs.List.{list_any}
use Rattle.zcore.specs.Entries.{is_set}
use Rattle.code.specs.Rows.{flag, attribute_byte, attribute_bytes}

-- a bit of eight
module _ (a b c d e f g h : ℕ) (x : a ≤ 1) (y : b ≤ 1) (z : c ≤ 1) (u : d ≤ 1) (v : e ≤ 1) (w : f ≤ 1) (s : g ≤ 1)
    (t : h ≤ 1)
  where
    abbrev byte : ℕ
    byte = 128 * a + 64 * b + 32 * c + 16 * d + 8 * e + 4 * f + 2 * g + h

    pick : ℕ → ℕ
    pick zero = a
    pick (suc zero) = b
    pick (suc (suc zero)) = c
    pick (suc (suc (suc zero))) = d
    pick (suc (suc (suc (suc zero)))) = e
    pick (suc (suc (suc (suc (suc zero))))) = f
    pick (suc (suc (suc (suc (suc (suc zero)))))) = g
    pick (suc (suc (suc (suc (suc (suc (suc r))))))) = h

    picked : (r : ℕ) → r < 8 → byte / 2 ^ (7 - r) % 2 ≡ pick r
    unfolding pick
    picked zero lt = omega arith
    picked (suc zero) lt = omega arith
    picked (suc (suc zero)) lt = omega arith
    picked (suc (suc (suc zero))) lt = omega arith
    picked (suc (suc (suc (suc zero)))) lt = omega arith
    picked (suc (suc (suc (suc (suc zero))))) lt = omega arith
    picked (suc (suc (suc (suc (suc (suc zero)))))) lt = omega arith
    picked (suc (suc (suc (suc (suc (suc (suc zero))))))) lt = omega arith
    picked (suc (suc (suc (suc (suc (suc (suc (suc r)))))))) lt = absurd (omega arith)

small : (xs : List ℕ) (a : ℕ) → flag xs a ≤ 1
small xs a = either (list_any (λ b. b == a) xs)
  where
    either : (b : Bool) → (if b then 1 else 0) ≤ 1
    either true = omega arith
    either false = omega arith

module _ (xs : List ℕ) (c : ℕ) where
  bit_is : (r : ℕ) → r < 8 → attribute_byte xs c / 2 ^ (7 - r) % 2 ≡ flag xs (c + r)
  unfolding pick
  bit_is r lt =
      picked (flag xs c) (flag xs (c + 1)) (flag xs (c + 2)) (flag xs (c + 3)) (flag xs (c + 4)) (flag xs (c + 5))
      (flag xs (c + 6)) (flag xs (c + 7)) (small xs c) (small xs (c + 1)) (small xs (c + 2)) (small xs (c + 3))
      (small xs (c + 4)) (small xs (c + 5)) (small xs (c + 6)) (small xs (c + 7)) r lt
      ∙ at r lt
    where
      at : (r : ℕ) → r < 8
          → pick (flag xs c) (flag xs (c + 1)) (flag xs (c + 2)) (flag xs (c + 3)) (flag xs (c + 4)) (flag xs (c + 5))
          (flag xs (c + 6)) (flag xs (c + 7)) (small xs c) (small xs (c + 1)) (small xs (c + 2)) (small xs (c + 3))
          (small xs (c + 4)) (small xs (c + 5)) (small xs (c + 6)) (small xs (c + 7)) r
          ≡ flag xs (c + r)
      at zero lt = let e : c ≡ c + 0 = omega arith in ap (flag xs) e
      at (suc zero) lt = refl
      at (suc (suc zero)) lt = refl
      at (suc (suc (suc zero))) lt = refl
      at (suc (suc (suc (suc zero)))) lt = refl
      at (suc (suc (suc (suc (suc zero))))) lt = refl
      at (suc (suc (suc (suc (suc (suc zero)))))) lt = refl
      at (suc (suc (suc (suc (suc (suc (suc zero))))))) lt = refl
      at (suc (suc (suc (suc (suc (suc (suc (suc r)))))))) lt = absurd (omega arith)

pub flags_are : (xs : List ℕ) (a : ℕ) → a < 48
    → is_set (slice_index (attribute_bytes xs) (a / 8)) a ≡ list_any (λ b. b == a) xs
flags_are xs a lt =
    let whole : 8 * (a / 8) + a % 8 ≡ a = omega arith in
    ap (λ b. is_set b a) (bytes (a / 8) (omega (arith, lt)))
    ∙ ap (λ n. n == 1) (bit_is xs (8 * (a / 8)) (a % 8) (omega arith) ∙ ap (flag xs) whole)
    ∙ one (list_any (λ b. b == a) xs)
  where
    one : (b : Bool) → ((if b then 1 else 0) == 1) ≡ b
    one true = refl
    one false = refl

    bytes : (k : ℕ) → k < 6 → slice_index (attribute_bytes xs) k ≡ attribute_byte xs (8 * k)
    bytes zero lt = refl
    bytes (suc zero) lt = refl
    bytes (suc (suc zero)) lt = refl
    bytes (suc (suc (suc zero))) lt = refl
    bytes (suc (suc (suc (suc zero)))) lt = refl
    bytes (suc (suc (suc (suc (suc zero))))) lt = refl
    bytes (suc (suc (suc (suc (suc (suc k)))))) lt = absurd (omega arith)
