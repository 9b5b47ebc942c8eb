-- Lines of ASCII are given as they are typed, and their capitals become small as in the profile.
use Rattle.std.proofs.Common.{◌≡◌, ℕ, zero, suc, ◌<◌, ◌≤◌, List, [], ◌∷◌, map, take, refl, ap, ◌∙◌, arith, true}
use Rattle.std.specs.Prelude.{nat_lt}
use Rattle.std.specs.List.{list_all}
use Rattle.std.specs.Str.{IsAscii, chars, is_utf8}
use Rattle.std.proofs.lemmas.Bool.{and_parts, leb-true, ne_eqb}
use Rattle.std.proofs.lemmas.Bool.Decides.{nat_tests}
use Rattle.std.proofs.lemmas.Str.{IsUtf8-from_ascii, chars-IsAscii, is_utf8-from_IsUtf8}
use Rattle.ztext.specs.Text.{lower_case}
use Rattle.zcore_standard.specs.Input.{codes_typed, small, text_typed}
use Rattle.zcore_standard.specs.Streams.{zscii_of}
use Rattle.zcore_standard.specs.Unicode.{is_ascii}

record IsPlain (code : ℕ) : Type 0 where
  least : 32 ≤ code
  most : code ≤ 126

plain_byte : (code : ℕ) → is_ascii code ≡ true → IsPlain code
plain_byte code h = let p = and_parts _ _ h in record { least = leb-true 32 code p.0; most = leb-true code 126 p.1 }

plain_is_ascii : (line : List ℕ) → list_all is_ascii line ≡ true → IsAscii line
plain_is_ascii [] h i = omega arith
plain_is_ascii (byte ∷ bytes) h zero = let p = plain_byte byte (and_parts _ _ h).0 in omega (arith, p.most)
plain_is_ascii (byte ∷ bytes) h (suc i) = plain_is_ascii bytes (and_parts _ _ h).1 i

plain_utf8 : (line : List ℕ) → list_all is_ascii line ≡ true → is_utf8 line ≡ true
plain_utf8 line h = is_utf8-from_IsUtf8 line (IsUtf8-from_ascii line (plain_is_ascii line h))

below : (n m : ℕ) → n < m → nat_lt n m ≡ true
below n m h = grind (arith, nat_tests)

own_code : (extra : List ℕ) (code : ℕ) → is_ascii code ≡ true → zscii_of extra code ≡ code
own_code extra code h =
    let p = plain_byte code h in
    rw (ne_eqb code 10 (λ e. absurd (omega (arith, e, p.least))), below code 0x80 (omega (arith, p.most))) refl

own_codes : (extra line : List ℕ) → list_all is_ascii line ≡ true → map (zscii_of extra) line ≡ line
own_codes extra [] h = refl
own_codes extra (byte ∷ bytes) h =
    ap (λ c. c ∷ map (zscii_of extra) bytes) (own_code extra byte (and_parts _ _ h).0)
    ∙ ap (λ l. byte ∷ l) (own_codes extra bytes (and_parts _ _ h).1)

pub plain_codes : (extra line : List ℕ) → list_all is_ascii line ≡ true → codes_typed extra line ≡ line
plain_codes extra line h =
    let text : text_typed line ≡ line = rw (plain_utf8 line h) refl in
    ap (λ l. map (zscii_of extra) (chars l)) text
    ∙ ap (map (zscii_of extra)) (chars-IsAscii line (plain_is_ascii line h))
    ∙ own_codes extra line h

small_below : (extra : List ℕ) (code : ℕ) → code < 155 → small extra code ≡ lower_case code
unfolding small
small_below extra code h = rw (below code 155 h) refl

plain_small : (extra line : List ℕ) → list_all is_ascii line ≡ true → map (small extra) line ≡ map lower_case line
plain_small extra [] h = refl
plain_small extra (byte ∷ bytes) h =
    let p = plain_byte byte (and_parts _ _ h).0 in
    let same : small extra byte ≡ lower_case byte = small_below extra byte (omega (arith, p.most)) in
    ap (λ c. c ∷ map (small extra) bytes) same ∙ ap (λ l. lower_case byte ∷ l) (plain_small extra bytes (and_parts _ _ h).1)

plain_take : (count : ℕ) (line : List ℕ) → list_all is_ascii line ≡ true → list_all is_ascii (take count line) ≡ true
plain_take zero line h = refl
plain_take (suc count) [] h = refl
plain_take (suc count) (byte ∷ bytes) h =
    let one : is_ascii byte ≡ true = (and_parts _ _ h).0 in
    rw one (plain_take count bytes (and_parts _ _ h).1)

-- the same of the first bytes of a line
pub plain_front : (extra : List ℕ) (count : ℕ) (line : List ℕ) → list_all is_ascii line ≡ true
    → map (small extra) (take count line) ≡ map lower_case (take count line)
plain_front extra count line h = plain_small extra (take count line) (plain_take count line h)
