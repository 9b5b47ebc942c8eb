-- A name with a number is none of letters alone.
use Rattle.std.proofs.Common.{◌≡◌, ◌≤◌, ◌<◌, ◌+◌, ◌&&◌, ◌||◌, ℕ, suc, Bool, true, false, List, [], ◌∷◌, ◌++◌, length, map, refl, subst}
use Rattle.std.proofs.Common.{sym, ap, ◌∙◌, ◌^◌, arith}
use Rattle.std.specs.Prelude.{nat_eq, nat_lt}
use Rattle.std.specs.Fmt.{decimal}
use Rattle.std.proofs.lemmas.Fmt.{decimal_is_IsNumeral}
use Rattle.std.specs.List.{list_all}
use Rattle.std.specs.Str.{bytes_eq, str_to_ascii_lowercase}
use Rattle.std.specs.Str.Parse.{AllDigits}
use Rattle.derive_tokens.specs.Tokens.{is_same_name, numbered}
use Rattle.derive_tokens.specs.Names.{are_letters}

-- some byte is below 58
abbrev low : List ℕ → Bool
low [] = false
low (b ∷ bs) = nat_lt b 58 || low bs

low_after : (xs ys : List ℕ) → low ys ≡ true → low (xs ++ ys) ≡ true
low_after [] ys h = h
low_after (x ∷ xs) ys h = grind (arith, low_after xs ys h)

low_digits : (ds : List ℕ) → 0 < length ds → AllDigits 10 ds → low ds ≡ true
low_digits [] h k = grind (arith, h)
low_digits (d ∷ ds) h k = grind (arith, k.0)

apart : (xs ys : List ℕ) → low xs ≡ true → list_all (λ b. nat_lt 57 b) ys ≡ true
    → bytes_eq (str_to_ascii_lowercase xs) ys ≡ false
apart [] ys h k = grind (arith, h)
apart (x ∷ xs) [] h k = refl
apart (x ∷ xs) (y ∷ ys) h k = grind (arith, apart xs ys, h, k)

pub no_name : (prefix : List ℕ) (n : ℕ) (wanted : List ℕ) → n < 2 ^ 64 → are_letters wanted ≡ true
    → is_same_name (numbered prefix n) wanted ≡ false
no_name prefix n wanted fits letters =
    let numeral = (decimal_is_IsNumeral n fits).0 in
    apart (prefix ++ decimal n) (str_to_ascii_lowercase wanted)
    (low_after prefix (decimal n) (low_digits (decimal n) numeral.0 numeral.1)) letters
