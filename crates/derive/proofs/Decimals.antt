-- Decimal digits have no capitals.
use Rattle.std.proofs.Common.{◌≡◌, ℕ, ◌+◌, ◌/◌, ◌%◌, ◌^◌, ◌<◌, ◌≤◌, List, [], ◌∷◌, ◌++◌}
use Rattle.std.proofs.Common.{ap, sym, ◌∙◌, arith, decimal}
use Rattle.std.proofs.lemmas.List.{map-append}
use Rattle.std.proofs.lemmas.Fmt.{decimal_by_steps}
use Rattle.std.proofs.lemmas.Str.Ascii.{lowercase_is}
use Rattle.std.specs.Char.{to_ascii_lowercase}
use Rattle.derive_tokens.specs.Names.{small}

small_digit : (d : ℕ) → d < 10 → to_ascii_lowercase (48 + d) ≡ 48 + d
small_digit d lt = (lowercase_is (48 + d)).1 (omega arith)

more_small : (n : ℕ) (ds : List ℕ) → 10 ≤ n → small ds ≡ ds
    → small (ds ++ (48 + n % 10) ∷ []) ≡ ds ++ (48 + n % 10) ∷ []
more_small n ds le e =
    map-append to_ascii_lowercase ds ((48 + n % 10) ∷ [])
    ∙ ap (λ xs. xs ++ to_ascii_lowercase (48 + n % 10) ∷ []) e
    ∙ ap (λ d. ds ++ d ∷ []) (small_digit (n % 10) (omega arith))

small_decimal : (n : ℕ) → n < 2 ^ 64 → small (decimal n) ≡ decimal n
small_decimal n lt =
    decimal_by_steps (λ m ds. small ds ≡ ds) (λ m l. ap (λ d. d ∷ []) (small_digit m l)) more_small n lt

pub small_numbered : (prefix : List ℕ) (n : ℕ) → n < 2 ^ 64 → small prefix ++ decimal n ≡ small (prefix ++ decimal n)
small_numbered prefix n lt =
    ap (λ ds. small prefix ++ ds) (sym (small_decimal n lt))
    ∙ sym (map-append to_ascii_lowercase prefix (decimal n))
