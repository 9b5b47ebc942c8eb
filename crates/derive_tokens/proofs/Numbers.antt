-- The decimal digits of a number spell it.
use Rattle.std.proofs.Common.{◌≡◌, ℕ, ◌+◌, ◌-◌, ◌*◌, ◌/◌, ◌%◌, ◌^◌, ◌<◌, ◌≤◌, Bool, true, List, [], ◌∷◌, ◌++◌, length}
use Rattle.std.proofs.Common.{refl, sym, ap, ◌∙◌, subst, arith, append_assoc, length-append, decimal}
use Rattle.std.proofs.lemmas.Bool.Decides.{nat_tests}
use Rattle.std.proofs.lemmas.Fmt.{decimal_by_steps, decimal_step}
use Rattle.syntax_lexer.specs.declared.bytes.Base.TheVariants as bases
use Rattle.syntax_lexer.specs.Bytes.{value_from, digit_value, is_digit_of, Each}
use Rattle.syntax_lexer.specs.Spelling.{IsNumber}

each_more : (p : ℕ → Bool) (xs ys : List ℕ) → Each p xs → Each p ys → Each p (xs ++ ys)
each_more p [] ys h k = k
each_more p (x ∷ xs) ys h k = (h.0, each_more p xs ys h.1 k)

value_more : (n : ℕ) (xs : List ℕ) (d : ℕ)
    → value_from bases.Decimal n (xs ++ d ∷ []) ≡ 10 * value_from bases.Decimal n xs + digit_value d
unfolding value_from
value_more n [] d = refl
value_more n (x ∷ xs) d = value_more (10 * n + digit_value x) xs d

digit_is : (d : ℕ) → d < 10 → digit_value (48 + d) ≡ d
digit_is d lt = grind (arith, nat_tests)

digit_of : (d : ℕ) → d < 10 → is_digit_of bases.Decimal (48 + d) ≡ true
digit_of d lt = rw (digit_is d lt) (grind (arith, nat_tests))

abbrev Digits : ℕ → List ℕ → Type 0
Digits n ds = (0 < length ds) × Each (is_digit_of bases.Decimal) ds × (value_from bases.Decimal 0 ds ≡ n)

one : (n : ℕ) → n < 10 → Digits n ((48 + n) ∷ [])
unfolding value_from
one n lt = (omega arith, (digit_of n lt, tt), omega (arith, digit_is n lt))

next : (n : ℕ) (ds : List ℕ) → 10 ≤ n → Digits (n / 10) ds → Digits n (ds ++ (48 + n % 10) ∷ [])
next n ds le h = (
  omega (arith, length-append ds ((48 + n % 10) ∷ [])),
  each_more (is_digit_of bases.Decimal) ds ((48 + n % 10) ∷ []) h.1 (digit_of (n % 10) (omega arith), tt),
  value_more 0 ds (48 + n % 10) ∙ omega (arith, h.2, digit_is (n % 10) (omega arith)),
)

digits : (n : ℕ) → n < 2 ^ 64 → Digits n (decimal n)
digits n lt = decimal_by_steps Digits one next n lt

pub spells_number : (n : ℕ) → n ≤ 65535 → IsNumber n (decimal n)
spells_number n le =
    let h = digits n (omega arith) in
    (bases.Decimal, decimal n, refl, h.0, h.1, sym h.2)

-- the last digit is put last
pub last_put : (n : ℕ) (old front new : List ℕ) → 10 ≤ n → n < 2 ^ 64 → front ≡ old ++ decimal (n / 10)
    → new ≡ front ++ (48 + n % 10) ∷ [] → new ≡ old ++ decimal n
last_put n old front new le small e f =
    f ∙ ap (λ ds. ds ++ (48 + n % 10) ∷ []) e ∙ append_assoc old (decimal (n / 10)) ((48 + n % 10) ∷ [])
    ∙ ap (λ ds. old ++ ds) (sym (decimal_step n le small))
