-- Numbers are the longest tokens at the front.
use Rattle.std.proofs.Common.{◌≡◌, ℕ, ◌+◌, ◌<◌, ◌≤◌, Bool, true, false, cond, eqb, ◌||◌, List, [], ◌∷◌, ◌++◌, length}
use Rattle.std.proofs.Common.{get_or, take, drop, refl, sym, ap, subst, ◌∙◌, arith, inl, inr, length-append}
use Rattle.std.proofs.Common.{get_or-drop, add-zero}
use Rattle.std.proofs.Math.Seq.{take-add, drop-append_seam}
use Rattle.std.proofs.lemmas.Bool.{eqb-true}
use Rattle.std.proofs.lemmas.Bool.Decides.{nat_tests}
use Rattle.std.proofs.lemmas.List.{length-take, length-drop, get_or-take, drop-take}
use Rattle.syntax_lexer.specs.declared.bytes.Base.{Base}
use Rattle.syntax_lexer.specs.declared.bytes.Base.TheVariants as bases
use Rattle.syntax_lexer.specs.declared.fault.LexicalFault.TheVariants as f
use Rattle.syntax_lexer.specs.declared.token.Position.{Position}
use Rattle.syntax_lexer.specs.Token.{Lexeme, number}
use Rattle.syntax_lexer.specs.Bytes.{is_digit, is_digit_of, is_name_byte, value_from, run, Each}
use Rattle.syntax_lexer.specs.Spelling.{prefix, IsNumber, Spells}
use Rattle.syntax_lexer.specs.Tokens.{IsLongest, Breaks}
use Rattle.syntax_lexer.specs.Fronts.{base_at}
use Rattle.syntax_lexer.proofs.Runs.{run_within}
use Rattle.syntax_lexer.proofs.Beginnings.{class_of, number_class}
use Rattle.syntax_lexer.proofs.Longest.{run_each, run_some, run_holds, front_class}
use Rattle.syntax_lexer.proofs.SignTokens.{Exact, exact}

digit_no_prefix : (base : Base) (d : ℕ) → is_digit_of base d ≡ true → eqb d 36 ≡ false
digit_no_prefix bases.Decimal d e = grind (arith, nat_tests)
digit_no_prefix bases.Hexadecimal d e = grind (arith, nat_tests)
digit_no_prefix bases.Binary d e = grind (arith, nat_tests)

pub byte_drop : (bs : List ℕ) (n : ℕ) → get_or (drop n bs) 0 0 ≡ get_or bs n 0
byte_drop bs n = get_or-drop n bs 0 0 ∙ ap (λ i. get_or bs i 0) (add-zero n)

-- ---- the base

-- the prefix of the base that two bytes tell stands at the front
pub prefix_stands : (bs : List ℕ) → Exact bs (prefix (base_at (get_or bs 0 0) (get_or bs 1 0)))
    (length (prefix (base_at (get_or bs 0 0) (get_or bs 1 0))))
prefix_stands bs = go bs (eqb (get_or bs 0 0) 36) (eqb (get_or bs 1 0) 36) refl refl
  where
    go : (bs : List ℕ) (t u : Bool) → eqb (get_or bs 0 0) 36 ≡ t → eqb (get_or bs 1 0) 36 ≡ u
        → Exact bs (prefix (cond t (cond u bases.Binary bases.Hexadecimal) bases.Decimal))
        (length (prefix (cond t (cond u bases.Binary bases.Hexadecimal) bases.Decimal)))
    go bs false u p q = exact bs [] 0 refl
    go [] true u p q = absurd cc
    go (a ∷ bs) true false p q = exact (a ∷ bs) (36 ∷ []) 1 (ap (λ k. k ∷ []) (eqb-true a 36 p))
    go (a ∷ []) true true p q = absurd cc
    go (a ∷ c ∷ bs) true true p q = exact (a ∷ c ∷ bs) (36 ∷ 36 ∷ []) 2 (rw (eqb-true a 36 p, eqb-true c 36 q) refl)

-- a number at the front has that base
pub base_is : (bs digits : List ℕ) (base : Base) (m : ℕ) → take m bs ≡ prefix base ++ digits → 0 < length digits
    → Each (is_digit_of base) digits → base ≡ base_at (get_or bs 0 0) (get_or bs 1 0)
base_is bs digits base m e some each = go base digits some each
    (λ i lt. sym (get_or-take m bs i 0 (omega (arith, size, length-append (prefix base) digits)))
    ∙ ap (λ xs. get_or xs i 0) e)
  where
    size : length (prefix base ++ digits) ≤ m
    size = omega (arith, ap length e, length-take m bs)

    go : (base : Base) (digits : List ℕ) → 0 < length digits → Each (is_digit_of base) digits
        → ((i : ℕ) → i < length (prefix base ++ digits) → get_or bs i 0 ≡ get_or (prefix base ++ digits) i 0)
        → base ≡ base_at (get_or bs 0 0) (get_or bs 1 0)
    go base [] some each at = absurd (omega arith)
    go bases.Decimal (d ∷ ds) some each at = let a : eqb (get_or bs 0 0) 36
        ≡ false = ap (λ k. eqb k 36) (at 0 (omega arith)) ∙ digit_no_prefix bases.Decimal d each.0 in rw a refl
    go bases.Hexadecimal (d ∷ ds) some each at =
        let a : get_or bs 0 0 ≡ 36 = at 0 (omega arith) in
        let b : eqb (get_or bs 1 0) 36 ≡ false = ap (λ k. eqb k 36) (at 1 (omega arith))
        ∙ digit_no_prefix bases.Hexadecimal d each.0 in
        rw (a, b) refl
    go bases.Binary (d ∷ ds) some each at =
        let a : get_or bs 0 0 ≡ 36 = at 0 (omega arith) in
        let b : get_or bs 1 0 ≡ 36 = at 1 (omega arith) in
        rw (a, b) refl

-- ---- the digits

module _ (bs : List ℕ) (base : Base) (is : base ≡ base_at (get_or bs 0 0) (get_or bs 1 0)) where
  pub stands : Exact bs (prefix base) (length (prefix base))
  stands = subst (λ k. Exact bs (prefix k) (length (prefix k))) (sym is) (prefix_stands bs)

  -- the digits of a number at the front are within the run
  digits_hold : (digits : List ℕ) (m : ℕ) → take m bs ≡ prefix base ++ digits → Each (is_digit_of base) digits
      → length digits ≤ run (is_digit_of base) (drop (length (prefix base)) bs)
  digits_hold digits m e each =
      let whole = (exact bs (prefix base ++ digits) m e).same in
      let sizes : length (prefix base ++ digits)
      ≡ length (prefix base) + length digits = length-append (prefix base) digits in
      let here : take (length digits) (drop (length (prefix base)) bs)
      ≡ digits = sym (drop-take (length (prefix base)) (length digits) bs)
      ∙ ap (λ k. drop (length (prefix base)) (take k bs)) (sym sizes) ∙ ap (drop (length (prefix base))) whole
      ∙ drop-append_seam (prefix base) digits in
      run_holds (is_digit_of base) (drop (length (prefix base)) bs) digits here each

  record Held (m : ℕ) : Type 0 where
    some : 0 < run (is_digit_of base) (drop (length (prefix base)) bs)
    fits : m ≤ length bs → m ≤ length (prefix base) + run (is_digit_of base) (drop (length (prefix base)) bs)

  held : (v m : ℕ) → IsNumber v (take m bs) → Held m
  held v m h =
      let same : h.0 ≡ base = base_is bs h.1 h.0 m h.2 h.3 h.4 ∙ sym is in
      let e = subst (λ k. take m bs ≡ prefix k ++ h.1) same h.2 in
      let each = subst (λ k. Each (is_digit_of k) h.1) same h.4 in
      let most = digits_hold h.1 m e each in
      record {
        some = omega (arith, most, h.3);
        fits = λ le. omega
            (arith, most, (exact bs (prefix base ++ h.1) m e).all le, length-append (prefix base) h.1);
      }

  module _ (first : (is_digit (get_or bs 0 0) || eqb (get_or bs 0 0) 36) ≡ true) where
    held_token : (x : Lexeme) (m : ℕ) → Spells x (take m bs) → Held m
    held_token x m t = go x t (sym (front_class bs x m t) ∙ number_class (get_or bs 0 0) first)
      where
        go : (x : Lexeme) → Spells x (take m bs) → class_of x ≡ 2 → Held m
        go (number v p) t c = held v m t
        go x t c = absurd (omega arith)

    number_longest : (p : Position) → 0 < run (is_digit_of base) (drop (length (prefix base)) bs)
        → IsLongest bs
        (number (value_from base 0
        (take (run (is_digit_of base) (drop (length (prefix base)) bs)) (drop (length (prefix base)) bs))) p)
        (length (prefix base) + run (is_digit_of base) (drop (length (prefix base)) bs))
    number_longest p some =
        let start = length (prefix base) in
        let rest = drop start bs in
        let count = run (is_digit_of base) rest in
        let within = run_within (is_digit_of base) rest in
        let size : length (take count rest) ≡ count = omega (arith, length-take count rest, within) in
        record {
          within = omega (arith, within, length-drop start bs, stands.within);
          spelled = (
            base,
            take count rest,
            take-add start count bs
                ∙ ap (λ xs. xs ++ take count rest) stands.same,
            omega (arith, size),
            run_each (is_digit_of base) rest,
            refl,
          );
          no_longer = λ other m lt le t. omega (arith, (held_token other m t).fits le);
        }

    -- ---- the same, at what the code has found

    module _ (start count : ℕ) (rest : List ℕ) (es : start ≡ length (prefix base)) (er : rest ≡ drop start bs)
        (ec : count ≡ run (is_digit_of base) rest) where
      rest_is : rest ≡ drop (length (prefix base)) bs
      rest_is = er ∙ ap (λ k. drop k bs) es

      count_is : count ≡ run (is_digit_of base) (drop (length (prefix base)) bs)
      count_is = ec ∙ ap (run (is_digit_of base)) rest_is

      none_first : run (is_digit_of base) (drop (length (prefix base)) bs) ≡ 0 → get_or bs 0 0 ≡ 36
      none_first none = go (eqb (get_or bs 0 0) 36) refl
        where
          decimal : (a : ℕ) → (is_digit a || eqb a 36) ≡ true → eqb a 36 ≡ false → is_digit_of bases.Decimal a ≡ true
          decimal a p q = grind (arith, nat_tests)

          go : (t : Bool) → eqb (get_or bs 0 0) 36 ≡ t → get_or bs 0 0 ≡ 36
          go true e = eqb-true (get_or bs 0 0) 36 e
          go false e =
              let same : base ≡ bases.Decimal = is
              ∙ ap (λ t. cond t (cond (eqb (get_or bs 1 0) 36) bases.Binary bases.Hexadecimal) bases.Decimal) e in
              let some = run_some (is_digit_of bases.Decimal) bs (decimal (get_or bs 0 0) first e) refl in
              let here = subst (λ k. run (is_digit_of k) (drop (length (prefix k)) bs) ≡ 0) same none in
              absurd (omega (arith, some, here))

      pub no_digits : count ≡ 0 → Breaks f.BadNumber bs
      no_digits none = inl
          (none_first (sym count_is ∙ none), λ x m t. omega (arith, (held_token x m t).some, count_is))

      pub found : (digits : List ℕ) (v : ℕ) → digits ≡ take count rest → v ≡ value_from base 0 digits
          → (count ≡ 0 → ⊥) → (p : Position) → IsLongest bs (number v p) (start + count)
      found digits v ed ev some p =
          let nonzero : 0 < count = omega arith in
          let long = number_longest p (omega (arith, count_is)) in
          let digits_are : digits ≡ take (run (is_digit_of base) (drop (length (prefix base)) bs))
          (drop (length (prefix base)) bs) = ed ∙ ap (λ k. take k rest) count_is
          ∙ ap (take (run (is_digit_of base) (drop (length (prefix base)) bs))) rest_is in
          let value_is = ev ∙ ap (value_from base 0) digits_are in
          let size : start + count ≡ length (prefix base) + run (is_digit_of base) (drop (length (prefix base)) bs) =
          omega (arith, count_is) in
          subst (IsLongest bs (number v p)) (sym size)
          (subst (λ k. IsLongest bs (number k p)
          (length (prefix base) + run (is_digit_of base) (drop (length (prefix base)) bs))) (sym value_is) long)

      origin : Position
      origin = record { offset = 0; line = 0 }

      pub too_great : (digits : List ℕ) → digits ≡ take count rest → (count ≡ 0 → ⊥)
          → 65535 < value_from base 0 digits → Breaks f.BadNumber bs
      too_great digits ed some lt = inr (
        value_from base 0 digits,
        start + count,
        origin,
        found digits (value_from base 0 digits) ed refl some
            origin,
        inl lt,
      )

      pub goes_on : (b : ℕ) → b ≡ get_or bs (start + count) 0 → (count ≡ 0 → ⊥) → is_name_byte b ≡ true
          → Breaks f.BadNumber bs
      goes_on b eb some e = inr (
        value_from base 0 (take count rest),
        start + count,
        origin,
        found (take count rest)
            (value_from base 0 (take count rest)) refl refl some origin,
        inr
            (ap is_name_byte (byte_drop bs (start + count) ∙ sym eb) ∙ e),
      )

      pub number_found : (digits : List ℕ) (v b : ℕ) → digits ≡ take count rest → v ≡ value_from base 0 digits
          → v ≤ 65535 → b ≡ get_or bs (start + count) 0 → (count ≡ 0 → ⊥) → is_name_byte b ≡ false → (p : Position)
          → IsLongest bs (number v p) (start + count)
          × ((v ≤ 65535) × (is_name_byte (get_or (drop (start + count) bs) 0 0) ≡ false))
      number_found digits v b ed ev le eb some e p =
          (found digits v ed ev some p, (le, ap is_name_byte (byte_drop bs (start + count) ∙ sym eb) ∙ e))
