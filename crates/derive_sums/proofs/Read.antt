-- How many tokens were read, and how many names or `or` were met in them.
use Rattle.std.proofs.Common.{◌≡◌, ◌≤◌, ◌<◌, ◌+◌, ◌^◌, ◌==◌, ◌&&◌, ℕ, Bool, true, false, arith, sym, subst}
use Rattle.std.specs.Prelude.{if◌then◌else◌}
use Rattle.syntax_lexer.specs.Token.{Lexeme}
use Rattle.derive_statements.specs.Lists.{deeper}
use Rattle.derive_sums.specs.declared.counting.Part.{Part}
use Rattle.derive_sums.specs.declared.counting.Part.TheVariants as parts
use Rattle.derive_sums.specs.Sums.{is_operator, is_or, met_after, part_after, takes_names}
use Rattle.derive_sums.specs.Views.{read_in}

-- there is room for one more
pub room_one : (part : Part) (met : ℕ) → read_in part met < 2 ^ 64 → met + 1 < 2 ^ 64
room_one (parts.Sought depth) met lt = omega (arith, lt)
room_one parts.Name met lt = omega (arith, lt)
room_one parts.Or met lt = omega (arith, lt)
room_one (parts.Sums depth) met lt = omega (arith, lt)

pub room_more : (part : Part) (met : ℕ) → read_in part met + 1 < 2 ^ 64 → met + 1 < 2 ^ 64
room_more part met lt = room_one part met (omega (arith, lt))

sought : (names operator : Bool) (depth met : ℕ)
    → read_in (if operator then (if names then parts.Name else parts.Sums 0) else parts.Sought depth) met ≤ met + met + 1
sought true true depth met = omega arith
sought false true depth met = omega arith
sought true false depth met = omega arith
sought false false depth met = omega arith

summed : (counted : Bool) (met : ℕ) → (if counted then met + 1 else met) + 1 ≤ met + 1 + 1
summed true met = omega arith
summed false met = omega arith

read_on : (part : Part) (met : ℕ) (t : Lexeme)
    → read_in (part_after part t) (met_after part met t) ≤ read_in part met + 1
read_on (parts.Sought n) met t = sought (takes_names t) ((n == 0) && is_operator t) (deeper n t) met
read_on parts.Name met t = omega arith
read_on parts.Or met t = omega arith
read_on (parts.Sums n) met t = summed ((n == 0) && is_or t) met

pub read_more : (new part : Part) (n met : ℕ) (t : Lexeme) → new ≡ part_after part t → n ≡ met_after part met t
    → read_in new n ≤ read_in part met + 1
read_more new part n met t e f =
    let P : Part → Type 0 = λ x. read_in x n ≤ read_in part met + 1 in
    let Q : ℕ → Type 0 = λ x. read_in (part_after part t) x ≤ read_in part met + 1 in
    subst P (sym e) (subst Q (sym f) (read_on part met t))
