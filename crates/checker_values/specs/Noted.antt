-- Words of proofs: the first of the broken rules that were met so far, and how many they are.
use Rattle.std.specs.Prelude.{◌+◌, ℕ, nat_lt, Bool, true, if◌then◌else◌, List, [], ◌∷◌, Option, Some, None}
use Rattle.std.specs.List.{filter}
use Rattle.checker_values.specs.declared.breach.Breach.{Breach}
use Rattle.checker_values.specs.declared.noting.Tally.{Tally}
use Rattle.checker_values.specs.Breaches.{is_before}

abbrev pub first_of_two : Option Breach → Breach → Option Breach
first_of_two None b = Some b
first_of_two (Some a) b = if is_before b a then Some b else Some a

-- whether it is after one that is known already, if there is one
abbrev pub is_after : Option Breach → Breach → Bool
is_after None b = true
is_after (Some known) b = is_before known b

-- those of a list after a known one
abbrev pub later : Breach → List Breach → List Breach
later known breaches = filter (is_after (Some known)) breaches

-- so many are counted at most
abbrev pub most_counted : ℕ
most_counted = 1000000

-- a number as it is counted
abbrev pub counted : ℕ → ℕ
counted n = if nat_lt n most_counted then n else most_counted

abbrev pub one_more : ℕ → ℕ
one_more count = if nat_lt count most_counted then count + 1 else count

abbrev pub met : Tally → Breach → Tally
met tally b =
    if is_after tally.after b then
    record tally { found = first_of_two tally.found b; count = one_more tally.count }
    else tally

-- what is known when one that was met and a list are
unfoldable pub noted : Tally → List Breach → Tally
noted tally [] = tally
noted tally (b ∷ bs) = noted (met tally b) bs
