-- The groups of numbers and ranges that the tests of a case ask for.
use Rattle.std.proofs.Common.{◌≡◌, ℕ, ◌≤◌, List, [], ◌∷◌, length, Bool, true, false, refl, ap, ◌∙◌, arith}
use Rattle.std.specs.Prelude.{◌||◌, ◌&&◌, ◌==◌, not, nat_lt, if◌then◌else◌}
use Rattle.std.specs.List.{All, list_any}
use Rattle.std.proofs.lemmas.List.Elements.{All-nil, All-cons, All-tail}
use Rattle.std.proofs.lemmas.Bool.{ltb-true}
use Rattle.zcore.specs.Arithmetic.{signed_less}
use Rattle.meaning.specs.Resolved.{RangeOf}
use Rattle.meaning.specs.Resolved as source
use Rattle.meaning.specs.Meaning.{holds_for}
use Rattle.code_items.specs.Statements.{Group, numbers, range, with_number, groups_of}

-- whether a group holds for a word
abbrev pub asks : ℕ → Group → Bool
asks v (numbers ns) = list_any (λ y. v == y) ns
asks v (range low high) = not (signed_less v low) && not (signed_less high v)

-- a group has a number, and no more than one test can ask for
abbrev pub IsGroup : Group → Type 0
IsGroup (numbers ns) = (1 ≤ length ns) × (length ns ≤ 3)
IsGroup (range low high) = Unit {0}

first_of_group : (a b c : Bool) → ((a || b) || c) ≡ (a || (b || c))
first_of_group true b c = refl
first_of_group false b c = refl

alone_first : (b c : Bool) → ((b || false) || c) ≡ (b || c)
alone_first true c = refl
alone_first false c = refl

number_holds : (v n : ℕ) (groups : List Group) → list_any (asks v) (with_number n groups)
    ≡ ((v == n) || list_any (asks v) groups)
number_holds v n [] = alone_first (v == n) false
number_holds v n (range low high ∷ groups) = alone_first (v == n) (list_any (asks v) (range low high ∷ groups))
number_holds v n (numbers ns ∷ groups) = go (nat_lt (length ns) 3)
  where
    go : (b : Bool) → list_any (asks v)
        (if b then numbers (n ∷ ns) ∷ groups else numbers (n ∷ []) ∷ numbers ns ∷ groups)
        ≡ ((v == n) || list_any (asks v) (numbers ns ∷ groups))
    go true = first_of_group (v == n) (list_any (λ y. v == y) ns) (list_any (asks v) groups)
    go false = alone_first (v == n) (list_any (asks v) (numbers ns ∷ groups))

-- the groups hold for the words that the ranges hold for
pub groups_hold : (v : ℕ) (gs : List RangeOf) → list_any (asks v) (groups_of gs) ≡ list_any (holds_for v) gs
groups_hold v [] = refl
groups_hold v (source.one n ∷ gs) = number_holds v n (groups_of gs) ∙ ap (λ b. (v == n) || b) (groups_hold v gs)
groups_hold v (source.between low high ∷ gs) =
    ap (λ b. (not (signed_less v low) && not (signed_less high v)) || b) (groups_hold v gs)

number_grouped : (n : ℕ) (groups : List Group) → All IsGroup groups → All IsGroup (with_number n groups)
number_grouped n [] h = All-cons IsGroup (numbers (n ∷ [])) [] (omega arith, omega arith) h
number_grouped n (range low high ∷ groups) h =
    All-cons IsGroup (numbers (n ∷ [])) (range low high ∷ groups) (omega arith, omega arith) h
number_grouped n (numbers ns ∷ groups) h = go (nat_lt (length ns) 3) refl
  where
    go : (b : Bool) → nat_lt (length ns) 3 ≡ b → All IsGroup
        (if b then numbers (n ∷ ns) ∷ groups else numbers (n ∷ []) ∷ numbers ns ∷ groups)
    go true e =
        let few = ltb-true (length ns) 3 e in
        All-cons IsGroup (numbers (n ∷ ns)) groups (omega arith, omega (arith, few))
        (All-tail IsGroup (numbers ns) groups h)
    go false e = All-cons IsGroup (numbers (n ∷ [])) (numbers ns ∷ groups) (omega arith, omega arith) h

pub are_groups : (gs : List RangeOf) → All IsGroup (groups_of gs)
are_groups [] = All-nil IsGroup
are_groups (source.one n ∷ gs) = number_grouped n (groups_of gs) (are_groups gs)
are_groups (source.between low high ∷ gs) = All-cons IsGroup (range low high) (groups_of gs) tt (are_groups gs)
