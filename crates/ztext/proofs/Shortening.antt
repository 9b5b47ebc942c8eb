-- Texts that use abbreviations are Z-characters, and each abbreviation that is found is long enough.
use Rattle.std.proofs.Common.{◌≡◌, ℕ, zero, suc, ◌-◌, ◌≤◌, true, List, []}
use Rattle.std.proofs.Common.{◌∷◌, length, drop, get_or, refl, ap, arith}
use Rattle.std.specs.Prelude.{replicate}
use Rattle.std.specs.List.{All, list_all}
use Rattle.std.proofs.lemmas.Bool.{and_parts}
use Rattle.ztext.specs.Alphabets.{is_printable, spelling_of}
use Rattle.ztext.specs.Alphabets.{spelled}
use Rattle.ztext.specs.Words.{missing, padded}
use Rattle.ztext.specs.Abbreviations.{abbreviation_at, Found, spelled_behind}
use Rattle.ztext.specs.TextParts.{AreSmall}
use Rattle.ztext.proofs.Packing.{small_append}
use Rattle.ztext.proofs.Spelling.{AreBytes, spelling_small, fives_small, printable_below}
use Rattle.ztext.proofs.Longest.{spelled_cases, StandsInText}

-- ---- bytes

pub printable_bytes : (text : List ℕ) → list_all is_printable text ≡ true → AreBytes text
printable_bytes [] e = tt
printable_bytes (c ∷ cs) e =
    let p = and_parts (is_printable c) (list_all is_printable cs) e in
    (omega (arith, printable_below c p.0), printable_bytes cs p.1)

behind_small : (texts : List (List ℕ)) (spelled : ℕ) (text : List ℕ) → AreBytes text
    → AreSmall (spelled_behind texts spelled text)
behind_small texts spelled [] h = tt
behind_small texts spelled (c ∷ cs) h =
    spelled_cases AreSmall texts c cs spelled (λ k is. behind_small texts k cs h.1)
    (λ is. small_append (spelling_of c) (spelled_behind texts 0 cs) (spelling_small c h.0)
    (behind_small texts 0 cs h.1))
    (λ is x s. let few = s.few in
    (omega arith, (omega arith, behind_small texts (x.length - 1) cs h.1)))

pub shortened_small : (texts : List (List ℕ)) (text : List ℕ) → AreBytes text
    → AreSmall (padded (spelled_behind texts 0 text))
shortened_small texts text h =
    let zs = spelled_behind texts 0 text in
    small_append zs (replicate (missing (length zs)) 5) (behind_small texts 0 text h)
    (fives_small (missing (length zs)))

abbreviation_is : (texts : List (List ℕ)) (n : ℕ) → abbreviation_at texts n ≡ get_or texts n []
abbreviation_is [] n = refl
abbreviation_is (a ∷ texts) zero = refl
abbreviation_is (a ∷ texts) (suc n) = abbreviation_is texts n

-- what is found is as long as each abbreviation is
pub long_enough : (texts : List (List ℕ)) (text : List ℕ) (x : Found) (least : ℕ)
    → All (λ (a : List ℕ). least ≤ length a) texts → StandsInText texts text x → least ≤ x.length
long_enough texts text x least h s =
    let here : least ≤ length (get_or texts x.number []) = h x.number [] s.within in
    omega (arith, s.size, ap length (abbreviation_is texts x.number))

pub drop_none : (n : ℕ) → drop {A = ℕ} n [] ≡ []
drop_none zero = refl
drop_none (suc n) = refl
