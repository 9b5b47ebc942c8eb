-- What was found at an offset is the first of the needs that begin there.
use Rattle.std.proofs.Common.{◌≡◌, ℕ, Bool, true, false, min, nat_eq, List, [], ◌∷◌, Option, Some, None, refl, sym}
use Rattle.std.proofs.Common.{ap, ◌∙◌}
use Rattle.std.specs.Prelude.{if◌then◌else◌}
use Rattle.messages_diagnosis.specs.declared.sought.Sought.{Sought}
use Rattle.messages_diagnosis.specs.declared.sought.Temporaries.{Temporaries}
use Rattle.messages_diagnosis.specs.Needs.{PlacedNeed, first_at}
use Rattle.messages_diagnosis.specs.Walk.{risen, with_found, raised_all}

-- a walk that looks for the first at an offset
abbrev pub at_offset : ℕ → Option Temporaries → Sought
at_offset o found = record { most = 255; offset = Some o; found = found }

abbrev number_of : Option Temporaries → Option ℕ
number_of None = None
number_of (Some t) = Some t.number

-- the first stays
stays : (o : ℕ) (t : Temporaries) (xs : List PlacedNeed) → raised_all (at_offset o (Some t)) xs ≡ at_offset o (Some t)
unfolding raised_all
stays o t [] = refl
stays o t (x ∷ xs) = stays o t xs

one_next : (o : ℕ) (x : PlacedNeed) (xs : List PlacedNeed) (b : Bool)
    → number_of (raised_all (at_offset o None) xs).found ≡ first_at o xs
    → number_of
    (raised_all (if b then with_found (at_offset o None) (risen None x.0 (min 255 x.1)) else at_offset o None) xs).found
    ≡ (if b then Some (min 255 x.1) else first_at o xs)
one_next o x xs true h =
    ap (λ (s : Sought). number_of s.found) (stays o (record { position = x.0; number = min 255 x.1 }) xs)
one_next o x xs false h = h

first_found : (o : ℕ) (xs : List PlacedNeed) → number_of (raised_all (at_offset o None) xs).found ≡ first_at o xs
unfolding raised_all
first_found o [] = refl
first_found o (x ∷ xs) = one_next o x xs (nat_eq x.0.offset o) (first_found o xs)

pub none_at : (o : ℕ) (xs : List PlacedNeed) (s : Sought) → s ≡ raised_all (at_offset o None) xs → s.found ≡ None
    → None ≡ first_at o xs
none_at o xs s is none = ap number_of (sym none) ∙ ap (λ (t : Sought). number_of t.found) is ∙ first_found o xs

pub one_at : (o : ℕ) (xs : List PlacedNeed) (s : Sought) (t : Temporaries) → s ≡ raised_all (at_offset o None) xs
    → s.found ≡ Some t → Some t.number ≡ first_at o xs
one_at o xs s t is some = ap number_of (sym some) ∙ ap (λ (u : Sought). number_of u.found) is ∙ first_found o xs
