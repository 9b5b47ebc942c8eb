-- What was found so far, need by need and part by part.
use Rattle.std.proofs.Common.{◌≡◌, ℕ, ◌+◌, ◌<◌, ◌≤◌, max, min, Bool, true, false, nat_lt, nat_le}
use Rattle.std.proofs.Common.{List, [], ◌∷◌, ◌++◌, Option, Some, None, refl, sym, ap, ◌∙◌, arith}
use Rattle.std.specs.Prelude.{if◌then◌else◌}
use Rattle.std.proofs.lemmas.Bool.Decides.{nat_tests}
use Rattle.syntax_lexer.specs.declared.token.Position.{Position}
use Rattle.messages_diagnosis.specs.declared.sought.Sought.{Sought}
use Rattle.messages_diagnosis.specs.declared.sought.Temporaries.{Temporaries}
use Rattle.messages_diagnosis.specs.Needs.{PlacedNeed}
use Rattle.messages_diagnosis.specs.Walk.{least_of, up_to, risen, wants, with_found, taken, raised_all}

-- Raising a number until it is enough

-- so far it is not above what is wanted
abbrev pub IsOnTheWay : ℕ → ℕ → ℕ → ℕ → Type 0
IsOnTheWay most least need number = (least ≤ number) × (number ≤ max least (min most need))

pub more : (most least need number next : ℕ) → IsOnTheWay most least need number → number < most
    → nat_le need number ≡ false → next ≡ number + 1 → IsOnTheWay most least need next
more most least need number next so_far few test is = (omega (arith, so_far.0, is), grind (arith, nat_tests))

pub enough : (most least need number : ℕ) → IsOnTheWay most least need number → nat_le need number ≡ true
    → number ≡ up_to most least need
enough most least need number so_far test = grind (arith, nat_tests)

pub full : (most least need number : ℕ) → IsOnTheWay most least need number → most ≤ number
    → number ≡ up_to most least need
full most least need number so_far many = omega (arith, so_far.0, so_far.1, many)

-- Lists of needs

pub raised_none : (s : Sought) → raised_all s [] ≡ s
unfolding raised_all
raised_none s = refl

pub raised_append : (s : Sought) (xs ys : List PlacedNeed)
    → raised_all s (xs ++ ys) ≡ raised_all (raised_all s xs) ys
unfolding raised_all
raised_append s [] ys = refl
raised_append s (x ∷ xs) ys = raised_append (taken s x) xs ys

pub raised_two : (r s t : Sought) (xs ys : List PlacedNeed) → s ≡ raised_all r xs → t ≡ raised_all s ys
    → t ≡ raised_all r (xs ++ ys)
raised_two r s t xs ys first second = second ∙ ap (λ q. raised_all q ys) first ∙ sym (raised_append r xs ys)

-- one need that is wanted, where the number so far was raised to it
some_raised : (t : Temporaries) (p : Position) (m n : ℕ) (b : Bool) → n ≡ max t.number m → nat_lt t.number m ≡ b
    → risen (Some t) p n ≡ risen (Some t) p m
some_raised t p m n true is test = let same : n ≡ m = grind (arith, nat_tests) in ap (risen (Some t) p) same
some_raised t p m n false is test =
    let same : nat_lt t.number n ≡ false = grind (arith, nat_tests) in
    let e = λ (c : Bool). if c then Some (record { position = p; number = n }) else Some t in
    let f = λ (c : Bool). if c then Some (record { position = p; number = m }) else Some t in
    ap e same ∙ sym (ap f test)

one_raised : (g : Option Temporaries) (p : Position) (m n : ℕ) → n ≡ max (least_of g) m → risen g p n ≡ risen g p m
one_raised None p m n is = let same : n ≡ m = omega (arith, is) in ap (risen None p) same
one_raised (Some t) p m n is = some_raised t p m n (nat_lt t.number m) is refl

pub raised_once : (s : Sought) (p : Position) (n need : ℕ) → wants s p ≡ true
    → n ≡ up_to s.most (least_of s.found) need
    → with_found s (risen s.found p n) ≡ raised_all s ((p, need) ∷ [])
unfolding raised_all
raised_once s p n need wanted is =
    ap (with_found s) (one_raised s.found p (min s.most need) n is)
    ∙ sym (ap (λ (b : Bool). if b then with_found s (risen s.found p (min s.most need)) else s) wanted)

-- one that is not
pub passed_over : (s : Sought) (p : Position) (need : ℕ) → wants s p ≡ false → s ≡ raised_all s ((p, need) ∷ [])
unfolding raised_all
passed_over s p need aside =
    sym (ap (λ (b : Bool). if b then with_found s (risen s.found p (min s.most need)) else s) aside)
