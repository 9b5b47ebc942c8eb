-- Abbreviations where no rule is broken: how many there may be, how long they are, and that they print.
use Rattle.std.proofs.Common.{◌≡◌, ℕ, ◌+◌, ◌≤◌, nat_lt, nat_le, Bool, true, false, ◌&&◌, ◌||◌, ◌==◌, List, [], ◌∷◌}
use Rattle.std.proofs.Common.{◌++◌, length, cond, refl, length-append, arith}
use Rattle.std.specs.Prelude.{map}
use Rattle.std.specs.List.{All, list_all}
use Rattle.std.proofs.lemmas.Bool.Decides.{nat_tests}
use Rattle.std.proofs.lemmas.List.{length-map}
use Rattle.std.proofs.lemmas.List.Elements.{All-nil, All-cons, All-head, All-tail}
use Rattle.ztext.specs.Alphabets.{is_printable}
use Rattle.syntax_lexer.specs.Printable.{IsPrintable}
use Rattle.syntax_lexer.specs.declared.token.Position.{Position}
use Rattle.syntax_directives.specs.Tree.{TextTree}
use Rattle.syntax_directives.specs.Printable.{IsPrintableText}
use Rattle.meaning.specs.Places.{machine_character}
use Rattle.checker_values.specs.Breaches.{at}
use Rattle.checker_values.proofs.Kept.{left_empty, right_empty, below}
use Rattle.checker.specs.Programs.{has_text, abbreviation_breaches, abbreviations_breaches}
use Rattle.checker.proofs.Whole.{characters_of}

-- Where no rule is broken there are few, and each is long

kept_few : (c d : Bool) (p : Position) → cond c (at p 24) (cond d (at p 33) []) ≡ [] → c ≡ false
kept_few true d p h = absurd cc
kept_few false d p h = refl

kept_long : (c s t : Bool) (p : Position) → cond c (at p 24) (cond (s || t) (at p 33) []) ≡ [] → s ≡ false
kept_long true s t p h = absurd cc
kept_long false true t p h = absurd cc
kept_long false false t p h = refl

at_least : (limit n : ℕ) → nat_lt n limit ≡ false → limit ≤ n
at_least limit n h = grind (arith, nat_tests)

few_from : (before ts : List TextTree) → length before ≤ 96 → abbreviations_breaches before ts ≡ []
    → length before + length ts ≤ 96
few_from before [] few h = omega (arith, few)
few_from before (t ∷ ts) few h =
    let own = abbreviation_breaches before t in
    let rest = abbreviations_breaches (before ++ t ∷ []) ts in
    let room = below 96 (length before)
    (kept_few (nat_le 96 (length before)) (nat_lt (length t.bytes) 2 || has_text before t.bytes) t.position
    (left_empty own rest h)) in
    let longer = length-append before (t ∷ []) in
    let all = few_from (before ++ t ∷ []) ts (omega (arith, room, longer)) (right_empty own rest h) in
    omega (arith, all, longer)

pub texts_few : (ts : List TextTree) → abbreviations_breaches [] ts ≡ [] → length (map characters_of ts) ≤ 96
texts_few ts h =
    let all = few_from [] ts (omega arith) h in
    omega (arith, all, length-map ts characters_of)

abbrev IsLong : List ℕ → Type 0
IsLong a = 2 ≤ length a

pub texts_long : (before ts : List TextTree) → abbreviations_breaches before ts ≡ [] → All IsLong (map characters_of ts)
texts_long before [] h = All-nil IsLong
texts_long before (t ∷ ts) h =
    let own = abbreviation_breaches before t in
    let rest = abbreviations_breaches (before ++ t ∷ []) ts in
    let long = at_least 2 (length t.bytes)
    (kept_long (nat_le 96 (length before)) (nat_lt (length t.bytes) 2) (has_text before t.bytes) t.position
    (left_empty own rest h)) in
    All-cons IsLong (characters_of t) (map characters_of ts)
    (omega (arith, long, length-map t.bytes machine_character))
    (texts_long (before ++ t ∷ []) ts (right_empty own rest h))

-- What prints in the source prints on the machine

printable_by : (b d : Bool) (c : ℕ) → 32 ≤ c → c ≤ 126 → is_printable (cond b 13 (cond d 34 c)) ≡ true
printable_by true d c low high = refl
printable_by false true c low high = refl
printable_by false false c low high = grind (arith, nat_tests)

two_hold : (s t : Bool) → s ≡ true → t ≡ true → (s && t) ≡ true
two_hold true t s h = h
two_hold false t s h = absurd cc

text_prints : (bytes : List ℕ) → All IsPrintable bytes → list_all is_printable (map machine_character bytes) ≡ true
text_prints [] h = refl
text_prints (c ∷ cs) h =
    let own = All-head IsPrintable c cs h in
    two_hold (is_printable (machine_character c)) (list_all is_printable (map machine_character cs))
    (printable_by (c == 94) (c == 126) c own.0 own.1) (text_prints cs (All-tail IsPrintable c cs h))

abbrev Prints : List ℕ → Type 0
Prints a = list_all is_printable a ≡ true

pub texts_print : (ts : List TextTree) → All IsPrintableText ts → All Prints (map characters_of ts)
texts_print [] h = All-nil Prints
texts_print (t ∷ ts) h =
    All-cons Prints (characters_of t) (map characters_of ts) (text_prints t.bytes (All-head IsPrintableText t ts h))
    (texts_print ts (All-tail IsPrintableText t ts h))
