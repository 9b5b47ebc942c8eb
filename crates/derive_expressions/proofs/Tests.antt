-- Tests of names.
use Rattle.std.proofs.Common.{◌≡◌, ◌&&◌, ◌∙◌, ℕ, Bool, true, false, not, List, Option, Some, None, refl, ap}
use Rattle.std.proofs.Common.{if◌then◌else◌}
use Rattle.std.specs.Prelude.{◌||◌, codes, is_some}
use Rattle.std.specs.Str.{bytes_eq}
use Rattle.std.proofs.lemmas.Slice.Eq.{bytes_eq-Decides}
use Rattle.syntax_lexer.specs.Token.{Lexeme, name, number, text, character, dictionary_word, reserved, sign, end}
use Rattle.derive_tokens.specs.Tokens.{is_named}
use Rattle.derive_tokens.specs.Names.{is_among, is_name, small, small_name}
use Rattle.derive_values.specs.Places.{Reading}
use Rattle.derive_statements.specs.FileNames.{FileNames, is_defined}
use Rattle.derive_expressions.specs.Calls.{is_self}
use Rattle.derive_expressions.specs.Roles.{functions, is_called, is_own_name, routine_in, routine_of}

-- what holds of a name holds of the same name
alike : (n wanted : List ℕ) (test : List ℕ → Bool) (b : Bool) → bytes_eq n wanted ≡ b
    → (bytes_eq n wanted && not (test n)) ≡ (b && not (test wanted))
alike n wanted test true e =
    ap (λ (c : Bool). c && not (test n)) e ∙ ap (λ (m : List ℕ). not (test m)) ((bytes_eq-Decides n wanted).0 e)
alike n wanted test false e = ap (λ (c : Bool). c && not (test n)) e

self_if : (names : FileNames) (r : Reading) (t : Lexeme) (b : Bool) → is_name t ≡ true → is_named (codes "self") t ≡ b
    → is_self names r (small_name t) ≡ (b && not (is_defined names r.own (codes "self")))
self_if names r (name n p) b e h = alike (small n) (codes "self") (λ (m : List ℕ). is_defined names r.own m) b h
self_if names r (number n p) b e h = absurd cc
self_if names r (text n p) b e h = absurd cc
self_if names r (character n p) b e h = absurd cc
self_if names r (dictionary_word n p) b e h = absurd cc
self_if names r (reserved n p) b e h = absurd cc
self_if names r (sign n p) b e h = absurd cc
self_if names r (end p) b e h = absurd cc

-- `self`, if the source does not define it
pub self_named : (names : FileNames) (r : Reading) (t : Lexeme) → is_name t ≡ true → is_named (codes "self") t ≡ true
    → is_self names r (small_name t) ≡ not (is_defined names r.own (codes "self"))
self_named names r t e h = self_if names r t true e h

-- another name
pub not_self : (names : FileNames) (r : Reading) (t : Lexeme) → is_name t ≡ true → is_named (codes "self") t ≡ false
    → is_self names r (small_name t) ≡ false
not_self names r t e h = self_if names r t false e h

none_anyway : (b : Bool) (made : Option (List ℕ)) → made ≡ None → (if b then None else made) ≡ None
none_anyway true made e = refl
none_anyway false made e = e

-- a name for which no routine is made
pub none_made : (names : FileNames) (r : Reading) (n : List ℕ) → routine_in functions n ≡ None
    → routine_of names r n ≡ None
none_made names r n e = none_anyway (is_defined names r.own n) (routine_in functions n) e

called_tests : (o own routine other : Bool) (made : Option (List ℕ))
    → (o || (is_some (if own || (routine || other) then None else made) || (routine && not own)))
    ≡ (o || (not own && (routine || (is_some made && not other))))
called_tests true own routine other made = refl
called_tests false true true other made = refl
called_tests false true false other made = refl
called_tests false false true other made = refl
called_tests false false false true None = refl
called_tests false false false true (Some x) = refl
called_tests false false false false None = refl
called_tests false false false false (Some x) = refl

-- a routine that is no local, or a function that is nothing else
pub called_if : (names : FileNames) (r : Reading) (n : List ℕ)
    → is_called names r n
    ≡ (is_own_name n || (not (is_among r.own n)
    && (is_among names.routines n || (is_some (routine_in functions n) && not (is_among names.others n)))))
called_if names r n =
    called_tests (is_own_name n) (is_among r.own n) (is_among names.routines n) (is_among names.others n)
    (routine_in functions n)
