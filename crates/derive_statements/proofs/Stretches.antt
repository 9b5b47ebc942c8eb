-- A stretch of whole statements or directives in which nothing is met.
use Rattle.std.proofs.Common.{◌≡◌, ◌<◌, ◌+◌, ◌-◌, ◌&&◌, ◌||◌, ◌++◌, ◌⊎◌, ◌∙◌, inl, inr, ℕ, zero, suc, Bool, true, false}
use Rattle.std.proofs.Common.{List, [], ◌∷◌, take, drop, append_assoc, refl, ap, subst, sym, arith}
use Rattle.std.specs.Prelude.{if◌then◌else◌}
use Rattle.std.proofs.lemmas.List.{take-map, drop-map}
use Rattle.syntax_lexer.specs.declared.token.Sign.TheVariants as s
use Rattle.syntax_lexer.specs.declared.token.Word.TheVariants as w
use Rattle.syntax_lexer.specs.declared.token.Position.{Position}
use Rattle.syntax_lexer.specs.Token.{Lexeme, sign, position_of}
use Rattle.derive_tokens.specs.declared.piece.Piece.{Piece}
use Rattle.derive_tokens.specs.Pieces.{derived, derived_all}
use Rattle.derive_tokens.specs.Tokens.{is_sign, is_word}
use Rattle.derive_values.specs.declared.places.Place.{Place}
use Rattle.derive_values.specs.declared.places.Place.TheVariants as places
use Rattle.derive_values.specs.declared.places.Scope.{Scope}
use Rattle.derive_values.specs.declared.places.Scope.TheVariants as scopes
use Rattle.derive_values.specs.Places.{ended, gives_values, is_at_rest, is_words, place_after, scope_after}
use Rattle.derive_statements.specs.Lists.{at_statement}
use Rattle.derive_statements.specs.Quiet.{is_met, is_sought, quiet_from, quiet_run}
use Rattle.derive_statements.specs.declared.quiet.Seek.{Seek}

-- There are so many tokens before the end of a statement, and none is met.
abbrev pub Quiet : Seek → Scope → ℕ → List Lexeme → Type 0
Quiet seek scope n [] = ⊥
Quiet seek scope zero (t ∷ ts) = (is_met seek scope t ts ≡ false) × (is_sign s.Semicolon t ≡ true)
Quiet seek scope (suc n) (t ∷ ts) = (is_met seek scope t ts ≡ false) × Quiet seek scope n ts

abbrev Found : Seek → Scope → ℕ → ℕ → List Lexeme → ℕ → Type 0
Found seek scope last count ts result =
    (result ≡ last) ⊎ ((n : ℕ) × ((result ≡ count + suc n) × Quiet seek scope n ts))

-- after a token, the tokens up to the last end are these
abbrev Latest : Seek → Scope → ℕ → ℕ → Lexeme → List Lexeme → ℕ → Type 0
Latest seek scope last count t ts new = (new ≡ last) ⊎ ((new ≡ count + 1) × Quiet seek scope 0 (t ∷ ts))

latest : (seek : Seek) (scope : Scope) (last count : ℕ) (t : Lexeme) (ts : List Lexeme) (ends : Bool)
    → is_met seek scope t ts ≡ false → is_sign s.Semicolon t ≡ ends
    → Latest seek scope last count t ts (if ends then count + 1 else last)
latest seek scope last count t ts true em es = inr (refl, (em, es))
latest seek scope last count t ts false em es = inl refl

goes_on : (seek : Seek) (scope : Scope) (last new r count : ℕ) (t : Lexeme) (ts : List Lexeme)
    → is_met seek scope t ts ≡ false → Latest seek scope last count t ts new
    → Found seek scope new (count + 1) ts r → Found seek scope last count (t ∷ ts) r
goes_on seek scope last new r count t ts em (inl same) (inl e) = inl (e ∙ same)
goes_on seek scope last new r count t ts em (inr h) (inl e) =
    let more : count + 1 ≡ count + suc 0 = omega arith in inr (0, ((e ∙ h.0 ∙ more), h.1))
goes_on seek scope last new r count t ts em new_is (inr w) =
    let more : count + 1 + suc w.0 ≡ count + suc (suc w.0) = omega arith in
    inr (suc w.0, ((w.1.0 ∙ more), (em, w.1.1)))

one : (seek : Seek) (scope : Scope) (last r count : ℕ) (t : Lexeme) (ts : List Lexeme) (met : Bool)
    → is_met seek scope t ts ≡ met
    → Found seek scope (if is_sign s.Semicolon t then count + 1 else last) (count + 1) ts r
    → Found seek scope last count (t ∷ ts) (if met then last else r)
one seek scope last r count t ts true em f = inl refl
one seek scope last r count t ts false em f =
    goes_on seek scope last (if is_sign s.Semicolon t then count + 1 else last) r count t ts em
    (latest seek scope last count t ts (is_sign s.Semicolon t) em refl) f

found_from : (seek : Seek) (scope : Scope) (last count : ℕ) (ts : List Lexeme)
    → Found seek scope last count ts (quiet_from seek scope last count ts)
found_from seek scope last count [] = inl refl
found_from seek scope last count (t ∷ ts) =
    let new : ℕ = if is_sign s.Semicolon t then count + 1 else last in
    one seek scope last (quiet_from seek scope new (count + 1) ts) count t ts (is_met seek scope t ts) refl
    (found_from seek scope new (count + 1) ts)

abbrev pub Front : Seek → Scope → List Lexeme → ℕ → Type 0
Front seek scope ts r = (n : ℕ) × ((suc n ≡ r) × Quiet seek scope n ts)

in_front : (seek : Seek) (scope : Scope) (ts : List Lexeme) (r : ℕ) → 0 < r → Found seek scope 0 0 ts r
    → Front seek scope ts r
in_front seek scope ts r lt (inl e) = absurd (omega (arith, e))
in_front seek scope ts r lt (inr w) = let same : suc w.0 ≡ r = omega (arith, w.1.0) in (w.0, (same, w.1.1))

pub quiet_found : (seek : Seek) (scope : Scope) (ts : List Lexeme) (r : ℕ) → 0 < r → r ≡ quiet_run seek scope ts
    → Front seek scope ts r
quiet_found seek scope ts r lt e =
    in_front seek scope ts r lt (subst (λ n. Found seek scope 0 0 ts n) (sym e) (found_from seek scope 0 0 ts))

-- ---- the token

pub semicolon : (t : Lexeme) → is_sign s.Semicolon t ≡ true → t ≡ sign s.Semicolon (position_of t)
semicolon (sign s.Semicolon p) e = refl
semicolon _ e = absurd cc

pub neither : (a b : Bool) → (a || b) ≡ false → (a ≡ false) × (b ≡ false)
neither true b e = absurd cc
neither false b e = (refl, e)

pub off : (a : Bool) → (a && false) ≡ false
off true = refl
off false = refl

pub other_off : (a b : Bool) → a ≡ true → (a && b) ≡ false → b ≡ false
other_off true b is e = e
other_off false b is e = absurd cc

-- no bracket of a routine, and nothing that is looked for
pub unmet : (seek : Seek) (scope : Scope) (t : Lexeme) (ts : List Lexeme) → is_met seek scope t ts ≡ false
    → (is_sign s.OpenBracket t ≡ false) × ((is_sign s.CloseBracket t ≡ false)
    × ((at_statement scope && is_sought seek t ts) ≡ false))
unmet seek scope t ts e =
    let h = neither (is_sign s.OpenBracket t) (is_sign s.CloseBracket t || (at_statement scope && is_sought seek t ts)) e in
    (h.0, neither (is_sign s.CloseBracket t) (at_statement scope && is_sought seek t ts) h.1)

-- ---- the scope

-- not in the header of a routine
abbrev pub is_kept : Scope → Bool
is_kept scopes.Named = false
is_kept scopes.Locals = false
is_kept _ = true

-- where the next statement or directive begins
abbrev pub home : Scope → Scope
home (scopes.Body place) = scopes.Body places.Statement
home _ = scopes.Between

abbrev pub Stays : Scope → Scope → Type 0
Stays new old = (is_kept new ≡ true) × (home new ≡ home old)

either : (b : Bool) (x y old : Scope) → Stays x old → Stays y old → Stays (if b then x else y) old
either true x y old f g = f
either false x y old f g = g

-- after the first token of a directive
abbrev begun : Lexeme → Scope
begun t = if is_word w.Object t then scopes.Head else if gives_values t then scopes.Worth else ended t scopes.Bare

between : (t : Lexeme) → Stays (begun t) scopes.Between
between t =
    either (is_word w.Object t) scopes.Head (if gives_values t then scopes.Worth else ended t scopes.Bare)
    scopes.Between (refl, refl)
    (either (gives_values t) scopes.Worth (ended t scopes.Bare) scopes.Between (refl, refl)
    (either (is_sign s.Semicolon t) scopes.Between scopes.Bare scopes.Between (refl, refl) (refl, refl)))

or_ends : (t : Lexeme) (b : Bool) (x y old : Scope) → Stays x old → Stays y old → Stays scopes.Between old
    → Stays (ended t (if b then x else y)) old
or_ends t b x y old f g h =
    either (is_sign s.Semicolon t) scopes.Between (if b then x else y) old h (either b x y old f g)

-- a token that is no bracket of a routine
pub scope_stays : (scope : Scope) (t : Lexeme) → is_kept scope ≡ true → is_sign s.OpenBracket t ≡ false
    → is_sign s.CloseBracket t ≡ false → Stays (scope_after scope t) scope
scope_stays scopes.Between t kept opens closes =
    subst (λ b. Stays (if b then scopes.Named else begun t) scopes.Between) (sym opens) (between t)
scope_stays scopes.Named t kept opens closes = absurd cc
scope_stays scopes.Locals t kept opens closes = absurd cc
scope_stays (scopes.Body place) t kept opens closes =
    subst (λ b. Stays (if b then scopes.Bare else scopes.Body (place_after place t)) (scopes.Body place)) (sym closes)
    (refl, refl)
scope_stays scopes.Head t kept opens closes =
    or_ends t (is_sign s.Comma t || is_word w.With t) scopes.Property scopes.Head scopes.Head (refl, refl) (refl, refl)
    (refl, refl)
scope_stays scopes.Property t kept opens closes =
    or_ends t (is_word w.With t) scopes.Property (if is_words t then scopes.Words else scopes.Worth) scopes.Property
    (refl, refl) (either (is_words t) scopes.Words scopes.Worth scopes.Property (refl, refl) (refl, refl)) (refl, refl)
scope_stays scopes.Words t kept opens closes =
    or_ends t (is_sign s.Comma t) scopes.Property scopes.Words scopes.Words (refl, refl) (refl, refl) (refl, refl)
scope_stays scopes.Worth t kept opens closes =
    or_ends t (is_sign s.Comma t) scopes.Property scopes.Worth scopes.Worth (refl, refl) (refl, refl) (refl, refl)
scope_stays scopes.Bare t kept opens closes =
    either (is_sign s.Semicolon t) scopes.Between scopes.Bare scopes.Bare (refl, refl) (refl, refl)

place_ends : (place : Place) (p : Position) → place_after place (sign s.Semicolon p) ≡ places.Statement
place_ends places.Statement p = refl
place_ends places.Item p = refl
place_ends places.Rule p = refl
place_ends (places.Within form opened) p = refl

sign_ends : (scope : Scope) (p : Position) → is_kept scope ≡ true
    → scope_after scope (sign s.Semicolon p) ≡ home scope
sign_ends scopes.Between p kept = refl
sign_ends scopes.Named p kept = absurd cc
sign_ends scopes.Locals p kept = absurd cc
sign_ends (scopes.Body place) p kept = ap scopes.Body (place_ends place p)
sign_ends scopes.Head p kept = refl
sign_ends scopes.Property p kept = refl
sign_ends scopes.Words p kept = refl
sign_ends scopes.Worth p kept = refl
sign_ends scopes.Bare p kept = refl

-- at the end of a statement or a directive
pub scope_ends : (scope : Scope) (t : Lexeme) → is_kept scope ≡ true → is_sign s.Semicolon t ≡ true
    → scope_after scope t ≡ home scope
scope_ends scope t kept e = ap (scope_after scope) (semicolon t e) ∙ sign_ends scope (position_of t) kept

pub at_home : (scope : Scope) → is_at_rest scope ≡ true → (is_kept scope ≡ true) × (scope ≡ home scope)
at_home scopes.Between rest = (refl, refl)
at_home (scopes.Body places.Statement) rest = (refl, refl)
at_home _ rest = absurd cc

-- ---- the tokens

-- tokens that are put as they are, and what follows
pub rows : (f : List Lexeme → List Lexeme) (pieces : List Piece) (old new : List Lexeme) (count : ℕ)
    → new ≡ old ++ derived_all (take count pieces)
    → take count (derived_all pieces) ++ f (drop count (derived_all pieces)) ≡ f (derived_all pieces)
    → new ++ f (derived_all (drop count pieces)) ≡ old ++ f (derived_all pieces)
rows f pieces old new count is e =
    ap (λ (ts : List Lexeme). ts ++ f (derived_all (drop count pieces))) is
    ∙ append_assoc old (derived_all (take count pieces)) (f (derived_all (drop count pieces)))
    ∙ ap (λ (ts : List Lexeme). old ++ (ts ++ f (derived_all (drop count pieces)))) (sym (take-map derived count pieces))
    ∙ ap (λ (ts : List Lexeme). old ++ (take count (derived_all pieces) ++ f ts)) (sym (drop-map derived count pieces))
    ∙ ap (λ (ts : List Lexeme). old ++ ts) e
