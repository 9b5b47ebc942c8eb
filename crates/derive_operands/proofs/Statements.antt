-- A statement without what a pass looks for.
use Rattle.std.proofs.Common.{◌≡◌, ◌<◌, ◌+◌, ◌==◌, ◌&&◌, ◌||◌, ◌⊎◌, inl, inr, ℕ, zero, suc, Bool, true, false, List}
use Rattle.std.proofs.Common.{[], ◌∷◌, take, ◌∙◌, refl, ap, subst, sym, arith}
use Rattle.std.specs.Prelude.{if◌then◌else◌}
use Rattle.std.proofs.lemmas.Bool.{and_parts, eqb-true}
use Rattle.syntax_lexer.specs.declared.token.Sign.TheVariants as s
use Rattle.syntax_lexer.specs.declared.token.Word.TheVariants as w
use Rattle.syntax_lexer.specs.declared.token.Position.{Position}
use Rattle.syntax_lexer.specs.Token.{Lexeme, reserved, sign, position_of}
use Rattle.derive_tokens.specs.Tokens.{is_sign, is_word}
use Rattle.derive_values.specs.declared.places.Place.{Place}
use Rattle.derive_values.specs.declared.places.Place.TheVariants as places
use Rattle.derive_values.specs.declared.places.Scope.{Scope}
use Rattle.derive_values.specs.declared.places.Scope.TheVariants as scopes
use Rattle.derive_values.specs.Places.{ended, gives_values, is_at_rest, is_words, place_after, scope_after}
use Rattle.derive_statements.specs.Lists.{deeper}
use Rattle.std.specs.List.{fold}
use Rattle.derive_operands.specs.declared.quiet.Area.{Area}
use Rattle.derive_operands.specs.declared.quiet.Area.TheVariants as areas
use Rattle.derive_operands.specs.Quiet.{Run, area_after, area_of, is_met, quiet_from, quiet_run, run, scope_at}
use Rattle.derive_operands.specs.Steps.{is_step}

-- In so many brackets there are so many tokens before the end of a statement, and none is met that matters.
abbrev pub Quiet : Bool → ℕ → ℕ → List Lexeme → Type 0
Quiet steps depth n [] = ⊥
Quiet steps depth zero (t ∷ ts) = (depth ≡ 0) × (is_sign s.Semicolon t ≡ true)
Quiet steps depth (suc n) (t ∷ ts) = (is_met steps t ≡ false) × Quiet steps (deeper depth t) n ts

abbrev pub Found : Bool → Run → ℕ → ℕ → Area → List Lexeme → Run → Type 0
Found steps last count depth area ts result =
    (result ≡ last)
    ⊎ ((n : ℕ) × ((result ≡ run (count + suc n) (fold area_after area (take (suc n) ts))) × Quiet steps depth n ts))

goes_on : (steps : Bool) (last new r : Run) (count depth : ℕ) (area : Area) (t : Lexeme) (ts : List Lexeme)
    → is_met steps t ≡ false → (new ≡ last ⊎ ((new ≡ run (count + 1) (area_after area t)) × Quiet steps depth 0 (t ∷ ts)))
    → Found steps new (count + 1) (deeper depth t) (area_after area t) ts r → Found steps last count depth area (t ∷ ts) r
goes_on steps last new r count depth area t ts em (inl same) (inl e) = inl (e ∙ same)
goes_on steps last new r count depth area t ts em (inr h) (inl e) =
    let more : count + 1 ≡ count + suc 0 = omega arith in
    inr (0, ((e ∙ h.0 ∙ ap (λ n. run n (area_after area t)) more), h.1))
goes_on steps last new r count depth area t ts em new_is (inr w) =
    let more : count + 1 + suc w.0 ≡ count + suc (suc w.0) = omega arith in
    inr (suc w.0, ((w.1.0 ∙ ap (λ n. run n (fold area_after (area_after area t) (take (suc w.0) ts))) more), (em, w.1.1)))

new_last : (steps : Bool) (last : Run) (count depth : ℕ) (area : Area) (t : Lexeme) (ts : List Lexeme) (ends : Bool)
    → ((depth == 0) && is_sign s.Semicolon t) ≡ ends
    → ((if ends then run (count + 1) (area_after area t) else last) ≡ last)
    ⊎ (((if ends then run (count + 1) (area_after area t) else last) ≡ run (count + 1) (area_after area t))
    × Quiet steps depth 0 (t ∷ ts))
new_last steps last count depth area t ts true es =
    let h = and_parts (depth == 0) (is_sign s.Semicolon t) es in inr (refl, (eqb-true depth 0 h.0, h.1))
new_last steps last count depth area t ts false es = inl refl

one : (steps : Bool) (last new r : Run) (count depth : ℕ) (area : Area) (t : Lexeme) (ts : List Lexeme) (met : Bool)
    → is_met steps t ≡ met
    → (new ≡ last ⊎ ((new ≡ run (count + 1) (area_after area t)) × Quiet steps depth 0 (t ∷ ts)))
    → Found steps new (count + 1) (deeper depth t) (area_after area t) ts r
    → Found steps last count depth area (t ∷ ts) (if met then last else r)
one steps last new r count depth area t ts true em new_is f = inl refl
one steps last new r count depth area t ts false em new_is f = goes_on steps last new r count depth area t ts em new_is f

found_from : (steps : Bool) (last : Run) (count depth : ℕ) (area : Area) (ts : List Lexeme)
    → Found steps last count depth area ts (quiet_from steps last count depth area ts)
found_from steps last count depth area [] = inl refl
found_from steps last count depth area (t ∷ ts) =
    let ends : Bool = (depth == 0) && is_sign s.Semicolon t in
    let new : Run = if ends then run (count + 1) (area_after area t) else last in
    one steps last new (quiet_from steps new (count + 1) (deeper depth t) (area_after area t) ts) count depth area t ts
    (is_met steps t) refl (new_last steps last count depth area t ts ends refl)
    (found_from steps new (count + 1) (deeper depth t) (area_after area t) ts)

abbrev pub Front : Bool → Area → List Lexeme → Run → Type 0
Front steps area ts r = (n : ℕ) × ((r ≡ run (suc n) (fold area_after area (take (suc n) ts))) × Quiet steps 0 n ts)

in_front : (steps : Bool) (area : Area) (ts : List Lexeme) (r : Run) → 0 < r.length
    → Found steps (run 0 area) 0 0 area ts r → Front steps area ts r
in_front steps area ts r lt (inl e) = let none_met : r.length ≡ 0 = ap (λ (x : Run). x.length) e in absurd (omega arith)
in_front steps area ts r lt (inr w) =
    let same : 0 + suc w.0 ≡ suc w.0 = omega arith in
    (w.0, ((w.1.0 ∙ ap (λ n. run n (fold area_after area (take (suc w.0) ts))) same), w.1.1))

pub quiet_found : (steps : Bool) (area : Area) (ts : List Lexeme) → 0 < (quiet_run steps area ts).length
    → Front steps area ts (quiet_run steps area ts)
quiet_found steps area ts lt =
    in_front steps area ts (quiet_run steps area ts) lt (found_from steps (run 0 area) 0 0 area ts)

-- ---- the token

pub semicolon : (t : Lexeme) → is_sign s.Semicolon t ≡ true → t ≡ sign s.Semicolon (position_of t)
semicolon (sign s.Semicolon p) e = refl
semicolon _ e = absurd cc

pub neither : (a b : Bool) → (a || b) ≡ false → (a ≡ false) × (b ≡ false)
neither true b e = absurd cc
neither false b e = (refl, e)

pub no_bracket : (t : Lexeme) → is_met true t ≡ false
    → (is_sign s.OpenBracket t ≡ false) × (is_sign s.CloseBracket t ≡ false)
no_bracket t e =
    let h = neither (is_sign s.OpenBracket t) (is_sign s.CloseBracket t || is_step t) e in
    (h.0, (neither (is_sign s.CloseBracket t) (is_step t) h.1).0)

pub not_stepped : (t : Lexeme) → is_met true t ≡ false → is_step t ≡ false
not_stepped t e =
    let h = neither (is_sign s.OpenBracket t) (is_sign s.CloseBracket t || is_step t) e in
    (neither (is_sign s.CloseBracket t) (is_step t) h.1).1

-- ---- the area

header_on : (b : Bool) → area_of (if b then scopes.Body places.Statement else scopes.Locals)
    ≡ (if b then areas.Body else areas.Header)
header_on true = refl
header_on false = refl

body_on : (b : Bool) (place : Place) → area_of (if b then scopes.Bare else scopes.Body place)
    ≡ (if b then areas.Directive else areas.Body)
body_on true place = refl
body_on false place = refl

directive_on : (b : Bool) (x : Scope) → area_of x ≡ areas.Directive
    → area_of (if b then scopes.Between else x) ≡ (if b then areas.Between else areas.Directive)
directive_on true x e = refl
directive_on false x e = e

directive_if : (b : Bool) (x y : Scope) → area_of x ≡ areas.Directive → area_of y ≡ areas.Directive
    → area_of (if b then x else y) ≡ areas.Directive
directive_if true x y e f = e
directive_if false x y e f = f

sign_on : (b c : Bool) → area_of (if b then scopes.Named else if c then scopes.Between else scopes.Bare)
    ≡ (if b then areas.Header else if c then areas.Between else areas.Directive)
sign_on true c = refl
sign_on false true = refl
sign_on false false = refl

between_on : (t : Lexeme) → area_of (scope_after scopes.Between t) ≡ area_after areas.Between t
between_on (sign x p) = sign_on (is_sign s.OpenBracket (sign x p)) (is_sign s.Semicolon (sign x p))
between_on (reserved x p) =
    directive_if (is_word w.Object (reserved x p)) scopes.Head
    (if gives_values (reserved x p) then scopes.Worth else scopes.Bare) refl
    (directive_if (gives_values (reserved x p)) scopes.Worth scopes.Bare refl refl)
between_on _ = refl

area_on : (scope : Scope) (t : Lexeme) → area_of (scope_after scope t) ≡ area_after (area_of scope) t
area_on scopes.Between t = between_on t
area_on scopes.Named t = header_on (is_sign s.Semicolon t)
area_on scopes.Locals t = header_on (is_sign s.Semicolon t)
area_on (scopes.Body place) t = body_on (is_sign s.CloseBracket t) (place_after place t)
area_on scopes.Head t =
    let b : Bool = is_sign s.Comma t || is_word w.With t in
    directive_on (is_sign s.Semicolon t) (if b then scopes.Property else scopes.Head)
    (directive_if b scopes.Property scopes.Head refl refl)
area_on scopes.Property t =
    directive_on (is_sign s.Semicolon t)
    (if is_word w.With t then scopes.Property else if is_words t then scopes.Words else scopes.Worth)
    (directive_if (is_word w.With t) scopes.Property (if is_words t then scopes.Words else scopes.Worth) refl
    (directive_if (is_words t) scopes.Words scopes.Worth refl refl))
area_on scopes.Words t =
    directive_on (is_sign s.Semicolon t) (if is_sign s.Comma t then scopes.Property else scopes.Words)
    (directive_if (is_sign s.Comma t) scopes.Property scopes.Words refl refl)
area_on scopes.Worth t =
    directive_on (is_sign s.Semicolon t) (if is_sign s.Comma t then scopes.Property else scopes.Worth)
    (directive_if (is_sign s.Comma t) scopes.Property scopes.Worth refl refl)
area_on scopes.Bare t = directive_on (is_sign s.Semicolon t) scopes.Bare refl

-- ---- the scope

-- not in the header of a routine
abbrev pub is_kept : Scope → Bool
is_kept scopes.Named = false
is_kept scopes.Locals = false
is_kept _ = true

-- where the next statement or directive begins
abbrev pub home : Scope → Scope
home (scopes.Body place) = scopes.Body places.Statement
home _ = scopes.Between

abbrev pub Stays : Scope → Scope → Type 0
Stays new old = (is_kept new ≡ true) × (home new ≡ home old)

either : (b : Bool) (x y old : Scope) → Stays x old → Stays y old → Stays (if b then x else y) old
either true x y old f g = f
either false x y old f g = g

-- after the first token of a directive
abbrev pub begun : Lexeme → Scope
begun t = if is_word w.Object t then scopes.Head else if gives_values t then scopes.Worth else ended t scopes.Bare

between : (t : Lexeme) → Stays (begun t) scopes.Between
between t =
    either (is_word w.Object t) scopes.Head (if gives_values t then scopes.Worth else ended t scopes.Bare)
    scopes.Between (refl, refl)
    (either (gives_values t) scopes.Worth (ended t scopes.Bare) scopes.Between (refl, refl)
    (either (is_sign s.Semicolon t) scopes.Between scopes.Bare scopes.Between (refl, refl) (refl, refl)))

or_ends : (t : Lexeme) (b : Bool) (x y old : Scope) → Stays x old → Stays y old → Stays scopes.Between old
    → Stays (ended t (if b then x else y)) old
or_ends t b x y old f g h =
    either (is_sign s.Semicolon t) scopes.Between (if b then x else y) old h (either b x y old f g)

-- a token that is no bracket of a routine
pub scope_stays : (scope : Scope) (t : Lexeme) → is_kept scope ≡ true → is_sign s.OpenBracket t ≡ false
    → is_sign s.CloseBracket t ≡ false → Stays (scope_after scope t) scope
scope_stays scopes.Between t kept opens closes =
    subst
    (λ b. Stays (if b then scopes.Named else begun t) scopes.Between) (sym opens) (between t)
scope_stays scopes.Named t kept opens closes = absurd cc
scope_stays scopes.Locals t kept opens closes = absurd cc
scope_stays (scopes.Body place) t kept opens closes =
    subst (λ b. Stays (if b then scopes.Bare else scopes.Body (place_after place t)) (scopes.Body place)) (sym closes)
    (refl, refl)
scope_stays scopes.Head t kept opens closes =
    or_ends t (is_sign s.Comma t || is_word w.With t) scopes.Property scopes.Head scopes.Head (refl, refl) (refl, refl)
    (refl, refl)
scope_stays scopes.Property t kept opens closes =
    or_ends t (is_word w.With t) scopes.Property (if is_words t then scopes.Words else scopes.Worth) scopes.Property
    (refl, refl) (either (is_words t) scopes.Words scopes.Worth scopes.Property (refl, refl) (refl, refl)) (refl, refl)
scope_stays scopes.Words t kept opens closes =
    or_ends t (is_sign s.Comma t) scopes.Property scopes.Words scopes.Words (refl, refl) (refl, refl) (refl, refl)
scope_stays scopes.Worth t kept opens closes =
    or_ends t (is_sign s.Comma t) scopes.Property scopes.Worth scopes.Worth (refl, refl) (refl, refl) (refl, refl)
scope_stays scopes.Bare t kept opens closes =
    either (is_sign s.Semicolon t) scopes.Between scopes.Bare scopes.Bare (refl, refl) (refl, refl)

place_ends : (place : Place) (p : Position) → place_after place (sign s.Semicolon p) ≡ places.Statement
place_ends places.Statement p = refl
place_ends places.Item p = refl
place_ends places.Rule p = refl
place_ends (places.Within form opened) p = refl

pub scope_ends : (scope : Scope) (p : Position) → is_kept scope ≡ true
    → scope_after scope (sign s.Semicolon p) ≡ home scope
scope_ends scopes.Between p kept = refl
scope_ends scopes.Named p kept = absurd cc
scope_ends scopes.Locals p kept = absurd cc
scope_ends (scopes.Body place) p kept = ap scopes.Body (place_ends place p)
scope_ends scopes.Head p kept = refl
scope_ends scopes.Property p kept = refl
scope_ends scopes.Words p kept = refl
scope_ends scopes.Worth p kept = refl
scope_ends scopes.Bare p kept = refl

pub at_home : (scope : Scope) → is_at_rest scope ≡ true → is_kept scope ≡ true
at_home scopes.Between rest = refl
at_home (scopes.Body place) rest = refl
at_home _ rest = absurd cc

-- the scope at the end of a statement
area_ends : (scope : Scope) (p : Position)
    → scope_after scope (sign s.Semicolon p) ≡ scope_at (area_after (area_of scope) (sign s.Semicolon p))
area_ends (scopes.Body place) p = ap scopes.Body (place_ends place p)
area_ends _ p = refl

pub scope_is : (scope : Scope) (steps : Bool) (depth n : ℕ) (ts : List Lexeme) → Quiet steps depth n ts
    → scope_at (fold area_after (area_of scope) (take (suc n) ts)) ≡ fold scope_after scope (take (suc n) ts)
scope_is scope steps depth n [] h = absurd h
scope_is scope steps depth zero (t ∷ ts) h =
    let P : Lexeme → Type 0 = λ u. scope_at (area_after (area_of scope) u) ≡ scope_after scope u in
    subst P (sym (semicolon t h.1)) (sym (area_ends scope (position_of t)))
scope_is scope steps depth (suc n) (t ∷ ts) h =
    ap (λ (a : Area). scope_at (fold area_after a (take (suc n) ts))) (sym (area_on scope t))
    ∙ scope_is (scope_after scope t) steps (deeper depth t) n ts h.1
