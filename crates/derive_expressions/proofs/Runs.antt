-- A statement or a directive without what a pass looks for.
use Rattle.std.proofs.Common.{◌≡◌, ◌<◌, ◌+◌, ◌||◌, ◌⊎◌, inl, inr, ℕ, zero, suc, Bool, true, false, List, [], ◌∷◌, take}
use Rattle.std.proofs.Common.{◌∙◌, refl, ap, subst, sym, arith}
use Rattle.std.specs.Prelude.{if◌then◌else◌, ◌&&◌, codes}
use Rattle.std.proofs.lemmas.Bool.{and_parts}
use Rattle.syntax_lexer.specs.declared.token.Sign.TheVariants as s
use Rattle.syntax_lexer.specs.declared.token.Word.TheVariants as w
use Rattle.syntax_lexer.specs.declared.token.Position.{Position}
use Rattle.syntax_lexer.specs.Token.{Lexeme, head, sign, position_of}
use Rattle.derive_tokens.specs.Tokens.{is_named, is_sign, is_word}
use Rattle.derive_values.specs.declared.places.Place.{Place}
use Rattle.derive_values.specs.declared.places.Place.TheVariants as places
use Rattle.derive_values.specs.declared.places.Scope.{Scope}
use Rattle.derive_values.specs.declared.places.Scope.TheVariants as scopes
use Rattle.derive_values.specs.Places.{ended, gives_values, is_at_rest, is_words, own_after, place_after, scope_after}
use Rattle.derive_statements.specs.FileNames.{FileNames}
use Rattle.derive_expressions.specs.declared.quiet.Behind.{Behind}
use Rattle.derive_expressions.specs.declared.quiet.Behind.TheVariants as behinds
use Rattle.derive_tokens.specs.Names.{is_name}
use Rattle.derive_expressions.specs.declared.roles.Role.{Role}
use Rattle.derive_expressions.specs.declared.roles.Role.TheVariants as roles
use Rattle.derive_expressions.specs.Roles.{Calling, calling_after, is_kin, is_sent, next_role, role_in, role_now}
use Rattle.derive_expressions.specs.Quiet.{behind_after, is_met, is_operand, may_call, most_ahead}
use Rattle.derive_expressions.specs.Quiet.{quiet_ahead, quiet_from, quiet_length}

-- There are so many tokens before the end of a statement, and none is met that matters.
abbrev pub Quiet : Bool → Behind → ℕ → List Lexeme → Type 0
Quiet calls behind n [] = ⊥
Quiet calls behind zero (t ∷ ts) = is_sign s.Semicolon t ≡ true
Quiet calls behind (suc n) (t ∷ ts) = (is_met calls behind t ≡ false) × Quiet calls (behind_after behind t) n ts

abbrev Found : Bool → ℕ → ℕ → Behind → List Lexeme → ℕ → Type 0
Found calls last count behind ts result =
    (result ≡ last) ⊎ ((n : ℕ) × ((result ≡ count + suc n) × Quiet calls behind n ts))

goes_on : (calls : Bool) (last new r : ℕ) (count : ℕ) (behind : Behind) (t : Lexeme) (ts : List Lexeme)
    → is_met calls behind t ≡ false → (new ≡ last ⊎ ((new ≡ count + 1) × Quiet calls behind 0 (t ∷ ts)))
    → Found calls new (count + 1) (behind_after behind t) ts r → Found calls last count behind (t ∷ ts) r
goes_on calls last new r count behind t ts em (inl same) (inl e) = inl (e ∙ same)
goes_on calls last new r count behind t ts em (inr h) (inl e) =
    let more : count + 1 ≡ count + suc 0 = omega arith in inr (0, ((e ∙ h.0 ∙ more), h.1))
goes_on calls last new r count behind t ts em new_is (inr w) =
    let more : count + 1 + suc w.0 ≡ count + suc (suc w.0) = omega arith in
    inr (suc w.0, ((w.1.0 ∙ more), (em, w.1.1)))

new_last : (calls : Bool) (last count : ℕ) (behind : Behind) (t : Lexeme) (ts : List Lexeme) (ends : Bool)
    → is_sign s.Semicolon t ≡ ends
    → ((if ends then count + 1 else last) ≡ last)
    ⊎ (((if ends then count + 1 else last) ≡ count + 1) × Quiet calls behind 0 (t ∷ ts))
new_last calls last count behind t ts true es = inr (refl, es)
new_last calls last count behind t ts false es = inl refl

one : (calls : Bool) (last new r count : ℕ) (behind : Behind) (t : Lexeme) (ts : List Lexeme) (met : Bool)
    → is_met calls behind t ≡ met → (new ≡ last ⊎ ((new ≡ count + 1) × Quiet calls behind 0 (t ∷ ts)))
    → Found calls new (count + 1) (behind_after behind t) ts r
    → Found calls last count behind (t ∷ ts) (if met then last else r)
one calls last new r count behind t ts true em new_is f = inl refl
one calls last new r count behind t ts false em new_is f = goes_on calls last new r count behind t ts em new_is f

found_from : (calls : Bool) (last count : ℕ) (behind : Behind) (ts : List Lexeme)
    → Found calls last count behind ts (quiet_from calls last count behind ts)
found_from calls last count behind [] = inl refl
found_from calls last count behind (t ∷ ts) =
    let new : ℕ = if is_sign s.Semicolon t then count + 1 else last in
    one calls last new (quiet_from calls new (count + 1) (behind_after behind t) ts) count behind t ts
    (is_met calls behind t) refl (new_last calls last count behind t ts (is_sign s.Semicolon t) refl)
    (found_from calls new (count + 1) (behind_after behind t) ts)

-- what is known of the first tokens is known of all
in_all : (calls : Bool) (behind : Behind) (n most : ℕ) (ts : List Lexeme) → Quiet calls behind n (take most ts)
    → Quiet calls behind n ts
in_all calls behind n zero ts h = absurd h
in_all calls behind n (suc most) [] h = absurd h
in_all calls behind zero (suc most) (t ∷ ts) h = h
in_all calls behind (suc n) (suc most) (t ∷ ts) h = (h.0, in_all calls (behind_after behind t) n most ts h.1)

abbrev pub Front : Bool → List Lexeme → ℕ → Type 0
Front calls ts r = (n : ℕ) × ((r ≡ suc n) × Quiet calls behinds.Nothing n ts)

in_front : (calls : Bool) (most : ℕ) (ts : List Lexeme) (r : ℕ) → 0 < r
    → Found calls 0 0 behinds.Nothing (take most ts) r → Front calls ts r
in_front calls most ts r lt (inl e) = absurd (omega (arith, lt, e))
in_front calls most ts r lt (inr w) =
    let same : 0 + suc w.0 ≡ suc w.0 = omega arith in
    (w.0, ((w.1.0 ∙ same), in_all calls behinds.Nothing w.0 most ts w.1.1))

pub quiet_found : (calls : Bool) (most : ℕ) (ts : List Lexeme) → 0 < quiet_length calls (take most ts)
    → Front calls ts (quiet_length calls (take most ts))
quiet_found calls most ts lt =
    in_front calls most ts (quiet_length calls (take most ts)) lt (found_from calls 0 0 behinds.Nothing (take most ts))

-- ---- the token

pub semicolon : (t : Lexeme) → is_sign s.Semicolon t ≡ true → t ≡ sign s.Semicolon (position_of t)
semicolon (sign s.Semicolon p) e = refl
semicolon _ e = absurd cc

pub neither : (a b : Bool) → (a || b) ≡ false → (a ≡ false) × (b ≡ false)
neither true b e = absurd cc
neither false b e = (refl, e)

pub not_both : (x y : Bool) → y ≡ true → (x && y) ≡ false → x ≡ false
not_both true y e h = absurd cc
not_both false y e h = refl

-- what is not met is no bracket of a routine, and no bracket that calls
pub no_bracket : (calls : Bool) (behind : Behind) (t : Lexeme) → is_met calls behind t ≡ false
    → (is_sign s.OpenBracket t ≡ false) × ((is_sign s.CloseBracket t ≡ false)
    × (((is_sign s.OpenParenthesis t && may_call calls behind) ≡ false)
    × ((calls && (is_kin t || is_named (codes "self") t)) ≡ false)))
no_bracket calls behind t e =
    let bracket : Bool = is_sign s.OpenParenthesis t && may_call calls behind in
    let called : Bool = calls && (is_kin t || is_named (codes "self") t) in
    let h = neither (is_sign s.OpenBracket t) (is_sign s.CloseBracket t || (bracket || called)) e in
    let k = neither (is_sign s.CloseBracket t) (bracket || called) h.1 in
    let l = neither bracket called k.1 in
    (h.0, (k.0, (l.0, l.1)))

-- ---- the scope

-- not in the header of a routine
abbrev pub is_kept : Scope → Bool
is_kept scopes.Named = false
is_kept scopes.Locals = false
is_kept _ = true

-- where the next statement or directive begins
abbrev pub home : Scope → Scope
home (scopes.Body place) = scopes.Body places.Statement
home _ = scopes.Between

abbrev pub Stays : Scope → Scope → Type 0
Stays new old = (is_kept new ≡ true) × (home new ≡ home old)

either : (b : Bool) (x y old : Scope) → Stays x old → Stays y old → Stays (if b then x else y) old
either true x y old f g = f
either false x y old f g = g

-- after the first token of a directive
abbrev pub begun : Lexeme → Scope
begun t = if is_word w.Object t then scopes.Head else if gives_values t then scopes.Worth else ended t scopes.Bare

between : (t : Lexeme) → Stays (begun t) scopes.Between
between t =
    either (is_word w.Object t) scopes.Head (if gives_values t then scopes.Worth else ended t scopes.Bare)
    scopes.Between (refl, refl)
    (either (gives_values t) scopes.Worth (ended t scopes.Bare) scopes.Between (refl, refl)
    (either (is_sign s.Semicolon t) scopes.Between scopes.Bare scopes.Between (refl, refl) (refl, refl)))

or_ends : (t : Lexeme) (b : Bool) (x y old : Scope) → Stays x old → Stays y old → Stays scopes.Between old
    → Stays (ended t (if b then x else y)) old
or_ends t b x y old f g h =
    either (is_sign s.Semicolon t) scopes.Between (if b then x else y) old h (either b x y old f g)

-- a token that is no bracket of a routine
pub scope_stays : (scope : Scope) (t : Lexeme) → is_kept scope ≡ true → is_sign s.OpenBracket t ≡ false
    → is_sign s.CloseBracket t ≡ false → Stays (scope_after scope t) scope
scope_stays scopes.Between t kept opens closes =
    subst
    (λ b. Stays (if b then scopes.Named else begun t) scopes.Between) (sym opens) (between t)
scope_stays scopes.Named t kept opens closes = absurd cc
scope_stays scopes.Locals t kept opens closes = absurd cc
scope_stays (scopes.Body place) t kept opens closes =
    subst (λ b. Stays (if b then scopes.Bare else scopes.Body (place_after place t)) (scopes.Body place)) (sym closes)
    (refl, refl)
scope_stays scopes.Head t kept opens closes =
    or_ends t (is_sign s.Comma t || is_word w.With t) scopes.Property scopes.Head scopes.Head (refl, refl) (refl, refl)
    (refl, refl)
scope_stays scopes.Property t kept opens closes =
    or_ends t (is_word w.With t) scopes.Property (if is_words t then scopes.Words else scopes.Worth) scopes.Property
    (refl, refl) (either (is_words t) scopes.Words scopes.Worth scopes.Property (refl, refl) (refl, refl)) (refl, refl)
scope_stays scopes.Words t kept opens closes =
    or_ends t (is_sign s.Comma t) scopes.Property scopes.Words scopes.Words (refl, refl) (refl, refl) (refl, refl)
scope_stays scopes.Worth t kept opens closes =
    or_ends t (is_sign s.Comma t) scopes.Property scopes.Worth scopes.Worth (refl, refl) (refl, refl) (refl, refl)
scope_stays scopes.Bare t kept opens closes =
    either (is_sign s.Semicolon t) scopes.Between scopes.Bare scopes.Bare (refl, refl) (refl, refl)

place_ends : (place : Place) (p : Position) → place_after place (sign s.Semicolon p) ≡ places.Statement
place_ends places.Statement p = refl
place_ends places.Item p = refl
place_ends places.Rule p = refl
place_ends (places.Within form opened) p = refl

pub scope_ends : (scope : Scope) (p : Position) → is_kept scope ≡ true
    → scope_after scope (sign s.Semicolon p) ≡ home scope
scope_ends scopes.Between p kept = refl
scope_ends scopes.Named p kept = absurd cc
scope_ends scopes.Locals p kept = absurd cc
scope_ends (scopes.Body place) p kept = ap scopes.Body (place_ends place p)
scope_ends scopes.Head p kept = refl
scope_ends scopes.Property p kept = refl
scope_ends scopes.Words p kept = refl
scope_ends scopes.Worth p kept = refl
scope_ends scopes.Bare p kept = refl

pub at_home : (scope : Scope) → is_at_rest scope ≡ true → is_kept scope ≡ true
at_home scopes.Between rest = refl
at_home (scopes.Body place) rest = refl
at_home _ rest = absurd cc

-- ---- the state

abbrev pub state : Scope → List (List ℕ) → Role → Calling
state scope own role = record { reading = record { scope = scope; own = own }; role = role }

-- what is known at the end of the statement or the directive
abbrev pub resting : Scope → List (List ℕ) → Calling
resting (scopes.Body place) own = state (scopes.Body places.Statement) own roles.Operand
resting _ own = state scopes.Between [] roles.Operand

abbrev outside : Calling
outside = state scopes.Between [] roles.Operand

abbrev Outside : Scope → List (List ℕ) → Type 0
Outside scope own = resting scope own ≡ outside

out_if : (b : Bool) (x y : Scope) (own : List (List ℕ)) → Outside x own → Outside y own → Outside (if b then x else y) own
out_if true x y own f g = f
out_if false x y own f g = g

out_ended : (t : Lexeme) (b : Bool) (x y : Scope) (own : List (List ℕ)) → Outside x own → Outside y own
    → Outside (ended t (if b then x else y)) own
out_ended t b x y own f g =
    out_if (is_sign s.Semicolon t) scopes.Between (if b then x else y) own refl (out_if b x y own f g)

out_between : (t : Lexeme) (own : List (List ℕ)) → Outside (begun t) own
out_between t own =
    out_if (is_word w.Object t) scopes.Head (if gives_values t then scopes.Worth else ended t scopes.Bare) own refl
    (out_if (gives_values t) scopes.Worth (ended t scopes.Bare) own refl
    (out_if (is_sign s.Semicolon t) scopes.Between scopes.Bare own refl refl))

pub rest_stays : (scope : Scope) (own : List (List ℕ)) (t : Lexeme) → is_kept scope ≡ true
    → is_sign s.OpenBracket t ≡ false → is_sign s.CloseBracket t ≡ false
    → resting (scope_after scope t) (own_after scope t own) ≡ resting scope own
rest_stays scopes.Between own t kept opens closes =
    ap (λ b. resting (if b then scopes.Named else begun t) []) opens ∙ out_between t []
rest_stays scopes.Named own t kept opens closes = absurd cc
rest_stays scopes.Locals own t kept opens closes = absurd cc
rest_stays (scopes.Body place) own t kept opens closes =
    ap (λ b. resting (if b then scopes.Bare else scopes.Body (place_after place t)) own) closes
rest_stays scopes.Head own t kept opens closes =
    out_ended t (is_sign s.Comma t || is_word w.With t) scopes.Property scopes.Head own refl refl
rest_stays scopes.Property own t kept opens closes =
    out_ended t (is_word w.With t) scopes.Property (if is_words t then scopes.Words else scopes.Worth) own refl
    (out_if (is_words t) scopes.Words scopes.Worth own refl refl)
rest_stays scopes.Words own t kept opens closes =
    out_ended t (is_sign s.Comma t) scopes.Property scopes.Words own refl refl
rest_stays scopes.Worth own t kept opens closes =
    out_ended t (is_sign s.Comma t) scopes.Property scopes.Worth own refl refl
rest_stays scopes.Bare own t kept opens closes =
    out_if (is_sign s.Semicolon t) scopes.Between scopes.Bare own refl refl

home_rests : (scope : Scope) → is_at_rest (home scope) ≡ true
home_rests (scopes.Body place) = refl
home_rests _ = refl

pub rests_after : (scope : Scope) (t : Lexeme) → is_kept scope ≡ true → is_sign s.Semicolon t ≡ true
    → is_at_rest (scope_after scope t) ≡ true
rests_after scope t kept e =
    ap (λ u. is_at_rest (scope_after scope u)) (semicolon t e)
    ∙ ap is_at_rest (scope_ends scope (position_of t) kept) ∙ home_rests scope

pub end_no_bracket : (t : Lexeme) → is_sign s.Semicolon t ≡ true
    → (is_sign s.OpenBracket t ≡ false) × (is_sign s.CloseBracket t ≡ false)
end_no_bracket t e =
    (ap (is_sign s.OpenBracket) (semicolon t e), ap (is_sign s.CloseBracket) (semicolon t e))

-- no primary is before what comes next
operand_ends : (names : FileNames) (scope : Scope) (own : List (List ℕ)) (role : Role) (p : Position) (ts : List Lexeme)
    → is_kept scope ≡ true
    → is_operand (role_now (calling_after names (state scope own role) (sign s.Semicolon p) ts)) ≡ true
operand_ends names scopes.Named own role p ts kept = absurd cc
operand_ends names scopes.Locals own role p ts kept = absurd cc
operand_ends names (scopes.Body place) own role p ts kept =
    let c : Calling = state (scopes.Body place) own role in
    ap (λ (q : Place). is_operand (role_in (scopes.Body q) (next_role names c (sign s.Semicolon p) ts))) (place_ends place p)
operand_ends names scopes.Between own role p ts kept = refl
operand_ends names scopes.Head own role p ts kept = refl
operand_ends names scopes.Property own role p ts kept = refl
operand_ends names scopes.Words own role p ts kept = refl
operand_ends names scopes.Worth own role p ts kept = refl
operand_ends names scopes.Bare own role p ts kept = refl

pub operand_after : (names : FileNames) (scope : Scope) (own : List (List ℕ)) (role : Role) (t : Lexeme)
    (ts : List Lexeme) → is_kept scope ≡ true → is_sign s.Semicolon t ≡ true
    → is_operand (role_now (calling_after names (state scope own role) t ts)) ≡ true
operand_after names scope own role t ts kept e =
    ap (λ u. is_operand (role_now (calling_after names (state scope own role) u ts))) (semicolon t e)
    ∙ operand_ends names scope own role (position_of t) ts kept

-- how many tokens are ahead
ahead_if : (b : Bool) (x n : ℕ) → n ≡ (if b then x else 0) → 0 < n → (b ≡ true) × (n ≡ x)
ahead_if true x n e lt = (refl, e)
ahead_if false x n e lt = absurd (omega (arith, e, lt))

abbrev pub Ahead : Bool → Calling → List Lexeme → ℕ → Type 0
Ahead calls c ts count =
    (is_at_rest c.reading.scope ≡ true) × ((is_operand (role_now c) ≡ true)
    × ((n : ℕ) × ((count ≡ suc n) × Quiet calls behinds.Nothing n ts)))

pub ahead : (calls : Bool) (c : Calling) (ts : List Lexeme) (count : ℕ) → count ≡ quiet_ahead calls c ts → 0 < count
    → Ahead calls c ts count
ahead calls c ts count e lt =
    let h = ahead_if (is_at_rest c.reading.scope && is_operand (role_now c)) (quiet_length calls (take most_ahead ts)) count
    e lt in
    let is = and_parts (is_at_rest c.reading.scope) (is_operand (role_now c)) h.0 in
    let w = quiet_found calls most_ahead ts (subst (λ k. 0 < k) h.1 lt) in
    (is.0, (is.1, (w.0, ((h.1 ∙ w.1.0), w.1.1))))

-- ---- brackets behind

-- no bracket comes next that calls what is behind
pub no_bracket_next : (calls : Bool) (behind : Behind) (n : ℕ) (ts : List Lexeme) → Quiet calls behind n ts
    → may_call calls behind ≡ true → is_sign s.OpenParenthesis (head ts) ≡ false
no_bracket_next calls behind n [] h e = absurd h
no_bracket_next calls behind zero (t ∷ ts) h e = ap (is_sign s.OpenParenthesis) (semicolon t h)
no_bracket_next calls behind (suc n) (t ∷ ts) h e =
    not_both (is_sign s.OpenParenthesis t) (may_call calls behind) e (no_bracket calls behind t h.0).1.1.0

-- the name of a property before no bracket
sent_if : (b bracket : Bool) → (b ≡ true → bracket ≡ false) → (b && bracket) ≡ false
sent_if true bracket f = f refl
sent_if false bracket f = refl

pub not_sent : (calls : Bool) (behind : Behind) (n : ℕ) (t : Lexeme) (ts : List Lexeme)
    → (is_name t ≡ true → may_call calls (behind_after behind t) ≡ true) → Quiet calls (behind_after behind t) n ts
    → is_sent t ts ≡ false
not_sent calls behind n t ts f h =
    sent_if (is_name t) (is_sign s.OpenParenthesis (head ts))
    (λ e. no_bracket_next calls (behind_after behind t) n ts h (f e))

pub end_not_sent : (t : Lexeme) (ts : List Lexeme) → is_sign s.Semicolon t ≡ true → is_sent t ts ≡ false
end_not_sent t ts e = ap (λ u. is_sent u ts) (semicolon t e)
