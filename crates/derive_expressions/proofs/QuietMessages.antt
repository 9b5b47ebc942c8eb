-- A statement without a bracket behind a property sends no message.
use Rattle.std.proofs.Common.{◌≡◌, ◌<◌, ◌+◌, ◌&&◌, ◌||◌, ◌∙◌, ℕ, zero, suc, Bool, true, false, List, [], ◌∷◌, drop, refl, ap, sym}
use Rattle.std.proofs.Common.{subst}
use Rattle.std.specs.Prelude.{if◌then◌else◌}
use Rattle.std.proofs.lemmas.List.{drop-drop, drop-map}
use Rattle.syntax_lexer.specs.declared.token.Sign.TheVariants as s
use Rattle.syntax_lexer.specs.Token.{Lexeme, name}
use Rattle.derive_tokens.specs.declared.piece.Piece.{Piece}
use Rattle.derive_tokens.specs.Pieces.{derived, derived_all}
use Rattle.derive_tokens.specs.Tokens.{is_sign}
use Rattle.derive_tokens.specs.Names.{is_name, small_name, with_name}
use Rattle.derive_values.specs.declared.places.Place.TheVariants as places
use Rattle.derive_values.specs.declared.places.Scope.{Scope}
use Rattle.derive_values.specs.declared.places.Scope.TheVariants as scopes
use Rattle.derive_values.specs.Places.{Reading, is_at_rest}
use Rattle.derive_statements.specs.FileNames.{FileNames}
use Rattle.derive_statements.specs.Lists.{is_before_header}
use Rattle.derive_expressions.specs.declared.roles.Role.{Role}
use Rattle.derive_expressions.specs.declared.roles.Role.TheVariants as roles
use Rattle.derive_expressions.specs.declared.quiet.Behind.{Behind}
use Rattle.derive_expressions.specs.declared.quiet.Behind.TheVariants as behinds
use Rattle.derive_expressions.specs.Calls.{messages_after, messages_from}
use Rattle.derive_expressions.specs.Quiet.{behind_after, is_dot, is_dotted, is_operand, may_call, quiet_ahead}
use Rattle.derive_expressions.specs.Roles.{Calling, begins_part, calling_after, is_callee, is_cast, is_in_body, is_sent}
use Rattle.derive_expressions.specs.Roles.{next_role, role_after, role_now}
use Rattle.derive_expressions.proofs.Runs.{Quiet, ahead, at_home, end_no_bracket, end_not_sent, is_kept, no_bracket}
use Rattle.derive_expressions.proofs.Runs.{not_sent, operand_after, rest_stays, resting, rests_after, scope_stays, state}

-- ---- the role

-- a property is behind a dot
abbrev fits : Role → Behind → Bool
fits roles.Dotted behind = is_dotted behind
fits _ behind = true

fits_in : (b c : Bool) (role : Role) (behind : Behind) → fits role behind ≡ true
    → fits (if b then roles.Operand else if c then roles.Callee else role) behind ≡ true
fits_in true c role behind e = refl
fits_in false true role behind e = refl
fits_in false false role behind e = e

fits_now : (scope : Scope) (own : List (List ℕ)) (role : Role) (behind : Behind) → fits role behind ≡ true
    → fits (role_now (state scope own role)) behind ≡ true
fits_now scope own role behind e = fits_in (begins_part scope) (is_before_header scope) role behind e

fits_on : (called named closes dot cast : Bool) (behind : Behind)
    → fits (if called then roles.Callee else if named then roles.Follows else if closes then roles.Follows
    else if dot then roles.Dotted else if cast then roles.Cast else roles.Operand) (if dot then behinds.Dot else behind) ≡ true
fits_on true named closes dot cast behind = refl
fits_on false true closes dot cast behind = refl
fits_on false false true dot cast behind = refl
fits_on false false false true cast behind = refl
fits_on false false false false true behind = refl
fits_on false false false false false behind = refl

fits_sent : (b : Bool) (behind : Behind) → fits (if b then roles.Sent else roles.Follows) behind ≡ true
fits_sent true behind = refl
fits_sent false behind = refl

on : (names : FileNames) (r : Reading) (behind : Behind) (t : Lexeme) (ts : List Lexeme)
    → fits (role_after names r roles.Operand t ts) (behind_after behind t) ≡ true
on names r behind t ts =
    fits_on (is_callee names r t ts) (is_name t) (is_sign s.CloseParenthesis t) (is_dot t)
    (is_sign s.OpenParenthesis t && is_cast ts)
    (if is_dotted behind then behinds.Property
    else if is_name t || is_sign s.CloseParenthesis t then behinds.Primary else behinds.Nothing)

fits_after : (names : FileNames) (r : Reading) (role : Role) (behind : Behind) (t : Lexeme) (ts : List Lexeme)
    → fits (role_after names r role t ts) (behind_after behind t) ≡ true
fits_after names r roles.Operand behind t ts = on names r behind t ts
fits_after names r roles.Callee behind t ts = on names r behind t ts
fits_after names r roles.Follows behind t ts = on names r behind t ts
fits_after names r roles.Sent behind t ts = on names r behind t ts
fits_after names r roles.Dotted behind t ts = fits_sent (is_sent t ts) (behind_after behind t)
fits_after names r roles.Cast behind t ts = refl
fits_after names r roles.CastEnd behind t ts = refl

fits_body : (b : Bool) (role : Role) (behind : Behind) → fits role behind ≡ true
    → fits (if b then role else roles.Operand) behind ≡ true
fits_body true role behind e = e
fits_body false role behind e = refl

fits_next : (names : FileNames) (c : Calling) (behind : Behind) (t : Lexeme) (ts : List Lexeme)
    → fits (next_role names c t ts) (behind_after behind t) ≡ true
fits_next names c behind t ts =
    fits_body (is_in_body c.reading.scope) (role_after names c.reading (role_now c) t ts) (behind_after behind t)
    (fits_after names c.reading (role_now c) behind t ts)

-- ---- one token

property : (b : Bool) (behind : Behind) → b ≡ true → (if b then behinds.Property else behind) ≡ behinds.Property
property true behind e = refl
property false behind e = absurd cc

named : (behind : Behind) (t : Lexeme) → is_dotted behind ≡ true → is_name t ≡ true
    → may_call false (behind_after behind t) ≡ true
named behind (name b p) dotted e =
    ap (may_call false) (property (is_dotted behind) behinds.Primary dotted)
named behind _ dotted e = absurd cc

sent_now : (b : Bool) (more messages : List (List ℕ)) → b ≡ false → (if b then more else messages) ≡ messages
sent_now false more messages e = refl
sent_now true more messages e = absurd cc

none_sent : (messages : List (List ℕ)) (role : Role) (t : Lexeme) (ts : List Lexeme)
    → (role ≡ roles.Dotted → is_sent t ts ≡ false) → messages_after messages role t ts ≡ messages
none_sent messages roles.Dotted t ts f =
    sent_now (is_sent t ts) (with_name messages (small_name t)) messages (f refl)
none_sent messages roles.Operand t ts f = refl
none_sent messages roles.Callee t ts f = refl
none_sent messages roles.Follows t ts f = refl
none_sent messages roles.Sent t ts f = refl
none_sent messages roles.Cast t ts f = refl
none_sent messages roles.CastEnd t ts f = refl

dotted : (role : Role) (behind : Behind) → fits role behind ≡ true → role ≡ roles.Dotted → is_dotted behind ≡ true
dotted role behind e is = ap (λ x. fits x behind) (sym is) ∙ e

-- ---- the state

alike : (names : FileNames) (messages : List (List ℕ)) (scope : Scope) (own : List (List ℕ)) (role : Role)
    (ts : List Lexeme) → is_at_rest scope ≡ true → is_operand (role_now (state scope own role)) ≡ true
    → messages_from names messages (state scope own role) ts ≡ messages_from names messages (resting scope own) ts
alike names messages scopes.Between own roles.Operand [] rest begins = refl
alike names messages scopes.Between own roles.Operand (t ∷ ts) rest begins = refl
alike names messages (scopes.Body places.Statement) own role [] rest begins = refl
alike names messages (scopes.Body places.Statement) own role (t ∷ ts) rest begins = refl
alike names messages _ own role ts rest begins = absurd cc

rest_operand : (scope : Scope) (own : List (List ℕ)) → is_at_rest scope ≡ true
    → is_operand (role_now (state scope own roles.Operand)) ≡ true
rest_operand scopes.Between own rest = refl
rest_operand (scopes.Body places.Statement) own rest = refl
rest_operand _ own rest = absurd cc

quiet_on : (names : FileNames) (messages : List (List ℕ)) (scope : Scope) (own : List (List ℕ)) (role : Role)
    (behind : Behind) (n : ℕ) (ts : List Lexeme) → is_kept scope ≡ true → fits role behind ≡ true
    → Quiet false behind n ts
    → messages_from names messages (state scope own role) ts
    ≡ messages_from names messages (resting scope own) (drop (suc n) ts)
quiet_on names messages scope own role behind n [] kept fit h = absurd h
quiet_on names messages scope own role behind zero (t ∷ ts) kept fit h =
    let c : Calling = state scope own role in
    let next : Calling = calling_after names c t ts in
    let brackets = end_no_bracket t h in
    ap (λ (ms : List (List ℕ)). messages_from names ms next ts)
    (none_sent messages (role_now c) t ts (λ is. end_not_sent t ts h))
    ∙ alike names messages next.reading.scope next.reading.own next.role ts (rests_after scope t kept h)
    (operand_after names scope own role t ts kept h)
    ∙ ap (λ (x : Calling). messages_from names messages x ts) (rest_stays scope own t kept brackets.0 brackets.1)
quiet_on names messages scope own role behind (suc n) (t ∷ ts) kept fit h =
    let c : Calling = state scope own role in
    let next : Calling = calling_after names c t ts in
    let brackets = no_bracket false behind t h.0 in
    let stays = scope_stays scope t kept brackets.0 brackets.1.0 in
    ap (λ (ms : List (List ℕ)). messages_from names ms next ts)
    (none_sent messages (role_now c) t ts
    (λ is. not_sent false behind n t ts
    (named behind t (dotted (role_now c) behind (fits_now scope own role behind fit) is)) h.1))
    ∙ quiet_on names messages next.reading.scope next.reading.own next.role (behind_after behind t) n ts stays.0
    (fits_next names c behind t ts) h.1
    ∙ ap (λ (x : Calling). messages_from names messages x (drop (suc n) ts))
    (rest_stays scope own t kept brackets.0 brackets.1.0)

over_rest : (names : FileNames) (messages : List (List ℕ)) (scope : Scope) (own : List (List ℕ)) (role : Role) (n : ℕ)
    (ts : List Lexeme) → is_at_rest scope ≡ true → is_operand (role_now (state scope own role)) ≡ true
    → Quiet false behinds.Nothing n ts
    → messages_from names messages (state scope own role) (drop (suc n) ts)
    ≡ messages_from names messages (state scope own role) ts
over_rest names messages scope own role n ts rest begins h =
    alike names messages scope own role (drop (suc n) ts) rest begins
    ∙ sym
    (alike names messages scope own role ts rest begins
    ∙ sym (alike names messages scope own roles.Operand ts rest (rest_operand scope own rest))
    ∙ quiet_on names messages scope own roles.Operand behinds.Nothing n ts (at_home scope rest) refl h)

over : (names : FileNames) (messages : List (List ℕ)) (c : Calling) (pieces : List Piece) (count : ℕ)
    → count ≡ quiet_ahead false c (derived_all pieces) → 0 < count
    → messages_from names messages c (derived_all (drop count pieces))
    ≡ messages_from names messages c (derived_all pieces)
over names messages c pieces count e lt =
    let ts : List Lexeme = derived_all pieces in
    let h = ahead false c ts count e lt in
    ap (messages_from names messages c) (sym (drop-map derived count pieces))
    ∙ subst (λ k. messages_from names messages c (drop k ts) ≡ messages_from names messages c ts) (sym h.1.1.1.0)
    (over_rest names messages c.reading.scope c.reading.own c.role h.1.1.0 ts h.0 h.1.0 h.1.1.1.1)

-- the tokens ahead send no messages
pub messages_over : (names : FileNames) (messages : List (List ℕ)) (c : Calling) (pieces rest : List Piece) (at count : ℕ)
    → rest ≡ drop at pieces → count ≡ quiet_ahead false c (derived_all rest) → 0 < count
    → messages_from names messages c (derived_all (drop (at + count) pieces))
    ≡ messages_from names messages c (derived_all (drop at pieces))
messages_over names messages c pieces rest at count is e lt =
    let same : quiet_ahead false c (derived_all rest) ≡ quiet_ahead false c (derived_all (drop at pieces)) =
    ap (λ (ps : List Piece). quiet_ahead false c (derived_all ps)) is in
    ap (λ (ps : List Piece). messages_from names messages c (derived_all ps)) (sym (drop-drop count at pieces))
    ∙ over names messages c (drop at pieces) count (e ∙ same) lt
