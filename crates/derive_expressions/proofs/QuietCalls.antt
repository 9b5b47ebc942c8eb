-- A statement in which no bracket calls stays as it is.
use Rattle.std.proofs.Common.{◌≡◌, ◌<◌, ◌+◌, ◌-◌, ◌==◌, ◌&&◌, ◌||◌, ◌++◌, ◌∙◌, ℕ, zero, suc, Bool, true, false, not, List}
use Rattle.std.proofs.Common.{[], ◌∷◌, Ok, drop, take, refl, ap, sym, subst, arith, if◌then◌else◌, Some}
use Rattle.std.specs.Prelude.{codes}
use Rattle.std.proofs.lemmas.Bool.{and_right, eqb-true, or_parts}
use Rattle.std.proofs.lemmas.List.{drop-drop, drop-map}
use Rattle.syntax_lexer.specs.declared.token.Sign.TheVariants as s
use Rattle.syntax_lexer.specs.declared.token.Position.{Position}
use Rattle.syntax_lexer.specs.Token.{Lexeme, name, sign, head, position_of}
use Rattle.derive_tokens.specs.declared.piece.Piece.{Piece}
use Rattle.derive_tokens.specs.Pieces.{derived, derived_all}
use Rattle.derive_tokens.specs.Tokens.{Outcome, is_named, is_sign}
use Rattle.derive_tokens.specs.Names.{is_name, small_name}
use Rattle.derive_values.specs.declared.places.Place.TheVariants as places
use Rattle.derive_values.specs.declared.places.Scope.{Scope}
use Rattle.derive_values.specs.declared.places.Scope.TheVariants as scopes
use Rattle.derive_values.specs.Places.{Reading, is_at_rest}
use Rattle.derive_statements.specs.FileNames.{FileNames}
use Rattle.derive_statements.specs.Lists.{deeper, ends_statement, is_before_header}
use Rattle.derive_expressions.specs.declared.heads.Ahead.{Ahead}
use Rattle.derive_expressions.specs.declared.heads.Ahead.TheVariants as aheads
use Rattle.derive_expressions.specs.declared.roles.Role.{Role}
use Rattle.derive_expressions.specs.declared.roles.Role.TheVariants as roles
use Rattle.derive_expressions.specs.declared.quiet.Behind.{Behind}
use Rattle.derive_expressions.specs.declared.quiet.Behind.TheVariants as behinds
use Rattle.derive_expressions.specs.Calls.{after_tokens, called_as, called_from, called_name, comma_before}
use Rattle.derive_expressions.specs.Calls.{first_as, heads_written, is_message, most_of_call, put_all, self_as}
use Rattle.derive_expressions.specs.Heads.{Chain, Head, at, chain_after, chain_on, heads_from, heads_of, inside}
use Rattle.derive_expressions.specs.Heads.{takes_bracket}
use Rattle.derive_expressions.specs.Quiet.{behind_after, is_dot, is_dotted, is_met, may_call, quiet_ahead}
use Rattle.derive_expressions.specs.Roles.{Calling, begins_part, calling_after, is_called, is_callee, is_cast, is_in_body}
use Rattle.derive_expressions.specs.Roles.{is_kin, is_sent, next_role, role_after, role_now, routine_of}
use Rattle.derive_expressions.proofs.Outcomes.{after_both, after_none}
use Rattle.derive_expressions.proofs.Over.{nothing_more}
use Rattle.derive_expressions.proofs.Tests.{not_self}
use Rattle.derive_expressions.proofs.Runs.{Quiet, ahead, at_home, end_no_bracket, end_not_sent, is_kept, no_bracket}
use Rattle.derive_expressions.proofs.Runs.{no_bracket_next, not_both, not_sent, rest_stays, resting, rests_after}
use Rattle.derive_expressions.proofs.Runs.{scope_stays, semicolon, state}

-- ---- what is behind

-- a bracket could call it
named_calls : (dot dotted : Bool)
    → may_call true (if dot then behinds.Dot else if dotted then behinds.Property else behinds.Primary) ≡ true
named_calls true dotted = refl
named_calls false true = refl
named_calls false false = refl

primary : (dot dotted b : Bool) → b ≡ true
    → may_call true
    (if dot then behinds.Dot else if dotted then behinds.Property else if b then behinds.Primary else behinds.Nothing)
    ≡ true
primary dot dotted true e = named_calls dot dotted
primary dot dotted false e = absurd cc

or_true : (b c : Bool) → b ≡ true → (b || c) ≡ true
or_true true c e = refl
or_true false c e = absurd cc

true_or : (b c : Bool) → c ≡ true → (b || c) ≡ true
true_or true c e = refl
true_or false c e = e

after_name : (behind : Behind) (t : Lexeme) → is_name t ≡ true → may_call true (behind_after behind t) ≡ true
after_name behind t e =
    primary (is_dot t) (is_dotted behind) (is_name t || is_sign s.CloseParenthesis t)
    (or_true (is_name t) (is_sign s.CloseParenthesis t) e)

after_bracket : (behind : Behind) (t : Lexeme) → is_sign s.CloseParenthesis t ≡ true
    → may_call true (behind_after behind t) ≡ true
after_bracket behind t e =
    primary (is_dot t) (is_dotted behind) (is_name t || is_sign s.CloseParenthesis t)
    (true_or (is_name t) (is_sign s.CloseParenthesis t) e)

-- ---- the calls ahead

abbrev fits_ahead : Ahead → ℕ → Behind → Bool
fits_ahead aheads.Ended depth behind = may_call true behind
fits_ahead aheads.AtBracket depth behind = may_call true behind
fits_ahead aheads.Inside depth behind = not (depth == 0)
fits_ahead _ depth behind = true

abbrev fits_chain : Chain → Behind → Bool
fits_chain c behind = fits_ahead c.ahead c.depth behind

fits_ended : (dot bracket : Bool) (behind : Behind)
    → fits_chain (if dot then at aheads.AtProperty else if bracket then inside 1 else at aheads.Over) behind ≡ true
fits_ended true bracket behind = refl
fits_ended false true behind = refl
fits_ended false false behind = refl

fits_named : (b : Bool) (h : Head) (behind : Behind) → (b ≡ true → may_call true behind ≡ true)
    → fits_chain (if b then record { ahead = aheads.AtBracket; depth = 0; property = h } else at aheads.Over) behind ≡ true
fits_named true h behind f = f refl
fits_named false h behind f = refl

fits_inside : (depth : ℕ) (b : Bool) (behind : Behind) → (depth == 0) ≡ b → (b ≡ true → may_call true behind ≡ true)
    → fits_chain (if b then at aheads.Ended else inside depth) behind ≡ true
fits_inside depth true behind e f = f refl
fits_inside depth false behind e f = ap not e

closes : (opening close : Bool) (depth : ℕ) → not (depth == 0) ≡ true
    → ((if opening then depth + 1 else if close then depth - 1 else depth) == 0) ≡ true → close ≡ true
closes opening true depth some e = refl
closes true false depth some e = let z : depth + 1 ≡ 0 = eqb-true (depth + 1) 0 e in absurd (omega (arith, z))
closes false false depth some e = let z : not (depth == 0) ≡ false = ap not e in absurd cc

fits_on : (ahead : Ahead) (depth : ℕ) (behind : Behind) (t : Lexeme) → fits_ahead ahead depth behind ≡ true
    → fits_chain (chain_on ahead depth t) (behind_after behind t) ≡ true
fits_on aheads.Ended depth behind t e =
    fits_ended (is_sign s.Dot t) (is_sign s.OpenParenthesis t) (behind_after behind t)
fits_on aheads.AtBracket depth behind t e =
    fits_ended (is_sign s.Dot t) (is_sign s.OpenParenthesis t) (behind_after behind t)
fits_on aheads.AtProperty depth behind t e =
    fits_named (is_name t) (Some t) (behind_after behind t) (λ is. after_name behind t is)
fits_on aheads.Inside depth behind t e =
    fits_inside (deeper depth t) (deeper depth t == 0) (behind_after behind t) refl
    (λ is. after_bracket behind t
    (closes (is_sign s.OpenParenthesis t) (is_sign s.CloseParenthesis t) depth e is))
fits_on aheads.Over depth behind t e = refl

fits_or_over : (b : Bool) (c : Chain) (behind : Behind) → fits_chain c behind ≡ true
    → fits_chain (if b then at aheads.Over else c) behind ≡ true
fits_or_over true c behind e = refl
fits_or_over false c behind e = e

takes_none : (ahead : Ahead) (depth : ℕ) (behind : Behind) (b : Bool) → fits_ahead ahead depth behind ≡ true
    → (b && may_call true behind) ≡ false → (takes_bracket ahead && b) ≡ false
takes_none aheads.Ended depth behind b e h = not_both b (may_call true behind) e h
takes_none aheads.AtBracket depth behind b e h = not_both b (may_call true behind) e h
takes_none aheads.AtProperty depth behind b e h = refl
takes_none aheads.Inside depth behind b e h = refl
takes_none aheads.Over depth behind b e h = refl

abbrev with_head : Bool → Head → List Head
with_head b h = if b then [] ++ h ∷ [] else []

end_heads : (c : Chain) (p : Position) (ts : List Lexeme) → heads_from [] c (sign s.Semicolon p ∷ ts) ≡ []
end_heads c p ts =
    ap (λ b. heads_from (with_head b c.property) (at aheads.Over) ts) (and_right (takes_bracket c.ahead) false refl)
    ∙ nothing_more [] (at aheads.Over) ts refl

no_heads : (c : Chain) (behind : Behind) (n : ℕ) (ts : List Lexeme) → fits_chain c behind ≡ true
    → Quiet true behind n ts → heads_from [] c ts ≡ []
no_heads c behind n [] e h = absurd h
no_heads c behind zero (t ∷ ts) e h =
    subst (λ u. heads_from [] c (u ∷ ts) ≡ []) (sym (semicolon t h)) (end_heads c (position_of t) ts)
no_heads c behind (suc n) (t ∷ ts) e h =
    ap (λ b. heads_from (with_head b c.property) (chain_after c t) ts)
    (takes_none c.ahead c.depth behind (is_sign s.OpenParenthesis t) e (no_bracket true behind t h.0).1.1.0)
    ∙ no_heads (chain_after c t) (behind_after behind t) n ts
    (fits_or_over (ends_statement t) (chain_on c.ahead c.depth t) (behind_after behind t)
    (fits_on c.ahead c.depth behind t e)) h.1

heads_cases : (named bracketed called kin bracket : Bool) (h0 h1 h2 : List Head) → kin ≡ false
    → (named ≡ true → bracketed ≡ false) → (named ≡ true → h1 ≡ []) → h2 ≡ []
    → (if (if named then bracketed && called else kin) then h0 else if named then h1 else if bracket then h2 else []) ≡ []
heads_cases true bracketed called kin bracket h0 h1 h2 k f g e =
    ap (λ b. if b && called then h0 else h1) (f refl) ∙ g refl
heads_cases false bracketed called true bracket h0 h1 h2 k f g e = absurd cc
heads_cases false bracketed called false true h0 h1 h2 k f g e = e
heads_cases false bracketed called false false h0 h1 h2 k f g e = refl

heads_none : (names : FileNames) (r : Reading) (behind : Behind) (n : ℕ) (t : Lexeme) (ts : List Lexeme)
    → is_kin t ≡ false → Quiet true (behind_after behind t) n ts → heads_of names r t ts ≡ []
heads_none names r behind n t ts kin h =
    heads_cases (is_name t) (is_sign s.OpenParenthesis (head ts)) (is_called names r (small_name t)) (is_kin t)
    (is_sign s.OpenParenthesis t && not (is_cast ts)) (heads_from [] (inside 0) ts) (heads_from [] (at aheads.Ended) ts)
    (heads_from [] (inside 1) ts) kin
    (λ e. no_bracket_next true (behind_after behind t) n ts h (after_name behind t e))
    (λ e. no_heads (at aheads.Ended) (behind_after behind t) n ts (after_name behind t e) h)
    (no_heads (inside 1) (behind_after behind t) n ts refl h)

-- ---- the role

-- a primary is behind what follows one, and no message is open
abbrev fits : Role → Behind → Bool
fits roles.Follows behind = may_call true behind
fits roles.Dotted behind = is_dotted behind
fits roles.Sent behind = false
fits _ behind = true

fits_in : (b c : Bool) (role : Role) (behind : Behind) → fits role behind ≡ true
    → fits (if b then roles.Operand else if c then roles.Callee else role) behind ≡ true
fits_in true c role behind e = refl
fits_in false true role behind e = refl
fits_in false false role behind e = e

fits_now : (scope : Scope) (own : List (List ℕ)) (role : Role) (behind : Behind) → fits role behind ≡ true
    → fits (role_now (state scope own role)) behind ≡ true
fits_now scope own role behind e = fits_in (begins_part scope) (is_before_header scope) role behind e

fits_role : (called named closing dot dotted cast : Bool)
    → fits (if called then roles.Callee else if named then roles.Follows else if closing then roles.Follows
    else if dot then roles.Dotted else if cast then roles.Cast else roles.Operand)
    (if dot then behinds.Dot else if dotted then behinds.Property else if named || closing then behinds.Primary
    else behinds.Nothing) ≡ true
fits_role true named closing dot dotted cast = refl
fits_role false true closing dot dotted cast = named_calls dot dotted
fits_role false false true dot dotted cast = named_calls dot dotted
fits_role false false false true dotted cast = refl
fits_role false false false false dotted true = refl
fits_role false false false false dotted false = refl

fits_property : (sent dot dotted : Bool) (behind : Behind) → sent ≡ false → dotted ≡ true
    → fits (if sent then roles.Sent else roles.Follows)
    (if dot then behinds.Dot else if dotted then behinds.Property else behind) ≡ true
fits_property false true true behind e f = refl
fits_property false false true behind e f = refl
fits_property true dot dotted behind e f = absurd cc
fits_property sent dot false behind e f = absurd cc

on : (names : FileNames) (r : Reading) (behind : Behind) (t : Lexeme) (ts : List Lexeme)
    → fits (role_after names r roles.Operand t ts) (behind_after behind t) ≡ true
on names r behind t ts =
    fits_role (is_callee names r t ts) (is_name t) (is_sign s.CloseParenthesis t) (is_dot t) (is_dotted behind)
    (is_sign s.OpenParenthesis t && is_cast ts)

fits_after : (names : FileNames) (r : Reading) (role : Role) (behind : Behind) (t : Lexeme) (ts : List Lexeme)
    → fits role behind ≡ true → is_sent t ts ≡ false
    → fits (role_after names r role t ts) (behind_after behind t) ≡ true
fits_after names r roles.Operand behind t ts e sent = on names r behind t ts
fits_after names r roles.Callee behind t ts e sent = on names r behind t ts
fits_after names r roles.Follows behind t ts e sent = on names r behind t ts
fits_after names r roles.Sent behind t ts e sent = absurd cc
fits_after names r roles.Dotted behind t ts e sent =
    fits_property (is_sent t ts) (is_dot t) (is_dotted behind)
    (if is_name t || is_sign s.CloseParenthesis t then behinds.Primary else behinds.Nothing) sent e
fits_after names r roles.Cast behind t ts e sent = refl
fits_after names r roles.CastEnd behind t ts e sent = refl

fits_body : (b : Bool) (role : Role) (behind : Behind) → fits role behind ≡ true
    → fits (if b then role else roles.Operand) behind ≡ true
fits_body true role behind e = e
fits_body false role behind e = refl

fits_next : (names : FileNames) (c : Calling) (behind : Behind) (t : Lexeme) (ts : List Lexeme)
    → fits (role_now c) behind ≡ true → is_sent t ts ≡ false
    → fits (next_role names c t ts) (behind_after behind t) ≡ true
fits_next names c behind t ts e sent =
    fits_body (is_in_body c.reading.scope) (role_after names c.reading (role_now c) t ts) (behind_after behind t)
    (fits_after names c.reading (role_now c) behind t ts e sent)

-- ---- one token

first_if : (names : FileNames) (r : Reading) (t : Lexeme) (ts : List Lexeme) (b : Bool) → is_name t ≡ b
    → is_named (codes "self") t ≡ false → (is_name t ≡ true → is_sign s.OpenParenthesis (head ts) ≡ false)
    → first_as names r t ts ≡ Ok (t ∷ [])
first_if names r t ts true e self f =
    ap
    (λ b. if b then
    (if is_sign s.OpenParenthesis (head ts) then
    called_name names r (routine_of names r (small_name t)) (small_name t) t ts
    else Ok (self_as names r (small_name t) t ∷ [])) else Ok (t ∷ [])) e
    ∙ ap
    (λ b. if b then called_name names r (routine_of names r (small_name t)) (small_name t) t ts
    else Ok (self_as names r (small_name t) t ∷ [])) (f e)
    ∙ ap (λ b. Ok ((if b then name (codes "x__self") (position_of t) else t) ∷ [])) (not_self names r t e self)
first_if names r t ts false e self f =
    ap
    (λ b. if b then
    (if is_sign s.OpenParenthesis (head ts) then
    called_name names r (routine_of names r (small_name t)) (small_name t) t ts
    else Ok (self_as names r (small_name t) t ∷ [])) else Ok (t ∷ [])) e

next_sent : (behind : Behind) (n : ℕ) (ts : List Lexeme) → Quiet true behind n ts
    → is_sent (head ts) (drop 1 ts) ≡ false
next_sent behind n [] h = absurd h
next_sent behind zero (t ∷ ts) h = end_not_sent t ts h
next_sent behind (suc n) (t ∷ ts) h = not_sent true behind n t ts (after_name behind t) h.1

stays : (t : Lexeme) (b : Bool) → b ≡ false → (if b then [] else t ∷ []) ≡ t ∷ []
stays t false e = refl
stays t true e = absurd cc

following : (t : Lexeme) (ts : List Lexeme) (bracket message : Bool) (other : Outcome) → bracket ≡ false
    → message ≡ false → (if bracket then other else Ok (if message then [] else t ∷ [])) ≡ Ok (t ∷ [])
following t ts false false other e f = refl
following t ts true message other e f = absurd cc
following t ts false true other e f = absurd cc

left_false : (b c : Bool) → b ≡ false → (b && c) ≡ false
left_false false c e = refl
left_false true c e = absurd cc

as_is : (names : FileNames) (messages : List (List ℕ)) (r : Reading) (role : Role) (behind : Behind) (n : ℕ)
    (t : Lexeme) (ts : List Lexeme) → fits role behind ≡ true → is_met true behind t ≡ false
    → Quiet true (behind_after behind t) n ts → called_as names messages r role t ts ≡ Ok (t ∷ [])
as_is names messages r roles.Operand behind n t ts e met h =
    let no = or_parts (is_kin t) (is_named (codes "self") t) (no_bracket true behind t met).1.1.1 in
    ap (λ (hs : List Head). after_tokens (heads_written messages (position_of t) hs) (first_as names r t ts))
    (heads_none names r behind n t ts no.0 h)
    ∙ after_none (first_as names r t ts)
    ∙ first_if names r t ts (is_name t) refl no.1
    (λ is. no_bracket_next true (behind_after behind t) n ts h (after_name behind t is))
as_is names messages r roles.Follows behind n t ts e met h =
    following t ts (is_sign s.OpenParenthesis t) (is_message t ts) (comma_before most_of_call (position_of t) ts)
    (not_both (is_sign s.OpenParenthesis t) (may_call true behind) e (no_bracket true behind t met).1.1.0)
    (left_false (is_sent (head ts) (drop 1 ts)) (is_sign s.Dot t) (next_sent (behind_after behind t) n ts h))
as_is names messages r roles.Dotted behind n t ts e met h =
    ap (λ us. Ok us) (stays t (is_sent t ts) (not_sent true behind n t ts (after_name behind t) h))
as_is names messages r roles.Sent behind n t ts e met h = absurd cc
as_is names messages r roles.Callee behind n t ts e met h = refl
as_is names messages r roles.Cast behind n t ts e met h = refl
as_is names messages r roles.CastEnd behind n t ts e met h = refl

end_as_is : (names : FileNames) (messages : List (List ℕ)) (r : Reading) (role : Role) (behind : Behind) (p : Position)
    (ts : List Lexeme) → fits role behind ≡ true
    → called_as names messages r role (sign s.Semicolon p) ts ≡ Ok (sign s.Semicolon p ∷ [])
end_as_is names messages r roles.Operand behind p ts e = refl
end_as_is names messages r roles.Follows behind p ts e =
    following (sign s.Semicolon p) ts false (is_message (sign s.Semicolon p) ts)
    (comma_before most_of_call p ts) refl (and_right (is_sent (head ts) (drop 1 ts)) false refl)
end_as_is names messages r roles.Dotted behind p ts e = refl
end_as_is names messages r roles.Sent behind p ts e = absurd cc
end_as_is names messages r roles.Callee behind p ts e = refl
end_as_is names messages r roles.Cast behind p ts e = refl
end_as_is names messages r roles.CastEnd behind p ts e = refl

in_body : (b : Bool) (t : Lexeme) (o : Outcome) → o ≡ Ok (t ∷ []) → (if b then o else Ok (t ∷ [])) ≡ Ok (t ∷ [])
in_body true t o e = e
in_body false t o e = refl

-- ---- the state

alike : (names : FileNames) (messages : List (List ℕ)) (scope : Scope) (own : List (List ℕ)) (role : Role)
    (ts : List Lexeme) → is_at_rest scope ≡ true
    → called_from names messages (state scope own role) ts ≡ called_from names messages (resting scope own) ts
alike names messages scopes.Between own role [] rest = refl
alike names messages scopes.Between own role (t ∷ ts) rest = refl
alike names messages (scopes.Body places.Statement) own role [] rest = refl
alike names messages (scopes.Body places.Statement) own role (t ∷ ts) rest = refl
alike names messages _ own role ts rest = absurd cc

quiet_on : (names : FileNames) (messages : List (List ℕ)) (scope : Scope) (own : List (List ℕ)) (role : Role)
    (behind : Behind) (n : ℕ) (ts : List Lexeme) → is_kept scope ≡ true → fits role behind ≡ true
    → Quiet true behind n ts
    → called_from names messages (state scope own role) ts
    ≡ after_tokens (take (suc n) ts) (called_from names messages (resting scope own) (drop (suc n) ts))
quiet_on names messages scope own role behind n [] kept fit h = absurd h
quiet_on names messages scope own role behind zero (t ∷ ts) kept fit h =
    let c : Calling = state scope own role in
    let next : Calling = calling_after names c t ts in
    let brackets = end_no_bracket t h in
    let stays_so : called_as names messages c.reading (role_now c) t ts ≡ Ok (t ∷ []) =
    subst (λ u. called_as names messages c.reading (role_now c) u ts ≡ Ok (u ∷ [])) (sym (semicolon t h))
    (end_as_is names messages c.reading (role_now c) behind (position_of t) ts (fits_now scope own role behind fit)) in
    ap (λ (o : Outcome). put_all o (called_from names messages next ts))
    (in_body (is_in_body scope) t (called_as names messages c.reading (role_now c) t ts) stays_so)
    ∙ ap (after_tokens (t ∷ []))
    (alike names messages next.reading.scope next.reading.own next.role ts (rests_after scope t kept h)
    ∙ ap (λ (x : Calling). called_from names messages x ts) (rest_stays scope own t kept brackets.0 brackets.1))
quiet_on names messages scope own role behind (suc n) (t ∷ ts) kept fit h =
    let c : Calling = state scope own role in
    let next : Calling = calling_after names c t ts in
    let brackets = no_bracket true behind t h.0 in
    let keeps = scope_stays scope t kept brackets.0 brackets.1.0 in
    let fit_now = fits_now scope own role behind fit in
    let others : Outcome = called_from names messages (resting scope own) (drop (suc n) ts) in
    ap (λ (o : Outcome). put_all o (called_from names messages next ts))
    (in_body (is_in_body scope) t (called_as names messages c.reading (role_now c) t ts)
    (as_is names messages c.reading (role_now c) behind n t ts fit_now h.0 h.1))
    ∙ ap (after_tokens (t ∷ []))
    (quiet_on names messages next.reading.scope next.reading.own next.role (behind_after behind t) n ts keeps.0
    (fits_next names c behind t ts fit_now (not_sent true behind n t ts (after_name behind t) h.1)) h.1
    ∙ ap (λ (x : Calling). after_tokens (take (suc n) ts) (called_from names messages x (drop (suc n) ts)))
    (rest_stays scope own t kept brackets.0 brackets.1.0))
    ∙ after_both (t ∷ []) (take (suc n) ts) others

over_rest : (names : FileNames) (messages : List (List ℕ)) (scope : Scope) (own : List (List ℕ)) (role : Role) (n : ℕ)
    (ts : List Lexeme) → is_at_rest scope ≡ true → Quiet true behinds.Nothing n ts
    → after_tokens (take (suc n) ts) (called_from names messages (state scope own role) (drop (suc n) ts))
    ≡ called_from names messages (state scope own role) ts
over_rest names messages scope own role n ts rest h =
    ap (after_tokens (take (suc n) ts)) (alike names messages scope own role (drop (suc n) ts) rest)
    ∙ sym
    (alike names messages scope own role ts rest ∙ sym (alike names messages scope own roles.Operand ts rest)
    ∙ quiet_on names messages scope own roles.Operand behinds.Nothing n ts (at_home scope rest) refl h)

over : (names : FileNames) (messages : List (List ℕ)) (c : Calling) (pieces : List Piece) (old new : List Lexeme)
    (count : ℕ) → count ≡ quiet_ahead true c (derived_all pieces) → 0 < count
    → new ≡ old ++ take count (derived_all pieces)
    → after_tokens new (called_from names messages c (derived_all (drop count pieces)))
    ≡ after_tokens old (called_from names messages c (derived_all pieces))
over names messages c pieces old new count e lt is =
    let ts : List Lexeme = derived_all pieces in
    let h = ahead true c ts count e lt in
    ap (λ (us : List Lexeme). after_tokens new (called_from names messages c us)) (sym (drop-map derived count pieces))
    ∙ ap (λ (us : List Lexeme). after_tokens us (called_from names messages c (drop count ts))) is
    ∙ sym (after_both old (take count ts) (called_from names messages c (drop count ts)))
    ∙ ap (after_tokens old)
    (subst
    (λ k. after_tokens (take k ts) (called_from names messages c (drop k ts)) ≡ called_from names messages c ts)
    (sym h.1.1.1.0) (over_rest names messages c.reading.scope c.reading.own c.role h.1.1.0 ts h.0 h.1.1.1.1))

-- the tokens ahead stay as they are
pub called_over : (names : FileNames) (messages : List (List ℕ)) (c : Calling) (pieces rest : List Piece)
    (old new : List Lexeme) (at count : ℕ) → rest ≡ drop at pieces → count ≡ quiet_ahead true c (derived_all rest)
    → 0 < count → new ≡ old ++ take count (derived_all (drop at pieces))
    → after_tokens new (called_from names messages c (derived_all (drop (at + count) pieces)))
    ≡ after_tokens old (called_from names messages c (derived_all (drop at pieces)))
called_over names messages c pieces rest old new at count from e lt is =
    let same : quiet_ahead true c (derived_all rest) ≡ quiet_ahead true c (derived_all (drop at pieces)) =
    ap (λ (ps : List Piece). quiet_ahead true c (derived_all ps)) from in
    ap (λ (ps : List Piece). after_tokens new (called_from names messages c (derived_all ps)))
    (sym (drop-drop count at pieces))
    ∙ over names messages c (drop at pieces) old new count (e ∙ same) lt is
