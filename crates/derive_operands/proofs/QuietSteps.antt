-- A statement without steps stays as it is.
use Rattle.std.proofs.Common.{◌≡◌, ◌<◌, ◌+◌, ◌==◌, ◌&&◌, ◌||◌, ◌⊎◌, inl, inr, ◌++◌, ◌∙◌, ℕ, zero, suc, Bool, true, false}
use Rattle.std.proofs.Common.{List, [], ◌∷◌, drop, take, refl, ap, sym, subst, arith}
use Rattle.std.specs.Prelude.{if◌then◌else◌, nat_lt, Some, None}
use Rattle.std.proofs.lemmas.Bool.{and_parts, eqb-true}
use Rattle.syntax_lexer.specs.declared.token.Sign.TheVariants as s
use Rattle.syntax_lexer.specs.declared.token.Word.TheVariants as w
use Rattle.syntax_lexer.specs.declared.token.Position.{Position}
use Rattle.syntax_lexer.specs.Token.{Lexeme, head, sign, position_of}
use Rattle.derive_tokens.specs.declared.piece.Piece.{Piece}
use Rattle.derive_tokens.specs.Pieces.{derived_all}
use Rattle.derive_tokens.specs.Tokens.{is_sign, is_word}
use Rattle.derive_values.specs.declared.places.Place.TheVariants as places
use Rattle.derive_values.specs.declared.places.Scope.{Scope}
use Rattle.derive_values.specs.declared.places.Scope.TheVariants as scopes
use Rattle.derive_values.specs.Places.{ended, gives_values, is_at_rest, is_words, own_after, place_after, scope_after}
use Rattle.derive_statements.specs.FileNames.{FileNames}
use Rattle.derive_statements.specs.Lists.{deeper}
use Rattle.derive_expressions.specs.declared.roles.Role.{Role}
use Rattle.derive_expressions.specs.declared.roles.Role.TheVariants as roles
use Rattle.derive_expressions.specs.Roles.{calling_after, is_in_body, next_role, role_now}
use Rattle.derive_operands.specs.declared.targets.Chain.{Chain}
use Rattle.derive_operands.specs.declared.targets.Chain.TheVariants as chains
use Rattle.derive_operands.specs.Steps.{Found, Stepping, belongs, chain_after, found_as, found_by, found_in, found_length}
use Rattle.derive_operands.specs.Steps.{found_now, is_action, is_fresh_after, is_loop_after, is_middle_after, is_operand}
use Rattle.derive_operands.specs.Steps.{is_step, nothing, prefix_in, prefix_of, stepped_from, target_from, target_length}
use Rattle.derive_operands.specs.Steps.{target_met, found_after}
use Rattle.derive_operands.specs.declared.quiet.Area.TheVariants as areas
use Rattle.derive_operands.specs.Quiet.{Run, is_unstepped, quiet_run}
use Rattle.derive_operands.proofs.Rests.{quiet_rows}
use Rattle.derive_operands.proofs.Statements.{Quiet, at_home, begun, home, is_kept, no_bracket, not_stepped}
use Rattle.derive_operands.proofs.Statements.{quiet_found, scope_ends, scope_stays, semicolon}

-- ---- nothing is stepped

-- the end of the statement is no sign of a step
end_no_step : (t : Lexeme) → is_sign s.Semicolon t ≡ true → is_step t ≡ false
end_no_step t e = ap is_step (semicolon t e)

no_step : (depth n : ℕ) (t : Lexeme) (ts : List Lexeme) → Quiet true depth n (t ∷ ts) → is_step t ≡ false
no_step depth zero t ts h = end_no_step t h.1
no_step depth (suc n) t ts h = not_stepped t h.0

end_apart : (c : Chain) (p : Position) → belongs c (sign s.Semicolon p) ≡ false
end_apart chains.AtName p = refl
end_apart chains.AtDot p = refl
end_apart (chains.InBrackets n) p = refl
end_apart chains.Closed p = refl
end_apart chains.Over p = refl

-- Nothing is stepped, or no sign of a step is after so many tokens more.
abbrev NoSign : ℕ → ℕ → List Lexeme → Type 0
NoSign count met ts = (met ≡ 0) ⊎ ((k : ℕ) × ((met ≡ count + k) × (is_step (head (drop k ts)) ≡ false)))

here : (count : ℕ) (t : Lexeme) (ts : List Lexeme) → is_step t ≡ false → NoSign count count (t ∷ ts)
here count t ts e = inr (0, ((omega arith), e))

at_dot : (b : Bool) (count : ℕ) (t : Lexeme) (ts : List Lexeme) → is_step t ≡ false
    → NoSign count (if b then count else 0) (t ∷ ts)
at_dot true count t ts e = here count t ts e
at_dot false count t ts e = inl refl

met_here : (count : ℕ) (c : Chain) (t : Lexeme) (ts : List Lexeme) → is_step t ≡ false
    → NoSign count (target_met count c) (t ∷ ts)
met_here count chains.AtName t ts e = inl refl
met_here count chains.AtDot t ts e = at_dot (nat_lt 1 count) count t ts e
met_here count (chains.InBrackets n) t ts e = inl refl
met_here count chains.Closed t ts e = here count t ts e
met_here count chains.Over t ts e = inl refl

one_more : (count met : ℕ) (t : Lexeme) (ts : List Lexeme) → NoSign (count + 1) met ts → NoSign count met (t ∷ ts)
one_more count met t ts (inl e) = inl e
one_more count met t ts (inr w) =
    let e : met ≡ (count + 1) + w.0 = w.1.0 in inr (suc w.0, ((omega (arith, e)), w.1.1))

either_met : (b : Bool) (count more met : ℕ) (t : Lexeme) (ts : List Lexeme) → NoSign count met (t ∷ ts)
    → NoSign (count + 1) more ts → NoSign count (if b then more else met) (t ∷ ts)
either_met true count more met t ts f g = one_more count more t ts g
either_met false count more met t ts f g = f

no_sign : (count : ℕ) (c : Chain) (depth n : ℕ) (ts : List Lexeme) → Quiet true depth n ts
    → NoSign count (target_from count c ts) ts
no_sign count c depth n [] h = absurd h
no_sign count c depth zero (t ∷ ts) h =
    let apart : belongs c t ≡ false = ap (belongs c) (semicolon t h.1) ∙ end_apart c (position_of t) in
    subst
    (λ b. NoSign count (if b then target_from (count + 1) (chain_after c t (head ts)) ts else target_met count c) (t ∷ ts))
    (sym apart) (met_here count c t ts (end_no_step t h.1))
no_sign count c depth (suc n) (t ∷ ts) h =
    either_met (belongs c t) count (target_from (count + 1) (chain_after c t (head ts)) ts) (target_met count c) t ts
    (met_here count c t ts (not_stepped t h.0))
    (no_sign (count + 1) (chain_after c t (head ts)) (deeper depth t) n ts h.1)

in_bracket : (depth n : ℕ) (t : Lexeme) (ts : List Lexeme) → Quiet true depth n (t ∷ ts)
    → is_sign s.OpenParenthesis t ≡ true → NoSign 0 (target_from 1 (chains.InBrackets 1) ts) (t ∷ ts)
in_bracket depth zero t ts h e =
    let differs : is_sign s.OpenParenthesis t ≡ false = ap (is_sign s.OpenParenthesis) (semicolon t h.1) in absurd cc
in_bracket depth (suc n) t ts h e =
    one_more 0 (target_from 1 (chains.InBrackets 1) ts) t ts (no_sign 1 (chains.InBrackets 1) (deeper depth t) n ts h.1)

length_cases : (b : Bool) (depth n : ℕ) (t : Lexeme) (ts : List Lexeme) → Quiet true depth n (t ∷ ts)
    → is_sign s.OpenParenthesis t ≡ b
    → NoSign 0 (if b then target_from 1 (chains.InBrackets 1) ts else target_from 0 chains.AtName (t ∷ ts)) (t ∷ ts)
length_cases true depth n t ts h e = in_bracket depth n t ts h e
length_cases false depth n t ts h e = no_sign 0 chains.AtName depth n (t ∷ ts) h

no_prefix : (t : Lexeme) (ts : List Lexeme) → is_step t ≡ false → prefix_in (t ∷ ts) ≡ nothing
no_prefix t ts e = ap (λ b. if b then prefix_of (target_length ts) else nothing) e

same_way : (b : Bool) (t : Lexeme) (ts : List Lexeme)
    → (if b then prefix_in (t ∷ ts) else prefix_in (t ∷ ts)) ≡ prefix_in (t ∷ ts)
same_way true t ts = refl
same_way false t ts = refl

no_found : (met : ℕ) (t : Lexeme) (ts : List Lexeme) → is_step t ≡ false → NoSign 0 met (t ∷ ts)
    → found_after met (t ∷ ts) ≡ nothing
no_found met t ts e (inl zero_met) = ap (λ m. found_after m (t ∷ ts)) zero_met ∙ no_prefix t ts e
no_found met t ts e (inr w) =
    let same : w.0 ≡ met = omega (arith, w.1.0) in
    let no_more : is_step (head (drop met (t ∷ ts))) ≡ false =
    subst (λ m. is_step (head (drop m (t ∷ ts))) ≡ false) same w.1.1 in
    ap
    (λ b. if nat_lt 0 met then found_by met (if b then Some (head (drop met (t ∷ ts))) else None) (t ∷ ts)
    else prefix_in (t ∷ ts))
    no_more
    ∙ same_way (nat_lt 0 met) t ts ∙ no_prefix t ts e

none_found : (depth n : ℕ) (t : Lexeme) (ts : List Lexeme) → Quiet true depth n (t ∷ ts) → found_in (t ∷ ts) ≡ nothing
none_found depth n t ts h =
    no_found (target_length (t ∷ ts)) t ts (no_step depth n t ts h)
    (length_cases (is_sign s.OpenParenthesis t) depth n t ts h refl)

nothing_way : (b : Bool) → (if b then nothing else nothing) ≡ nothing
nothing_way true = refl
nothing_way false = refl

nothing_now : (q : Stepping) (depth n : ℕ) (t : Lexeme) (ts : List Lexeme) → Quiet true depth n (t ∷ ts)
    → found_now q (t ∷ ts) ≡ nothing
nothing_now q depth n t ts h =
    ap
    (λ (f : Found). if is_in_body q.calling.reading.scope && is_operand (role_now q.calling) then f else nothing)
    (none_found depth n t ts h)
    ∙ nothing_way (is_in_body q.calling.reading.scope && is_operand (role_now q.calling))

-- ---- the state

abbrev state : Scope → List (List ℕ) → Role → Bool → Bool → Bool → ℕ → Stepping
state scope own role loop middle fresh passed = record {
  calling = record { reading = record { scope = scope; own = own }; role = role };
  loop = loop;
  middle = middle;
  fresh = fresh;
  passed = passed;
}

-- what is known at the end of the statement or the directive
abbrev resting : Scope → List (List ℕ) → Bool → Bool → Stepping
resting (scopes.Body place) own loop middle =
    state (scopes.Body places.Statement) own roles.Operand false false false 0
resting _ own loop middle = state scopes.Between [] roles.Operand loop middle false 0

-- after a token before which nothing is stepped
abbrev next : FileNames → Scope → List (List ℕ) → Role → Bool → Bool → Bool → Lexeme → List Lexeme → Stepping
next names scope own role loop middle fresh t ts =
    state (scope_after scope t) (own_after scope t own)
    (next_role names (record { reading = record { scope = scope; own = own }; role = role }) t ts)
    (is_loop_after scope loop t) (is_middle_after scope middle t) (is_fresh_after scope t) 0

stepped_one : (names : FileNames) (scope : Scope) (own : List (List ℕ)) (role : Role) (loop middle fresh : Bool)
    (depth n : ℕ) (t : Lexeme) (ts : List Lexeme) → Quiet true depth n (t ∷ ts)
    → stepped_from names (state scope own role loop middle fresh 0) (t ∷ ts)
    ≡ t ∷ stepped_from names (next names scope own role loop middle fresh t ts) ts
stepped_one names scope own role loop middle fresh depth n t ts h =
    let q : Stepping = state scope own role loop middle fresh 0 in
    ap
    (λ (f : Found). found_as (is_action q) f (t ∷ ts) ++ stepped_from names (record {
      calling = calling_after names q.calling t ts;
      loop = is_loop_after scope loop t;
      middle = is_middle_after scope middle t;
      fresh = is_fresh_after scope t;
      passed = found_length f;
    }) ts)
    (nothing_now q depth n t ts h)

-- where a statement or a directive begins, no more is known of the one before
alike_body : (names : FileNames) (own : List (List ℕ)) (role : Role) (loop middle fresh : Bool) (ts : List Lexeme)
    → stepped_from names (state (scopes.Body places.Statement) own role loop middle fresh 0) ts
    ≡ stepped_from names (state (scopes.Body places.Statement) own roles.Operand false false false 0) ts
alike_body names own role loop middle fresh [] = refl
alike_body names own role loop middle fresh (t ∷ ts) = refl

alike_between : (names : FileNames) (own : List (List ℕ)) (role : Role) (loop middle fresh : Bool) (ts : List Lexeme)
    → stepped_from names (state scopes.Between own role loop middle fresh 0) ts
    ≡ stepped_from names (state scopes.Between [] roles.Operand loop middle false 0) ts
alike_between names own role loop middle fresh [] = refl
alike_between names own role loop middle fresh (t ∷ ts) = refl

alike : (names : FileNames) (scope : Scope) (own : List (List ℕ)) (role : Role) (loop middle fresh : Bool)
    (ts : List Lexeme) → is_at_rest scope ≡ true
    → stepped_from names (state scope own role loop middle fresh 0) ts
    ≡ stepped_from names (resting scope own loop middle) ts
alike names scopes.Between own role loop middle fresh ts rest = alike_between names own role loop middle fresh ts
alike names (scopes.Body places.Statement) own role loop middle fresh ts rest =
    alike_body names own role loop middle fresh ts
alike names _ own role loop middle fresh ts rest = absurd cc

abbrev outside : Bool → Bool → Stepping
outside loop middle = state scopes.Between [] roles.Operand loop middle false 0

abbrev Outside : Scope → List (List ℕ) → Bool → Bool → Type 0
Outside scope own loop middle = resting scope own loop middle ≡ outside loop middle

out_if : (b : Bool) (x y : Scope) (own : List (List ℕ)) (loop middle : Bool) → Outside x own loop middle
    → Outside y own loop middle → Outside (if b then x else y) own loop middle
out_if true x y own loop middle f g = f
out_if false x y own loop middle f g = g

out_ended : (t : Lexeme) (b : Bool) (x y : Scope) (own : List (List ℕ)) (loop middle : Bool) → Outside x own loop middle
    → Outside y own loop middle → Outside (ended t (if b then x else y)) own loop middle
out_ended t b x y own loop middle f g =
    out_if (is_sign s.Semicolon t) scopes.Between (if b then x else y) own loop middle refl
    (out_if b x y own loop middle f g)

out_between : (t : Lexeme) (own : List (List ℕ)) (loop middle : Bool) → Outside (begun t) own loop middle
out_between t own loop middle =
    out_if (is_word w.Object t) scopes.Head (if gives_values t then scopes.Worth else ended t scopes.Bare) own loop
    middle refl
    (out_if (gives_values t) scopes.Worth (ended t scopes.Bare) own loop middle refl
    (out_if (is_sign s.Semicolon t) scopes.Between scopes.Bare own loop middle refl refl))

rest_stays : (scope : Scope) (own : List (List ℕ)) (loop middle : Bool) (t : Lexeme) → is_kept scope ≡ true
    → is_sign s.OpenBracket t ≡ false → is_sign s.CloseBracket t ≡ false
    → resting (scope_after scope t) (own_after scope t own) (is_loop_after scope loop t)
    (is_middle_after scope middle t)
    ≡ resting scope own loop middle
rest_stays scopes.Between own loop middle t kept opens closes =
    ap
    (λ b. resting (if b then scopes.Named else begun t) [] loop middle) opens
    ∙ out_between t [] loop middle
rest_stays scopes.Named own loop middle t kept opens closes = absurd cc
rest_stays scopes.Locals own loop middle t kept opens closes = absurd cc
rest_stays (scopes.Body place) own loop middle t kept opens closes =
    ap
    (λ b. resting (if b then scopes.Bare else scopes.Body (place_after place t)) own
    (is_loop_after (scopes.Body place) loop t) (is_middle_after (scopes.Body place) middle t))
    closes
rest_stays scopes.Head own loop middle t kept opens closes =
    out_ended t (is_sign s.Comma t || is_word w.With t) scopes.Property scopes.Head own loop middle refl refl
rest_stays scopes.Property own loop middle t kept opens closes =
    out_ended t (is_word w.With t) scopes.Property (if is_words t then scopes.Words else scopes.Worth) own loop middle
    refl
    (out_if (is_words t) scopes.Words scopes.Worth own loop middle refl refl)
rest_stays scopes.Words own loop middle t kept opens closes =
    out_ended t (is_sign s.Comma t) scopes.Property scopes.Words own loop middle refl refl
rest_stays scopes.Worth own loop middle t kept opens closes =
    out_ended t (is_sign s.Comma t) scopes.Property scopes.Worth own loop middle refl refl
rest_stays scopes.Bare own loop middle t kept opens closes =
    out_if (is_sign s.Semicolon t) scopes.Between scopes.Bare own loop middle refl refl

home_rests : (scope : Scope) → is_at_rest (home scope) ≡ true
home_rests (scopes.Body place) = refl
home_rests _ = refl

rests_after : (scope : Scope) (t : Lexeme) → is_kept scope ≡ true → is_sign s.Semicolon t ≡ true
    → is_at_rest (scope_after scope t) ≡ true
rests_after scope t kept e =
    ap (λ u. is_at_rest (scope_after scope u)) (semicolon t e)
    ∙ ap is_at_rest (scope_ends scope (position_of t) kept) ∙ home_rests scope

-- ---- the tokens

stepped_on : (names : FileNames) (scope : Scope) (own : List (List ℕ)) (role : Role) (loop middle fresh : Bool)
    (depth n : ℕ) (ts : List Lexeme) → is_kept scope ≡ true → Quiet true depth n ts
    → stepped_from names (state scope own role loop middle fresh 0) ts
    ≡ take (suc n) ts ++ stepped_from names (resting scope own loop middle) (drop (suc n) ts)
stepped_on names scope own role loop middle fresh depth n [] kept h = absurd h
stepped_on names scope own role loop middle fresh depth zero (t ∷ ts) kept h =
    let q : Stepping = next names scope own role loop middle fresh t ts in
    let opens : is_sign s.OpenBracket t ≡ false = ap (is_sign s.OpenBracket) (semicolon t h.1) in
    let closes : is_sign s.CloseBracket t ≡ false = ap (is_sign s.CloseBracket) (semicolon t h.1) in
    stepped_one names scope own role loop middle fresh depth zero t ts h
    ∙ ap (λ (us : List Lexeme). t ∷ us)
    (alike names q.calling.reading.scope q.calling.reading.own q.calling.role q.loop q.middle q.fresh ts
    (rests_after scope t kept h.1)
    ∙ ap (λ (x : Stepping). stepped_from names x ts) (rest_stays scope own loop middle t kept opens closes))
stepped_on names scope own role loop middle fresh depth (suc n) (t ∷ ts) kept h =
    let q : Stepping = next names scope own role loop middle fresh t ts in
    let brackets = no_bracket t h.0 in
    let stays = scope_stays scope t kept brackets.0 brackets.1 in
    stepped_one names scope own role loop middle fresh depth (suc n) t ts h
    ∙ ap (λ (us : List Lexeme). t ∷ us)
    (stepped_on names q.calling.reading.scope q.calling.reading.own q.calling.role q.loop q.middle q.fresh
    (deeper depth t) n ts stays.0 h.1
    ∙ ap (λ (x : Stepping). take (suc n) ts ++ stepped_from names x (drop (suc n) ts))
    (rest_stays scope own loop middle t kept brackets.0 brackets.1))

-- what stays as it is in front
abbrev Over : FileNames → Stepping → List Lexeme → ℕ → Type 0
Over names q ts count = take count ts ++ stepped_from names q (drop count ts) ≡ stepped_from names q ts

over_rest : (names : FileNames) (scope : Scope) (own : List (List ℕ)) (role : Role) (loop middle fresh : Bool) (n : ℕ)
    (ts : List Lexeme) → is_at_rest scope ≡ true → Quiet true 0 n ts
    → Over names (state scope own role loop middle fresh 0) ts (suc n)
over_rest names scope own role loop middle fresh n ts rest h =
    ap (λ (us : List Lexeme). take (suc n) ts ++ us)
    (alike names scope own role loop middle fresh (drop (suc n) ts) rest)
    ∙ sym (stepped_on names scope own role loop middle fresh 0 n ts (at_home scope rest) h)

over : (names : FileNames) (q : Stepping) (ts : List Lexeme) (count : ℕ) → is_unstepped q ≡ true
    → count ≡ (quiet_run true areas.Body ts).length → 0 < count → Over names q ts count
over names q ts count e same lt =
    let is = and_parts (is_at_rest q.calling.reading.scope) (q.passed == 0) e in
    let at_zero : 0 ≡ q.passed = sym (eqb-true q.passed 0 is.1) in
    let w = quiet_found true areas.Body ts (subst (λ n. 0 < n) same lt) in
    let met : suc w.0 ≡ count = sym (same ∙ ap (λ (x : Run). x.length) w.1.0) in
    let r = q.calling.reading in
    subst (λ n. Over names q ts n) met
    (subst (λ n. Over names (state r.scope r.own q.calling.role q.loop q.middle q.fresh n) ts (suc w.0)) at_zero
    (over_rest names r.scope r.own q.calling.role q.loop q.middle q.fresh w.0 ts is.0 w.1.1))

pub stepped_over : (names : FileNames) (q : Stepping) (pieces : List Piece) (r : Run) (old new : List Lexeme)
    → is_unstepped q ≡ true → r ≡ quiet_run true areas.Body (derived_all pieces) → 0 < r.length
    → new ≡ old ++ take r.length (derived_all pieces)
    → new ++ stepped_from names q (derived_all (drop r.length pieces)) ≡ old ++ stepped_from names q (derived_all pieces)
stepped_over names q pieces r old new is e lt puts =
    quiet_rows (stepped_from names q) pieces old new r.length (stepped_from names q (derived_all pieces)) puts
    (over names q (derived_all pieces) r.length is (ap (λ (x : Run). x.length) e) lt)
