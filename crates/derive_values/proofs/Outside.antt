-- The place in the statements of a routine says nothing of the scope after them.
use Rattle.std.proofs.Common.{◌≡◌, ◌+◌, ◌<◌, ◌∙◌, ℕ, Bool, true, false, List, [], ◌∷◌, length, get_or, drop}
use Rattle.std.proofs.Common.{refl, ap, sym, if◌then◌else◌}
use Rattle.std.proofs.lemmas.List.{at_drop_more}
use Rattle.syntax_lexer.specs.declared.token.Sign.TheVariants as s
use Rattle.syntax_lexer.specs.Token.{Lexeme}
use Rattle.derive_tokens.specs.declared.piece.Piece.{Piece}
use Rattle.derive_tokens.specs.Pieces.{derived, derived_all}
use Rattle.derive_tokens.specs.Tokens.{is_sign}
use Rattle.derive_values.specs.declared.places.Place.{Place}
use Rattle.derive_values.specs.declared.places.Place.TheVariants as places
use Rattle.derive_values.specs.declared.places.Scope.{Scope}
use Rattle.derive_values.specs.declared.places.Scope.TheVariants as scopes
use Rattle.derive_values.specs.Places.{outside, place_after, routines_after, routines_from, scope_after}

closing : (b : Bool) (p q : Place)
    → outside (if b then scopes.Bare else scopes.Body p) ≡ outside (if b then scopes.Bare else scopes.Body q)
closing true p q = refl
closing false p q = refl

pub outside_after : (scope : Scope) (t : Lexeme)
    → outside (scope_after (outside scope) t) ≡ outside (scope_after scope t)
outside_after scopes.Between t = refl
outside_after scopes.Named t = refl
outside_after scopes.Locals t = refl
outside_after (scopes.Body place) t =
    closing (is_sign s.CloseBracket t) (place_after places.Statement t) (place_after place t)
outside_after scopes.Head t = refl
outside_after scopes.Property t = refl
outside_after scopes.Words t = refl
outside_after scopes.Worth t = refl
outside_after scopes.Bare t = refl

named_outside : (scope : Scope) (t : Lexeme) (names : List (List ℕ))
    → routines_after (outside scope) t names ≡ routines_after scope t names
named_outside scopes.Between t names = refl
named_outside scopes.Named t names = refl
named_outside scopes.Locals t names = refl
named_outside (scopes.Body place) t names = refl
named_outside scopes.Head t names = refl
named_outside scopes.Property t names = refl
named_outside scopes.Words t names = refl
named_outside scopes.Worth t names = refl
named_outside scopes.Bare t names = refl

pub routines_outside : (ts : List Lexeme) (names : List (List ℕ)) (scope : Scope)
    → routines_from names (outside scope) ts ≡ routines_from names scope ts
routines_outside [] names scope = refl
routines_outside (t ∷ ts) names scope =
    ap (λ n. routines_from n (scope_after (outside scope) t) ts) (named_outside scope t names)
    ∙ sym (routines_outside ts (routines_after scope t names) (scope_after (outside scope) t))
    ∙ ap (λ x. routines_from (routines_after scope t names) x ts) (outside_after scope t)
    ∙ routines_outside ts (routines_after scope t names) (scope_after scope t)

pub routine_step : (names more : List (List ℕ)) (scope later : Scope) (ts : List Piece) (at : ℕ) (d : Piece)
    (whole : List (List ℕ)) → at < length ts → routines_from names scope (derived_all (drop at ts)) ≡ whole
    → more ≡ routines_after scope (derived (get_or ts at d)) names
    → later ≡ outside (scope_after scope (derived (get_or ts at d)))
    → routines_from more later (derived_all (drop (at + 1) ts)) ≡ whole
routine_step names more scope later ts at d whole lt e m a =
    ap (λ n. routines_from n later (derived_all (drop (at + 1) ts))) m
    ∙ ap (λ x. routines_from (routines_after scope (derived (get_or ts at d)) names) x (derived_all (drop (at + 1) ts)))
    a
    ∙ routines_outside (derived_all (drop (at + 1) ts)) (routines_after scope (derived (get_or ts at d)) names)
    (scope_after scope (derived (get_or ts at d)))
    ∙ sym (at_drop_more (λ xs. routines_from names scope (derived_all xs)) ts at d lt)
    ∙ e
