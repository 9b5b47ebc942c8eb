-- The place in the statements of a routine says nothing of the names of directives.
use Rattle.std.proofs.Common.{◌≡◌, ◌+◌, ◌<◌, ◌∙◌, ℕ, Bool, false, List, [], ◌∷◌, length, get_or, drop}
use Rattle.std.proofs.Common.{refl, ap, sym}
use Rattle.std.proofs.lemmas.List.{at_drop_more}
use Rattle.syntax_lexer.specs.Token.{Lexeme}
use Rattle.derive_tokens.specs.declared.piece.Piece.{Piece}
use Rattle.derive_tokens.specs.Pieces.{derived, derived_all}
use Rattle.derive_values.specs.declared.places.Place.TheVariants as places
use Rattle.derive_values.specs.declared.places.Scope.{Scope}
use Rattle.derive_values.specs.declared.places.Scope.TheVariants as scopes
use Rattle.derive_values.specs.Places.{outside, scope_after}
use Rattle.derive_values.proofs.Outside.{outside_after}
use Rattle.derive_statements.specs.FileNames.{is_met_after, others_after, others_from}

others_outside : (ts : List Lexeme) (others : List (List ℕ)) (scope : Scope) (met : Bool)
    → others_from others (outside scope) met ts ≡ others_from others scope met ts
others_outside [] others scope met = refl
others_outside (t ∷ ts) others (scopes.Body place) met =
    sym (others_outside ts others (scope_after (scopes.Body places.Statement) t) false)
    ∙ ap (λ x. others_from others x false ts) (outside_after (scopes.Body place) t)
    ∙ others_outside ts others (scope_after (scopes.Body place) t) false
others_outside (t ∷ ts) others scopes.Between met = refl
others_outside (t ∷ ts) others scopes.Named met = refl
others_outside (t ∷ ts) others scopes.Locals met = refl
others_outside (t ∷ ts) others scopes.Head met = refl
others_outside (t ∷ ts) others scopes.Property met = refl
others_outside (t ∷ ts) others scopes.Words met = refl
others_outside (t ∷ ts) others scopes.Worth met = refl
others_outside (t ∷ ts) others scopes.Bare met = refl

pub others_step : (others more : List (List ℕ)) (scope later : Scope) (met next : Bool) (ts : List Piece) (at : ℕ)
    (d : Piece) (whole : List (List ℕ)) → at < length ts
    → others_from others scope met (derived_all (drop at ts)) ≡ whole
    → more ≡ others_after scope met (derived (get_or ts at d)) others
    → later ≡ outside (scope_after scope (derived (get_or ts at d)))
    → next ≡ is_met_after scope met (derived (get_or ts at d))
    → others_from more later next (derived_all (drop (at + 1) ts)) ≡ whole
others_step others more scope later met next ts at d whole lt e m a n =
    ap (λ os. others_from os later next (derived_all (drop (at + 1) ts))) m
    ∙ ap (λ b. others_from (others_after scope met (derived (get_or ts at d)) others) later b
    (derived_all (drop (at + 1) ts))) n
    ∙ ap (λ x. others_from (others_after scope met (derived (get_or ts at d)) others) x
    (is_met_after scope met (derived (get_or ts at d))) (derived_all (drop (at + 1) ts))) a
    ∙ others_outside (derived_all (drop (at + 1) ts)) (others_after scope met (derived (get_or ts at d)) others)
    (scope_after scope (derived (get_or ts at d))) (is_met_after scope met (derived (get_or ts at d)))
    ∙ sym (at_drop_more (λ xs. others_from others scope met (derived_all xs)) ts at d lt)
    ∙ e
