use Rattle.std.proofs.Common.{◌≡◌, ◌∙◌, ℕ, true, false, List, [], ◌∷◌, drop, refl, sym}
use Rattle.syntax_lexer.specs.Token.{Lexeme}
use Rattle.derive_tokens.specs.Pieces.{derived_all}
use Rattle.derive_tokens.specs.Held as held
use Rattle.derive_values.specs.declared.places.Place.{Place}
use Rattle.derive_values.specs.Places.{Reading}
use Rattle.derive_values.specs.Views as values
use Rattle.derive_statements.specs.Prints.{has_rule_from, is_ended}
use Rattle.derive_statements.proofs.prints.has_rule.Goals as goal

-- at the end of a statement
ended : (routines : List (List ℕ)) (r : Reading) (place : Place) (ts : List Lexeme) → is_ended place ≡ true
    → has_rule_from routines r place ts ≡ false
ended routines r place [] e = refl
ended routines r place (t ∷ ts) e = rw e refl

-- src/prints.rt: the end of the statement
pub returns-then-is_ended : goal.returns-then-is_ended
returns-then-is_ended c =
    sym (ended (held.names_of c.args.routines.now) (values.reading_of c.args.reading.now) c.loop-at.place
    (derived_all (drop c.loop-at.at c.args.pieces.now)) (sym c.is_ended.ensures ∙ c.if-is_ended.true))
    ∙ c.loop-at.invariant.rest
