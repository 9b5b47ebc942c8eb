use Rattle.std.proofs.Common.{List, ap, subst, ◌∙◌}
use Rattle.syntax_lexer.specs.Token.{Lexeme, lexemes}
use Rattle.derive_tokens.specs.Pieces.{derived_all}
use Rattle.derive_constants.specs.Constants.{constants}
use Rattle.derive_values.specs.Lifted.{lifted}
use Rattle.derive_classes.specs.Classed.{classed}
use Rattle.derive.specs.Held.{GivesBytes}
use Rattle.derive.specs.Passes.{unclassed_source}
use Rattle.derive.proofs.passes.computed_source.Goals as goal

pub returns : goal.returns
returns c =
    subst (λ (ts : List Lexeme). GivesBytes c.unclassed_source.result (unclassed_source (classed ts)))
    (c.in_ok-pieces.ensures
    ∙ ap lifted (ap derived_all c.deref-2.ensures.value ∙ c.in_ok-computed.ensures
    ∙ ap constants (ap lexemes c.deref.ensures.value)))
    c.unclassed_source.ensures
