use Rattle.std.proofs.Common.{◌∙◌, sym, subst}
use Rattle.derive_tokens.specs.Pieces.{derived, derived_all}
use Rattle.derive_tokens.specs.Tokens.{Outcome}
use Rattle.derive_tokens.specs.Held.{names_of}
use Rattle.derive_values.specs.Views.{reading_of}
use Rattle.derive_statements.specs.Views.{file_names}
use Rattle.derive_expressions.specs.Views.{PutsAll}
use Rattle.derive_expressions.proofs.Over.{nothing_begun}
use Rattle.derive_expressions.proofs.calls.put_begun.Goals as goal

-- src/calls.rt: no call can follow
pub returns-else-may_be_called : goal.returns-else-may_be_called
returns-else-may_be_called c =
    subst
    (λ (o : Outcome).
    PutsAll c.put_first_token.result (derived_all c.args.out.now.items) (derived_all c.put_first_token.new.out.items) o)
    (sym
    (nothing_begun (file_names c.args.names.now) (names_of c.args.messages.now) (reading_of c.args.reading.now)
    (derived c.args.piece) (derived_all c.args.rest.now) (sym c.may_be_called.ensures ∙ c.if-may_be_called.false)))
    c.put_first_token.ensures
