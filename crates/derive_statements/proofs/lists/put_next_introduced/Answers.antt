use Rattle.std.proofs.Common.{◌∙◌, ◌++◌, List, ap}
use Rattle.derive_tokens.specs.declared.piece.Piece.{Piece}
use Rattle.derive_tokens.specs.Pieces.{derived_all}
use Rattle.derive_statements.proofs.QuietLists.{introduced_over}
use Rattle.derive_statements.proofs.lists.put_next_introduced.Goals as goal

-- src/lists.rt: the tokens that stay as they are
pub returns-then-count-gt0-clause-value : goal.returns-then-count-gt0-clause-value
returns-then-count-gt0-clause-value c =
    introduced_over c.args.scope.now c.args.pieces.now c.quiet_ahead-count.result (derived_all c.args.out.now.items)
    (derived_all c.put_pieces.new.out.items) (c.quiet_ahead-count.ensures.rest c.if-count-gt0.true) c.if-count-gt0.true
    (c.quiet_ahead-count.ensures.value c.if-count-gt0.true)
    (c.in_ok-put_pieces.ensures
    ∙ ap (λ (ps : List Piece). derived_all c.args.out.now.items ++ derived_all ps) c.split_at.ensures.front)
