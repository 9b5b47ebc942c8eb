use Rattle.std.proofs.Common.{◌∙◌, ◌++◌, List, ap}
use Rattle.derive_tokens.specs.declared.piece.Piece.{Piece}
use Rattle.derive_tokens.specs.Pieces.{derived_all}
use Rattle.derive_values.specs.Views.{reading_of}
use Rattle.derive_statements.specs.Views.{file_names, token_of}
use Rattle.derive_statements.proofs.QuietLoops.{looped_over}
use Rattle.derive_statements.proofs.loops.put_next.Goals as goal

-- src/loops.rt: the tokens that stay as they are
pub returns-then-count-gt0-clause-value : goal.returns-then-count-gt0-clause-value
returns-then-count-gt0-clause-value c =
    let some = c.if-count-gt0.true in
    looped_over (file_names c.args.names.now) (reading_of c.args.reading.now) c.args.looping.now.spaced
    (token_of c.args.looping.now.variable) c.args.pieces.now c.loop_ahead-count.result
    (derived_all c.args.out.now.items) (derived_all c.put_pieces.new.out.items) (c.loop_ahead-count.ensures.spaced some)
    (c.loop_ahead-count.ensures.variable some) (c.loop_ahead-count.ensures.rest some) some
    (c.loop_ahead-count.ensures.value some)
    (c.in_ok-put_pieces.ensures
    ∙ ap (λ (ps : List Piece). derived_all c.args.out.now.items ++ derived_all ps) c.split_at.ensures.front)
