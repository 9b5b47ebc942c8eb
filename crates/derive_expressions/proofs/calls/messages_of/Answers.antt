use Rattle.std.proofs.Common.{◌≡◌, ◌-◌, ◌∙◌, ap, arith, length, List}
use Rattle.std.proofs.lemmas.List.{length-drop}
use Rattle.derive_tokens.specs.declared.piece.Piece.{Piece}
use Rattle.derive_tokens.specs.Held.{names_of}
use Rattle.derive_statements.specs.Views.{file_names}
use Rattle.derive_expressions.specs.Views.{calling_of}
use Rattle.derive_expressions.proofs.QuietMessages.{messages_over}
use Rattle.derive_expressions.proofs.calls.messages_of.Goals as goal

-- src/calls.rt: statements without messages
pub loop-at-preserved-then-count-gt0 : goal.loop-at-preserved-then-count-gt0
loop-at-preserved-then-count-gt0 c =
    let left : length c.after.result.now ≡ length c.args.pieces.now - c.loop-at.at =
    ap (λ (ps : List Piece). length ps) c.after.ensures.value
    ∙ length-drop c.loop-at.at c.args.pieces.now in
    record {
      within = omega (arith, c.quiet_ahead-count.ensures.within, left, c.loop-at.invariant.within);
      few = omega (arith, c.loop-at.invariant.few);
      rest = messages_over (file_names c.args.names.now) (names_of c.loop-at.messages) (calling_of c.loop-at.calling)
          c.args.pieces.now c.after.result.now c.loop-at.at c.quiet_ahead-count.result c.after.ensures.value
          c.quiet_ahead-count.ensures.value c.if-count-gt0.true
          ∙ c.loop-at.invariant.rest;
    }
