use Rattle.derive_tokens.specs.Held.{names_of}
use Rattle.derive_tokens.specs.Pieces.{derived_all}
use Rattle.derive_values.specs.Places.{routines_of}
use Rattle.derive_values.proofs.Outside.{routine_step}
use Rattle.derive_values.proofs.scopes.routines_of.Goals as goal

-- src/scopes.rt: one token more
pub loop-piece-preserved : goal.loop-piece-preserved
loop-piece-preserved c =
    routine_step (names_of c.loop-piece.names) (names_of c.note_routine.new.names) c.loop-piece.scope
    c.scope_outside-scope.result c.args.pieces.now c.loop-piece.piece-index _
    (routines_of (derived_all c.args.pieces.now)) c.loop-piece-test.true c.loop-piece.invariant
    c.in_ok-note_routine.ensures c.scope_outside-scope.ensures
