use Rattle.derive_tokens.specs.Held as held
use Rattle.derive_tokens.specs.Pieces.{derived_all}
use Rattle.derive_values.specs.Places.{routines_of}
use Rattle.derive_values.proofs.Outside.{routine_step}
use Rattle.derive_statements.specs.FileNames.{names_of}
use Rattle.derive_statements.proofs.Directives.{others_step}
use Rattle.derive_statements.proofs.file_names.names_of.Goals as goal

-- src/file_names.rt: one token more
pub loop-piece-preserved : goal.loop-piece-preserved
loop-piece-preserved c = record {
  routines = routine_step (held.names_of c.loop-piece.routines) (held.names_of c.note_routine.new.routines)
      c.loop-piece.scope c.scope_outside-scope.result c.args.pieces.now c.loop-piece.piece-index _
      (routines_of (derived_all c.args.pieces.now)) c.loop-piece-test.true c.loop-piece.invariant.routines
      c.in_ok-note_routine.ensures c.scope_outside-scope.ensures;
  others = others_step (held.names_of c.loop-piece.others) (held.names_of c.note_other.new.others) c.loop-piece.scope
      c.scope_outside-scope.result c.loop-piece.met c.is_met_after-met.result c.args.pieces.now c.loop-piece.piece-index _
      (names_of (derived_all c.args.pieces.now)).others c.loop-piece-test.true c.loop-piece.invariant.others
      c.in_ok-note_other.ensures c.scope_outside-scope.ensures c.is_met_after-met.ensures;
}
