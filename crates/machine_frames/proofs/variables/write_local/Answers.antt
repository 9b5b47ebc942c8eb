use Rattle.std.proofs.Common.{arith}
use Rattle.machine_frames.proofs.Bytes.{word_within}
use Rattle.machine_frames.proofs.Locals.{write_local_went, no_local_to_write, local_inside}
use Rattle.machine_frames.proofs.variables.write_local.Goals as goal

pub put-requires-clause-cell : goal.put-requires-clause-cell
put-requires-clause-cell c = omega (
  arith,
  local_inside c.args.store.now.store c.args.number c.in-Some.i c.requires c.in-Some.ensures.some.0
      c.in-Some.ensures.some.1,
  c.requires.size,
)

pub put-requires-clause-within : goal.put-requires-clause-within
put-requires-clause-within c = word_within c.in-Some.i c.args.word
    (local_inside c.args.store.now.store c.args.number c.in-Some.i c.requires c.in-Some.ensures.some.0
    c.in-Some.ensures.some.1) (omega arith)

pub returns-in_ok-put-in-Some : goal.returns-in_ok-put-in-Some
returns-in_ok-put-in-Some c = write_local_went _ _ c.args.number c.args.word c.in-Some.i c.requires
    c.in-Some.ensures.some.0 c.in-Some.ensures.some.1 c.in_ok-put-in-Some.ensures.cells c.put.ensures.fixed
    c.in_ok-put-in-Some.ensures.beginning

pub returns-in-None : goal.returns-in-None
returns-in-None c = no_local_to_write _ c.args.number c.args.word c.requires c.in-None.ensures.none
