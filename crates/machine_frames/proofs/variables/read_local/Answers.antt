use Rattle.std.proofs.Common.{arith}
use Rattle.machine_frames.proofs.Locals.{read_local_went, no_local_to_read, local_inside}
use Rattle.machine_frames.proofs.variables.read_local.Goals as goal

pub cell-requires : goal.cell-requires
cell-requires c = omega (
  arith,
  local_inside c.args.store.now.store c.args.number c.in-Some.i c.requires c.in-Some.ensures.some.0
      c.in-Some.ensures.some.1,
  c.requires.size,
)

pub returns-in-Some : goal.returns-in-Some
returns-in-Some c = read_local_went _ c.args.number c.cell.result c.in-Some.i c.requires c.in-Some.ensures.some.0
    c.in-Some.ensures.some.1 c.cell.ensures

pub returns-in-None : goal.returns-in-None
returns-in-None c = no_local_to_read _ c.args.number c.requires c.in-None.ensures.none
