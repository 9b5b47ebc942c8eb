-- What the code holds of a run of tokens.
use Rattle.derive_operands.specs.declared.quiet.Run.{Run as RunHeld}
use Rattle.derive_operands.specs.Quiet.{Run, run}

abbrev pub run_of : RunHeld → Run
run_of r = run r.length r.area
