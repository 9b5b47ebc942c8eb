use Rattle.std.proofs.Common.{◌≡◌, ◌++◌, take, drop}
use Rattle.std.specs.Prelude.{map}
use Rattle.machine_opcodes.specs.Printed.{byte_of}
use Rattle.machine_opcodes.proofs.transcript.transcribe.Given as goal

abbrev pub invariant-loop-i : goal.invariant-loop-i
invariant-loop-i l = record {
  so_far : l.characters ≡ map byte_of (take l.i l.fn.characters) ++ drop l.i l.fn.characters;
}
