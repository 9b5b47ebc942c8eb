use Rattle.std.proofs.Common.{◌≡◌, ◌+◌, take, drop}
use Rattle.zcore_standard.specs.Streams.{code_among}
use Rattle.machine_standard_texts.proofs.codes.code_among.Given as goal

abbrev pub invariant-loop-i : goal.invariant-loop-i
invariant-loop-i l = code_among (take 97 l.extra) 155 l.character
    ≡ code_among (drop l.i (take 97 l.extra)) (155 + l.i) l.character
