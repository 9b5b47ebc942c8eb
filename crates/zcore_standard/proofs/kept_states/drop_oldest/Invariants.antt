use Rattle.std.proofs.Common.{◌≡◌, drop}
use Rattle.zcore_standard.proofs.kept_states.drop_oldest.Given as goal

abbrev pub invariant-loop : goal.invariant-loop
invariant-loop l = l.files.items ≡ drop l.counter l.initial.files.items
