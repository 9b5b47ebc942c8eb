use Rattle.std.proofs.Common.{◌≤◌, ◌<◌}
use Rattle.machine_versions_words.proofs.Locking.{SpellsFrom}
use Rattle.machine_versions_words.proofs.locks.locked_characters.Given as goal

abbrev pub invariant-loop-place : goal.invariant-loop-place
invariant-loop-place l = record {
  room : l.count ≤ 9;
  lock : l.lock < 3;
  so_far : SpellsFrom l.version l.word l.place l.lock l.count l.characters;
}
