use Rattle.std.proofs.Common.{◌≤◌, take}
use Rattle.ztext.specs.TextParts.{IsFilledKey}
use Rattle.zcore_standard.specs.Texts.{spelled_by}
use Rattle.machine_standard_words.proofs.form.nine_characters.Given as goal

abbrev pub invariant-loop-c : goal.invariant-loop-c
invariant-loop-c l = record {
  room : l.count ≤ 9;
  so_far : IsFilledKey (spelled_by l.alphabets (take l.c-index l.word)) l.count l.characters;
}
