use Rattle.std.proofs.Common.{◌≤◌, take, map}
use Rattle.ztext.specs.Alphabets.{spelled}
use Rattle.ztext.specs.Text.{lower_case}
use Rattle.ztext.specs.TextParts.{IsFilledKey}
use Rattle.ztext.proofs.text.word_key.Given as goal

abbrev pub invariant-loop-c : goal.invariant-loop-c
invariant-loop-c l = record {
  room : l.count ≤ 9;
  so_far : IsFilledKey (spelled (map lower_case (take l.c-index l.word))) l.count l.key;
}
