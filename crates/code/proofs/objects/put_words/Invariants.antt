use Rattle.std.proofs.Common.{◌≡◌, ◌++◌, drop}
use Rattle.std.specs.List.{flat_map}
use Rattle.tables.specs.Rows as written
use Rattle.code.proofs.objects.put_words.Given as goal

abbrev pub invariant-loop-word : goal.invariant-loop-word
invariant-loop-word l = l.bytes.items ++ flat_map written.word (drop l.word-index l.words) ≡ l.initial.bytes.items
    ++ flat_map written.word l.words
