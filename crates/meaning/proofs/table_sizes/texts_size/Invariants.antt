use Rattle.std.proofs.Common.{◌≡◌, ◌<◌, ◌+◌, drop}
use Rattle.meaning.specs.Places.{folded}
use Rattle.meaning.proofs.Folding.{texts_total}
use Rattle.meaning.proofs.table_sizes.texts_size.Given as goal

abbrev pub invariant-loop-text : goal.invariant-loop-text
invariant-loop-text l = record {
  sum : folded (l.size + texts_total (drop l.text-index l.texts)) ≡ folded (texts_total l.texts);
  bound : l.size < 131072;
}
