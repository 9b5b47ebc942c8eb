use Rattle.std.proofs.Common.{◌≡◌}
use Rattle.ztext.specs.Words.{unpacked_text}
use Rattle.ztext.proofs.Packing.{unpacked_from}
use Rattle.machine_standard_texts.proofs.words.word_count.Given as goal

abbrev pub invariant-loop-count : goal.invariant-loop-count
invariant-loop-count l = unpacked_from l.at l.bytes l.count ≡ unpacked_text l.at l.bytes
