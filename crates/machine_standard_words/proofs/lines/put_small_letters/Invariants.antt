use Rattle.zcore_standard.specs.Input.{small}
use Rattle.zcore_standard.specs.Streams.{zscii_of}
use Rattle.machine_standard_words.proofs.Putting.{IsPut}
use Rattle.machine_standard_words.proofs.lines.put_small_letters.Given as goal

abbrev pub invariant-loop-character : goal.invariant-loop-character
invariant-loop-character l =
    IsPut (λ c. small l.extra (zscii_of l.extra c)) l.fn.letters l.letters l.yielded l.left l.most l.end
