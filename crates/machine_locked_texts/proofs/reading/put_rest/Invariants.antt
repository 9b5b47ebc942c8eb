use Rattle.std.proofs.Common.{◌≡◌, ◌*◌, ℕ, List, Some, drop}
use Rattle.ztext.specs.TextParts.{words_of}
use Rattle.zcore_versions.specs.LockedTexts.{locked_abbreviation}
use Rattle.machine_standard_texts.specs.Pieces.{joined}
use Rattle.machine_standard_texts.specs.Put.{Extends, PrintsOn}
use Rattle.machine_locked_texts.specs.Letters.{rest_of}
use Rattle.machine_locked_texts.proofs.LockedReading.{IsNumbered, left_places}
use Rattle.machine_locked_texts.proofs.reading.put_rest.Given as goal

abbrev pub invariant-loop-named : goal.invariant-loop-named
invariant-loop-named l = record {
  number : IsNumbered l.named;
  extends : Extends l.start l.fn.text.items l.text.items;
  so_far : (got : List ℕ)
      × PrintsOn l.characters l.fn.halted l.halted (drop l.start l.fn.text.items) (drop l.start l.text.items) got
      × (joined got (rest_of l.version (locked_abbreviation l.version l.story) (words_of l.words l.bytes) l.named)
      ≡ rest_of l.version (locked_abbreviation l.version l.story) (words_of l.words l.bytes) (Some l.fn.first));
}

abbrev pub decreases-loop-named : goal.decreases-loop-named
decreases-loop-named l = left_places (3 * l.words) l.named
