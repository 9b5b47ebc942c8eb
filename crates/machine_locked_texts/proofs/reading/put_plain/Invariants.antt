use Rattle.std.proofs.Common.{◌≡◌, ◌≤◌, ◌-◌, ◌*◌, ℕ, List, Result, drop}
use Rattle.ztext.specs.Reading.{Cause}
use Rattle.ztext.specs.TextParts.{words_of}
use Rattle.machine_standard_texts.specs.Put.{Extends, PrintsOn}
use Rattle.machine_locked_texts.specs.Letters.{IsRight, expected_of, read_with}
use Rattle.machine_locked_texts.proofs.LockedReading.{read_from}
use Rattle.machine_locked_texts.proofs.reading.put_plain.Given as goal

abbrev pub invariant-places : goal.invariant-places
invariant-places l = record {
  small : IsRight l.reading;
  extends : Extends l.start l.fn.text.items l.text.items;
  begun : l.from ≤ l.place;
  so_far : (got : List ℕ)
      × PrintsOn l.characters l.fn.halted l.halted (drop l.start l.fn.text.items) (drop l.start l.text.items) got
      × ((expand : ℕ → Result (List ℕ) Cause)
      → read_from l.version expand l.bytes l.words got l.reading.lock (expected_of l.reading.expected) l.place
      ≡ read_with l.version expand l.lock (drop l.from (words_of l.words l.bytes)));
}

abbrev pub decreases-places : goal.decreases-places
decreases-places l = 3 * l.words - l.place
