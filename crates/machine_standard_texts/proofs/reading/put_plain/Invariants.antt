use Rattle.std.proofs.Common.{◌≡◌, ◌≤◌, ◌-◌, ◌*◌, ℕ, List, Result, drop}
use Rattle.ztext.specs.Reading.{Cause, Lower}
use Rattle.ztext.specs.TextParts.{words_of}
use Rattle.zcore_standard.specs.Texts.{read_codes}
use Rattle.machine_standard_texts.specs.Pieces.{state_of, IsSmall}
use Rattle.machine_standard_texts.specs.Put.{Extends, PrintsOn}
use Rattle.machine_standard_texts.proofs.Read.{read_from}
use Rattle.machine_standard_texts.proofs.reading.put_plain.Given as goal

abbrev pub invariant-places : goal.invariant-places
invariant-places l = record {
  small : IsSmall l.state;
  extends : Extends l.start l.fn.text.items l.text.items;
  begun : l.from ≤ l.place;
  so_far : (got : List ℕ)
      × PrintsOn l.characters l.fn.halted l.halted (drop l.start l.fn.text.items) (drop l.start l.text.items) got
      × ((expand : ℕ → Result (List ℕ) Cause)
      → read_from l.alphabets expand l.bytes l.words got (state_of l.state) l.place
      ≡ read_codes l.alphabets expand Lower (drop l.from (words_of l.words l.bytes)));
}

abbrev pub decreases-places : goal.decreases-places
decreases-places l = 3 * l.words - l.place
