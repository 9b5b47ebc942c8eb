use Rattle.std.proofs.Common.{◌≡◌, ◌<◌, ◌≤◌, ◌-◌, ◌*◌, ◌/◌, ◌%◌, ℕ, List, Result, length, take, drop}
use Rattle.ztext.specs.Reading.{Cause}
use Rattle.ztext.specs.TextParts.{words_of, state_of, three_at, three_in, HasRow}
use Rattle.ztext.specs.Expansions.{read_on}
use Rattle.ztext.proofs.Fronts.{front}
use Rattle.ztext.proofs.Loops.{read_from}
use Rattle.ztext.proofs.reading.put_plain.Given as goal

abbrev pub invariant-places : goal.invariant-places
invariant-places l = record {
  row : HasRow l.state;
  room : length l.text.items ≤ l.most;
  begun : l.from ≤ l.place;
  stays : take (length l.fn.text.items) l.text.items ≡ l.fn.text.items;
  column : l.column ≡ l.place % 3;
  word : 0 < l.column → l.place < 3 * l.words → three_in l.word ≡ three_at l.bytes (l.place / 3);
  so_far : (expand : ℕ → Result (List ℕ) Cause)
      → front l.most (read_from expand l.bytes l.words l.text.items (state_of l.state) l.place)
      ≡ read_on expand l.most l.fn.text.items (drop l.from (words_of l.words l.bytes));
}

abbrev pub decreases-places : goal.decreases-places
decreases-places l = 3 * l.words - l.place
