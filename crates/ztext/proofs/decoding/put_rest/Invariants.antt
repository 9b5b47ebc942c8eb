use Rattle.std.proofs.Common.{◌≡◌, ◌*◌, ◌≤◌, length, take}
use Rattle.ztext.specs.Text.{abbreviation}
use Rattle.ztext.specs.TextParts.{words_of}
use Rattle.ztext.specs.Expansions.{rest_of, Keeps}
use Rattle.ztext.proofs.Copies.{IsNumbered, left_of, left_places}
use Rattle.ztext.proofs.decoding.put_rest.Given as goal

abbrev pub invariant-loop-named : goal.invariant-loop-named
invariant-loop-named l = record {
  room : length l.text.items ≤ l.most;
  number : IsNumbered l.named;
  stays : take (length l.fn.text.items) l.text.items ≡ l.fn.text.items;
  keeps : Keeps l.story l.most l.text.items l.known;
  so_far : left_of (abbreviation l.story) l.most l.text.items (words_of l.words l.bytes) l.named
      ≡ rest_of (abbreviation l.story) l.most l.fn.text.items (words_of l.words l.bytes) l.fn.first;
}

abbrev pub decreases-loop-named : goal.decreases-loop-named
decreases-loop-named l = left_places (3 * l.words) l.named
