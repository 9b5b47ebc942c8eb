use Rattle.std.proofs.Common.{ℕ, List, Result}
use Rattle.ztext.specs.Reading.{Cause}
use Rattle.machine_locked_texts.proofs.letters.piece_of.Goals as goal

pub returns-in-Letter : goal.returns-in-Letter
returns-in-Letter c = λ (expand : ℕ → Result (List ℕ) Cause). rw c.in-Letter.is (c.letter_piece.ensures expand)
