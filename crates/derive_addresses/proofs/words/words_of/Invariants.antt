use Rattle.std.proofs.Common.{◌≡◌, drop}
use Rattle.derive_tokens.specs.Pieces.{derived_all}
use Rattle.derive_tokens.specs.Held.{names_of}
use Rattle.derive_addresses.specs.Words.{words_from, words_of}
use Rattle.derive_addresses.proofs.words.words_of.Given as goal

abbrev pub invariant-loop-piece : goal.invariant-loop-piece
invariant-loop-piece l = words_from (names_of l.words) (derived_all (drop l.piece-index l.pieces))
    ≡ words_of (derived_all l.pieces)
