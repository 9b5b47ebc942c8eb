-- The laws that functions of `laws` carry as their contracts.
use Rattle.std.specs.Prelude.{◌≡◌, ◌+◌, ◌*◌, ◌<◌, ◌↔◌, ℕ, List, length, slice_index}
use Rattle.std.specs.List.Sorted.{IsStrictlyIncreasing}
use Rattle.zcore.specs.Cutting.{Word, IsCut, words_of}
use Rattle.tables.specs.KeyNumbers.{key_number}
use Rattle.tables.specs.Found.{PropertiesAre}

-- a line is cut into these words and no others
abbrev pub LinesAreCutOneWay : Type 0
LinesAreCutOneWay =
    (separators line : List ℕ) (words : List Word)
    → IsCut separators 0 line words ↔ (words ≡ words_of separators line)

-- in a dictionary of ascending keys each has the number of its rank
abbrev pub NumbersAreByRank : Type 0
NumbersAreByRank =
    (dictionary : ℕ) (keys : List ℕ) (rank : ℕ) → IsStrictlyIncreasing keys → rank < length keys
    → key_number dictionary keys (slice_index keys rank) ≡ dictionary + 7 + 9 * rank

-- the readers of properties answer what stands in the list, and refuse by their causes alone
abbrev pub PropertiesAreRead : Type 0
PropertiesAreRead = (story : List ℕ) (table object number : ℕ) → PropertiesAre story table object number
