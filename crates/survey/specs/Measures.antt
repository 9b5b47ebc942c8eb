-- What a header states of the length and the sum of its story, and what is so (Z-Machine Standards Document 1.1,
-- sections 11.1, 11.1.6 and 15, `verify`).
use Rattle.std.specs.Prelude.{◌≡◌, ◌==◌, ◌&&◌, ◌||◌, ◌*◌, ◌%◌, ℕ, Bool, not, if◌then◌else◌, List, length, drop, sum}
use Rattle.std.specs.List.{list_all}
use Rattle.ztext.specs.Bytes.{word_at}
use Rattle.zcore.specs.Layout.{header_size}
use Rattle.zcore_standard.specs.Extension.{number_of}
use Rattle.zcore_standard_loading.specs.Loading.{length_unit, story_in}
use Rattle.survey.specs.declared.measures.Measures.{Measures}

abbrev pub is_zero : ℕ → Bool
is_zero byte = byte == 0

-- how many bytes a file has but for zero bytes after its story, with which compilers and disks fill it
abbrev pub length_of : List ℕ → ℕ
length_of file =
    if list_all is_zero (drop (length (story_in file)) file) then length (story_in file) else length file

pub record AreMeasuresOf (file : List ℕ) (measures : Measures) : Type 0 where
  pub stated_length : measures.stated_length ≡ word_at file 0x1A * length_unit (number_of file)
  pub length : measures.length ≡ length_of file
  pub stated_sum : measures.stated_sum ≡ word_at file 0x1C
  pub sum : measures.sum ≡ sum (drop header_size (story_in file)) % 65536

-- a length of 0 is not stated
abbrev pub has_other_length : Measures → Bool
has_other_length measures = not (measures.stated_length == 0) && not (measures.length == measures.stated_length)

-- Stories of versions 1 and 2, and some of version 3, state neither.
abbrev pub states_nothing : Measures → Bool
states_nothing measures = (measures.stated_length == 0) && (measures.stated_sum == 0)

-- what the header states is not so
abbrev pub is_damaged : Measures → Bool
is_damaged measures =
    not (states_nothing measures) && (not (measures.sum == measures.stated_sum) || has_other_length measures)
