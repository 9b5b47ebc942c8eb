-- What the header of a file says (Z-Machine Standards Document 1.1, section 11.1).
use Rattle.std.specs.Prelude.{◌≡◌, ◌*◌, ◌%◌, ℕ, List, take, drop, sum}
use Rattle.ztext.specs.Bytes.{word_at}
use Rattle.zcore.specs.Layout.{header_size}
use Rattle.zcore.specs.Header.{high_memory_of, first_instruction_of, dictionary_of, defaults_of}
use Rattle.zcore.specs.Header.{globals_of, static_base_of, abbreviations_of}
use Rattle.zcore_standard.specs.Extension.{number_of}
use Rattle.zcore_standard_loading.specs.Loading.{length_unit}
use Rattle.survey.specs.declared.facts.Facts.{Facts}

pub record IsFactsOf (story : List ℕ) (facts : Facts) : Type 0 where
  pub version : facts.version ≡ number_of story
  pub stated_length : facts.stated_length ≡ word_at story 0x1A * length_unit (number_of story)
  pub stated_sum : facts.stated_sum ≡ word_at story 0x1C
  pub sum : facts.sum ≡ sum (drop header_size story) % 65536
  pub release : facts.release ≡ word_at story 0x02
  pub serial : facts.serial ≡ take 6 (drop 0x12 story)
  pub high_memory : facts.high_memory ≡ high_memory_of story
  pub first_instruction : facts.first_instruction ≡ first_instruction_of story
  pub dictionary : facts.dictionary ≡ dictionary_of story
  pub objects : facts.objects ≡ defaults_of story
  pub globals : facts.globals ≡ globals_of story
  pub static_base : facts.static_base ≡ static_base_of story
  pub abbreviations : facts.abbreviations ≡ abbreviations_of story
