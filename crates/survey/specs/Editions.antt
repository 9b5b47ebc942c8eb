-- What the header of a story of any version says of its edition (Z-Machine Standards Document 1.1, section 11.1).
use Rattle.std.specs.Prelude.{◌≡◌, ◌≤◌, ℕ, List, take, drop, slice_index}
use Rattle.ztext.specs.Bytes.{word_at}
use Rattle.zcore.specs.Header.{HasHeader}
use Rattle.survey.specs.declared.edition.Edition.{Edition}

-- a file with the header of a story, of one of the eight versions
pub record HasEdition (file : List ℕ) : Type 0 where
  pub header : HasHeader file
  pub first : 1 ≤ slice_index file 0
  pub last : slice_index file 0 ≤ 8

pub record IsEditionOf (file : List ℕ) (edition : Edition) : Type 0 where
  pub version : edition.version ≡ slice_index file 0
  pub release : edition.release ≡ word_at file 0x02
  pub serial : edition.serial ≡ take 6 (drop 0x12 file)
  pub sum : edition.sum ≡ word_at file 0x1C
