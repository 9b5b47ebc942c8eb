-- The version that is read of a story (Z-Machine Standards Document 1.1, sections 1.2.3 and 11.1).
use Rattle.std.specs.Prelude.{◌==◌, ◌*◌, ℕ, if◌then◌else◌, List, slice_index}
use Rattle.ztext.specs.Bytes.{word_at}
use Rattle.zcore_versions.specs.declared.version.StoryVersion.{StoryVersion}

-- what packed addresses count from: in version 7 a word of the header says it, in eights of bytes (1.2.3)
abbrev pub offset_in : List ℕ → ℕ → ℕ
offset_in story word = if slice_index story 0 == 7 then 8 * word_at story word else 0

-- the version of a story
abbrev pub version_in : List ℕ → StoryVersion
version_in story = record {
  number = slice_index story 0;
  routine_offset = offset_in story 0x28;
  text_offset = offset_in story 0x2A;
}
