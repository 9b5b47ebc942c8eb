-- The versions of story files (Z-Machine Standards Document 1.1, sections 1.2.3, 3.2, 5.2 and 12.3).
use Rattle.std.specs.Prelude.{◌==◌, ◌||◌, ◌+◌, ◌*◌, ℕ, nat_le, Bool, if◌then◌else◌}
use Rattle.zcore_standard.specs.Loaded.{Loaded}
use Rattle.zcore_versions.specs.declared.version.StoryVersion.{StoryVersion}

-- what loading fixes for all turns of a story of any version
pub record Story : Type 0 where
  pub loaded : Loaded
  pub version : StoryVersion

abbrev pub versioned : Loaded → StoryVersion → Story
versioned loaded version = record { loaded = loaded; version = version }

-- versions 1 and 2: a text can lock an alphabet (3.2.2)
abbrev pub locks_alphabets : StoryVersion → Bool
locks_alphabets version = nat_le version.number 2

-- versions 1 to 3: an object has a small entry (12.3.1), and a word of the dictionary a key of four bytes (13.3)
abbrev pub is_small : StoryVersion → Bool
is_small version = nat_le version.number 3

-- versions 1 to 4: a routine gives initial values to its locals (5.2.1), and a line is read without a result
abbrev pub is_old : StoryVersion → Bool
is_old version = nat_le version.number 4

-- versions 5 and 8, which the Standard's machine plays
abbrev pub is_late : StoryVersion → Bool
is_late version = (version.number == 5) || (version.number == 8)

-- by how many bytes packed addresses count (1.2.3)
abbrev pub scale_of : StoryVersion → ℕ
scale_of version = if is_small version then 2 else (if version.number == 8 then 8 else 4)

-- the addresses for which packed addresses of a routine and of a text stand
abbrev pub routine_at : StoryVersion → ℕ → ℕ
routine_at version packed = scale_of version * packed + version.routine_offset

abbrev pub text_at : StoryVersion → ℕ → ℕ
text_at version packed = scale_of version * packed + version.text_offset
