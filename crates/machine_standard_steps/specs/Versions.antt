-- The versions that are played.
use Rattle.std.specs.Prelude.{◌≡◌, ◌≤◌, true}
use Rattle.zcore.specs.Layout.{longest_story}
use Rattle.zcore_standard_loading.specs.Loading.{is_played}
use Rattle.zcore_versions.specs.declared.version.StoryVersion.{StoryVersion}

-- A version that is played. Packed addresses count from places that a word of the header can name.
pub record IsPlayedVersion (version : StoryVersion) : Type 0 where
  pub played : is_played version.number ≡ true
  pub routines : version.routine_offset ≤ longest_story
  pub texts : version.text_offset ≤ longest_story
