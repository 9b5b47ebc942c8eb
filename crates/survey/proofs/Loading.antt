-- The memory of a file that the whole Standard loads.
use Rattle.std.proofs.Common.{◌≤◌, ℕ, List, length, arith}
use Rattle.std.proofs.lemmas.List.{length-take-le}
use Rattle.std.specs.Prelude.{Ok}
use Rattle.zcore.specs.Layout.{longest_story}
use Rattle.zcore_standard_loading.specs.Capabilities.{plain}
use Rattle.zcore_standard_loading.specs.declared.loading.LoadedStory.{LoadedStory}
use Rattle.zcore_standard_loading.specs.Loading.{ReadsFile, memory_for, story_in, story_length}
use Rattle.zcore_standard_loading.proofs.Headers.{length_stays}

-- it is no longer than a story can be
pub short_memory : (file : List ℕ) (story : LoadedStory) → ReadsFile plain file (Ok story)
    → length (memory_for plain file) ≤ longest_story
short_memory file story r = omega (
  arith,
  length_stays plain (story_in file),
  length-take-le (story_length file) file r.0.story.there,
  r.0.story.most,
)
