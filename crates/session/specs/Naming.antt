-- For what a story asks the name of a saved game.
use Rattle.std.specs.Prelude.{List, [], ◌∷◌, Option, Some, None}
use Rattle.zcore.specs.Turn.{StateOfPlay, Whole}
use Rattle.zcore_standard.specs.Saving.{asked_by}
use Rattle.zcore_standard.specs.declared.save_form.Purpose.{Purpose}
use Rattle.zcore_versions.specs.Versions.{Story}

-- that of a state of play: in the profile none
abbrev pub asked_with : Option Story → StateOfPlay → Option Purpose
asked_with None play = None
asked_with (Some story) play = asked_by play.pending

-- that of the last of some whole states
abbrev pub last_asked : Option Story → List Whole → Option Purpose
last_asked loaded [] = None
last_asked loaded (w ∷ []) = asked_with loaded w.state
last_asked loaded (w ∷ v ∷ ws) = last_asked loaded (v ∷ ws)
