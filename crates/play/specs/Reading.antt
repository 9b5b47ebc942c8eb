-- How much of a file is read, and what is played of it.
use Rattle.std.specs.Prelude.{◌≡◌, ◌+◌, ℕ, List, take, Result, Ok, Err}
use Rattle.std.specs.Global.{Vec}
use Rattle.iff_files.specs.declared.blorb_fault.BlorbFault.{BlorbFault}
use Rattle.zcore.specs.Layout.{longest_story}
use Rattle.play.specs.Filling.{block, without_filling}

-- so many bytes, of which no file is a story with filling behind it
abbrev pub most_read : ℕ
most_read = longest_story + block

-- What `--standard` plays, by what was unpacked of a file, the story of a Blorb file or else the file itself: as many
-- bytes as are read, without the filling; or why a Blorb file has no story.
abbrev pub IsPlayed : Result (List ℕ) BlorbFault → Result (Vec ℕ) BlorbFault → Type 0
IsPlayed (Ok bytes) (Ok story) = story.items ≡ without_filling (take most_read bytes)
IsPlayed (Err cause) (Err fault) = fault ≡ cause
IsPlayed _ _ = ⊥
