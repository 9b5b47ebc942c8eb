-- What `/status` asks for, by the whole Standard: the status line of the present turn. In the profile `/status` is a line
-- for the story.
use Rattle.std.specs.Prelude.{◌==◌, ℕ, Bool, false, if◌then◌else◌, List, [], ◌∷◌, Option, None, Some, length, bytes_eq, codes}
use Rattle.std.specs.Prelude.{drop, slice_index_or}
use Rattle.zcore.specs.declared.place.Place.{Place}
use Rattle.zcore.specs.Turn.{StateOfPlay, Whole, resumed, is_waiting}
use Rattle.zcore_versions.specs.StatusLine.{status_line}
use Rattle.machine_picture.specs.Picture.{joined}
use Rattle.zcore_versions.specs.Versions.{Story}
use Rattle.session_lines.specs.Transcript.{note}
use Rattle.session.specs.Showing.{nothing_shown}
use Rattle.session.specs.Shown.{Shown}

-- whether a line asks for it, where loading fixed this
abbrev pub asks_with : Option Story → List ℕ → Bool
asks_with None line = false
asks_with (Some story) line = bytes_eq line (codes "/status")

-- the status line of a state of play; none in the profile
abbrev pub line_with : Option Story → StateOfPlay → List ℕ
line_with None play = []
line_with (Some story) play = status_line story (resumed play)

-- the status text of the last of some whole states: the line, and what was drawn on the way to it
abbrev pub last_status : Option Story → List Whole → List Shown → List ℕ
last_status loaded [] shown = []
last_status loaded (w ∷ []) shown = joined (line_with loaded w.state) (slice_index_or shown 0 nothing_shown).drawing
last_status loaded (w ∷ v ∷ ws) shown = last_status loaded (v ∷ ws) (drop 1 shown)

-- the reply where the story waits, and elsewhere
abbrev pub told_waiting : List ℕ → List ℕ
told_waiting line = if length line == 0 then note (codes "[No status line.]") else note line

abbrev pub told_at : Place → List ℕ → List ℕ
told_at place line = if is_waiting place then told_waiting line else note (codes "[The story is over.]")
