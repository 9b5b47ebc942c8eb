-- The styles that the struct stands for, and what is known of the upper window before a step.
use Rattle.std.specs.Prelude.{◌≡◌, ◌==◌, ◌&&◌, ◌≤◌, ◌+◌, ℕ, Bool, List, ◌++◌, length, take, drop, replicate, Option, Some, None, IfSome}
use Rattle.zcore_standard.specs.declared.windows.Upper.{Upper}
use Rattle.zcore_standard.specs.Windows.{row_of}
use Rattle.machine_picture.specs.Styles as definitions
use Rattle.machine_picture.specs.declared.lines.Drawn.{Drawn}
use Rattle.machine_picture.specs.declared.lines.Line.{Line}
use Rattle.machine_picture.specs.declared.lines.Shown.{Shown}
use Rattle.machine_picture.specs.declared.styles.Styles.{Styles}

abbrev pub styles_of : Styles → definitions.Styles
styles_of styles = record { style = styles.style; each = styles.each.items; part = styles.part }

-- where the cursor of an upper window is in a text
pub record IsLine (upper : Upper) (text : List ℕ) (line : Line) : Type 0 where
  pub row : line.row ≡ row_of upper text
  pub bare : line.bare ≡ definitions.bare upper text

-- whether a cursor that was in a line of a text and has gone on to a row is in the same line still, where so many
-- newlines were put after it
abbrev pub is_same : Line → ℕ → ℕ → Bool
is_same line row new_lines = (line.row == row) && (new_lines == 0)

-- what comes before a place, so many newlines, and so much of what comes after it
abbrev pub shown : ℕ → ℕ → ℕ → List ℕ → List ℕ
shown from new_lines bare each = take from each ++ (replicate new_lines 0 ++ take bare (drop from each))

-- what is left of styles where a read has shown the upper window
abbrev pub left_in : Option Drawn → List ℕ → List ℕ
left_in None each = each
left_in (Some drawn) each = shown drawn.from drawn.new_lines drawn.bare each

abbrev pub left_of : Shown → List ℕ → List ℕ
left_of shown each = left_in shown.window (take shown.kept each)

-- what is shown of a window lies in what is kept of the text
pub record IsWithin (kept : ℕ) (drawn : Drawn) : Type 0 where
  pub inside : drawn.from + drawn.bare ≤ kept
  pub few : drawn.new_lines ≤ 1

-- what a read shows of a window in a text
pub record IsShown (upper : Option Upper) (window : ℕ) (text : List ℕ) (shown : Shown) : Type 0 where
  pub kept : shown.kept ≤ length text
  pub within : IfSome shown.window (IsWithin shown.kept)
  pub left : (each : List ℕ) → length text ≤ length each
      → left_of shown each ≡ definitions.shown_by upper window text (take (length text) each)
  pub part : shown.part ≡ definitions.part_shown upper window text
