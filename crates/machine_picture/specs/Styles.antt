-- Text styles of what a story prints in a turn (Z-Machine Standards Document 1.1, sections 8.7.1 and 15,
-- `set_text_style`). They are a second reading of the steps of the turn, beside the text that is shown, and change
-- nothing: neither what is printed nor the state.
use Rattle.std.specs.Prelude.{◌≡◌, ◌==◌, ◌&&◌, ◌+◌, ◌-◌, ◌/◌, ◌%◌, ℕ, zero, suc, nat_le, bit_or, Bool, true, false}
use Rattle.std.specs.Prelude.{if◌then◌else◌, List, [], ◌∷◌, ◌++◌, length, take, drop, replicate, slice_index}
use Rattle.std.specs.Prelude.{Option, Some, None, Result, Ok, Err}
use Rattle.std.specs.List.{count_by}
use Rattle.zcore.specs.declared.instruction.Operand.{Operand}
use Rattle.zcore.specs.declared.place.Fault.{Fault}
use Rattle.zcore.specs.declared.place.Place.{Place}
use Rattle.zcore.specs.Parts.{operand_value}
use Rattle.zcore.specs.State.{State}
use Rattle.zcore.specs.Turn.{after_step, is_waiting}
use Rattle.zcore_standard.specs.declared.operations.StandardOperation.{StandardOperation}
use Rattle.zcore_standard.specs.declared.operations.StandardOperation.TheVariants.{Restart, SplitWindow, SetWindow}
use Rattle.zcore_standard.specs.declared.operations.StandardOperation.TheVariants.{EraseWindow, SetCursor, SetTextStyle}
use Rattle.zcore_standard.specs.declared.windows.Upper.{Upper}
use Rattle.zcore_standard.specs.Instruction.{Instruction, decode_row}
use Rattle.zcore_standard.specs.Operations as operations
use Rattle.zcore_standard.specs.Place.{Here}
use Rattle.zcore_standard.specs.Streams.{flags_2_low, heard, heard_of}
use Rattle.zcore_standard.specs.Windows.{is_new_line, row_of, with_new_line, without_spaces}
use Rattle.zcore_versions.specs.Machine.{any_step}
use Rattle.zcore_versions.specs.Versions.{Story}
use Rattle.machine_picture.specs.Picture.{can_wait, looks, operation_at}
use Rattle.machine_picture.specs.declared.lines.Part.{Part}

-- A style is the sum of 1 for reverse, 2 for bold, 4 for italic and 8 for a fixed pitch.
pub record Styles : Type 0 where
  -- the one that the story has chosen
  pub style : ℕ
  -- that of each byte of the turn's text
  pub each : List ℕ
  -- the part of that text in which a read has shown the upper window
  pub part : Part

abbrev pub plain : ℕ
plain = 0

abbrev pub fixed : ℕ
fixed = 8

-- what `set_text_style` makes of a style: 0 ends all styles, and others are added
abbrev pub chosen : ℕ → ℕ → ℕ
chosen value style = if value == 0 then plain else bit_or style (value % 16)

-- a story asks for a fixed pitch by bit 1 of Flags 2, from version 3 on (11.1)
abbrev pub asks_fixed : ℕ → List ℕ → Bool
asks_fixed version memory = nat_le 3 version && (slice_index memory flags_2_low / 2 % 2 == 1)

-- the style of what is printed
abbrev pub printed : ℕ → List ℕ → ℕ → ℕ
printed version memory style = if asks_fixed version memory then bit_or style fixed else style

-- the styles of a text that is so long now: it was cut, or what was added has this style
abbrev pub as_long : ℕ → ℕ → List ℕ → List ℕ
as_long count style each = take count each ++ replicate (count - length each) style

-- A part of a text: from after so many bytes on, up to so many

abbrev pub no_part : Part
no_part = record { from = 0; to = 0 }

-- a text without a part, or the styles of such a text
abbrev pub without_part : Part → List ℕ → List ℕ
without_part part bytes = take part.from bytes ++ drop part.to bytes

-- The upper window

-- how much of a text comes before the spaces at the end of its upper window
abbrev pub bare : Upper → List ℕ → ℕ
bare upper text = upper.from + length (without_spaces (drop upper.from text))

-- A text has become another, and the cursor of its upper window has gone on in the same line: it is in the same row, and
-- no newline was put after what comes before the spaces.
abbrev pub stays_in_line : Upper → List ℕ → Upper → List ℕ → Bool
stays_in_line upper text to new =
    (row_of upper text == row_of to new) && (count_by is_new_line (drop (bare upper text) new) == 0)

-- The styles of what is left of a text where the cursor moves: before it goes to another line, the spaces at the end of
-- its line are cut.
abbrev pub left_by : Option Upper → List ℕ → Option Upper → List ℕ → List ℕ → List ℕ
left_by None text to new each = each
left_by (Some upper) text None new each = each
left_by (Some upper) text (Some to) new each =
    if stays_in_line upper text to new then each else take (bare upper text) each

-- the styles of a text with its upper window, which a read shows in lines of its own, or drops
abbrev pub shown_by : Option Upper → ℕ → List ℕ → List ℕ → List ℕ
shown_by None window text each = each
shown_by (Some upper) window text each =
    if window == 0 then take upper.from each
    else as_long (length (with_new_line (take upper.from text))) plain (take upper.from each)
    ++ take (length (without_spaces (drop upper.from text))) (drop upper.from each)

-- The part in which it is shown: in lines of its own, without the spaces at its end. What comes before it is in lines of
-- its own then, too.
abbrev pub part_of : Upper → List ℕ → Part
part_of upper text =
    let from = length (with_new_line (take upper.from text)) in record {
      from = from;
      to = from + length (with_new_line (without_spaces (drop upper.from text)));
    }

abbrev pub part_shown : Option Upper → ℕ → List ℕ → Part
part_shown None window text = no_part
part_shown (Some upper) window text = if window == 0 then no_part else part_of upper text

-- A step

-- what is added to the text is the player's: padding, newlines and prompts
abbrev pub is_inserting : Option StandardOperation → Bool
is_inserting None = false
is_inserting (Some operation) = looks operation

abbrev pub added : ℕ → Option StandardOperation → List ℕ → ℕ → ℕ
added version operation memory style = if is_inserting operation then plain else printed version memory style

-- the style after an operation, where `set_text_style` is given this value
abbrev pub restyled : Option StandardOperation → ℕ → ℕ → ℕ
restyled (Some SetTextStyle) value style = chosen value style
restyled (Some Restart) value style = plain
restyled _ value style = style

-- the value of the first operand, or 0 where it cannot be read
abbrev pub first_value : State → List Operand → ℕ
first_value s [] = 0
first_value s (operand ∷ operands) = after_step (operand_value operand s) (λ value t. value) (λ place t. 0)

abbrev pub value_in : State → Result (Instruction × ℕ) Fault → ℕ
value_in s (Err cause) = 0
value_in s (Ok x) = first_value s x.0.operands

-- the value that `set_text_style` is given at an address: it has one operand
abbrev pub value_at : State → ℕ → ℕ
value_at s at = value_in s (decode_row s.memory at (operations.row_of SetTextStyle))

-- an operation that can move the cursor of the upper window
abbrev pub moves : StandardOperation → Bool
moves SplitWindow = true
moves SetWindow = true
moves SetCursor = true
moves EraseWindow = true
moves _ = false

-- the styles that an operation leaves of a text, which makes another of it, with this upper window
abbrev pub left : Option StandardOperation → Option Upper → List ℕ → Option Upper → List ℕ → List ℕ → List ℕ
left None upper text to new each = each
left (Some operation) upper text to new each = if moves operation then left_by upper text to new each else each

-- the styles after an operation, where `set_text_style` is given this value
abbrev pub after : ℕ → Option StandardOperation → ℕ → Here → State → Here → List ℕ → Styles → Styles
after version operation value here s next text p = record p {
  style = restyled operation value p.style;
  each = as_long (length text) (added version operation s.memory p.style)
      (left operation here.upper s.text next.upper text p.each);
}

-- where a step leaves the machine waiting: its streams are closed
abbrev pub waiting : Here → List ℕ → List ℕ → List ℕ → List ℕ
waiting here text new each =
    let bare = heard here.streams text in
    as_long (length new) plain
    (shown_by here.upper here.standard_state.window bare (take (length bare) each))

-- whether a step by an operation that has ended a turn here waits
abbrev pub waits : Option StandardOperation → Place → Bool
waits None place = false
waits (Some operation) place = can_wait operation && is_waiting place

-- and where it ends the turn otherwise: what is not heard is cut
abbrev pub stopped : ℕ → Option StandardOperation → Here → State → List ℕ → Styles → List ℕ
stopped version operation here s text p =
    take (length (heard_of here text)) (as_long (length text) (added version operation s.memory p.style) p.each)

abbrev pub at_end : ℕ → Option StandardOperation → Here → State → Place → List ℕ → Styles → Styles
at_end version operation here s place text p =
    if waits operation place then record p {
      each = waiting here s.text text p.each;
      part = part_shown here.upper here.standard_state.window (heard here.streams s.text);
    } else record p { each = stopped version operation here s text p }

-- the styles after a step from a place and a state, which has led to this place and this text
unfoldable pub after_step_to : Story → Here → State → Here → List ℕ → Styles → Styles
after_step_to story here s next text p =
    after story.version.number (operation_at story s.memory here.next.program_counter)
    (value_at s here.next.program_counter) here s next text p

-- and after one that has ended the turn so
unfoldable pub after_last : Story → Here → State → Place → List ℕ → Styles → Styles
after_last story here s place text p =
    at_end story.version.number (operation_at story s.memory here.next.program_counter) here s place text p

-- A turn

-- the styles with which a turn begins, of which the player has printed so many bytes already
abbrev pub begun : ℕ → ℕ → Styles
begun style long = record { style = style; each = replicate long plain; part = no_part }

-- the styles of a turn of at most so many steps
unfoldable pub styles_by : Story → ℕ → Here → State → Styles → Option Styles
styles_by story zero here s p = None
styles_by story (suc count) here s p = after_step (any_step story here s)
    (λ next t. styles_by story count next t (after_step_to story here s next t.text p))
    (λ place t. Some (after_last story here s place t.text p))

-- a turn leads from styles to others
pub record IsStyled (story : Story) (here : Here) (s : State) (first last : Styles) : Type 0 where
  pub count : ℕ
  pub styled : styles_by story count here s first ≡ Some last
