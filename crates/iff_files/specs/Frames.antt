-- Frames as bytes (Quetzal 1.4, section 4). Words are two bytes, the high one first.
use Rattle.std.specs.Prelude.{◌==◌, ◌≤◌, ◌<◌, ◌&&◌, ◌+◌, ◌-◌, ◌*◌, ◌/◌, ◌%◌, ℕ, zero, suc, nat_eq, nat_le, nat_lt}
use Rattle.std.specs.Prelude.{Bool, if◌then◌else◌, List, [], ◌∷◌, ◌++◌, length, drop, slice_index, Option, Some, None}
use Rattle.std.specs.List.{starts_with}
use Rattle.std.specs.Option.{option_and_then, option_map}
use Rattle.zcore.specs.State.{Frame}
use Rattle.iff_files.specs.declared.frames.FrameHead.{FrameHead}

pub record Stacks : Type 0 where
  -- of the main code
  pub stack : List ℕ
  -- the oldest first
  pub calls : List Frame

-- how many frames a file has at most, that of the main code included
abbrev pub most_frames : ℕ
most_frames = 1001

-- how many words locals and stacks have at most
abbrev pub most_words : ℕ
most_words = 65536

abbrev pub most_locals : ℕ
most_locals = 15

-- how many arguments a call gives at most
abbrev pub most_arguments : ℕ
most_arguments = 7

-- Written

abbrev pub words : List ℕ → List ℕ
words [] = []
words (w ∷ ws) = w / 256 ∷ w % 256 ∷ words ws

-- a bit for each argument
abbrev pub masks : List ℕ
masks = 0 ∷ 1 ∷ 3 ∷ 7 ∷ 15 ∷ 31 ∷ 63 ∷ 127 ∷ []

-- the number of locals, and 16 more if the result is thrown away
abbrev pub flags_of : Option ℕ → ℕ → ℕ
flags_of None locals = 16 + locals
flags_of (Some variable) locals = locals

abbrev pub variable_of : Option ℕ → ℕ
variable_of None = 0
variable_of (Some variable) = variable

abbrev pub head_bytes : FrameHead → List ℕ
head_bytes head =
    head.return_address / 256 / 256 ∷ head.return_address / 256 % 256 ∷ head.return_address % 256
    ∷ flags_of head.variable head.locals ∷ variable_of head.variable ∷ slice_index masks head.arguments
    ∷ head.words / 256 ∷ head.words % 256 ∷ []

abbrev pub head_for : Frame → FrameHead
head_for f = record {
  return_address = f.return_address;
  locals = length f.locals;
  variable = f.result;
  arguments = f.arguments;
  words = length f.stack;
}

unfoldable pub frame_bytes : Frame → List ℕ
frame_bytes f = head_bytes (head_for f) ++ (words f.locals ++ words f.stack)

abbrev pub frames_bytes : List Frame → List ℕ
frames_bytes [] = []
frames_bytes (f ∷ fs) = frame_bytes f ++ frames_bytes fs

-- the main code has a stack and nothing else: its first six bytes are 0
abbrev pub main_frame : List ℕ → Frame
main_frame stack = record { locals = []; stack = stack; arguments = 0; return_address = 0; result = Some 0 }

abbrev pub stacks_bytes : Stacks → List ℕ
stacks_bytes s = frames_bytes (main_frame s.stack ∷ s.calls)

-- Read

abbrev pub place_in : List ℕ → ℕ → ℕ
place_in [] x = 0
place_in (y ∷ ys) x = if y == x then 0 else place_in ys x + 1

abbrev pub words_from : ℕ → List ℕ → List ℕ
words_from zero bytes = []
words_from (suc count) bytes = (slice_index bytes 0 * 256 + slice_index bytes 1) ∷ words_from count (drop 2 bytes)

-- what the first eight bytes of a frame say
abbrev pub head_of : List ℕ → FrameHead
head_of bytes = record {
  return_address = (slice_index bytes 0 * 256 + slice_index bytes 1) * 256 + slice_index bytes 2;
  locals = slice_index bytes 3 % 16;
  variable = if nat_lt (slice_index bytes 3) 16 then Some (slice_index bytes 4) else None;
  arguments = place_in masks (slice_index bytes 5);
  words = slice_index bytes 6 * 256 + slice_index bytes 7;
}

-- the words of a frame, and its bytes
abbrev pub words_of : FrameHead → ℕ
words_of head = head.locals + head.words

abbrev pub size_of : FrameHead → ℕ
size_of head = 8 + words_of head * 2

-- a whole frame, of a story of this size, that has no more words than `most`
unfoldable pub is_frame : ℕ → ℕ → List ℕ → Bool
is_frame size most bytes =
    nat_le 8 (length bytes) && nat_lt (slice_index bytes 3) 32 && nat_lt (place_in masks (slice_index bytes 5)) 8
    && nat_lt (head_of bytes).return_address size && nat_le (words_of (head_of bytes)) most
    && nat_le (size_of (head_of bytes)) (length bytes)

unfoldable pub frame_in : List ℕ → Frame
frame_in bytes = record {
  locals = words_from (head_of bytes).locals (drop 8 bytes);
  stack = words_from (head_of bytes).words (drop (8 + (head_of bytes).locals * 2) bytes);
  arguments = (head_of bytes).arguments;
  return_address = (head_of bytes).return_address;
  result = (head_of bytes).variable;
}

-- the frames of bytes, with limits on their number and on their words in all
unfoldable pub frames_in : ℕ → ℕ → ℕ → List ℕ → Option (List Frame)
frames_in size frames most [] = Some []
frames_in size zero most (b ∷ bytes) = None
frames_in size (suc frames) most (b ∷ bytes) =
    if is_frame size most (b ∷ bytes)
    then option_map (λ fs. frame_in (b ∷ bytes) ∷ fs) (frames_in size frames (most - words_of (head_of (b ∷ bytes)))
    (drop (size_of (head_of (b ∷ bytes))) (b ∷ bytes)))
    else None

abbrev pub main_and_calls : List Frame → Option Stacks
main_and_calls [] = None
main_and_calls (main ∷ calls) = Some (record { stack = main.stack; calls = calls })

abbrev pub stacks_in : ℕ → List ℕ → Option Stacks
stacks_in size bytes =
    if starts_with nat_eq bytes (0 ∷ 0 ∷ 0 ∷ 0 ∷ 0 ∷ 0 ∷ [])
    then option_and_then main_and_calls (frames_in size most_frames most_words bytes)
    else None

-- the words of frames
abbrev pub words_in : List Frame → ℕ
words_in [] = 0
words_in (f ∷ fs) = length f.locals + length f.stack + words_in fs

-- A frame of a story of this size, whose bytes are its own.
pub record CanBeWritten (size : ℕ) (f : Frame) : Type 0 where
  pub locals : length f.locals ≤ most_locals
  pub arguments : f.arguments ≤ most_arguments
  pub return_address : f.return_address < size
