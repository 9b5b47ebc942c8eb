-- The frames of a store as bytes, and the save file of its state.
use Rattle.std.specs.Prelude.{◌≡◌, ◌+◌, ℕ, nat_lt, Bool, true, false, if◌then◌else◌, List, [], ◌++◌}
use Rattle.std.specs.Prelude.{length, reverse, slice_index, Option, Some, None}
use Rattle.std.specs.List.{list_all}
use Rattle.zcore.specs.State.{Frame}
use Rattle.iff_files.specs.Frames.{frame_bytes, head_for, main_frame, stacks_bytes}
use Rattle.iff_files.specs.declared.frames.FrameHead.{FrameHead}
use Rattle.zcore_standard.specs.SavedStates.{can_be_kept, file_of, is_savable, stacks_of}
use Rattle.machine_frames.specs.Contents.{Contents, memory_of}
use Rattle.machine_frames.specs.States.{base_of, frame_count, frame_of, frames_of, height_of, state_of}

-- the height of the stack at which so many frames end
abbrev pub end_of : (ℕ → ℕ) → ℕ → ℕ
end_of f count = if nat_lt count (frame_count f) then base_of f count else height_of f

-- the frame of a record
abbrev pub frame_at : Contents → ℕ → Frame
frame_at s number = frame_of (slice_index s.cells) number (end_of (slice_index s.cells) (number + 1))

-- the frames of the first records, the newest first
abbrev pub first_frames : Contents → ℕ → List Frame
first_frames s count = frames_of (slice_index s.cells) count (end_of (slice_index s.cells) count)

-- What the head of a frame says, if a file can tell all of it.
abbrev pub IsHeadOf : ℕ → Frame → Option FrameHead → Type 0
IsHeadOf size f None = is_savable size f ≡ false
IsHeadOf size f (Some head) = (is_savable size f ≡ true) × (head ≡ head_for f)

-- A frame was appended, as another; or a file cannot tell all of it.
abbrev pub WritesFrame : ℕ → Frame → Frame → List ℕ → List ℕ → Bool → Type 0
WritesFrame size f written before after true =
    (is_savable size f ≡ true) × (after ≡ before ++ frame_bytes written)
WritesFrame size f written before after false = is_savable size f ≡ false

-- The frames of the first records were appended; or a file cannot tell all of one.
abbrev pub WritesFrames : Contents → ℕ → List ℕ → List ℕ → Bool → Type 0
WritesFrames s count before after true =
    (list_all (is_savable (length (memory_of s))) (first_frames s count) ≡ true)
    × (after ≡ before ++ stacks_bytes (stacks_of (reverse (first_frames s count))))
WritesFrames s count before after false = list_all (is_savable (length (memory_of s))) (first_frames s count) ≡ false

-- the frame of the main code, as it is written
abbrev pub WritesMain : Contents → List ℕ → List ℕ → Bool → Type 0
WritesMain s = WritesFrame (length (memory_of s)) (frame_at s 0) (main_frame (frame_at s 0).stack)

-- the frame of a call
abbrev pub WritesCall : Contents → ℕ → List ℕ → List ℕ → Bool → Type 0
WritesCall s number = WritesFrame (length (memory_of s)) (frame_at s number) (frame_at s number)

-- all frames of a store
abbrev pub WritesAll : Contents → List ℕ → List ℕ → Bool → Type 0
WritesAll s = WritesFrames s (frame_count (slice_index s.cells))

-- the save file of a store's state, or none where it cannot be kept
abbrev pub IsFileOf : List ℕ → ℕ → Contents → Option (List ℕ) → Type 0
IsFileOf story at s (Some file) = (can_be_kept (state_of s []) ≡ true) × (file ≡ file_of story at (state_of s []))
IsFileOf story at s None = can_be_kept (state_of s []) ≡ false
