-- Frames that are put back, the oldest first.
use Rattle.std.specs.Prelude.{◌≡◌, ℕ, Bool, if◌then◌else◌, List, [], ◌∷◌, ◌++◌, reverse, take, drop, Option, Some, None}
use Rattle.zcore.specs.State.{Frame, State, Out, done}
use Rattle.iff_files.specs.Frames.{Stacks, frames_in, stacks_in}
use Rattle.zcore_standard.specs.SavedStates.{frames_of}
use Rattle.iff_files.specs.declared.frames.FrameHead.{FrameHead}

-- a frame runs, called by the one that ran
unfoldable pub add_frame : Frame → State → Out (Unit {0})
add_frame f s = done tt (record s { frames = f ∷ s.frames })

-- frames run, each called by the one before it
unfoldable pub add_frames : List Frame → State → Out (Unit {0})
add_frames calls s = done tt (record s { frames = reverse calls ++ s.frames })

-- a frame of these words, the locals first
abbrev pub frame_with : FrameHead → List ℕ → Frame
frame_with head values = record {
  locals = take head.locals values;
  stack = drop head.locals values;
  arguments = head.arguments;
  return_address = head.return_address;
  result = head.variable;
}

-- the first environment runs alone, with these words on its stack
unfoldable pub begin_frames : List ℕ → State → Out (Unit {0})
begin_frames values s = done tt (record s {
  frames = (record { locals = []; stack = values; arguments = 0; return_address = 0; result = None }) ∷ [];
})

-- a frame of these words is put back: that of the main code alone, or a call
abbrev pub put_back_one : Bool → FrameHead → List ℕ → State → Out (Unit {0})
put_back_one is_main head values = if is_main then begin_frames values else add_frame (frame_with head values)

-- the frames of a file, in place of those that are there
unfoldable pub with_frames : Stacks → State → Out (Unit {0})
with_frames stacks s = done tt (record s { frames = frames_of stacks })

-- how many calls a file has at most
abbrev pub most_calls : ℕ
most_calls = 1000

-- bytes are whole frames of calls, with no more words than `most`
abbrev pub AreCalls : ℕ → ℕ → List ℕ → List Frame → Type 0
AreCalls size most bytes calls = frames_in size most_calls most bytes ≡ Some calls

-- bytes are the stacks of a story of this size
abbrev pub AreStacks : ℕ → List ℕ → Stacks → Type 0
AreStacks size bytes stacks = stacks_in size bytes ≡ Some stacks
