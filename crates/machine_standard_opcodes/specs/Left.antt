-- Frames that are left.
use Rattle.std.specs.Prelude.{◌≡◌, ◌&&◌, ◌+◌, ℕ, Bool, nat_le, nat_lt, List, [], ◌∷◌, length, drop, Option, None}
use Rattle.journal.specs.Recording.{Recording}
use Rattle.zcore.specs.Layout.{header_size}
use Rattle.zcore.specs.State.{State, Out}
use Rattle.zcore.specs.Parts.{test, returning, can_store, is_writable}
use Rattle.zcore.specs.Turn.{first_environment}
use Rattle.zcore.specs.declared.place.Fault.TheVariants as faults
use Rattle.zcore_standard.specs.Flow.{frames_at}
use Rattle.machine_frames.specs.Contents.{Contents}
use Rattle.machine_frames.specs.States.{state_of}
use Rattle.machine_frames.specs.Went.{GoesOn}

-- the tests of `throw`: a frame has a number, and can return
abbrev pub has_frame : ℕ → State → Out (Unit {0})
has_frame number s = test (nat_le 1 number && nat_lt number (length s.frames)) faults.Return s

abbrev pub returns_from : ℕ → State → Out (ℕ × Option ℕ)
returns_from number s = returning s (frames_at number s.frames)

-- the caller of the frame of a number can store a result
abbrev pub caller_stores : ℕ → Option ℕ → State → Out (Unit {0})
caller_stores number result s = can_store result (drop 1 (frames_at number s.frames)) s

-- the test of `get_cursor`
abbrev pub are_writable : ℕ → State → Out (Unit {0})
are_writable at s = test (is_writable s.memory at && is_writable s.memory (at + 3)) faults.Write s

-- two words at an address lie after the header and before static base
abbrev pub words_before : ℕ → ℕ → Bool
words_before base at = (nat_le header_size at && nat_lt at base) && (nat_le header_size (at + 3) && nat_lt (at + 3) base)

-- the first environment runs alone, and no line is waited for
pub record Empties (old new : Recording Contents) : Type 0 where
  pub goes_on : GoesOn old new
  pub state : (text : List ℕ) → state_of new.store text
      ≡ record (state_of old.store text) { frames = first_environment ∷ []; pending = None }
