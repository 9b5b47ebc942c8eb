-- Computed samples: a small story of version 3, and the file that another player, dfrotz 2.54, wrote of it.
use Rattle.std.proofs.Common.{◌≡◌, ◌+◌, ℕ, true, false, refl, codes}
use Rattle.std.proofs.Common.{List, [], ◌∷◌, ◌++◌, length, take, drop, set, replicate, Some, None, Ok, Err}
use Rattle.iff_files.specs.declared.fault.SaveFault.TheVariants.{Damaged, OtherStory, WrongMemory, WrongStacks}
use Rattle.iff_files.specs.Chunks.{chunk, chunks_after}
use Rattle.iff_files.specs.Differences.{packed, unpacked, with_equal}
use Rattle.iff_files.specs.Frames.{frame_bytes, frame_in, frames_in, is_frame, stacks_bytes}
use Rattle.iff_files.specs.SaveFiles.{Saved, form_start, is_save_of, save_bytes, saved_in}

-- the header, and 480 bytes of globals
abbrev story : List ℕ
story =
    3 ∷ 0 ∷ 0 ∷ 2 ∷ 2 ∷ 48 ∷ 2 ∷ 48 ∷ 2 ∷ 32 ∷ 0 ∷ 64 ∷ 0 ∷ 64 ∷ 2 ∷ 32 ∷ 0 ∷ 0 ∷ 50 ∷ 54 ∷ 49 ∷ 49 ∷ 50 ∷ 57 ∷
    0 ∷ 64 ∷ 1 ∷ 50 ∷ 12 ∷ 17 ∷ 0 ∷ 0 ∷ 0 ∷ 0 ∷ 0 ∷ 0 ∷ 0 ∷ 0 ∷ 0 ∷ 0 ∷ 0 ∷ 0 ∷ 0 ∷ 0 ∷ 0 ∷ 0 ∷ 0 ∷ 0 ∷ 0 ∷ 0 ∷
    0 ∷ 0 ∷ 0 ∷ 0 ∷ 0 ∷ 0 ∷ 0 ∷ 0 ∷ 0 ∷ 0 ∷ 0 ∷ 0 ∷ 0 ∷ 0 ∷ replicate 480 0

-- the state within a call: `save` was the third instruction from the end
abbrev state : Saved
state = record {
  program_counter = 609;
  memory = set (set (set (set (set (set (set story 1 32) 50 1) 51 1) 65 1) 322 18) 323 52) 543 99;
  stacks = record {
    stack = 7 ∷ 300 ∷ [];
    calls = record {
      locals = 9 ∷ 8 ∷ 42 ∷ [];
      stack = 5 ∷ [];
      arguments = 2;
      return_address = 574;
      result = Some 17;
    } ∷ [];
  };
}

abbrev file : List ℕ
file =
    70 ∷ 79 ∷ 82 ∷ 77 ∷ 0 ∷ 0 ∷ 0 ∷ 88 ∷ 73 ∷ 70 ∷ 90 ∷ 83 ∷ 73 ∷ 70 ∷ 104 ∷ 100 ∷ 0 ∷ 0 ∷ 0 ∷ 13 ∷ 0 ∷ 2 ∷ 50 ∷
    54 ∷ 49 ∷ 49 ∷ 50 ∷ 57 ∷ 12 ∷ 17 ∷ 0 ∷ 2 ∷ 97 ∷ 0 ∷ 67 ∷ 77 ∷ 101 ∷ 109 ∷ 0 ∷ 0 ∷ 0 ∷ 17 ∷ 0 ∷ 0 ∷ 32 ∷ 0 ∷
    47 ∷ 1 ∷ 1 ∷ 0 ∷ 12 ∷ 1 ∷ 0 ∷ 255 ∷ 18 ∷ 52 ∷ 0 ∷ 218 ∷ 99 ∷ 0 ∷ 83 ∷ 116 ∷ 107 ∷ 115 ∷ 0 ∷ 0 ∷ 0 ∷ 28 ∷ 0 ∷
    0 ∷ 0 ∷ 0 ∷ 0 ∷ 0 ∷ 0 ∷ 2 ∷ 0 ∷ 7 ∷ 1 ∷ 44 ∷ 0 ∷ 2 ∷ 62 ∷ 3 ∷ 17 ∷ 3 ∷ 0 ∷ 1 ∷ 0 ∷ 9 ∷ 0 ∷ 8 ∷ 0 ∷ 42 ∷ 0 ∷
    5 ∷ []

written : save_bytes story state ≡ file
unfolding save_bytes chunk packed with_equal frame_bytes
written = refl

read : saved_in story 612 file ≡ Ok state
unfolding saved_in chunks_after unpacked frame_in frames_in is_frame
read = refl

-- why a file is refused

cut_short : saved_in story 612 (take 95 file) ≡ Err Damaged
unfolding saved_in chunks_after
cut_short = refl

of_another_release : saved_in story 612 (set file 21 3) ≡ Err OtherStory
unfolding saved_in chunks_after
of_another_release = refl

-- the last run is one too long
with_more_memory : saved_in story 612 (set file 57 219) ≡ Err WrongMemory
unfolding saved_in chunks_after unpacked
with_more_memory = refl

-- the caller would go on after the end of the story
outside_the_story : saved_in story 574 file ≡ Err WrongStacks
unfolding saved_in chunks_after unpacked frame_in frames_in is_frame
outside_the_story = refl

-- Another order, with memory as it is. A chunk with another name is skipped, and the second of a kind does not count.
abbrev others : List ℕ
others = chunk (codes "ANNO") (33 ∷ [])
    ++ (chunk (codes "Stks") (stacks_bytes state.stacks)
    ++ (chunk (codes "UMem") state.memory
    ++ (chunk (codes "IFhd") (take 13 (drop 20 file))
    ++ (chunk (codes "CMem") (0 ∷ []) ++ chunk (codes "IFhd") []))))

-- bytes after the form are ignored
read_others : saved_in story 612 (form_start (4 + length others) ++ (others ++ (1 ∷ [])))
    ≡ Ok state
unfolding saved_in chunk chunks_after frame_bytes frame_in frames_in is_frame
read_others = refl

-- which file may be overwritten

of_this_story : is_save_of story file ≡ true
of_this_story = refl

of_another_story : is_save_of story (set file 21 3) ≡ false
of_another_story = refl

-- runs of 256, 256 and one equal byte
long_run : packed 0 (replicate 514 0) (set (replicate 514 0) 513 9) ≡ 0 ∷ 255 ∷ 0 ∷ 255 ∷ 0 ∷ 0 ∷ 9 ∷ []
unfolding packed with_equal
long_run = refl

-- a 0 without its count
cut_run : unpacked (0 ∷ []) false (replicate 8 0) ≡ None
unfolding unpacked
cut_run = refl
