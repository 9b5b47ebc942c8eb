-- Save files (Quetzal 1.4): which story a file is of, where the story goes on, its dynamic memory and its frames.
-- `story` is the dynamic memory that the story file has.
use Rattle.std.specs.Prelude.{◌≡◌, ◌==◌, ◌&&◌, ◌≤◌, ◌<◌, ◌+◌, ◌-◌, ◌*◌, ◌/◌, ◌%◌, ℕ, false, nat_eq, nat_le, nat_lt, Bool}
use Rattle.std.specs.Prelude.{if◌then◌else◌, codes, List, [], ◌∷◌, ◌++◌, length, map, take, drop, slice_index}
use Rattle.std.specs.Prelude.{Option, Some, None, Result, Ok, Err}
use Rattle.std.specs.List.{All, starts_with}
use Rattle.std.specs.Option.{option_and_then}
use Rattle.iff_files.specs.declared.chunks.Part.TheVariants.{Header, Memory, Frames}
use Rattle.iff_files.specs.declared.fault.SaveFault.{SaveFault}
use Rattle.iff_files.specs.declared.fault.SaveFault.TheVariants.{Damaged, OtherStory, WrongMemory, WrongStacks}
use Rattle.iff_files.specs.declared.reading.Save.{Save}
use Rattle.iff_files.specs.Chunks.{chunk, four, part_in, stated}
use Rattle.iff_files.specs.Differences.{packed, unpacked}
use Rattle.iff_files.specs.Frames.{CanBeWritten, Stacks, most_frames, most_words, stacks_bytes, stacks_in, words_in}

-- how many bytes a story's header has
abbrev pub header_size : ℕ
header_size = 64

pub record Saved : Type 0 where
  -- The address where the story goes on: the byte that names the variable for the result of `save`, or before version 4
  -- the first byte of its branch.
  pub program_counter : ℕ
  pub memory : List ℕ
  pub stacks : Stacks

-- Written

-- release number, serial number and checksum (section 5): bytes of the story's header
abbrev pub identity : List ℕ → List ℕ
identity story = map (λ at. slice_index story at) (2 ∷ 3 ∷ 18 ∷ 19 ∷ 20 ∷ 21 ∷ 22 ∷ 23 ∷ 28 ∷ 29 ∷ [])

abbrev pub three : ℕ → List ℕ
three n = n / 256 / 256 ∷ n / 256 % 256 ∷ n % 256 ∷ []

abbrev pub chunks_of : List ℕ → Saved → List ℕ
chunks_of story s =
    chunk (codes "IFhd") (identity story ++ three s.program_counter)
    ++ (chunk (codes "CMem") (packed 0 story s.memory) ++ (chunk (codes "Stks") (stacks_bytes s.stacks) ++ []))

-- how a file begins, and how many bytes follow
abbrev pub form_start : ℕ → List ℕ
form_start size = codes "FORM" ++ (four size ++ codes "IFZS")

-- the file of a state
unfoldable pub save_bytes : List ℕ → Saved → List ℕ
save_bytes story s = form_start (4 + length (chunks_of story s)) ++ chunks_of story s

-- Read

-- how long a file is at most
abbrev pub longest_file : ℕ
longest_file = 1048576

-- the chunks of a file; what follows the form is ignored
abbrev pub form_in : List ℕ → Option (List ℕ)
form_in bytes =
    if nat_le (length bytes) longest_file && starts_with nat_eq bytes (codes "FORM")
    && starts_with nat_eq (drop 8 bytes) (codes "IFZS") && nat_le (8 + stated bytes) (length bytes)
    then Some (take (stated bytes - 4) (drop 12 bytes))
    else None

pub record Parts : Type 0 where
  -- the contents of the chunk
  pub header : List ℕ
  -- the whole chunk
  pub memory : List ℕ
  -- the contents of the chunk
  pub frames : List ℕ

-- the three parts, if none is missing
abbrev pub all_parts : Option (List ℕ) → Option (List ℕ) → Option (List ℕ) → Option Parts
all_parts None memory frames = None
all_parts (Some h) None frames = None
all_parts (Some h) (Some m) None = None
all_parts (Some h) (Some m) (Some f) = Some (record { header = drop 8 h; memory = m; frames = drop 8 f })

abbrev pub parts_in : List ℕ → Option Parts
parts_in bytes =
    option_and_then (λ form. all_parts (part_in Header form) (part_in Memory form) (part_in Frames form)) (form_in bytes)

-- the program counter of a header of this story
abbrev pub header_in : List ℕ → List ℕ → Result ℕ SaveFault
header_in story header =
    if nat_lt (length header) 13 then Err Damaged
    else (
    if starts_with nat_eq header (identity story)
    then Ok ((slice_index header 10 * 256 + slice_index header 11) * 256 + slice_index header 12)
    else Err OtherStory)

-- memory from its chunk
abbrev pub memory_in : List ℕ → List ℕ → Option (List ℕ)
memory_in story bytes =
    if starts_with nat_eq bytes (codes "CMem") then unpacked (drop 8 bytes) false story
    else (if length (drop 8 bytes) == length story then Some (drop 8 bytes) else None)

abbrev pub or_fault : {A B : Type 0} → SaveFault → Option A → (A → Result B SaveFault) → Result B SaveFault
or_fault fault None further = Err fault
or_fault fault (Some a) further = further a

abbrev pub and_then : {A B : Type 0} → Result A SaveFault → (A → Result B SaveFault) → Result B SaveFault
and_then (Err fault) further = Err fault
and_then (Ok a) further = further a

-- the state of a file of a story, whose file has this size; or why it is refused
unfoldable pub saved_in : List ℕ → ℕ → List ℕ → Result Saved SaveFault
saved_in story size bytes =
    or_fault Damaged (parts_in bytes) (λ parts.
    and_then (header_in story parts.header) (λ counter.
    or_fault WrongMemory (memory_in story parts.memory) (λ memory.
    or_fault WrongStacks (stacks_in size parts.frames) (λ stacks.
    Ok (record { program_counter = counter; memory = memory; stacks = stacks })))))

-- What the code returns is what the definition reads.
abbrev pub IsReadAs : Result Saved SaveFault → ℕ → List ℕ → Result Save SaveFault → Type 0
IsReadAs outcome size memory (Err fault) = outcome ≡ Err fault
IsReadAs outcome size memory (Ok save) = (stacks : Stacks) × ((stacks_in size save.stacks.now ≡ Some stacks)
    × (outcome ≡ Ok (record { program_counter = save.program_counter; memory = memory; stacks = stacks })))

-- A file that begins as save files of this story do that are written here. Only such a file may be overwritten.
abbrev pub is_save_of : List ℕ → List ℕ → Bool
is_save_of story bytes = starts_with nat_eq bytes (codes "FORM")
    && starts_with nat_eq (drop 8 bytes) (codes "IFZSIFhd" ++ (0 ∷ 0 ∷ 0 ∷ 13 ∷ []))
    && starts_with nat_eq (drop 20 bytes) (identity story)

-- A state that can be saved.
pub record CanBeSaved (story : List ℕ) (size : ℕ) (s : Saved) : Type 0 where
  pub memory : length s.memory ≡ length story
  pub short : length story < 65536
  pub some : 0 < size
  pub few : length s.stacks.calls < most_frames
  pub words : length s.stacks.stack + words_in s.stacks.calls ≤ most_words
  pub calls : All (CanBeWritten size) s.stacks.calls

-- What is written is read back.
abbrev pub ReadsBack : List ℕ → ℕ → Type 0
ReadsBack story size = (s : Saved) → CanBeSaved story size s → saved_in story size (save_bytes story s) ≡ Ok s
