-- The story in a Blorb file (Blorb 2.0.4): a form of IFF, whose first chunk is an index of resources.
use Rattle.std.specs.Prelude.{◌==◌, ◌&&◌, ◌+◌, ◌*◌, ℕ, zero, suc, nat_le, Bool, if◌then◌else◌, List, length}
use Rattle.std.specs.Prelude.{slice_index, slice_range, codes, Option, Some, None, Result, Ok, Err}
use Rattle.iff_files.specs.declared.blorb_fault.BlorbFault.{BlorbFault}
use Rattle.iff_files.specs.declared.blorb_fault.BlorbFault.TheVariants.{Damaged, NoProgram, OtherProgram}

-- the number in the four bytes at an address, the highest first
abbrev pub number_at : List ℕ → ℕ → ℕ
number_at file at =
    ((slice_index file at * 256 + slice_index file (at + 1)) * 256 + slice_index file (at + 2)) * 256
    + slice_index file (at + 3)

-- the four bytes at an address are these letters, which name a form, a chunk or a usage
abbrev pub has_name : List ℕ → ℕ → List ℕ → Bool
has_name file at letters = number_at file at == number_at letters 0

abbrev pub is_blorb : List ℕ → Bool
is_blorb file = nat_le 12 (length file) && (has_name file 0 (codes "FORM") && has_name file 8 (codes "IFRS"))

-- A chunk has eight bytes before its data: its name, and how many bytes of data follow.
abbrev pub chunk_end : List ℕ → ℕ → ℕ
chunk_end file at = at + 8 + number_at file (at + 4)

-- the most bytes of a form: 64 MB
abbrev pub most_bytes : ℕ
most_bytes = 67108864

-- how many resources the index lists, and where it ends: each has 12 bytes
abbrev pub resources : List ℕ → ℕ
resources file = number_at file 20

abbrev pub index_end : List ℕ → ℕ
index_end file = 24 + 12 * resources file

-- the form is in the file, and begins with an index that is as long as its resources are
abbrev pub is_whole : List ℕ → Bool
is_whole file =
    (nat_le (chunk_end file 0) (length file) && nat_le (chunk_end file 0) most_bytes)
    && ((has_name file 12 (codes "RIdx") && (chunk_end file 12 == index_end file))
    && nat_le (index_end file) (chunk_end file 0))

-- The entry of a resource is its usage, its number, and where its chunk starts, in four bytes each. This is where the
-- first program's chunk starts, among so many entries from an address on.
abbrev pub program_in : List ℕ → ℕ → ℕ → Option ℕ
program_in file at zero = None
program_in file at (suc others) =
    if has_name file at (codes "Exec") then Some (number_at file (at + 8)) else program_in file (at + 12) others

-- the data of a program's chunk, which is after the index and in the form, and for the Z-machine
abbrev pub story_at : List ℕ → Option ℕ → Result (List ℕ) BlorbFault
story_at file None = Err NoProgram
story_at file (Some at) =
    if nat_le (index_end file) at && nat_le (chunk_end file at) (chunk_end file 0)
    then (if has_name file at (codes "ZCOD") then Ok (slice_range file (at + 8) (chunk_end file at)) else Err OtherProgram)
    else Err Damaged

abbrev pub story_in : List ℕ → Result (List ℕ) BlorbFault
story_in file = if is_whole file then story_at file (program_in file 24 (resources file)) else Err Damaged

-- what is played of a file: the story of a Blorb file, or else all bytes
abbrev pub unpacked : List ℕ → Result (List ℕ) BlorbFault
unpacked file = if is_blorb file then story_in file else Ok file
