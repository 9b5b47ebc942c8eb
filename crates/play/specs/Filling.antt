-- Zero bytes behind a story: Inform 6 fills its story files to a multiple of 512 bytes.
use Rattle.std.specs.Prelude.{◌+◌, ◌*◌, ◌%◌, ◌==◌, ◌&&◌, ℕ, nat_le, nat_lt, Bool, if◌then◌else◌, List, length}
use Rattle.std.specs.Prelude.{slice_index, take, drop, Option, Some, None}
use Rattle.std.specs.List.{list_all}
use Rattle.ztext.specs.Bytes.{word_at}
use Rattle.zcore.specs.Header.{version_number, scale_of}
use Rattle.zcore.specs.Layout.{header_size}
use Rattle.zcore.specs.declared.header.Version.{Version}
use Rattle.zcore.specs.declared.header.Version.TheVariants.{V5, V8}

-- files are filled to a multiple of so many bytes
abbrev pub block : ℕ
block = 512

abbrev pub is_zero : ℕ → Bool
is_zero byte = byte == 0

-- the version of a file that has a header (Z-Machine Standards Document 1.1, section 11.1)
abbrev pub version_in : List ℕ → Option Version
version_in file =
    if slice_index file 0 == version_number V5 then Some V5
    else (if slice_index file 0 == version_number V8 then Some V8 else None)

-- the length that a header states, word $1A (11.1.6)
abbrev pub length_stated : List ℕ → Option Version → Option ℕ
length_stated file None = None
length_stated file (Some version) = Some (word_at file 0x1A * scale_of version)

abbrev pub stated_length : List ℕ → Option ℕ
stated_length file = if nat_lt (length file) header_size then None else length_stated file (version_in file)

-- What stands behind so many bytes fills the file: fewer bytes than a block, up to a multiple of it, all 0.
abbrev pub is_filled : List ℕ → ℕ → Bool
is_filled file stated =
    (length file % block == 0)
    && (nat_le stated (length file) && (nat_lt (length file) (stated + block) && list_all is_zero (drop stated file)))

-- how many bytes of a file are a story, by the length that it states
abbrev pub length_within : List ℕ → Option ℕ → ℕ
length_within file None = length file
length_within file (Some stated) = if is_filled file stated then stated else length file

abbrev pub story_length : List ℕ → ℕ
story_length file = length_within file (stated_length file)

-- a file without its filling
abbrev pub without_filling : List ℕ → List ℕ
without_filling file = take (story_length file) file
