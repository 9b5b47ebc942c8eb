-- Stores to Flags 2 in the header: a game may change bits 0 to 2 of that word (Z-Machine Standards Document 1.1, section
-- 11.1), which ask for a transcript, for a fixed pitch and for a new drawing of the screen. In the profile this is M4. Here
-- every other bit stays as it is.
use Rattle.std.specs.Prelude.{◌==◌, ◌||◌, ◌+◌, ◌*◌, ◌/◌, ◌%◌, ℕ, Bool, true, false, if◌then◌else◌, List}
use Rattle.std.specs.Prelude.{slice_index, slice_set}
use Rattle.zcore.specs.declared.instruction.Operation.{Operation}
use Rattle.zcore.specs.declared.instruction.Operation.TheVariants.{StoreWord, StoreByte}
use Rattle.zcore.specs.declared.next.Next.{Next}
use Rattle.zcore.specs.Execution.{first, second, third}
use Rattle.zcore.specs.Parts.{goes_on}
use Rattle.zcore.specs.State.{State, Out}
use Rattle.zcore_standard.specs.Streams.{flags_2_low}

-- the first byte of Flags 2
abbrev pub flags_2_high : ℕ
flags_2_high = 16

-- the addresses to which storew and storeb write
abbrev pub word_address : List ℕ → ℕ
word_address values = (first values + 2 * second values) % 65536

abbrev pub byte_address : List ℕ → ℕ
byte_address values = (first values + second values) % 65536

-- a store of the word, or of one of its bytes
abbrev pub concerns_flags : Operation → List ℕ → Bool
concerns_flags StoreWord values = word_address values == flags_2_high
concerns_flags StoreByte values = byte_address values == flags_2_high || byte_address values == flags_2_low
concerns_flags _ values = false

-- the first byte has none of these bits
abbrev pub has_free_bits : Operation → List ℕ → Bool
has_free_bits StoreByte values = byte_address values == flags_2_low
has_free_bits _ values = true

-- bits 0 to 2 as those of a number
abbrev pub with_free_bits : List ℕ → ℕ → List ℕ
with_free_bits memory number = slice_set memory flags_2_low (slice_index memory flags_2_low / 8 * 8 + number % 8)

-- Of the word, bits 0 and 1 alone outlive a restart (section 6.1.3). The others are as they were loaded.
abbrev pub with_kept_bits : List ℕ → List ℕ → List ℕ
with_kept_bits loaded memory =
    slice_set memory flags_2_low (slice_index loaded flags_2_low / 4 * 4 + slice_index memory flags_2_low % 4)

-- such a store
unfoldable pub perform_on_flags : Operation → Next → ℕ → List ℕ → State → Out Next
perform_on_flags operation here after values s = goes_on after here.fuel (record s {
  memory = if has_free_bits operation values then with_free_bits s.memory (third values) else s.memory;
})
