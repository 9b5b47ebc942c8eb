-- output_stream (Z-Machine Standards Document 1.1, sections 7.1 to 7.4 and 15). Stream 1 and the transcript, which is
-- what the player writes, are always on. Stream 3 goes to a table in memory: what is printed while it is open is text
-- of the turn until the stream is closed, and is then cut from the text and written to the table.
use Rattle.std.specs.Prelude.{◌==◌, ◌+◌, ◌-◌, ◌*◌, ◌/◌, ◌%◌, ℕ, nat_lt, Bool, if◌then◌else◌, List, [], ◌∷◌}
use Rattle.std.specs.Prelude.{drop, length, map, slice_index, slice_set, take}
use Rattle.zcore.specs.declared.place.Fault.TheVariants as faults
use Rattle.zcore.specs.Execution.{first, second}
use Rattle.zcore.specs.Parts.{fault, test}
use Rattle.zcore.specs.State.{State, Out, done, ◌>>=◌}
use Rattle.zcore_standard.specs.declared.streams.Begun.{Begun}
use Rattle.zcore_standard.specs.declared.streams.Stream.{Stream}
use Rattle.zcore_standard.specs.Fuel.{spend_for}
use Rattle.zcore_standard.specs.Place.{Here, on, past}
use Rattle.zcore_standard.specs.Windows.{lower, settled, show_upper}
use Rattle.zcore_standard.specs.Words.{are_writable, write_bytes}

-- From the text of a turn to ZSCII

-- no character has begun
abbrev pub between : Begun
between = record { bits = 0; more = 0 }

-- the first byte of a character of UTF-8 below 65,536
abbrev pub first_byte : ℕ → Begun
first_byte byte =
    if nat_lt byte 0x80 then record { bits = byte; more = 0 }
    else (if nat_lt byte 0xE0 then record { bits = byte % 32; more = 1 }
    else record { bits = byte % 16; more = 2 })

-- a byte more
abbrev pub next_byte : Begun → ℕ → Begun
next_byte begun byte =
    if begun.more == 0 then first_byte byte
    else record { bits = begun.bits * 64 + byte % 64; more = begun.more - 1 }

-- the Unicode characters of bytes, of which the first goes on with one that has begun
unfoldable pub characters_in : Begun → List ℕ → List ℕ
characters_in begun [] = []
characters_in begun (byte ∷ bytes) =
    let now = next_byte begun byte in
    if now.more == 0 then now.bits ∷ characters_in between bytes else characters_in now bytes

-- the first ZSCII code that stands for a character of the story's Unicode table, or of the default one (3.8.5)
abbrev pub first_extra : ℕ
first_extra = 155

-- how many there are at most
abbrev pub most_extra : ℕ
most_extra = 97

-- the code of a character, where these characters have the codes from one on; for another character a question mark
unfoldable pub code_among : List ℕ → ℕ → ℕ → ℕ
code_among [] code character = 63
code_among (c ∷ cs) code character = if c == character then code else code_among cs (code + 1) character

-- the ZSCII code of a Unicode character, with these for the codes from 155 on; a new line is 13 (3.8)
abbrev pub zscii_of : List ℕ → ℕ → ℕ
zscii_of extra character =
    if character == 10 then 13
    else (if nat_lt character 0x80 then character
    else code_among (take most_extra extra) first_extra character)

-- the ZSCII codes of bytes of the text
abbrev pub zscii_in : List ℕ → List ℕ → List ℕ
zscii_in extra bytes = map (zscii_of extra) (characters_in between bytes)

-- Stream 3

-- so many are open at most
abbrev pub most_streams : ℕ
most_streams = 16

-- what is printed from here on goes to a table
unfoldable pub open_stream : Here → ℕ → ℕ → State → Out Here
open_stream here after table = do
  _ ← test (nat_lt (length here.streams) most_streams) faults.Buffer
  (λ s. done (record here {
    next = record here.next { program_counter = after };
    streams = record { table = table; from = length s.text } ∷ here.streams;
  }) s)

-- a table has to be named, else M1
abbrev pub open_table : Here → ℕ → List ℕ → State → Out Here
open_table here after values =
    if length values == 1 then fault faults.Opcode else open_stream here after (second values)

-- the bytes of a table: the number of its characters, and the characters
abbrev pub counted : List ℕ → List ℕ
counted characters = (length characters / 256) ∷ (length characters % 256) ∷ characters

-- what a stream writes to its table
abbrev pub written_by : List ℕ → Stream → List ℕ → List ℕ
written_by extra stream text = counted (zscii_in extra (drop stream.from text))

-- A stream is closed: M4 where its table does not lie in dynamic memory, after the header.
unfoldable pub close : List ℕ → Stream → State → Out (Unit {0})
close extra stream = do
  _ ← (λ s. write_bytes stream.table (written_by extra stream s.text) s)
  (λ s. done tt (record s { text = take stream.from s.text }))

-- whether it can be closed
unfoldable pub test_table : List ℕ → Stream → State → Out (Unit {0})
test_table extra stream s =
    test (are_writable s.memory stream.table (length (written_by extra stream s.text))) faults.Write s

-- units for the bytes that are cut from the text
unfoldable pub spend_cut : Stream → ℕ → State → Out ℕ
spend_cut stream fuel s = spend_for (length s.text - stream.from) fuel s

-- the innermost stream is closed, if there is one
abbrev pub close_first : List ℕ → Here → ℕ → List Stream → State → Out Here
close_first extra here after [] = done (past here after)
close_first extra here after (stream ∷ streams) = do
  _ ← test_table extra stream
  fuel ← spend_cut stream here.next.fuel
  _ ← close extra stream
  settled (record (on here (record { program_counter = after; fuel = fuel })) { streams = streams })

-- each stream is closed, the innermost first; this costs no fuel
unfoldable pub close_all : List ℕ → List Stream → State → Out (Unit {0})
close_all extra [] = done tt
close_all extra (stream ∷ streams) = do
  _ ← close extra stream
  close_all extra streams

-- the text without what was printed while a stream was open
abbrev pub heard : List Stream → List ℕ → List ℕ
heard [] text = text
heard (stream ∷ streams) text = heard streams (take stream.from text)

-- what is heard of a text: neither what goes to open streams nor what is in the upper window
abbrev pub heard_of : Here → List ℕ → List ℕ
heard_of here text = lower here.upper (heard here.streams text)

-- Stream 2

-- the second byte of Flags 2 in the header, of which bit 0 tells whether the transcript is on (7.4 and 11.1)
abbrev pub flags_2_low : ℕ
flags_2_low = 17

abbrev pub with_transcript : List ℕ → ℕ → List ℕ
with_transcript memory bit = slice_set memory flags_2_low (slice_index memory flags_2_low / 2 * 2 + bit)

-- tells so, by 0 or 1
unfoldable pub set_transcript : Here → ℕ → ℕ → State → Out Here
set_transcript here after bit s = done (past here after) (record s { memory = with_transcript s.memory bit })

-- output_stream

-- the number that closes a stream
abbrev pub closing : ℕ → ℕ
closing number = 65536 - number

-- The transcript is on where the player writes one. Else it stays off, and the story can see so.
abbrev pub begin_transcript : Bool → Here → ℕ → State → Out Here
begin_transcript is_there here after = if is_there then set_transcript here after 1 else done (past here after)

abbrev pub select_stream : List ℕ → Bool → Here → ℕ → ℕ → List ℕ → State → Out Here
select_stream extra is_there here after number values =
    if number == 3 then open_table here after values
    else (if number == closing 3 then close_first extra here after here.streams
    else (if number == 2 then begin_transcript is_there here after
    else (if number == closing 2 then set_transcript here after 0
    else done (past here after))))

unfoldable pub output_stream : List ℕ → Bool → Here → ℕ → List ℕ → State → Out Here
output_stream extra is_there here after values = select_stream extra is_there here after (first values) values

-- Waiting for a line or a key

-- what a read does first: it closes every stream, and shows the upper window if that is selected
unfoldable pub begin_read : List ℕ → Here → State → Out (Unit {0})
begin_read extra here = do
  _ ← close_all extra here.streams
  show_upper here
