-- print_unicode and check_unicode (Z-Machine Standards Document 1.1, sections 3.8.5 and 15).
use Rattle.std.specs.Prelude.{◌==◌, ◌&&◌, ◌||◌, ◌+◌, ◌/◌, ◌%◌, ℕ, nat_le, nat_lt, not, Bool, if◌then◌else◌, List, []}
use Rattle.std.specs.Prelude.{◌∷◌, ◌++◌, length, Option}
use Rattle.std.specs.List.{list_any}
use Rattle.zcore.specs.declared.next.Next.{Next}
use Rattle.zcore.specs.declared.place.Limit.TheVariants as limits
use Rattle.zcore.specs.declared.place.Place.TheVariants as places
use Rattle.zcore.specs.Effects.{give_result}
use Rattle.zcore.specs.Layout.{text_limit}
use Rattle.zcore.specs.Parts.{goes_on}
use Rattle.zcore.specs.State.{State, Out, done, halt, ◌>>=◌}

-- the characters of the ZSCII codes 155 to 223 where the story has no Unicode table of its own (3.8.5.3)
abbrev pub default_characters : List ℕ
default_characters =
    0xE4 ∷ 0xF6 ∷ 0xFC ∷ 0xC4 ∷ 0xD6 ∷ 0xDC ∷ 0xDF ∷ 0xBB ∷ 0xAB ∷ 0xEB ∷ 0xEF ∷ 0xFF ∷ 0xCB ∷ 0xCF ∷ 0xE1 ∷ 0xE9 ∷
    0xED ∷ 0xF3 ∷ 0xFA ∷ 0xFD ∷ 0xC1 ∷ 0xC9 ∷ 0xCD ∷ 0xD3 ∷ 0xDA ∷ 0xDD ∷ 0xE0 ∷ 0xE8 ∷ 0xEC ∷ 0xF2 ∷ 0xF9 ∷ 0xC0 ∷
    0xC8 ∷ 0xCC ∷ 0xD2 ∷ 0xD9 ∷ 0xE2 ∷ 0xEA ∷ 0xEE ∷ 0xF4 ∷ 0xFB ∷ 0xC2 ∷ 0xCA ∷ 0xCE ∷ 0xD4 ∷ 0xDB ∷ 0xE5 ∷ 0xC5 ∷
    0xF8 ∷ 0xD8 ∷ 0xE3 ∷ 0xF1 ∷ 0xF5 ∷ 0xC3 ∷ 0xD1 ∷ 0xD5 ∷ 0xE6 ∷ 0xC6 ∷ 0xE7 ∷ 0xC7 ∷ 0xFE ∷ 0xF0 ∷ 0xDE ∷ 0xD0 ∷
    0xA3 ∷ 0x153 ∷ 0x152 ∷ 0xA1 ∷ 0xBF ∷ []

abbrev pub is_ascii : ℕ → Bool
is_ascii code = nat_le 32 code && nat_le code 126

-- a code that UTF-16 uses in pairs, and that is no character by itself
abbrev pub is_surrogate : ℕ → Bool
is_surrogate code = nat_le 0xD800 code && nat_lt code 0xE000

-- a character that the player prints: no control code, no surrogate, and neither $FFFE nor $FFFF
abbrev pub is_printed : ℕ → Bool
is_printed code = is_ascii code || (nat_le 160 code && not (is_surrogate code) && nat_lt code 0xFFFE)

-- the UTF-8 bytes of a character below 65,536
abbrev pub utf_8 : ℕ → List ℕ
utf_8 code =
    if nat_lt code 0x80 then code ∷ []
    else (if nat_lt code 0x800 then (0xC0 + code / 64) ∷ (0x80 + code % 64) ∷ []
    else (0xE0 + code / 4096) ∷ (0x80 + code / 64 % 64) ∷ (0x80 + code % 64) ∷ [])

-- the bytes of the transcript for a Unicode character; one that is not printed is a question mark
abbrev pub transcript_of : ℕ → List ℕ
transcript_of code = if is_printed code then utf_8 code else 63 ∷ []

-- The bytes of one character are printed, or none of them where they pass the limit of a turn's text.
unfoldable pub print_whole : List ℕ → State → Out (Unit {0})
print_whole bytes s =
    if nat_le (length s.text + length bytes) text_limit then done tt (record s { text = s.text ++ bytes })
    else halt (places.Limit limits.Text) s

unfoldable pub print_unicode : Next → ℕ → ℕ → State → Out Next
print_unicode here after code = do
  _ ← print_whole (transcript_of code)
  goes_on after here.fuel

-- whether a character has a ZSCII code, with these for the codes from 155 on
abbrev pub has_zscii : List ℕ → ℕ → Bool
has_zscii characters code = is_ascii code || list_any (λ character. character == code) characters

-- bit 0: the character can be printed; bit 1: it can be typed (15, `check_unicode`)
abbrev pub abilities : List ℕ → ℕ → ℕ
abilities characters code =
    if has_zscii characters code then 3
    else (if is_printed code then 1 else 0)

unfoldable pub check_unicode : List ℕ → Next → ℕ → Option ℕ → ℕ → State → Out Next
check_unicode characters here after result code = give_result here after result (abilities characters code)
