-- print_unicode and check_unicode, computed.
use Rattle.std.proofs.Common.{◌≡◌, [], ◌∷◌, ◌++◌, length, refl}
use Rattle.zcore.specs.declared.place.Limit.TheVariants as limits
use Rattle.zcore.specs.declared.place.Place.TheVariants as places
use Rattle.zcore.specs.State.{State, done, halt}
use Rattle.zcore.specs.Turn.{first_state}
use Rattle.zcore_standard.specs.Unicode.{default_characters, transcript_of, print_whole, print_unicode, abilities}

-- ZSCII 155 to 223
default_count : length default_characters ≡ 69
default_count = refl

letter : transcript_of 65 ≡ 65 ∷ []
letter = refl

a_umlaut : transcript_of 0xE4 ≡ 0xC3 ∷ 0xA4 ∷ []
a_umlaut = refl

euro : transcript_of 0x20AC ≡ 0xE2 ∷ 0x82 ∷ 0xAC ∷ []
euro = refl

last_of_two_bytes : transcript_of 0x7FF ≡ 0xDF ∷ 0xBF ∷ []
last_of_two_bytes = refl

last_printed : transcript_of 0xFFFD ≡ 0xEF ∷ 0xBF ∷ 0xBD ∷ []
last_printed = refl

new_line : transcript_of 13 ≡ 63 ∷ []
new_line = refl

delete : transcript_of 127 ≡ 63 ∷ []
delete = refl

last_control : transcript_of 159 ≡ 63 ∷ []
last_control = refl

first_after : transcript_of 160 ≡ 0xC2 ∷ 0xA0 ∷ []
first_after = refl

surrogate : transcript_of 0xD800 ≡ 63 ∷ []
surrogate = refl

last_surrogate : transcript_of 0xDFFF ≡ 63 ∷ []
last_surrogate = refl

private_use : transcript_of 0xE000 ≡ 0xEE ∷ 0x80 ∷ 0x80 ∷ []
private_use = refl

no_character : transcript_of 0xFFFE ≡ 63 ∷ []
no_character = refl

printed : print_unicode (record { program_counter = 100; fuel = 5 }) 104 0xE4 (record (first_state []) { text = 65 ∷ [] })
    ≡ done (record { program_counter = 104; fuel = 5 }) (record (first_state []) { text = 65 ∷ 0xC3 ∷ 0xA4 ∷ [] })
unfolding print_unicode print_whole
printed = refl

-- a character of two bytes where one byte is left of the turn's text: none of it is printed
no_room : (s : State) → length s.text ≡ 65535
    → print_whole (0xC3 ∷ 0xA4 ∷ []) s ≡ halt (places.Limit limits.Text) s
unfolding print_whole
no_room s e = rw e refl

room : (s : State) → length s.text ≡ 65534 → print_whole (0xC3 ∷ 0xA4 ∷ []) s
    ≡ done tt (record s { text = s.text ++ 0xC3 ∷ 0xA4 ∷ [] })
unfolding print_whole
room s e = rw e refl

ascii_abilities : abilities default_characters 65 ≡ 3
ascii_abilities = refl

accent_abilities : abilities default_characters 0xE4 ≡ 3
accent_abilities = refl

ligature_abilities : abilities default_characters 0x152 ≡ 3
ligature_abilities = refl

euro_abilities : abilities default_characters 0x20AC ≡ 1
euro_abilities = refl

control_abilities : abilities default_characters 7 ≡ 0
control_abilities = refl

-- a table of the story's own takes the place of the default one
own_abilities : abilities (0x20AC ∷ []) 0x20AC ≡ 3
own_abilities = refl

left_out_abilities : abilities (0x20AC ∷ []) 0xE4 ≡ 1
left_out_abilities = refl
