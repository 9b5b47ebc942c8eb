-- Lines that are typed, computed.
use Rattle.std.proofs.Common.{◌≡◌, [], ◌∷◌, refl, true, false}
use lib.Utf8.{encode}
use Rattle.std.specs.Str.{chars, is_utf8}
use Rattle.zcore_standard.specs.Input.{can_be_typed, codes_typed, small, small_character}
use Rattle.zcore_standard.specs.Streams.{code_among}
use Rattle.zcore_standard.specs.Unicode.{default_characters}

-- Lines

e_acute : can_be_typed default_characters (0xC3 ∷ 0xA9 ∷ []) ≡ true
unfolding is_utf8 chars encode
e_acute = refl

codes : codes_typed default_characters (116 ∷ 104 ∷ 0xC3 ∷ 0xA9 ∷ 33 ∷ []) ≡ 116 ∷ 104 ∷ 170 ∷ 33 ∷ []
unfolding is_utf8 chars code_among encode
codes = refl

empty : can_be_typed default_characters [] ≡ true
unfolding is_utf8 chars encode
empty = refl

-- of two codes of a character the first is typed
first_of_two : codes_typed (0x142 ∷ 0x142 ∷ []) (0xC5 ∷ 0x82 ∷ []) ≡ 155 ∷ []
unfolding is_utf8 chars code_among encode
first_of_two = refl

-- a character that ZSCII does not have
no_code : can_be_typed default_characters (0xC5 ∷ 0x82 ∷ []) ≡ false
unfolding is_utf8 chars encode
no_code = refl

-- and one above $FFFF
no_word : can_be_typed default_characters (0xF0 ∷ 0x9F ∷ 0x98 ∷ 0x80 ∷ []) ≡ false
unfolding is_utf8 chars encode
no_word = refl

tab : can_be_typed default_characters (9 ∷ []) ≡ false
unfolding is_utf8 chars encode
tab = refl

delete : can_be_typed default_characters (127 ∷ []) ≡ false
unfolding is_utf8 chars encode
delete = refl

-- a control code that a Unicode table names
control : can_be_typed (0x85 ∷ []) (0xC2 ∷ 0x85 ∷ []) ≡ false
unfolding is_utf8 chars encode
control = refl

-- bytes that are not UTF-8: one that only goes on; a character that is cut off; two bytes for one; a surrogate; a number
-- above $10FFFF

goes_on_only : can_be_typed default_characters (0xA9 ∷ []) ≡ false
unfolding is_utf8 chars encode
goes_on_only = refl

cut_off : can_be_typed default_characters (0xC3 ∷ []) ≡ false
unfolding is_utf8 chars encode
cut_off = refl

cut_short : can_be_typed default_characters (0xC3 ∷ 97 ∷ []) ≡ false
unfolding is_utf8 chars encode
cut_short = refl

too_long : can_be_typed default_characters (0xC1 ∷ 0xA1 ∷ []) ≡ false
unfolding is_utf8 chars encode
too_long = refl

surrogate : can_be_typed (0xD800 ∷ []) (0xED ∷ 0xA0 ∷ 0x80 ∷ []) ≡ false
unfolding is_utf8 chars encode
surrogate = refl

too_great : can_be_typed default_characters (0xF4 ∷ 0x90 ∷ 0x80 ∷ 0x80 ∷ []) ≡ false
unfolding is_utf8 chars encode
too_great = refl

no_codes : codes_typed default_characters (97 ∷ 0xC3 ∷ []) ≡ []
unfolding is_utf8 chars encode
no_codes = refl

-- Small letters

ascii_capital : small default_characters 65 ≡ 97
unfolding small
ascii_capital = refl

small_e_acute : small default_characters 176 ≡ 170
unfolding small small_character code_among
small_e_acute = refl

ligature : small default_characters 221 ≡ 220
unfolding small small_character code_among
ligature = refl

-- a small letter stays
sharp_s : small default_characters 161 ≡ 161
unfolding small small_character code_among
sharp_s = refl

-- and a capital whose small letter has no code
alone : small (0x178 ∷ []) 155 ≡ 155
unfolding small small_character code_among
alone = refl

-- a code without a character
no_character : small (0x178 ∷ []) 156 ≡ 156
unfolding small small_character code_among
no_character = refl

dotted_i : small (0x130 ∷ []) 155 ≡ 105
unfolding small small_character code_among
dotted_i = refl

-- the small letters of capitals at the ends of blocks, and what is beside them

times : small_character 0xD7 ≡ 0xD7
unfolding small_character
times = refl

thorn : small_character 0xDE ≡ 0xFE
unfolding small_character
thorn = refl

l_with_stroke : small_character 0x141 ≡ 0x142
unfolding small_character
l_with_stroke = refl

small_l_with_stroke : small_character 0x142 ≡ 0x142
unfolding small_character
small_l_with_stroke = refl

kra : small_character 0x138 ≡ 0x138
unfolding small_character
kra = refl

y_with_diaeresis : small_character 0x178 ≡ 0xFF
unfolding small_character
y_with_diaeresis = refl

alpha_with_tonos : small_character 0x386 ≡ 0x3AC
unfolding small_character
alpha_with_tonos = refl

omega_with_tonos : small_character 0x38F ≡ 0x3CE
unfolding small_character
omega_with_tonos = refl

final_sigma : small_character 0x3A2 ≡ 0x3A2
unfolding small_character
final_sigma = refl

sigma : small_character 0x3A3 ≡ 0x3C3
unfolding small_character
sigma = refl

io : small_character 0x401 ≡ 0x451
unfolding small_character
io = refl

ya : small_character 0x42F ≡ 0x44F
unfolding small_character
ya = refl
