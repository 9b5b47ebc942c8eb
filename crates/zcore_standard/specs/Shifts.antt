-- log_shift and art_shift (Z-Machine Standards Document 1.1, section 15).
use Rattle.std.specs.Prelude.{◌&&◌, ◌-◌, ◌*◌, ◌/◌, ◌%◌, ◌^◌, ℕ, min, if◌then◌else◌, Option}
use Rattle.zcore.specs.declared.next.Next.{Next}
use Rattle.zcore.specs.Arithmetic.{is_negative, magnitude}
use Rattle.zcore.specs.Effects.{give_result}
use Rattle.zcore.specs.State.{State, Out}

-- 2 to the power of the places by which a word is shifted; a word has 16 places
abbrev pub power : ℕ → ℕ
power places = 2 ^ min (magnitude places) 16

-- a word shifted by a signed number of places, to the left where it is positive; zeros come in
abbrev pub shifted : ℕ → ℕ → ℕ
shifted word places =
    if is_negative places then word / power places
    else word * power places % 65536

-- the same, but a shift to the right keeps the sign
abbrev pub shifted_with_sign : ℕ → ℕ → ℕ
shifted_with_sign word places =
    if is_negative places && is_negative word then 65535 - (65535 - word) / power places
    else shifted word places

unfoldable pub log_shift : Next → ℕ → Option ℕ → ℕ → ℕ → State → Out Next
log_shift here after result word places = give_result here after result (shifted word places)

unfoldable pub art_shift : Next → ℕ → Option ℕ → ℕ → ℕ → State → Out Next
art_shift here after result word places = give_result here after result (shifted_with_sign word places)
