-- Z-characters in words of two bytes, three in a word; the top bit marks the last word (Z-Machine Standards
-- Document 1.1, section 3.2).
use Rattle.std.specs.Prelude.{◌==◌, ◌+◌, ◌-◌, ◌*◌, ◌/◌, ◌%◌, ◌<◌, ◌^◌, ℕ, nat_le, nat_lt, if◌then◌else◌, List, []}
use Rattle.std.specs.Prelude.{◌∷◌, ◌++◌, length, slice_index, replicate, Result, Ok, Err}
use Rattle.ztext.specs.Results.{◌>>=◌}
use Rattle.ztext.specs.Reading.{Cause, End}

-- the top bit's share of the first byte of a word, by what comes after the word
abbrev pub mark : List ℕ → ℕ
mark [] = 128
mark (z ∷ zs) = 0

-- the two bytes of a word
abbrev pub word_of : ℕ → ℕ → ℕ → ℕ → List ℕ
word_of top a b c = (top + a * 4 + b / 8) ∷ ((b % 8) * 32 + c) ∷ []

-- the words of whole threes of Z-characters
unfoldable pub packed : List ℕ → List ℕ
packed (a ∷ b ∷ c ∷ zs) = word_of (mark zs) a b c ++ packed zs
packed _ = []

-- how many fives fill the last word; a text has at least one word
abbrev pub missing : ℕ → ℕ
missing n = if n == 0 then 3 else (3 - n % 3) % 3

abbrev pub padded : List ℕ → List ℕ
padded zs = zs ++ replicate (missing (length zs)) 5

-- the three Z-characters of a word
abbrev pub three_of : ℕ → ℕ → List ℕ
three_of high low = ((high / 4) % 32) ∷ ((high % 4) * 8 + low / 32) ∷ (low % 32) ∷ []

-- the last word's Z-characters and the address after it, which has 32 bits
abbrev pub last_word : ℕ → ℕ → ℕ → Result (List ℕ × ℕ) Cause
last_word at high low = if nat_lt (at + 2) (2 ^ 32) then Ok (three_of high low, at + 2) else Err End

-- the Z-characters of the bytes from an address on, up to the word whose top bit is set, and the address after it
unfoldable pub unpacked_text : ℕ → List ℕ → Result (List ℕ × ℕ) Cause
unpacked_text at [] = Err End
unpacked_text at (high ∷ []) = Err End
unpacked_text at (high ∷ low ∷ bytes) =
    if nat_le 128 high then last_word at high low
    else (unpacked_text (at + 2) bytes >>= λ x. Ok (three_of high low ++ x.0, x.1))

-- no word from an address on, up to the end of the story, has its top bit set
abbrev pub RunsPastEnd : List ℕ → ℕ → Type 0
RunsPastEnd story at = (k : ℕ) → at + 2 * k + 1 < length story → at + 2 * k + 2 < 2 ^ 32
    → slice_index story (at + 2 * k) < 128
