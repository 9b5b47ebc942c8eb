-- The keys of a source's dictionary words, and what is known of a value before a story runs: a number, or the key of a
-- word, whose number rests on where the dictionary stands.
use Rattle.std.specs.Prelude.{◌≡◌, ◌==◌, ◌%◌, ◌^◌, ◌⊎◌, ℕ, if◌then◌else◌, List, [], ◌∷◌, map, Option, Some, None}
use Rattle.std.specs.BTreeSet.{insert_key}
use Rattle.std.specs.Ordering.{nat_cmp}
use Rattle.ztext.specs.Text.{key_of}
use Rattle.zcore.specs.Dictionary.{number_of_key}
use Rattle.checker_values.specs.declared.known.Known.{Known}
use Rattle.checker_values.specs.declared.known.Known.TheVariants as knowns

-- Keys

-- in a word of a source `^` is an apostrophe
abbrev pub letter_of : ℕ → ℕ
letter_of c = if c == 94 then 39 else c

-- the key of a word, six bytes as a number
unfoldable pub key_of_word : List ℕ → ℕ
key_of_word word = number_of_key (key_of (map letter_of word)) % 2 ^ 48

-- the keys of words, put one by one into keys that ascend, where they are not yet among them
abbrev pub with_keys : List ℕ → List (List ℕ) → List ℕ
with_keys keys [] = keys
with_keys keys (word ∷ words) = with_keys (insert_key nat_cmp keys (key_of_word word)) words

-- the keys of words, each once and ascending
abbrev pub keys_of : List (List ℕ) → List ℕ
keys_of words = with_keys [] words

abbrev pub IsKeyAmong : ℕ → List ℕ → Type 0
IsKeyAmong key [] = ⊥
IsKeyAmong key (k ∷ ks) = (key ≡ k) ⊎ IsKeyAmong key ks

-- Known values

-- the value, where keys have these numbers
abbrev pub value_of_known : (ℕ → ℕ) → Known → ℕ
value_of_known number (knowns.Number n) = n
value_of_known number (knowns.Key key) = number key

abbrev pub or_zero : Option Known → Known
or_zero None = knowns.Number 0
or_zero (Some known) = known
