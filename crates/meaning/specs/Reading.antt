-- What `read` does to two arrays of bytes: the text array takes the letters of the next line, the parse array its words
-- (Z-Machine Standards Document 1.1, section 15, `aread`).
use Rattle.std.specs.Prelude.{◌&&◌, ◌+◌, ◌*◌, ◌/◌, ◌%◌, ◌++◌, ℕ, nat_le, Bool, if◌then◌else◌, List, [], ◌∷◌, length}
use Rattle.std.specs.Prelude.{take, slice_index, slice_set}
use Rattle.std.specs.List.{flat_map}
use Rattle.zcore.specs.declared.place.Place.TheVariants as places
use Rattle.zcore.specs.Cutting.{Word, words_of}
use Rattle.zcore.specs.Dictionary.{number_of_key}
use Rattle.ztext.specs.Text.{key_of}
use Rattle.zcore.specs.Turn.{with_bytes, with_letters, letters_for}
use Rattle.meaning.specs.declared.cause.Cause.TheVariants as causes
use Rattle.meaning.specs.World.{Situation, Comes, to, over, Part, ended, fault, array_at}

-- byte 0 of the text array tells how many letters it takes, byte 0 of the parse array how many words: each at least
-- one, and no more than there is room for

abbrev pub holds_letters : List ℕ → Bool
holds_letters text = nat_le 1 (slice_index text 0) && nat_le (slice_index text 0 + 2) (length text)

abbrev pub holds_words : List ℕ → Bool
holds_words parse = nat_le 1 (slice_index parse 0) && nat_le (4 * slice_index parse 0 + 2) (length parse)

-- full stop, comma and double quote
abbrev pub separators : List ℕ
separators = 46 ∷ 44 ∷ 34 ∷ []

-- the words of letters, as many as the parse array takes
unfoldable pub words_for : List ℕ → List ℕ → List Word
words_for parse letters = take (slice_index parse 0) (words_of separators letters)

-- where keys have these numbers, and every other key 0
module _ (number : ℕ → ℕ) where
  -- four bytes for a word: the number of its key, its length, and its place in the text array
  abbrev pub word_bytes : Word → List ℕ
  word_bytes w =
      (number (number_of_key (key_of w.bytes)) / 256) ∷ (number (number_of_key (key_of w.bytes)) % 256)
      ∷ length w.bytes ∷ ((w.place + 2) % 256) ∷ []

  abbrev pub words_bytes : List Word → List ℕ
  words_bytes words = length words ∷ flat_map word_bytes words

  -- the text array, and then the parse array, which are two
  abbrev pub with_line : ℕ → ℕ → List ℕ → List (List ℕ) → List (List ℕ)
  with_line t p line arrays =
      slice_set
      (slice_set arrays t (with_letters (array_at arrays t) 0 (letters_for (array_at arrays t) 0 line))) p
      (with_bytes (array_at arrays p) 1
      (words_bytes (words_for (array_at arrays p) (letters_for (array_at arrays t) 0 line))))

  -- The next line closes the text of the turn and begins the next turn, with the whole fuel; without one the story
  -- waits.
  abbrev pub next_line : ℕ → ℕ → ℕ → Situation → List (List ℕ) → Comes (Unit {0})
  next_line full t p s [] = over (ended places.Waiting s.world)
  next_line full t p s (line ∷ lines) = to tt (record s {
    world = record (s.world) {
      arrays = with_line t p line s.world.arrays;
      fuel = full;
      lines = lines;
      text = [];
      texts = s.world.texts ++ s.world.text ∷ [];
    };
  })

  -- `read`
  abbrev pub read_next : ℕ → ℕ → ℕ → Part (Unit {0})
  read_next full t p s =
      if holds_letters (array_at s.world.arrays t) && holds_words (array_at s.world.arrays p)
      then next_line full t p s s.world.lines
      else fault causes.BufferTooSmall s
