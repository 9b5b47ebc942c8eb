-- A program that stands in a story.
use Rattle.std.specs.Prelude.{◌≡◌, ◌+◌, ◌*◌, ◌^◌, ◌<◌, ◌≤◌, ◌==◌, ◌||◌, not, ℕ, Bool, List, [], ◌∷◌, ◌++◌, codes, length}
use Rattle.std.specs.Prelude.{map, take, slice_index}
use Rattle.std.specs.List.{All, concat, list_all, range_with_len}
use Rattle.zcore.specs.declared.instruction.Operand.TheVariants.{Large}
use Rattle.zcore.specs.declared.instruction.Operation.TheVariants.{Call1n, Quit}
use Rattle.ztext.specs.Bytes.{word_at, most_abbreviations}
use Rattle.zcore.specs.Header.{abbreviations_of, defaults_of, dictionary_of, globals_of, static_base_of}
use Rattle.zcore.specs.Layout.{header_size, globals_size, default_count}
use Rattle.zcore.specs.Parts.{unpacked}
use Rattle.ztext.specs.Text.{Holds, encoded}
use Rattle.ztext.specs.Abbreviations.{abbreviation_at}
use Rattle.tables.specs.Dictionary.{ReadsKeys}
use Rattle.meaning.specs.Resolved.{RoutineOf, ProgramOf}
use Rattle.meaning.specs.Meaning.{routine_at}
use Rattle.meaning.specs.Objects.{ObjectOf}
use Rattle.meaning.specs.World.{words_of}
use Rattle.meaning.specs.Places.{dictionary_place}
use Rattle.meaning.specs.Sizes.{greatest_routine_weight}
use Rattle.meaning.specs.declared.cause.Cause.{Cause}
use Rattle.code_items.specs.Statements.{routine_items}
use Rattle.code.specs.TableLaws.{HoldsRows}
use Rattle.code_drafts.specs.Addresses.{Addresses, Sizes, fault_address}
use Rattle.code_drafts.specs.Instructions.{plain}
use Rattle.code_drafts.specs.Bytes.{bytes_of_all}
use Rattle.code.specs.Bytes.{code_size, code_bytes}

-- the code that calls Main, and then ends the story
abbrev pub start_code : ℕ → List ℕ
start_code main = bytes_of_all (plain Call1n (Large main ∷ []) ∷ plain Quit [] ∷ [])

-- one word, where these are the number and the words of the property of a number
abbrev pub is_one_word : ℕ → ℕ × List ℕ → Bool
is_one_word q x = not (x.0 == q) || length x.1 == 1

-- each object that provides the property of a number has one word of it
abbrev pub is_single : List ObjectOf → ℕ → Bool
is_single objects q = list_all (λ (o : ObjectOf). list_all (is_one_word q) o.properties) objects

-- which properties are such, by their numbers from 0, which is that of none
abbrev pub singles_of : List ObjectOf → List Bool
singles_of objects = map (is_single objects) (range_with_len 0 (default_count + 1))

abbrev pub sizes_of : ProgramOf → Sizes
sizes_of p = record {
  arrays = map length p.arrays;
  objects = length p.objects;
  abbreviations = p.abbreviations;
  singles = singles_of p.objects;
}

-- how many bytes of arrays stand before the array of a number, where they stand one after another
abbrev pub offset_in : List (List ℕ) → ℕ → ℕ
offset_in arrays n = length (concat (take n arrays))

-- a routine at a packed address, of a program of these sizes: how many locals it has, and its code (5.2). Bytes follow
-- it, and it stands in static memory or after.
pub record HoldsRoutine (story : List ℕ) (sizes : Sizes) (a : Addresses) (packed : ℕ) (r : RoutineOf) : Type 0 where
  pub bytes : Holds story (unpacked story packed) (r.locals ∷ code_bytes sizes a (routine_items r))
  pub followed : unpacked story packed + 1 + code_size sizes (routine_items r) < length story
  pub above : static_base_of story ≤ unpacked story packed
  pub named : 0 < packed
  pub word : packed < 65536
  pub short : code_size sizes (routine_items r) ≤ greatest_routine_weight

-- a fault's text at a packed address
pub record HoldsText (story : List ℕ) (packed : ℕ) (text : List ℕ) : Type 0 where
  pub bytes : Holds story (unpacked story packed) (encoded text)
  pub word : packed < 65536
  pub above : static_base_of story ≤ unpacked story packed

-- the abbreviation of a number: the table names the place of its text, halved (3.3), which is in static memory or
-- after, and which ends where texts can be read
pub record HoldsAbbreviation (story : List ℕ) (number : ℕ) (text : List ℕ) : Type 0 where
  pub bytes : Holds story (2 * word_at story (abbreviations_of story + 2 * number)) (encoded text)
  pub above : static_base_of story ≤ 2 * word_at story (abbreviations_of story + 2 * number)
  pub low : 2 * word_at story (abbreviations_of story + 2 * number) + length (encoded text) < 2 ^ 32

-- the line of a source fault, in characters of the machine
abbrev pub fault_line : List ℕ → List ℕ
fault_line words = 13 ∷ codes "[Fault: " ++ words ++ codes "]" ++ 13 ∷ []

-- A story that holds a program
pub record HoldsProgram (story : List ℕ) (a : Addresses) (p : ProgramOf) : Type 0 where
  pub byte_each : All (λ b. b < 256) story
  pub routines : (r : ℕ) → r < length p.routines
      → HoldsRoutine story (sizes_of p) a (slice_index a.routines r) (routine_at p.routines r)
  pub faults : (cause : Cause) → HoldsText story (fault_address a cause) (fault_line (words_of cause))
  -- the code that begins the story
  pub start : Holds story (word_at story 6) (start_code (slice_index a.routines p.main))
  pub start_above : static_base_of story ≤ word_at story 6
  -- 240 words of globals after the header and below static memory, the source's first
  pub globals_above : header_size ≤ globals_of story
  pub globals_below : globals_of story + globals_size ≤ static_base_of story
  pub static_below : static_base_of story ≤ length story
  pub globals : (g : ℕ) → g < length p.globals → word_at story (globals_of story + 2 * g) ≡ slice_index p.globals g
  -- the table of abbreviations, after the header and below the globals, and the texts of the source's
  pub table_above : header_size ≤ abbreviations_of story
  pub table_below : abbreviations_of story + 2 * most_abbreviations ≤ globals_of story
  pub abbreviations : (n : ℕ) → n < length p.abbreviations
      → HoldsAbbreviation story n (abbreviation_at p.abbreviations n)
  -- the arrays, one after another, after the globals and below the objects
  pub first_array : ℕ
  pub arrays : Holds story first_array (concat p.arrays)
  pub arrays_each : (n : ℕ) → n < length p.arrays → slice_index a.arrays n ≡ first_array + offset_in p.arrays n
  pub arrays_above : globals_of story + globals_size ≤ first_array
  pub objects_above : first_array + length (concat p.arrays) ≤ defaults_of story
  -- the objects, below static memory
  pub objects : HoldsRows story p.objects p.defaults
  -- the dictionary of its words, in static memory, which begins where their numbers say
  pub dictionary_above : static_base_of story ≤ dictionary_of story
  pub dictionary_there : dictionary_of story ≡ dictionary_place p
  pub keys : ReadsKeys story (dictionary_of story) p.keys
