-- What the opcodes on objects do in memory that holds the objects of a source (Z-Machine Standards Document 1.1,
-- section 15).
use Rattle.std.specs.Prelude.{◌≡◌, ◌==◌, ◌+◌, ◌-◌, ◌*◌, ◌<◌, ◌≤◌, ℕ, true, false, List, [], ◌∷◌, length, map}
use Rattle.std.specs.Prelude.{slice_index, slice_set, Option, Some, None}
use Rattle.std.specs.List.{All}
use Rattle.ztext.specs.Text.{Holds}
use Rattle.zcore.specs.declared.instruction.Branch.{Branch}
use Rattle.zcore.specs.declared.next.Next.{Next}
use Rattle.zcore.specs.Effects.{give_result, print_characters}
use Rattle.zcore.specs.Execution.{load_word, store_word}
use Rattle.zcore.specs.Header.{defaults_of, static_base_of}
use Rattle.zcore.specs.Objects.{test_attribute, set_attribute, clear_attribute, jump_if_in, get_parent, get_child}
use Rattle.zcore.specs.Objects.{get_sibling, give_object, remove_object, insert_object, print_object}
use Rattle.zcore.specs.ObjectProperties.{get_property, get_property_address, get_property_length}
use Rattle.zcore.specs.Parts.{branch_on}
use Rattle.zcore.specs.State.{State, Out, done}
use Rattle.zcore.specs.Layout.{attribute_count, default_count, header_size, text_limit}
use Rattle.syntax_lexer.specs.Printable.{IsPrintable}
use Rattle.syntax_trees.specs.declared.tree.Relative.TheVariants as relatives
use Rattle.meaning.specs.Accepted.{IsObject}
use Rattle.meaning.specs.Forests.{IsObjectNumber}
use Rattle.meaning.specs.Objects.{Objects, ObjectOf, object_at, relative_in, first_objects, with_attribute, with_words}
use Rattle.meaning.specs.Objects.{removed, moved}
use Rattle.meaning.specs.Places.{machine_character}
use Rattle.code.specs.Region.{HasObjects, KeepsRest, KeepsRegion, tables_base}
use Rattle.code.specs.Rows.{rows_of, rows_bytes, rows_length}
use Rattle.code.specs.Tables.{words_place, PropertyTable}

-- objects of a source that may begin: what an accepted program says of each, and names that can be printed
pub record AreProper (definitions : List ObjectOf) : Type 0 where
  pub each : (k : ℕ) → k < length definitions → IsObject (object_at definitions (k + 1)) k
  pub names : All (λ (o : ObjectOf). All IsPrintable o.name) definitions

-- a whole object table stands in a story, and ends where static memory begins or before
pub record HoldsRows (story : List ℕ) (definitions : List ObjectOf) (defaults : List ℕ) : Type 0 where
  pub stand : Holds story (defaults_of story) (rows_bytes (rows_of definitions) defaults (defaults_of story))
  pub above : header_size ≤ defaults_of story
  pub below : defaults_of story + rows_length (rows_of definitions) ≤ static_base_of story

module _ (definitions : List ObjectOf) (defaults : List ℕ) where
  abbrev pub IsNumber : ℕ → Type 0
  IsNumber o = IsObjectNumber (length definitions) o

  -- the machine goes on, and its memory holds other objects; all else is as it was
  pub record Changes (objects : Objects) (run : State → Out Next) (next : Next) (s : State) : Type 0 where
    pub memory : List ℕ
    pub tables : List PropertyTable
    pub does : run s ≡ done next (record s { memory = memory })
    pub has : HasObjects definitions defaults objects tables memory
    pub keeps : KeepsRest s.memory memory

  abbrev pub on : Next → ℕ → Next
  on here after = record { program_counter = after; fuel = here.fuel }

  -- of a state whose memory holds objects
  pub record Acts (objects : Objects) (tables : List PropertyTable) (s : State)
      (has : HasObjects definitions defaults objects tables s.memory) : Type 0
    where
      -- links
      pub parent : (here : Next) (after : ℕ) (result : Option ℕ) (o : ℕ) → IsNumber o
          → get_parent here after result o s
          ≡ give_result here after result (relative_in relatives.Parent o objects.tree) s
      pub child : (here : Next) (after : ℕ) (result : Option ℕ) (branch : Option Branch) (o : ℕ) → IsNumber o
          → get_child here after result branch o s
          ≡ give_object here after result branch (relative_in relatives.Child o objects.tree) s
      pub sibling : (here : Next) (after : ℕ) (result : Option ℕ) (branch : Option Branch) (o : ℕ) → IsNumber o
          → get_sibling here after result branch o s
          ≡ give_object here after result branch (relative_in relatives.Sibling o objects.tree) s
      pub stands_in : (here : Next) (after : ℕ) (branch : Option Branch) (o other : ℕ) → IsNumber o
          → jump_if_in here after branch o other s
          ≡ branch_on here after branch (objects.tree.parent o == other) s
      pub removes : (here : Next) (after o : ℕ) → IsNumber o
          → Changes (record objects { tree = removed o objects.tree }) (remove_object here after o) (on here after) s
      pub moves : (here : Next) (after o into : ℕ) → IsNumber o → IsNumber into
          → Changes (record objects { tree = moved o into objects.tree }) (insert_object here after o into)
          (on here after) s
      -- attributes
      pub attribute : (here : Next) (after : ℕ) (branch : Option Branch) (o a : ℕ) → IsNumber o → a < attribute_count
          → test_attribute here after branch o a s ≡ branch_on here after branch (objects.attributes o a) s
      pub sets : (here : Next) (after o a : ℕ) → IsNumber o → a < attribute_count
          → Changes (with_attribute o a true objects) (set_attribute here after o a) (on here after) s
      pub clears : (here : Next) (after o a : ℕ) → IsNumber o → a < attribute_count
          → Changes (with_attribute o a false objects) (clear_attribute here after o a) (on here after) s
      -- properties
      pub absent : (here : Next) (after : ℕ) (result : Option ℕ) (o q : ℕ) → IsNumber o → 1 ≤ q → q ≤ default_count
          → objects.properties o q ≡ None
          → get_property_address here after result o q s ≡ give_result here after result 0 s
      pub default : (here : Next) (after : ℕ) (result : Option ℕ) (o q : ℕ) → IsNumber o → 1 ≤ q → q ≤ default_count
          → objects.properties o q ≡ None
          → get_property here after result o q s ≡ give_result here after result (slice_index defaults (q - 1)) s
      pub present : (here : Next) (after : ℕ) (result : Option ℕ) (o q : ℕ) (words : List ℕ) → IsNumber o
          → objects.properties o q ≡ Some words
          → get_property_address here after result o q s
          ≡ give_result here after result (words_place (tables_base (length definitions) s.memory) tables o q) s
      pub single : (here : Next) (after : ℕ) (result : Option ℕ) (o q w : ℕ) → IsNumber o
          → objects.properties o q ≡ Some (w ∷ [])
          → get_property here after result o q s ≡ give_result here after result w s
      pub long : (here : Next) (after : ℕ) (result : Option ℕ) (o q : ℕ) (words : List ℕ) → IsNumber o
          → objects.properties o q ≡ Some words
          → get_property_length here after result (words_place (tables_base (length definitions) s.memory) tables o q) s
          ≡ give_result here after result (2 * length words) s
      pub loads : (here : Next) (after : ℕ) (result : Option ℕ) (o q i : ℕ) (words : List ℕ) → IsNumber o
          → objects.properties o q ≡ Some words → i < length words
          → load_word here after result (words_place (tables_base (length definitions) s.memory) tables o q) i s
          ≡ give_result here after result (slice_index words i) s
      pub stores : (here : Next) (after o q i v : ℕ) (words : List ℕ) → IsNumber o
          → objects.properties o q ≡ Some words → i < length words
          → Changes (with_words o q (slice_set words i v) objects)
          (store_word here after (words_place (tables_base (length definitions) s.memory) tables o q) i v)
          (on here after) s
      -- names; of an empty one nothing is printed, which is as if it were printed where the text of the turn has room
      pub prints : (here : Next) (after o : ℕ) → IsNumber o
          → ((object_at definitions o).name ≡ [] → length s.text ≤ text_limit)
          → print_object here after o s
          ≡ print_characters here after (map machine_character ((object_at definitions o).name)) s

  -- where the words of a property stand, if the object provides it, is a place in dynamic memory
  pub record Placed (objects : Objects) (tables : List PropertyTable) (memory : List ℕ) : Type 0 where
    pub within : (o q : ℕ) (words : List ℕ) → IsNumber o → objects.properties o q ≡ Some words
        → (1 ≤ length words) × (length words ≤ 32)
        × (header_size < words_place (tables_base (length definitions) memory) tables o q)
        × (words_place (tables_base (length definitions) memory) tables o q + 2 * length words ≤ static_base_of memory)

-- The laws of the region

pub record RegionLaws : Type 0 where
  pub begins : (story : List ℕ) (definitions : List ObjectOf) (defaults : List ℕ) → AreProper definitions
      → length defaults ≡ default_count → All (λ w. w < 65536) defaults → HoldsRows story definitions defaults
      → static_base_of story ≤ length story → static_base_of story ≤ 65535
      → (tables : List PropertyTable) × HasObjects definitions defaults (first_objects definitions) tables story
  pub keeps : (definitions : List ObjectOf) (defaults : List ℕ) (objects : Objects) (tables : List PropertyTable)
      (old new : List ℕ) → HasObjects definitions defaults objects tables old → KeepsRegion old new
      → HasObjects definitions defaults objects tables new
  pub placed : (definitions : List ObjectOf) (defaults : List ℕ) (objects : Objects) (tables : List PropertyTable)
      (memory : List ℕ) → HasObjects definitions defaults objects tables memory
      → Placed definitions defaults objects tables memory
  pub acts : (definitions : List ObjectOf) (defaults : List ℕ) (objects : Objects) (tables : List PropertyTable)
      (s : State)
      → (has : HasObjects definitions defaults objects tables s.memory)
      → Acts definitions defaults objects tables s has
