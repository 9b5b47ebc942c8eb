-- What a running source changes, and the acts that change it.
use Rattle.std.specs.Prelude.{◌+◌, ◌*◌, ◌/◌, ◌%◌, ◌==◌, ◌&&◌, ℕ, zero, suc, nat_le, nat_lt, Bool, if◌then◌else◌, List}
use Rattle.std.specs.Prelude.{[], ◌∷◌, ◌++◌, codes, length, take, slice_index, slice_index_or, slice_set, Option, Some}
use Rattle.std.specs.Prelude.{None}
use Rattle.ztext.specs.Bytes.{word_at}
use Rattle.zcore.specs.Parts.{with_word}
use Rattle.zcore.specs.declared.place.Place.{Place}
use Rattle.zcore.specs.declared.place.Place.TheVariants as places
use Rattle.zcore.specs.declared.place.Limit.TheVariants as limits
use Rattle.zcore.specs.Turn.{notice}
use Rattle.zcore.specs.Layout.{text_limit}
use Rattle.syntax_trees.specs.declared.tree.Relative.{Relative}
use Rattle.syntax_trees.specs.declared.tree.Width.{Width}
use Rattle.syntax_trees.specs.declared.tree.Width.TheVariants as widths
use Rattle.meaning.specs.declared.cause.Cause.{Cause}
use Rattle.meaning.specs.declared.cause.Cause.TheVariants as causes
use Rattle.meaning.specs.Objects.{Objects, Tree, Climbed, clear, inside, spent, climb, relative_in, removed, moved}
use Rattle.meaning.specs.Objects.{with_attribute, with_words}
use Rattle.meaning.specs.declared.resolved.Variable.{Variable}
use Rattle.meaning.specs.declared.resolved.Variable.TheVariants as variables

-- A whole run: the text of each turn, the opening's first, and where the last turn left the story.
pub record Outcome : Type 0 where
  pub texts : List (List ℕ)
  pub place : Place

-- The world of a running source. Text is in bytes of the transcript: a new line is byte 10.
pub record World : Type 0 where
  pub globals : List ℕ
  -- the bytes of each array
  pub arrays : List (List ℕ)
  pub objects : Objects
  -- the units that the turn may still spend
  pub fuel : ℕ
  -- the lines that are still to come
  pub lines : List (List ℕ)
  -- what the turn has printed
  pub text : List ℕ
  -- the texts of the turns before it
  pub texts : List (List ℕ)

-- where a routine stands: its locals, and the world
pub record Situation : Type 0 where
  pub locals : List ℕ
  pub world : World

-- A part of a source comes to a value and a situation, or the run ends there.
pub data Comes (A : Type 0) : Type 0 where
  to : A → Situation → Comes A
  over : Outcome → Comes A

abbrev pub Part : Type 0 → Type 0
Part A = Situation → Comes A

abbrev pub bound : {A B : Type 0} → Comes A → (A → Part B) → Comes B
bound (to a s) k = k a s
bound (over outcome) k = over outcome

infixl 10 ◌>>=◌
abbrev pub ◌>>=◌ : {A B : Type 0} → Part A → (A → Part B) → Part B
(f >>= k) s = bound (f s) k

-- nothing is done
abbrev pub give : {A : Type 0} → A → Part A
give a s = to a s

-- how a run ends; a limit's notice follows the text
abbrev pub ended : Place → World → Outcome
ended place w = record { texts = w.texts ++ (w.text ++ notice place) ∷ []; place = place }

abbrev pub ends : {A : Type 0} → Place → Part A
ends place s = over (ended place s.world)

-- Text

-- at most 65,536 bytes in a turn; those that fit stand
abbrev pub put : List ℕ → Part (Unit {0})
put bytes s =
    if nat_le (length (s.world.text ++ bytes)) text_limit
    then to tt (record s { world = record (s.world) { text = s.world.text ++ bytes } })
    else over (ended (places.Limit limits.Text) (record (s.world) { text = take text_limit (s.world.text ++ bytes) }))

-- what stands between the quotes of a text: `^` is a new line, `~` a double quote
abbrev pub shown : ℕ → ℕ
shown character =
    if character == 94 then 10
    else (if character == 126 then 34
    else character)

-- Faults

-- what a fault's line says
abbrev pub words_of : Cause → List ℕ
words_of causes.DivisionByZero = codes "division by zero"
words_of causes.NotAnObject = codes "not an object"
words_of causes.IndexOutOfRange = codes "index out of range"
words_of causes.NoSuchProperty = codes "no such property"
words_of causes.PropertyOfManyWords = codes "property of many words"
words_of causes.ObjectInsideItself = codes "object inside itself"
words_of causes.NotACharacter = codes "not a character"
words_of causes.BufferTooSmall = codes "buffer too small"

-- a source fault prints its line, and the story quits
abbrev pub fault : {A : Type 0} → Cause → Part A
fault cause = put (10 ∷ codes "[Fault: " ++ words_of cause ++ codes "]" ++ 10 ∷ []) >>= λ _. ends places.Quit

-- Fuel

abbrev pub spend_from : ℕ → Part (Unit {0})
spend_from zero s = over (ended (places.Limit limits.Fuel) s.world)
spend_from (suc fuel) s = to tt (record s { world = record (s.world) { fuel = fuel } })

-- a unit is spent
abbrev pub spend : Part (Unit {0})
spend s = spend_from s.world.fuel s

-- every unit that a run may still spend, whatever lines it reads, where each line brings so many
abbrev pub units : ℕ → World → ℕ
units full w = w.fuel + full * length w.lines

-- Variables

abbrev pub value_in : Variable → Situation → ℕ
value_in (variables.Local i) s = slice_index s.locals i
value_in (variables.Global g) s = slice_index s.world.globals g

abbrev pub read_variable : Variable → Part ℕ
read_variable x s = to (value_in x s) s

abbrev pub with_value : Variable → ℕ → Situation → Situation
with_value (variables.Local i) value s = record s { locals = slice_set s.locals i value }
with_value (variables.Global g) value s = record
    s { world = record (s.world) { globals = slice_set s.world.globals g value } }

abbrev pub write_variable : Variable → ℕ → Part (Unit {0})
write_variable x value s = to tt (with_value x value s)

-- Arrays

abbrev pub array_at : List (List ℕ) → ℕ → List ℕ
array_at arrays a = slice_index_or arrays a []

-- how many entries an array has: as many as bytes, or half as many words, rounded down
abbrev pub entry_count : Width → List ℕ → ℕ
entry_count widths.Byte bytes = length bytes
entry_count widths.Word bytes = length bytes / 2

-- An index is signed: at least 0, that is, a word below 32,768; and below the number of entries.
abbrev pub is_index : Width → List ℕ → ℕ → Bool
is_index width bytes i = nat_lt i 32768 && nat_lt i (entry_count width bytes)

abbrev pub entry_at : Width → List ℕ → ℕ → ℕ
entry_at widths.Byte bytes i = slice_index bytes i
entry_at widths.Word bytes i = word_at bytes (2 * i)

-- a byte keeps the low eight bits
abbrev pub with_entry : Width → List ℕ → ℕ → ℕ → List ℕ
with_entry widths.Byte bytes i value = slice_set bytes i (value % 256)
with_entry widths.Word bytes i value = with_word bytes (2 * i) value

abbrev pub read_entry : Width → ℕ → ℕ → Part ℕ
read_entry width a i s =
    if is_index width (array_at s.world.arrays a) i then to (entry_at width (array_at s.world.arrays a) i) s
    else fault causes.IndexOutOfRange s

abbrev pub with_array : ℕ → List ℕ → Situation → Situation
with_array a bytes s = record s { world = record (s.world) { arrays = slice_set s.world.arrays a bytes } }

abbrev pub write_entry : Width → ℕ → ℕ → ℕ → Part (Unit {0})
write_entry width a i value s =
    if is_index width (array_at s.world.arrays a) i
    then to tt (with_array a (with_entry width (array_at s.world.arrays a) i value) s)
    else fault causes.IndexOutOfRange s

-- Objects

-- an object is a number from 1 to the number of objects
abbrev pub is_object : ℕ → ℕ → Bool
is_object count o = nat_le 1 o && nat_le o count

-- the test that a word is one of so many objects
abbrev pub test_object : ℕ → ℕ → Part (Unit {0})
test_object count o = if is_object count o then give tt else fault causes.NotAnObject

abbrev pub with_objects : Objects → Situation → Situation
with_objects objects s = record s { world = record (s.world) { objects = objects } }

abbrev pub relative_of : Relative → ℕ → Part ℕ
relative_of relative o s = to (relative_in relative o s.world.objects.tree) s

-- Attributes

abbrev pub has_attribute : ℕ → ℕ → Part Bool
has_attribute o a s = to (s.world.objects.attributes o a) s

abbrev pub give_attribute : ℕ → ℕ → Bool → Part (Unit {0})
give_attribute o a has s = to tt (with_objects (with_attribute o a has s.world.objects) s)

-- Properties

-- the words of a property, where the object provides it
abbrev pub words_provided : ℕ → ℕ → Part (Option (List ℕ))
words_provided o p s = to (s.world.objects.properties o p) s

abbrev pub test_provided : Option (List ℕ) → Part (List ℕ)
test_provided None = fault causes.NoSuchProperty
test_provided (Some words) = give words

abbrev pub test_single : List ℕ → Part (Unit {0})
test_single words = if length words == 1 then give tt else fault causes.PropertyOfManyWords

-- the index of a word of a property is signed, as that of an array is
abbrev pub test_word : ℕ → List ℕ → Part (Unit {0})
test_word i words = if nat_lt i 32768 && nat_lt i (length words) then give tt else fault causes.IndexOutOfRange

-- the word of a property that has one; of one that the object does not provide, the default
abbrev pub single_word : ℕ → Option (List ℕ) → Part ℕ
single_word default None = give default
single_word default (Some words) = do
  _ ← test_single words
  give (slice_index words 0)

abbrev pub size_of : Option (List ℕ) → ℕ
size_of None = 0
size_of (Some words) = 2 * length words

abbrev pub write_words : ℕ → ℕ → List ℕ → Part (Unit {0})
write_words o p words s = to tt (with_objects (with_words o p words s.world.objects) s)

-- Moves

abbrev pub with_tree : Tree → Situation → Situation
with_tree tree s = with_objects (record (s.world.objects) { tree = tree }) s

abbrev pub remove_object : ℕ → Part (Unit {0})
remove_object o s = to tt (with_tree (removed o s.world.objects.tree) s)

-- what the test of a move comes to
abbrev pub move_by : ℕ → ℕ → Climbed → Part (Unit {0})
move_by o into (clear fuel) s = to tt (with_tree (moved o into s.world.objects.tree)
    (record s { world = record (s.world) { fuel = fuel } }))
move_by o into inside s = fault causes.ObjectInsideItself s
move_by o into spent s = over (ended (places.Limit limits.Fuel) (record (s.world) { fuel = 0 }))

abbrev pub move_object : ℕ → ℕ → Part (Unit {0})
move_object o into s = move_by o into (climb s.world.objects.tree.parent o into s.world.fuel) s
