-- What a checked program takes. Its weight, its tables and its story are those of `meaning`, `code` and `story_file`.
use Rattle.std.specs.Prelude.{◌≡◌, ◌+◌, ◌*◌, ◌≤◌, ◌^◌, ℕ, nat_le, Bool, true, false, if◌then◌else◌}
use Rattle.std.specs.Prelude.{List, [], ◌∷◌, length, map, take, Some, None, Result, Ok, Err}
use Rattle.std.specs.Global.{Vec}
use Rattle.std.specs.List.{All}
use Rattle.tables.specs.KeyNumbers.{entry_size, head_size}
use Rattle.zcore.specs.Layout.{defaults_size}
use Rattle.zcore.specs.declared.header.Version.{Version}
use Rattle.syntax_lexer.specs.declared.fault.SourceFault.{SourceFault}
use Rattle.syntax_directives.specs.Tree.{DirectiveTree, global, constant, array, attribute, property, object, routine}
use Rattle.meaning.specs.declared.checked.CheckedObject.{CheckedObject}
use Rattle.meaning.specs.declared.checked.CheckedRoutine.{CheckedRoutine}
use Rattle.meaning.specs.Resolved.{ProgramOf}
use Rattle.meaning.specs.Views.{CheckedProgram, program_of, routine_of}
use Rattle.meaning.specs.Limits.{most_property_words}
use Rattle.meaning.specs.Places.{arrays_size, objects_size, key_count, filling_before, dictionary_end, abbreviations_size}
use Rattle.meaning.specs.Places.{arrays_place, routines_place, start_size, total}
use Rattle.code.specs.Sizes.{routine_size}
use Rattle.code.specs.HeldProgram.{sizes_of}
use Rattle.story_file.specs.Layout.{story_of}
use Rattle.story.specs.declared.sized.Limit.{Limit}
use Rattle.story.specs.Large.{checked_fault_by}
use Rattle.messages_diagnosis.specs.declared.routine_figures.RoutineFigures.{RoutineFigures}
use Rattle.messages_diagnosis.specs.declared.table_bytes.TableBytes.{TableBytes}
use Rattle.messages_diagnosis.specs.declared.measuring.Counts.{Counts}
use Rattle.messages_diagnosis.specs.declared.measuring.Figures.{Figures}

-- Counts

abbrev pub is_attribute : DirectiveTree → Bool
is_attribute (global n v) = false
is_attribute (constant n v) = false
is_attribute (array a) = false
is_attribute (attribute n) = true
is_attribute (property n v) = false
is_attribute (object o) = false
is_attribute (routine r) = false

abbrev pub is_property : DirectiveTree → Bool
is_property (global n v) = false
is_property (constant n v) = false
is_property (array a) = false
is_property (attribute n) = false
is_property (property n v) = true
is_property (object o) = false
is_property (routine r) = false

-- for how many a test holds
abbrev pub how_many : (DirectiveTree → Bool) → List DirectiveTree → ℕ
how_many test [] = 0
how_many test (d ∷ ds) = (if test d then 1 else 0) + how_many test ds

abbrev pub attributes_in : List DirectiveTree → ℕ
attributes_in ds = how_many is_attribute ds

abbrev pub properties_in : List DirectiveTree → ℕ
properties_in ds = how_many is_property ds

-- of a program that defines so many attributes and properties
abbrev pub counts_in : CheckedProgram → ℕ → ℕ → Counts
counts_in c attributes properties = record {
  globals = length c.globals;
  attributes = attributes;
  properties = properties;
  objects = length c.objects;
  words = length c.keys;
  abbreviations = length c.abbreviations;
  routines = length c.routines;
}

-- Tables

abbrev pub table_total : TableBytes → ℕ
table_total t = t.arrays + t.objects + t.words + t.abbreviations

-- how many bytes stand before the routines beside these tables: the header, the table of abbreviations, the empty text,
-- the globals, the property defaults, the head of the dictionary, and the code that begins the story
abbrev pub fixed_size : ℕ
fixed_size = arrays_place + defaults_size + head_size + start_size

-- the bytes of each table that grows with a source
pub record AreTables (p : ProgramOf) (t : TableBytes) : Type 0 where
  pub arrays : t.arrays ≡ arrays_size p
  pub objects : t.objects ≡ objects_size p.objects
  pub words : t.words ≡ entry_size * key_count p
  pub abbreviations : t.abbreviations ≡ filling_before p.abbreviations (dictionary_end p) + abbreviations_size p
  pub all : fixed_size + table_total t ≡ routines_place p

-- Routines

-- name, weight and bytes of a routine of a program
abbrev pub figures_in : CheckedProgram → CheckedRoutine → RoutineFigures
figures_in c r = record { name = r.name; weight = r.weight; size = routine_size (sizes_of (program_of c)) (routine_of r) }

-- a routine before the first of others that weighs no more
abbrev pub placed : RoutineFigures → List RoutineFigures → List RoutineFigures
placed r [] = r ∷ []
placed r (s ∷ ss) = if nat_le s.weight r.weight then r ∷ s ∷ ss else s ∷ placed r ss

-- in descending order of weight, and those that weigh as much in order of definition
abbrev pub ranked : List RoutineFigures → List RoutineFigures
ranked [] = []
ranked (r ∷ rs) = placed r (ranked rs)

abbrev pub heaviest_in : CheckedProgram → List RoutineFigures
heaviest_in c = take 10 (ranked (map (figures_in c) c.routines))

abbrev pub size_of : RoutineFigures → ℕ
size_of r = r.size

abbrev pub code_bytes_in : CheckedProgram → ℕ
code_bytes_in c = total (map size_of (map (figures_in c) c.routines))

-- The story

-- how many bytes it has, or why there is none
abbrev pub IsStoryOfChecked : Limit → Version → CheckedProgram → Result ℕ SourceFault → Type 0
IsStoryOfChecked limit version c (Ok n) =
    (checked_fault_by limit version c ≡ None) × (n ≡ length (story_of version (program_of c)))
IsStoryOfChecked limit version c (Err f) = checked_fault_by limit version c ≡ Some f

pub record AreFiguresOfChecked (limit : Limit) (version : Version) (c : CheckedProgram) (f : Figures) : Type 0 where
  pub weight : f.weight ≡ c.weight
  pub for_version : f.version ≡ version
  pub by_limit : f.limit ≡ limit
  pub heaviest : f.heaviest.items ≡ heaviest_in c
  pub code : f.code ≡ code_bytes_in c
  pub tables : AreTables (program_of c) f.tables
  pub table_total : f.table_total ≡ table_total f.tables
  pub story : IsStoryOfChecked limit version c f.story

-- Words of proofs

-- a property with at most 32 words, as each of an accepted program is
abbrev pub HasFewWords : ℕ × Vec ℕ → Type 0
HasFewWords x = length x.1.items ≤ most_property_words

abbrev pub ObjectHasFewWords : CheckedObject → Type 0
ObjectHasFewWords o = All HasFewWords o.properties.items

-- tables whose sum is no large number
pub record IsSummable (t : TableBytes) : Type 0 where
  pub objects : t.objects ≤ 150000 * 2 ^ 64
  pub words : t.words ≤ 2 ^ 64
  pub abbreviations : t.abbreviations ≤ 2000 * 2 ^ 64
