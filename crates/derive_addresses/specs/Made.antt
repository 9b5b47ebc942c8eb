-- The routines of entries: `x__word` and kin find the array by its number, and call a routine for it.
use Rattle.std.specs.Prelude.{◌+◌, ℕ, List, [], ◌∷◌, ◌++◌, codes, length, if◌then◌else◌}
use Rattle.std.specs.Fmt.{decimal}
use Rattle.derive_tokens.specs.Names.{is_among}
use Rattle.derive_routines.specs.Search.{Arm, Search, search_text}
use Rattle.derive_entries.specs.Arrays.{first_place}

-- a way to use an entry: the routine that finds the array, its locals, and the routines for each array: how their names
-- begin, what is before the name of the array, and what is behind it
pub record Access : Type 0 where
  pub routine : List ℕ
  pub locals : List (List ℕ)
  pub prefix : List ℕ
  pub start : List ℕ
  pub rest : List ℕ

abbrev pub read_locals : List (List ℕ)
read_locals = codes "x__v" ∷ codes "x__i" ∷ []

abbrev pub set_locals : List (List ℕ)
set_locals = codes "x__v" ∷ codes "x__i" ∷ codes "x__e" ∷ []

abbrev pub word_read : Access
word_read = record {
  routine = codes "x__word";
  locals = read_locals;
  prefix = codes "x__w";
  start = codes " x__i;return ";
  rest = codes "-->x__i;];";
}

abbrev pub byte_read : Access
byte_read = record {
  routine = codes "x__byte";
  locals = read_locals;
  prefix = codes "x__b";
  start = codes " x__i;return ";
  rest = codes "->x__i;];";
}

abbrev pub word_set : Access
word_set = record {
  routine = codes "x__set_word";
  locals = set_locals;
  prefix = codes "x__sw";
  start = codes " x__i x__e;return ";
  rest = codes "-->x__i=x__e;];";
}

abbrev pub byte_set : Access
byte_set = record {
  routine = codes "x__set_byte";
  locals = set_locals;
  prefix = codes "x__sb";
  start = codes " x__i x__e;return ";
  rest = codes "->x__i=x__e;];";
}

-- ---- for each array

abbrev pub entry_routine : Access → ℕ → List ℕ → List ℕ
entry_routine a value array = codes "[ " ++ a.prefix ++ decimal value ++ a.start ++ array ++ a.rest

abbrev pub entry_routines : Access → ℕ → List (List ℕ) → List ℕ
entry_routines a value [] = []
entry_routines a value (n ∷ ns) = entry_routine a value n ++ entry_routines a (value + 1) ns

-- It is given all locals behind the value.
abbrev pub entry_arm : Access → ℕ → Arm
entry_arm a value = record {
  value = value;
  routine = a.prefix ++ decimal value;
  skipped = 1;
  count = length a.locals;
}

abbrev pub entry_arms : Access → ℕ → List (List ℕ) → List Arm
entry_arms a value [] = []
entry_arms a value (n ∷ ns) = entry_arm a value ∷ entry_arms a (value + 1) ns

-- ---- the routine that finds it

abbrev pub entry_search : Access → Search
entry_search a = record {
  routine = a.routine;
  locals = a.locals;
  first = [];
  notice = codes "^[Fault: not an array]^";
}

abbrev pub access_text : Access → List (List ℕ) → List ℕ
access_text a places =
    entry_routines a first_place places ++ search_text (entry_search a) first_place (entry_arms a first_place places)

-- where the file uses it
abbrev pub access_given : List (List ℕ) → List (List ℕ) → Access → List ℕ
access_given names places a = if is_among names a.routine then access_text a places else []

-- all of them, of a file with these names, arrays as values, and places with words
abbrev pub entries_made : List (List ℕ) → List (List ℕ) → List (List ℕ) → List ℕ
entries_made names arrays places =
    access_given names places word_read ++ access_given names arrays byte_read
    ++ access_given names places word_set ++ access_given names arrays byte_set
