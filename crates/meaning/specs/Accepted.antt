-- What the resolved tree of an accepted program satisfies: variables, arrays, routines and arguments are within their
-- limits, no expression needs more than 48 temporaries, no `break` or `continue` stands outside, the keys of words
-- ascend, and there are at most 96 abbreviations, of two characters or more.
use Rattle.std.specs.Prelude.{◌≡◌, ◌≢◌, ◌+◌, ◌^◌, ◌<◌, ◌≤◌, ℕ, Bool, true, List, [], ◌∷◌, length, Option, Some, None}
use Rattle.std.specs.List.{All}
use Rattle.std.specs.List.Sorted.{IsStrictlyIncreasing}
use Rattle.ztext.specs.Bytes.{most_abbreviations}
use Rattle.zcore.specs.Layout.{attribute_count, default_count, most_locals}
use Rattle.meaning.specs.declared.resolved.Variable.{Variable}
use Rattle.meaning.specs.declared.resolved.Variable.TheVariants as variables
use Rattle.meaning.specs.Limits.{operands}
use Rattle.meaning.specs.Resolved.{Value, Values, number, read, call, prefixed, step_before, step_after, binary}
use Rattle.meaning.specs.Resolved.{compare, equal, assign, entry, assign_entry, relative, contained, has, provides}
use Rattle.meaning.specs.Resolved.{property, property_size, property_word, assign_property, assign_property_word}
use Rattle.meaning.specs.Resolved.{name_of, give_to, move_to, remove_from, each_object, each_where, each_in, none, more}
use Rattle.meaning.specs.Resolved.{Printed, text, character_of, number_of, Action, Actions, CasesOf, empty, block}
use Rattle.meaning.specs.Resolved.{text_alone, print, print_return, new_line, if_then, if_else, while_do, do_until}
use Rattle.meaning.specs.Resolved.{for_loop, switch_on, break_out, continue_on, read_line, return_value, quit, effect}
use Rattle.meaning.specs.Resolved.{stop, next, no_case, default_case, case, RoutineOf, ProgramOf}
use Rattle.meaning.specs.Objects.{ObjectOf, object_at}
use Rattle.meaning.specs.Places.{name_words}
use Rattle.meaning.specs.Meaning.{routine_at}
use Rattle.meaning.specs.declared.enclosure.Enclosure.{Enclosure}
use Rattle.meaning.specs.Enclosure.{outside, in_loop, in_switch}
use Rattle.meaning.specs.Limits.{longest_short_name, most_arguments, most_globals, most_objects, most_property_words}
use Rattle.meaning.specs.Limits.{most_temporaries, most_array_bytes}

abbrev pub count_of : Values → ℕ
count_of none = 0
count_of (more v vs) = count_of vs + 1

-- how many temporaries a value needs
abbrev mutual
  pub need_of : Value → ℕ
  need_of (number n) = 1
  need_of (read x) = 1
  need_of (call r vs) = operands 0 (needs_of vs)
  need_of (prefixed op v) = operands 0 (need_of v ∷ [])
  need_of (step_before op x) = 1
  need_of (step_after x op) = 1
  need_of (binary op a b) = operands 0 (need_of a ∷ need_of b ∷ [])
  need_of (compare op a b) = operands 0 (need_of a ∷ need_of b ∷ [])
  need_of (equal op a bs) = operands 0 (need_of a ∷ needs_of bs)
  need_of (assign x v) = operands 0 (need_of v ∷ [])
  need_of (entry width a i) = operands 0 (need_of i ∷ [])
  need_of (assign_entry width a i v) = operands 0 (need_of i ∷ need_of v ∷ [])
  need_of (relative r v) = operands 0 (need_of v ∷ [])
  need_of (contained op a b) = operands 0 (need_of a ∷ need_of b ∷ [])
  need_of (has positive v a) = operands 0 (need_of v ∷ [])
  need_of (provides v p) = operands 0 (need_of v ∷ [])
  need_of (property v p) = operands 0 (need_of v ∷ [])
  need_of (property_size v p) = operands 0 (need_of v ∷ [])
  need_of (property_word v p i) = operands 0 (need_of v ∷ need_of i ∷ [])
  need_of (assign_property v p w) = operands 0 (need_of v ∷ need_of w ∷ [])
  need_of (assign_property_word v p i w) = operands 0 (need_of v ∷ need_of i ∷ need_of w ∷ [])

  pub needs_of : Values → List ℕ
  needs_of none = []
  needs_of (more v vs) = need_of v ∷ needs_of vs

-- properties are numbered from 1 to 63
abbrev pub IsProperty : ℕ → Type 0
IsProperty n = (1 ≤ n) × (n ≤ default_count)

-- in a routine with so many locals of this program
module _ (p : ProgramOf) (locals : ℕ) where
  abbrev pub IsVariable : Variable → Type 0
  IsVariable (variables.Local i) = i < locals
  IsVariable (variables.Global g) = g < length p.globals

  abbrev mutual
    pub IsValue : Value → Type 0
    IsValue (number n) = Unit {0}
    IsValue (read x) = IsVariable x
    IsValue (call r vs) = (r < length p.routines) × (count_of vs ≤ most_arguments)
        × (count_of vs ≤ (routine_at p.routines r).locals) × AreValues vs
    IsValue (prefixed op v) = IsValue v
    IsValue (step_before op x) = IsVariable x
    IsValue (step_after x op) = IsVariable x
    IsValue (binary op a b) = IsValue a × IsValue b
    IsValue (compare op a b) = IsValue a × IsValue b
    IsValue (equal op a bs) = IsValue a × AreValues bs
    IsValue (assign x v) = IsVariable x × IsValue v
    IsValue (entry width a i) = (a < length p.arrays) × IsValue i
    IsValue (assign_entry width a i v) = (a < length p.arrays) × IsValue i × IsValue v
    IsValue (relative r v) = IsValue v
    IsValue (contained op a b) = IsValue a × IsValue b
    IsValue (has positive v a) = (a < attribute_count) × IsValue v
    IsValue (provides v n) = IsProperty n × IsValue v
    IsValue (property v n) = IsProperty n × IsValue v
    IsValue (property_size v n) = IsProperty n × IsValue v
    IsValue (property_word v n i) = IsProperty n × IsValue v × IsValue i
    IsValue (assign_property v n w) = IsProperty n × IsValue v × IsValue w
    IsValue (assign_property_word v n i w) = IsProperty n × IsValue v × IsValue i × IsValue w

    pub AreValues : Values → Type 0
    AreValues none = Unit {0}
    AreValues (more v vs) = IsValue v × AreValues vs

  -- a whole expression of a statement or an item
  abbrev pub IsWhole : Value → Type 0
  IsWhole v = IsValue v × (need_of v ≤ most_temporaries)

  -- a part of a `for`
  abbrev pub IsPart : Option Value → Type 0
  IsPart None = Unit {0}
  IsPart (Some v) = IsWhole v

  abbrev pub IsPrinted : Printed → Type 0
  IsPrinted (text bytes) = Unit {0}
  IsPrinted (character_of v) = IsWhole v
  IsPrinted (number_of v) = IsWhole v
  IsPrinted (name_of v) = IsWhole v

  abbrev mutual
    pub IsAction : Action → Type 0
    IsAction empty = Unit {0}
    IsAction (block xs) = AreActions xs
    IsAction (text_alone bytes) = Unit {0}
    IsAction (print is) = All IsPrinted is
    IsAction (print_return is) = All IsPrinted is
    IsAction new_line = Unit {0}
    IsAction (if_then v a) = IsWhole v × IsAction a
    IsAction (if_else v a b) = IsWhole v × IsAction a × IsAction b
    IsAction (while_do v a) = IsWhole v × IsAction a
    IsAction (do_until a v) = IsAction a × IsWhole v
    IsAction (for_loop x y z a) = IsPart x × IsPart y × IsPart z × IsAction a
    IsAction (switch_on v cs) = IsWhole v × AreCases cs
    IsAction break_out = Unit {0}
    IsAction continue_on = Unit {0}
    IsAction (read_line a b) = (a < length p.arrays) × (b < length p.arrays) × (a ≢ b)
    IsAction (give_to v changes) = IsWhole v × All (λ (c : Bool × ℕ). c.1 < attribute_count) changes
    IsAction (move_to v w) = IsValue v × IsValue w × (operands 0 (need_of v ∷ need_of w ∷ []) ≤ most_temporaries)
    IsAction (remove_from v) = IsWhole v
    IsAction (each_object x a) = IsVariable x × IsAction a
    IsAction (each_where x v a) = IsVariable x × IsWhole v × IsAction a
    IsAction (each_in x v a) = IsVariable x × IsWhole v × IsAction a
    IsAction (return_value v) = IsWhole v
    IsAction quit = Unit {0}
    IsAction (effect v) = IsWhole v

    pub AreActions : Actions → Type 0
    AreActions stop = Unit {0}
    AreActions (next a rest) = IsAction a × AreActions rest

    pub AreCases : CasesOf → Type 0
    AreCases no_case = Unit {0}
    AreCases (default_case xs) = AreActions xs
    AreCases (case gs xs rest) = AreActions xs × AreCases rest

-- each `break` stands in a loop or a `switch`, each `continue` in a loop, by what is around a statement
abbrev mutual
  pub StandsIn : Enclosure → Action → Type 0
  StandsIn around (block xs) = AllStandIn around xs
  StandsIn around (if_then v a) = StandsIn around a
  StandsIn around (if_else v a b) = StandsIn around a × StandsIn around b
  StandsIn around (while_do v a) = StandsIn in_loop a
  StandsIn around (do_until a v) = StandsIn in_loop a
  StandsIn around (for_loop x y z a) = StandsIn in_loop a
  StandsIn around (switch_on v cs) = CasesStandIn (in_switch around) cs
  StandsIn around (each_object x a) = StandsIn in_loop a
  StandsIn around (each_where x v a) = StandsIn in_loop a
  StandsIn around (each_in x v a) = StandsIn in_loop a
  StandsIn around break_out = around.can_break ≡ true
  StandsIn around continue_on = around.can_continue ≡ true
  StandsIn around _ = Unit {0}

  pub AllStandIn : Enclosure → Actions → Type 0
  AllStandIn around stop = Unit {0}
  AllStandIn around (next a rest) = StandsIn around a × AllStandIn around rest

  pub CasesStandIn : Enclosure → CasesOf → Type 0
  CasesStandIn around no_case = Unit {0}
  CasesStandIn around (default_case xs) = AllStandIn around xs
  CasesStandIn around (case gs xs rest) = AllStandIn around xs × CasesStandIn around rest

abbrev pub IsRoutine : ProgramOf → RoutineOf → Type 0
IsRoutine p r = (r.locals ≤ most_locals) × AreActions p r.locals r.body × AllStandIn outside r.body

abbrev pub IsArray : List ℕ → Type 0
IsArray bytes = length bytes ≤ most_array_bytes

-- an object's parent stands earlier; its name, attributes and properties are within their limits
pub record IsObject (o : ObjectOf) (earlier : ℕ) : Type 0 where
  pub parent : o.parent ≤ earlier
  pub name : name_words o.name ≤ longest_short_name
  pub attributes : All (λ a. a < attribute_count) o.attributes
  pub numbers : All (λ (x : ℕ × List ℕ). IsProperty x.0) o.properties
  pub words : All (λ (x : ℕ × List ℕ). (1 ≤ length x.1) × (length x.1 ≤ most_property_words) × All (λ w. w < 65536) x.1)
      o.properties

pub record IsAccepted (p : ProgramOf) : Type 0 where
  pub globals : length p.globals ≤ most_globals
  pub arrays : All IsArray p.arrays
  pub defaults : (length p.defaults ≡ default_count) × All (λ w. w < 65536) p.defaults
  pub few : length p.objects ≤ most_objects
  pub objects : (k : ℕ) → k < length p.objects → IsObject (object_at p.objects (k + 1)) k
  pub routines : All (IsRoutine p) p.routines
  pub main : p.main < length p.routines
  pub alone : (routine_at p.routines p.main).locals ≡ 0
  -- the keys of words have six bytes, and ascend
  pub keys : All (λ k. k < 2 ^ 48) p.keys
  pub ascending : IsStrictlyIncreasing p.keys
  pub few_abbreviations : length p.abbreviations ≤ most_abbreviations
  pub abbreviations : All (λ (a : List ℕ). 2 ≤ length a) p.abbreviations
