-- Statements and expressions whose names are resolved, without where they lie in memory.
use Rattle.std.specs.Prelude.{ℕ, Bool, List, Option}
use Rattle.syntax_trees.specs.declared.tree.Binary.{Binary}
use Rattle.syntax_trees.specs.declared.tree.Comparison.{Comparison}
use Rattle.syntax_trees.specs.declared.tree.Equality.{Equality}
use Rattle.syntax_trees.specs.declared.tree.Containment.{Containment}
use Rattle.syntax_trees.specs.declared.tree.Prefix.{Prefix}
use Rattle.syntax_trees.specs.declared.tree.Relative.{Relative}
use Rattle.syntax_trees.specs.declared.tree.Step.{Step}
use Rattle.syntax_trees.specs.declared.tree.Width.{Width}
use Rattle.meaning.specs.Objects.{ObjectOf}
use Rattle.meaning.specs.declared.resolved.Variable.{Variable}

mutual
  pub data Value : Type 0 where
    number : ℕ → Value
    read : Variable → Value
    call : ℕ → Values → Value
    prefixed : Prefix → Value → Value
    step_before : Step → Variable → Value
    step_after : Variable → Step → Value
    binary : Binary → Value → Value → Value
    compare : Comparison → Value → Value → Value
    equal : Equality → Value → Values → Value
    assign : Variable → Value → Value
    -- an entry of the array of a number, at an index; and what is assigned to it
    entry : Width → ℕ → Value → Value
    assign_entry : Width → ℕ → Value → Value → Value
    -- of an object: its parent, its first child or its sibling; whether its parent is another word, or is not
    relative : Relative → Value → Value
    contained : Containment → Value → Value → Value
    -- whether it has the attribute of a number, or has it not; whether it provides a property
    has : Bool → Value → ℕ → Value
    provides : Value → ℕ → Value
    -- the word of a property, and how many bytes it has; one of its words, at an index; and what is assigned to these
    property : Value → ℕ → Value
    property_size : Value → ℕ → Value
    property_word : Value → ℕ → Value → Value
    assign_property : Value → ℕ → Value → Value
    assign_property_word : Value → ℕ → Value → Value → Value

  pub data Values : Type 0 where
    none : Values
    more : Value → Values → Values

pub data Printed : Type 0 where
  text : List ℕ → Printed
  character_of : Value → Printed
  number_of : Value → Printed
  name_of : Value → Printed

-- what a case of a `switch` holds for: a word, or those from one to another, which are read signed
pub data RangeOf : Type 0 where
  one : ℕ → RangeOf
  between : ℕ → ℕ → RangeOf

mutual
  pub data Action : Type 0 where
    empty : Action
    block : Actions → Action
    text_alone : List ℕ → Action
    print : List Printed → Action
    print_return : List Printed → Action
    new_line : Action
    if_then : Value → Action → Action
    if_else : Value → Action → Action → Action
    while_do : Value → Action → Action
    do_until : Action → Value → Action
    -- what is done before the first round, the test, and what is done after each round
    for_loop : Option Value → Option Value → Option Value → Action → Action
    switch_on : Value → CasesOf → Action
    break_out : Action
    continue_on : Action
    -- the next line, to the arrays of these numbers
    read_line : ℕ → ℕ → Action
    -- attributes that are set, and those that are cleared, in order
    give_to : Value → List (Bool × ℕ) → Action
    move_to : Value → Value → Action
    remove_from : Value → Action
    -- for each object; for each for which a condition holds; and for each child of one
    each_object : Variable → Action → Action
    each_where : Variable → Value → Action → Action
    each_in : Variable → Value → Action → Action
    return_value : Value → Action
    quit : Action
    effect : Value → Action

  pub data Actions : Type 0 where
    stop : Actions
    next : Action → Actions → Actions

  -- `default` is last
  pub data CasesOf : Type 0 where
    no_case : CasesOf
    default_case : Actions → CasesOf
    case : List RangeOf → Actions → CasesOf → CasesOf

-- a routine: how many locals it has, and its body
pub record RoutineOf : Type 0 where
  pub locals : ℕ
  pub body : Actions

-- a program: what its globals begin with, the bytes that its arrays begin with, its routines, each in order of
-- definition, the keys of its dictionary words, each once and ascending, its abbreviations, in characters of the
-- machine, and the number of Main
pub record ProgramOf : Type 0 where
  pub globals : List ℕ
  pub arrays : List (List ℕ)
  -- the defaults of properties, from that of property 1 on
  pub defaults : List ℕ
  pub objects : List ObjectOf
  pub keys : List ℕ
  pub abbreviations : List (List ℕ)
  pub routines : List RoutineOf
  pub main : ℕ
