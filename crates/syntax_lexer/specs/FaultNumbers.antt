-- The numbers of faults, as the compiler prints them. They are the definitions' own: the program's constants are not
-- asked.
use Rattle.std.specs.Prelude.{ℕ}
use Rattle.syntax_lexer.specs.declared.fault.SourceFault.{SourceFault}

-- a byte that may stand in no source
abbrev pub stray_byte : ℕ
stray_byte = 1

-- a quote that begins no text and no word
abbrev pub bad_text : ℕ
bad_text = 2

-- a number that is none, or above 65,535
abbrev pub bad_number : ℕ
bad_number = 3

-- a name of more than 32 bytes
abbrev pub name_too_long : ℕ
name_too_long = 4

-- more than 100 nestings
abbrev pub nested_too_deep : ℕ
nested_too_deep = 5

-- a token with which no program can go on
abbrev pub not_in_grammar : ℕ
not_in_grammar = 10

-- a name that is not defined, or not yet where it must be
abbrev pub unknown_name : ℕ
unknown_name = 20

-- no routine `Main`, or one with locals
abbrev pub no_proper_main : ℕ
no_proper_main = 21

-- a name that is defined twice
abbrev pub defined_twice : ℕ
defined_twice = 22

-- a name of another kind than is wanted there
abbrev pub wrong_kind : ℕ
wrong_kind = 23

-- more of a kind than the language allows
abbrev pub too_many : ℕ
too_many = 24

-- a call with more arguments than the routine has locals
abbrev pub too_many_arguments : ℕ
too_many_arguments = 25

-- `=`, `++` or `--` on what is no variable
abbrev pub not_assignable : ℕ
not_assignable = 26

-- a `break` or `continue` outside a loop
abbrev pub break_outside : ℕ
break_outside = 27

-- an entry or a size that an array may not have
abbrev pub bad_array : ℕ
bad_array = 28

-- an expression that needs more than 48 temporaries
abbrev pub expression_too_large : ℕ
expression_too_large = 29

-- parts of a story before its routines that have more than 65,535 bytes
abbrev pub tables_too_large : ℕ
tables_too_large = 30

-- a source whose weight is above the limit of its version
abbrev pub story_too_large : ℕ
story_too_large = 31

-- a routine whose weight is above 32,000
abbrev pub routine_too_large : ℕ
routine_too_large = 32

-- an abbreviation of fewer than two characters, or one that stands earlier
abbrev pub bad_abbreviation : ℕ
bad_abbreviation = 33

-- memory was refused
abbrev pub out_of_memory : ℕ
out_of_memory = 99

abbrev pub no_memory : SourceFault
no_memory = record { number = out_of_memory; line = 0 }
