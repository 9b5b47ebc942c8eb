-- The passes over the tokens of an extended source, in a row: what is derived is a source of the profile, or the first fault.
use Rattle.std.specs.Prelude.{◌-◌, ℕ, Bool, List, [], ◌∷◌, ◌++◌, length, take, codes, Result, Ok, Err, Option, Some, None}
use Rattle.std.specs.Prelude.{if◌then◌else◌}
use Rattle.syntax_lexer.specs.declared.fault.PlacedFault.{PlacedFault}
use Rattle.syntax_lexer.specs.Token.{Lexeme}
use Rattle.derive_tokens.specs.Tokens.{Outcome}
use Rattle.derive_tokens.specs.Own.{is_own, own_fault}
use Rattle.derive_tokens.specs.Written.{written}
use Rattle.derive_tokens.specs.Names.{with_name_of}
use Rattle.derive_branches.specs.Branches.{branched}
use Rattle.derive_classes.specs.Classed.{classed}
use Rattle.derive_constants.specs.Constants.{constants}
use Rattle.derive_constants.specs.Values.{Known}
use Rattle.derive_values.specs.Lifted.{lifted}
use Rattle.derive_values.specs.Values.{Numbers, numbers_of, valued}
use Rattle.derive_statements.specs.FileNames.{names_of}
use Rattle.derive_statements.specs.Lists.{introduced, listed}
use Rattle.derive_statements.specs.Loops.{looped}
use Rattle.derive_statements.specs.Main.{has_locals, main_apart}
use Rattle.derive_statements.specs.Prints.{printed}
use Rattle.derive_expressions.specs.Depth.{depth_fault}
use Rattle.derive_expressions.specs.Calls.{called, messages_of}
use Rattle.derive_operands.specs.Alternatives.{chosen, keys_of}
use Rattle.derive_operands.specs.Steps.{stepped}
use Rattle.derive_routines.specs.Arities.{arities_of}
use Rattle.derive_routines.specs.Made.{Asked, made}
use Rattle.derive_addresses.specs.Addresses.{Placed, placed_in, places_made, settled}
use Rattle.derive_addresses.specs.Words.{words_made, words_of}

-- the bytes of a source of the profile
abbrev pub Derived : Type 0
Derived = Result (List ℕ) PlacedFault

-- a fault that was found first, or what is derived
abbrev pub or_fault : Option PlacedFault → Derived → Derived
or_fault None derived = derived
or_fault (Some fault) derived = Err fault

-- statements, one form after another
abbrev pub formed : List Lexeme → List Lexeme
formed ts = printed (looped (listed (introduced (main_apart ts))))

-- operands: alternatives, and then steps
abbrev pub operands : List Lexeme → List Lexeme
operands ts = stepped (chosen ts)

-- and then numbers for arrays and for words of properties that are values, and calls for entries
abbrev pub entering : List Lexeme → List Lexeme
entering ts = settled (operands ts)

-- the names of a file that only passes make, in small letters: by them it is known which routines the file needs,
-- since each of these has such a name
abbrev pub with_own : List (List ℕ) → Lexeme → List (List ℕ)
with_own names t = if is_own t then with_name_of names t else names

abbrev pub own_names_from : List (List ℕ) → List Lexeme → List (List ℕ)
own_names_from names [] = names
own_names_from names (t ∷ ts) = own_names_from (with_own names t) ts

abbrev pub own_names : List Lexeme → List (List ℕ)
own_names ts = own_names_from [] ts

-- without the end, which is the last token
abbrev pub before_end : List Lexeme → List Lexeme
before_end ts = take (length ts - 1) ts

-- what the routines of a file are given: how many arguments each, and whether `Main` has locals
pub record Signatures : Type 0 where
  pub arities : Known
  pub apart : Bool

abbrev pub signatures_of : List Lexeme → Signatures
signatures_of ts = record { arities = arities_of ts; apart = has_locals ts }

-- what a file asks for, whose values have these numbers: its messages and alternatives, and its calls
abbrev pub asked : Numbers → Signatures → List (List ℕ) → List (List ℕ) → List Lexeme → Asked
asked n given messages keys us = record {
  texts = n.texts;
  routines = n.routines;
  arities = given.arities;
  messages = messages;
  keys = keys;
  apart = given.apart;
  names = own_names us;
}

-- Four objects come first, as in Inform 6, so that no object of the source is 1.
abbrev pub first_objects : List ℕ
first_objects =
    codes "object x__1\"Class\";object x__2\"Object\";object x__3\"Routine\";object x__4\"String\";"

-- after them the tokens, each on its line
abbrev pub file_text : List Lexeme → List ℕ
file_text us = first_objects ++ written (before_end us) ++ 32 ∷ []

-- and the routines that they ask for
abbrev pub asking_text : Numbers → Signatures → List (List ℕ) → List (List ℕ) → List Lexeme → List ℕ
asking_text n given messages keys us = file_text us ++ made (asked n given messages keys us)

-- and those of these places
abbrev pub places_text : Numbers → Signatures → List (List ℕ) → List (List ℕ) → Placed → List Lexeme → List ℕ
places_text n given messages keys p us = asking_text n given messages keys us ++ places_made (own_names us) p

-- and those of its words
abbrev pub called_source : Numbers → Signatures → List (List ℕ) → List (List ℕ) → Placed → List Lexeme → List ℕ
called_source n given messages keys p us =
    places_text n given messages keys p us ++ words_made (own_names us) (words_of us)

-- operands with what stands for their calls
abbrev pub finished : Numbers → Signatures → List (List ℕ) → Placed → List Lexeme → Outcome → Derived
finished n given keys p os (Ok us) = Ok (called_source n given (messages_of (names_of os) os) keys p us)
finished n given keys p os (Err fault) = Err fault

-- statements that are formed
abbrev pub entered_source : Numbers → Signatures → List Lexeme → Derived
entered_source n given statements =
    finished n given (keys_of statements) (placed_in (operands statements)) (entering statements)
    (called (entering statements))

-- tokens whose brackets are not too deep
abbrev pub formed_source : Numbers → List Lexeme → Derived
formed_source n ts = entered_source n (signatures_of ts) (formed ts)

abbrev pub valued_source : Numbers → List Lexeme → Derived
valued_source n ts = or_fault (depth_fault ts) (formed_source n ts)

abbrev pub stated : Numbers → Outcome → Derived
stated n (Ok ts) = valued_source n ts
stated n (Err fault) = Err fault

-- tokens without classes
abbrev pub unclassed_source : Outcome → Derived
unclassed_source (Ok ts) = stated (numbers_of ts) (valued ts)
unclassed_source (Err fault) = Err fault

-- tokens of the branches that are taken
abbrev pub computed_source : List Lexeme → Derived
computed_source ts = unclassed_source (classed (lifted (constants ts)))

abbrev pub branched_source : Outcome → Derived
branched_source (Ok ts) = computed_source ts
branched_source (Err fault) = Err fault

-- the source that tokens stand for, if they have no name which only passes make
abbrev pub passed : List Lexeme → Derived
passed ts = or_fault (own_fault ts) (branched_source (branched ts))
