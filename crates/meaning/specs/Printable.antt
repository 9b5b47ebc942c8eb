-- Resolved programs whose texts print: each of their bytes is one of 32 to 126, and each character of an abbreviation
-- is one that the machine prints.
use Rattle.std.specs.Prelude.{◌≡◌, ℕ, List, true}
use Rattle.std.specs.List.{All, list_all}
use Rattle.ztext.specs.Alphabets.{is_printable}
use Rattle.syntax_lexer.specs.Printable.{IsPrintable}
use Rattle.meaning.specs.Resolved.{Printed, text, character_of, number_of, Action, Actions, CasesOf, empty, block}
use Rattle.meaning.specs.Resolved.{name_of, give_to, move_to, remove_from, each_object, each_where, each_in, text_alone}
use Rattle.meaning.specs.Resolved.{print, print_return, new_line, if_then, if_else, while_do, do_until, for_loop}
use Rattle.meaning.specs.Resolved.{switch_on, break_out, continue_on, read_line, return_value, quit, effect, stop, next}
use Rattle.meaning.specs.Resolved.{no_case, default_case, case, RoutineOf, ProgramOf}
use Rattle.meaning.specs.Objects.{ObjectOf}

abbrev pub IsPrintableItem : Printed → Type 0
IsPrintableItem (text bytes) = All IsPrintable bytes
IsPrintableItem (character_of v) = Unit {0}
IsPrintableItem (number_of v) = Unit {0}
IsPrintableItem (name_of v) = Unit {0}

abbrev mutual
  pub IsPrintableAction : Action → Type 0
  IsPrintableAction empty = Unit {0}
  IsPrintableAction (block xs) = ArePrintableActions xs
  IsPrintableAction (text_alone bytes) = All IsPrintable bytes
  IsPrintableAction (print is) = All IsPrintableItem is
  IsPrintableAction (print_return is) = All IsPrintableItem is
  IsPrintableAction new_line = Unit {0}
  IsPrintableAction (if_then v a) = IsPrintableAction a
  IsPrintableAction (if_else v a b) = IsPrintableAction a × IsPrintableAction b
  IsPrintableAction (while_do v a) = IsPrintableAction a
  IsPrintableAction (do_until a v) = IsPrintableAction a
  IsPrintableAction (for_loop x y z a) = IsPrintableAction a
  IsPrintableAction (switch_on v cs) = ArePrintableCases cs
  IsPrintableAction break_out = Unit {0}
  IsPrintableAction continue_on = Unit {0}
  IsPrintableAction (read_line t p) = Unit {0}
  IsPrintableAction (give_to v changes) = Unit {0}
  IsPrintableAction (move_to v w) = Unit {0}
  IsPrintableAction (remove_from v) = Unit {0}
  IsPrintableAction (each_object x a) = IsPrintableAction a
  IsPrintableAction (each_where x v a) = IsPrintableAction a
  IsPrintableAction (each_in x v a) = IsPrintableAction a
  IsPrintableAction (return_value v) = Unit {0}
  IsPrintableAction quit = Unit {0}
  IsPrintableAction (effect v) = Unit {0}

  pub ArePrintableActions : Actions → Type 0
  ArePrintableActions stop = Unit {0}
  ArePrintableActions (next a rest) = IsPrintableAction a × ArePrintableActions rest

  pub ArePrintableCases : CasesOf → Type 0
  ArePrintableCases no_case = Unit {0}
  ArePrintableCases (default_case xs) = ArePrintableActions xs
  ArePrintableCases (case gs xs rest) = ArePrintableActions xs × ArePrintableCases rest

abbrev pub IsPrintableRoutine : RoutineOf → Type 0
IsPrintableRoutine r = ArePrintableActions r.body

abbrev pub HasPrintableTexts : ProgramOf → Type 0
HasPrintableTexts p =
    All IsPrintableRoutine p.routines × All (λ (o : ObjectOf). All IsPrintable o.name) p.objects
    × All (λ (a : List ℕ). list_all is_printable a ≡ true) p.abbreviations
