-- Arguments that are made of rows, one after another.
use Rattle.std.proofs.Common.{◌≡◌, ◌≤◌, ◌<◌, ◌+◌, ◌++◌, ◌∙◌, ap, sym, subst, ℕ, List, [], ◌∷◌, Some, map, length, take}
use Rattle.std.proofs.Common.{get_or}
use Rattle.std.proofs.lemmas.List.{take_all, take_more}
use Rattle.clap.specs.declared.builder.arg.Arg.{Arg}
use Rattle.terminal.specs.Arguments.{AreArguments, AreNamed, names}
use Rattle.terminal.specs.Rows.{AddsOfRow, AreOfRows, BeginsWithNumbers, IsOfRow, parser_of}
use Rattle.terminal.specs.declared.parts.Row.{Row}

pushed : (rows : List Row) (given : List Arg) (row : Row) (a : Arg) → AreOfRows rows given → IsOfRow row a
    → AreOfRows (rows ++ row ∷ []) (given ++ a ∷ [])
pushed [] [] row a all next = (next, tt)
pushed (first ∷ rows) (b ∷ given) row a all next = (all.0, pushed rows given row a all.1 next)
pushed [] (b ∷ given) row a all next = absurd all
pushed (first ∷ rows) [] row a all next = absurd all

-- one row more is met, and all are
pub one_added : (rows : List Row) (i : ℕ) (d : Row) (old new : List Arg) → i < length rows → AreOfRows (take i rows) old
    → AddsOfRow (get_or rows i d) old new → AreOfRows (take (i + 1) rows) new
one_added rows i d old new lt all next =
    subst (λ met. AreOfRows met new) (sym (take_more rows i d lt))
    (subst (AreOfRows (take i rows ++ get_or rows i d ∷ [])) (sym next.1)
    (pushed (take i rows) old (get_or rows i d) next.0 all next.2))

pub all_added : (rows : List Row) (i : ℕ) (given : List Arg) → length rows ≤ i → AreOfRows (take i rows) given
    → AreOfRows rows given
all_added rows i given end all = subst (λ met. AreOfRows met given) (take_all i rows end) all

all_named : (rows : List Row) (given : List Arg) → AreOfRows rows given → AreNamed (map (λ row. row.name.now) rows) given
all_named [] [] all = tt
all_named (row ∷ rows) (a ∷ given) all = (all.0.0, all_named rows given all.1)
all_named [] (a ∷ given) all = absurd all
all_named (row ∷ rows) [] all = absurd all

-- the arguments of a table with these names, which begins with the two numbers
pub are_arguments : (rows : List Row) (given : List Arg) → map (λ row. row.name.now) rows ≡ names
    → BeginsWithNumbers rows → AreOfRows rows given → AreArguments given
are_arguments (fuel ∷ undo ∷ rows) (a ∷ b ∷ given) same numbers all = record {
  named = subst (λ ns. AreNamed ns (a ∷ b ∷ given)) same (all_named (fuel ∷ undo ∷ rows) (a ∷ b ∷ given) all);
  fuel = λ d. all.0.1 ∙ ap (λ v. Some (parser_of v)) numbers.0;
  undo = λ d. all.1.0.1 ∙ ap (λ v. Some (parser_of v)) numbers.1;
}
are_arguments [] given same numbers all = absurd numbers
are_arguments (fuel ∷ []) given same numbers all = absurd numbers
are_arguments (fuel ∷ undo ∷ rows) [] same numbers all = absurd all
are_arguments (fuel ∷ undo ∷ rows) (a ∷ []) same numbers all = absurd all.1
