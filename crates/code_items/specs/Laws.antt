-- The laws of items that functions of `laws` carry as their contracts.
use Rattle.std.specs.Prelude.{◌≡◌, ◌≢◌, ◌+◌, ◌<◌, ◌≤◌, ℕ, Bool, true, List, [], ◌∷◌, length, Some}
use Rattle.std.specs.List.{All}
use Rattle.syntax_trees.specs.declared.tree.Binary.TheVariants as binaries
use Rattle.syntax_trees.specs.declared.tree.Prefix.TheVariants as prefixes
use Rattle.meaning.specs.Resolved.{RoutineOf, ProgramOf}
use Rattle.meaning.specs.Accepted.{IsVariable, IsRoutine, IsAccepted, IsProperty}
use Rattle.meaning.specs.Meaning.{routine_at, meaning}
use Rattle.code_drafts.specs.Items.{Operand, variable, Destination, into, Test, is_zero, less, greater, same, Item}
use Rattle.code_drafts.specs.Items.{move, apply_prefix, operate, operate_aside, step, entry, assign_entry, keep, print_character}
use Rattle.code_drafts.specs.Items.{print_number, branch, read_line, case, jump, back, branch_back, call, call_aside, return}
use Rattle.code_drafts.specs.Items.{is_any_pushed, print_name, relative, property, property_size, property_word, assign_property}
use Rattle.code_drafts.specs.Items.{assign_property_word, give, has, move_object, remove_object, is_in, provides}
use Rattle.code_drafts.specs.Items.{entry_aside, assign_entry_aside, first_object, next_object}
use Rattle.code_items.specs.Statements.{routine_items}
use Rattle.code_items.specs.Stack.{from, exec, start}

-- in so many items the run comes to what the program means
pub record FollowsProgram (p : ProgramOf) (full : ℕ) (lines : List (List ℕ)) : Type 0 where
  pub count : ℕ
  pub comes : from (start p full lines) (exec p full count) ≡ Some (meaning p full lines)

-- the items of an accepted program do what the program means, with any fuel and on any lines
abbrev pub ItemsFollow : Type 0
ItemsFollow = (p : ProgramOf) → IsAccepted p → (full : ℕ) (lines : List (List ℕ)) → FollowsProgram p full lines

-- how many operands a test has
abbrev pub IsTestedValue : Test → ℕ → Type 0
IsTestedValue is_zero n = n ≡ 1
IsTestedValue less n = n ≡ 2
IsTestedValue greater n = n ≡ 2
IsTestedValue same n = (1 ≤ n) × (n ≤ 4)

-- an item of a routine of this program, with so many locals and so many items: what it names is there
module _ (p : ProgramOf) (locals : ℕ) where
  -- a variable that stands in place is there
  abbrev pub IsOperand : Operand → Type 0
  IsOperand (variable x) = IsVariable p locals x
  IsOperand _ = Unit {0}

  -- a variable that a word goes to is there
  abbrev pub IsDestination : Destination → Type 0
  IsDestination (into x) = IsVariable p locals x
  IsDestination _ = Unit {0}

  -- what an item names is there, where the routine has so many items
  abbrev pub IsItem : ℕ → Item → Type 0
  IsItem count (move o d) = IsOperand o × IsDestination d
  IsItem count (apply_prefix prefixes.Not o d) = ⊥
  IsItem count (apply_prefix op o d) = IsOperand o × IsDestination d
  IsItem count (operate binaries.AndAlso a b d) = ⊥
  IsItem count (operate binaries.OrElse a b d) = ⊥
  IsItem count (operate op a b d) = IsOperand a × IsOperand b × IsDestination d
  IsItem count (operate_aside binaries.AndAlso o d) = ⊥
  IsItem count (operate_aside binaries.OrElse o d) = ⊥
  IsItem count (operate_aside op o d) = IsOperand o × IsDestination d
  IsItem count (step op x d) = IsVariable p locals x × IsDestination d
  IsItem count (entry width a o d) = (a < length p.arrays) × IsOperand o × IsDestination d
  IsItem count (assign_entry width a o q d) = (a < length p.arrays) × IsOperand o × IsOperand q × IsDestination d
  IsItem count (entry_aside width a d) = (a < length p.arrays) × IsDestination d
  IsItem count (assign_entry_aside width a o q d) = (a < length p.arrays) × IsOperand o × IsOperand q
      × (is_any_pushed (o ∷ q ∷ []) ≡ true) × IsDestination d
  IsItem count (relative r o d) = IsOperand o × IsDestination d
  IsItem count (property o n d) = IsProperty n × IsOperand o × IsDestination d
  IsItem count (property_size o n d) = IsProperty n × IsOperand o × IsDestination d
  IsItem count (property_word n o q d) = IsProperty n × IsOperand o × IsOperand q × IsDestination d
  IsItem count (assign_property n o q d) = IsProperty n × IsOperand o × IsOperand q × IsDestination d
  IsItem count (assign_property_word n o i q d) =
      IsProperty n × IsOperand o × IsOperand i × IsOperand q × IsDestination d
  IsItem count (give o changes) = IsOperand o × All (λ (c : Bool × ℕ). c.1 < 48) changes
  IsItem count (move_object o q) = IsOperand o × IsOperand q
  IsItem count (remove_object o) = IsOperand o
  IsItem count (keep x) = IsVariable p locals x
  IsItem count (print_character o) = IsOperand o
  IsItem count (print_number o) = IsOperand o
  IsItem count (print_name o) = IsOperand o
  IsItem count (branch test os when target) = All IsOperand os × IsTestedValue test (length os) × (target < count)
  IsItem count (read_line a b) = (a < length p.arrays) × (b < length p.arrays) × (a ≢ b)
  IsItem count (is_in o q when target) = IsOperand o × IsOperand q × (target < count)
  IsItem count (has o a when target) = (a < 48) × IsOperand o × (target < count)
  IsItem count (provides o n when target) = IsProperty n × IsOperand o × (target < count)
  IsItem count (first_object x target) = IsVariable p locals x × (target < count)
  IsItem count (next_object x target) = IsVariable p locals x × (target < count)
  IsItem count (case test ns when target) = IsTestedValue test (1 + length ns) × (1 ≤ length ns) × (target < count)
  IsItem count (jump target) = target < count
  IsItem count (back target) = target < count
  IsItem count (branch_back test os when target) =
      All IsOperand os × IsTestedValue test (length os) × (target < count)
  IsItem count (call r os d) = (r < length p.routines) × All IsOperand os × (length os ≤ 7)
      × (length os ≤ (routine_at p.routines r).locals) × IsDestination d
  IsItem count (call_aside r os d) = (r < length p.routines) × All IsOperand os × (length os ≤ 7)
      × (length os ≤ (routine_at p.routines r).locals) × (is_any_pushed os ≡ true) × IsDestination d
  IsItem count (return o) = IsOperand o
  IsItem count _ = Unit {0}

-- each item of a routine that keeps the rules names only what is there
abbrev pub ItemsAreWithin : Type 0
ItemsAreWithin = (p : ProgramOf) (r : RoutineOf) → IsRoutine p r → All (IsItem p r.locals (length (routine_items r)))
    (routine_items r)
