-- What items do with objects adds no units.
use Rattle.std.proofs.Common.{ℕ, zero, suc, ◌+◌, ◌-◌, ◌==◌, ◌≤◌, List, [], ◌∷◌, length, map, Option, Some, None, Bool}
use Rattle.std.proofs.Common.{true, false, arith}
use Rattle.std.specs.Prelude.{◌&&◌, nat_le, nat_lt, if◌then◌else◌, slice_index, slice_set}
use Rattle.syntax_trees.specs.declared.tree.Relative.{Relative}
use Rattle.meaning.specs.declared.cause.Cause.TheVariants as causes
use Rattle.meaning.specs.declared.resolved.Variable.{Variable}
use Rattle.meaning.specs.Resolved.{ProgramOf}
use Rattle.meaning.specs.Objects.{Climbed, clear, inside, spent, climb, object_at}
use Rattle.meaning.specs.World.{Situation, Part, ◌>>=◌, give, put, shown, fault, is_object, single_word, move_by}
use Rattle.meaning.specs.World.{write_variable, read_variable}
use Rattle.meaning.specs.World as world
use Rattle.meaning.specs.Meaning as meaning
use Rattle.code_items.specs.Stack.{relative_to, stands_in, tested_attribute, is_provided, property_of, property_bytes}
use Rattle.code_items.specs.Stack.{word_of_property, assigned_property, assigned_property_word, put_name}
use Rattle.code_items.specs.Stack.{gives_attributes, moves_object, removes_object, begins_objects, steps_object}
use Rattle.code_items.proofs.Acts.{Keeps, Kept, keeps_give, keeps_bound, keeps_test, keeps_fault, keeps_put}
use Rattle.code_items.proofs.Acts.{keeps_write}

-- The test of a move leaves no more units than there are

abbrev LeavesAtMost : ℕ → Climbed → Type 0
LeavesAtMost fuel (clear left) = left ≤ fuel
LeavesAtMost fuel inside = Unit {0}
LeavesAtMost fuel spent = Unit {0}

most_either : (fuel : ℕ) (b : Bool) (x y : Climbed) → LeavesAtMost fuel x → LeavesAtMost fuel y
    → LeavesAtMost fuel (if b then x else y)
most_either fuel true x y hx hy = hx
most_either fuel false x y hx hy = hy

most_more : (fuel : ℕ) (x : Climbed) → LeavesAtMost fuel x → LeavesAtMost (suc fuel) x
most_more fuel (clear left) h = omega (arith, h)
most_more fuel inside h = tt
most_more fuel spent h = tt

climb_most : (parent : ℕ → ℕ) (o at fuel : ℕ) → LeavesAtMost fuel (climb parent o at fuel)
climb_most parent o at zero =
    most_either zero (at == o) inside (if parent at == 0 then clear zero else spent) tt
    (most_either zero (parent at == 0) (clear zero) spent (omega arith) tt)
climb_most parent o at (suc fuel) =
    let further = climb parent o (parent at) fuel in
    most_either (suc fuel) (at == o) inside (if parent at == 0 then clear (suc fuel) else further) tt
    (most_either (suc fuel) (parent at == 0) (clear (suc fuel)) further (omega arith)
    (most_more fuel further (climb_most parent o (parent at) fuel)))

module _ (p : ProgramOf) (full : ℕ) where
  keeps_object : (o : ℕ) → Keeps full (world.test_object (length p.objects) o)
  keeps_object o = keeps_test full (is_object (length p.objects) o) (give {A = Unit {0}} tt) (fault causes.NotAnObject)
      (keeps_give full {A = Unit {0}} tt) (keeps_fault full (Unit {0}) causes.NotAnObject)

  pub keeps_relative : (r : Relative) (o : ℕ) → Keeps full (relative_to p r o)
  keeps_relative r o =
      keeps_bound full (world.test_object (length p.objects) o) _ (keeps_object o) (λ _ s. omega arith)

  keeps_single : (default : ℕ) (words : Option (List ℕ)) → Keeps full (single_word default words)
  keeps_single default None = keeps_give full default
  keeps_single default (Some words) =
      keeps_bound full (world.test_single words) _
      (keeps_test full (length words == 1) (give {A = Unit {0}} tt) (fault causes.PropertyOfManyWords)
      (keeps_give full {A = Unit {0}} tt) (keeps_fault full (Unit {0}) causes.PropertyOfManyWords))
      (λ _. keeps_give full (slice_index words 0))

  pub keeps_property : (o q : ℕ) → Keeps full (property_of p o q)
  keeps_property o q =
      keeps_bound full (world.test_object (length p.objects) o) _ (keeps_object o) (λ _.
      keeps_bound full (world.words_provided o q) (single_word (slice_index p.defaults (q - 1))) (λ s. omega arith)
      (λ words. keeps_single (slice_index p.defaults (q - 1)) words))

  pub keeps_size : (o q : ℕ) → Keeps full (property_bytes p o q)
  keeps_size o q =
      keeps_bound full (world.test_object (length p.objects) o) _ (keeps_object o) (λ _ s. omega arith)

  keeps_provided : (words : Option (List ℕ)) → Keeps full (world.test_provided words)
  keeps_provided None = keeps_fault full (List ℕ) causes.NoSuchProperty
  keeps_provided (Some words) = keeps_give full words

  keeps_index : (i : ℕ) (words : List ℕ) → Keeps full (world.test_word i words)
  keeps_index i words =
      keeps_test full (nat_lt i 32768 && nat_lt i (length words)) (give {A = Unit {0}} tt)
      (fault causes.IndexOutOfRange) (keeps_give full {A = Unit {0}} tt)
      (keeps_fault full (Unit {0}) causes.IndexOutOfRange)

  -- what is done with the words of a property that the object provides
  keeps_own : (o q : ℕ) (g : List ℕ → Part ℕ) → ((words : List ℕ) → Keeps full (g words))
      → Keeps full (world.test_object (length p.objects) o >>= λ _.
      (world.words_provided o q >>= λ provided. (world.test_provided provided >>= g)))
  keeps_own o q g keeps =
      keeps_bound full (world.test_object (length p.objects) o) _ (keeps_object o) (λ _.
      keeps_bound full (world.words_provided o q) (λ provided. world.test_provided provided >>= g) (λ s. omega arith)
      (λ provided. keeps_bound full (world.test_provided provided) g (keeps_provided provided) keeps))

  pub keeps_word : (q o i : ℕ) → Keeps full (word_of_property p q o i)
  keeps_word q o i = keeps_own o q (λ words. world.test_word i words >>= λ _. give (slice_index words i))
      (λ words. keeps_bound full (world.test_word i words) (λ _. give (slice_index words i)) (keeps_index i words)
      (λ _. keeps_give full (slice_index words i)))

  pub keeps_assigned : (q o x : ℕ) → Keeps full (assigned_property p q o x)
  keeps_assigned q o x =
      keeps_own o q (λ words. world.test_single words >>= λ _. (world.write_words o q (x ∷ []) >>= λ _. give x))
      (λ words. keeps_bound full (world.test_single words) (λ _. world.write_words o q (x ∷ []) >>= λ _. give x)
      (keeps_test full (length words == 1) (give {A = Unit {0}} tt) (fault causes.PropertyOfManyWords)
      (keeps_give full {A = Unit {0}} tt) (keeps_fault full (Unit {0}) causes.PropertyOfManyWords))
      (λ _. keeps_bound full (world.write_words o q (x ∷ [])) (λ _. give x) (λ s. omega arith)
      (λ _. keeps_give full x)))

  pub keeps_assigned_word : (q o i x : ℕ) → Keeps full (assigned_property_word p q o i x)
  keeps_assigned_word q o i x =
      keeps_own o q
      (λ words. world.test_word i words >>= λ _. (world.write_words o q (slice_set words i x) >>= λ _. give x))
      (λ words. keeps_bound full (world.test_word i words)
      (λ _. world.write_words o q (slice_set words i x) >>= λ _. give x) (keeps_index i words)
      (λ _. keeps_bound full (world.write_words o q (slice_set words i x)) (λ _. give x) (λ s. omega arith)
      (λ _. keeps_give full x)))

  -- Conditions

  pub keeps_stands_in : (o x : ℕ) → Keeps full (stands_in p o x)
  keeps_stands_in o x =
      keeps_bound full (world.test_object (length p.objects) o) _ (keeps_object o) (λ _ s. omega arith)

  pub keeps_attribute : (o a : ℕ) → Keeps full (tested_attribute p o a)
  keeps_attribute o a =
      keeps_bound full (world.test_object (length p.objects) o) _ (keeps_object o) (λ _ s. omega arith)

  pub keeps_is_provided : (o q : ℕ) → Keeps full (is_provided p o q)
  keeps_is_provided o q =
      keeps_bound full (world.test_object (length p.objects) o) _ (keeps_object o) (λ _ s. omega arith)

  -- Statements

  pub keeps_name : (o : ℕ) → Keeps full (put_name p o)
  keeps_name o =
      let bytes = map shown (object_at p.objects o).name in
      keeps_bound full (world.test_object (length p.objects) o) (λ _. put bytes) (keeps_object o)
      (λ _. keeps_put full bytes)

  keeps_all : (o : ℕ) (changes : List (Bool × ℕ)) → Keeps full (meaning.give_all o changes)
  keeps_all o [] = keeps_give full {A = Unit {0}} tt
  keeps_all o (x ∷ xs) = keeps_bound full (world.give_attribute o x.1 x.0) (λ _. meaning.give_all o xs)
      (λ s. omega arith) (λ _. keeps_all o xs)

  pub keeps_gives : (o : ℕ) (changes : List (Bool × ℕ)) → Keeps full (gives_attributes p o changes)
  keeps_gives o changes =
      keeps_bound full (world.test_object (length p.objects) o) (λ _. meaning.give_all o changes) (keeps_object o)
      (λ _. keeps_all o changes)

  keeps_moved : (o into : ℕ) (s : Situation) (c : Climbed) → LeavesAtMost s.world.fuel c
      → Kept full s (move_by o into c s)
  keeps_moved o into s (clear left) h = omega (arith, h)
  keeps_moved o into s inside h = keeps_fault full (Unit {0}) causes.ObjectInsideItself s
  keeps_moved o into s spent h = tt

  pub keeps_moves : (o into : ℕ) → Keeps full (moves_object p o into)
  keeps_moves o into =
      keeps_bound full (world.test_object (length p.objects) o)
      (λ _. world.test_object (length p.objects) into >>= λ _. world.move_object o into) (keeps_object o) (λ _.
      keeps_bound full (world.test_object (length p.objects) into) (λ _. world.move_object o into) (keeps_object into)
      (λ _ s. keeps_moved o into s (climb s.world.objects.tree.parent o into s.world.fuel)
      (climb_most s.world.objects.tree.parent o into s.world.fuel)))

  pub keeps_removes : (o : ℕ) → Keeps full (removes_object p o)
  keeps_removes o =
      keeps_bound full (world.test_object (length p.objects) o) _ (keeps_object o) (λ _ s. omega arith)

  -- a variable gets an object, which there is
  keeps_got : (x : Variable) (o : ℕ) → Keeps full (write_variable x o >>= λ _. give true)
  keeps_got x o = keeps_bound full (write_variable x o) (λ _. give true) (keeps_write full x o)
      (λ _. keeps_give full true)

  pub keeps_begins : (x : Variable) → Keeps full (begins_objects p x)
  keeps_begins x = keeps_test full (length p.objects == 0) (give false) (write_variable x 1 >>= λ _. give true)
      (keeps_give full false) (keeps_got x 1)

  pub keeps_steps : (x : Variable) → Keeps full (steps_object p x)
  keeps_steps x =
      let step : ℕ → Part Bool =
      λ o. if nat_le 1 o && nat_lt o (length p.objects) then (write_variable x (o + 1) >>= λ _. give true)
      else give false in
      keeps_bound full (read_variable x) step (λ s. omega arith)
      (λ o. keeps_test full (nat_le 1 o && nat_lt o (length p.objects)) (write_variable x (o + 1) >>= λ _. give true)
      (give false) (keeps_got x (o + 1)) (keeps_give full false))
