-- The machine of items: a place in a routine, a stack of words, and the world of the source.
use Rattle.std.specs.Prelude.{◌||◌, ◌&&◌, ◌+◌, ◌-◌, ◌==◌, ℕ, zero, suc, nat_le, nat_lt, Bool, true, false}
use Rattle.std.specs.Prelude.{if◌then◌else◌, List, [], ◌∷◌, length, map, Option, Some, None, slice_get, slice_index}
use Rattle.std.specs.Prelude.{slice_set, is_some}
use Rattle.std.specs.List.{list_any}
use Rattle.zcore.specs.Arithmetic.{signed_less, signed_text}
use Rattle.zcore.specs.declared.place.Place.TheVariants as places
use Rattle.zcore.specs.declared.place.Limit.TheVariants as limits
use Rattle.syntax_trees.specs.declared.tree.Relative.{Relative}
use Rattle.syntax_trees.specs.declared.tree.Relative.TheVariants as relatives
use Rattle.syntax_trees.specs.declared.tree.Width.{Width}
use Rattle.meaning.specs.declared.resolved.Variable.{Variable}
use Rattle.meaning.specs.Resolved.{ProgramOf}
use Rattle.meaning.specs.World.{Outcome, World, Situation, Comes, to, over, Part, ended, put, shown, spend, value_in}
use Rattle.meaning.specs.World.{with_value, give, ◌>>=◌, read_entry, write_entry, read_variable, write_variable}
use Rattle.meaning.specs.World.{relative_of, has_attribute, words_provided, test_provided, test_single, test_word}
use Rattle.meaning.specs.World.{single_word, size_of, write_words, remove_object, move_object}
use Rattle.meaning.specs.World as world
use Rattle.meaning.specs.Objects.{object_at}
use Rattle.meaning.specs.Meaning.{truth, is_true, with_prefix, stepped, put_character, put_line, locals_of, routine_at}
use Rattle.meaning.specs.Meaning.{first_world}
use Rattle.meaning.specs.Reading.{read_next}
use Rattle.meaning.specs.Places.{number_in}
use Rattle.meaning.specs.Meaning as meaning
use Rattle.code_drafts.specs.Items.{Item, Operand, pushed, number, variable, Destination, push, into, aside, nowhere}
use Rattle.code_drafts.specs.Items.{Test, is_zero, less, greater, same, agrees}
use Rattle.code_drafts.specs.Items as items
use Rattle.code_items.specs.Statements.{routine_items}

-- a call that waits for another: its routine, the item to go on with, where the word goes, its stack and its locals
pub record Caller : Type 0 where
  pub routine : ℕ
  pub place : ℕ
  pub destination : Destination
  pub stack : List ℕ
  pub locals : List ℕ

-- a place in a routine, its stack, the word that was put aside for the next item, the calls that wait, the newest
-- first, and the locals with the world
pub record ItemState : Type 0 where
  pub routine : ℕ
  pub place : ℕ
  pub stack : List ℕ
  pub put_aside : Option ℕ
  pub callers : List Caller
  pub situation : Situation

-- what one item leads to; it is stuck where an operand lacks, a stack would pass its limit, or a jump leads the wrong
-- way
pub data Next : Type 0 where
  goes : ItemState → Next
  ends : Outcome → Next
  stuck : Next

-- Operands, of which the last pushed is on top

-- what follows gets the word of an operand, and what is left of the stack
abbrev pub with_operand : Operand → Situation → List ℕ → (ℕ → List ℕ → Next) → Next
with_operand pushed s [] k = stuck
with_operand pushed s (v ∷ stack) k = k v stack
with_operand (number n) s stack k = k n stack
with_operand (variable x) s stack k = k (value_in x s) stack

-- what follows gets the word that was put aside
abbrev pub with_aside : Option ℕ → (ℕ → Next) → Next
with_aside None k = stuck
with_aside (Some v) k = k v

-- the words of several operands
abbrev pub with_operands : List Operand → Situation → List ℕ → (List ℕ → List ℕ → Next) → Next
with_operands [] s stack k = k [] stack
with_operands (o ∷ os) s stack k =
    with_operands os s stack (λ vs rest. with_operand o s rest (λ v left. k (v ∷ vs) left))

-- Words

-- the stack of a call has at most 48 words
abbrev pub within : ItemState → Next
within s = if nat_le (length s.stack) 48 then goes s else stuck

-- a word goes to its destination
abbrev pub deliver : Destination → ℕ → ItemState → Next
deliver push v s = within (record s { stack = v ∷ s.stack })
deliver (into x) v s = goes (record s { situation = with_value x v s.situation })
deliver aside v s = goes (record s { put_aside = Some v })
deliver nowhere v s = goes s

-- a part of the meaning is done, and then what follows it, if it does not end the run
abbrev pub after_part : {A : Type 0} → Comes A → (A → Situation → Next) → Next
after_part (to a s) k = k a s
after_part (over outcome) k = ends outcome

-- with the item after this one, where this is left of the stack
abbrev pub after : ItemState → List ℕ → Situation → ItemState
after s stack situation =
    record s { place = s.place + 1; stack = stack; put_aside = None; situation = situation }

-- a part gives a word, which goes to its destination
abbrev pub gives : Part ℕ → Destination → List ℕ → ItemState → Next
gives f d stack s = after_part (f s.situation) (λ v situation. deliver d v (after s stack situation))

-- a part prints, reads a line, or changes objects
abbrev pub prints : Part (Unit {0}) → List ℕ → ItemState → Next
prints f stack s = after_part (f s.situation) (λ _ situation. goes (after s stack situation))

-- a word is assigned to an entry, and stands for the assignment
abbrev pub assigned_entry : Width → ℕ → ℕ → ℕ → Part ℕ
assigned_entry width a i v = write_entry width a i v >>= λ _. give v

-- the topmost word goes to a variable, and stays
abbrev pub keep : Variable → List ℕ → ItemState → Next
keep x [] s = stuck
keep x (v ∷ stack) s = within (after s (v ∷ stack) (with_value x v s.situation))

-- from left and right to left and flag
abbrev pub first_equal : List ℕ → ItemState → Next
first_equal (y ∷ x ∷ stack) s = within (after s (truth (x == y) ∷ x ∷ stack) s.situation)
first_equal _ s = stuck

-- from left, flag and right to left and flag
abbrev pub also_equal : List ℕ → ItemState → Next
also_equal (y ∷ flag ∷ x ∷ stack) s =
    within (after s (truth (is_true flag || x == y) ∷ x ∷ stack) s.situation)
also_equal _ s = stuck

-- from left and flag to the flag alone
abbrev pub drop_below : List ℕ → ItemState → Next
drop_below (flag ∷ x ∷ stack) s = within (after s (flag ∷ stack) s.situation)
drop_below _ s = stuck

-- Jumps

-- a jump leads ahead
abbrev pub jump_forward : ℕ → ItemState → Next
jump_forward target s = if nat_lt s.place target then goes (record s { place = target }) else stuck

-- what a test says of the words of its operands
abbrev pub holds : Test → List ℕ → Bool
holds is_zero (x ∷ []) = x == 0
holds less (x ∷ y ∷ []) = signed_less x y
holds greater (x ∷ y ∷ []) = signed_less y x
holds same (x ∷ ys) = list_any (λ y. x == y) ys
holds _ _ = false

-- to the target, or to the next item
abbrev pub branch : Bool → ℕ → List ℕ → ItemState → Next
branch true target stack s = jump_forward target (record s { stack = stack; put_aside = None })
branch false target stack s = goes (after s stack s.situation)

-- the word that was put aside stays there, and the run goes on at the target, or with the next item
abbrev pub by_case : Bool → ℕ → ItemState → Next
by_case true target s = jump_forward target s
by_case false target s = goes (record s { place = s.place + 1 })

-- a test of that word
abbrev pub test_case : Option ℕ → Test → List ℕ → Bool → ℕ → ItemState → Next
test_case None test ns when target s = stuck
test_case (Some v) test ns when target s = by_case (agrees (holds test (v ∷ ns)) when) target s

-- going back costs a unit
abbrev pub go_back : ℕ → ItemState → Next
go_back target s =
    if nat_le target s.place then
    after_part (spend s.situation)
    (λ _ situation. goes (record s { place = target; put_aside = None; situation = situation }))
    else stuck

-- back, which costs a unit, or to the next item
abbrev pub branch_back : Bool → ℕ → List ℕ → ItemState → Next
branch_back so target stack s =
    if nat_le target s.place then (if so then go_back target (record s { stack = stack })
    else goes (after s stack s.situation))
    else stuck

-- Objects: what items do with them, each with its tests first

module _ (p : ProgramOf) where
  abbrev test_object : ℕ → Part (Unit {0})
  test_object o = world.test_object (length p.objects) o

  abbrev pub relative_to : Relative → ℕ → Part ℕ
  relative_to r o = do
    _ ← test_object o
    relative_of r o

  -- whether an object stands in another
  abbrev pub stands_in : ℕ → ℕ → Part Bool
  stands_in o x = do
    _ ← test_object o
    parent ← relative_of relatives.Parent o
    give (parent == x)

  abbrev pub tested_attribute : ℕ → ℕ → Part Bool
  tested_attribute o a = do
    _ ← test_object o
    has_attribute o a

  -- whether an object provides a property
  abbrev pub is_provided : ℕ → ℕ → Part Bool
  is_provided o q = do
    _ ← test_object o
    words ← words_provided o q
    give (is_some words)

  abbrev pub property_of : ℕ → ℕ → Part ℕ
  property_of o q = do
    _ ← test_object o
    words ← words_provided o q
    single_word (slice_index p.defaults (q - 1)) words

  abbrev pub property_bytes : ℕ → ℕ → Part ℕ
  property_bytes o q = do
    _ ← test_object o
    words ← words_provided o q
    give (size_of words)

  abbrev pub word_of_property : ℕ → ℕ → ℕ → Part ℕ
  word_of_property q o i = do
    _ ← test_object o
    provided ← words_provided o q
    words ← test_provided provided
    _ ← test_word i words
    give (slice_index words i)

  -- a word is assigned, and stands for the assignment
  abbrev pub assigned_property : ℕ → ℕ → ℕ → Part ℕ
  assigned_property q o x = do
    _ ← test_object o
    provided ← words_provided o q
    words ← test_provided provided
    _ ← test_single words
    _ ← write_words o q (x ∷ [])
    give x

  abbrev pub assigned_property_word : ℕ → ℕ → ℕ → ℕ → Part ℕ
  assigned_property_word q o i x = do
    _ ← test_object o
    provided ← words_provided o q
    words ← test_provided provided
    _ ← test_word i words
    _ ← write_words o q (slice_set words i x)
    give x

  abbrev pub put_name : ℕ → Part (Unit {0})
  put_name o = do
    _ ← test_object o
    put (map shown (object_at p.objects o).name)

  abbrev pub gives_attributes : ℕ → List (Bool × ℕ) → Part (Unit {0})
  gives_attributes o changes = do
    _ ← test_object o
    meaning.give_all o changes

  abbrev pub moves_object : ℕ → ℕ → Part (Unit {0})
  moves_object o x = do
    _ ← test_object o
    _ ← test_object x
    move_object o x

  abbrev pub removes_object : ℕ → Part (Unit {0})
  removes_object o = do
    _ ← test_object o
    remove_object o

  -- a variable gets object 1; whether there is one
  abbrev pub begins_objects : Variable → Part Bool
  begins_objects x =
      if length p.objects == 0 then give false
      else (do
        _ ← write_variable x 1
        give true)

  -- a variable gets the object after the one that it has; whether there is one
  abbrev pub steps_object : Variable → Part Bool
  steps_object x = do
    o ← read_variable x
    if nat_le 1 o && nat_lt o (length p.objects) then (do
      _ ← write_variable x (o + 1)
      give true)
        else give false

-- a part tells whether a condition holds; to the target where it does, or where it does not
abbrev pub decides : Part Bool → Bool → ℕ → List ℕ → ItemState → Next
decides f when target stack s =
    after_part (f s.situation) (λ so situation.
    branch (agrees so when) target stack (record s { situation = situation }))

-- Calls

-- A call of a routine: where 1,000 calls are open the run ends; else it costs a unit.
abbrev pub enter : ProgramOf → ℕ → List ℕ → List Caller → Situation → Next
enter p r arguments callers situation =
    if nat_lt (length callers) 1000 then
    after_part (spend situation) (λ _ after. goes (record {
      routine = r;
      place = 0;
      stack = [];
      put_aside = None;
      callers = callers;
      situation = record { locals = locals_of (routine_at p.routines r).locals arguments; world = after.world };
    }))
    else ends (ended (places.Limit limits.Calls) situation.world)

-- when the call of Main returns, the story quits
abbrev pub return_to : List Caller → ℕ → World → Next
return_to [] v w = ends (ended places.Quit w)
return_to (c ∷ callers) v w = deliver c.destination v (record {
  routine = c.routine;
  place = c.place;
  stack = c.stack;
  put_aside = None;
  callers = callers;
  situation = record { locals = c.locals; world = w };
})

-- the call that waits for the one that it makes
abbrev pub caller : Destination → List ℕ → ItemState → Caller
caller d stack s =
    record { routine = s.routine; place = s.place + 1; destination = d; stack = stack; locals = s.situation.locals }

-- Runs

-- one item, where there is one; a line brings so much fuel
abbrev pub act : ProgramOf → ℕ → Option Item → ItemState → Next
act p full None s = stuck
act p full (Some (items.move o d)) s =
    with_operand o s.situation s.stack (λ v stack. deliver d v (after s stack s.situation))
act p full (Some (items.apply_prefix op o d)) s =
    with_operand o s.situation s.stack (λ v stack. deliver d (with_prefix op v) (after s stack s.situation))
act p full (Some (items.operate op a b d)) s =
    with_operand b s.situation s.stack
    (λ y rest. with_operand a s.situation rest (λ x stack. gives (meaning.operate op x y) d stack s))
act p full (Some (items.operate_aside op o d)) s =
    with_aside s.put_aside
    (λ y. with_operand o s.situation s.stack (λ x stack. gives (meaning.operate op x y) d stack s))
act p full (Some (items.step op x d)) s =
    deliver d (stepped op (value_in x s.situation))
    (after s s.stack (with_value x (stepped op (value_in x s.situation)) s.situation))
act p full (Some (items.entry width a o d)) s =
    with_operand o s.situation s.stack (λ i stack. gives (read_entry width a i) d stack s)
act p full (Some (items.entry_aside width a d)) s =
    with_aside s.put_aside (λ i. gives (read_entry width a i) d s.stack s)
act p full (Some (items.assign_entry width a o q d)) s =
    with_operand q s.situation s.stack
    (λ v rest. with_operand o s.situation rest (λ i stack. gives (assigned_entry width a i v) d stack s))
act p full (Some (items.assign_entry_aside width a o q d)) s =
    with_aside s.put_aside
    (λ y. with_operand q s.situation (y ∷ s.stack)
    (λ v rest. with_operand o s.situation rest (λ i stack. gives (assigned_entry width a i v) d stack s)))
act p full (Some (items.relative r o d)) s =
    with_operand o s.situation s.stack (λ v stack. gives (relative_to p r v) d stack s)
act p full (Some (items.property o q d)) s =
    with_operand o s.situation s.stack (λ v stack. gives (property_of p v q) d stack s)
act p full (Some (items.property_size o q d)) s =
    with_operand o s.situation s.stack (λ v stack. gives (property_bytes p v q) d stack s)
act p full (Some (items.property_word q a b d)) s =
    with_operand b s.situation s.stack
    (λ i rest. with_operand a s.situation rest (λ o stack. gives (word_of_property p q o i) d stack s))
act p full (Some (items.assign_property q a b d)) s =
    with_operand b s.situation s.stack
    (λ v rest. with_operand a s.situation rest (λ o stack. gives (assigned_property p q o v) d stack s))
act p full (Some (items.assign_property_word q a b c d)) s =
    with_operand c s.situation s.stack
    (λ v rest. with_operand b s.situation rest (λ i left. with_operand a s.situation left
    (λ o stack. gives (assigned_property_word p q o i v) d stack s)))
act p full (Some (items.give o changes)) s =
    with_operand o s.situation s.stack (λ v stack. prints (gives_attributes p v changes) stack s)
act p full (Some (items.move_object a b)) s =
    with_operand b s.situation s.stack
    (λ v rest. with_operand a s.situation rest (λ o stack. prints (moves_object p o v) stack s))
act p full (Some (items.remove_object o)) s =
    with_operand o s.situation s.stack (λ v stack. prints (removes_object p v) stack s)
act p full (Some (items.keep x)) s = keep x s.stack s
act p full (Some items.first_equal) s = first_equal s.stack s
act p full (Some items.also_equal) s = also_equal s.stack s
act p full (Some items.drop_below) s = drop_below s.stack s
act p full (Some (items.print_text bytes)) s = prints (put (map shown bytes)) s.stack s
act p full (Some (items.print_character o)) s =
    with_operand o s.situation s.stack (λ v stack. prints (put_character v) stack s)
act p full (Some (items.print_number o)) s =
    with_operand o s.situation s.stack (λ v stack. prints (put (signed_text v)) stack s)
act p full (Some (items.print_name o)) s =
    with_operand o s.situation s.stack (λ v stack. prints (put_name p v) stack s)
act p full (Some items.new_line) s = prints put_line s.stack s
act p full (Some (items.read_line t q)) s = prints (read_next (number_in p) full t q) s.stack s
act p full (Some items.quit) s = ends (ended places.Quit s.situation.world)
act p full (Some (items.branch test os when target)) s =
    with_operands os s.situation s.stack (λ vs stack. branch (agrees (holds test vs) when) target stack s)
act p full (Some (items.is_in a b when target)) s =
    with_operand b s.situation s.stack
    (λ v rest. with_operand a s.situation rest (λ o stack. decides (stands_in p o v) when target stack s))
act p full (Some (items.has o a when target)) s =
    with_operand o s.situation s.stack (λ v stack. decides (tested_attribute p v a) when target stack s)
act p full (Some (items.provides o q when target)) s =
    with_operand o s.situation s.stack (λ v stack. decides (is_provided p v q) when target stack s)
act p full (Some (items.first_object x target)) s = decides (begins_objects p x) false target s.stack s
act p full (Some (items.next_object x target)) s = decides (steps_object p x) false target s.stack s
act p full (Some (items.case test ns when target)) s = test_case s.put_aside test ns when target s
act p full (Some (items.jump target)) s = jump_forward target s
act p full (Some (items.back target)) s = go_back target s
act p full (Some (items.branch_back test os when target)) s =
    with_operands os s.situation s.stack (λ vs stack. branch_back (agrees (holds test vs) when) target stack s)
act p full (Some (items.call r os d)) s =
    with_operands os s.situation s.stack (λ vs stack. enter p r vs (caller d stack s ∷ s.callers) s.situation)
act p full (Some (items.call_aside r os d)) s =
    with_aside s.put_aside
    (λ v. with_operands os s.situation (v ∷ s.stack)
    (λ vs stack. enter p r vs (caller d stack s ∷ s.callers) s.situation))
act p full (Some (items.return o)) s =
    with_operand o s.situation s.stack (λ v stack. return_to s.callers v s.situation.world)

-- the item at the place
abbrev pub step : ProgramOf → ℕ → ItemState → Next
step p full s = act p full (slice_get (routine_items (routine_at p.routines s.routine)) s.place) s

-- what follows a state that goes on
abbrev pub from : Next → (ItemState → Option Outcome) → Option Outcome
from (goes s) k = k s
from (ends outcome) k = Some outcome
from stuck k = None

-- at most so many items
abbrev pub exec : ProgramOf → ℕ → ℕ → ItemState → Option Outcome
exec p full zero s = None
exec p full (suc n) s = from (step p full s) (exec p full n)

-- the call of Main
abbrev pub start : ProgramOf → ℕ → List (List ℕ) → Next
start p full lines = enter p p.main [] [] (record { locals = []; world = first_world p full lines })
