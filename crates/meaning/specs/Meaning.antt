-- What an accepted program means: the texts that it prints and where it ends, on every list of lines. Operands,
-- arguments and print items are evaluated from left to right; then an operation's tests are made; then it is done.
use Rattle.std.specs.Prelude.{◌||◌, ◌&&◌, ◌+◌, ◌-◌, ◌*◌, ◌%◌, ◌==◌, not, ℕ, zero, suc, nat_le, nat_lt, bit_and, bit_or}
use Rattle.std.specs.Prelude.{Bool, true, false, if◌then◌else◌, List, [], ◌∷◌, ◌++◌, map, take, Option, Some, None}
use Rattle.std.specs.Prelude.{replicate, is_some, length, slice_index, slice_set}
use Rattle.std.specs.List.{list_any}
use Rattle.zcore.specs.Arithmetic.{quotient, remainder, signed_less, signed_text}
use Rattle.zcore.specs.Parts.{transcribed}
use Rattle.zcore.specs.declared.place.Place.TheVariants as places
use Rattle.zcore.specs.declared.place.Limit.TheVariants as limits
use Rattle.syntax_trees.specs.declared.tree.Binary.{Binary}
use Rattle.syntax_trees.specs.declared.tree.Binary.TheVariants as op
use Rattle.syntax_trees.specs.declared.tree.Containment.{Containment}
use Rattle.syntax_trees.specs.declared.tree.Containment.TheVariants as containment
use Rattle.syntax_trees.specs.declared.tree.Relative.TheVariants as relatives
use Rattle.syntax_trees.specs.declared.tree.Comparison.{Comparison}
use Rattle.syntax_trees.specs.declared.tree.Comparison.TheVariants as comparison
use Rattle.syntax_trees.specs.declared.tree.Equality.{Equality}
use Rattle.syntax_trees.specs.declared.tree.Equality.TheVariants as equality
use Rattle.syntax_trees.specs.declared.tree.Prefix.{Prefix}
use Rattle.syntax_trees.specs.declared.tree.Prefix.TheVariants as prefix
use Rattle.syntax_trees.specs.declared.tree.Step.{Step}
use Rattle.syntax_trees.specs.declared.tree.Step.TheVariants as steps
use Rattle.meaning.specs.declared.cause.Cause.TheVariants as causes
use Rattle.meaning.specs.Resolved.{Value, Values, number, read, call, prefixed, step_before, step_after, binary}
use Rattle.meaning.specs.Resolved.{compare, equal, assign, entry, assign_entry, relative, contained, has, provides}
use Rattle.meaning.specs.Resolved.{property, property_size, property_word, assign_property, assign_property_word}
use Rattle.meaning.specs.Resolved.{name_of, give_to, move_to, remove_from, each_object, each_where, each_in, none, more}
use Rattle.meaning.specs.Resolved.{Printed, text, character_of, number_of, RangeOf, one, between, Action, Actions}
use Rattle.meaning.specs.Resolved.{CasesOf, empty, block, text_alone, print, print_return, new_line, if_then, if_else}
use Rattle.meaning.specs.Resolved.{while_do, do_until, for_loop, switch_on, break_out, continue_on, read_line}
use Rattle.meaning.specs.Resolved.{return_value, quit, effect, stop, next, no_case, default_case, case, RoutineOf}
use Rattle.meaning.specs.Resolved.{ProgramOf}
use Rattle.meaning.specs.declared.resolved.Variable.{Variable}
use Rattle.meaning.specs.Objects.{ObjectOf, object_at, first_objects}
use Rattle.meaning.specs.World.{Outcome, World, Comes, to, over, Part, ◌>>=◌, give, ended, put, shown, fault, spend}
use Rattle.meaning.specs.World.{units, read_variable, write_variable, read_entry, write_entry, relative_of}
use Rattle.meaning.specs.World.{has_attribute, give_attribute, words_provided, test_provided, test_single, test_word}
use Rattle.meaning.specs.World.{single_word, size_of, write_words, remove_object, move_object}
use Rattle.meaning.specs.World as world
use Rattle.meaning.specs.Reading.{read_next}
use Rattle.meaning.specs.Places.{number_in}

-- Operations on words; a condition is 1 or 0, and a value is true where it is not 0

abbrev pub truth : Bool → ℕ
truth true = 1
truth false = 0

abbrev pub is_true : ℕ → Bool
is_true word = nat_lt 0 word

abbrev pub divided : ℕ → ℕ → Part ℕ
divided x y = if y == 0 then fault causes.DivisionByZero else give (quotient x y)

abbrev pub remaining : ℕ → ℕ → Part ℕ
remaining x y = if y == 0 then fault causes.DivisionByZero else give (remainder x y)

-- `&&` and `||` stop early, and are no operations on two values
abbrev pub operate : Binary → ℕ → ℕ → Part ℕ
operate op.AndAlso x y = give (truth (is_true x && is_true y))
operate op.OrElse x y = give (truth (is_true x || is_true y))
operate op.Add x y = give ((x + y) % 65536)
operate op.Subtract x y = give ((x + 65536 - y) % 65536)
operate op.Multiply x y = give (x * y % 65536)
operate op.Divide x y = divided x y
operate op.Remainder x y = remaining x y
operate op.And x y = give (bit_and x y)
operate op.Or x y = give (bit_or x y)

abbrev pub compared : Comparison → ℕ → ℕ → Bool
compared comparison.Less x y = signed_less x y
compared comparison.Greater x y = signed_less y x
compared comparison.LessOrEqual x y = not (signed_less y x)
compared comparison.GreaterOrEqual x y = not (signed_less x y)

abbrev pub equated : Equality → ℕ → List ℕ → Bool
equated equality.Equal x ys = list_any (λ y. x == y) ys
equated equality.NotEqual x ys = not (list_any (λ y. x == y) ys)

abbrev pub with_prefix : Prefix → ℕ → ℕ
with_prefix prefix.Minus x = (65536 - x) % 65536
with_prefix prefix.Complement x = 65535 - x
with_prefix prefix.Not x = truth (x == 0)

abbrev pub stepped : Step → ℕ → ℕ
stepped steps.Increment x = (x + 1) % 65536
stepped steps.Decrement x = (x + 65535) % 65536

-- the characters that `print (char)` takes; 0 prints nothing
abbrev pub is_character : ℕ → Bool
is_character c = c == 0 || c == 13 || (nat_le 32 c && nat_le c 126)

abbrev pub put_character : ℕ → Part (Unit {0})
put_character c = if is_character c then put (transcribed c) else fault causes.NotACharacter

-- What a running program asks of its source: what a call of a routine on its arguments comes to, the numbers of keys,
-- the fuel of a turn, the objects as they are defined, and the defaults of properties.
pub record Setting : Type 0 where
  pub call : ℕ → List ℕ → Part ℕ
  pub number : ℕ → ℕ
  pub full : ℕ
  pub objects : List ObjectOf
  pub defaults : List ℕ

abbrev pub test_object : Setting → ℕ → Part (Unit {0})
test_object here o = world.test_object (length here.objects) o

abbrev pub default_of : Setting → ℕ → ℕ
default_of here p = slice_index here.defaults (p - 1)

-- Expressions

-- the second operand of `&&` and `||` is evaluated where the first does not decide
abbrev pub early : Binary → ℕ → Part ℕ → Part ℕ → Part ℕ
early op.AndAlso x second both = if is_true x then (second >>= λ y. give (truth (is_true y))) else give 0
early op.OrElse x second both = if is_true x then give 1 else (second >>= λ y. give (truth (is_true y)))
early _ x second both = both

abbrev pub contains : Containment → Bool → Bool
contains containment.In stands = stands
contains containment.NotIn stands = not stands

abbrev mutual
  pub evaluate : Setting → Value → Part ℕ
  evaluate here (number n) = give n
  evaluate here (read x) = read_variable x
  evaluate here (call r vs) = do
    arguments ← evaluate_all here vs
    here.call r arguments
  evaluate here (prefixed op v) = do
    x ← evaluate here v
    give (with_prefix op x)
  evaluate here (step_before op variable) = do
    x ← read_variable variable
    _ ← write_variable variable (stepped op x)
    give (stepped op x)
  evaluate here (step_after variable op) = do
    x ← read_variable variable
    _ ← write_variable variable (stepped op x)
    give x
  evaluate here (binary op a b) = do
    x ← evaluate here a
    early op x (evaluate here b) (do
      y ← evaluate here b
      operate op x y)
  evaluate here (compare op a b) = do
    x ← evaluate here a
    y ← evaluate here b
    give (truth (compared op x y))
  evaluate here (equal op a bs) = do
    x ← evaluate here a
    ys ← evaluate_all here bs
    give (truth (equated op x ys))
  evaluate here (assign variable v) = do
    x ← evaluate here v
    _ ← write_variable variable x
    give x
  evaluate here (entry width a v) = do
    i ← evaluate here v
    read_entry width a i
  evaluate here (assign_entry width a v w) = do
    i ← evaluate here v
    x ← evaluate here w
    _ ← write_entry width a i x
    give x
  evaluate here (relative r v) = do
    o ← evaluate here v
    _ ← test_object here o
    relative_of r o
  evaluate here (contained op a b) = do
    o ← evaluate here a
    x ← evaluate here b
    _ ← test_object here o
    parent ← relative_of relatives.Parent o
    give (truth (contains op (parent == x)))
  evaluate here (has positive v a) = do
    o ← evaluate here v
    _ ← test_object here o
    it_has ← has_attribute o a
    give (truth (if positive then it_has else not it_has))
  evaluate here (provides v p) = do
    o ← evaluate here v
    _ ← test_object here o
    words ← words_provided o p
    give (truth (is_some words))
  evaluate here (property v p) = do
    o ← evaluate here v
    _ ← test_object here o
    words ← words_provided o p
    single_word (default_of here p) words
  evaluate here (property_size v p) = do
    o ← evaluate here v
    _ ← test_object here o
    words ← words_provided o p
    give (size_of words)
  evaluate here (property_word v p w) = do
    o ← evaluate here v
    i ← evaluate here w
    _ ← test_object here o
    provided ← words_provided o p
    words ← test_provided provided
    _ ← test_word i words
    give (slice_index words i)
  evaluate here (assign_property v p w) = do
    o ← evaluate here v
    x ← evaluate here w
    _ ← test_object here o
    provided ← words_provided o p
    words ← test_provided provided
    _ ← test_single words
    _ ← write_words o p (x ∷ [])
    give x
  evaluate here (assign_property_word v p w z) = do
    o ← evaluate here v
    i ← evaluate here w
    x ← evaluate here z
    _ ← test_object here o
    provided ← words_provided o p
    words ← test_provided provided
    _ ← test_word i words
    _ ← write_words o p (slice_set words i x)
    give x

  pub evaluate_all : Setting → Values → Part (List ℕ)
  evaluate_all here none = give []
  evaluate_all here (more v vs) = do
    x ← evaluate here v
    xs ← evaluate_all here vs
    give (x ∷ xs)

-- Statements

-- what a statement comes to, where the run does not end: it goes on, it breaks out of the loop that it stands in or
-- continues that, or the routine returns a word
pub data Ending : Type 0 where
  goes_on : Ending
  breaks : Ending
  continues : Ending
  returns : ℕ → Ending

abbrev pub print_one : Setting → Printed → Part (Unit {0})
print_one here (text bytes) = put (map shown bytes)
print_one here (character_of v) = do
  c ← evaluate here v
  put_character c
print_one here (number_of v) = do
  x ← evaluate here v
  put (signed_text x)
print_one here (name_of v) = do
  o ← evaluate here v
  _ ← test_object here o
  put (map shown (object_at here.objects o).name)

abbrev pub print_all : Setting → List Printed → Part (Unit {0})
print_all here [] = give tt
print_all here (i ∷ is) = do
  _ ← print_one here i
  print_all here is

abbrev pub put_line : Part (Unit {0})
put_line = put (10 ∷ [])

-- what follows a statement that goes on
abbrev pub follow : Ending → Part Ending → Part Ending
follow goes_on rest = rest
follow breaks rest = give breaks
follow continues rest = give continues
follow (returns word) rest = give (returns word)

-- what follows the body of a loop, where one that goes on or continues leads to the rest
abbrev pub after_body : Ending → Part Ending → Part Ending
after_body goes_on rest = rest
after_body breaks rest = give goes_on
after_body continues rest = rest
after_body (returns word) rest = give (returns word)

-- A loop tests; where the word is true it runs its body and then the part after that, which tells whether the loop
-- goes back. Here it goes on so, if it goes back.
abbrev pub round : Part ℕ → Part Ending → Part Bool → Part Ending → Part Ending
round test body after again = do
  x ← test
  if is_true x then (do
    ending ← body
    after_body ending (do
      goes_back ← after
      if goes_back then again else give goes_on))
      else give goes_on

-- Going back costs a unit. A loop can go back as often as there are units left; at 0 there is none.
abbrev pub rounds : ℕ → Part ℕ → Part Ending → Part Bool → Part Ending
rounds zero test body after = round test body after (world.ends (places.Limit limits.Fuel))
rounds (suc n) test body after = round test body after (do
  _ ← spend
  rounds n test body after)

-- the parts of a `for`: what is done before the first round; the test, which is true where there is none; and what is
-- done after each round, which always goes back

abbrev pub once : Setting → Option Value → Part (Unit {0})
once here None = give tt
once here (Some v) = do
  _ ← evaluate here v
  give tt

abbrev pub tested : Setting → Option Value → Part ℕ
tested here None = give 1
tested here (Some v) = evaluate here v

abbrev pub after_round : Setting → Option Value → Part Bool
after_round here v = do
  _ ← once here v
  give true

-- `until` follows the body, and goes back where its word is false
abbrev pub until : Setting → Value → Part Bool
until here v = do
  x ← evaluate here v
  give (not (is_true x))

-- whether a case holds for a word; both ends of a range are read signed, and belong to it
abbrev pub holds_for : ℕ → RangeOf → Bool
holds_for x (one n) = x == n
holds_for x (between low high) = not (signed_less x low) && not (signed_less high x)

-- what a case comes to where it ends: `break` ends the `switch` and no more
abbrev pub after_case : Ending → Ending
after_case goes_on = goes_on
after_case breaks = goes_on
after_case continues = continues
after_case (returns word) = returns word

-- attributes are set or cleared in order
abbrev pub give_all : ℕ → List (Bool × ℕ) → Part (Unit {0})
give_all o [] = give tt
give_all o (x ∷ xs) = do
  _ ← give_attribute o x.1 x.0
  give_all o xs

-- a variable gets an object; whether there is one
abbrev pub next_object : Variable → Part ℕ → Part Bool
next_object x found = do
  o ← found
  _ ← write_variable x o
  give (not (o == 0))

-- after a round, the sibling of the object that the variable then has
abbrev pub sibling_next : Setting → Variable → Part Bool
sibling_next here x = do
  o ← read_variable x
  _ ← test_object here o
  next_object x (relative_of relatives.Sibling o)

-- after a round, the object after the one that the variable then has, where that is one with another after it
abbrev pub count_next : Setting → Variable → Part Bool
count_next here x = do
  o ← read_variable x
  if nat_le 1 o && nat_lt o (length here.objects) then (do
    _ ← write_variable x (o + 1)
    give true)
      else give false

-- a round for each object, from 1 on; without objects nothing is done
abbrev pub each_of : Setting → Variable → Part Ending → Part Ending
each_of here x body =
    if length here.objects == 0 then give goes_on
    else (do
      _ ← write_variable x 1
      λ s. rounds (units here.full s.world) (give 1) body (count_next here x) s)

abbrev mutual
  pub run : Setting → Action → Part Ending
  run here empty = give goes_on
  run here (block xs) = run_all here xs
  run here (text_alone bytes) = do
    _ ← put (map shown bytes)
    _ ← put_line
    give (returns 1)
  run here (print is) = do
    _ ← print_all here is
    give goes_on
  run here (print_return is) = do
    _ ← print_all here is
    _ ← put_line
    give (returns 1)
  run here new_line = do
    _ ← put_line
    give goes_on
  run here (if_then v a) = do
    x ← evaluate here v
    if is_true x then run here a else give goes_on
  run here (if_else v a b) = do
    x ← evaluate here v
    if is_true x then run here a else run here b
  -- nothing follows the body
  run here (while_do v a) = λ s.
      rounds (units here.full s.world) (evaluate here v) (run here a) (give true) s
  -- the first round is not tested
  run here (do_until a v) = λ s.
      rounds (units here.full s.world) (give 1) (run here a) (until here v) s
  run here (for_loop x y z a) = do
    _ ← once here x
    λ s. rounds (units here.full s.world) (tested here y) (run here a) (after_round here z) s
  run here (switch_on v cs) = do
    x ← evaluate here v
    ending ← run_cases here x cs
    give (after_case ending)
  run here break_out = give breaks
  run here continue_on = give continues
  run here (read_line t p) = do
    _ ← read_next here.number here.full t p
    give goes_on
  run here (give_to v changes) = do
    o ← evaluate here v
    _ ← test_object here o
    _ ← give_all o changes
    give goes_on
  run here (move_to v w) = do
    o ← evaluate here v
    into ← evaluate here w
    _ ← test_object here o
    _ ← test_object here into
    _ ← move_object o into
    give goes_on
  run here (remove_from v) = do
    o ← evaluate here v
    _ ← test_object here o
    _ ← remove_object o
    give goes_on
  run here (each_object x a) = each_of here x (run here a)
  run here (each_where x v a) = each_of here x (do
    word ← evaluate here v
    if is_true word then run here a else give goes_on)
  run here (each_in x v a) = do
    o ← evaluate here v
    _ ← test_object here o
    is_one ← next_object x (relative_of relatives.Child o)
    if is_one then (λ s. rounds (units here.full s.world) (give 1) (run here a) (sibling_next here x) s)
        else give goes_on
  run here (return_value v) = do
    x ← evaluate here v
    give (returns x)
  run here quit = world.ends places.Quit
  run here (effect v) = do
    _ ← evaluate here v
    give goes_on

  pub run_all : Setting → Actions → Part Ending
  run_all here stop = give goes_on
  run_all here (next a rest) = do
    ending ← run here a
    follow ending (run_all here rest)

  -- the first case that holds runs alone, else `default`
  pub run_cases : Setting → ℕ → CasesOf → Part Ending
  run_cases here x no_case = give goes_on
  run_cases here x (default_case xs) = run_all here xs
  run_cases here x (case gs xs rest) =
      if list_any (holds_for x) gs then run_all here xs else run_cases here x rest

-- Calls

-- the arguments, and then 0
abbrev pub locals_of : ℕ → List ℕ → List ℕ
locals_of count arguments = take count (arguments ++ replicate count 0)

abbrev pub no_routine : RoutineOf
no_routine = record { locals = 0; body = stop }

abbrev pub routine_at : List RoutineOf → ℕ → RoutineOf
routine_at [] n = no_routine
routine_at (r ∷ rs) zero = r
routine_at (r ∷ rs) (suc n) = routine_at rs n

-- A routine that runs off its end returns true. No routine of an accepted program breaks or continues out of its body;
-- one that did would return true as well.
abbrev pub word_of : Ending → ℕ
word_of (returns word) = word
word_of _ = 1

-- the caller goes on with its own locals
abbrev pub to_caller : List ℕ → Comes Ending → Comes ℕ
to_caller locals (to ending s) = to (word_of ending) (record { locals = locals; world = s.world })
to_caller locals (over outcome) = over outcome

-- a program whose calls come to this, with so much fuel for each turn
abbrev pub setting : ProgramOf → ℕ → (ℕ → List ℕ → Part ℕ) → Setting
setting p full calls = record {
  call = calls;
  number = number_in p;
  full = full;
  objects = p.objects;
  defaults = p.defaults;
}

-- A call where so many more calls may be open; it costs a unit.
abbrev pub call_in : ProgramOf → ℕ → ℕ → ℕ → List ℕ → Part ℕ
call_in p full zero r arguments = world.ends (places.Limit limits.Calls)
call_in p full (suc more_calls) r arguments = do
  _ ← spend
  λ s. to_caller s.locals (run_all (setting p full (call_in p full more_calls)) (routine_at p.routines r).body
      (record { locals = locals_of (routine_at p.routines r).locals arguments; world = s.world }))

-- Runs

abbrev pub first_world : ProgramOf → ℕ → List (List ℕ) → World
first_world p full lines =
    record {
      globals = p.globals;
      arrays = p.arrays;
      objects = first_objects p.objects;
      fuel = full;
      lines = lines;
      text = [];
      texts = [];
    }

-- when the call of Main returns, the story quits
abbrev pub quits : Comes ℕ → Outcome
quits (to word s) = ended places.Quit s.world
quits (over outcome) = outcome

-- The texts and the end of a whole run, with so much fuel for each turn: Main is called, and at most 1,000 calls are
-- open.
unfoldable pub meaning : ProgramOf → ℕ → List (List ℕ) → Outcome
meaning p full lines = quits
    (call_in p full 1000 p.main [] (record { locals = []; world = first_world p full lines }))
