-- A story that holds a program: the law of code speaks of some.
use Rattle.std.proofs.Common.{length, ◌≤◌, ◌≡◌, ℕ, zero, suc, ◌+◌, ◌*◌, ◌^◌, ◌<◌, List, [], ◌∷◌, true, refl, arith}
use Rattle.std.proofs.Common.{slice_index}
use Rattle.std.specs.Prelude.{nat_lt, codes}
use Rattle.std.specs.List.{All, list_all}
use Rattle.std.proofs.lemmas.Bool.{ltb-true, leb-true}
use Rattle.std.proofs.lemmas.List.Elements.{All-nil, All-cons}
use Rattle.std.proofs.lemmas.List.Sums.{AllPass-from_list_all}
use Rattle.ztext.specs.Bytes.{word_at}
use Rattle.zcore.specs.Dictionary.{entry_of}
use Rattle.zcore.specs.Header.{globals_of, entry_count}
use Rattle.ztext.specs.Alphabets.{is_printable, spelling_of}
use Rattle.zcore.specs.InstructionBytes.{bytes_of}
use Rattle.ztext.specs.Text.{encoded}
use Rattle.ztext.specs.Abbreviations.{encoded_with}
use Rattle.ztext.specs.Words.{packed}
use Rattle.tables.specs.Dictionary.{ReadsKeys}
use Rattle.meaning.specs.declared.cause.Cause.{Cause}
use Rattle.meaning.specs.declared.cause.Cause.TheVariants as causes
use Rattle.meaning.specs.World.{words_of}
use Rattle.code_drafts.specs.Addresses.{fault_address}
use Rattle.meaning.specs.Accepted.{IsArray, IsPrinted, IsProperty, IsObject, IsRoutine, IsAccepted}
use Rattle.meaning.specs.Objects.{ObjectOf, object_at}
use Rattle.meaning.specs.Meaning.{routine_at}
use Rattle.code_items.specs.Laws.{ItemsFollow, ItemsAreWithin}
use Rattle.meaning.specs.Plays.{Plays}
use Rattle.syntax_lexer.specs.Printable.{IsPrintable}
use Rattle.meaning.specs.Printable.{IsPrintableItem, IsPrintableRoutine, HasPrintableTexts}
use Rattle.code.specs.TableLaws.{HoldsRows}
use Rattle.code.specs.HeldProgram.{sizes_of, offset_in, HoldsRoutine, HoldsText, HoldsProgram, fault_line}
use Rattle.code.proofs.Leading.{code_plays_by}
use Rattle.code.proofs.Stories.{a, table, main, sum_of_two, defaults, box, ball, objects, program, story, greeting}
use Rattle.code.proofs.Stories.{count_down, quotient_of_seven}

-- bytes that pass a test one by one
small_by : (bytes : List ℕ) → list_all (λ b. nat_lt b 256) bytes ≡ true → All (λ b. b < 256) bytes
small_by bytes e k d h = ltb-true _ _ (AllPass-from_list_all (λ b. nat_lt b 256) bytes e k d h)

main_held : HoldsRoutine story (sizes_of program) a 362 main
unfolding bytes_of encoded encoded_with packed spelling_of
main_held = record {
  bytes = refl;
  followed = ltb-true _ _ refl;
  above = leb-true _ _ refl;
  named = ltb-true _ _ refl;
  word = ltb-true _ _ refl;
  short = leb-true _ _ refl;
}

sum_held : HoldsRoutine story (sizes_of program) a 402 sum_of_two
unfolding bytes_of encoded encoded_with packed spelling_of
sum_held = record {
  bytes = refl;
  followed = ltb-true _ _ refl;
  above = leb-true _ _ refl;
  named = ltb-true _ _ refl;
  word = ltb-true _ _ refl;
  short = leb-true _ _ refl;
}

faults_held : (cause : Cause) → HoldsText story (fault_address a cause) (fault_line (words_of cause))
unfolding bytes_of encoded encoded_with packed spelling_of
faults_held causes.DivisionByZero = record { bytes = refl; word = ltb-true _ _ refl; above = leb-true _ _ refl }
faults_held causes.NotAnObject = record { bytes = refl; word = ltb-true _ _ refl; above = leb-true _ _ refl }
faults_held causes.IndexOutOfRange = record { bytes = refl; word = ltb-true _ _ refl; above = leb-true _ _ refl }
faults_held causes.NoSuchProperty = record { bytes = refl; word = ltb-true _ _ refl; above = leb-true _ _ refl }
faults_held causes.PropertyOfManyWords = record { bytes = refl; word = ltb-true _ _ refl; above = leb-true _ _ refl }
faults_held causes.ObjectInsideItself = record { bytes = refl; word = ltb-true _ _ refl; above = leb-true _ _ refl }
faults_held causes.NotACharacter = record { bytes = refl; word = ltb-true _ _ refl; above = leb-true _ _ refl }
faults_held causes.BufferTooSmall = record { bytes = refl; word = ltb-true _ _ refl; above = leb-true _ _ refl }

routines_held : (r : ℕ) → r < 2
    → HoldsRoutine story (sizes_of program) a (slice_index a.routines r) (routine_at program.routines r)
routines_held zero h = main_held
routines_held (suc zero) h = sum_held
routines_held (suc (suc r)) h = absurd (omega (arith, h))

first_global : (g : ℕ) → g < 1 → word_at story (globals_of story + 2 * g) ≡ slice_index program.globals g
unfolding bytes_of encoded encoded_with packed spelling_of
first_global zero h = refl
first_global (suc g) h = absurd (omega (arith, h))

only_array : (n : ℕ) → n < 1 → slice_index a.arrays n ≡ 736 + offset_in program.arrays n
only_array zero h = refl
only_array (suc n) h = absurd (omega (arith, h))

-- the dictionary has no entry
dictionary_held : ReadsKeys story 909 []
unfolding bytes_of encoded encoded_with packed spelling_of entry_of
dictionary_held =
    let none : entry_count story 909 ≡ 0 = refl in
    record {
      dictionary = record {
        whole = leb-true _ _ refl;
        entry_length = leb-true _ _ refl;
        count = leb-true _ _ refl;
        ascending = λ k h. absurd (omega (arith, h, none));
      };
      separators = refl;
      numbers = λ key. refl;
    }

-- its objects stand after the defaults of properties
objects_held : HoldsRows story objects defaults
unfolding bytes_of encoded encoded_with packed spelling_of
objects_held = record { stand = refl; above = leb-true _ _ refl; below = leb-true _ _ refl }

words_small : All (λ w. w < 65536) defaults
words_small k d h = ltb-true _ _ (AllPass-from_list_all (λ w. nat_lt w 65536) defaults refl k d h)

box_accepted : IsObject box 0
unfolding encoded packed spelling_of
box_accepted = record {
  parent = leb-true _ _ refl;
  name = leb-true _ _ refl;
  attributes = All-cons (λ (b : ℕ). b < 48) 3 [] (ltb-true _ _ refl) (All-nil (λ (b : ℕ). b < 48));
  numbers = All-cons (λ (x : ℕ × List ℕ). IsProperty x.0) (5, 7 ∷ []) [] (omega arith, omega arith)
      (All-nil (λ (x : ℕ × List ℕ). IsProperty x.0));
  words = All-cons HasWords (5, 7 ∷ []) [] (
    omega arith,
    omega arith,
    All-cons (λ (w : ℕ). w < 65536) 7 [] (ltb-true _ _ refl)
        (All-nil (λ (w : ℕ). w < 65536)),
  ) (All-nil HasWords);
}
  where
    HasWords : ℕ × List ℕ → Type 0
    HasWords x = (1 ≤ length x.1) × (length x.1 ≤ 32) × All (λ w. w < 65536) x.1

ball_accepted : IsObject ball 1
unfolding encoded packed spelling_of
ball_accepted = record {
  parent = leb-true _ _ refl;
  name = leb-true _ _ refl;
  attributes = All-nil (λ (b : ℕ). b < 48);
  numbers = All-nil (λ (x : ℕ × List ℕ). IsProperty x.0);
  words = λ k d h. absurd (omega (arith, h));
}

objects_accepted : (k : ℕ) → k < 2 → IsObject (object_at objects (k + 1)) k
objects_accepted zero h = box_accepted
objects_accepted (suc zero) h = ball_accepted
objects_accepted (suc (suc k)) h = absurd (omega (arith, h))

pub held : HoldsProgram story a program
unfolding bytes_of encoded encoded_with packed spelling_of
held = record {
  byte_each = small_by story refl;
  routines = routines_held;
  faults = faults_held;
  start = refl;
  start_above = leb-true _ _ refl;
  globals_above = leb-true _ _ refl;
  globals_below = leb-true _ _ refl;
  static_below = leb-true _ _ refl;
  globals = first_global;
  table_above = leb-true _ _ refl;
  table_below = leb-true _ _ refl;
  abbreviations = λ n h. absurd (omega (arith, h));
  first_array = 736;
  arrays = refl;
  arrays_each = only_array;
  arrays_above = leb-true _ _ refl;
  objects_above = leb-true _ _ refl;
  objects = objects_held;
  dictionary_above = leb-true _ _ refl;
  dictionary_there = refl;
  keys = dictionary_held;
}

greeting_accepted : All (IsPrinted program 0) greeting
greeting_accepted zero d h = tt
greeting_accepted (suc zero) d h = ((omega arith, omega arith, omega arith, (tt, (tt, tt))), omega arith)
greeting_accepted (suc (suc zero)) d h = (tt, omega arith)
greeting_accepted (suc (suc (suc k))) d h = absurd (omega (arith, h))

count_accepted : All (IsPrinted program 0) count_down
count_accepted zero d h = ((omega arith, omega arith), omega arith)
count_accepted (suc k) d h = absurd (omega (arith, h))

quotient_accepted : All (IsPrinted program 0) quotient_of_seven
quotient_accepted zero d h = ((tt, omega arith), omega arith)
quotient_accepted (suc k) d h = absurd (omega (arith, h))

main_accepted : IsRoutine program main
main_accepted = (
  omega arith,
  (
    greeting_accepted,
    (
      ((omega arith, tt), omega arith),
      (
        ((omega arith, omega arith, omega arith), omega arith),
        (
          (((omega arith, tt), omega arith), (count_accepted, ((omega arith, omega arith), tt))),
          (quotient_accepted, tt),
        ),
      ),
    ),
  ),
  (tt, (tt, (tt, ((tt, (tt, tt)), (tt, tt))))),
)

sum_accepted : IsRoutine program sum_of_two
sum_accepted = (omega arith, (((omega arith, omega arith), omega arith), tt), (tt, tt))

-- its texts are printable
hi_printable : All IsPrintable (codes "Hi^")
hi_printable zero d h = (omega arith, omega arith)
hi_printable (suc zero) d h = (omega arith, omega arith)
hi_printable (suc (suc zero)) d h = (omega arith, omega arith)
hi_printable (suc (suc (suc k))) d h = absurd (omega (arith, h))

greeting_well : All IsPrintableItem greeting
greeting_well zero d h = hi_printable
greeting_well (suc zero) d h = tt
greeting_well (suc (suc zero)) d h = tt
greeting_well (suc (suc (suc k))) d h = absurd (omega (arith, h))

count_well : All IsPrintableItem count_down
count_well zero d h = tt
count_well (suc k) d h = absurd (omega (arith, h))

quotient_well : All IsPrintableItem quotient_of_seven
quotient_well zero d h = tt
quotient_well (suc k) d h = absurd (omega (arith, h))

routines_printable : All IsPrintableRoutine program.routines
routines_printable zero d h = (greeting_well, (tt, (tt, ((count_well, (tt, tt)), (quotient_well, tt)))))
routines_printable (suc zero) d h = (tt, tt)
routines_printable (suc (suc k)) d h = absurd (omega (arith, h))

box_printable : All IsPrintable (codes "box")
box_printable zero d h = (omega arith, omega arith)
box_printable (suc zero) d h = (omega arith, omega arith)
box_printable (suc (suc zero)) d h = (omega arith, omega arith)
box_printable (suc (suc (suc k))) d h = absurd (omega (arith, h))

ball_printable : All IsPrintable (codes "ball")
ball_printable zero d h = (omega arith, omega arith)
ball_printable (suc zero) d h = (omega arith, omega arith)
ball_printable (suc (suc zero)) d h = (omega arith, omega arith)
ball_printable (suc (suc (suc zero))) d h = (omega arith, omega arith)
ball_printable (suc (suc (suc (suc k)))) d h = absurd (omega (arith, h))

names_printable : All (λ (o : ObjectOf). All IsPrintable o.name) objects
names_printable zero d h = box_printable
names_printable (suc zero) d h = ball_printable
names_printable (suc (suc k)) d h = absurd (omega (arith, h))

printable : HasPrintableTexts program
printable = (routines_printable, names_printable, All-nil (λ (t : List ℕ). list_all is_printable t ≡ true))

-- the program is an accepted one
accepted : IsAccepted program
accepted = record {
  globals = leb-true _ _ refl;
  arrays = All-cons IsArray table [] (leb-true _ _ refl) (All-nil IsArray);
  defaults = (refl, words_small);
  few = leb-true _ _ refl;
  objects = objects_accepted;
  routines = All-cons (IsRoutine program) main (sum_of_two ∷ []) main_accepted
      (All-cons (IsRoutine program) sum_of_two [] sum_accepted (All-nil (IsRoutine program)));
  main = ltb-true _ _ refl;
  alone = refl;
  keys = All-nil (λ (k : ℕ). k < 2 ^ 48);
  ascending = λ k h. absurd (omega (arith, h));
  few_abbreviations = omega arith;
  abbreviations = All-nil (λ (t : List ℕ). 2 ≤ length t);
}

pub filled_plays : ItemsFollow → ItemsAreWithin → (full : ℕ) (lines : List (List ℕ)) → Plays story program full lines
filled_plays follows within full lines = code_plays_by follows within story a program accepted printable held full
    lines
