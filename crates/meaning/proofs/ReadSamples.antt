-- What `read` does, computed on resolved programs.
use Rattle.std.proofs.Common.{◌≡◌, ℕ, List, [], ◌∷◌, ◌++◌, refl}
use Rattle.std.specs.Prelude.{codes, replicate}
use Rattle.ztext.specs.Alphabets.{spelling_of}
use Rattle.ztext.specs.Text.{key_of}
use Rattle.ztext.specs.Words.{packed}
use Rattle.zcore.specs.Arithmetic.{signed_text, decimal, quotient, remainder}
use Rattle.zcore.specs.Cutting.{words_of}
use Rattle.zcore.specs.Dictionary.{number_of_key}
use Rattle.zcore.specs.declared.place.Place.TheVariants as places
use Rattle.syntax_trees.specs.declared.tree.Step.TheVariants as steps
use Rattle.meaning.specs.declared.resolved.Variable.TheVariants as variables
use Rattle.meaning.specs.Objects.{first_objects}
use Rattle.meaning.specs.Resolved.{Action, ProgramOf, number, read, step_after, text, number_of, block, print, while_do}
use Rattle.meaning.specs.Resolved.{read_line, effect}
use Rattle.meaning.specs.Views.{actions_of}
use Rattle.meaning.specs.World.{Situation, Comes, to}
use Rattle.meaning.specs.Reading.{words_for, read_next}
use Rattle.meaning.specs.Meaning.{meaning}
use Rattle.meaning.specs.Places.{number_in}

-- Array t -> 32; Array p -> 32; where t->0 takes so many letters, and p->0 so many words
abbrev arrays_for : ℕ → ℕ → List (List ℕ)
arrays_for letters most = (letters ∷ replicate 31 0) ∷ (most ∷ replicate 31 0) ∷ []

-- such arrays; Global k; [ Main; S ]; and the key of the word `take`
abbrev with_arrays : ℕ → ℕ → List Action → ProgramOf
with_arrays letters most xs = record {
  globals = 0 ∷ [];
  arrays = arrays_for letters most;
  defaults = [];
  objects = [];
  keys = 0x64D028A594A5 ∷ [];
  routines = record { locals = 0; body = actions_of xs } ∷ [];
  main = 0;
  abbreviations = [];
}

abbrev stands : List (List ℕ) → ℕ → List (List ℕ) → List ℕ → List (List ℕ) → Situation
stands arrays fuel lines words texts = record {
  locals = [];
  world = record {
    globals = 0 ∷ [];
    arrays = arrays;
    objects = first_objects [];
    fuel = fuel;
    lines = lines;
    text = words;
    texts = texts;
  };
}

-- `read t p`, where a unit of fuel is left, the turn has printed `>`, and another line is to come
abbrev reads : ℕ → ℕ → List ℕ → Comes (Unit {0})
reads letters most line =
    read_next (number_in (with_arrays letters most [])) 9 0 1
    (stands (arrays_for letters most) 1 (line ∷ codes "it" ∷ []) (codes ">") (codes "first" ∷ []))

-- the next turn, with these arrays: the fuel is whole, and the text begins anew
abbrev goes_on_with : List (List ℕ) → Comes (Unit {0})
goes_on_with arrays = to tt (stands arrays 9 (codes "it" ∷ []) [] (codes "first" ∷ codes ">" ∷ []))

-- four words: the entry of `take` stands at 935, after 64 bytes of arrays, the others have none
four_words : reads 30 7 (codes "take lamp,box") ≡ goes_on_with
    ((30 ∷ 13 ∷ codes "take lamp,box" ++ replicate 17 0)
    ∷ (7 ∷ 4 ∷ 3 ∷ 167 ∷ 4 ∷ 2 ∷ 0 ∷ 0 ∷ 4 ∷ 7 ∷ 0 ∷ 0 ∷ 1 ∷ 11 ∷ 0 ∷ 0 ∷ 3 ∷ 12 ∷ replicate 14 0) ∷ [])
unfolding key_of number_of_key packed spelling_of words_for words_of
four_words = refl

-- as many letters as t->0 says, and as many words as p->0 says
some_words : reads 9 1 (codes "take lamp,box") ≡ goes_on_with
    ((9 ∷ 9 ∷ codes "take lamp" ++ replicate 21 0) ∷ (1 ∷ 1 ∷ 3 ∷ 167 ∷ 4 ∷ 2 ∷ replicate 26 0) ∷ [])
unfolding key_of number_of_key packed spelling_of words_for words_of
some_words = refl

empty_line : reads 30 7 [] ≡ goes_on_with (arrays_for 30 7)
unfolding key_of number_of_key packed spelling_of words_for words_of
empty_line = refl

-- while (1) { print ">"; read t p; k++; print k, "^"; }
abbrev counts : ProgramOf
counts = with_arrays 30 7
    (while_do (number 1)
    (block
    (actions_of
    (print (text (codes ">") ∷ []) ∷ read_line 0 1 ∷ effect (step_after (variables.Global 0) steps.Increment)
    ∷ print (number_of (read (variables.Global 0)) ∷ text (codes "^") ∷ []) ∷ []))) ∷ [])

-- one unit is enough for any number of turns, each of which goes back once
counts_mean : meaning counts 1 (codes "a" ∷ codes "b" ∷ []) ≡ record {
  texts = codes ">" ∷ (49 ∷ 10 ∷ codes ">") ∷ (50 ∷ 10 ∷ codes ">") ∷ [];
  place = places.Waiting;
}
unfolding meaning signed_text decimal quotient remainder key_of number_of_key packed spelling_of words_for words_of
counts_mean = refl

-- an array is too small before a line is there
no_room : meaning (with_arrays 30 0 (read_line 0 1 ∷ [])) 1 [] ≡ record {
  texts = (10 ∷ codes "[Fault: buffer too small]" ++ 10 ∷ []) ∷ [];
  place = places.Quit;
}
unfolding meaning
no_room = refl
