-- Programs with dictionary words and `read`, and what they mean, computed.
use Rattle.std.proofs.Common.{◌≡◌, ℕ, ◌%◌, ◌^◌, List, [], ◌∷◌, ◌++◌, Some, None, refl}
use Rattle.std.specs.Prelude.{codes, replicate}
use Rattle.ztext.specs.Alphabets.{spelling_of}
use Rattle.ztext.specs.Text as text
use Rattle.ztext.specs.Words.{packed}
use Rattle.zcore.specs.Arithmetic.{signed_text, decimal, quotient, remainder}
use Rattle.zcore.specs.Dictionary.{number_of_key}
use Rattle.syntax_trees.specs.Tree.{constant, word, named, index, equal, more, none}
use Rattle.syntax_trees.specs.declared.tree.Equality.TheVariants as equality
use Rattle.syntax_trees.specs.declared.tree.Width.TheVariants as widths
use Rattle.syntax_statements.specs.PartTree as parts
use Rattle.syntax_statements.specs.Tree as s
use Rattle.syntax_directives.specs.declared.tree.ArrayKind.{ArrayKind}
use Rattle.syntax_directives.specs.declared.tree.ArrayKind.TheVariants as kinds
use Rattle.syntax_directives.specs.Tree as d
use Rattle.syntax_directives.specs.Tree.{DirectiveTree}
use Rattle.syntax.specs.Tree.{ProgramTree}
use Rattle.meaning.specs.Resolved as r
use Rattle.meaning.specs.Views.{actions_of}
use Rattle.meaning.specs.Meaning.{meaning}
use Rattle.checker_values.specs.Breaches.{at}
use Rattle.checker_values.specs.Keys.{key_of_word}
use Rattle.checker_values.specs.Names.{table_of, key_of, look_up}
use Rattle.checker_statements.specs.Objects.{all_defaults}
use Rattle.checker.specs.Programs.{program_breaches, resolve_with, file_of, resolve_program}
use Rattle.checker.proofs.Samples.{p, the, item, words, routine, says}

-- a program of these directives, with these dictionary words
abbrev spoken : List (List ℕ) → List DirectiveTree → ProgramTree
spoken ws ds = record { directives = ds; abbreviations = []; end = p 999; weight = 0; words = ws }

abbrev array : ℕ → List ℕ → ArrayKind → List d.ValueTree → DirectiveTree
array n name kind values = d.array (record { name = the n name; kind = kind; values = values })

abbrev value : ℕ → parts.LiteralTree → d.ValueTree
value n v = record { position = p n; value = v }

abbrev lamp : List ℕ
lamp = codes "lamp"

-- Keys

-- a capital is as its small letter, and `^` is an apostrophe
apostrophes : key_of_word (codes "Don^t") ≡ number_of_key (text.key_of (codes "don't")) % 2 ^ 48
unfolding key_of_word number_of_key text.key_of packed spelling_of
apostrophes = refl

-- Values

-- [ Main; print 'take', " ", 'lamp'; ];
abbrev two_words : ProgramTree
two_words = spoken (codes "take" ∷ lamp ∷ [])
    (routine (codes "Main") []
    (s.print (item (word (codes "take")) ∷ words (codes " ") ∷ item (word lamp) ∷ []) ∷ []) ∷ [])

two_words_fine : program_breaches two_words ≡ []
unfolding program_breaches table_of key_of look_up
two_words_fine = refl

-- the dictionary stands at 864, and `lamp` comes first
two_words_mean : meaning (resolve_program two_words) 1000 [] ≡ says (codes "880 871")
unfolding meaning resolve_program resolve_with file_of table_of key_of look_up signed_text decimal quotient remainder
    key_of_word number_of_key text.key_of packed spelling_of
two_words_mean = refl

-- Constant w = 'lanterns'; Array a --> 0 w; Global g = 'lanterns1';
-- [ Main; print a-->1 == g, " "; switch (g) { w: print w; } ];
abbrev constants : ProgramTree
constants = spoken (codes "lanterns" ∷ codes "lanterns1" ∷ [])
    (d.constant (the 1 (codes "w")) (parts.word_value (codes "lanterns"))
    ∷ array 2 (codes "a") kinds.Words
    (value 3 (parts.number_value 0) ∷ value 4 (parts.named_value (the 4 (codes "w"))) ∷ [])
    ∷ d.global (the 5 (codes "g")) (Some (parts.word_value (codes "lanterns1")))
    ∷ routine (codes "Main") []
    (s.print
    (item (equal equality.Equal (index (the 6 (codes "a")) widths.Word (constant 1))
    (more (named (the 7 (codes "g"))) none))
    ∷ words (codes " ") ∷ [])
    ∷ s.switch_on (p 8) (named (the 8 (codes "g")))
    (s.case (record { low = parts.named_value (the 9 (codes "w")); high = None } ∷ [])
    (s.next (s.print (item (named (the 10 (codes "w"))) ∷ [])) s.stop) s.no_case)
    ∷ [])
    ∷ [])

constants_fine : program_breaches constants ≡ []
unfolding program_breaches table_of key_of look_up
constants_fine = refl

-- the digit's shift is the ninth Z-character, as in what fills the key
constants_mean : meaning (resolve_program constants) 1000 [] ≡ says (codes "1 875")
unfolding meaning resolve_program resolve_with file_of table_of key_of look_up signed_text decimal quotient remainder
    key_of_word number_of_key text.key_of packed spelling_of
constants_mean = refl

-- Sizes and entries

-- Constant w = 'lamp'; Array a -> w; Array b --> 'lamp'; Array c -> 1 'lamp'; Array e string w w; [ Main; ];
abbrev sizes : ProgramTree
sizes = spoken (lamp ∷ lamp ∷ lamp ∷ [])
    (d.constant (the 1 (codes "w")) (parts.word_value lamp)
    ∷ array 2 (codes "a") kinds.Bytes (value 3 (parts.named_value (the 3 (codes "w"))) ∷ [])
    ∷ array 4 (codes "b") kinds.Words (value 5 (parts.word_value lamp) ∷ [])
    ∷ array 6 (codes "c") kinds.Bytes (value 7 (parts.number_value 1) ∷ value 8 (parts.word_value lamp) ∷ [])
    ∷ array 9 (codes "e") kinds.String
    (value 10 (parts.named_value (the 10 (codes "w"))) ∷ value 11 (parts.named_value (the 11 (codes "w"))) ∷ [])
    ∷ routine (codes "Main") [] [] ∷ [])

sizes_break : program_breaches sizes ≡ at (p 2) 28 ++ at (p 4) 28 ++ at (p 8) 28 ++ at (p 10) 28 ++ at (p 11) 28
unfolding program_breaches table_of key_of look_up
sizes_break = refl

-- `read`

-- Array t -> 8; Array q -> 14; [ Main; read t q; print q-->1 == 'take'; ];
abbrev reads : ProgramTree
reads = spoken (codes "take" ∷ [])
    (array 1 (codes "t") kinds.Bytes (value 2 (parts.number_value 8) ∷ [])
    ∷ array 3 (codes "q") kinds.Bytes (value 4 (parts.number_value 14) ∷ [])
    ∷ routine (codes "Main") []
    (s.read_line (the 5 (codes "t")) (the 6 (codes "q"))
    ∷ s.print
    (item (equal equality.Equal (index (the 7 (codes "q")) widths.Word (constant 1)) (more (word (codes "take")) none))
    ∷ [])
    ∷ [])
    ∷ [])

reads_fine : program_breaches reads ≡ []
unfolding program_breaches table_of key_of look_up
reads_fine = refl

-- after 22 bytes of arrays the dictionary stands at 886, and its first entry at 893
reads_resolve : resolve_program reads ≡ record {
  globals = [];
  arrays = replicate 8 0 ∷ replicate 14 0 ∷ [];
  defaults = all_defaults [];
  objects = [];
  keys = 0x64D028A594A5 ∷ [];
  abbreviations = [];
  routines = record {
    locals = 0;
    body = actions_of
        (r.read_line 0 1
        ∷ r.print
        (r.number_of (r.equal equality.Equal (r.entry widths.Word 1 (r.number 1)) (r.more (r.number 893) r.none)) ∷ [])
        ∷ []);
  } ∷ [];
  main = 0;
}
unfolding resolve_program resolve_with file_of table_of key_of look_up key_of_word number_of_key text.key_of packed
    spelling_of
reads_resolve = refl

-- Array b -> 4; Array m --> 4; [ Main; read x b; read m b; read b b; read b Main; ];
abbrev misread : ProgramTree
misread = spoken []
    (array 1 (codes "b") kinds.Bytes (value 2 (parts.number_value 4) ∷ [])
    ∷ array 3 (codes "m") kinds.Words (value 4 (parts.number_value 4) ∷ [])
    ∷ routine (codes "Main") []
    (s.read_line (the 5 (codes "x")) (the 6 (codes "b")) ∷ s.read_line (the 7 (codes "m")) (the 8 (codes "b"))
    ∷ s.read_line (the 9 (codes "b")) (the 10 (codes "B")) ∷ s.read_line (the 11 (codes "b")) (the 12 (codes "Main"))
    ∷ [])
    ∷ [])

misread_breaks : program_breaches misread ≡ at (p 5) 20 ++ at (p 7) 23 ++ at (p 10) 23 ++ at (p 12) 23
unfolding program_breaches table_of key_of look_up
misread_breaks = refl
