-- Programs with arrays and what they mean, computed.
use Rattle.std.proofs.Common.{◌≡◌, ℕ, ◌+◌, List, [], ◌∷◌, ◌++◌, refl}
use Rattle.std.specs.Prelude.{codes}
use Rattle.zcore.specs.Arithmetic.{signed_text, decimal, quotient, remainder}
use Rattle.syntax_trees.specs.Tree.{ExpressionTree, constant, named, index, parenthesised, step_after, binary, assign}
use Rattle.syntax_trees.specs.declared.tree.Binary.TheVariants as op
use Rattle.syntax_trees.specs.declared.tree.Step.TheVariants as steps
use Rattle.syntax_trees.specs.declared.tree.Width.TheVariants as widths
use Rattle.syntax_statements.specs.PartTree as parts
use Rattle.syntax_statements.specs.Tree as s
use Rattle.syntax_directives.specs.declared.tree.ArrayKind.{ArrayKind}
use Rattle.syntax_directives.specs.declared.tree.ArrayKind.TheVariants as kinds
use Rattle.syntax_directives.specs.Tree as d
use Rattle.syntax_directives.specs.Tree.{DirectiveTree}
use Rattle.syntax.specs.Tree.{ProgramTree}
use Rattle.meaning.specs.Meaning.{meaning}
use Rattle.checker_values.specs.Breaches.{at}
use Rattle.checker_values.specs.Names.{table_of, key_of, look_up}
use Rattle.checker_values.specs.Temporaries.{need}
use Rattle.checker.specs.Programs.{program_breaches, resolve_with, file_of, resolve_program}
use Rattle.checker.proofs.Samples.{p, the, item, words, routine, program, says}

-- values, the first at position 1
abbrev values : ℕ → List ℕ → List d.ValueTree
values n [] = []
values n (v ∷ vs) = record { position = p n; value = parts.number_value v } ∷ values (n + 1) vs

abbrev array : List ℕ → ArrayKind → List ℕ → DirectiveTree
array name kind vs = d.array (record { name = the 0 name; kind = kind; values = values 1 vs })

abbrev byte : List ℕ → ExpressionTree → ExpressionTree
byte name i = index (the 10 name) widths.Byte i

abbrev word : List ℕ → ExpressionTree → ExpressionTree
word name i = index (the 10 name) widths.Word i

-- Array w --> 1 2 300; Array s string 'a' 'b'; Array t table 5 6;
-- [ Main; print w-->2, " ", s->0, " ", s->2, " ", t-->0, " ", t-->2, " ", w->5, "^"; ];
abbrev four_kinds : ProgramTree
four_kinds = program
    (array (codes "w") kinds.Words (1 ∷ 2 ∷ 300 ∷ [])
    ∷ array (codes "s") kinds.String (97 ∷ 98 ∷ [])
    ∷ array (codes "t") kinds.Table (5 ∷ 6 ∷ [])
    ∷ routine (codes "Main") []
    (s.print
    (item (word (codes "w") (constant 2)) ∷ words (codes " ")
    ∷ item (byte (codes "s") (constant 0)) ∷ words (codes " ")
    ∷ item (byte (codes "s") (constant 2)) ∷ words (codes " ")
    ∷ item (word (codes "t") (constant 0)) ∷ words (codes " ")
    ∷ item (word (codes "t") (constant 2)) ∷ words (codes " ")
    ∷ item (byte (codes "w") (constant 5)) ∷ words (codes "^") ∷ []) ∷ [])
    ∷ [])

four_kinds_fine : program_breaches four_kinds ≡ []
unfolding program_breaches table_of key_of look_up
four_kinds_fine = refl

four_kinds_mean : meaning (resolve_program four_kinds) 1000 [] ≡ says (codes "300 2 98 2 6 44" ++ 10 ∷ [])
unfolding meaning resolve_program resolve_with file_of table_of key_of look_up signed_text decimal quotient remainder
four_kinds_mean = refl

-- Array b -> 4;
-- [ Main; print b->1 = 511, " ", b-->0, " ", (b->3) = 7, " "; b-->1 = 258; print b->2, " ", b->3, "^"; ];
-- an assignment's value is the value assigned, and a byte keeps its low eight bits
abbrev written : ProgramTree
written = program
    (array (codes "b") kinds.Bytes (4 ∷ [])
    ∷ routine (codes "Main") []
    (s.print
    (item (assign (byte (codes "b") (constant 1)) (p 11) (constant 511)) ∷ words (codes " ")
    ∷ item (word (codes "b") (constant 0)) ∷ words (codes " ")
    ∷ item (assign (parenthesised (byte (codes "b") (constant 3))) (p 12) (constant 7)) ∷ words (codes " ") ∷ [])
    ∷ s.effect (p 13) (assign (word (codes "b") (constant 1)) (p 14) (constant 258))
    ∷ s.print
    (item (byte (codes "b") (constant 2)) ∷ words (codes " ") ∷ item (byte (codes "b") (constant 3))
    ∷ words (codes "^") ∷ []) ∷ [])
    ∷ [])

written_fine : program_breaches written ≡ []
unfolding program_breaches table_of key_of look_up
written_fine = refl

written_means : meaning (resolve_program written) 1000 [] ≡ says (codes "511 255 7 1 2" ++ 10 ∷ [])
unfolding meaning resolve_program resolve_with file_of table_of key_of look_up signed_text decimal quotient remainder
written_means = refl

-- Rules

abbrev main : DirectiveTree
main = routine (codes "Main") [] []

-- Array b -> 256 1; E28 at the entry
wide_entry : program_breaches (program (array (codes "b") kinds.Bytes (256 ∷ 1 ∷ []) ∷ main ∷ [])) ≡ at (p 1) 28
unfolding program_breaches table_of key_of look_up
wide_entry = refl

-- Array w --> 256 1; a word may be so
wide_word : program_breaches (program (array (codes "w") kinds.Words (256 ∷ 1 ∷ []) ∷ main ∷ [])) ≡ []
unfolding program_breaches table_of key_of look_up
wide_word = refl

-- Array b -> 0; Array w --> 16001; Array s string 256; Array t table 15999; E28 at the name of all but the last
sizes : program_breaches
    (program
    (array (codes "b") kinds.Bytes (0 ∷ []) ∷ array (codes "w") kinds.Words (16001 ∷ [])
    ∷ array (codes "s") kinds.String (256 ∷ []) ∷ array (codes "t") kinds.Table (15999 ∷ []) ∷ main ∷ []))
    ≡ at (p 0) 28 ++ at (p 0) 28 ++ at (p 0) 28
unfolding program_breaches table_of key_of look_up
sizes = refl

-- Array b -> -1; a negative size
negative_size : program_breaches (program (array (codes "b") kinds.Bytes (65535 ∷ []) ∷ main ∷ [])) ≡ at (p 0) 28
unfolding program_breaches table_of key_of look_up
negative_size = refl

-- Array b -> c; Array c -> 1; E23 at the size, and no E28
wrong_size : program_breaches
    (program
    (d.array
    (record {
      name = the 0 (codes "b");
      kind = kinds.Bytes;
      values = record { position = p 1; value = parts.named_value (the 1 (codes "c")) } ∷ [];
    })
    ∷ array (codes "c") kinds.Bytes (1 ∷ []) ∷ main ∷ []))
    ≡ at (p 1) 23
unfolding program_breaches table_of key_of look_up
wrong_size = refl

-- Array b -> 1; [ Main; b = 1; b->0 = b; b->0++; c->0; ]; E23 and E26 at the first, E23, E26, E20
kinds_of_use : program_breaches
    (program
    (array (codes "b") kinds.Bytes (1 ∷ [])
    ∷ routine (codes "Main") []
    (s.effect (p 1) (assign (named (the 1 (codes "b"))) (p 2) (constant 1))
    ∷ s.effect (p 10) (assign (byte (codes "b") (constant 0)) (p 11) (named (the 12 (codes "b"))))
    ∷ s.effect (p 13) (step_after (byte (codes "b") (constant 0)) steps.Increment (p 14))
    ∷ s.print (item (byte (codes "c") (constant 0)) ∷ []) ∷ []) ∷ []))
    ≡ at (p 1) 23 ++ at (p 2) 26 ++ at (p 12) 23 ++ at (p 14) 26 ++ at (p 10) 20
unfolding program_breaches table_of key_of look_up
kinds_of_use = refl

-- Array b -> 1; [ Main; F(); ]; [ F b; b->0 = 1; ]; a local hides the array
hidden : program_breaches
    (program
    (array (codes "b") kinds.Bytes (1 ∷ []) ∷ main
    ∷ routine (codes "F") (the 1 (codes "b") ∷ [])
    (s.effect (p 2) (assign (byte (codes "b") (constant 0)) (p 3) (constant 1)) ∷ []) ∷ []))
    ≡ at (p 10) 23
unfolding program_breaches table_of key_of look_up
hidden = refl

-- Temporaries: a->(1 + 2) needs 2, and a->1 = e what the index and e need
index_needs : need (byte (codes "a") (binary op.Add (constant 1) (constant 2))) ≡ 2
index_needs = refl

assigned_needs : need (assign (byte (codes "a") (constant 1)) (p 1) (binary op.Add (constant 1) (constant 2))) ≡ 3
assigned_needs = refl
