-- What the items of some programs do, computed.
use Rattle.std.proofs.Common.{◌≡◌, ℕ, List, [], ◌∷◌, ◌++◌, Option, Some, None, refl}
use Rattle.std.specs.Prelude.{codes, replicate}
use Rattle.ztext.specs.Alphabets.{spelling_of}
use Rattle.ztext.specs.Text.{key_of as word_key}
use Rattle.ztext.specs.Words.{packed}
use Rattle.zcore.specs.Arithmetic.{signed_text, decimal, quotient, remainder}
use Rattle.zcore.specs.declared.place.Place.TheVariants as places
use Rattle.zcore.specs.declared.place.Limit.TheVariants as limits
use Rattle.zcore.specs.Cutting.{words_of}
use Rattle.zcore.specs.Dictionary.{number_of_key}
use Rattle.syntax_lexer.specs.declared.token.Position.{Position}
use Rattle.syntax_trees.specs.Tree.{NameTree, ExpressionTree, constant, named, call, index, prefixed, step_after}
use Rattle.syntax_trees.specs.Tree.{binary, compare, equal, assign, none, more}
use Rattle.syntax_trees.specs.declared.tree.Binary.TheVariants as op
use Rattle.syntax_trees.specs.declared.tree.Comparison.TheVariants as comparison
use Rattle.syntax_trees.specs.declared.tree.Equality.TheVariants as equality
use Rattle.syntax_trees.specs.declared.tree.Prefix.TheVariants as prefix
use Rattle.syntax_trees.specs.declared.tree.Step.TheVariants as steps
use Rattle.syntax_trees.specs.declared.tree.Width.TheVariants as widths
use Rattle.syntax_statements.specs.PartTree as parts
use Rattle.syntax_statements.specs.PartTree.{RangeTree}
use Rattle.syntax_statements.specs.Tree as s
use Rattle.syntax_statements.specs.Tree.{StatementTree, StatementTrees}
use Rattle.syntax_statements.specs.Views.{trees_of}
use Rattle.syntax_directives.specs.declared.tree.ArrayKind.TheVariants as kinds
use Rattle.syntax_directives.specs.Tree as d
use Rattle.syntax_directives.specs.Tree.{DirectiveTree}
use Rattle.syntax.specs.Tree.{ProgramTree}
use Rattle.meaning.specs.Resolved as source
use Rattle.meaning.specs.World.{Outcome}
use Rattle.meaning.specs.Reading.{words_for}
use Rattle.checker_values.specs.Names.{table_of, key_of, look_up}
use Rattle.checker.specs.Programs.{resolve_with, file_of, resolve_program}
use Rattle.code_items.specs.Stack.{from, exec, start}

-- the position of a token, by its number
abbrev p : ℕ → Position
p n = record { offset = n; line = 1 }

abbrev the : ℕ → List ℕ → NameTree
the n text = record { text = text; position = p n }

abbrev item : ExpressionTree → parts.PrintItemTree
item e = parts.number_item (p 0) e

abbrev words : List ℕ → parts.PrintItemTree
words text = parts.text_item text

abbrev body : List StatementTree → StatementTrees
body xs = trees_of xs

abbrev routine : List ℕ → List NameTree → List StatementTree → DirectiveTree
routine name locals xs = d.routine (record { name = the 0 name; locals = locals; body = body xs; weight = 0 })

abbrev program : List DirectiveTree → ProgramTree
program ds = record { directives = ds; abbreviations = []; end = p 999; weight = 0; words = [] }

-- the transcript of one turn
abbrev says : List ℕ → Outcome
says text = record { texts = text ∷ []; place = places.Quit }

-- so many items with so much fuel
abbrev runs : ℕ → ℕ → source.ProgramOf → Option Outcome
runs count full program = from (start program full []) (exec program full count)

-- [ Main; print 32767 + 1, " ", -13 % 5, "^"; ];
abbrev sums : ProgramTree
sums = program (routine (codes "Main") []
    (s.print (item (binary op.Add (constant 32767) (constant 1)) ∷ words (codes " ") ∷ item
    (binary op.Remainder (prefixed prefix.Minus (constant 13)) (constant 5)) ∷ words (codes "^") ∷ []) ∷ []) ∷ [])

sums_do : runs 20 1000 (resolve_program sums) ≡ Some (says (codes "-32768 -3" ++ 10 ∷ []))
unfolding resolve_program resolve_with file_of table_of key_of look_up signed_text decimal quotient remainder
sums_do = refl

-- [ F x; print 1 / x; ]; [ Main; print "a"; F(); ];
abbrev divides : ProgramTree
divides = program
    (routine (codes "F") (the 1 (codes "x") ∷ [])
    (s.print (item (binary op.Divide (constant 1) (named (the 2 (codes "x")))) ∷ []) ∷ [])
    ∷ routine (codes "Main") []
    (s.print (words (codes "a") ∷ []) ∷ s.effect (p 3) (call (the 3 (codes "F")) none) ∷ [])
    ∷ [])

divides_do : runs 20 1000 (resolve_program divides)
    ≡ Some (says (codes "a" ++ 10 ∷ codes "[Fault: division by zero]" ++ 10 ∷ []))
unfolding resolve_program resolve_with file_of table_of key_of look_up signed_text decimal quotient remainder
divides_do = refl

-- [ F; F(); ]; [ Main; F(); ];
abbrev deep : ProgramTree
deep = program
    (routine (codes "F") [] (s.effect (p 1) (call (the 1 (codes "F")) none) ∷ [])
    ∷ routine (codes "Main") [] (s.effect (p 2) (call (the 2 (codes "F")) none) ∷ [])
    ∷ [])

deep_does : runs 1001 1000000 (resolve_program deep)
    ≡ Some (record {
      texts = (10 ∷ codes "[Limit: calls too deep]" ++ 10 ∷ []) ∷ [];
      place =
          places.Limit limits.Calls;
    })
unfolding resolve_program resolve_with file_of table_of key_of look_up
deep_does = refl

deep_in_short : runs 1001 10 (resolve_program deep)
    ≡ Some (record {
      texts = (10 ∷ codes "[Limit: turn too long]" ++ 10 ∷ []) ∷ [];
      place = places.Limit limits.Fuel;
    })
unfolding resolve_program resolve_with file_of table_of key_of look_up
deep_in_short = refl

-- Global i; [ Main; while (i < 2) { print i; i++; } ]; going back is charged before the test
abbrev counts : ProgramTree
counts = program
    (d.global (the 0 (codes "i")) None
    ∷ routine (codes "Main") []
    (s.while_do (p 1) (compare comparison.Less (named (the 1 (codes "i"))) (constant 2))
    (s.block (body (s.print (item (named (the 2 (codes "i"))) ∷ []) ∷ s.effect (p 3)
    (step_after (named (the 3 (codes "I"))) steps.Increment (p 4)) ∷ []))) ∷ [])
    ∷ [])

counts_do : runs 40 3 (resolve_program counts) ≡ Some (says (codes "01"))
unfolding resolve_program resolve_with file_of table_of key_of look_up signed_text decimal quotient remainder
counts_do = refl

counts_in_short : runs 40 2 (resolve_program counts)
    ≡ Some (record {
      texts = (codes "01" ++ 10 ∷ codes "[Limit: turn too long]" ++ 10 ∷ []) ∷ [];
      place =
          places.Limit limits.Fuel;
    })
unfolding resolve_program resolve_with file_of table_of key_of look_up signed_text decimal quotient remainder
counts_in_short = refl

-- Global g; [ F; g = g + 1; return g; ]; [ Main; print F() - F() * 10, "^"; ];
abbrev in_order : ProgramTree
in_order = program
    (d.global (the 0 (codes "g")) None
    ∷ routine (codes "F") []
    (s.effect (p 1) (assign (named (the 1 (codes "g"))) (p 2)
    (binary op.Add (named (the 3 (codes "g"))) (constant 1))) ∷ s.return_value (p 4)
    (named (the 4 (codes "g"))) ∷ [])
    ∷ routine (codes "Main") []
    (s.print (item (binary op.Subtract (call (the 5 (codes "F")) none)
    (binary op.Multiply (call (the 6 (codes "F")) none) (constant 10))) ∷ words (codes "^") ∷ []) ∷ [])
    ∷ [])

in_order_does : runs 60 1000 (resolve_program in_order) ≡ Some (says (codes "-19" ++ 10 ∷ []))
unfolding resolve_program resolve_with file_of table_of key_of look_up signed_text decimal quotient remainder
in_order_does = refl

-- [ F a b; return a - b; ]; [ Main; print F(5, 2), 2 == 1 or 2 or 3, 2 ~= 1 or 2, 0 && 1, 7 || 0, 3 && 4; ];
abbrev choices : ProgramTree
choices = program
    (routine (codes "F") (the 1 (codes "a") ∷ the 2 (codes "b") ∷ [])
    (s.return_value (p 3) (binary op.Subtract (named (the 3 (codes "a"))) (named (the 4 (codes "b")))) ∷ [])
    ∷ routine (codes "Main") [] (s.print
    (item (call (the 5 (codes "F")) (more (constant 5) (more (constant 2) none)))
    ∷ item (equal equality.Equal (constant 2) (more (constant 1) (more (constant 2) (more (constant 3) none))))
    ∷ item (equal equality.NotEqual (constant 2) (more (constant 1) (more (constant 2) none)))
    ∷ item (binary op.AndAlso (constant 0) (constant 1))
    ∷ item (binary op.OrElse (constant 7) (constant 0))
    ∷ item (binary op.AndAlso (constant 3) (constant 4))
    ∷ []) ∷ [])
    ∷ [])

choices_do : runs 60 1000 (resolve_program choices) ≡ Some (says (codes "310011"))
unfolding resolve_program resolve_with file_of table_of key_of look_up signed_text decimal quotient remainder
choices_do = refl

-- Global i; Array b -> 4;
-- [ Main; b->i = i++ + 511; print b->0, " ", b-->0, "^"; if (b->i) print "a"; print b-->2; ];
-- the index is evaluated before what is assigned, and a byte keeps its low eight bits
abbrev entries : ProgramTree
entries = program
    (d.global (the 0 (codes "i")) None
    ∷ d.array (record {
      name = the 1 (codes "b");
      kind = kinds.Bytes;
      values = record { position = p 2; value = parts.number_value 4 } ∷ [];
    })
    ∷ routine (codes "Main") []
    (s.effect (p 3) (assign (index (the 3 (codes "b")) widths.Byte (named (the 4 (codes "i")))) (p 5)
    (binary op.Add (step_after (named (the 6 (codes "i"))) steps.Increment (p 7)) (constant 511)))
    ∷ s.print (item (index (the 8 (codes "b")) widths.Byte (constant 0)) ∷ words (codes " ") ∷ item
    (index (the 9 (codes "b")) widths.Word (constant 0)) ∷ words (codes "^") ∷ [])
    ∷ s.if_then (p 10) (index (the 10 (codes "b")) widths.Byte (named (the 11 (codes "i"))))
    (s.print (words (codes "a") ∷ []))
    ∷ s.print (item (index (the 12 (codes "b")) widths.Word (constant 2)) ∷ []) ∷ [])
    ∷ [])

entries_do : runs 40 1000 (resolve_program entries)
    ≡ Some (says (codes "255 -256" ++ 10 ∷ 10 ∷ codes "[Fault: index out of range]" ++ 10 ∷ []))
unfolding resolve_program resolve_with file_of table_of key_of look_up signed_text decimal quotient remainder
entries_do = refl

abbrev from_to : ℕ → ℕ → RangeTree
from_to low high = record { low = parts.number_value low; high = Some (parts.number_value high) }

abbrev alone : ℕ → RangeTree
alone n = record { low = parts.number_value n; high = None }

-- Global i; [ Main; for (i = 0: i < 12: i++) {
--   switch (i) { 0 to 2: continue; 4, 5, 6, 7, 8: break; 11: return; default: print "d"; } print i; } ];
abbrev chooses : ProgramTree
chooses = program
    (d.global (the 0 (codes "i")) None
    ∷ routine (codes "Main") []
    (s.for_loop (p 1) (Some (assign (named (the 1 (codes "i"))) (p 2) (constant 0)))
    (Some (compare comparison.Less (named (the 3 (codes "i"))) (constant 12)))
    (Some (step_after (named (the 4 (codes "i"))) steps.Increment (p 5)))
    (s.block (body (s.switch_on (p 6) (named (the 6 (codes "i")))
    (s.case (from_to 0 2 ∷ []) (body (s.continue_at (p 7) ∷ []))
    (s.case (alone 4 ∷ alone 5 ∷ alone 6 ∷ alone 7 ∷ alone 8 ∷ []) (body (s.break_at (p 8) ∷ []))
    (s.case (alone 11 ∷ []) (body (s.return_value (p 9) (constant 1) ∷ []))
    (s.default_case (body (s.print (words (codes "d") ∷ []) ∷ []))))))
    ∷ s.print (item (named (the 10 (codes "i"))) ∷ []) ∷ []))) ∷ [])
    ∷ [])

-- the call of Main and eleven goings back
chooses_does : runs 200 12 (resolve_program chooses) ≡ Some (says (codes "d345678d9d10"))
unfolding resolve_program resolve_with file_of table_of key_of look_up signed_text decimal quotient remainder
chooses_does = refl

-- F();
abbrev does_nothing : source.Action
does_nothing = source.effect (source.call 0 source.none)

-- Array t and Array p, F does nothing:
-- [ Main; F(); read t p; print t->1, " ", p-->1, " ", p->5; F(); F(); read t p; ];
abbrev reads : List ℕ → source.ProgramOf
reads letters = record {
  globals = [];
  arrays = letters ∷ (1 ∷ replicate 5 0) ∷ [];
  defaults = replicate 63 0;
  objects = [];
  keys = number_of_key (word_key (codes "go")) ∷ [];
  abbreviations = [];
  routines =
      record { locals = 0; body = source.stop }
      ∷ record {
        locals = 0;
        body =
            source.next does_nothing (source.next (source.read_line 0 1)
            (source.next (source.print (source.number_of (source.entry widths.Byte 0 (source.number 1))
            ∷ source.text (codes " ") ∷ source.number_of (source.entry widths.Word 1 (source.number 1))
            ∷ source.text (codes " ") ∷ source.number_of (source.entry widths.Byte 1 (source.number 5)) ∷ []))
            (source.next does_nothing (source.next does_nothing (source.next (source.read_line 0 1) source.stop)))));
      }
      ∷ [];
  main = 1;
}

-- so many items on one line
abbrev runs_on : List ℕ → List ℕ → Option Outcome
runs_on letters line = from (start (reads letters) 2 (line ∷ [])) (exec (reads letters) 2 40)

-- The opening and the line have two units each. The word is the address of its entry in the dictionary, and stands at
-- byte 2 of the letters.
reads_do : runs_on (10 ∷ replicate 11 0) (codes "Go there")
    ≡ Some (record { texts = [] ∷ codes "8 889 2" ∷ []; place = places.Waiting })
unfolding signed_text decimal quotient remainder words_for words_of spelling_of packed word_key number_of_key
reads_do = refl

-- one byte less, and nothing is read
reads_too_much : runs_on (10 ∷ replicate 10 0) (codes "go")
    ≡ Some (says (10 ∷ codes "[Fault: buffer too small]" ++ 10 ∷ []))
reads_too_much = refl
