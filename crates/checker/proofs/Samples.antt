-- Programs and what they mean, computed.
use Rattle.std.proofs.Common.{◌≡◌, ℕ, zero, suc, List, [], ◌∷◌, ◌++◌, None, refl}
use Rattle.std.specs.Prelude.{codes}
use Rattle.zcore.specs.declared.place.Place.TheVariants as places
use Rattle.zcore.specs.Arithmetic.{signed_text, decimal, quotient, remainder}
use Rattle.syntax_lexer.specs.declared.token.Position.{Position}
use Rattle.syntax_trees.specs.Tree.{NameTree, ExpressionTree, ExpressionTrees, constant, named, call, parenthesised}
use Rattle.syntax_trees.specs.Tree.{prefixed, step_before, step_after, binary, equal, assign, none, more}
use Rattle.syntax_trees.specs.declared.tree.Binary.TheVariants as op
use Rattle.syntax_trees.specs.declared.tree.Equality.TheVariants as equality
use Rattle.syntax_trees.specs.declared.tree.Prefix.TheVariants as prefix
use Rattle.syntax_trees.specs.declared.tree.Step.TheVariants as steps
use Rattle.syntax_statements.specs.PartTree as parts
use Rattle.syntax_statements.specs.Tree as s
use Rattle.syntax_statements.specs.Tree.{StatementTree, StatementTrees}
use Rattle.syntax_statements.specs.Views.{trees_of}
use Rattle.syntax_directives.specs.Tree as d
use Rattle.syntax_directives.specs.Tree.{DirectiveTree}
use Rattle.syntax.specs.Tree.{ProgramTree}
use Rattle.meaning.specs.World.{Outcome}
use Rattle.meaning.specs.Meaning.{meaning}
use Rattle.checker_values.specs.Breaches.{at}
use Rattle.checker_values.specs.Names.{table_of, key_of, look_up}
use Rattle.checker_values.specs.Temporaries.{need}
use Rattle.checker.specs.Programs.{program_breaches, resolve_with, file_of, resolve_program}

-- the position of a token, by its number
abbrev pub p : ℕ → Position
p n = record { offset = n; line = 1 }

abbrev pub the : ℕ → List ℕ → NameTree
the n text = record { text = text; position = p n }

abbrev pub item : ExpressionTree → parts.PrintItemTree
item e = parts.number_item (p 0) e

abbrev pub words : List ℕ → parts.PrintItemTree
words text = parts.text_item text

abbrev body : List StatementTree → StatementTrees
body xs = trees_of xs

abbrev pub routine : List ℕ → List NameTree → List StatementTree → DirectiveTree
routine name locals xs = d.routine (record { name = the 0 name; locals = locals; body = body xs; weight = 0 })

abbrev pub program : List DirectiveTree → ProgramTree
program ds = record { directives = ds; abbreviations = []; end = p 999; weight = 0; words = [] }

-- the transcript of one turn
abbrev pub says : List ℕ → Outcome
says text = record { texts = text ∷ []; place = places.Quit }

-- [ Main; print 32767 + 1, " ", -13 % 5, "^"; ];
abbrev sums : ProgramTree
sums = program
    (routine (codes "Main") []
    (s.print
    (item (binary op.Add (constant 32767) (constant 1)) ∷ words (codes " ")
    ∷ item (binary op.Remainder (prefixed prefix.Minus (constant 13)) (constant 5)) ∷ words (codes "^") ∷ []) ∷ [])
    ∷ [])

sums_fine : program_breaches sums ≡ []
unfolding program_breaches table_of key_of look_up
sums_fine = refl

sums_mean : meaning (resolve_program sums) 1000 [] ≡ says (codes "-32768 -3" ++ 10 ∷ [])
unfolding meaning resolve_program resolve_with file_of table_of key_of look_up signed_text decimal quotient remainder
sums_mean = refl

-- [ F x; print 1 / x; ]; [ Main; print "a"; F(); ];
abbrev divides : ProgramTree
divides = program
    (routine (codes "F") (the 1 (codes "x") ∷ [])
    (s.print (item (binary op.Divide (constant 1) (named (the 2 (codes "x")))) ∷ []) ∷ [])
    ∷ routine (codes "Main") []
    (s.print (words (codes "a") ∷ []) ∷ s.effect (p 3) (call (the 3 (codes "F")) none) ∷ [])
    ∷ [])

divides_fine : program_breaches divides ≡ []
unfolding program_breaches table_of key_of look_up
divides_fine = refl

divides_mean : meaning (resolve_program divides) 1000 []
    ≡ says (codes "a" ++ 10 ∷ codes "[Fault: division by zero]" ++ 10 ∷ [])
unfolding meaning resolve_program resolve_with file_of table_of key_of look_up signed_text decimal quotient remainder
divides_mean = refl

-- Constant c = 5; [ F a b; return a - b; ]; [ Main; print F(c, 2), " ", F(1), " ", ~~3, " ", ~0, "^"; ];
abbrev missing : ProgramTree
missing = program
    (d.constant (the 0 (codes "c")) (parts.number_value 5)
    ∷ routine (codes "F") (the 1 (codes "a") ∷ the 2 (codes "b") ∷ [])
    (s.return_value (p 3) (binary op.Subtract (named (the 3 (codes "a"))) (named (the 4 (codes "b")))) ∷ [])
    ∷ routine (codes "Main") [] (s.print
    (item (call (the 5 (codes "F")) (more (named (the 6 (codes "c"))) (more (constant 2) none)))
    ∷ words (codes " ")
    ∷ item (call (the 7 (codes "F")) (more (constant 1) none))
    ∷ words (codes " ")
    ∷ item (prefixed prefix.Not (constant 3))
    ∷ words (codes " ")
    ∷ item (prefixed prefix.Complement (constant 0))
    ∷ words (codes "^")
    ∷ []) ∷ [])
    ∷ [])

missing_fine : program_breaches missing ≡ []
unfolding program_breaches table_of key_of look_up
missing_fine = refl

missing_means : meaning (resolve_program missing) 1000 [] ≡ says (codes "3 1 0 -1" ++ 10 ∷ [])
unfolding meaning resolve_program resolve_with file_of table_of key_of look_up signed_text decimal quotient remainder
missing_means = refl

-- rules

-- an empty source has no Main
nothing_there : program_breaches (program []) ≡ at (p 999) 21
unfolding program_breaches table_of key_of look_up
nothing_there = refl

-- [ Main; x = 1; ];
unknown : program_breaches
    (program
    (routine (codes "Main") [] (s.effect (p 3) (assign (named (the 3 (codes "x"))) (p 4) (constant 1)) ∷ []) ∷ []))
    ≡ at (p 3) 20
unfolding program_breaches table_of key_of look_up
unknown = refl

-- Constant a = b; Constant b = 1; a later constant is unknown to an earlier one
later_constant : program_breaches
    (program
    (d.constant (the 0 (codes "a")) (parts.named_value (the 1 (codes "b")))
    ∷ d.constant (the 2 (codes "b")) (parts.number_value 1) ∷ routine (codes "Main") [] [] ∷ [])) ≡ at (p 1) 20
unfolding program_breaches table_of key_of look_up
later_constant = refl

-- Constant a = g; Global g; a global is no constant
no_constant : program_breaches
    (program
    (d.constant (the 0 (codes "a")) (parts.named_value (the 1 (codes "g"))) ∷ d.global (the 2 (codes "g")) None
    ∷ routine (codes "Main") [] [] ∷ [])) ≡ at (p 1) 23
unfolding program_breaches table_of key_of look_up
no_constant = refl

-- [ F; ]; [ Main; F = 1; F(1); 1 = 2; ];
kinds : program_breaches (program (routine (codes "F") [] [] ∷ routine (codes "Main") []
    (s.effect (p 1) (assign (named (the 1 (codes "F"))) (p 2) (constant 1))
    ∷ s.effect (p 3) (call (the 3 (codes "f")) (more (constant 1) none))
    ∷ s.effect (p 4) (assign (constant 1) (p 5) (constant 2))
    ∷ []) ∷ [])) ≡ at (p 1) 23 ++ at (p 2) 26 ++ at (p 3) 25 ++ at (p 5) 26
unfolding program_breaches table_of key_of look_up
kinds = refl

-- Temporaries

-- a call needs one for each argument, and one where it has none
abbrev arguments : ℕ → ExpressionTrees
arguments zero = none
arguments (suc n) = more (constant 1) (arguments n)

abbrev wide : ℕ → ExpressionTree
wide n = call (the 1 (codes "F")) (arguments n)

wide_needs : need (wide 49) ≡ 49
wide_needs = refl

-- (D)++, --D and D = 1 need what D needs, and x = D does; a name that is assigned is no operand
steps_need : need (step_after (parenthesised (wide 49)) steps.Increment (p 2)) ≡ 49
steps_need = refl

step_before_needs : need (step_before steps.Decrement (p 2) (wide 49)) ≡ 49
step_before_needs = refl

left_needs : need (assign (wide 49) (p 2) (constant 1)) ≡ 49
left_needs = refl

right_needs : need (assign (constant 1) (p 2) (wide 48)) ≡ 49
right_needs = refl

name_needs : need (assign (parenthesised (named (the 1 (codes "x")))) (p 2) (wide 48)) ≡ 48
name_needs = refl

-- (D)++ with D of 49 is E29 at the statement beside E26 at the operator
abbrev many : ExpressionTree
many = equal equality.Equal (constant 1) (arguments 48)

stepped_wide : program_breaches
    (program
    (routine (codes "Main") [] (s.effect (p 3) (step_after (parenthesised many) steps.Increment (p 4)) ∷ []) ∷ []))
    ≡ at (p 3) 29 ++ at (p 4) 26
unfolding program_breaches table_of key_of look_up
stepped_wide = refl
