-- Sizes of items and routines, computed, and a program whose weight bounds them.
use Rattle.std.proofs.Common.{◌≡◌, ◌+◌, ℕ, true, false, List, [], ◌∷◌, refl}
use Rattle.std.specs.Prelude.{codes}
use Rattle.ztext.specs.Alphabets.{spelling_of}
use Rattle.ztext.specs.Words.{packed}
use Rattle.ztext.specs.Abbreviations.{encoded_with}
use Rattle.zcore.specs.InstructionBytes.{bytes_of}
use Rattle.syntax_lexer.specs.declared.token.Position.{Position}
use Rattle.syntax_lexer.specs.declared.token.Sign.TheVariants as s
use Rattle.syntax_lexer.specs.declared.token.Word.TheVariants as w
use Rattle.syntax_lexer.specs.Token.{Lexeme, name, number, text, dictionary_word, reserved, sign, end}
use Rattle.syntax_trees.specs.declared.tree.Binary.TheVariants as binaries
use Rattle.syntax_trees.specs.declared.tree.Relative.TheVariants as relatives
use Rattle.syntax_trees.specs.declared.tree.Width.TheVariants as widths
use Rattle.syntax_trees.specs.Tree.{ExpressionTree}
use Rattle.syntax_trees.specs.Tree as trees
use Rattle.syntax_expressions.specs.Grammar.{IsE, e_plain, e1_plain, n1_plain, e2_plain, e3_plain, e4_plain, e4_scale}
use Rattle.syntax_expressions.specs.Grammar.{n4_plain, e5_plain, IsU, u_plain, p_property, p_name, p_number, p_word}
use Rattle.syntax_statements.specs.PartGrammar.{loop_in, items_last, items_comma, item_text, item_number}
use Rattle.syntax_statements.specs.Grammar.{s_print, s_objectloop, s_read, s_move, ss_stop, ss_next}
use Rattle.syntax_directives.specs.declared.tree.ArrayKind.TheVariants as kinds
use Rattle.syntax_directives.specs.Grammar.{names_stop, names_next, d_routine}
use Rattle.syntax.specs.Tree.{ProgramTree}
use Rattle.syntax.specs.Grammar.{e_directive, entries_stop, entries_next, IsProgram, program}
use Rattle.meaning.specs.declared.resolved.Variable.{Variable}
use Rattle.meaning.specs.declared.resolved.Variable.TheVariants as variables
use Rattle.meaning.specs.Resolved as source
use Rattle.checker_values.specs.declared.binding.Binding.TheVariants as bindings
use Rattle.checker_values.specs.Names.{key_of, first_table, File, look_up}
use Rattle.checker.specs.Programs.{routines_of}
use Rattle.code_drafts.specs.Items as items
use Rattle.code_drafts.specs.Addresses.{Sizes}
use Rattle.code.specs.Bytes.{least_size}
use Rattle.code.specs.Sizes.{routine_size, routines_size}

-- arrays of 10 bytes, of 600 and of 1,100, and 300 objects
abbrev sizes : Sizes
sizes = record { arrays = 10 ∷ 600 ∷ 1100 ∷ []; objects = 300; abbreviations = []; singles = [] }

abbrev x : Variable
x = variables.Local 0

-- the longest items of a fixed size

character_has : least_size sizes (items.print_character items.pushed) ≡ 24
unfolding bytes_of
character_has = refl

first_equal_has : least_size sizes items.first_equal ≡ 19
unfolding bytes_of
first_equal_has = refl

also_equal_has : least_size sizes items.also_equal ≡ 25
unfolding bytes_of
also_equal_has = refl

-- a number and the top: pull, test, fault, div
remainder_has : least_size sizes (items.operate binaries.Remainder (items.number 300) items.pushed items.push) ≡ 16
unfolding bytes_of
remainder_has = refl

-- `print` and one word of fives
no_text_has : least_size sizes (items.print_text []) ≡ 3
unfolding bytes_of encoded_with packed
no_text_has = refl

-- `print` and two words, where the first four characters are an abbreviation; else there are three
abbrev shortening : List (List ℕ) → Sizes
shortening abbreviations = record { arrays = []; objects = 0; abbreviations = abbreviations; singles = [] }

shorter_text_has : least_size (shortening (codes "the " ∷ [])) (items.print_text (codes "the end"))
    ∷ least_size (shortening []) (items.print_text (codes "the end")) ∷ []
    ≡ 5 ∷ 7 ∷ []
unfolding bytes_of encoded_with packed spelling_of
shorter_text_has = refl

-- call_1s, call_vs, and call_vs2 with its second byte of types
calls_have : least_size sizes (items.call 300 [] items.push)
    ∷ least_size sizes (items.call 300 (items.pushed ∷ items.pushed ∷ items.pushed ∷ []) items.push)
    ∷ least_size sizes (items.call 300 (items.pushed ∷ items.pushed ∷ items.pushed ∷ items.pushed ∷ []) items.push)
    ∷ []
    ≡ 4 ∷ 14 ∷ 19 ∷ []
unfolding bytes_of
calls_have = refl

-- two pulls, two tests, the fault, the instruction, and a word that goes on
accesses_have : least_size sizes (items.entry widths.Byte 1 items.pushed items.push)
    ∷ least_size sizes (items.assign_entry widths.Word 1 items.pushed items.pushed items.push)
    ∷ least_size sizes (items.assign_entry widths.Byte 1 items.pushed (items.number 300) (items.into x))
    ∷ []
    ≡ 23 ∷ 29 ∷ 29 ∷ []
unfolding bytes_of
accesses_have = refl

-- the same without the pull of what was put aside
accesses_aside_have : least_size sizes (items.entry_aside widths.Byte 1 items.push)
    ∷ least_size sizes (items.assign_entry_aside widths.Word 1 items.pushed items.pushed items.push)
    ∷ least_size sizes (items.assign_entry_aside widths.Byte 1 items.pushed (items.number 300) (items.into x))
    ∷ []
    ≡ 20 ∷ 26 ∷ 26 ∷ []
unfolding bytes_of
accesses_aside_have = refl

-- two first bytes tested, against small constants or large, and the line read
lines_have : least_size sizes (items.read_line 0 1) ∷ least_size sizes (items.read_line 1 2) ∷ [] ≡ 49 ∷ 53 ∷ []
unfolding bytes_of
lines_have = refl

-- The longest items on objects: their operands are tested against a large constant. A branch has its shortest form.

-- of one operand: `get_child` with its branch; a property of one word; a branch by an attribute
tested_objects_have : least_size sizes (items.relative relatives.Child items.pushed items.push)
    ∷ least_size sizes (items.property items.pushed 2 items.push)
    ∷ least_size sizes (items.property_size items.pushed 2 items.push)
    ∷ least_size sizes (items.give items.pushed ((true, 3) ∷ (false, 4) ∷ []))
    ∷ least_size sizes (items.has items.pushed 3 true 5)
    ∷ least_size sizes (items.provides items.pushed 3 true 5)
    ∷ []
    ≡ 21 ∷ 39 ∷ 24 ∷ 23 ∷ 21 ∷ 24 ∷ []
unfolding bytes_of
tested_objects_have = refl

-- of two and of three: a branch by the parent; an object into another; a word of a property, large as index and as word
two_operands_have : least_size sizes (items.is_in items.pushed items.pushed true 5)
    ∷ least_size sizes (items.move_object items.pushed items.pushed)
    ∷ least_size sizes (items.property_word 2 items.pushed (items.number 300) items.push)
    ∷ least_size sizes (items.assign_property 2 items.pushed (items.number 300) (items.into x))
    ∷ least_size sizes (items.assign_property_word 2 items.pushed (items.number 300) (items.number 300) (items.into x))
    ∷ []
    ≡ 24 ∷ 60 ∷ 57 ∷ 50 ∷ 63 ∷ []
unfolding bytes_of
two_operands_have = refl

-- store; two tests, a jump and a step
loops_have : least_size sizes (items.first_object x 5) ∷ least_size sizes (items.next_object x 5) ∷ [] ≡ 3 ∷ 15 ∷ []
unfolding bytes_of
loops_have = refl

-- store 255 300; je with 255 and three large constants
switches_have : least_size sizes (items.move (items.number 300) items.aside)
    ∷ least_size sizes (items.case items.same (300 ∷ 300 ∷ 300 ∷ 300 ∷ []) true 5) ∷ []
    ≡ 5 ∷ 10 ∷ []
unfolding bytes_of
switches_have = refl

-- [ Main; ];
empty_has : routine_size sizes (record { locals = 0; body = source.stop }) ≡ 2
unfolding bytes_of
empty_has = refl

-- [ Main; print "a", 6 / 2; ];

abbrev p : ℕ → Position
p n = record { offset = n; line = 1 }

abbrev after : List Lexeme
after = sign s.Semicolon (p 8) ∷ sign s.CloseBracket (p 9) ∷ sign s.Semicolon (p 10) ∷ end (p 11) ∷ []

abbrev body : List Lexeme
body = reserved w.Print (p 3) ∷ text (codes "a") (p 4) ∷ sign s.Comma (p 4) ∷ number 6 (p 5) ∷ sign s.Slash
    (p 6) ∷ number 2 (p 7) ∷ after

abbrev tokens : List Lexeme
tokens = sign s.OpenBracket (p 0) ∷ name (codes "Main") (p 1) ∷ sign s.Semicolon (p 2) ∷ body

-- 6 / 2, and the tokens after it
abbrev divided : IsE (number 6 (p 5) ∷ sign s.Slash (p 6) ∷ number 2 (p 7) ∷ after)
    (trees.binary binaries.Divide (trees.constant 6) (trees.constant 2)) after
divided = e_plain (e1_plain (n1_plain (e2_plain (e3_plain
    (e4_scale (e4_plain (n4_plain (e5_plain (u_plain p_number)))) refl (n4_plain (e5_plain (u_plain p_number))))))))

abbrev sample : (t : ProgramTree) × IsProgram tokens t
sample = (
  _,
  program (entries_next (e_directive (d_routine names_stop
      (ss_next (s_print (items_comma item_text (items_last (item_number divided)))) ss_stop))) entries_stop),
)

sample_weighs : sample.0.weight ≡ 387
sample_weighs = refl

-- the file has no names of its own
abbrev nameless : File
nameless = record { table = first_table; number = λ key. 0 }

-- a text of 3 bytes, a division of 4, the printing of its word of 3, and 1 at the end
sample_has : routines_size sizes (routines_of nameless sample.0.directives) ≡ 1 + (3 + 4 + 3 + 1) + 7
unfolding bytes_of encoded_with packed spelling_of look_up
sample_has = refl

-- [ Main; read t q; print 'go'; ];

abbrev after_go : List Lexeme
after_go = sign s.Semicolon (p 9) ∷ sign s.CloseBracket (p 10) ∷ sign s.Semicolon (p 11) ∷ end (p 12) ∷ []

abbrev reading_tokens : List Lexeme
reading_tokens = sign s.OpenBracket (p 0) ∷ name (codes "Main") (p 1) ∷ sign s.Semicolon (p 2) ∷ reserved w.Read
    (p 3) ∷ name (codes "t") (p 4) ∷ name (codes "q") (p 5) ∷ sign s.Semicolon (p 6) ∷ reserved w.Print
    (p 7) ∷ dictionary_word (codes "go") (p 8) ∷ after_go

-- an expression without operators
abbrev whole : {ts r : List Lexeme} {e : ExpressionTree} → IsU ts e r → IsE ts e r
whole u = e_plain (e1_plain (n1_plain (e2_plain (e3_plain (e4_plain (n4_plain (e5_plain u)))))))

-- 'go', and the tokens after it
abbrev go : IsE (dictionary_word (codes "go") (p 8) ∷ after_go) (trees.word (codes "go")) after_go
go = whole (u_plain p_word)

abbrev reading : (t : ProgramTree) × IsProgram reading_tokens t
reading = (
  _,
  program (entries_next (e_directive (d_routine names_stop
      (ss_next s_read (ss_next (s_print (items_last (item_number go))) ss_stop)))) entries_stop),
)

reading_weighs : reading.0.weight ≡ 384
reading_weighs = refl

-- `t` is the array of 600 bytes, `q` that of 1,100, and each word stands at 889
abbrev with_arrays : File
with_arrays = record {
  table =
      (key_of (codes "t"), bindings.Array 1 kinds.Bytes) ∷ (key_of (codes "q"), bindings.Array 2 kinds.Bytes) ∷ [];
  number = λ key. 889;
}

-- a `read` of 53 bytes, the printing of a large number of 4, and 1 at the end
reading_has : routines_size sizes (routines_of with_arrays reading.0.directives) ≡ 1 + (53 + 4 + 1) + 7
unfolding bytes_of look_up key_of
reading_has = refl

-- [ Main x; objectloop (x in x) move x to x.name; ];

abbrev after_name : List Lexeme
after_name = sign s.Semicolon (p 16) ∷ sign s.CloseBracket (p 17) ∷ sign s.Semicolon (p 18) ∷ end (p 19) ∷ []

abbrev moving : List Lexeme
moving = reserved w.Move (p 10) ∷ name (codes "x") (p 11) ∷ reserved w.To (p 12) ∷ name (codes "x") (p 13) ∷ sign s.Dot
    (p 14) ∷ name (codes "name") (p 15) ∷ after_name

abbrev looping_tokens : List Lexeme
looping_tokens = sign s.OpenBracket (p 0) ∷ name (codes "Main") (p 1) ∷ name (codes "x") (p 2) ∷ sign s.Semicolon
    (p 3) ∷ reserved w.Objectloop (p 4) ∷ sign s.OpenParenthesis (p 5) ∷ name (codes "x") (p 6) ∷ reserved w.In
    (p 7) ∷ name (codes "x") (p 8) ∷ sign s.CloseParenthesis (p 9) ∷ moving

abbrev looping : (t : ProgramTree) × IsProgram looping_tokens t
looping = (
  _,
  program (entries_next (e_directive (d_routine (names_next names_stop) (ss_next (s_objectloop
      (loop_in (e3_plain (e4_plain (n4_plain (e5_plain (u_plain p_name)))))) (s_move (whole (u_plain p_name))
      (whole (u_plain (p_property p_name))))) ss_stop))) entries_stop),
)

looping_weighs : looping.0.weight ≡ 608
looping_weighs = refl

-- the child of 18 bytes goes to the variable by 3 and a test of 4; a property of 36, and a move of 57; the sibling
-- likewise, with a test of 3, and back by 3; and 1 at the end
looping_has : routines_size sizes (routines_of nameless looping.0.directives)
    ≡ 1 + ((18 + 3 + 4) + (36 + 57) + (18 + 3 + 3) + 3 + 1) + 7
unfolding bytes_of look_up key_of
looping_has = refl
