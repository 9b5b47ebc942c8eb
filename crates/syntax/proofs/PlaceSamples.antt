-- Faults of the grammar and of nesting at worked examples: each stands at the first token with which no program begins,
-- or at the first that stands more than a hundred deep.
use Rattle.std.proofs.Common.{◌≡◌, ℕ, zero, suc, ◌+◌, ◌-◌, List, [], ◌∷◌, ◌++◌, length, Err, refl}
use Rattle.std.specs.Prelude.{codes}
use Rattle.syntax_lexer.specs.declared.token.Position.{Position}
use Rattle.syntax_lexer.specs.declared.token.Sign.TheVariants as s
use Rattle.syntax_lexer.specs.declared.token.Word.TheVariants as w
use Rattle.syntax_lexer.specs.Token.{Lexeme, name, number, reserved, sign, end}
use Rattle.syntax_trees.specs.Stop.{unfit, deep}
use Rattle.syntax_trees.specs.Parse as tokens
use Rattle.syntax_expressions.specs.PartParse as operands
use Rattle.syntax_expressions.specs.Parse as expressions
use Rattle.syntax_statements.specs.PartNesting as cases
use Rattle.syntax_statements.specs.PartParse as parts
use Rattle.syntax_statements.specs.Nesting as beginnings
use Rattle.syntax_statements.specs.Parse as statements
use Rattle.syntax_directives.specs.Parse as directives
use Rattle.syntax.specs.Parse as programs

abbrev Form : Type 0
Form = Position → Lexeme

-- tokens in one line, each at its number
abbrev numbered : ℕ → List Form → List Lexeme
numbered n [] = []
numbered n (t ∷ ts) = t (record { offset = n; line = 1 }) ∷ numbered (n + 1) ts

-- the tokens of a file are no program, and the fault is at that one
abbrev StandsAt : List Form → ℕ → Type 0
StandsAt ts n = programs.program 100 (numbered 0 ts) ≡ Err (unfit (length ts - n))

-- the fault is that this one stands too deep
abbrev IsDeepAt : List Form → ℕ → Type 0
IsDeepAt ts n = programs.program 100 (numbered 0 ts) ≡ Err (deep (length ts - n))

abbrev times : ℕ → Form → List Form
times zero t = []
times (suc n) t = t ∷ times n t

abbrev a : Form
a = name (codes "a")

abbrev one : Form
one = number 1

abbrev semicolon : Form
semicolon = sign s.Semicolon

abbrev opens : Form
opens = sign s.OpenParenthesis

abbrev closes : Form
closes = sign s.CloseParenthesis

-- these statements in a routine: its first is at 3
abbrev in_routine : List Form → List Form
in_routine ts = sign s.OpenBracket ∷ a ∷ semicolon ∷ (ts ++ sign s.CloseBracket ∷ semicolon ∷ end ∷ [])

-- else a;
abbrev else_alone : List Form
else_alone = in_routine (reserved w.Else ∷ a ∷ semicolon ∷ [])

-- switch (a) { default: default: }
abbrev default_again : List Form
default_again = in_routine
    (reserved w.Switch ∷ opens ∷ a ∷ closes ∷ sign s.OpenBrace ∷ reserved w.Default ∷ sign s.Colon ∷ reserved w.Default
    ∷ sign s.Colon ∷ sign s.CloseBrace ∷ [])

-- switch (a) { default: 1: } has a statement that begins with 1 after `default`
abbrev case_after : List Form
case_after = in_routine
    (reserved w.Switch ∷ opens ∷ a ∷ closes ∷ sign s.OpenBrace ∷ reserved w.Default ∷ sign s.Colon ∷ one
    ∷ sign s.Colon ∷ sign s.CloseBrace ∷ [])

-- 1 + 1; has no effect
abbrev without_effect : List Form
without_effect = in_routine (one ∷ sign s.Plus ∷ one ∷ semicolon ∷ [])

-- objectloop (1) a;
abbrev over_a_number : List Form
over_a_number = in_routine (reserved w.Objectloop ∷ opens ∷ one ∷ closes ∷ a ∷ semicolon ∷ [])

-- object a, ; has its fault after the comma
abbrev comma_alone : List Form
comma_alone = reserved w.Object ∷ a ∷ sign s.Comma ∷ semicolon ∷ end ∷ []

-- [ a; where the source ends
abbrev unclosed : List Form
unclosed = sign s.OpenBracket ∷ a ∷ semicolon ∷ end ∷ []

-- print (char 1;
abbrev unclosed_cast : List Form
unclosed_cast = in_routine (reserved w.Print ∷ opens ∷ reserved w.Char ∷ one ∷ semicolon ∷ [])

-- - 1, a value that no case follows, ends without an effect
abbrev value_alone : List Form
value_alone = in_routine
    (reserved w.Switch ∷ opens ∷ a ∷ closes ∷ sign s.OpenBrace ∷ one ∷ sign s.Colon ∷ sign s.Minus ∷ one ∷ semicolon
    ∷ sign s.CloseBrace ∷ [])

-- 1 + 1 in a hundred parentheses: `=` would fit after it, which a program nested a hundred deep has no place for
abbrev hundred_deep : List Form
hundred_deep = in_routine (times 100 opens ++ one ∷ sign s.Plus ∷ one ∷ (times 100 closes ++ semicolon ∷ []))

-- ((( .. 1 in 101 parentheses, of which the last stands too deep; what follows is not looked at
abbrev parentheses : List Form
parentheses = in_routine (times 101 opens ++ one ∷ [])

-- a = - - - .., where the first token after `=` stands one deep and each `-` one deeper
abbrev operators : List Form
operators = in_routine (a ∷ sign s.Assign ∷ times 101 (sign s.Minus))

-- {{{ .., where each brace stands two deeper, as a statement of a block and as a brace
abbrev braces : List Form
braces = in_routine (times 51 (sign s.OpenBrace))

stand : StandsAt else_alone 3 × StandsAt default_again 10 × StandsAt case_after 11 × StandsAt without_effect 6
    × StandsAt over_a_number 5 × StandsAt comma_alone 3 × StandsAt unclosed 3 × StandsAt unclosed_cast 6
    × StandsAt value_alone 12 × StandsAt hundred_deep 206
    × IsDeepAt parentheses 103 × IsDeepAt operators 104 × IsDeepAt braces 53
unfolding tokens.expect tokens.expect_word tokens.further tokens.list tokens.as_long tokens.repeated
    operands.array_at operands.expect_name operands.property_next operands.properties operands.entry_of
    operands.with_length operands.tested_next operands.after_operand expressions.chain expressions.after_name
    expressions.in_parentheses expressions.object_relative expressions.atom expressions.primary expressions.postfix expressions.unary
    expressions.entry expressions.after_owner expressions.object_entry expressions.array_entry expressions.factor
    expressions.product expressions.sum expressions.equate_on expressions.after_left expressions.comparison
    expressions.logical_operand expressions.condition expressions.right_side expressions.assignment expressions.expression
    expressions.rest_of_call expressions.nested cases.begins_case parts.flag parts.flags parts.known_value parts.range
    parts.ranges parts.cast parts.value parts.item parts.items parts.enclosed_condition parts.optional
    parts.optional_effect parts.heading parts.looped parts.enclosed_heading parts.enclosed_loop
    beginnings.begins_statement statements.ended statements.line_read statements.printed
    statements.returned statements.given statements.moved statements.removed statements.alone statements.do_body
    statements.braced statements.otherwise statements.one_case statements.cases statements.choice
    statements.repetition statements.until statements.iteration statements.traversal statements.selection
    statements.statement_over statements.inside statements.braces statements.bodies statements.statement
    statements.statements directives.names directives.array_value directives.values directives.kind directives.array_after
    directives.arrow directives.arrows directives.short directives.parent directives.object_heading
    directives.past_comma directives.prop directives.lists_further directives.next_prop directives.props
    directives.properties directives.some_names directives.attributes directives.object_after directives.one_text
    directives.texts directives.abbreviate_after directives.ended directives.global_after directives.constant_after
    directives.attribute_after directives.property_after directives.directive_of directives.routine_heading
    directives.routine_end directives.routine_body directives.routine_at directives.directive programs.one_entry
    programs.all_entries programs.entries programs.program
stand = (refl, refl, refl, refl, refl, refl, refl, refl, refl, refl, refl, refl, refl)
