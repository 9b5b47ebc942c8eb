-- For each stack that can come about, tokens with which the machine takes it to its end; and which stacks those are.
use Rattle.std.proofs.Common.{◌≡◌, Bool, true, false, List, [], ◌∷◌, ◌++◌}
use Rattle.syntax_lexer.specs.declared.token.Position.{Position}
use Rattle.syntax_lexer.specs.declared.token.Sign.{Sign}
use Rattle.syntax_lexer.specs.declared.token.Sign.TheVariants as s
use Rattle.syntax_lexer.specs.declared.token.Word.TheVariants as w
use Rattle.syntax_lexer.specs.Token.{Lexeme, name, number, text, reserved, sign, end}
use Rattle.syntax_trees.specs.Parse.{head}
use Rattle.syntax.proofs.Frames.{Frame, token, word, any_name, any_text, number_left, last, close}
use Rattle.syntax.proofs.Frames.{primary, unary, indexed, complement, product, sum, comparison}
use Rattle.syntax.proofs.Frames.{negation, condition, expression, arguments, name_after, array_after}
use Rattle.syntax.proofs.Frames.{properties_left, suffix_left, owned_left, scale_left, add_left}
use Rattle.syntax.proofs.Frames.{compare_left, or_left, logic_left, assign_left, arguments_left, set}
use Rattle.syntax.proofs.Frames.{need, value, upper_left, ranges_left, flag, flags_left, item}
use Rattle.syntax.proofs.Frames.{items_left}
use Rattle.syntax.proofs.Frames.{cast_after, optional, optional_effect, loop, returned, statement}
use Rattle.syntax.proofs.Frames.{statements_left, else_left, cases_left, otherwise_left, body_left}
use Rattle.syntax.proofs.Frames.{case_after, minus_after, names_left, values_left, value_left}
use Rattle.syntax.proofs.Frames.{initial_left, array_kind, object_heading, arrows_left, short_left}
use Rattle.syntax.proofs.Frames.{parent_left, properties_after, attributes_left, with_or_has}
use Rattle.syntax.proofs.Frames.{property_or_has, props_left, texts_left, entries_left, Stack, less}

abbrev pub anywhere : Position
anywhere = record { offset = 0; line = 0 }

abbrev zero_token : Lexeme
zero_token = number 0 anywhere

abbrev some_name : Lexeme
some_name = name [] anywhere

abbrev pub word_of : Frame → List Lexeme
word_of (token s) = sign s anywhere ∷ []
word_of (word w) = reserved w anywhere ∷ []
word_of any_name = some_name ∷ []
word_of any_text = text [] anywhere ∷ []
word_of number_left = zero_token ∷ []
word_of last = end anywhere ∷ []
word_of close = sign s.CloseParenthesis anywhere ∷ []
word_of primary = zero_token ∷ []
word_of unary = zero_token ∷ []
word_of indexed = zero_token ∷ []
word_of complement = zero_token ∷ []
word_of product = zero_token ∷ []
word_of sum = zero_token ∷ []
word_of comparison = zero_token ∷ []
word_of negation = zero_token ∷ []
word_of condition = zero_token ∷ []
-- as an expression with an effect
word_of expression = zero_token ∷ sign s.Assign anywhere ∷ zero_token ∷ []
word_of assign_left = sign s.Assign anywhere ∷ zero_token ∷ []
word_of arguments = sign s.CloseParenthesis anywhere ∷ []
word_of value = zero_token ∷ []
word_of flag = some_name ∷ []
word_of item = text [] anywhere ∷ []
word_of loop = some_name ∷ []
word_of returned = sign s.Semicolon anywhere ∷ []
word_of statement = sign s.Semicolon anywhere ∷ []
word_of array_kind = sign s.Arrow anywhere ∷ []
word_of object_heading = some_name ∷ []
word_of with_or_has = reserved w.With anywhere ∷ some_name ∷ zero_token ∷ []
word_of property_or_has = some_name ∷ zero_token ∷ []
word_of _ = []

unfoldable pub words : Stack → List Lexeme
words [] = []
words (f ∷ k) = word_of f ++ words k

-- the token that comes next, where those words come
abbrev pub next : Stack → Lexeme
next k = head (words k)

-- ---- what must come after what may stay away

-- after an expression: what nothing in it takes
abbrev pub ends_expression : Lexeme → Bool
ends_expression (sign s.CloseParenthesis _) = true
ends_expression (sign s.Semicolon _) = true
ends_expression (sign s.Colon _) = true
ends_expression (reserved w.To _) = true
ends_expression (name _ _) = true
ends_expression _ = false

-- after an operand: the same, or an assignment
abbrev pub ends_operand : Lexeme → Bool
ends_operand (sign s.Assign _) = true
ends_operand (sign s.CloseParenthesis _) = true
ends_operand (sign s.Semicolon _) = true
ends_operand (sign s.Colon _) = true
ends_operand (reserved w.To _) = true
ends_operand (name _ _) = true
ends_operand _ = false

-- after a list of items
abbrev pub ends_list : Lexeme → Bool
ends_list (sign s.CloseParenthesis _) = true
ends_list (sign s.Semicolon _) = true
ends_list (sign s.Colon _) = true
ends_list _ = false

-- after a statement
abbrev pub ends_statements : Lexeme → Bool
ends_statements (sign s.CloseBrace _) = true
ends_statements (sign s.CloseBracket _) = true
ends_statements (reserved w.Until _) = true
ends_statements _ = false

abbrev pub Ends : (Lexeme → Bool) → Stack → Type 0
Ends closes k = closes (next k) ≡ true

-- the rest of a statement of a case after its first operand, from the operators that bind tightest on
abbrev pub rest_of_effect : Stack → Stack
rest_of_effect k =
    scale_left ∷ add_left ∷ compare_left ∷ logic_left ∷ assign_left ∷ need ∷ token s.Semicolon ∷ body_left ∷ k

-- what stands under a frame; c: the frame above gives it an effect
abbrev pub Place : Bool → Frame → Stack → Type 0
-- nothing comes after the end of a source
Place c last k = k ≡ []
Place c close k = Ends ends_operand k
Place c primary k = Ends ends_operand k
Place c unary k = Ends ends_operand k
Place c indexed k = Ends ends_operand k
Place c complement k = Ends ends_operand k
Place c product k = Ends ends_operand k
Place c sum k = Ends ends_operand k
Place c comparison k = Ends ends_operand k
Place c negation k = Ends ends_operand k
Place c condition k = Ends ends_operand k
Place c expression k = Ends ends_expression k
Place c name_after k = Ends ends_operand k
Place c array_after k = (j : Stack) × (k ≡ properties_left ∷ owned_left ∷ j)
Place c properties_left k = Ends ends_operand k
Place c suffix_left k = Ends ends_operand k
Place c owned_left k = Ends ends_operand k
Place c scale_left k = Ends ends_operand k
Place c add_left k = Ends ends_operand k
Place c compare_left k = Ends ends_operand k
Place c or_left k = Ends ends_operand k
Place c logic_left k = Ends ends_operand k
Place c assign_left k = Ends ends_expression k
Place c arguments_left k = Ends ends_list k
Place c need k = (c ≡ true) × ((s : Sign) × (j : Stack) × (k ≡ token s ∷ j))
Place c upper_left k = Ends ends_list k
Place c ranges_left k = Ends ends_list k
Place c flags_left k = Ends ends_list k
Place c item k = Ends ends_expression k
Place c items_left k = Ends ends_list k
Place c cast_after k = (j : Stack)
    × (k ≡ expression ∷ close ∷ properties_left ∷ owned_left ∷ scale_left ∷ add_left ∷ compare_left ∷ logic_left
    ∷ assign_left ∷ set false ∷ j)
Place c (optional s) k = (ends_expression (sign s anywhere) ≡ true) × ((j : Stack) × (k ≡ token s ∷ j))
Place c (optional_effect s) k = (ends_expression (sign s anywhere) ≡ true) × ((j : Stack) × (k ≡ token s ∷ j))
Place c loop k = Ends ends_operand k
Place c statement k = Ends ends_statements k
Place c statements_left k = Ends ends_statements k
Place c else_left k = Ends ends_statements k
Place c cases_left k = Ends ends_statements k
Place c otherwise_left k = Ends ends_statements k
Place c body_left k = (j : Stack) × (k ≡ cases_left ∷ j)
Place c (case_after n) k = ((j : Stack) × (less n k ≡ cases_left ∷ j)) × (next k ≡ sign s.Assign anywhere)
Place c minus_after k = (j : Stack) × (k ≡ unary ∷ set false ∷ rest_of_effect (cases_left ∷ j))
Place c names_left k = Ends ends_list k
Place c values_left k = Ends ends_list k
Place c value_left k = Ends ends_list k
Place c initial_left k = Ends ends_list k
Place c object_heading k = Ends ends_list k
Place c arrows_left k = (j : Stack) × (k ≡ any_name ∷ j)
Place c short_left k = Ends ends_list k
Place c parent_left k = Ends ends_list k
Place c properties_after k = Ends ends_list k
Place c attributes_left k = Ends ends_list k
Place c with_or_has k = Ends ends_list k
Place c property_or_has k = Ends ends_list k
Place c props_left k = Ends ends_list k
Place c texts_left k = Ends ends_list k
Place c entries_left k = (j : Stack) × (k ≡ last ∷ j)
Place c _ k = Unit {0}

-- what stands under a frame has an effect where its words came
abbrev pub lends : Frame → Bool
lends expression = true
lends assign_left = true
lends (set c) = c
lends _ = false

unfoldable pub Fits : Bool → Stack → Type 0
Fits c [] = Unit {0}
Fits c (f ∷ k) = Place c f k × Fits (lends f) k
