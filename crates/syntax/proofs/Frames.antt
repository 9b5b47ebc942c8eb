-- Frames, which are what is still to come, and what each takes of a token.
use Rattle.std.proofs.Common.{ℕ, zero, suc, Bool, true, false, List, [], ◌∷◌, Option, Some, None}
use Rattle.std.specs.Prelude.{if◌then◌else◌}
use Rattle.syntax_lexer.specs.declared.token.Sign.{Sign}
use Rattle.syntax_lexer.specs.declared.token.Sign.TheVariants as s
use Rattle.syntax_lexer.specs.declared.token.Word.{Word}
use Rattle.syntax_lexer.specs.declared.token.Word.TheVariants as w
use Rattle.syntax_lexer.specs.Token.{Lexeme, name, number, text, character, dictionary_word, reserved, sign, end}
use Rattle.syntax_trees.specs.Parse.{is_sign}
use Rattle.syntax_expressions.specs.Operators.{stepping, prefixes, relating_word}
use Rattle.syntax_expressions.specs.PartParse.{word_value, is_name}

-- What is still to come. A frame that is `left` or `after` something may stay away.
pub data Frame : Type 0 where
  -- one token
  token : Sign → Frame
  word : Word → Frame
  any_name : Frame
  any_text : Frame
  number_left : Frame
  last : Frame
  -- the second parenthesis of an expression, which has the effect of what it encloses
  close : Frame
  -- expressions, level by level
  primary : Frame
  unary : Frame
  indexed : Frame
  complement : Frame
  product : Frame
  sum : Frame
  comparison : Frame
  negation : Frame
  condition : Frame
  expression : Frame
  arguments : Frame
  name_after : Frame
  array_after : Frame
  properties_left : Frame
  suffix_left : Frame
  owned_left : Frame
  scale_left : Frame
  add_left : Frame
  compare_left : Frame
  or_left : Frame
  logic_left : Frame
  assign_left : Frame
  arguments_left : Frame
  -- whether the expression that was read last has an effect; and that it has
  set : Bool → Frame
  need : Frame
  -- what statements are made of
  value : Frame
  upper_left : Frame
  ranges_left : Frame
  flag : Frame
  flags_left : Frame
  item : Frame
  items_left : Frame
  -- after the parenthesis of an item, over the rest of it as an expression
  cast_after : Frame
  -- an expression, where that sign is not the next token
  optional : Sign → Frame
  optional_effect : Sign → Frame
  loop : Frame
  returned : Frame
  -- statements
  statement : Frame
  statements_left : Frame
  else_left : Frame
  cases_left : Frame
  otherwise_left : Frame
  -- the statements of a case, over the cases after it
  body_left : Frame
  -- after a value, or after `-`, with which a statement of a case or the next case begins, over the rest of that
  -- statement: so many frames
  case_after : ℕ → Frame
  minus_after : Frame
  -- directives
  names_left : Frame
  values_left : Frame
  value_left : Frame
  initial_left : Frame
  array_kind : Frame
  object_heading : Frame
  arrows_left : Frame
  short_left : Frame
  parent_left : Frame
  properties_after : Frame
  attributes_left : Frame
  -- after a comma, over the attributes: `with` or `has`; a property or `has`
  with_or_has : Frame
  property_or_has : Frame
  props_left : Frame
  texts_left : Frame
  entries_left : Frame

abbrev pub Stack : Type 0
Stack = List Frame

-- by what a table found
abbrev pub given : {A B : Type 0} → Option A → B → B → B
given None x y = y
given (Some a) x y = x

-- what the first takes, or else the second
abbrev pub or_else : Option Stack → Option Stack → Option Stack
or_else None other = other
or_else (Some k) other = Some k

-- a stack with one frame more
abbrev pub under : Frame → Option Stack → Option Stack
under f None = None
under f (Some k) = Some (f ∷ k)

-- a stack less its first frames
unfoldable pub less : ℕ → Stack → Stack
less zero k = k
less (suc n) [] = []
less (suc n) (f ∷ k) = less n k

-- ---- expressions, over what follows them

abbrev pub on_word : Word → Stack → Option Stack
on_word w k =
    given (relating_word w) (Some (token s.OpenParenthesis ∷ expression ∷ close ∷ set false ∷ k))
    (given (word_value w) (Some k) None)

abbrev pub on_atom : Lexeme → Stack → Option Stack
on_atom (number n p) k = Some k
on_atom (character c p) k = Some k
on_atom (dictionary_word f p) k = Some k
on_atom (reserved w p) k = on_word w k
on_atom (name n p) k = Some (name_after ∷ k)
on_atom (sign s.OpenParenthesis p) k = Some (expression ∷ close ∷ k)
on_atom _ k = None

abbrev pub on_primary : Lexeme → Stack → Option Stack
on_primary t k = on_atom t (properties_left ∷ k)

abbrev pub on_unary : Lexeme → Stack → Option Stack
on_unary t k =
    if is_sign s.Minus t then Some (unary ∷ set false ∷ k)
    else given (stepping t) (Some (primary ∷ set true ∷ k)) (on_primary t (suffix_left ∷ k))

abbrev pub on_unindexed : Lexeme → Stack → Option Stack
on_unindexed t k = if prefixes t then on_unary t k else on_primary t (owned_left ∷ k)

abbrev pub on_indexed : Lexeme → Stack → Option Stack
on_indexed (name n p) k = Some (array_after ∷ properties_left ∷ owned_left ∷ k)
on_indexed t k = on_unindexed t k

abbrev pub on_complement : Lexeme → Stack → Option Stack
on_complement t k = if is_sign s.Tilde t then Some (complement ∷ set false ∷ k) else on_indexed t k

abbrev pub on_product : Lexeme → Stack → Option Stack
on_product t k = on_complement t (scale_left ∷ k)

abbrev pub on_sum : Lexeme → Stack → Option Stack
on_sum t k = on_product t (add_left ∷ k)

abbrev pub on_comparison : Lexeme → Stack → Option Stack
on_comparison t k = on_sum t (compare_left ∷ k)

abbrev pub on_negation : Lexeme → Stack → Option Stack
on_negation t k = if is_sign s.Not t then Some (negation ∷ set false ∷ k) else on_comparison t k

abbrev pub on_condition : Lexeme → Stack → Option Stack
on_condition t k = on_negation t (logic_left ∷ k)

abbrev pub on_expression : Lexeme → Stack → Option Stack
on_expression t k = on_condition t (assign_left ∷ k)

abbrev pub on_arguments : Lexeme → Stack → Option Stack
on_arguments t k =
    if is_sign s.CloseParenthesis t then Some k
    else on_expression t (set false ∷ arguments_left ∷ token s.CloseParenthesis ∷ k)

-- ---- what statements are made of

abbrev pub on_number : Lexeme → Stack → Option Stack
on_number (number n p) k = Some k
on_number _ k = None

abbrev pub on_value : Lexeme → Stack → Option Stack
on_value (number n p) k = Some k
on_value (character c p) k = Some k
on_value (dictionary_word f p) k = Some k
on_value (reserved w.True p) k = Some k
on_value (reserved w.False p) k = Some k
on_value (reserved w.Nothing p) k = Some k
on_value (name n p) k = Some k
on_value (sign s.Minus p) k = Some (number_left ∷ k)
on_value _ k = None

abbrev pub on_flag : Lexeme → Stack → Option Stack
on_flag t k = if is_sign s.Tilde t then Some (any_name ∷ k) else if is_name t then Some k else None

abbrev pub on_text : Lexeme → Stack → Option Stack
on_text (text bytes p) k = Some k
on_text _ k = None

abbrev pub on_item : Lexeme → Stack → Option Stack
on_item (text bytes p) k = Some k
on_item (sign s.OpenParenthesis p) k = under cast_after (on_expression (sign s.OpenParenthesis p) (set false ∷ k))
on_item t k = on_expression t (set false ∷ k)

abbrev pub on_cast : Lexeme → Stack → Option Stack → Option Stack
on_cast (reserved w.Char p) k other = Some (token s.CloseParenthesis ∷ expression ∷ less 9 k)
on_cast (reserved w.Object p) k other = Some (token s.CloseParenthesis ∷ expression ∷ less 9 k)
on_cast _ k other = other

-- ---- statements

abbrev pub enclosed : Stack → Stack
enclosed k = token s.OpenParenthesis ∷ expression ∷ token s.CloseParenthesis ∷ k

-- the parts of a `for`, with the parenthesis after them
abbrev pub heading : Stack → Stack
heading k = optional_effect s.Colon ∷ token s.Colon ∷ optional s.Colon ∷ token s.Colon
    ∷ optional_effect s.CloseParenthesis ∷ token s.CloseParenthesis ∷ k

abbrev pub on_statement : Lexeme → Stack → Option Stack
on_statement (sign s.Semicolon p) k = Some k
on_statement (sign s.OpenBrace p) k = Some (statements_left ∷ token s.CloseBrace ∷ k)
on_statement (reserved w.If p) k = Some (enclosed (statement ∷ else_left ∷ k))
on_statement (reserved w.While p) k = Some (enclosed (statement ∷ k))
on_statement (reserved w.Do p) k = Some (statement ∷ word w.Until ∷ enclosed (token s.Semicolon ∷ k))
on_statement (reserved w.For p) k = Some (token s.OpenParenthesis ∷ heading (statement ∷ k))
on_statement (reserved w.Objectloop p) k =
    Some (token s.OpenParenthesis ∷ loop ∷ token s.CloseParenthesis ∷ statement ∷ k)
on_statement (reserved w.Switch p) k =
    Some (enclosed (token s.OpenBrace ∷ cases_left ∷ otherwise_left ∷ token s.CloseBrace ∷ k))
on_statement (text bytes p) k = Some (token s.Semicolon ∷ k)
on_statement (reserved w.Print p) k = Some (item ∷ items_left ∷ token s.Semicolon ∷ k)
on_statement (reserved w.PrintRet p) k = Some (item ∷ items_left ∷ token s.Semicolon ∷ k)
on_statement (reserved w.NewLine p) k = Some (token s.Semicolon ∷ k)
on_statement (reserved w.Break p) k = Some (token s.Semicolon ∷ k)
on_statement (reserved w.Continue p) k = Some (token s.Semicolon ∷ k)
on_statement (reserved w.Return p) k = Some (returned ∷ k)
on_statement (reserved w.Rtrue p) k = Some (token s.Semicolon ∷ k)
on_statement (reserved w.Rfalse p) k = Some (token s.Semicolon ∷ k)
on_statement (reserved w.Quit p) k = Some (token s.Semicolon ∷ k)
on_statement (reserved w.Read p) k = Some (any_name ∷ any_name ∷ token s.Semicolon ∷ k)
on_statement (reserved w.Give p) k = Some (expression ∷ flag ∷ flags_left ∷ token s.Semicolon ∷ k)
on_statement (reserved w.Move p) k = Some (expression ∷ word w.To ∷ expression ∷ token s.Semicolon ∷ k)
on_statement (reserved w.Remove p) k = Some (expression ∷ token s.Semicolon ∷ k)
on_statement t k = on_expression t (need ∷ token s.Semicolon ∷ k)

-- a statement of a case that begins as a case does
abbrev pub in_case : Lexeme → Option Stack → Option Stack
in_case (number n p) other = under (case_after 10) other
in_case (character c p) other = under (case_after 10) other
in_case (dictionary_word f p) other = under (case_after 10) other
in_case (reserved w.True p) other = under (case_after 10) other
in_case (reserved w.False p) other = under (case_after 10) other
in_case (reserved w.Nothing p) other = under (case_after 10) other
in_case (name n p) other = under (case_after 11) other
in_case (sign s.Minus p) other = under minus_after other
in_case _ other = other

-- after a value: the rest of a case, or other
abbrev pub on_case : Lexeme → Stack → Option Stack → Option Stack
on_case (sign s.Comma p) k other = Some (value ∷ upper_left ∷ ranges_left ∷ token s.Colon ∷ body_left ∷ k)
on_case (sign s.Colon p) k other = Some (body_left ∷ k)
on_case (reserved w.To p) k other = Some (value ∷ ranges_left ∷ token s.Colon ∷ body_left ∷ k)
on_case _ k other = other

-- after `-`: a number is a value
abbrev pub on_minus : Lexeme → Option Stack → Option Stack
on_minus (number n p) other = under (case_after 11) other
on_minus _ other = other

-- ---- directives

abbrev pub on_kind : Lexeme → Stack → Option Stack
on_kind (sign s.Arrow p) k = Some k
on_kind (sign s.LongArrow p) k = Some k
on_kind (reserved w.String p) k = Some k
on_kind (reserved w.Table p) k = Some k
on_kind _ k = None

abbrev pub on_object : Lexeme → Stack → Option Stack
on_object (sign s.Arrow p) k = Some (arrows_left ∷ any_name ∷ short_left ∷ k)
on_object (name n p) k = Some (short_left ∷ parent_left ∷ k)
on_object _ k = None

abbrev pub on_entry : Lexeme → Stack → Option Stack
on_entry (reserved w.Abbreviate p) k = Some (any_text ∷ texts_left ∷ token s.Semicolon ∷ k)
on_entry (reserved w.Global p) k = Some (any_name ∷ initial_left ∷ token s.Semicolon ∷ k)
on_entry (reserved w.Constant p) k = Some (any_name ∷ token s.Assign ∷ value ∷ token s.Semicolon ∷ k)
on_entry (reserved w.Array p) k = Some (any_name ∷ array_kind ∷ value ∷ values_left ∷ token s.Semicolon ∷ k)
on_entry (reserved w.Attribute p) k = Some (any_name ∷ token s.Semicolon ∷ k)
on_entry (reserved w.Property p) k = Some (any_name ∷ value_left ∷ token s.Semicolon ∷ k)
on_entry (reserved w.Object p) k =
    Some (object_heading ∷ properties_after ∷ attributes_left ∷ token s.Semicolon ∷ k)
on_entry (sign s.OpenBracket p) k =
    Some (any_name ∷ names_left ∷ token s.Semicolon ∷ statements_left ∷ token s.CloseBracket ∷ token s.Semicolon ∷ k)
on_entry _ k = None

abbrev pub on_end : Lexeme → Stack → Option Stack
on_end (end p) k = Some k
on_end _ k = None

-- entries go on up to the end
abbrev pub on_entries : Lexeme → Stack → Option Stack → Option Stack
on_entries (end p) k other = other
on_entries t k other = on_entry t k
