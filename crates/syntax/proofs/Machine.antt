-- A machine that takes one token at a time: what is still to come, on a stack, and where it stops. What it takes
-- depends on the tokens before that place and on the token there alone.
use Rattle.std.proofs.Common.{◌≡◌, ℕ, Bool, true, false, List, [], ◌∷◌, length, Option, Some, None}
use Rattle.std.specs.Prelude.{if◌then◌else◌}
use Rattle.syntax_lexer.specs.declared.token.Sign.TheVariants as s
use Rattle.syntax_lexer.specs.declared.token.Word.TheVariants as w
use Rattle.syntax_lexer.specs.Token.{Lexeme}
use Rattle.syntax_trees.specs.Parse.{is_sign, is_word}
use Rattle.syntax_expressions.specs.Operators.{logical, comparing, equating, containing, testing, adding, scaling}
use Rattle.syntax_expressions.specs.Operators.{stepping, indexing}
use Rattle.syntax_expressions.specs.PartParse.{is_name}
use Rattle.syntax.proofs.Frames.{Frame, Stack, given, or_else, less, on_primary, on_unary, on_indexed}
use Rattle.syntax.proofs.Frames.{on_complement, on_product, on_sum, on_comparison, on_negation}
use Rattle.syntax.proofs.Frames.{on_condition, on_expression, on_arguments, on_number, on_value}
use Rattle.syntax.proofs.Frames.{on_flag, on_text, on_item, on_cast, on_statement, in_case, on_case}
use Rattle.syntax.proofs.Frames.{on_minus, on_kind, on_object, on_end, on_entries, token, word}
use Rattle.syntax.proofs.Frames.{any_name, any_text, number_left, last, close, primary, unary, indexed}
use Rattle.syntax.proofs.Frames.{complement, product, sum, comparison, negation, condition, expression}
use Rattle.syntax.proofs.Frames.{arguments, name_after, array_after, properties_left, suffix_left}
use Rattle.syntax.proofs.Frames.{owned_left, scale_left, add_left, compare_left, or_left, logic_left}
use Rattle.syntax.proofs.Frames.{assign_left, arguments_left, set, need, value, upper_left, ranges_left}
use Rattle.syntax.proofs.Frames.{flag, flags_left, item, items_left, cast_after, optional}
use Rattle.syntax.proofs.Frames.{optional_effect, loop, returned, statement, statements_left, else_left}
use Rattle.syntax.proofs.Frames.{cases_left, otherwise_left, body_left, case_after, minus_after}
use Rattle.syntax.proofs.Frames.{names_left, values_left, value_left, initial_left, array_kind}
use Rattle.syntax.proofs.Frames.{object_heading, arrows_left, short_left, parent_left}
use Rattle.syntax.proofs.Frames.{properties_after, attributes_left, with_or_has, property_or_has}
use Rattle.syntax.proofs.Frames.{props_left, texts_left, entries_left}

-- ---- one token

-- the stack after it, by the first frame, the effect, what stands under the frame, and what comes where the frame
-- stays away
abbrev pub on : Frame → Bool → Lexeme → Stack → Option Stack → Option Stack
on (token s) b t k other = if is_sign s t then Some k else None
on (word w) b t k other = if is_word w t then Some k else None
on any_name b t k other = if is_name t then Some k else None
on any_text b t k other = on_text t k
on number_left b t k other = on_number t k
on last b t k other = on_end t k
on close b t k other = if is_sign s.CloseParenthesis t then Some (set b ∷ k) else None
on primary b t k other = on_primary t k
on unary b t k other = on_unary t k
on indexed b t k other = on_indexed t k
on complement b t k other = on_complement t k
on product b t k other = on_product t k
on sum b t k other = on_sum t k
on comparison b t k other = on_comparison t k
on negation b t k other = on_negation t k
on condition b t k other = on_condition t k
on expression b t k other = on_expression t k
on arguments b t k other = on_arguments t k
on name_after b t k other = if is_sign s.OpenParenthesis t then Some (arguments ∷ set true ∷ k) else other
on array_after b t k other =
    given (indexing t) (Some (unary ∷ set false ∷ less 2 k))
    (if is_sign s.OpenParenthesis t then Some (arguments ∷ set true ∷ k) else other)
on properties_left b t k other = if is_sign s.Dot t then Some (any_name ∷ properties_left ∷ k) else other
on suffix_left b t k other =
    given (stepping t) (Some (set true ∷ k)) (if is_sign s.DotHash t then Some (any_name ∷ k) else other)
on owned_left b t k other =
    if is_sign s.DotAmpersand t then Some (any_name ∷ token s.LongArrow ∷ unary ∷ set false ∷ k)
    else given (stepping t) (Some (set true ∷ k)) (if is_sign s.DotHash t then Some (any_name ∷ k) else other)
on scale_left b t k other = given (scaling t) (Some (complement ∷ set false ∷ scale_left ∷ k)) other
on add_left b t k other = given (adding t) (Some (product ∷ set false ∷ add_left ∷ k)) other
on compare_left b t k other =
    given (comparing t) (Some (sum ∷ set false ∷ k))
    (given (equating t) (Some (sum ∷ set false ∷ or_left ∷ k))
    (given (containing t) (Some (sum ∷ set false ∷ k)) (given (testing t) (Some (any_name ∷ k)) other)))
on or_left b t k other = if is_word w.Or t then Some (sum ∷ set false ∷ or_left ∷ k) else other
on logic_left b t k other = given (logical t) (Some (negation ∷ set false ∷ logic_left ∷ k)) other
on assign_left b t k other = if is_sign s.Assign t then Some (expression ∷ set true ∷ k) else other
on arguments_left b t k other =
    if is_sign s.Comma t then Some (expression ∷ set false ∷ arguments_left ∷ k) else other
on (set c) b t k other = other
on need b t k other = if b then other else None
on value b t k other = on_value t k
on upper_left b t k other = if is_word w.To t then Some (value ∷ k) else other
on ranges_left b t k other = if is_sign s.Comma t then Some (value ∷ upper_left ∷ ranges_left ∷ k) else other
on flag b t k other = on_flag t k
on flags_left b t k other = or_else (on_flag t (flags_left ∷ k)) other
on item b t k other = on_item t k
on items_left b t k other = if is_sign s.Comma t then Some (item ∷ items_left ∷ k) else other
on cast_after b t k other = on_cast t k other
on (optional s) b t k other = if is_sign s t then other else on_expression t k
on (optional_effect s) b t k other = if is_sign s t then other else on_expression t (need ∷ k)
on loop b t k other = if is_name t then on_condition t k else None
on returned b t k other = if is_sign s.Semicolon t then Some k else on_expression t (token s.Semicolon ∷ k)
on statement b t k other = on_statement t k
on statements_left b t k other = or_else (on_statement t (statements_left ∷ k)) other
on else_left b t k other = if is_word w.Else t then Some (statement ∷ k) else other
on cases_left b t k other =
    or_else (on_value t (upper_left ∷ ranges_left ∷ token s.Colon ∷ body_left ∷ cases_left ∷ k)) other
on otherwise_left b t k other = if is_word w.Default t then Some (token s.Colon ∷ statements_left ∷ k) else other
on body_left b t k other = or_else (in_case t (on_statement t (body_left ∷ k))) other
on (case_after n) b t k other = on_case t (less n k) other
on minus_after b t k other = on_minus t other
on names_left b t k other = if is_name t then Some (names_left ∷ k) else other
on values_left b t k other = or_else (on_value t (values_left ∷ k)) other
on value_left b t k other = or_else (on_value t k) other
on initial_left b t k other = if is_sign s.Assign t then Some (value ∷ k) else other
on array_kind b t k other = on_kind t k
on object_heading b t k other = on_object t k
on arrows_left b t k other = if is_sign s.Arrow t then Some (arrows_left ∷ k) else other
on short_left b t k other = or_else (on_text t k) other
on parent_left b t k other = if is_name t then Some k else other
on properties_after b t k other =
    if is_word w.With t then Some (any_name ∷ value ∷ values_left ∷ props_left ∷ k)
    else if is_sign s.Comma t then Some (with_or_has ∷ k) else other
on attributes_left b t k other =
    if is_word w.Has t then Some (any_name ∷ names_left ∷ k)
    else if is_sign s.Comma t then Some (word w.Has ∷ any_name ∷ names_left ∷ k) else other
on with_or_has b t k other =
    if is_word w.With t then Some (any_name ∷ value ∷ values_left ∷ props_left ∷ k)
    else if is_word w.Has t then other else None
on property_or_has b t k other =
    if is_name t then Some (value ∷ values_left ∷ props_left ∷ k) else if is_word w.Has t then other else None
on props_left b t k other = if is_sign s.Comma t then Some (property_or_has ∷ k) else other
on texts_left b t k other = or_else (on_text t (texts_left ∷ k)) other
on entries_left b t k other = on_entries t (entries_left ∷ k) other

-- the effect under a frame
abbrev pub effect : Frame → Bool → Bool
effect (set c) b = c
effect _ b = b

unfoldable pub shift : Bool → Stack → Lexeme → Option Stack
shift b [] t = None
shift b (f ∷ k) t = on f b t k (shift (effect f b) k t)

-- ---- the end of the tokens

-- the frame may stay away
abbrev pub stays_away : Frame → Bool → Bool
stays_away (token s) b = false
stays_away (word w) b = false
stays_away any_name b = false
stays_away any_text b = false
stays_away number_left b = false
stays_away last b = false
stays_away close b = false
stays_away primary b = false
stays_away unary b = false
stays_away indexed b = false
stays_away complement b = false
stays_away product b = false
stays_away sum b = false
stays_away comparison b = false
stays_away negation b = false
stays_away condition b = false
stays_away expression b = false
stays_away arguments b = false
stays_away need b = b
stays_away value b = false
stays_away flag b = false
stays_away item b = false
stays_away (optional s) b = false
stays_away (optional_effect s) b = false
stays_away loop b = false
stays_away returned b = false
stays_away statement b = false
stays_away array_kind b = false
stays_away object_heading b = false
stays_away with_or_has b = false
stays_away property_or_has b = false
stays_away _ b = true

-- nothing need come
unfoldable pub accepts : Bool → Stack → Bool
accepts b [] = true
accepts b (f ∷ k) = if stays_away f b then accepts (effect f b) k else false

-- ---- where it stops

abbrev pub go_on : (Stack → Option ℕ) → ℕ → Option Stack → Option ℕ
go_on again n None = Some n
go_on again n (Some k) = again k

-- How many tokens are left from the first on that is not taken; none, where all are and nothing need come. What is
-- taken has no effect, but for what a frame says.
unfoldable pub stop : Bool → Stack → List Lexeme → Option ℕ
stop b k [] = if accepts b k then None else Some 0
stop b k (t ∷ ts) = go_on (λ j. stop false j ts) (length (t ∷ ts)) (shift b k t)

-- what comes next is not taken
abbrev pub Refuses : Stack → List Lexeme → Type 0
Refuses k [] = accepts false k ≡ false
Refuses k (t ∷ ts) = shift false k t ≡ None

-- the stack before the first token of a file
abbrev pub file : Stack
file = entries_left ∷ last ∷ []
