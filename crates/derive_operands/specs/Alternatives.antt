-- `or` after `has`, `hasnt`, `provides`, `in`, `notin`, `<` and `>`: `x has a or b` stands for `x__or1(x)`, and `x > y or z`
-- for `x__or2(x, y, z)`.
use Rattle.std.specs.Prelude.{◌&&◌, ◌||◌, ◌+◌, ◌-◌, ℕ, Bool, true, false, not, List, [], ◌∷◌, ◌++◌}
use Rattle.std.specs.Prelude.{if◌then◌else◌, codes, nat_lt, Option, Some, None}
use Rattle.syntax_lexer.specs.declared.token.Sign.TheVariants as s
use Rattle.syntax_lexer.specs.Token.{Lexeme, name, sign, position_of}
use Rattle.derive_tokens.specs.Tokens.{is_sign, numbered}
use Rattle.derive_values.specs.declared.places.Scope.TheVariants as scopes
use Rattle.derive_values.specs.declared.places.Scope.{Scope}
use Rattle.derive_tokens.specs.Names.{number_in, with_name}
use Rattle.derive_values.specs.Places.{scope_after}
use Rattle.derive_statements.specs.Lists.{is_before_header}
use Rattle.derive_sums.specs.declared.counting.Part.{Part}
use Rattle.derive_sums.specs.declared.counting.Part.TheVariants as parts
use Rattle.derive_sums.specs.Sums.{Count, count_of, ends_sum, is_or, key, operator_of, precedes_sum, takes_names, takes_sums}
use Rattle.derive_operands.specs.declared.alternatives.Frame.{Frame}
use Rattle.derive_operands.specs.declared.alternatives.Frame.TheVariants as frames
use Rattle.derive_expressions.specs.Roles.{is_in_body, is_cast}

-- ---- the pass

-- what is read: whether a sum may begin, the alternatives of each bracket that is open, how many tokens are to be passed
pub record Choosing : Type 0 where
  pub scope : Scope
  pub begins : Bool
  pub frame : Frame
  pub outer : List Frame
  pub passed : ℕ

abbrev pub is_closed : Frame → Bool
is_closed frames.Closed = true
is_closed _ = false

-- the bracket of `if` and kin, or of a rule, as `(char)`
abbrev pub is_no_operand : Scope → Lexeme → List Lexeme → Bool
is_no_operand scope t rest = is_sign s.OpenParenthesis t && (is_before_header scope || is_cast rest)

-- a sum that may have alternatives begins with the token
abbrev pub is_begun : Choosing → Lexeme → List Lexeme → Bool
is_begun c t rest =
    is_in_body c.scope && (c.begins && (is_closed c.frame && not (ends_sum t || is_no_operand c.scope t rest)))

abbrev pub begun_operator : Choosing → Lexeme → List Lexeme → Option Lexeme
begun_operator c t rest = if is_begun c t rest then operator_of (t ∷ rest) else None

-- the frame of a sum that begins
abbrev pub chosen_frame : Frame → Option Lexeme → Frame
chosen_frame frame None = frame
chosen_frame frame (Some operator) = if takes_names operator then frames.Naming else frames.Opened

abbrev pub closes_list : Frame → Lexeme → Bool
closes_list frames.Listing t = ends_sum t
closes_list _ t = false

-- the frame that a token is in, or begins
abbrev pub frame_now : Frame → Option Lexeme → Lexeme → Frame
frame_now frame operator t = if closes_list frame t then frames.Closed else chosen_frame frame operator

abbrev pub first_frame : List Frame → Frame
first_frame [] = frames.Closed
first_frame (f ∷ fs) = f

abbrev pub later_frames : List Frame → List Frame
later_frames [] = []
later_frames (f ∷ fs) = fs

-- the frame after a token that is no bracket
abbrev pub frame_moved : Frame → Lexeme → Frame
frame_moved frames.Opened t = if takes_sums t then frames.Listing else frames.Opened
frame_moved frames.Naming t = if takes_names t then frames.Closed else frames.Naming
frame_moved frame t = frame

abbrev pub frame_after : Frame → List Frame → Lexeme → Frame
frame_after now outer t =
    if is_sign s.OpenParenthesis t then frames.Closed
    else if is_sign s.CloseParenthesis t then first_frame outer else frame_moved now t

abbrev pub outer_after : Frame → List Frame → Lexeme → List Frame
outer_after now outer t =
    if is_sign s.OpenParenthesis t then now ∷ outer
    else if is_sign s.CloseParenthesis t then later_frames outer else outer

-- how many tokens names with `or` between them are
abbrev pub row_length : Part → ℕ → ℕ
row_length parts.Name met = met + met - 1
row_length parts.Or met = met + met - 1
row_length _ met = 0

abbrev pub names_length : Count → ℕ
names_length c = row_length c.part c.met

-- how many tokens the names after an operator are
abbrev pub names_passed : Frame → Lexeme → List Lexeme → ℕ
names_passed frames.Naming t rest = if takes_names t then names_length (count_of (t ∷ rest)) else 0
names_passed _ t rest = 0

abbrev pub passed_after : ℕ → Frame → Lexeme → List Lexeme → ℕ
passed_after passed now t rest = if nat_lt 0 passed then passed - 1 else names_passed now t rest

-- after a token with which a sum of this operator begins, or none
abbrev pub choosing_after : Choosing → Option Lexeme → Lexeme → List Lexeme → Choosing
choosing_after c operator t rest = record {
  scope = scope_after c.scope t;
  begins = precedes_sum t || (is_sign s.CloseParenthesis t && c.begins);
  frame = frame_after (frame_now c.frame operator t) c.outer t;
  outer = outer_after (frame_now c.frame operator t) c.outer t;
  passed = passed_after c.passed (frame_now c.frame operator t) t rest;
}

abbrev pub unchosen : Choosing
unchosen = record { scope = scopes.Between; begins = false; frame = frames.Closed; outer = []; passed = 0 }

-- ---- the lists of alternatives of a file

abbrev pub with_key : List (List ℕ) → Option Lexeme → List Lexeme → List (List ℕ)
with_key keys None ts = keys
with_key keys (Some operator) ts = with_name keys (key operator ts)

abbrev pub keys_from : List (List ℕ) → Choosing → List Lexeme → List (List ℕ)
keys_from keys c [] = keys
keys_from keys c (t ∷ ts) =
    keys_from (with_key keys (begun_operator c t ts) (t ∷ ts)) (choosing_after c (begun_operator c t ts) t ts) ts

abbrev pub keys_of : List Lexeme → List (List ℕ)
keys_of ts = keys_from [] unchosen ts

-- ---- what a token stands for

-- the k-th list of alternatives, counted from 1, has the routine `x__or` k
abbrev pub begun_with : List (List ℕ) → Option Lexeme → Lexeme → List Lexeme → List Lexeme
begun_with keys None t rest = []
begun_with keys (Some operator) t rest =
    name (numbered (codes "x__or") (number_in keys (key operator (t ∷ rest)))) (position_of t)
    ∷ sign s.OpenParenthesis (position_of t) ∷ []

abbrev pub alone : Frame → Lexeme → Lexeme
alone frames.Opened t = if takes_sums t then sign s.Comma (position_of t) else t
alone frames.Listing t = if is_or t then sign s.Comma (position_of t) else t
alone frames.Naming t = if takes_names t then sign s.CloseParenthesis (position_of t) else t
alone frames.Closed t = t

abbrev pub list_end : Frame → Lexeme → List Lexeme
list_end frame t = if closes_list frame t then sign s.CloseParenthesis (position_of t) ∷ [] else []

abbrev pub chosen_as : List (List ℕ) → Choosing → Option Lexeme → Lexeme → List Lexeme → List Lexeme
chosen_as keys c operator t rest =
    if nat_lt 0 c.passed then []
    else list_end c.frame t ++ begun_with keys operator t rest ++ alone (frame_now c.frame operator t) t ∷ []

abbrev pub chosen_from : List (List ℕ) → Choosing → List Lexeme → List Lexeme
chosen_from keys c [] = []
chosen_from keys c (t ∷ ts) =
    chosen_as keys c (begun_operator c t ts) t ts
    ++ chosen_from keys (choosing_after c (begun_operator c t ts) t ts) ts

abbrev pub chosen : List Lexeme → List Lexeme
chosen ts = chosen_from (keys_of ts) unchosen ts
