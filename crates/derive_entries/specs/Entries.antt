-- Entries of what is no array's name: `x-->i` stands for `x__word(x, i)`, and `x-->i = e` for `x__set_word(x, i, e)`; of
-- bytes with `->` for `x__byte(x, i)` and `x__set_byte(x, i, e)`.
use Rattle.std.specs.Prelude.{◌&&◌, ◌||◌, ◌+◌, ℕ, Bool, true, false, not, List, [], ◌∷◌, ◌++◌, if◌then◌else◌, codes}
use Rattle.std.specs.Prelude.{nat_lt, replicate}
use Rattle.syntax_lexer.specs.declared.token.Position.{Position}
use Rattle.syntax_lexer.specs.declared.token.Sign.TheVariants as s
use Rattle.syntax_lexer.specs.Token.{Lexeme, name, sign, position_of}
use Rattle.derive_tokens.specs.Tokens.{is_sign}
use Rattle.derive_values.specs.declared.places.Scope.{Scope}
use Rattle.derive_statements.specs.Lists.{ends_statement, is_before_header}
use Rattle.derive_expressions.specs.Roles.{is_cast, is_in_body}
use Rattle.derive_entries.specs.declared.entries.Frame.{Frame}
use Rattle.derive_entries.specs.declared.entries.Index.{Index}
use Rattle.derive_entries.specs.declared.entries.Index.TheVariants as indexes
use Rattle.derive_entries.specs.declared.operands.Part.{Part}
use Rattle.derive_entries.specs.declared.operands.Part.TheVariants as parts
use Rattle.derive_entries.specs.Arrays.{Placing, is_array, is_arrow, placing_after, unplaced, valued_as}
use Rattle.derive_entries.specs.Operands.{Look, sought, indexed, taken, assigned, none, look_of}
use Rattle.derive_entries.specs.Operands.{goes_on, is_done, is_operand, part_after, part_closed, takes_entry}

-- ---- in brackets

abbrev pub opened : Frame
opened = record { part = parts.Before; index = indexes.Absent; sets = 0 }

abbrev pub is_absent : Index → Bool
is_absent indexes.Absent = true
is_absent _ = false

abbrev pub is_made : Index → Bool
is_made indexes.Made = true
is_made _ = false

-- an index is read, and the token does not belong to it
abbrev pub ends_index : Frame → Lexeme → Bool
ends_index f t = not (is_absent f.index) && (is_done f.part && not (goes_on t))

-- what is assigned ends before the token
abbrev pub is_stop : Lexeme → Bool
is_stop t =
    ends_statement t || (is_sign s.Comma t || (is_sign s.CloseParenthesis t || is_sign s.Colon t))

-- `=` behind an entry
abbrev pub is_assigned : Frame → Lexeme → Bool
is_assigned f t = is_made f.index && (ends_index f t && is_sign s.Assign t)

abbrev pub index_ended : Frame → Lexeme → Index
index_ended f t = if ends_index f t then indexes.Absent else f.index

-- More than so many are refused: they are brackets in brackets.
abbrev pub most_sets : ℕ
most_sets = 1000

abbrev pub sets_more : ℕ → ℕ
sets_more n = if nat_lt n most_sets then n + 1 else n

abbrev pub sets_ended : Frame → Lexeme → ℕ
sets_ended f t = if is_stop t then 0 else if is_assigned f t then sets_more f.sets else f.sets

-- the sign of an entry
abbrev pub is_entry : Frame → Lexeme → Bool
is_entry f t = is_arrow t && (takes_entry f.part && is_absent f.index)

-- after a sign of an entry, which is of the profile if it is no other
abbrev pub index_moved : Frame → Lexeme → Index
index_moved f t =
    if is_entry f t then indexes.Made else if is_arrow t then indexes.Kept else index_ended f t

-- after a token that is no bracket
abbrev pub frame_moved : Bool → Frame → Lexeme → Frame
frame_moved array f t = record {
  part = part_after array f.part t;
  index = index_moved f t;
  sets = sets_ended f t;
}

-- the bracket of `if` and kin, or of a rule, as `(char)`
abbrev pub is_no_operand : Scope → List Lexeme → Bool
is_no_operand scope rest = is_before_header scope || is_cast rest

abbrev pub part_around : Scope → Part → List Lexeme → Part
part_around scope part rest = if is_no_operand scope rest then parts.Before else part_closed part

-- after the bracket that is opened here
abbrev pub frame_around : Scope → Frame → Lexeme → List Lexeme → Frame
frame_around scope f t rest = record {
  part = part_around scope f.part rest;
  index = index_ended f t;
  sets = sets_ended f t;
}

-- ---- the pass

-- what is read, and the brackets that are open
pub record Entering : Type 0 where
  pub placing : Placing
  pub frame : Frame
  pub outer : List Frame

abbrev pub is_before : Part → Bool
is_before parts.Before = true
is_before _ = false

abbrev pub begins_operand : Scope → Part → Lexeme → List Lexeme → Bool
begins_operand scope part t rest =
    if is_sign s.OpenParenthesis t then is_before part && not (is_no_operand scope rest)
    else is_operand t && (is_before part || is_done part)

-- an operand begins with the token, and an entry may be behind it
abbrev pub is_begun : Scope → Frame → Lexeme → List Lexeme → Bool
is_begun scope f t rest = is_absent (index_ended f t) && begins_operand scope f.part t rest

-- ---- what a token stands for

abbrev pub word_or_byte : Lexeme → List ℕ → List ℕ → List ℕ
word_or_byte arrow word byte = if is_sign s.LongArrow arrow then word else byte

abbrev pub call_of : Position → List ℕ → List Lexeme
call_of p routine = name routine p ∷ sign s.OpenParenthesis p ∷ []

abbrev pub routine_called : Position → Look → List Lexeme
routine_called p (sought part n) = []
routine_called p (indexed arrow part n) = []
routine_called p (taken arrow) = call_of p (word_or_byte arrow (codes "x__word") (codes "x__byte"))
routine_called p (assigned arrow) = call_of p (word_or_byte arrow (codes "x__set_word") (codes "x__set_byte"))
routine_called p none = []

-- the routine of the entry that an operand has behind it
abbrev pub begun_as : Bool → Scope → Frame → Lexeme → List Lexeme → List Lexeme
begun_as array scope f t rest =
    if is_begun scope f t rest then routine_called (position_of t) (look_of array t rest) else []

-- so many brackets close
abbrev pub closing : ℕ → Lexeme → List Lexeme
closing n t = replicate n (sign s.CloseParenthesis (position_of t))

-- the bracket of an index that ends before the token
abbrev pub index_closed : Frame → Lexeme → ℕ
index_closed f t = if is_made f.index && (ends_index f t && not (is_sign s.Assign t)) then 1 else 0

-- those of what is assigned
abbrev pub sets_closed : Frame → Lexeme → ℕ
sets_closed f t = if is_stop t then f.sets else 0

-- without what is put before it
abbrev pub alone : Bool → List (List ℕ) → Placing → Frame → Lexeme → List Lexeme → Lexeme
alone array places p f t rest =
    if is_entry f t || is_assigned f t then sign s.Comma (position_of t)
    else valued_as array places p t rest

abbrev pub body_as : Bool → List (List ℕ) → Entering → Lexeme → List Lexeme → List Lexeme
body_as array places e t rest =
    closing (index_closed e.frame t) t ++ closing (sets_closed e.frame t) t
    ++ begun_as array e.placing.reading.scope e.frame t rest ++ alone array places e.placing e.frame t rest ∷ []

abbrev pub entered_as : Bool → List (List ℕ) → Entering → Lexeme → List Lexeme → List Lexeme
entered_as array places e t rest =
    if is_in_body e.placing.reading.scope then body_as array places e t rest
    else valued_as array places e.placing t rest ∷ []

-- ---- after a token

abbrev pub first_frame : List Frame → Frame
first_frame [] = opened
first_frame (f ∷ fs) = f

abbrev pub later_frames : List Frame → List Frame
later_frames [] = []
later_frames (f ∷ fs) = fs

abbrev pub frame_after : Bool → Frame → List Frame → Lexeme → Frame
frame_after array f outer t =
    if is_sign s.OpenParenthesis t then opened
    else if is_sign s.CloseParenthesis t then first_frame outer else frame_moved array f t

abbrev pub outer_after : Scope → Frame → List Frame → Lexeme → List Lexeme → List Frame
outer_after scope f outer t rest =
    if is_sign s.OpenParenthesis t then frame_around scope f t rest ∷ outer
    else if is_sign s.CloseParenthesis t then later_frames outer else outer

abbrev pub entering_after : Bool → Entering → Lexeme → List Lexeme → Entering
entering_after array e t rest = record {
  placing = placing_after e.placing t;
  frame = frame_after array e.frame e.outer t;
  outer = outer_after e.placing.reading.scope e.frame e.outer t rest;
}

abbrev pub unentered : Entering
unentered = record { placing = unplaced; frame = opened; outer = [] }

abbrev pub entered_from : List (List ℕ) → List (List ℕ) → Entering → List Lexeme → List Lexeme
entered_from arrays places e [] = []
entered_from arrays places e (t ∷ ts) =
    entered_as (is_array arrays e.placing.reading t) places e t ts
    ++ entered_from arrays places (entering_after (is_array arrays e.placing.reading t) e t ts) ts

-- the tokens of a file with these arrays, of which these are values, with numbers for them and calls for entries
abbrev pub entered : List (List ℕ) → List (List ℕ) → List Lexeme → List Lexeme
entered arrays places ts = entered_from arrays places unentered ts
