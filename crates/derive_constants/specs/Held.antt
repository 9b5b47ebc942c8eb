-- What the code holds.
use Rattle.std.specs.Prelude.{◌≡◌, ◌≤◌, ◌+◌, ℕ, List, [], ◌∷◌, ◌++◌, reverse, Option, Some, None}
use Rattle.syntax_lexer.specs.declared.token.Token.{Token}
use Rattle.syntax_lexer.specs.Token.{Lexeme, number, lexeme, lexemes}
use Rattle.derive_tokens.specs.declared.piece.Piece.{Piece}
use Rattle.derive_tokens.specs.Pieces.{derived_all}
use Rattle.derive_tokens.specs.Held.{names_of}
use Rattle.derive_constants.specs.declared.constant.Constant.{Constant}
use Rattle.derive_constants.specs.declared.constant.Known.{Known as KnownHeld}
use Rattle.derive_constants.specs.declared.pending.Pending.{Pending}
use Rattle.derive_constants.specs.declared.reading.State.{State}
use Rattle.derive_constants.specs.declared.reading.State.TheVariants as st
use Rattle.derive_constants.specs.declared.reading.Reading.{Reading as Readings}
use Rattle.derive_constants.specs.declared.group.Waiting.{Waiting}
use Rattle.derive_constants.specs.declared.group.Waiting.TheVariants as wt
use Rattle.derive_constants.specs.declared.group.Group.{Group as Groups}
use Rattle.derive_constants.specs.declared.parts.Values.{Values}
use Rattle.derive_constants.specs.declared.parts.Values.TheVariants as vs
use Rattle.derive_constants.specs.declared.parts.Parts.{Parts as PartsHeld}
use Rattle.derive_constants.specs.declared.buffer.Buffer.{Buffer as Buffers}
use Rattle.derive_constants.specs.Constants.{Buffer, Parts, characters}
use Rattle.derive_constants.specs.Entries.{Group, Turn, nothing, minus, opened}
use Rattle.derive_constants.specs.Values.{Known, Reading, wants, has, none}

abbrev pub known_one : Constant → List ℕ × ℕ
known_one c = (c.name.now, c.value)

abbrev pub known_of : KnownHeld → Known
known_of known = record { names = names_of known.names; numbers = known.numbers.items }

abbrev pub constant_found : Option Constant → Option (List ℕ × ℕ)
constant_found None = None
constant_found (Some c) = Some (known_one c)

-- what is read, where the row of what waits has its last at the end
abbrev pub read_in : State → List Pending → Reading
read_in st.Wants waiting = wants (reverse waiting)
read_in (st.Has v) waiting = has v (reverse waiting)
read_in st.Nothing waiting = none

abbrev pub read : Readings → Reading
read r = read_in r.state r.waiting.items

-- what is still to be written
abbrev pub group_in : Waiting → List Token → Group
group_in wt.Nothing ts = nothing
group_in (wt.Minus t) ts = minus (lexeme t)
group_in (wt.Opened count) ts = opened count (lexemes ts)

abbrev pub group_of : Groups → Group
group_of g = group_in g.waiting g.held.items

-- how many parentheses are open
abbrev pub opened_in : Waiting → ℕ
opened_in (wt.Opened count) = count
opened_in _ = 0

-- a token is taken as the definition says
pub record Takes (old new : List Piece) (before after : Groups) (turn : Turn) : Type 0 where
  pub writes : derived_all new ≡ derived_all old ++ turn.0
  pub waits : group_of after ≡ turn.1
  pub opens : opened_in after.waiting ≤ opened_in before.waiting + 1

-- what is computed in a directive
abbrev pub values_of : Values → List Lexeme
values_of (vs.Tokens ts) = lexemes ts.now
values_of (vs.Characters bytes p) = characters p bytes.now
values_of (vs.Zero p) = number 0 p ∷ []

abbrev pub between_of : Option Token → List Lexeme
between_of None = []
between_of (Some t) = lexeme t ∷ []

abbrev pub parts_of : PartsHeld → Parts
parts_of d = record {
  first = lexeme d.first;
  named = lexeme d.name;
  between = between_of d.between;
  values = values_of d.values;
  close = lexemes d.close.now;
}

abbrev pub parts_found : Option PartsHeld → Option Parts
parts_found None = None
parts_found (Some d) = Some (parts_of d)

abbrev pub buffer_of : Buffers → Buffer
buffer_of b = record { name_of = lexeme b.name; size = b.size; at = b.at; kind_at = b.kind_at }

abbrev pub buffer_found : Option Buffers → Option Buffer
buffer_found None = None
buffer_found (Some b) = Some (buffer_of b)
