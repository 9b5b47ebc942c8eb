-- The tokens of a source, or its first fault.
use Rattle.std.specs.Prelude.{◌≡◌, ◌==◌, ◌≤◌, ◌<◌, ◌+◌, ℕ, true, false, if◌then◌else◌, List, [], ◌∷◌, length, take}
use Rattle.std.specs.Prelude.{drop, slice_index, Some, Result, Ok, Err, ◌⊎◌}
use Rattle.syntax_lexer.specs.declared.fault.LexicalFault.{LexicalFault}
use Rattle.syntax_lexer.specs.declared.fault.LexicalFault.TheVariants as f
use Rattle.syntax_lexer.specs.declared.fault.PlacedFault.{PlacedFault}
use Rattle.syntax_lexer.specs.declared.token.Position.{Position}
use Rattle.syntax_lexer.specs.FaultNumbers as fault_numbers
use Rattle.syntax_lexer.specs.Bytes.{is_name_byte, is_divider, is_comment_byte, run}
use Rattle.syntax_lexer.specs.Token.{Lexeme, name, number, end, position_of}
use Rattle.syntax_lexer.specs.Spelling.{Spells}

-- the longest token at the front of the bytes has n bytes
pub record IsLongest (bs : List ℕ) (lexeme : Lexeme) (n : ℕ) : Type 0 where
  pub within : n ≤ length bs
  pub spelled : Spells lexeme (take n bs)
  pub no_longer : (other : Lexeme) (m : ℕ) → n < m → m ≤ length bs → Spells other (take m bs) → ⊥

-- what is asked of a token before the rest of the source
abbrev pub IsAllowed : Lexeme → List ℕ → Type 0
IsAllowed (name s p) rest = length s ≤ 32
IsAllowed (number v p) rest = (v ≤ 65535) × (is_name_byte (slice_index rest 0) ≡ false)
IsAllowed lexeme rest = Unit {0}

-- the bytes begin with a token of n bytes, and a source may have it there
abbrev pub BeginsWith : List ℕ → Lexeme → ℕ → Type 0
BeginsWith bs lexeme n = IsLongest bs lexeme n × IsAllowed lexeme (drop n bs)

-- no token stands at the front of the bytes
abbrev pub HasNoToken : List ℕ → Type 0
HasNoToken bs = (lexeme : Lexeme) (n : ℕ) → Spells lexeme (take n bs) → ⊥

-- which rule the bytes break at their front
abbrev pub Breaks : LexicalFault → List ℕ → Type 0
-- a byte that begins no token and no comment, and divides none
Breaks f.StrayByte [] = ⊥
Breaks f.StrayByte (b ∷ bs) = (is_divider b ≡ false) × ((b == 33) ≡ false)
    × ((lexeme : Lexeme) (more : List ℕ) → Spells lexeme (b ∷ more) → ⊥)
-- a quote that begins no token here
Breaks f.BadText [] = ⊥
Breaks f.BadText (b ∷ bs) = ((b ≡ 34) ⊎ (b ≡ 39)) × HasNoToken (b ∷ bs)
-- `$` that begins no number here, or a longest token that is too great a number or goes on with a byte of names
Breaks f.BadNumber bs =
    ((slice_index bs 0 ≡ 36) × HasNoToken bs)
    ⊎ ((v n : ℕ) × (p : Position) × IsLongest bs (number v p) n
    × ((65535 < v) ⊎ (is_name_byte (slice_index (drop n bs) 0) ≡ true)))
-- a longest token that is a name of more than 32 bytes
Breaks f.NameTooLong bs = (s : List ℕ) × (n : ℕ) × (p : Position) × IsLongest bs (name s p) n × (32 < length s)

abbrev pub number_of : LexicalFault → ℕ
number_of f.StrayByte = fault_numbers.stray_byte
number_of f.BadText = fault_numbers.bad_text
number_of f.BadNumber = fault_numbers.bad_number
number_of f.NameTooLong = fault_numbers.name_too_long

-- a token, its bytes in the source, and the offset after its last byte
pub record SourceToken : Type 0 where
  pub lexeme : Lexeme
  pub text : List ℕ
  pub end : ℕ

abbrev pub TokenOutcome : Type 0
TokenOutcome = Result (List SourceToken) PlacedFault

abbrev pub put : SourceToken → TokenOutcome → TokenOutcome
put t (Ok ts) = Ok (t ∷ ts)
put t (Err e) = Err e

abbrev pub line_after : ℕ → ℕ → ℕ
line_after line b = if b == 10 then line + 1 else line

-- What the bytes from an offset on are, in a line: their tokens and the end of the source, or the first fault, whose place
-- is the first byte of what breaks the rule: the byte itself, the opening quote, or the first byte of the number or name.
-- A comment ends before a line feed, before a byte that may stand in no source, or with the source.
pub data Lexes : ℕ → ℕ → List ℕ → TokenOutcome → Type 0 where
  at_end : {at line : ℕ}
      → Lexes at line []
      (Ok (record { lexeme = end (record { offset = at; line = line }); text = []; end = at } ∷ []))
  divider : {at line b : ℕ} {bs : List ℕ} {o : TokenOutcome} → is_divider b ≡ true
      → Lexes (at + 1) (line_after line b) bs o → Lexes at line (b ∷ bs) o
  comment : {at line b : ℕ} {bs : List ℕ} {o : TokenOutcome} → b ≡ 33
      → Lexes (at + 1 + run is_comment_byte bs) line (drop (run is_comment_byte bs) bs) o → Lexes at line (b ∷ bs) o
  token : {at line n : ℕ} {bs : List ℕ} {lexeme : Lexeme} {o : TokenOutcome}
      → position_of lexeme ≡ record { offset = at; line = line }
      → IsLongest bs lexeme n → IsAllowed lexeme (drop n bs) → Lexes (at + n) line (drop n bs) o
      → Lexes at line bs (put (record { lexeme = lexeme; text = take n bs; end = at + n }) o)
  fault : {at line : ℕ} {bs : List ℕ} (broken : LexicalFault) → Breaks broken bs
      → Lexes at line bs
      (Err (record { fault = record { number = number_of broken; line = line }; offset = Some at }))

-- the same of a source, whose bytes before the offset are left out
abbrev pub LexesFrom : ℕ → ℕ → List ℕ → TokenOutcome → Type 0
LexesFrom at line source o = Lexes at line (drop at source) o

-- the last token is the end of the source, and no other is
abbrev pub EndsOnce : List Lexeme → Type 0
EndsOnce [] = ⊥
EndsOnce (end p ∷ ls) = ls ≡ []
EndsOnce (l ∷ ls) = EndsOnce ls
