-- Words of proofs: what the parts of a scan find at the front of bytes.
use Rattle.std.specs.Prelude.{◌≡◌, ◌==◌, ◌||◌, ◌≤◌, ℕ, Bool, true, false, if◌then◌else◌, List, [], ◌∷◌, ◌++◌, length}
use Rattle.std.specs.Prelude.{take, Result, Ok, Err, Option, MatchOption}
use Rattle.syntax_lexer.specs.declared.bytes.Base.{Base}
use Rattle.syntax_lexer.specs.declared.bytes.Base.TheVariants as bases
use Rattle.syntax_lexer.specs.declared.fault.LexicalFault.{LexicalFault}
use Rattle.syntax_lexer.specs.declared.token.Kind.{Kind}
use Rattle.syntax_lexer.specs.declared.token.Position.{Position}
use Rattle.syntax_lexer.specs.declared.token.Sign.{Sign}
use Rattle.syntax_lexer.specs.declared.token.Token.{Token}
use Rattle.syntax_lexer.specs.declared.token.Word.{Word}
use Rattle.syntax_lexer.specs.declared.token.Word.TheVariants as w
use Rattle.syntax_lexer.specs.Token.{Lexeme, character, dictionary_word, lexeme_of}
use Rattle.syntax_lexer.specs.Spelling.{sign_spelling, IsCharacter, IsDictionaryWord}
use Rattle.syntax_lexer.specs.Tokens.{BeginsWith, Breaks, TokenOutcome, LexesFrom, put}
use Rattle.syntax_lexer.specs.Results.{source_token}

-- what is found meets a fact, and where nothing is found, nothing meets it
abbrev pub FindsOne : {A : Type 0} → (A → Type 0) → Option A → Type 0
FindsOne {A} P result = MatchOption result ((a : A) → P a → ⊥) P

-- a token's kind and length, wherever the bytes lie, or the broken rule
abbrev pub Scanned : List ℕ → Result (Kind × ℕ) LexicalFault → Type 0
Scanned bs (Ok x) = (p : Position) → BeginsWith bs (lexeme_of x.0 p) x.1
Scanned bs (Err g) = Breaks g bs

-- a token that begins at a position was put at the end of a row, and the source goes on after it
abbrev pub PutsToken : List ℕ → Position → List Token → List Token → ℕ → Type 0
PutsToken source p before longer next =
    (t : Token) × (longer ≡ before ++ t ∷ [])
    × ((o : TokenOutcome) → LexesFrom next p.line source o → LexesFrom p.offset p.line source (put (source_token t) o))

-- the base of the number that begins with two bytes, if one does
abbrev pub base_at : ℕ → ℕ → Base
base_at a c = if a == 36 then (if c == 36 then bases.Binary else bases.Hexadecimal) else bases.Decimal

-- what stands between single quotes, as a token
abbrev pub IsContent : Lexeme → List ℕ → Type 0
IsContent (character c p) content = IsCharacter c content
IsContent (dictionary_word s p) content = IsDictionaryWord s content
IsContent lexeme content = ⊥

-- the words of statements
abbrev pub is_statement_word : Word → Bool
is_statement_word w.Break = true
is_statement_word w.Continue = true
is_statement_word w.Default = true
is_statement_word w.Do = true
is_statement_word w.Else = true
is_statement_word w.For = true
is_statement_word w.Give = true
is_statement_word w.If = true
is_statement_word w.Move = true
is_statement_word w.NewLine = true
is_statement_word w.Objectloop = true
is_statement_word w.Print = true
is_statement_word w.PrintRet = true
is_statement_word w.Quit = true
is_statement_word w.Read = true
is_statement_word w.Remove = true
is_statement_word w.Return = true
is_statement_word w.Rfalse = true
is_statement_word w.Rtrue = true
is_statement_word w.String = true
is_statement_word w.Switch = true
is_statement_word w.To = true
is_statement_word w.Until = true
is_statement_word w.While = true
is_statement_word _ = false

-- the bytes with which a sign of several bytes begins
abbrev pub begins_longer : ℕ → Bool
begins_longer b =
    b == 46 || (b == 61 || (b == 126 || (b == 62 || (b == 60 || (b == 38 || (b == 124 || (b == 43 || b == 45)))))))

-- the byte spells the sign, and begins no longer one
abbrev pub IsLone : ℕ → Sign → Type 0
IsLone b s = (sign_spelling s ≡ b ∷ []) × (begins_longer b ≡ false)

abbrev pub HasNoSign : List ℕ → Type 0
HasNoSign bs = (s : Sign) (n : ℕ) → take n bs ≡ sign_spelling s → ⊥

pub record IsLongestSign (s : Sign) (bs : List ℕ) : Type 0 where
  pub within : length (sign_spelling s) ≤ length bs
  pub spelled : take (length (sign_spelling s)) bs ≡ sign_spelling s
  pub no_longer : (other : Sign) (n : ℕ) → take n bs ≡ sign_spelling other → n ≤ length bs
      → n ≤ length (sign_spelling s)
