-- The bytes of the texts of a source print, whatever list of tokens it has.
use Rattle.std.proofs.Common.{ℕ, ◌+◌, true, ◌≡◌, List, [], ◌∷◌, take, map, Ok, Err, arith}
use Rattle.std.specs.Prelude.{IfOk}
use Rattle.std.specs.List.{All}
use Rattle.std.proofs.lemmas.Bool.Decides.{nat_tests}
use Rattle.std.proofs.lemmas.List.Elements.{All-nil, All-cons}
use Rattle.syntax_lexer.specs.Bytes.{is_text_byte, Each}
use Rattle.syntax_lexer.specs.Token.{Lexeme, name, number, text, character, dictionary_word, reserved, sign, end}
use Rattle.syntax_lexer.specs.Spelling.{Spells}
use Rattle.syntax_lexer.specs.Tokens.{SourceToken, put, Lexes, at_end, divider, comment, token, fault, TokenOutcome}
use Rattle.syntax_lexer.specs.Printable.{IsPrintable, HasPrintableText}

byte_prints : (b : ℕ) → is_text_byte b ≡ true → IsPrintable b
byte_prints b h = (grind (arith, nat_tests), grind (arith, nat_tests))

bytes_print : (s : List ℕ) → Each is_text_byte s → All IsPrintable s
bytes_print [] h = All-nil IsPrintable
bytes_print (b ∷ s) h = All-cons IsPrintable b s (byte_prints b h.0) (bytes_print s h.1)

-- a token that bytes spell
token_prints : (l : Lexeme) (bs : List ℕ) → Spells l bs → HasPrintableText l
token_prints (text s p) bs h = bytes_print s h.0
token_prints (name s p) bs h = tt
token_prints (number v p) bs h = tt
token_prints (character c p) bs h = tt
token_prints (dictionary_word s p) bs h = tt
token_prints (reserved w p) bs h = tt
token_prints (sign s p) bs h = tt
token_prints (end p) bs h = tt

abbrev Print : List SourceToken → Type 0
Print ts = All HasPrintableText (map (λ (t : SourceToken). t.lexeme) ts)

put_prints : (l : Lexeme) (s : List ℕ) (n : ℕ) (o : TokenOutcome) → HasPrintableText l → IfOk o Print
    → IfOk (put (record { lexeme = l; text = s; end = n }) o) Print
put_prints l s n (Ok ts) h rest = All-cons HasPrintableText l (map (λ (t : SourceToken). t.lexeme) ts) h rest
put_prints l s n (Err e) h rest = tt

outcome_prints : {at line : ℕ} {bs : List ℕ} {o : TokenOutcome} → Lexes at line bs o → IfOk o Print
outcome_prints (at_end {at = at} {line = line}) = All-cons HasPrintableText
    (end (record { offset = at; line = line })) [] tt (All-nil HasPrintableText)
outcome_prints (divider e h) = outcome_prints h
outcome_prints (comment e h) = outcome_prints h
outcome_prints (token {at = at} {n = n} {bs = bs} {lexeme = l} {o = o} place long good h) = put_prints l (take n bs)
    (at + n) o (token_prints l (take n bs) long.spelled) (outcome_prints h)
outcome_prints (fault g b) = tt

pub texts_print : (source : List ℕ) (ts : List SourceToken) → Lexes 0 1 source (Ok ts)
    → All HasPrintableText (map (λ (t : SourceToken). t.lexeme) ts)
texts_print source ts h = outcome_prints h
