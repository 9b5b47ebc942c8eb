-- The definitions at worked examples.
use Rattle.std.proofs.Common.{◌≡◌, ℕ, zero, suc, Bool, false, cond, eqb, List, [], ◌∷◌, ◌++◌, get_or, Option, None, Some}
use Rattle.std.proofs.Common.{Ok, Err, refl, ap, ◌∙◌, sym, arith}
use Rattle.std.specs.Prelude.{codes}
use Rattle.std.proofs.lemmas.List.Elements.{All-nil, All-cons, All-head}
use Rattle.syntax_lexer.specs.declared.bytes.Base.TheVariants as bases
use Rattle.syntax_lexer.specs.declared.fault.LexicalFault.TheVariants as f
use Rattle.syntax_lexer.specs.declared.token.Position.{Position}
use Rattle.syntax_lexer.specs.declared.token.Sign.{Sign}
use Rattle.syntax_lexer.specs.declared.token.Sign.TheVariants as s
use Rattle.syntax_lexer.specs.declared.token.Word.TheVariants as w
use Rattle.syntax_lexer.specs.Bytes.{is_source_byte, is_letter, is_name_byte, is_text_byte, is_word_byte, is_character}
use Rattle.syntax_lexer.specs.Bytes.{is_comment_byte, is_digit_of, value_from, run}
use Rattle.syntax_lexer.specs.Token.{Lexeme, text, sign, end}
use Rattle.syntax_lexer.specs.Spelling.{sign_spelling, IsReserved, Spells}
use Rattle.syntax_lexer.specs.Tokens.{TokenOutcome, Lexes, at_end, divider, comment, fault}
use Rattle.syntax_lexer.specs.Printable.{IsPrintable, HasPrintableText}
use Rattle.syntax_lexer.proofs.Beginnings.{class_of, begins, sign_class}
use Rattle.syntax_lexer.proofs.NameTokens.{name_long}
use Rattle.syntax_lexer.proofs.NumberTokens.{no_digits}
use Rattle.syntax_lexer.proofs.QuotedTokens.{text_bad}
use Rattle.syntax_lexer.proofs.Unique.{one_outcome}

-- how many numbers below n pass
abbrev count_below : (ℕ → Bool) → ℕ → ℕ
count_below p zero = 0
count_below p (suc n) = cond (p n) (suc (count_below p n)) (count_below p n)

source_bytes : count_below is_source_byte 256 ≡ 98
source_bytes = refl

comment_bytes : count_below is_comment_byte 256 ≡ 97
comment_bytes = refl

letters : count_below is_letter 256 ≡ 53
letters = refl

name_bytes : count_below is_name_byte 256 ≡ 63
name_bytes = refl

text_bytes : count_below is_text_byte 256 ≡ 92
text_bytes = refl

word_bytes : count_below is_word_byte 256 ≡ 90
word_bytes = refl

characters : count_below is_character 256 ≡ 90
characters = refl

hexadecimal_digits : count_below (is_digit_of bases.Hexadecimal) 256 ≡ 22
hexadecimal_digits = refl

binary_digits : count_below (is_digit_of bases.Binary) 256 ≡ 2
binary_digits = refl

greatest_number : value_from bases.Hexadecimal 0 (codes "FFff") ≡ 65535
unfolding value_from
greatest_number = refl

long_arrow : sign_spelling s.LongArrow ≡ 45 ∷ 45 ∷ 62 ∷ []
long_arrow = refl

capitals : IsReserved w.PrintRet (codes "PRINT_Ret")
capitals = refl

-- a line feed begins a line, and a carriage return none
last_line : Lexes 0 1 (13 ∷ 10 ∷ [])
    (Ok (record { lexeme = end (record { offset = 2; line = 2 }); text = []; end = 2 } ∷ []))
last_line = divider refl (divider refl at_end)

-- a carriage return does not end a comment
long_comment : Lexes 0 1 (codes "!a" ++ 13 ∷ codes "b")
    (Ok (record { lexeme = end (record { offset = 4; line = 1 }); text = []; end = 4 } ∷ []))
unfolding run
long_comment = comment refl at_end

-- The places of faults

abbrev refused : ℕ → ℕ → ℕ → TokenOutcome
refused number line offset = Err (record { fault = record { number = number; line = line }; offset = Some offset })

-- the offset of a fault
abbrev offset_or : Option ℕ → ℕ
offset_or None = 0
offset_or (Some offset) = offset

abbrev place_of : TokenOutcome → ℕ
place_of (Ok tokens) = 0
place_of (Err f) = offset_or f.offset

begins_no_hash : (x : Sign) → eqb (get_or (sign_spelling x) 0 0) 35 ≡ false
begins_no_hash s.OpenParenthesis = refl
begins_no_hash _ = refl

hash_begins_none : (x : Lexeme) (more : List ℕ) → Spells x (35 ∷ more) → ⊥
hash_begins_none x more h = go x h (sym (sign_class 35 refl refl refl refl refl refl) ∙ begins x 35 more h)
  where
    go : (x : Lexeme) → Spells x (35 ∷ more) → 5 ≡ class_of x → ⊥
    go (sign x p) h e =
        let first : 35 ≡ get_or (sign_spelling x) 0 0 = ap (λ bs. get_or bs 0 0) h in
        let same : eqb 35 35 ≡ false = ap (λ b. eqb b 35) first ∙ begins_no_hash x in
        cc
    go x h e = omega (arith, e)

-- E01 at the stray byte
stray_byte : Lexes 0 1 (10 ∷ codes " # #") (refused 1 2 2)
stray_byte = divider refl (divider refl (fault f.StrayByte (refl, refl, hash_begins_none)))

-- and at no other byte of the line
stray_byte_alone : (offset : ℕ) → Lexes 0 1 (10 ∷ codes " # #") (refused 1 2 offset) → offset ≡ 2
stray_byte_alone offset h = ap place_of (one_outcome h stray_byte)

-- E02 at the opening quote
unfinished_text : Lexes 0 1 (10 ∷ 32 ∷ 34 ∷ codes "a") (refused 2 2 2)
unfolding run
unfinished_text = divider refl
    (divider refl
    (fault f.BadText (text_bad (34 ∷ codes "a") (codes "a") 1 refl refl refl (λ e. omega (arith, e)))))

-- E03 at the first byte of the number
no_number : Lexes 0 1 (10 ∷ codes " $g") (refused 3 2 2)
unfolding run
no_number = divider refl
    (divider refl
    (fault f.BadNumber
    (no_digits (codes "$g") bases.Hexadecimal refl refl 1 0 (codes "g") refl refl refl refl)))

-- E04 at the first byte of the name
long_name : Lexes 0 1 (10 ∷ codes " a23456789012345678901234567890123") (refused 4 2 2)
unfolding run
long_name = divider refl
    (divider refl (fault f.NameTooLong (name_long (codes "a23456789012345678901234567890123") refl (omega arith))))

text_prints : (p : Position) → HasPrintableText (text (codes "~") p)
text_prints p = All-cons IsPrintable 126 [] (omega arith, omega arith) (All-nil IsPrintable)

line_feed_does_not : (p : Position) → HasPrintableText (text (10 ∷ []) p) → ⊥
line_feed_does_not p h = let printable = All-head IsPrintable 10 [] h in omega (arith, printable.0)
