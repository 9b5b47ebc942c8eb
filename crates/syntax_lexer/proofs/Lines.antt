-- Each token of a source stands in its line, and so does its first fault: no token and no comment has an end of a line
-- in it.
use Rattle.std.proofs.Common.{◌≡◌, ℕ, zero, suc, ◌+◌, ◌<◌, ◌≤◌, Bool, true, false, cond, eqb, not, List, [], ◌∷◌, ◌++◌}
use Rattle.std.proofs.Common.{length, get_or, take, drop, Some, Ok, Err, refl, sym, ap, subst, ◌∙◌, arith, inl, inr}
use Rattle.std.proofs.Common.{add-one, drop-cons}
use Rattle.std.proofs.Math.Seq.{take-add}
use Rattle.std.proofs.lemmas.Bool.Decides.{nat_tests}
use Rattle.std.proofs.lemmas.List.{drop-drop, length-drop, get_or-drop}
use Rattle.syntax_lexer.specs.declared.bytes.Base.{Base}
use Rattle.syntax_lexer.specs.declared.bytes.Base.TheVariants as bases
use Rattle.syntax_lexer.specs.declared.fault.LexicalFault.{LexicalFault}
use Rattle.syntax_lexer.specs.declared.fault.PlacedFault.{PlacedFault}
use Rattle.syntax_lexer.specs.declared.token.Sign.{Sign}
use Rattle.syntax_lexer.specs.declared.token.Sign.TheVariants as s
use Rattle.syntax_lexer.specs.Bytes.{is_letter, is_name_byte, is_text_byte, is_word_byte, is_character, is_divider}
use Rattle.syntax_lexer.specs.Bytes.{is_digit_of, is_comment_byte, run, Each}
use Rattle.syntax_lexer.specs.Token.{Lexeme, name, number, text, character, dictionary_word, reserved, sign, end}
use Rattle.syntax_lexer.specs.Token.{position_of}
use Rattle.syntax_lexer.specs.Spelling.{sign_spelling, prefix, IsPlainWord, Spells}
use Rattle.syntax_lexer.specs.Tokens.{IsLongest, SourceToken, put, line_after, TokenOutcome, Lexes, at_end, divider}
use Rattle.syntax_lexer.specs.Tokens.{number_of, comment, token, fault}
use Rattle.syntax_lexer.specs.Placed.{line_behind, line_at, IsInLine}
use Rattle.syntax_lexer.proofs.Beginnings.{begins, takes, divider_class, class_of}
use Rattle.syntax_lexer.proofs.Longest.{run_each}
use Rattle.syntax_lexer.proofs.Runs.{run_within}
use Rattle.syntax_lexer.proofs.Unique.{fault_begins}
use Rattle.syntax_lexer.proofs.WordTables.{reserved_each}

-- ---- bytes of tokens

-- a byte that ends no line
pub goes_on : ℕ → Bool
goes_on b = not (eqb b 10)

each_less : (p : ℕ → Bool) → ((b : ℕ) → p b ≡ true → goes_on b ≡ true) → (bs : List ℕ) → Each p bs → Each goes_on bs
each_less p less [] h = tt
each_less p less (b ∷ bs) h = (less b h.0, each_less p less bs h.1)

each_join : (xs ys : List ℕ) → Each goes_on xs → Each goes_on ys → Each goes_on (xs ++ ys)
each_join [] ys h k = k
each_join (x ∷ xs) ys h k = (h.0, each_join xs ys h.1 k)

letter_goes_on : (b : ℕ) → is_letter b ≡ true → goes_on b ≡ true
unfolding goes_on
letter_goes_on b h = grind (arith, nat_tests)

name_goes_on : (b : ℕ) → is_name_byte b ≡ true → goes_on b ≡ true
unfolding goes_on
name_goes_on b h = grind (arith, nat_tests)

text_goes_on : (b : ℕ) → is_text_byte b ≡ true → goes_on b ≡ true
unfolding goes_on
text_goes_on b h = grind (arith, nat_tests)

word_goes_on : (b : ℕ) → is_word_byte b ≡ true → goes_on b ≡ true
unfolding goes_on
word_goes_on b h = grind (arith, nat_tests)

character_goes_on : (b : ℕ) → is_character b ≡ true → goes_on b ≡ true
unfolding goes_on
character_goes_on b h = grind (arith, nat_tests)

comment_goes_on : (b : ℕ) → is_comment_byte b ≡ true → goes_on b ≡ true
unfolding goes_on
comment_goes_on b h = grind (arith, nat_tests)

digit_goes_on : (base : Base) (b : ℕ) → is_digit_of base b ≡ true → goes_on b ≡ true
unfolding goes_on
digit_goes_on bases.Decimal b h = grind (arith, nat_tests)
digit_goes_on bases.Hexadecimal b h = grind (arith, nat_tests)
digit_goes_on bases.Binary b h = grind (arith, nat_tests)

prefix_goes_on : (base : Base) → Each goes_on (prefix base)
unfolding goes_on
prefix_goes_on bases.Decimal = tt
prefix_goes_on bases.Hexadecimal = (refl, tt)
prefix_goes_on bases.Binary = (refl, (refl, tt))

all_go_on : List ℕ → Bool
all_go_on [] = true
all_go_on (b ∷ bs) = cond (goes_on b) (all_go_on bs) false

each_of_all : (bs : List ℕ) → all_go_on bs ≡ true → Each goes_on bs
unfolding all_go_on
each_of_all [] h = tt
each_of_all (b ∷ bs) h = go (each_of_all bs) (goes_on b) refl h
  where
    go : (all_go_on bs ≡ true → Each goes_on bs) → (t : Bool) → goes_on b ≡ t → cond t (all_go_on bs) false ≡ true
        → Each goes_on (b ∷ bs)
    go rest true q h = (q, rest h)
    go rest false q h = absurd cc

sign_goes_on : (x : Sign) → all_go_on (sign_spelling x) ≡ true
unfolding all_go_on goes_on
sign_goes_on s.OpenParenthesis = refl
sign_goes_on _ = refl

quoted_goes_on : (content : List ℕ) → Each goes_on content → Each goes_on (39 ∷ (content ++ 39 ∷ []))
unfolding goes_on
quoted_goes_on content h = (refl, each_join content (39 ∷ []) h (refl, tt))

dictionary_goes_on : (s content : List ℕ) → IsPlainWord s → content ≡ s → Each goes_on content
dictionary_goes_on s content h e = subst (Each goes_on) (sym e) (each_less is_word_byte word_goes_on s h.1)

slashed_goes_on : (s content : List ℕ) → IsPlainWord s → content ≡ s ++ 47 ∷ 47 ∷ [] → Each goes_on content
unfolding goes_on
slashed_goes_on s content h e = subst (Each goes_on) (sym e)
    (each_join s (47 ∷ 47 ∷ []) (each_less is_word_byte word_goes_on s h.1) (refl, (refl, tt)))

-- no token has an end of a line in it
token_goes_on : (x : Lexeme) (bs : List ℕ) → Spells x bs → Each goes_on bs
unfolding goes_on
token_goes_on (name s p) [] h = absurd h.1
token_goes_on (name s p) (b ∷ bs) h = (letter_goes_on b h.1.0, each_less is_name_byte name_goes_on bs h.1.1)
token_goes_on (number v p) bs h = subst (Each goes_on) (sym h.2)
    (each_join (prefix h.0) h.1 (prefix_goes_on h.0) (each_less (is_digit_of h.0) (digit_goes_on h.0) h.1 h.4))
token_goes_on (text s p) bs h = subst (Each goes_on) (sym h.1)
    (refl, each_join s (34 ∷ []) (each_less is_text_byte text_goes_on s h.0) (refl, tt))
token_goes_on (character c p) bs h = subst (Each goes_on) (sym h.2)
    (quoted_goes_on h.0 (subst (Each goes_on) (sym h.1.1) (character_goes_on c h.1.0, tt)))
token_goes_on (dictionary_word s p) bs h = subst (Each goes_on) (sym h.2) (quoted_goes_on h.0 (elim h.1.1 [
  | inl plain ↦ dictionary_goes_on s h.0 h.1.0 plain.1
  | inr slashed ↦ slashed_goes_on s h.0 h.1.0 slashed
]))
token_goes_on (reserved w p) bs h = each_less is_name_byte name_goes_on bs (reserved_each w bs h)
token_goes_on (sign s p) bs h = subst (Each goes_on) (sym h) (each_of_all (sign_spelling s) (sign_goes_on s))
token_goes_on (end p) bs h = absurd h

-- ---- lines

joined_line : (line : ℕ) (xs ys : List ℕ) → line_behind line (xs ++ ys) ≡ line_behind (line_behind line xs) ys
joined_line line [] ys = refl
joined_line line (x ∷ xs) ys = joined_line (line_after line x) xs ys

same_line : (line b : ℕ) → goes_on b ≡ true → line_after line b ≡ line
unfolding goes_on
same_line line b h = grind (arith, nat_tests)

one_line : (line : ℕ) (bs : List ℕ) → Each goes_on bs → line_behind line bs ≡ line
one_line line [] h = refl
one_line line (b ∷ bs) h = ap (λ n. line_behind n bs) (same_line line b h.0) ∙ one_line line bs h.1

-- after some bytes that end no line the line is the same
pub line_on : (source : List ℕ) (at n : ℕ) → Each goes_on (take n (drop at source))
    → line_at source (at + n) ≡ line_at source at
line_on source at n h =
    ap (line_behind 1) (take-add at n source) ∙ joined_line 1 (take at source) (take n (drop at source))
    ∙ one_line (line_at source at) (take n (drop at source)) h

first_byte : (source : List ℕ) (at : ℕ) → at < length source
    → drop at source ≡ get_or source at 0 ∷ drop (at + 1) source
first_byte source at lt = rw (add-one at) (drop-cons source at 0 lt)

-- after one byte
pub line_next : (source : List ℕ) (at : ℕ) → at < length source
    → line_at source (at + 1) ≡ line_after (line_at source at) (get_or source at 0)
line_next source at lt =
    ap (line_behind 1) (take-add at 1 source) ∙ joined_line 1 (take at source) (take 1 (drop at source))
    ∙ ap (λ xs. line_behind (line_at source at) (take 1 xs)) (first_byte source at lt)

-- after a token
pub line_after_token : (source : List ℕ) (at n : ℕ) (x : Lexeme) → IsLongest (drop at source) x n
    → line_at source (at + n) ≡ line_at source at
line_after_token source at n x long = line_on source at n (token_goes_on x (take n (drop at source)) long.spelled)

-- after a comment
pub line_after_comment : (source : List ℕ) (at n : ℕ) → at < length source → get_or source at 0 ≡ 33
    → n ≡ run is_comment_byte (drop (at + 1) source) → line_at source (at + (1 + n)) ≡ line_at source at
line_after_comment source at n lt first is =
    let places : at + (1 + n) ≡ at + 1 + n = omega arith in
    ap (line_at source) places
    ∙ line_on source (at + 1) n
    (subst (λ k. Each goes_on (take k (drop (at + 1) source))) (sym is)
    (each_less is_comment_byte comment_goes_on _ (run_each is_comment_byte (drop (at + 1) source))))
    ∙ line_next source at lt ∙ ap (line_after (line_at source at)) first

-- ---- tokens

-- no token is of the class of dividers
no_class : (x : Lexeme) → 6 ≡ class_of x → ⊥
no_class (name s p) e = omega (arith, e)
no_class (number v p) e = omega (arith, e)
no_class (text s p) e = omega (arith, e)
no_class (character c p) e = omega (arith, e)
no_class (dictionary_word s p) e = omega (arith, e)
no_class (reserved w p) e = omega (arith, e)
no_class (sign s p) e = omega (arith, e)
no_class (end p) e = omega (arith, e)

begins_here : (x : Lexeme) (b : ℕ) (bs : List ℕ) (n : ℕ) → Spells x (take n (b ∷ bs)) → is_divider b ≡ false
begins_here x b bs zero h = absurd (omega (arith, takes x [] h))
begins_here x b bs (suc n) h = go (is_divider b) refl
  where
    go : (t : Bool) → is_divider b ≡ t → is_divider b ≡ false
    go false q = q
    go true q = absurd (no_class x (sym (divider_class b q) ∙ begins x b (take n bs) h))

-- a byte that begins a token divides none
pub token_begins : (x : Lexeme) (bs : List ℕ) (n : ℕ) → Spells x (take n bs) → is_divider (get_or bs 0 0) ≡ false
token_begins x [] n h = refl
token_begins x (b ∷ bs) n h = begins_here x b bs n h

byte_is : (source : List ℕ) (at : ℕ) (bs : List ℕ) → bs ≡ drop at source → get_or bs 0 0 ≡ get_or source at 0
byte_is source at bs e =
    let place : at + 0 ≡ at = omega arith in
    ap (λ xs. get_or xs 0 0) e ∙ get_or-drop at source 0 0 ∙ ap (λ k. get_or source k 0) place

first_is : (source : List ℕ) (at b : ℕ) (bs : List ℕ) → b ∷ bs ≡ drop at source → b ≡ get_or source at 0
first_is source at b bs e = byte_is source at (b ∷ bs) e

rest_is : (source : List ℕ) (at b : ℕ) (bs : List ℕ) → b ∷ bs ≡ drop at source → bs ≡ drop (at + 1) source
rest_is source at b bs e = ap (drop 1) e ∙ drop-drop 1 at source

-- each token stands in its line
abbrev pub AllInLine : List ℕ → List SourceToken → Type 0
AllInLine source [] = Unit {0}
AllInLine source (t ∷ ts) = IsInLine source (position_of t.lexeme).line (position_of t.lexeme).offset
    × AllInLine source ts

-- a fault of tokens stands in its line
pub record IsFaultIn (source : List ℕ) (f : PlacedFault) : Type 0 where
  pub at : ℕ
  pub offset : f.offset ≡ Some at
  pub in_line : IsInLine source f.fault.line at
  pub broken : LexicalFault
  pub number : f.fault.number ≡ number_of broken

abbrev OutcomeInLine : List ℕ → TokenOutcome → Type 0
OutcomeInLine source (Ok ts) = AllInLine source ts
OutcomeInLine source (Err f) = IsFaultIn source f

put_in : (source spelled : List ℕ) (x : Lexeme) (n : ℕ) (o : TokenOutcome)
    → IsInLine source (position_of x).line (position_of x).offset → OutcomeInLine source o
    → OutcomeInLine source (put (record { lexeme = x; text = spelled; end = n }) o)
put_in source spelled x n (Ok ts) h rest = (h, rest)
put_in source spelled x n (Err e) h rest = rest

-- each token of bytes that stand at an offset of a source, and the fault
lexed_in : (source : List ℕ) {at line : ℕ} {bs : List ℕ} {o : TokenOutcome} → Lexes at line bs o → bs ≡ drop at source
    → at ≤ length source → line_at source at ≡ line → OutcomeInLine source o
lexed_in source (at_end {at = at} {line = line}) e le there = (
  record {
    within = le;
    in_line = there;
    divides_none = λ lt. absurd (omega (arith, lt, ap length e, length-drop at source));
  },
  tt,
)
lexed_in source (divider {at = at} {line = line} {b = b} {bs = bs} d h) e le there =
    let lt : at < length source = omega (arith, ap length e, length-drop at source) in
    let first : b ≡ get_or source at 0 = first_is source at b bs e in
    lexed_in source h (rest_is source at b bs e) (omega (arith, lt))
    (line_next source at lt ∙ ap (λ n. line_after n (get_or source at 0)) there ∙ ap (line_after line) (sym first))
lexed_in source (comment {at = at} {line = line} {b = b} {bs = bs} is h) e le there =
    let lt : at < length source = omega (arith, ap length e, length-drop at source) in
    let rest : bs ≡ drop (at + 1) source = rest_is source at b bs e in
    let n : ℕ = run is_comment_byte bs in
    let places : at + 1 + n ≡ at + (1 + n) = omega arith in
    lexed_in source h (ap (drop n) rest ∙ drop-drop n (at + 1) source)
    (omega (arith, lt, run_within is_comment_byte bs, ap length rest, length-drop (at + 1) source))
    (ap (line_at source) places
    ∙ line_after_comment source at n lt (sym (first_is source at b bs e) ∙ is) (ap (run is_comment_byte) rest) ∙ there)
lexed_in source (token {at = at} {line = line} {n = n} {bs = bs} {lexeme = x} {o = o} place long good h) e le there =
    let here : IsInLine source line at = record {
      within = le;
      in_line = there;
      divides_none = λ lt. ap is_divider (sym (byte_is source at bs e)) ∙ token_begins x bs n long.spelled;
    } in
    put_in source (take n bs) x (at + n) o
    (subst (λ p. IsInLine source p.line p.offset) (sym place) here)
    (lexed_in source h (ap (drop n) e ∙ drop-drop n at source)
    (omega (arith, long.within, ap length e, length-drop at source))
    (line_after_token source at n x (subst (λ xs. IsLongest xs x n) e long) ∙ there))
lexed_in source (fault {at = at} {line = line} {bs = bs} g b) e le there = record {
  at = at;
  offset = refl;
  in_line = record {
    within = le;
    in_line = there;
    divides_none = λ lt. ap is_divider (sym (byte_is source at bs e)) ∙ fault_begins bs g b;
  };
  broken = g;
  number = refl;
}

-- each token of a source
pub tokens_in_line : (source : List ℕ) (ts : List SourceToken) → Lexes 0 1 source (Ok ts) → AllInLine source ts
tokens_in_line source ts h = lexed_in source h refl (omega arith) refl

-- the first fault of a source
pub fault_in_line : (source : List ℕ) (f : PlacedFault) → Lexes 0 1 source (Err f) → IsFaultIn source f
fault_in_line source f h = lexed_in source h refl (omega arith) refl
