-- One turn of the loop over a source.
use Rattle.std.proofs.Common.{◌≡◌, ℕ, ◌+◌, ◌<◌, ◌≤◌, ◌⊎◌, true, List, [], ◌∷◌, ◌++◌, length, get_or, take, drop, Result}
use Rattle.std.proofs.Common.{Some, Ok, Err, refl, sym, ap, subst, ◌∙◌, arith, drop-cons, add-one, inl, inr, map}
use Rattle.std.specs.Global.{Vec}
use Rattle.std.specs.Prelude.{IfOk}
use Rattle.std.proofs.lemmas.List.{drop-drop, length-drop, length-take, nil_from_length}
use Rattle.syntax_lexer.specs.declared.fault.LexicalFault.{LexicalFault}
use Rattle.syntax_lexer.specs.declared.fault.PlacedFault.{PlacedFault}
use Rattle.syntax_lexer.specs.FaultNumbers.{no_memory}
use Rattle.syntax_lexer.specs.Placed.{nowhere}
use Rattle.syntax_lexer.specs.declared.token.Kind.{Kind}
use Rattle.syntax_lexer.specs.declared.token.Kind.TheVariants as kinds
use Rattle.syntax_lexer.specs.declared.token.Position.{Position}
use Rattle.syntax_lexer.specs.declared.token.Token.{Token}
use Rattle.syntax_lexer.specs.Bytes.{is_divider, is_comment_byte, run}
use Rattle.syntax_lexer.specs.Token.{Lexeme, name, number, text, character, dictionary_word, reserved, sign, end}
use Rattle.syntax_lexer.specs.Token.{lexeme_of, lexemes, position_of}
use Rattle.syntax_lexer.specs.Spelling.{Spells}
use Rattle.syntax_lexer.specs.Tokens.{IsLongest, IsAllowed, Breaks, number_of, SourceToken, put, line_after}
use Rattle.syntax_lexer.specs.Tokens.{TokenOutcome, Lexes, at_end, divider, comment, token, fault, EndsOnce}
use Rattle.syntax_lexer.specs.Results.{source_token, source_tokens, Meets}

-- the tokens before an outcome
abbrev pub puts : List Token → TokenOutcome → TokenOutcome
puts [] o = o
puts (t ∷ ts) o = put (source_token t) (puts ts o)

pub puts_push : (ts : List Token) (t : Token) (o : TokenOutcome)
    → puts (ts ++ t ∷ []) o ≡ puts ts (put (source_token t) o)
puts_push [] t o = refl
puts_push (x ∷ ts) t o = ap (put (source_token x)) (puts_push ts t o)

pub puts_last : (ts : List Token) (t : Token) → puts ts (Ok (source_token t ∷ [])) ≡ Ok (source_tokens (ts ++ t ∷ []))
puts_last [] t = refl
puts_last (x ∷ ts) t = ap (put (source_token x)) (puts_last ts t)

pub puts_err : (ts : List Token) (e : PlacedFault) → puts ts (Err e) ≡ Err e
puts_err [] e = refl
puts_err (t ∷ ts) e = rw (puts_err ts e) refl

pub meets_either : (r : Result (Vec Token) PlacedFault) (P : TokenOutcome → Type 0) (x e : PlacedFault) → r ≡ Err x
    → x ≡ e → (e ≡ nowhere no_memory) ⊎ P (Err e) → Meets r P
meets_either r P x e er ex h = rw er (subst (λ y. (y ≡ nowhere no_memory) ⊎ P (Err y)) (sym ex) h)

pub either_whole : {A B C : Type 0} → A ⊎ B → (B → C) → A ⊎ C
either_whole (inl q) f = inl q
either_whole (inr a) f = inr (f a)

pub meets_unplaced : (P : TokenOutcome → Type 0) (e : PlacedFault) → (e ≡ nowhere no_memory) ⊎ P (Err e)
    → (e.fault ≡ no_memory) ⊎ ((p : PlacedFault) × (p.fault ≡ e.fault) × P (Err p))
meets_unplaced P e (inl q) = inl (ap (λ (x : PlacedFault). x.fault) q)
meets_unplaced P e (inr h) = inr (e, refl, h)

here : (bs : List ℕ) (at : ℕ) → at < length bs → drop at bs ≡ get_or bs at 0 ∷ drop (at + 1) bs
here bs at lt = rw (add-one at) (drop-cons bs at 0 lt)

pub at_divider : (bs : List ℕ) (at line : ℕ) (o : TokenOutcome) → at < length bs → is_divider (get_or bs at 0) ≡ true
    → Lexes (at + 1) (line_after line (get_or bs at 0)) (drop (at + 1) bs) o → Lexes at line (drop at bs) o
at_divider bs at line o lt e h = subst (λ xs. Lexes at line xs o) (sym (here bs at lt)) (divider e h)

pub at_comment : (bs : List ℕ) (at line n : ℕ) (o : TokenOutcome) → at < length bs → get_or bs at 0 ≡ 33
    → n ≡ run is_comment_byte (drop (at + 1) bs) → Lexes (at + (1 + n)) line (drop (at + (1 + n)) bs) o
    → Lexes at line (drop at bs) o
at_comment bs at line n o lt e is h =
    let first : drop at bs ≡ 33 ∷ drop (at + 1) bs = here bs at lt ∙ ap (λ b. b ∷ drop (at + 1) bs) e in
    let places : at + (1 + n) ≡ at + 1 + n = omega arith in
    let rest : drop (at + (1 + n)) bs ≡ drop n (drop (at + 1) bs) = ap (λ k. drop k bs) places
    ∙ sym (drop-drop n (at + 1) bs) in
    subst (λ xs. Lexes at line xs o) (sym first)
    (comment refl
    (subst (λ k. Lexes (at + 1 + k) line (drop k (drop (at + 1) bs)) o) is
    (subst (λ xs. Lexes (at + 1 + n) line xs o) rest
    (subst (λ k. Lexes k line (drop (at + (1 + n)) bs) o) places h))))

pub at_token : (bs : List ℕ) (at line n : ℕ) (lexeme : Lexeme) (o : TokenOutcome)
    → position_of lexeme ≡ record { offset = at; line = line } → IsLongest (drop at bs) lexeme n
    → IsAllowed lexeme (drop n (drop at bs)) → Lexes (at + n) line (drop (at + n) bs) o
    → Lexes at line (drop at bs) (put (record { lexeme = lexeme; text = take n (drop at bs); end = at + n }) o)
at_token bs at line n lexeme o place long good h =
    let rest : drop (at + n) bs ≡ drop n (drop at bs) = sym (drop-drop n at bs) in
    token place long good (subst (λ xs. Lexes (at + n) line xs o) rest h)

pub at_the_end : (bs : List ℕ) (at line : ℕ) → length bs ≤ at
    → Lexes at line (drop at bs)
    (Ok (record {
      lexeme = end (record { offset = at; line = line });
      text = drop at bs;
      end = at + length (drop at bs);
    } ∷ []))
at_the_end bs at line le =
    let none : length (drop at bs) ≡ 0 = omega (arith, le, length-drop at bs) in
    let nothing : drop at bs ≡ [] = nil_from_length (drop at bs) (omega (arith, length-drop at bs)) in
    let same : at ≡ at + length (drop at bs) = omega (arith, none) in
    subst (λ (k : ℕ). Lexes at line (drop at bs)
    (Ok (record { lexeme = end (record { offset = at; line = line }); text = drop at bs; end = k } ∷ []))) same
    (subst (λ xs. Lexes at line xs
    (Ok (record { lexeme = end (record { offset = at; line = line }); text = xs; end = at } ∷ []))) (sym nothing)
    at_end)

pub kind_position : (k : Kind) (p : Position) → position_of (lexeme_of k p) ≡ p
kind_position k p = go k
  where
    go : (k : Kind) → position_of (lexeme_of k p) ≡ p
    go (kinds.Name s) = refl
    go (kinds.Number n) = refl
    go (kinds.Text s) = refl
    go (kinds.Character c) = refl
    go (kinds.DictionaryWord s) = refl
    go (kinds.Reserved w) = refl
    go (kinds.Sign s) = refl
    go kinds.End = refl

pub token_first : (bs rest s : List ℕ) (p : Position) (kind : Kind) (n : ℕ) → rest ≡ drop p.offset bs
    → s ≡ take n rest
    → ((q : Position) → IsLongest rest (lexeme_of kind q) n × IsAllowed (lexeme_of kind q) (drop n rest))
    → (o : TokenOutcome) → Lexes (p.offset + n) p.line (drop (p.offset + n) bs) o
    → Lexes p.offset p.line (drop p.offset bs)
    (put (record { lexeme = lexeme_of kind p; text = s; end = p.offset + length s }) o)
token_first bs rest s p kind n er et scanned o h =
    let long = subst (λ xs. IsLongest xs (lexeme_of kind p) n) er (scanned p).0 in
    let good = subst (λ xs. IsAllowed (lexeme_of kind p) (drop n xs)) er (scanned p).1 in
    let text_is : take n (drop p.offset bs) ≡ s = sym (et ∙ ap (take n) er) in
    let size : n ≡ length s = omega (arith, ap length et, length-take n rest, (scanned p).0.within) in
    subst (λ (k : ℕ). Lexes p.offset p.line (drop p.offset bs)
    (put (record { lexeme = lexeme_of kind p; text = s; end = p.offset + k }) o)) size
    (subst (λ xs. Lexes p.offset p.line (drop p.offset bs)
    (put (record { lexeme = lexeme_of kind p; text = xs; end = p.offset + n }) o)) text_is
    (at_token bs p.offset p.line n (lexeme_of kind p) o (kind_position kind p) long good h))

pub fault_first : (bs rest : List ℕ) (p : Position) (g : LexicalFault) (n : ℕ) → rest ≡ drop p.offset bs
    → n ≡ number_of g → Breaks g rest → Lexes p.offset p.line (drop p.offset bs)
    (Err (record { fault = record { number = n; line = p.line }; offset = Some p.offset }))
fault_first bs rest p g n er en b = subst
    (λ k. Lexes p.offset p.line (drop p.offset bs)
    (Err (record { fault = record { number = k; line = p.line }; offset = Some p.offset }))) (sym en)
    (fault g (subst (Breaks g) er b))

-- ---- the end of the source is the last token alone

ends_put : (l : Lexeme) (text : List ℕ) (n : ℕ) (bs : List ℕ) (o : TokenOutcome) → Spells l bs
    → IfOk o (λ ts. EndsOnce (map (λ (t : SourceToken). t.lexeme) ts))
    → IfOk (put (record { lexeme = l; text = text; end = n }) o)
    (λ ts. EndsOnce (map (λ (t : SourceToken). t.lexeme) ts))
ends_put l t n bs (Err e) h rest = tt
ends_put (name s p) t n bs (Ok ts) h rest = rest
ends_put (number v p) t n bs (Ok ts) h rest = rest
ends_put (text s p) t n bs (Ok ts) h rest = rest
ends_put (character c p) t n bs (Ok ts) h rest = rest
ends_put (dictionary_word s p) t n bs (Ok ts) h rest = rest
ends_put (reserved w p) t n bs (Ok ts) h rest = rest
ends_put (sign s p) t n bs (Ok ts) h rest = rest
ends_put (end p) t n bs (Ok ts) h rest = absurd h

pub ends_once : {at line : ℕ} {bs : List ℕ} {o : TokenOutcome} → Lexes at line bs o
    → IfOk o (λ ts. EndsOnce (map (λ (t : SourceToken). t.lexeme) ts))
ends_once at_end = refl
ends_once (divider e h) = ends_once h
ends_once (comment e h) = ends_once h
ends_once (token {at = at} {n = n} {bs = bs} {lexeme = l} {o = o} place long good h) = ends_put l (take n bs)
    (at + n) (take n bs) o long.spelled (ends_once h)
ends_once (fault g b) = tt

pub lexemes_are : (ts : List Token) → map (λ (t : SourceToken). t.lexeme) (source_tokens ts) ≡ lexemes ts
lexemes_are [] = refl
lexemes_are (t ∷ ts) = rw (lexemes_are ts) refl
