-- Texts, characters and dictionary words are the longest tokens at the front.
use Rattle.std.proofs.Common.{◌≡◌, ℕ, zero, suc, ◌+◌, ◌<◌, ◌≤◌, ◌⊎◌, Bool, true, false, List, [], ◌∷◌, ◌++◌, length}
use Rattle.std.proofs.Common.{get_or, take, drop, refl, sym, ap, subst, ◌∙◌, arith, inl, inr}
use lib.Chars.{codes}
use Rattle.std.proofs.lemmas.Bool.Decides.{nat_tests}
use Rattle.syntax_lexer.specs.declared.fault.LexicalFault.TheVariants as f
use Rattle.syntax_lexer.specs.declared.token.Position.{Position}
use Rattle.syntax_lexer.specs.Token.{Lexeme, text, character, dictionary_word}
use Rattle.syntax_lexer.specs.Bytes.{is_text_byte, is_quoted_byte, is_word_byte, is_character, run, Each}
use Rattle.syntax_lexer.specs.Spelling.{quoted, Spells}
use Rattle.syntax_lexer.specs.Tokens.{IsLongest, IsAllowed, Breaks}
use Rattle.syntax_lexer.specs.Fronts.{IsContent}
use Rattle.syntax_lexer.proofs.Beginnings.{class_of, cons_is, text_class, quoted_class}
use Rattle.syntax_lexer.proofs.Longest.{run_each, front_class}
use Rattle.syntax_lexer.proofs.SignTokens.{byte_within}

-- ---- bytes up to a quote

record Enclosed (p : ℕ → Bool) (q : ℕ) (inner more : List ℕ) (n : ℕ) : Type 0 where
  count : run p more ≡ length inner
  quote : get_or more (length inner) 0 ≡ q
  same : take (length inner) more ≡ inner
  all : n ≤ length more → n ≡ suc (length inner)

empty_rest : (inner : List ℕ) (q : ℕ) → [] ≡ inner ++ q ∷ [] → ⊥
empty_rest [] q e = cc
empty_rest (b ∷ inner) q e = cc

one_rest : (n : ℕ) (more : List ℕ) → take n more ≡ [] → n ≤ length more → n ≡ 0
one_rest zero more e le = refl
one_rest (suc n) [] e le = absurd (omega arith)
one_rest (suc n) (b ∷ more) e le = absurd cc

enclosed : (p : ℕ → Bool) (q : ℕ) → p q ≡ false → (inner more : List ℕ) (n : ℕ) → Each p inner
    → take n more ≡ inner ++ q ∷ [] → Enclosed p q inner more n
unfolding run
enclosed p q never inner more zero h e = absurd (empty_rest inner q e)
enclosed p q never inner [] (suc n) h e = absurd (empty_rest inner q e)
enclosed p q never [] (b ∷ more) (suc n) h e =
    let first : b ≡ q = cons_is b q _ _ e in
    let rest : take n more ≡ [] = cc in
    let here : p b ≡ false = rw first never in
    record {
      count = rw here refl;
      quote = first;
      same = refl;
      all = λ le. omega (arith, one_rest n more rest (omega arith));
    }
enclosed p q never (c ∷ inner) (b ∷ more) (suc n) h e =
    let first : b ≡ c = cons_is b c _ _ e in
    let rest : take n more ≡ inner ++ q ∷ [] = cc in
    let again = enclosed p q never inner more n h.1 rest in
    let here : p b ≡ true = rw first h.0 in
    record {
      count = rw here (ap suc again.count);
      quote = again.quote;
      same = rw first (ap (λ xs. c ∷ xs) again.same);
      all = λ le. omega (arith, again.all (omega arith));
    }

take_more : (bs : List ℕ) (n : ℕ) → n < length bs → take (suc n) bs ≡ take n bs ++ get_or bs n 0 ∷ []
take_more [] n lt = absurd (omega arith)
take_more (b ∷ bs) zero lt = refl
take_more (b ∷ bs) (suc n) lt = ap (λ x. b ∷ x) (take_more bs n (omega arith))

-- a quote, the run and the quote after it
closed : (p : ℕ → Bool) (q b : ℕ) (bs : List ℕ) → b ≡ q → 0 < q → get_or bs (run p bs) 0 ≡ q
    → (run p bs + 2 ≤ suc (length bs)) × (take (run p bs + 2) (b ∷ bs) ≡ q ∷ (take (run p bs) bs ++ q ∷ []))
closed p q b bs first some e =
    let within : run p bs < length bs = byte_within bs (run p bs) (omega arith) in
    let two : run p bs + 2 ≡ suc (suc (run p bs)) = omega arith in (
      omega arith,
      rw (two, first)
          (ap (λ x. q ∷ x) (take_more bs (run p bs) within ∙ ap (λ c. take (run p bs) bs ++ c ∷ []) e)),
    )

-- ---- texts

text_bytes : is_text_byte 34 ≡ false
text_bytes = refl

text_inner : (x : Lexeme) (b : ℕ) (bs : List ℕ) (n : ℕ) → b ≡ 34 → Spells x (take n (b ∷ bs))
    → (inner : List ℕ) × Each is_text_byte inner × (take n (b ∷ bs) ≡ 34 ∷ (inner ++ 34 ∷ []))
text_inner x b bs n first t = go x t (sym (front_class (b ∷ bs) x n t) ∙ text_class b first)
  where
    go : (x : Lexeme) → Spells x (take n (b ∷ bs)) → class_of x ≡ 3
        → (inner : List ℕ) × Each is_text_byte inner × (take n (b ∷ bs) ≡ 34 ∷ (inner ++ 34 ∷ []))
    go (text s p) t c = (s, t.0, t.1)
    go x t c = absurd (omega arith)

record TextHeld (bs : List ℕ) (n : ℕ) : Type 0 where
  quote : get_or bs (run is_text_byte bs) 0 ≡ 34
  all : n ≤ suc (length bs) → n ≡ run is_text_byte bs + 2

text_held : (x : Lexeme) (b : ℕ) (bs : List ℕ) (n : ℕ) → b ≡ 34 → Spells x (take n (b ∷ bs)) → TextHeld bs n
text_held x b bs zero first t = absurd (cc ((text_inner x b bs zero first t).2))
text_held x b bs (suc n) first t =
    let h = text_inner x b bs (suc n) first t in
    let rest : take n bs ≡ h.0 ++ 34 ∷ [] = cc (h.2) in
    let e = enclosed is_text_byte 34 text_bytes h.0 bs n h.1 rest in
    record {
      quote = ap (λ i. get_or bs i 0) e.count ∙ e.quote;
      all = λ le. omega (arith, e.all (omega arith), e.count);
    }

text_longest : (b : ℕ) (bs : List ℕ) → b ≡ 34 → get_or bs (run is_text_byte bs) 0 ≡ 34 → (p : Position)
    → IsLongest (b ∷ bs) (text (take (run is_text_byte bs) bs) p) (run is_text_byte bs + 2)
text_longest b bs first e p =
    let whole = closed is_text_byte 34 b bs first (omega arith) e in
    record {
      within = whole.0;
      spelled = (run_each is_text_byte bs, whole.1);
      no_longer = λ other m lt le t. omega (arith, (text_held other b bs m first t).all le);
    }

pub text_found : (bs rest s : List ℕ) (n : ℕ) → get_or bs 0 0 ≡ 34 → rest ≡ drop 1 bs → n ≡ run is_text_byte rest
    → s ≡ take n rest → get_or rest n 0 ≡ 34 → (p : Position) → IsLongest bs (text s p) (n + 2) × Unit {0}
text_found [] rest s n first er en es e p = absurd cc
text_found (b ∷ bs) rest s n first er en es e p =
    let count : n ≡ run is_text_byte bs = en ∙ ap (run is_text_byte) er in
    let here : s ≡ take (run is_text_byte bs) bs = es ∙ ap (λ k. take k rest) count
    ∙ ap (take (run is_text_byte bs)) er in
    let quote : get_or bs (run is_text_byte bs) 0
    ≡ 34 = sym (ap (λ k. get_or rest k 0) count ∙ ap (λ xs. get_or xs (run is_text_byte bs) 0) er) ∙ e in (
      subst (λ k. IsLongest (b ∷ bs) (text s p) (k + 2)) (sym count)
          (subst (λ xs. IsLongest (b ∷ bs) (text xs p) (run is_text_byte bs + 2)) (sym here)
          (text_longest b bs first quote p)),
      tt,
    )

pub text_bad : (bs rest : List ℕ) (n : ℕ) → get_or bs 0 0 ≡ 34 → rest ≡ drop 1 bs → n ≡ run is_text_byte rest
    → (get_or rest n 0 ≡ 34 → ⊥) → Breaks f.BadText bs
text_bad [] rest n first er en never = absurd cc
text_bad (b ∷ bs) rest n first er en never =
    let count : n ≡ run is_text_byte bs = en ∙ ap (run is_text_byte) er in (
      inl first,
      λ x m t. never
          (ap (λ k. get_or rest k 0) count ∙ ap (λ xs. get_or xs (run is_text_byte bs) 0) er
          ∙ (text_held x b bs m first t).quote),
    )

-- ---- characters and dictionary words

quoted_bytes : is_quoted_byte 39 ≡ false
quoted_bytes = refl

character_quoted : (c : ℕ) → is_character c ≡ true → is_quoted_byte c ≡ true
character_quoted c e = grind (arith, nat_tests)

word_quoted : (s : List ℕ) → Each is_word_byte s → Each is_quoted_byte s
word_quoted [] h = tt
word_quoted (b ∷ s) h = (go b h.0, word_quoted s h.1)
  where
    go : (b : ℕ) → is_word_byte b ≡ true → is_quoted_byte b ≡ true
    go b e = grind (arith, nat_tests)

slashes_quoted : (s : List ℕ) → Each is_quoted_byte s → Each is_quoted_byte (s ++ 47 ∷ 47 ∷ [])
slashes_quoted [] h = (refl, (refl, tt))
slashes_quoted (b ∷ s) h = (h.0, slashes_quoted s h.1)

content_each : (x : Lexeme) (content : List ℕ) → IsContent x content → Each is_quoted_byte content
content_each (character c p) content h = subst (Each is_quoted_byte) (sym h.1) (character_quoted c h.0, tt)
content_each (dictionary_word s p) content h = go h.1
  where
    go : ((2 ≤ length s) × (content ≡ s)) ⊎ (content ≡ s ++ codes "//") → Each is_quoted_byte content
    go (inl q) = subst (Each is_quoted_byte) (sym q.1) (word_quoted s h.0.1)
    go (inr q) = subst (Each is_quoted_byte) (sym q) (slashes_quoted s (word_quoted s h.0.1))
content_each x content h = absurd h

quoted_inner : (x : Lexeme) (b : ℕ) (bs : List ℕ) (n : ℕ) → b ≡ 39 → Spells x (take n (b ∷ bs))
    → (content : List ℕ) × IsContent x content × (take n (b ∷ bs) ≡ quoted content)
quoted_inner x b bs n first t = go x t (sym (front_class (b ∷ bs) x n t) ∙ quoted_class b first)
  where
    go : (x : Lexeme) → Spells x (take n (b ∷ bs)) → class_of x ≡ 4
        → (content : List ℕ) × IsContent x content × (take n (b ∷ bs) ≡ quoted content)
    go (character k p) t c = t
    go (dictionary_word s p) t c = t
    go x t c = absurd (omega arith)

record QuotedHeld (x : Lexeme) (bs : List ℕ) (n : ℕ) : Type 0 where
  quote : get_or bs (run is_quoted_byte bs) 0 ≡ 39
  content : IsContent x (take (run is_quoted_byte bs) bs)
  all : n ≤ suc (length bs) → n ≡ run is_quoted_byte bs + 2

quoted_held : (x : Lexeme) (b : ℕ) (bs : List ℕ) (n : ℕ) → b ≡ 39 → Spells x (take n (b ∷ bs)) → QuotedHeld x bs n
quoted_held x b bs zero first t = absurd (cc ((quoted_inner x b bs zero first t).2))
quoted_held x b bs (suc n) first t =
    let h = quoted_inner x b bs (suc n) first t in
    let rest : take n bs ≡ h.0 ++ 39 ∷ [] = cc (h.2) in
    let e = enclosed is_quoted_byte 39 quoted_bytes h.0 bs n (content_each x h.0 h.1) rest in
    record {
      quote = ap (λ i. get_or bs i 0) e.count ∙ e.quote;
      content = subst (IsContent x) (sym (ap (λ k. take k bs) e.count ∙ e.same)) h.1;
      all = λ le. omega (arith, e.all (omega arith), e.count);
    }

spells_content : (x : Lexeme) (bs content : List ℕ) → IsContent x content → bs ≡ quoted content → Spells x bs
spells_content (character c p) bs content h e = (content, h, e)
spells_content (dictionary_word s p) bs content h e = (content, h, e)
spells_content x bs content h e = absurd h

quoted_longest : (b : ℕ) (bs : List ℕ) (x : Lexeme) → b ≡ 39 → get_or bs (run is_quoted_byte bs) 0 ≡ 39
    → IsContent x (take (run is_quoted_byte bs) bs) → IsLongest (b ∷ bs) x (run is_quoted_byte bs + 2)
quoted_longest b bs x first e h =
    let whole = closed is_quoted_byte 39 b bs first (omega arith) e in
    record {
      within = whole.0;
      spelled = spells_content x (take (run is_quoted_byte bs + 2) (b ∷ bs))
          (take (run is_quoted_byte bs) bs) h whole.1;
      no_longer = λ other m lt le t. omega (arith, (quoted_held other b bs m first t).all le);
    }

pub quoted_found : (bs rest content : List ℕ) (n : ℕ) (x : Lexeme) → get_or bs 0 0 ≡ 39 → rest ≡ drop 1 bs
    → n ≡ run is_quoted_byte rest → content ≡ take n rest → get_or rest n 0 ≡ 39 → IsContent x content
    → IsLongest bs x (n + 2)
quoted_found [] rest content n x first er en ec e h = absurd cc
quoted_found (b ∷ bs) rest content n x first er en ec e h =
    let count : n ≡ run is_quoted_byte bs = en ∙ ap (run is_quoted_byte) er in
    let here : content ≡ take (run is_quoted_byte bs) bs = ec ∙ ap (λ k. take k rest) count
    ∙ ap (take (run is_quoted_byte bs)) er in
    let quote : get_or bs (run is_quoted_byte bs) 0
    ≡ 39 = sym (ap (λ k. get_or rest k 0) count ∙ ap (λ xs. get_or xs (run is_quoted_byte bs) 0) er) ∙ e in
    subst (λ k. IsLongest (b ∷ bs) x (k + 2)) (sym count)
    (quoted_longest b bs x first quote (subst (IsContent x) here h))

pub quoted_open : (bs rest : List ℕ) (n : ℕ) → get_or bs 0 0 ≡ 39 → rest ≡ drop 1 bs → n ≡ run is_quoted_byte rest
    → (get_or rest n 0 ≡ 39 → ⊥) → Breaks f.BadText bs
quoted_open [] rest n first er en never = absurd cc
quoted_open (b ∷ bs) rest n first er en never =
    let count : n ≡ run is_quoted_byte bs = en ∙ ap (run is_quoted_byte) er in (
      inr first,
      λ x m t. never
          (ap (λ k. get_or rest k 0) count ∙ ap (λ xs. get_or xs (run is_quoted_byte bs) 0) er
          ∙ (quoted_held x b bs m first t).quote),
    )

pub quoted_bad : (bs rest content : List ℕ) (n : ℕ) → get_or bs 0 0 ≡ 39 → rest ≡ drop 1 bs
    → n ≡ run is_quoted_byte rest → content ≡ take n rest → ((x : Lexeme) → IsContent x content → ⊥)
    → Breaks f.BadText bs
quoted_bad [] rest content n first er en ec never = absurd cc
quoted_bad (b ∷ bs) rest content n first er en ec never =
    let count : n ≡ run is_quoted_byte bs = en ∙ ap (run is_quoted_byte) er in
    let here : content ≡ take (run is_quoted_byte bs) bs = ec ∙ ap (λ k. take k rest) count
    ∙ ap (take (run is_quoted_byte bs)) er in
    (inr first, λ x m t. never x (subst (IsContent x) (sym here) (quoted_held x b bs m first t).content))

-- a character or a dictionary word may be followed by anything
pub content_allowed : (x : Lexeme) (content rest : List ℕ) → IsContent x content → IsAllowed x rest
content_allowed (character c p) content rest h = tt
content_allowed (dictionary_word s p) content rest h = tt
content_allowed x content rest h = absurd h
