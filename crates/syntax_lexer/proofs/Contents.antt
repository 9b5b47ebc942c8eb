-- What stands between single quotes is one character or one dictionary word, or neither.
use Rattle.std.proofs.Common.{◌≡◌, ℕ, ◌+◌, ◌≤◌, ◌⊎◌, Bool, true, false, eqb, List, [], ◌∷◌, ◌++◌, length, get_or}
use Rattle.std.proofs.Common.{take, refl, sym, ap, subst, ◌∙◌, arith, inl, inr, length-append}
use lib.Chars.{codes}
use Rattle.std.specs.Bool.{Decides}
use Rattle.std.proofs.lemmas.Bool.{eqb-true, eqb-false}
use Rattle.std.proofs.lemmas.Bool.Decides.{Decides-eqb}
use Rattle.std.proofs.lemmas.List.{get_or-append-add}
use Rattle.std.proofs.Math.Seq.{take-append_seam}
use Rattle.syntax_lexer.specs.Token.{Lexeme, character, dictionary_word}
use Rattle.syntax_lexer.specs.Bytes.{is_word_byte, is_character, run}
use Rattle.syntax_lexer.specs.Spelling.{IsCharacter, IsPlainWord, IsDictionaryWord}
use Rattle.syntax_lexer.specs.Fronts.{IsContent}
use Rattle.syntax_lexer.proofs.Longest.{run_all, all_run}

single : (content : List ℕ) → length content ≡ 1 → content ≡ get_or content 0 0 ∷ []
single [] e = absurd (omega arith)
single (c ∷ []) e = refl
single (c ∷ d ∷ more) e = absurd (omega arith)

pub lone_character : (content : List ℕ) → length content ≡ 1 → is_character (get_or content 0 0) ≡ true
    → IsCharacter (get_or content 0 0) content
lone_character content e h = (h, single content e)

clash : (t : Bool) → t ≡ true → t ≡ false → ⊥
clash t p q = cc

pub long_word : (s content : List ℕ) → IsDictionaryWord s content → 2 ≤ length content
long_word s content h = elim h.1
    [ inl q ↦ omega (arith, ap length q.1, q.0) | inr q ↦ omega (arith, ap length q, length-append s (codes "//")) ]

pub lone_none : (content : List ℕ) → length content ≡ 1 → is_character (get_or content 0 0) ≡ false → (x : Lexeme)
    → IsContent x content → ⊥
lone_none content e never (character c p) h = clash (is_character c) h.0
    (ap is_character (sym (ap (λ xs. get_or xs 0 0) h.1)) ∙ never)
lone_none content e never (dictionary_word s p) h = omega (arith, e, long_word s content h)
lone_none content e never x h = h

-- ---- the slashes at the end

abbrev pub Stripped : List ℕ → List ℕ → Type 0
Stripped word content = (content ≡ word ++ codes "//")
    ⊎ ((word ≡ content) × ((s : List ℕ) → content ≡ s ++ codes "//" → ⊥))

slashes_first : (word : List ℕ) → get_or (word ++ codes "//") (length word) 0 ≡ 47
slashes_first word = ap (λ k. get_or (word ++ codes "//") k 0) (add-zero-sym (length word))
    ∙ get_or-append-add word (codes "//") 0 0
  where
    add-zero-sym : (n : ℕ) → n ≡ n + 0
    add-zero-sym n = omega arith

slashes_second : (word : List ℕ) → get_or (word ++ codes "//") (length word + 1) 0 ≡ 47
slashes_second word = get_or-append-add word (codes "//") 1 0

pub not_plain : (word s : List ℕ) → s ≡ word ++ codes "//" → IsPlainWord s → ⊥
not_plain word s e h = h.2 (length word) (ap (λ xs. get_or xs (length word) 0) e ∙ slashes_first word)
    (ap (λ xs. get_or xs (length word + 1) 0) e ∙ slashes_second word)

-- what stands before one end
pub same_front : (s t z : List ℕ) → s ++ z ≡ t ++ z → s ≡ t
same_front s t z e =
    let sizes : length s ≡ length t = omega (arith, ap length e, length-append s z, length-append t z) in
    sym (take-append_seam s z) ∙ ap (λ k. take k (s ++ z)) sizes ∙ ap (take (length t)) e ∙ take-append_seam t z

pub word_content : (content word : List ℕ) → (length content ≡ 1 → ⊥) → Stripped word content → IsPlainWord word
    → IsDictionaryWord word content
word_content content word long (inl e) h = (h, inr e)
word_content content word long (inr e) h = (h, inl (omega (arith, long, ap length e.0, h.0), sym e.0))

pub word_none : (content word : List ℕ) → (length content ≡ 1 → ⊥) → Stripped word content → (IsPlainWord word → ⊥)
    → (x : Lexeme) → IsContent x content → ⊥
word_none content word long strip never (character c p) h = long (ap length h.1)
word_none content word long strip never (dictionary_word s p) h = go strip h.1
  where
    go : Stripped word content → ((2 ≤ length s) × (content ≡ s)) ⊎ (content ≡ s ++ codes "//") → ⊥
    go (inl e) (inl q) = not_plain word s (sym q.1 ∙ e) h.0
    go (inl e) (inr q) = never (subst IsPlainWord (same_front s word (codes "//") (sym q ∙ e)) h.0)
    go (inr e) (inl q) = never (subst IsPlainWord (sym (e.0 ∙ q.1)) h.0)
    go (inr e) (inr q) = e.1 s q
word_none content word long strip never x h = h

-- ---- words

plain_found : (word : List ℕ) → (length word ≡ 0 → ⊥) → run is_word_byte word ≡ length word
    → ((i : ℕ) → get_or word i 0 ≡ 47 → get_or word (i + 1) 0 ≡ 47 → ⊥) → IsPlainWord word
plain_found word some all none = (omega (arith, some), run_all is_word_byte word all, none)

pub plain_decides : (word : List ℕ) (n : ℕ) (r : Bool) → n ≡ run is_word_byte word → r ≡ eqb (length word) 0
    → r ≡ false → ((i : ℕ) → get_or word i 0 ≡ 47 → get_or word (i + 1) 0 ≡ 47 → ⊥)
    → Decides (eqb n (length word)) (IsPlainWord word)
plain_decides word n r e z f none = (
  λ t. plain_found word (eqb-false (length word) 0 (sym z ∙ f)) (sym e ∙ eqb-true n (length word) t) none,
  λ h.
      (Decides-eqb n (length word)).1 (e ∙ all_run is_word_byte word h.1),
)

pub empty_decides : (word : List ℕ) (r : Bool) → r ≡ eqb (length word) 0 → r ≡ true → Decides false (IsPlainWord word)
empty_decides word r e t = let none : length word ≡ 0 = eqb-true (length word) 0 (sym e ∙ t) in
    (λ t. absurd cc, λ h. absurd (omega (arith, h.0)))

pub slashes_decide : (word : List ℕ) → ((i : ℕ) × (get_or word i 0 ≡ 47) × (get_or word (i + 1) 0 ≡ 47))
    → Decides false (IsPlainWord word)
slashes_decide word s = (λ t. absurd cc, λ h. absurd (h.2 s.0 s.1 s.2))
