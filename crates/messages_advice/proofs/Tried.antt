-- The kinds that fit, among all.
use Rattle.std.proofs.Common.{◌≡◌, ◌<◌, ◌+◌, ℕ, zero, suc, List, [], ◌∷◌, ◌++◌, length, refl, sym, subst}
use Rattle.std.proofs.Common.{inl, inr, arith, take, lit<, get_or, Bool, true, false}
use Rattle.std.proofs.lemmas.List.{take_more}
use Rattle.std.specs.List.{Contains, slice_index_or}
use Rattle.std.proofs.lemmas.List.Elements.{Contains-append_left, Contains-append_right, Contains-append_cases}
use Rattle.syntax_lexer.specs.declared.token.Sign.{Sign}
use Rattle.syntax_lexer.specs.declared.token.Sign.TheVariants as s
use Rattle.syntax_lexer.specs.declared.token.Word.{Word}
use Rattle.syntax_lexer.specs.declared.token.Word.TheVariants as w
use Rattle.syntax_lexer.specs.Token.{Lexeme}
use Rattle.syntax_trees.specs.Parse.{sign_number, word_number}
use Rattle.syntax.specs.Places.{IsUnfitAfter}
use Rattle.messages_advice.specs.declared.kinds.TokenKind.{TokenKind}
use Rattle.messages_advice.specs.declared.kinds.TokenKind.TheVariants as k
use Rattle.messages_advice.specs.Kinds.{kind_of, all_kinds}
use Rattle.messages_advice.specs.Listed.{Fits, Misfits, AnswersFits, AreTried, AreExpected}

-- ---- one more

contains_one : (x y : TokenKind) → Contains (x ∷ []) y → x ≡ y
contains_one x y (zero, lt, e) = e
contains_one x y (suc n, lt, e) = absurd (omega (arith, lt))

pub tried_fits : {front : List Lexeme} {tried found : List TokenKind} (x : TokenKind) → AreTried front tried found
    → Fits front x → AreTried front (tried ++ x ∷ []) (found ++ x ∷ [])
tried_fits {front} {tried} {found} x a h = record {
  sound = λ y c. elim (Contains-append_cases found (x ∷ []) y c) [
    | inl b ↦ a.sound y b
    | inr b ↦ subst (λ z. Fits front z) (contains_one x y b) h
  ];
  full = λ y c. elim (Contains-append_cases tried (x ∷ []) y c) [
    | inl b ↦ elim (a.full y b) [
      | inl e ↦ inl (Contains-append_left found (x ∷ []) y e)
      | inr never ↦ inr never
    ]
    | inr b ↦ inl (Contains-append_right found (x ∷ []) y b)
  ];
}

pub tried_misfits : {front : List Lexeme} {tried found : List TokenKind} (x : TokenKind) → AreTried front tried found
    → Misfits front x → AreTried front (tried ++ x ∷ []) found
tried_misfits {front} {tried} {found} x a h = record {
  sound = a.sound;
  full = λ y c. elim (Contains-append_cases tried (x ∷ []) y c) [
    | inl b ↦ a.full y b
    | inr b ↦ inr (subst (λ z. Misfits front z) (contains_one x y b) h)
  ];
}

pub turn_fits : (front : List Lexeme) (kinds found new : List TokenKind) (i : ℕ) (d : TokenKind) (b : Bool)
    → i < length kinds → AreTried front (take i kinds) found → AnswersFits front (get_or kinds i d) b → b ≡ true
    → new ≡ found ++ get_or kinds i d ∷ [] → AreTried front (take (i + 1) kinds) new
turn_fits front kinds found new i d b lt tried a is new_is =
    let x = get_or kinds i d in
    let h : Fits front x = subst (λ y. AnswersFits front x y) is a in
    subst (λ ts. AreTried front ts new) (sym (take_more kinds i d lt))
    (subst (λ f. AreTried front (take i kinds ++ x ∷ []) f) (sym new_is) (tried_fits x tried h))

pub turn_misfits : (front : List Lexeme) (kinds found new : List TokenKind) (i : ℕ) (d : TokenKind) (b : Bool)
    → i < length kinds → AreTried front (take i kinds) found → AnswersFits front (get_or kinds i d) b → b ≡ false
    → new ≡ found → AreTried front (take (i + 1) kinds) new
turn_misfits front kinds found new i d b lt tried a is new_is =
    let x = get_or kinds i d in
    let h : Misfits front x = subst (λ y. AnswersFits front x y) is a in
    subst (λ ts. AreTried front ts new) (sym (take_more kinds i d lt))
    (subst (λ f. AreTried front (take i kinds ++ x ∷ []) f) (sym new_is) (tried_misfits x tried h))

-- ---- all of them

word_below : (w : Word) → 5 + word_number w < 86
word_below w.True = lit< tt
word_below _ = lit< tt

word_there : (w : Word) → slice_index_or all_kinds (5 + word_number w) (k.Reserved w) ≡ k.Reserved w
unfolding all_kinds
word_there w.True = refl
word_there _ = refl

sign_below : (s : Sign) → 51 + sign_number s < 86
sign_below s.Plus = lit< tt
sign_below _ = lit< tt

sign_there : (s : Sign) → slice_index_or all_kinds (51 + sign_number s) (k.Sign s) ≡ k.Sign s
unfolding all_kinds
sign_there s.Plus = refl
sign_there _ = refl

pub in_all : (x : TokenKind) → Contains all_kinds x
unfolding all_kinds
in_all k.Name = (0, lit< tt, refl)
in_all k.Number = (1, lit< tt, refl)
in_all k.Text = (2, lit< tt, refl)
in_all k.Character = (3, lit< tt, refl)
in_all k.DictionaryWord = (4, lit< tt, refl)
in_all (k.Reserved w) = (5 + word_number w, word_below w, word_there w)
in_all (k.Sign s) = (51 + sign_number s, sign_below s, sign_there s)
in_all k.End = (85, lit< tt, refl)

pub expected_are : (ts : List Lexeme) (n : ℕ) (found : List TokenKind) (a : IsUnfitAfter ts n)
    → AreTried a.front all_kinds found → AreExpected ts found
expected_are ts n found a tried = record {
  front = a.front;
  token = a.token;
  after = a.after;
  is = a.is;
  fits = a.fits;
  does_not = a.does_not;
  listed = λ t c. tried.sound (kind_of t) c t refl;
  only = λ t b. elim (tried.full (kind_of t) (in_all (kind_of t))) [
    | inl c ↦ c
    | inr never ↦ absurd (never t refl b)
  ];
}
