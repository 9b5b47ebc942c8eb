-- Whether a program begins with some tokens and one more, by where those, that one and the end of a source stop.
use Rattle.std.proofs.Common.{◌≡◌, ◌⊎◌, ◌<◌, ◌+◌, ℕ, Bool, true, false, List, [], ◌∷◌, ◌++◌, length, refl, nat_lt, Option, Some, None}
use Rattle.std.proofs.Common.{sym, ap, subst, ◌∙◌, inl, inr, append_assoc, arith, take}
use Rattle.std.proofs.lemmas.List.{append-nil, take-map}
use Rattle.std.proofs.lemmas.Bool.{ltb-true, ltb-false}
use Rattle.syntax_lexer.specs.declared.token.Token.{Token}
use Rattle.syntax_lexer.specs.Token.{Lexeme, lexeme, lexemes, end}
use Rattle.syntax_lexer.specs.Tokens.{EndsOnce}
use Rattle.syntax.specs.Tree.{ProgramTree}
use Rattle.syntax.specs.Grammar.{IsProgram}
use Rattle.syntax.specs.Places.{Begins, IsUnfitAfter, AnswersUnfit}
use Rattle.messages_advice.specs.declared.kinds.TokenKind.{TokenKind}
use Rattle.messages_advice.specs.declared.kinds.TokenKind.TheVariants as k
use Rattle.messages_advice.specs.Kinds.{kind_of, some_token}
use Rattle.messages_advice.specs.Listed.{Fits, Misfits, AnswersFits, end_behind, trial_of}
use Rattle.messages_advice.proofs.SameKind.{prefix, same_kind}

-- ---- the end of a trial

nothing_is : (xs : List Lexeme) (t : Lexeme) (ys : List Lexeme) → xs ++ t ∷ ys ≡ [] → ⊥
nothing_is [] t ys e = absurd cc
nothing_is (x ∷ xs) t ys e = absurd cc

alone : (x : TokenKind) → EndsOnce (some_token x ∷ end_behind x)
alone k.End = refl
alone _ = refl

pub ends_trial : (front : List Lexeme) (x : TokenKind) → EndsOnce (front ++ some_token k.End ∷ [])
    → EndsOnce (trial_of front x)
ends_trial [] x h = alone x
ends_trial (end p ∷ front) x h = absurd (nothing_is front (some_token k.End) [] h)
ends_trial (t ∷ front) x h = ends_trial front x h

pub ends_front : (front : List Lexeme) (t : Lexeme) (after : List Lexeme) → EndsOnce (front ++ t ∷ after)
    → EndsOnce (front ++ some_token k.End ∷ [])
ends_front [] t after h = refl
ends_front (end p ∷ front) t after h = absurd (nothing_is front t after h)
ends_front (u ∷ front) t after h = ends_front front t after h

-- ---- where it stops

pub head_is : (x y : Lexeme) (xs ys : List Lexeme) → x ∷ xs ≡ y ∷ ys → x ≡ y
head_is x y xs ys e = cc

tail_is : (x y : Lexeme) (xs ys : List Lexeme) → x ∷ xs ≡ y ∷ ys → xs ≡ ys
tail_is x y xs ys e = cc

-- a token stands among the first tokens, or behind them
abbrev pub Splits : List Lexeme → List Lexeme → List Lexeme → Lexeme → List Lexeme → Type 0
Splits xs us f t b = ((more : List Lexeme) × (xs ≡ f ++ t ∷ more))
    ⊎ ((rest : List Lexeme) × (f ≡ xs ++ rest) × (us ≡ rest ++ t ∷ b))

pub splits : (xs us f : List Lexeme) (t : Lexeme) (b : List Lexeme) → xs ++ us ≡ f ++ t ∷ b → Splits xs us f t b
splits [] us f t b e = inr (f, refl, e)
splits (x ∷ xs) us [] t b e = inl (xs, ap (λ y. y ∷ xs) (head_is x t (xs ++ us) b e))
splits (x ∷ xs) us (y ∷ f) t b e =
    let same = head_is x y (xs ++ us) (f ++ t ∷ b) e in
    elim (splits xs us f t b (tail_is x y (xs ++ us) (f ++ t ∷ b) e)) [
      | inl (more, is) ↦ inl (more, ap (λ z. z ∷ xs) same ∙ ap (λ zs. y ∷ zs) is)
      | inr (rest, is, are) ↦ inr (rest, ap (λ z. z ∷ f) (sym same) ∙ ap (λ zs. x ∷ zs) is, are)
    ]

longer : (xs ys : List Lexeme) → length (xs ++ ys) ≡ length xs + length ys
longer [] ys = omega arith
longer (x ∷ xs) ys = omega (arith, longer xs ys)

-- it stops at the token behind the first ones, or behind it
abbrev Decided : List Lexeme → Lexeme → ℕ → Type 0
Decided front x n = ((n ≡ length front) × (Begins (front ++ x ∷ []) → ⊥))
    ⊎ ((length front < n) × Begins (front ++ x ∷ []))

decided : (front : List Lexeme) (x : Lexeme) (ends : List Lexeme) (n : ℕ) → Begins front
    → IsUnfitAfter (front ++ x ∷ ends) n → Decided front x n
decided front x ends n fits a = go (splits front (x ∷ ends) a.front a.token a.after a.is)
  where
    at : (rest : List Lexeme) → a.front ≡ front ++ rest → x ∷ ends ≡ rest ++ a.token ∷ a.after → Decided front x n
    at [] is are =
        let here : a.front ≡ front = is ∙ append-nil front in
        inl (
          sym a.counts ∙ ap length here,
          λ b. a.does_not (subst (λ t. Begins (a.front ++ t ∷ [])) (head_is x a.token ends a.after are)
              (subst (λ f. Begins (f ++ x ∷ [])) (sym here) b)),
        )
    at (r ∷ rest) is are =
        let same = head_is x r ends (rest ++ a.token ∷ a.after) are in
        let more : Begins (front ++ r ∷ rest) = subst (λ f. Begins f) is a.fits in
        let one : Begins ((front ++ r ∷ []) ++ rest) = subst (λ f. Begins f) (sym (append_assoc front (r ∷ []) rest)) more in
        inr (
          omega (arith, a.counts, ap length is, longer front (r ∷ rest)),
          subst (λ t. Begins (front ++ t ∷ [])) (sym same) (prefix (front ++ r ∷ []) rest one),
        )

    go : Splits front (x ∷ ends) a.front a.token a.after → Decided front x n
    go (inl (more, is)) =
        let again : Begins ((a.front ++ a.token ∷ []) ++ more) = subst (λ f. Begins f)
        (is ∙ sym (append_assoc a.front (a.token ∷ []) more)) fits in
        absurd (a.does_not (prefix (a.front ++ a.token ∷ []) more again))
    go (inr (rest, is, are)) = at rest is are

-- ---- what that says of all tokens of the kind

kind_again : (x : TokenKind) → kind_of (some_token x) ≡ x
kind_again k.End = refl
kind_again _ = refl

all_fit : (front : List Lexeme) (x : TokenKind) → Begins (front ++ some_token x ∷ []) → Fits front x
all_fit front x a t e = same_kind front (some_token x) t (kind_again x ∙ sym e) a

none_fits : (front : List Lexeme) (x : TokenKind) → (Begins (front ++ some_token x ∷ []) → ⊥) → Misfits front x
none_fits front x never t e a = never (same_kind front t (some_token x) (e ∙ sym (kind_again x)) a)

pub whole_fits : (front : List Lexeme) (x : TokenKind) (p : ProgramTree) → IsProgram (trial_of front x) p
    → Fits front x
whole_fits front x p a =
    all_fit front x (
      end_behind x,
      p,
      subst (λ ts. IsProgram ts p)
          (sym (append_assoc front (some_token x ∷ []) (end_behind x))) a,
    )

pub later_fits : (front : List Lexeme) (x : TokenKind) (n : ℕ) → Begins front → IsUnfitAfter (trial_of front x) n
    → length front < n → Fits front x
later_fits front x n fits a lt = elim (decided front (some_token x) (end_behind x) n fits a) [
  | inl (is, never) ↦ absurd (omega (arith, is, lt))
  | inr (more, b) ↦ all_fit front x b
]

pub there_fits_none : (front : List Lexeme) (x : TokenKind) (n : ℕ) → Begins front
    → IsUnfitAfter (trial_of front x) n → (length front < n → ⊥) → Misfits front x
there_fits_none front x n fits a not_later = elim (decided front (some_token x) (end_behind x) n fits a) [
  | inl (is, never) ↦ none_fits front x never
  | inr (more, b) ↦ absurd (not_later more)
]

-- ---- the clauses, by what was found

pub found_whole : (front : List Lexeme) (x : TokenKind) (ts : List Lexeme) (o : Option ℕ)
    → EndsOnce (front ++ some_token k.End ∷ []) → ts ≡ trial_of front x → o ≡ None
    → (EndsOnce ts → AnswersUnfit ts o) → Fits front x
found_whole front x ts o ends is none h =
    let once : EndsOnce ts = subst (λ us. EndsOnce us) (sym is) (ends_trial front x ends) in
    let p : AnswersUnfit ts None = subst (λ y. AnswersUnfit ts y) none (h once) in
    whole_fits front x p.0 (subst (λ us. IsProgram us p.0) is p.1)

pub found_stop : (front : List Lexeme) (x : TokenKind) (ts : List Lexeme) (count n : ℕ) (o : Option ℕ) → Begins front
    → EndsOnce (front ++ some_token k.End ∷ []) → count ≡ length front → ts ≡ trial_of front x → o ≡ Some n
    → (EndsOnce ts → AnswersUnfit ts o) → AnswersFits front x (nat_lt count n)
found_stop front x ts count n o fits ends counts is some h = go (nat_lt count n) refl
  where
    once : EndsOnce ts
    once = subst (λ us. EndsOnce us) (sym is) (ends_trial front x ends)

    a : IsUnfitAfter (trial_of front x) n
    a = subst (λ us. IsUnfitAfter us n) is (subst (λ y. AnswersUnfit ts y) some (h once))

    go : (b : Bool) → nat_lt count n ≡ b → AnswersFits front x b
    go true e = later_fits front x n fits a (omega (arith, counts, ltb-true count n e))
    go false e = there_fits_none front x n fits a (λ lt. absurd (omega (arith, counts, lt, ltb-false count n e)))

pub lengths : (ts : List Token) → length ts ≡ length (lexemes ts)
lengths [] = refl
lengths (t ∷ ts) = omega (arith, lengths ts)

take_front : (xs ys : List Lexeme) → take (length xs) (xs ++ ys) ≡ xs
take_front [] ys = refl
take_front (x ∷ xs) ys = ap (λ zs. x ∷ zs) (take_front xs ys)

taken_is : (ts front rest : List Lexeme) (n : ℕ) → ts ≡ front ++ rest → length front ≡ n → take n ts ≡ front
taken_is ts front rest n is counts = rw (is, sym counts) (take_front front rest)

-- the tokens before the place
pub front_taken : (ts : List Token) (n : ℕ) (a : IsUnfitAfter (lexemes ts) n) → lexemes (take n ts) ≡ a.front
front_taken ts n a =
    sym (take-map lexeme n ts) ∙ taken_is (lexemes ts) a.front (a.token ∷ a.after) n a.is a.counts

pub unfit_there : (ts : List Token) (n : ℕ) (o : Option ℕ) → EndsOnce (lexemes ts) → o ≡ Some n
    → (EndsOnce (lexemes ts) → AnswersUnfit (lexemes ts) o) → IsUnfitAfter (lexemes ts) n
unfit_there ts n o once some h = subst (λ y. AnswersUnfit (lexemes ts) y) some (h once)

pub begins_there : (ts : List Token) (n : ℕ) → IsUnfitAfter (lexemes ts) n → Begins (lexemes (take n ts))
begins_there ts n a = subst (λ us. Begins us) (sym (front_taken ts n a)) a.fits

pub ends_there : (ts : List Token) (n : ℕ) → IsUnfitAfter (lexemes ts) n → EndsOnce (lexemes ts)
    → EndsOnce (lexemes (take n ts) ++ some_token k.End ∷ [])
ends_there ts n a once =
    subst (λ us. EndsOnce (us ++ some_token k.End ∷ [])) (sym (front_taken ts n a))
    (ends_front a.front a.token a.after (subst (λ us. EndsOnce us) a.is once))
