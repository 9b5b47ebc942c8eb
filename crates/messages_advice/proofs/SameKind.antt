-- What the machine of tokens does at a token is the same for each token of its kind.
use Rattle.std.proofs.Common.{◌≡◌, ℕ, suc, Bool, false, List, [], ◌∷◌, ◌++◌, length, Option, Some, None, Ok, refl}
use Rattle.std.proofs.Common.{sym, ap, subst, ◌∙◌, append_assoc, arith}
use Rattle.syntax_lexer.specs.declared.token.Position.{Position}
use Rattle.syntax_lexer.specs.declared.token.Sign.{Sign}
use Rattle.syntax_lexer.specs.declared.token.Sign.TheVariants as s
use Rattle.syntax_lexer.specs.declared.token.Word.{Word}
use Rattle.syntax_lexer.specs.declared.token.Word.TheVariants as w
use Rattle.syntax_lexer.specs.Token.{Lexeme, reserved, sign}
use Rattle.syntax.proofs.Frames.{Frame, token, Stack}
use Rattle.syntax.proofs.Machine.{on, effect, shift, go_on, stop, file}
use Rattle.syntax.proofs.StackWords.{Fits}
use Rattle.syntax.proofs.Kept.{kept, file_fits}
use Rattle.syntax.specs.Grammar.{IsProgram, program_nesting}
use Rattle.syntax.specs.Parse.{program}
use Rattle.syntax.specs.Places.{Begins}
use Rattle.syntax.proofs.Complete.{within}
use Rattle.syntax.proofs.EntriesFollow.{program_taken}
use Rattle.syntax.proofs.FirstUnfit.{begins, begins_none}
use Rattle.messages_advice.specs.Kinds.{kind_of, nowhere, some_token}

-- ---- one frame

abbrev Same : Lexeme → Lexeme → Type 0
Same t u = (f : Frame) (b : Bool) (k : Stack) (o : Option Stack) → on f b t k o ≡ on f b u k o

same_sign : (s : Sign) (p : Position) → Same (sign s p) (sign s nowhere)
same_sign s.Plus p (token x) b k o = refl
same_sign _ p (token x) b k o = refl
same_sign _ p _ b k o = refl

same_word : (w : Word) (p : Position) → Same (reserved w p) (reserved w nowhere)
same_word w.True p (token x) b k o = refl
same_word _ p (token x) b k o = refl
same_word _ p _ b k o = refl

same_plain : (t : Lexeme) → Same t (some_token (kind_of t))
same_plain (reserved w p) f b k o = same_word w p f b k o
same_plain (sign s p) f b k o = same_sign s p f b k o
same_plain _ (token x) b k o = refl
same_plain _ _ b k o = refl

-- ---- a stack

shift_plain : (k : Stack) (b : Bool) (t : Lexeme) → shift b k t ≡ shift b k (some_token (kind_of t))
unfolding shift
shift_plain [] b t = refl
shift_plain (f ∷ k) b t =
    same_plain t f b k (shift (effect f b) k t)
    ∙ ap (λ o. on f b (some_token (kind_of t)) k o) (shift_plain k (effect f b) t)

same_shift : (k : Stack) (t u : Lexeme) → kind_of t ≡ kind_of u → shift false k t ≡ shift false k u
same_shift k t u e =
    shift_plain k false t ∙ ap (λ x. shift false k (some_token x)) e ∙ sym (shift_plain k false u)

-- ---- the stack behind tokens with which some program begins

record Behind (k : Stack) (front : List Lexeme) : Type 0 where
  stack : Stack
  fits : Fits false stack
  goes_on : (vs : List Lexeme) → stop false k (front ++ vs) ≡ stop false stack vs

one_more : (k j : Stack) (t : Lexeme) (front : List Lexeme) → shift false k t ≡ Some j → Behind j front
    → Behind k (t ∷ front)
unfolding stop
one_more k j t front a h =
    record { stack = h.stack; fits = h.fits; goes_on = λ vs. rw a (h.goes_on vs) }

reached : (front back : List Lexeme) (k : Stack) → Fits false k → stop false k (front ++ back) ≡ None → Behind k front
unfolding stop
reached [] back k h e = record { stack = k; fits = h; goes_on = λ vs. refl }
reached (t ∷ front) back k h e = go (λ j. reached front back j) (shift false k t) refl e
  where
    go : ((j : Stack) → Fits false j → stop false j (front ++ back) ≡ None → Behind j front) → (o : Option Stack)
        → shift false k t ≡ o
        → go_on (λ j. stop false j (front ++ back)) (suc (length (front ++ back))) o ≡ None → Behind k (t ∷ front)
    go again None a e = absurd cc
    go again (Some j) a e = one_more k j t front a (again j (kept false false k j t a h) e)

after : (front : List Lexeme) → Begins front → Behind file front
after front a =
    let read : program (program_nesting a.1) (front ++ a.0) ≡ Ok a.1 = within (program_nesting a.1) a.2 (omega arith) in
    reached front a.0 file file_fits (program_taken (program_nesting a.1) (front ++ a.0) a.1 read)

steps : (k j : Stack) (t : Lexeme) (vs : List Lexeme) → shift false k t ≡ Some j
    → stop false k (t ∷ vs) ≡ stop false j vs
unfolding stop
steps k j t vs e = rw e refl

begins_with : (front : List Lexeme) (h : Behind file front) (t : Lexeme) (j : Stack) → shift false h.stack t ≡ Some j
    → Begins (front ++ t ∷ [])
begins_with front h t j e =
    begins (front ++ t ∷ []) j (kept false false h.stack j t e h.fits)
    (λ vs. ap (λ us. stop false file us) (append_assoc front (t ∷ []) vs) ∙ h.goes_on (t ∷ vs)
    ∙ steps h.stack j t vs e)

-- ---- tokens of one kind

pub prefix : (xs ys : List Lexeme) → Begins (xs ++ ys) → Begins xs
prefix xs ys a = (ys ++ a.0, a.1, subst (λ ts. IsProgram ts a.1) (append_assoc xs ys a.0) a.2)

pub same_kind : (front : List Lexeme) (t u : Lexeme) → kind_of t ≡ kind_of u → Begins (front ++ t ∷ [])
    → Begins (front ++ u ∷ [])
same_kind front t u e a =
    let h = after front (prefix front (t ∷ []) a) in
    go h (shift false h.stack u) refl
  where
    go : (h : Behind file front) → (o : Option Stack) → shift false h.stack u ≡ o → Begins (front ++ u ∷ [])
    go h (Some j) q = begins_with front h u j q
    go h None q = absurd (begins_none front h.stack t (same_shift h.stack t u e ∙ q) h.goes_on a)
