-- The names of calls, written from the last on.
use Rattle.std.proofs.Common.{◌≡◌, ℕ, zero, suc, ◌+◌, ◌-◌, ◌<◌, ◌≤◌, List, [], ◌∷◌, ◌++◌, Option, map, length, get_or, take}
use Rattle.std.proofs.Common.{refl, ap, sym, ◌∙◌, arith, append_assoc}
use Rattle.std.specs.List.{flat_map}
use Rattle.std.proofs.lemmas.List.{map-append, reverse-append}
use Rattle.syntax_lexer.specs.declared.token.Position.{Position}
use Rattle.syntax_lexer.specs.Token.{Lexeme}
use Rattle.derive_tokens.specs.declared.piece.Piece.{Piece}
use Rattle.derive_statements.specs.Views.{token_of}
use Rattle.derive_expressions.specs.Calls.{head_written, heads_written}
use Rattle.derive_expressions.specs.Heads.{Head}

take_push : {X : Type 0} (xs : List X) (n : ℕ) (d : X) → n < length xs
    → take (n + 1) xs ≡ take n xs ++ get_or xs n d ∷ []
take_push [] n d lt = absurd (omega arith)
take_push (x ∷ xs) zero d lt = refl
take_push (x ∷ xs) (suc n) d lt =
    let more : suc n + 1 ≡ suc (n + 1) = omega arith in
    ap (λ k. take k (x ∷ xs)) more ∙ ap (λ ys. x ∷ ys) (take_push xs n d (omega arith))

-- one more, which is written first
written_push : (messages : List (List ℕ)) (p : Position) (hs : List Head) (h : Head)
    → heads_written messages p (hs ++ h ∷ []) ≡ head_written messages p h ++ heads_written messages p hs
written_push messages p hs h = ap (flat_map (head_written messages p)) (reverse-append hs (h ∷ []))

written_last : (messages : List (List ℕ)) (p : Position) (heads : List (Option Piece)) (at : ℕ) (d : Option Piece)
    → 0 < at → at ≤ length heads
    → heads_written messages p (map token_of (take at heads))
    ≡ head_written messages p (token_of (get_or heads (at - 1) d))
    ++ heads_written messages p (map token_of (take (at - 1) heads))
written_last messages p heads at d some le =
    let more : at ≡ at - 1 + 1 = omega (arith, some) in
    ap (λ k. heads_written messages p (map token_of (take k heads))) more
    ∙ ap (λ (hs : List (Option Piece)). heads_written messages p (map token_of hs))
    (take_push heads (at - 1) d (omega (arith, some, le)))
    ∙ ap (heads_written messages p) (map-append token_of (take (at - 1) heads) (get_or heads (at - 1) d ∷ []))
    ∙ written_push messages p (map token_of (take (at - 1) heads)) (token_of (get_or heads (at - 1) d))

-- after what is put before
pub put_last : (before : List Lexeme) (messages : List (List ℕ)) (p : Position) (heads : List (Option Piece)) (at : ℕ)
    (d : Option Piece) → 0 < at → at ≤ length heads
    → (before ++ head_written messages p (token_of (get_or heads (at - 1) d)))
    ++ heads_written messages p (map token_of (take (at - 1) heads))
    ≡ before ++ heads_written messages p (map token_of (take at heads))
put_last before messages p heads at d some le =
    append_assoc before (head_written messages p (token_of (get_or heads (at - 1) d)))
    (heads_written messages p (map token_of (take (at - 1) heads)))
    ∙ ap (λ (ts : List Lexeme). before ++ ts) (sym (written_last messages p heads at d some le))
