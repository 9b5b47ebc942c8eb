use Rattle.std.proofs.Common.{◌≡◌, ◌∙◌, ℕ, Bool, true, List, [], ◌∷◌, Ok, drop, ap, sym, subst, if◌then◌else◌}
use Rattle.std.specs.Prelude.{codes}
use Rattle.std.specs.Str.{bytes_eq}
use Rattle.std.proofs.lemmas.List.{drop-map}
use Rattle.syntax_lexer.specs.declared.token.Position.{Position}
use Rattle.syntax_lexer.specs.Token.{Lexeme, name}
use Rattle.derive_tokens.specs.declared.piece.Piece.{Piece}
use Rattle.derive_tokens.specs.Pieces.{derived, derived_all}
use Rattle.derive_tokens.specs.Tokens.{Outcome}
use Rattle.derive_expressions.specs.Calls.{arguments_in, function_as, random_as}
use Rattle.derive_expressions.specs.Views.{PutsAll}
use Rattle.derive_expressions.proofs.calls.put_function.Goals as goal

random_called : (n routine : List ℕ) (p : Position) (rest : List Lexeme) (count : ℕ)
    → bytes_eq n (codes "random") ≡ true → count ≡ arguments_in (drop 1 rest)
    → random_as p count ≡ function_as n routine p rest
random_called n routine p rest count random counted =
    ap (random_as p) counted
    ∙ ap (λ (b : Bool). if b then random_as p (arguments_in (drop 1 rest)) else Ok (name routine p ∷ [])) (sym random)

-- src/calls.rt: `random`
pub returns-then-eq : goal.returns-then-eq
returns-then-eq c =
    let rest : List Piece = c.args.rest.now in
    let random : bytes_eq c.args.name.now (codes "random") ≡ true =
    ap (bytes_eq c.args.name.now) (sym c.as_slice.ensures) ∙ sym c.eq.ensures ∙ c.if-eq.true in
    let counted : c.arguments_in.result ≡ arguments_in (drop 1 (derived_all rest)) =
    c.arguments_in.ensures ∙ ap (λ (xs : List Piece). arguments_in (derived_all xs)) c.after.ensures.value
    ∙ ap arguments_in (sym (drop-map derived 1 rest)) in
    subst
    (λ (o : Outcome).
    PutsAll c.put_random.result (derived_all c.args.out.now.items) (derived_all c.put_random.new.out.items) o)
    (random_called c.args.name.now c.args.routine.now c.args.position (derived_all rest) c.arguments_in.result random
    counted) c.put_random.ensures
