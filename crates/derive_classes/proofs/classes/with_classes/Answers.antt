use Rattle.std.proofs.Common.{List, ◌∷◌, ◌++◌, ℕ, ap, sym, ◌∙◌}
use Rattle.syntax_lexer.specs.Token.{Lexeme}
use Rattle.derive_tokens.specs.declared.piece.Piece.{Piece}
use Rattle.derive_tokens.specs.Pieces.{derived_all}
use Rattle.derive_tokens.specs.Held.{names_of}
use Rattle.derive_constants.specs.Cutting.{directives}
use Rattle.derive_classes.specs.declared.classes.Class.{Class}
use Rattle.derive_classes.specs.Classes.{directive, with_classes}
use Rattle.derive_classes.specs.Held.{known_of}
use Rattle.derive_classes.proofs.Programs.{program_step}
use Rattle.derive_classes.proofs.classes.with_classes.Goals as goal

-- src/classes.rt: one directive more
pub loop-rest-preserved : goal.loop-rest-preserved
loop-rest-preserved c =
    let additive : List (List ℕ) = names_of c.in_ok-additive.additive in
    let d : List Lexeme = derived_all c.first_directive-directive.result.now in
    let out : List Lexeme = derived_all c.loop-rest.out.items in
    program_step additive (known_of c.loop-rest.known.items) (known_of c.learn.new.known.items) out
    (derived_all c.put_directive.new.out.items) (with_classes (derived_all c.args.pieces.now)) d
    (directives (derived_all c.loop-rest.rest.now)) (directives (derived_all c.after-rest.result.now))
    (c.in_ok-put_directive.ensures
    ∙ ap (λ (k : List Class). out ++ directive additive (known_of k) d) c.deref.ensures.value)
    c.in_ok-learn.ensures
    (c.first_directive-directive.ensures.cuts
    ∙ ap (λ (ts : List Piece). d ∷ directives (derived_all ts)) (sym c.after-rest.ensures.value))
    c.loop-rest.invariant
