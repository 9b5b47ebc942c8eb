use Rattle.std.proofs.Common.{◌≡◌, ◌+◌, ◌-◌, ◌++◌, ◌∙◌, ℕ, List, drop, take, length, ap, arith}
use Rattle.std.proofs.lemmas.List.{length-drop}
use Rattle.syntax_lexer.specs.Token.{Lexeme}
use Rattle.derive_tokens.specs.declared.piece.Piece.{Piece}
use Rattle.derive_tokens.specs.Pieces.{derived_all}
use Rattle.derive_tokens.specs.Held.{names_of}
use Rattle.derive_statements.specs.FileNames.{FileNames}
use Rattle.derive_statements.specs.Views.{file_names}
use Rattle.derive_expressions.specs.Calls.{after_tokens, called, called_from}
use Rattle.derive_expressions.specs.Roles.{Calling}
use Rattle.derive_expressions.specs.Views.{calling_of}
use Rattle.derive_expressions.proofs.QuietCalls.{called_over}
use Rattle.derive_expressions.proofs.Turns.{call_on, call_stop}
use Rattle.derive_expressions.proofs.calls.called.Goals as goal

-- src/calls.rt: the fault of a token
pub returns-in-Err : goal.returns-in-Err
returns-in-Err c =
    call_stop (file_names c.args.names.now) (names_of c.args.messages.now) (calling_of c.loop-at.calling)
    c.args.pieces.now c.after-rest.result.now c.loop-at.at _ (derived_all c.loop-at.out.items) c.in-Err.fault
    (called (derived_all c.args.pieces.now)) c.loop-at-test.true c.loop-at.invariant.rest c.after-rest.ensures.value
    c.in-Err.ensures

-- statements that stay as they are
pub loop-at-preserved-then-count-gt0 : goal.loop-at-preserved-then-count-gt0
loop-at-preserved-then-count-gt0 c =
    let pieces : List Piece = c.args.pieces.now in
    let old : List Lexeme = derived_all c.loop-at.out.items in
    let count : ℕ = c.quiet_ahead-count.result in
    let left : length c.after.result.now ≡ length pieces - c.loop-at.at =
    ap (λ (ps : List Piece). length ps) c.after.ensures.value ∙ length-drop c.loop-at.at pieces in
    record {
      within = omega (arith, c.quiet_ahead-count.ensures.within, left, c.loop-at.invariant.within);
      few = omega (arith, c.loop-at.invariant.few);
      rest = called_over (file_names c.args.names.now) (names_of c.args.messages.now) (calling_of c.loop-at.calling)
          pieces c.after.result.now old (derived_all c.put_first.new.out.items) c.loop-at.at count
          c.after.ensures.value c.quiet_ahead-count.ensures.value c.if-count-gt0.true
          (c.in_ok-put_first.ensures
          ∙ ap (λ (ps : List Piece). old ++ take count (derived_all ps)) c.after-then-count-gt0.ensures.value)
          ∙ c.loop-at.invariant.rest;
    }

pub loop-at-preserved : goal.loop-at-preserved
loop-at-preserved c =
    let names : FileNames = file_names c.args.names.now in
    let messages : List (List ℕ) = names_of c.args.messages.now in
    let pieces : List Piece = c.args.pieces.now in
    let tail : List Lexeme = derived_all (drop (c.loop-at.at + 1) pieces) in
    record {
      within = omega (arith, c.loop-at-test.true);
      few = omega (arith, c.in_ok-step.ensures.grows, c.loop-at.invariant.few);
      rest = ap (λ (x : Calling). after_tokens (derived_all c.put_now.new.out.items) (called_from names messages x tail))
          c.in_ok-step.ensures.value
          ∙ call_on names messages (calling_of c.loop-at.calling) pieces c.after-rest.result.now c.loop-at.at _
          (derived_all c.loop-at.out.items) (derived_all c.put_now.new.out.items) (called (derived_all pieces))
          c.loop-at-test.true c.loop-at.invariant.rest c.after-rest.ensures.value c.in-Ok.ensures;
    }
