use Rattle.std.proofs.Common.{ap}
use Rattle.syntax_lexer.specs.Token.{lexemes}
use Rattle.syntax_lexer.specs.declared.fault.PlacedFault.{PlacedFault}
use Rattle.syntax.proofs.Main.{found, ok_only, err_only, err_grammar, err_deep, err_numbers}
use Rattle.syntax.proofs.Placing.{err_place, err_deep_place}
use Rattle.syntax.proofs.program.parse_placed.Goals as goal

pub returns-in-Err-clause-only : goal.returns-in-Err-clause-only
returns-in-Err-clause-only c = λ q a le.
    err_only c.in-Err.e c.placed.result.fault (lexemes c.args.tokens.now) c.in-Err.ensures
    (ap (λ (x : PlacedFault). x.fault) c.placed.ensures) q a le

pub returns-in-Err-clause-grammar : goal.returns-in-Err-clause-grammar
returns-in-Err-clause-grammar c =
    err_grammar c.in-Err.e c.placed.result.fault (lexemes c.args.tokens.now) c.in-Err.ensures
    (ap (λ (x : PlacedFault). x.fault) c.placed.ensures)

pub returns-in-Err-clause-place : goal.returns-in-Err-clause-place
returns-in-Err-clause-place c =
    err_place c.in-Err.e c.placed.result (lexemes c.args.tokens.now) c.in-Err.ensures c.placed.ensures

pub returns-in-Err-clause-deep : goal.returns-in-Err-clause-deep
returns-in-Err-clause-deep c =
    err_deep c.in-Err.e c.placed.result.fault (lexemes c.args.tokens.now) c.in-Err.ensures
    (ap (λ (x : PlacedFault). x.fault) c.placed.ensures)

pub returns-in-Err-clause-deep_place : goal.returns-in-Err-clause-deep_place
returns-in-Err-clause-deep_place c =
    err_deep_place c.in-Err.e c.placed.result (lexemes c.args.tokens.now) c.in-Err.ensures c.placed.ensures

pub returns-in-Err-clause-numbers : goal.returns-in-Err-clause-numbers
returns-in-Err-clause-numbers c =
    err_numbers c.in-Err.e c.placed.result (lexemes c.args.tokens.now) c.placed.ensures

pub returns-in-Ok-clause-found : goal.returns-in-Ok-clause-found
returns-in-Ok-clause-found c = found 100 (lexemes c.args.tokens.now) _ c.in-Ok.ensures

pub returns-in-Ok-clause-only : goal.returns-in-Ok-clause-only
returns-in-Ok-clause-only c = λ q a le. ok_only c.in-Ok.found (lexemes c.args.tokens.now) c.in-Ok.ensures q a le
