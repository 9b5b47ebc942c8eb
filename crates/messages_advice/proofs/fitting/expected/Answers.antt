use Rattle.std.proofs.Common.{subst}
use Rattle.syntax_lexer.specs.Token.{lexemes}
use Rattle.syntax.specs.Places.{IsUnfitAfter}
use Rattle.messages_advice.specs.Kinds.{all_kinds}
use Rattle.messages_advice.specs.Listed.{AreTried}
use Rattle.messages_advice.proofs.Trial.{unfit_there, begins_there, ends_there, front_taken}
use Rattle.messages_advice.proofs.Tried.{expected_are}
use Rattle.messages_advice.proofs.fitting.expected.Goals as goal

pub fitting-requires-clause-begins : goal.fitting-requires-clause-begins
fitting-requires-clause-begins c =
    begins_there c.args.tokens.now c.in-Some.at
    (unfit_there c.args.tokens.now c.in-Some.at c.in_ok-at.field-0 c.requires c.in-Some.is c.in_ok-at.ensures)

pub fitting-requires-clause-ends : goal.fitting-requires-clause-ends
fitting-requires-clause-ends c =
    ends_there c.args.tokens.now c.in-Some.at
    (unfit_there c.args.tokens.now c.in-Some.at c.in_ok-at.field-0 c.requires c.in-Some.is c.in_ok-at.ensures) c.requires

pub returns : goal.returns
returns c =
    let a : IsUnfitAfter (lexemes c.args.tokens.now) c.in-Some.at =
    unfit_there c.args.tokens.now c.in-Some.at c.in_ok-at.field-0 c.requires c.in-Some.is c.in_ok-at.ensures in
    expected_are (lexemes c.args.tokens.now) c.in-Some.at c.in_ok-found.found.items a
    (subst (λ f. AreTried f all_kinds c.in_ok-found.found.items) (front_taken c.args.tokens.now c.in-Some.at a)
    c.in_ok-found.ensures)
