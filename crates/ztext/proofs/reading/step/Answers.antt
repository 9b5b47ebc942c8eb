use Rattle.ztext.proofs.Loops.{printed_in}
use Rattle.ztext.proofs.reading.step.Goals as goal

pub returns-in-Lower-clause-prints : goal.returns-in-Lower-clause-prints
returns-in-Lower-clause-prints c =
    printed_in c.args.state.now _ c.args.z c.step_from.result c.in-Lower.is
    c.step_from.ensures.prints

pub returns-in-Upper-clause-prints : goal.returns-in-Upper-clause-prints
returns-in-Upper-clause-prints c =
    printed_in c.args.state.now _ c.args.z c.step_from-in-Upper.result c.in-Upper.is
    c.step_from-in-Upper.ensures.prints

pub returns-in-Punctuation-clause-prints : goal.returns-in-Punctuation-clause-prints
returns-in-Punctuation-clause-prints c =
    printed_in c.args.state.now _ c.args.z c.step_from-in-Punctuation.result c.in-Punctuation.is
    c.step_from-in-Punctuation.ensures.prints

pub returns-in-EscapeHigh-clause-prints : goal.returns-in-EscapeHigh-clause-prints
returns-in-EscapeHigh-clause-prints c =
    printed_in c.args.state.now _ c.args.z c.step_from-in-EscapeHigh.result c.in-EscapeHigh.is
    c.step_from-in-EscapeHigh.ensures.prints

pub returns-in-EscapeLow-clause-prints : goal.returns-in-EscapeLow-clause-prints
returns-in-EscapeLow-clause-prints c =
    printed_in c.args.state.now _ c.args.z c.step_from-in-EscapeLow.result c.in-EscapeLow.is
    c.step_from-in-EscapeLow.ensures.prints

pub returns-in-Abbreviated-clause-prints : goal.returns-in-Abbreviated-clause-prints
returns-in-Abbreviated-clause-prints c =
    printed_in c.args.state.now _ c.args.z c.step_from-in-Abbreviated.result c.in-Abbreviated.is
    c.step_from-in-Abbreviated.ensures.prints
