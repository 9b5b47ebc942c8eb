use Rattle.std.proofs.Common.{◌∙◌, ap, None, option_map, refl}
use Rattle.map_text.specs.Text.{row_of}
use Rattle.map_text.specs.Reading.{number_in}
use Rattle.map_text.proofs.Lines.{no_rest, none_is, row_is}
use Rattle.map_text.proofs.reading.row_in.Goals as goal

pub returns-in_err-digits : goal.returns-in_err-digits
returns-in_err-digits c =
    ap (option_map row_of) c.from_residual.ensures ∙ no_rest c.args.line.now c.in_err-digits.ensures.none

pub returns-in_err-routine : goal.returns-in_err-routine
returns-in_err-routine c =
    ap (option_map row_of) c.from_residual-in_err-routine.ensures
    ∙ none_is c.args.line.now _ c.in_ok-digits.ensures.back c.in_err-routine.ensures.none

pub returns-in_err-address : goal.returns-in_err-address
returns-in_err-address c =
    ap (option_map row_of) c.from_residual-in_err-address.ensures
    ∙ row_is c.args.line.now _ _ _ _ None (number_in c.in_ok-routine.number.now) c.in_ok-digits.ensures.front
    c.in_ok-digits.ensures.back c.in_ok-routine.ensures.front c.in_ok-routine.ensures.back c.in_err-address.ensures refl

pub returns-in_err-line : goal.returns-in_err-line
returns-in_err-line c =
    ap (option_map row_of) c.from_residual-in_err-line.ensures
    ∙ row_is c.args.line.now _ _ _ _ _ None c.in_ok-digits.ensures.front c.in_ok-digits.ensures.back
    c.in_ok-routine.ensures.front c.in_ok-routine.ensures.back c.in_ok-address.ensures c.in_err-line.ensures

pub returns : goal.returns
returns c =
    row_is c.args.line.now _ _ _ _ _ _ c.in_ok-digits.ensures.front c.in_ok-digits.ensures.back
    c.in_ok-routine.ensures.front c.in_ok-routine.ensures.back c.in_ok-address.ensures c.in_ok-line.ensures
