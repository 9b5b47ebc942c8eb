use Rattle.map_text.proofs.Digits.{no_text, number_parsed, number_refused}
use Rattle.map_text.proofs.reading.number_in.Goals as goal

pub returns-in_default : goal.returns-in_default
returns-in_default c = no_text c.args.digits.now c.in_default.ensures.cases.0

pub returns-in-Ok-parse : goal.returns-in-Ok-parse
returns-in-Ok-parse c =
    number_parsed _ c.args.digits.now c.parse.result _ c.in-Ok.ensures.cases.0 c.parse.ensures.value.0 c.in-Ok-parse.is

pub returns-in-Err : goal.returns-in-Err
returns-in-Err c =
    number_refused _ c.args.digits.now c.parse.result _ c.in-Ok.ensures.cases.0 c.parse.ensures.value.0 c.in-Err.is
