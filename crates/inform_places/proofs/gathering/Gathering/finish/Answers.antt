use Rattle.std.proofs.Common.{◌≡◌, length, arith}
use Rattle.inform_places.proofs.Sources.{finishes, finishes_alone}
use Rattle.inform_places.proofs.gathering.Gathering.finish.Goals as goal

pub returns-then-len-eq1-clause-source : goal.returns-then-len-eq1-clause-source
returns-then-len-eq1-clause-source c =
    let files = c.args.self.written in
    finishes_alone c.of_one.result files c.of_one.ensures.files c.of_one.ensures.alone
    (omega (arith, files.ok.0, c.len.ensures, c.if-len-eq1.true))

pub returns-clause-source : goal.returns-clause-source
returns-clause-source c =
    let files = c.args.self.written in
    finishes c.of_parts.result c.args.self c.requires.gathered c.requires.all_there
    (λ one. c.if-len-eq1.false (omega (arith, files.ok.0, c.len.ensures, one)))
    c.of_parts.ensures.files c.of_parts.ensures.source
