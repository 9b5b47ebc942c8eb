use Rattle.machine_standard_saves.proofs.Answering.{by_branch, by_extended, by_result}
use Rattle.machine_standard_saves.proofs.answers.give_answer.Goals as goal

pub returns-in-Branch : goal.returns-in-Branch
returns-in-Branch c =
    by_branch c.give_branch.result c.args.request.form c.args.request.place c.args.word c.args.request.fuel
    c.in-Branch.is c.give_branch.ensures

pub returns-in-Result : goal.returns-in-Result
returns-in-Result c =
    by_result c.give_result.result c.args.request.form c.args.request.place c.args.word c.args.request.fuel
    c.in-Result.is c.give_result.ensures

pub returns-in-Extended : goal.returns-in-Extended
returns-in-Extended c =
    by_extended c.give_result-in-Extended.result c.args.request.form c.args.request.place c.args.word
    c.args.request.fuel c.in-Extended.is c.give_result-in-Extended.ensures
