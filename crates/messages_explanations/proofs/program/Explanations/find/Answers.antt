use Rattle.std.proofs.Common.{◌++◌, sym, ◌∙◌}
use Rattle.messages_explanations.specs.Names.{is_named}
use Rattle.messages_explanations.proofs.Tables.{found_before, found_behind}
use Rattle.messages_explanations.proofs.program.Explanations.find.Goals as goal

pub returns-in-Some-clause-first : goal.returns-in-Some-clause-first
returns-in-Some-clause-first c =
    let e = c.args.self in
    found_before (is_named c.args.name.now) e.first.now (e.second.now ++ e.third.now) c.in-Some.found.now
    c.in-Some.ensures.first

pub returns-in-Some-find_in-clause-first : goal.returns-in-Some-find_in-clause-first
returns-in-Some-find_in-clause-first c =
    let e = c.args.self in
    let p = is_named c.args.name.now in
    found_before p e.second.now e.third.now c.in-Some-find_in.found.now c.in-Some-find_in.ensures.first
    ∙ sym (found_behind p e.first.now (e.second.now ++ e.third.now) c.in_default.ensures.first)

pub returns-clause-first : goal.returns-clause-first
returns-clause-first c =
    let e = c.args.self in
    let p = is_named c.args.name.now in
    c.find_in-3.ensures.first
    ∙ sym (found_behind p e.second.now e.third.now c.in_default-find_in.ensures.first)
    ∙ sym (found_behind p e.first.now (e.second.now ++ e.third.now) c.in_default.ensures.first)
