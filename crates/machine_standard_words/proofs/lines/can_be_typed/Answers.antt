use Rattle.std.proofs.Common.{ap, sym, ◌∙◌}
use Rattle.std.specs.List.{list_all}
use Rattle.std.specs.Str.{chars}
use Rattle.zcore_standard.specs.Input.{is_typed}
use Rattle.machine_standard_words.proofs.Texts.{can_text, cannot}
use Rattle.machine_standard_words.proofs.lines.can_be_typed.Goals as goal

pub returns-in-Ok : goal.returns-in-Ok
returns-in-Ok c =
    let p = c.in-Ok.ensures.cases in
    c.are_typed.ensures ∙ ap (λ l. list_all (is_typed c.args.extra.now) (chars l)) p.0
    ∙ sym (can_text c.args.extra.now c.args.line.now p.1)

pub returns-in-Err : goal.returns-in-Err
returns-in-Err c = sym (cannot c.args.extra.now c.args.line.now c.in-Err.ensures.cases.0)
