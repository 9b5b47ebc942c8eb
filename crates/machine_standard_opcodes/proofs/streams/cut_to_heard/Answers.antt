use Rattle.std.proofs.Common.{ap, ◌∙◌, drop}
use Rattle.zcore_standard.specs.Windows.{lower}
use Rattle.zcore_standard.specs.Streams.{heard}
use Rattle.machine_standard_windows.proofs.TurnTexts.{keeps_after, keeps_begun}
use Rattle.machine_standard_opcodes.proofs.streams.cut_to_heard.Goals as goal

pub drop_upper-requires : goal.drop_upper-requires
drop_upper-requires c = keeps_begun c.cut_streams.ensures.text

pub returns-clause-heard : goal.returns-clause-heard
returns-clause-heard c = λ next. c.drop_upper.ensures.lower ∙ ap (lower c.args.turn.now.upper)
    (c.cut_streams.ensures.heard
    ∙ ap (λ l. heard l (drop c.args.start c.args.text.now.items)) c.as_slice.ensures.value)

pub returns-clause-text : goal.returns-clause-text
returns-clause-text c = keeps_after c.cut_streams.ensures.text c.drop_upper.ensures.text
