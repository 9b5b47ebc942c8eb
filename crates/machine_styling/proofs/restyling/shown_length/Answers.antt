use Rattle.std.proofs.Common.{ap, arith, length, sym, List, ◌∙◌}
use Rattle.zcore_standard.specs.Streams.{heard}
use Rattle.zcore_standard.specs.Windows.{lower}
use Rattle.zcore_standard.specs.declared.streams.Stream.{Stream}
use Rattle.machine_styling.proofs.Stepping.{heard_long, heard_shown}
use Rattle.machine_styling.proofs.restyling.shown_length.Goals as goal

pub returns-in-None : goal.returns-in-None
returns-in-None c next text e =
    heard_long c.heard_length-heard.result text (heard c.args.turn.now.streams.items text)
    (omega (arith, e, c.heard_length-heard.ensures.within))
    (c.heard_length-heard.ensures.heard text e ∙ ap (λ (l : List Stream). heard l text) c.as_slice.ensures.value)
    ∙ ap (λ u. length (lower u (heard c.args.turn.now.streams.items text))) (sym c.in-None.is)

pub returns-in-Some : goal.returns-in-Some
returns-in-Some c next text e =
    c.min.ensures
    ∙ heard_shown _ c.heard_length-heard.result text (heard c.args.turn.now.streams.items text)
    (omega (arith, e, c.heard_length-heard.ensures.within))
    (c.heard_length-heard.ensures.heard text e ∙ ap (λ (l : List Stream). heard l text) c.as_slice.ensures.value)
    ∙ ap (λ u. length (lower u (heard c.args.turn.now.streams.items text))) (sym c.in-Some.is)
