use Rattle.std.proofs.Common.{ap, length, take, ◌∙◌, ℕ}
use Rattle.zcore_standard.specs.Streams.{heard_of}
use Rattle.machine_standard_windows.specs.TurnState.{place}
use Rattle.machine_picture.specs.Represented.{styles_of}
use Rattle.machine_picture.specs.Styles.{Styles}
use Rattle.machine_styling.proofs.restyling.stop_at_once.Goals as goal

pub returns : goal.returns
returns c next text e =
    c.cut.ensures
    ∙ ap (λ (n : ℕ). record (styles_of c.become_as_long.new.self) { each = take n (styles_of c.become_as_long.new.self).each })
    (c.shown_length.ensures next text e)
    ∙ ap (λ (p : Styles). record p { each = take (length (heard_of (place c.args.turn.now next) text)) p.each })
    c.in_ok-become_as_long.ensures
