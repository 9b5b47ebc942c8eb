use Rattle.std.proofs.Common.{ap, sym, ◌∙◌}
use Rattle.zcore.specs.Turn.{StateOfPlay}
use Rattle.machine_frames.specs.Contents.{memory_of}
use Rattle.session.proofs.Views.{view_state}
use Rattle.session_lines.specs.Written.{text_of}
use Rattle.session.specs.Players.{known_of}
use Rattle.session.proofs.session.Session.memory.Goals as goal

pub returns : goal.returns
returns c = λ state.
    let i = c.self.inside in
    c.memory.ensures ∙ ap memory_of c.store.ensures
    ∙ ap (λ (p : StateOfPlay). p.memory)
    (sym (view_state i.keep i.fuel (known_of i.player) i.opening.items i.store.store i.first i.turns.items i.done
    (text_of i.given_up) c.args.self.now state c.self.view_is c.self.invariant.within))
