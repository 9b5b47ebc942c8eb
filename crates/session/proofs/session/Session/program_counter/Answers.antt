use Rattle.std.proofs.Common.{ap, sym, ◌∙◌}
use Rattle.zcore.specs.Turn.{StateOfPlay}
use Rattle.session.proofs.Insides.{ready_now}
use Rattle.session.proofs.Views.{view_state}
use Rattle.session_lines.specs.Written.{text_of}
use Rattle.session.specs.Players.{known_of}
use Rattle.session.proofs.session.Session.program_counter.Goals as goal

pub program_counter-requires : goal.program_counter-requires
program_counter-requires c =
    let i = c.self.inside in
    (ready_now (known_of i.player) i.store i.first i.turns.items i.done c.self.invariant).store.sound

pub returns : goal.returns
returns c = λ state.
    let i = c.self.inside in
    c.program_counter.ensures
    ∙ ap (λ (p : StateOfPlay). p.program_counter)
    (sym (view_state i.keep i.fuel (known_of i.player) i.opening.items i.store.store i.first i.turns.items i.done
    (text_of i.given_up) c.args.self.now state c.self.view_is c.self.invariant.within))
