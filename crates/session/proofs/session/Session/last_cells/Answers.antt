use Rattle.std.proofs.Common.{◌-◌, ◌<◌, ◌≤◌, ◌∙◌, arith, length}
use Rattle.session.specs.Session.{largest_record}
use Rattle.session.proofs.Insides.{turn_fits}
use Rattle.session.proofs.Views.{counted, turn_size, header_base}
use Rattle.session.proofs.Sessions.{size_none, size_some}
use Rattle.session_lines.specs.Written.{text_of}
use Rattle.session.specs.Players.{known_of}
use Rattle.session.proofs.session.Session.last_cells.Goals as goal

pub returns-then-self-eq0-clause-cells : goal.returns-then-self-eq0-clause-cells
returns-then-self-eq0-clause-cells c =
    let i = c.self.inside in
    let n = counted i.keep i.fuel (known_of i.player) i.opening.items i.store.store i.first i.turns.items i.done
    (text_of i.given_up) c.args.self.now c.self.view_is in
    size_none c.args.self.now (omega (arith, n.present, c.if-self-eq0.true))

pub returns-else-self-eq0-clause-cells : goal.returns-else-self-eq0-clause-cells
returns-else-self-eq0-clause-cells c =
    let i = c.self.inside in
    let n = counted i.keep i.fuel (known_of i.player) i.opening.items i.store.store i.first i.turns.items i.done
    (text_of i.given_up) c.args.self.now c.self.view_is in
    let here : i.done - 1 < length i.turns.items = omega (arith, c.self.invariant.within) in
    c.cells.ensures
    ∙ turn_size i.keep i.fuel (known_of i.player) i.opening.items i.store.store i.first i.turns.items i.done
    (text_of i.given_up) c.args.self.now (i.done - 1) c.index.result.now c.self.view_is here c.index.ensures
    ∙ size_some c.args.self.now (i.done - 1) (omega (arith, n.present))

pub returns-else-self-eq0-clause-most : goal.returns-else-self-eq0-clause-most
returns-else-self-eq0-clause-most c =
    let i = c.self.inside in
    let here : i.done - 1 < length i.turns.items = omega (arith, c.self.invariant.within) in
    let small = turn_fits (λ r. length r ≤ largest_record (known_of i.player).header.static_base) i.turns.items (i.done - 1)
    c.index.result.now here c.index.ensures c.self.invariant.small in
    let base = header_base i.keep i.fuel (known_of i.player) i.opening.items i.store.store i.first i.turns.items i.done
    (text_of i.given_up) c.args.self.now c.self.view_is in
    omega (arith, c.cells.ensures, small, base)

pub returns-else-self-eq0-clause-story : goal.returns-else-self-eq0-clause-story
returns-else-self-eq0-clause-story c = λ game s h.
    let i = c.self.inside in
    let n = counted i.keep i.fuel (known_of i.player) i.opening.items i.store.store i.first i.turns.items i.done
    (text_of i.given_up) c.args.self.now c.self.view_is in (
      (λ e. absurd (omega (arith, h.session.present, n.present))),
      omega
          (arith, returns-else-self-eq0-clause-most c, h.session.static_base),
    )
