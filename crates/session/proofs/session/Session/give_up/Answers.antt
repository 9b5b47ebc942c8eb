use Rattle.std.proofs.Common.{◌∙◌, arith}
use Rattle.session.proofs.Views.{counted, view_keep}
use Rattle.session.proofs.Sessions.{bound_none, bound_over, bound_under}
use Rattle.session_lines.specs.Written.{text_of}
use Rattle.session.specs.Players.{known_of}
use Rattle.session.proofs.session.Session.give_up.Goals as goal

pub give_up_oldest-requires : goal.give_up_oldest-requires
give_up_oldest-requires c =
    let i = c.self.inside in
    let n = counted i.keep i.fuel (known_of i.player) i.opening.items i.store.store i.first i.turns.items i.done
    (text_of i.given_up) c.args.self.now c.self.view_is in
    omega (arith, n.present, c.if-self-most.true)

pub returns-then-self-most : goal.returns-then-self-most
returns-then-self-most c =
    let i = c.self.inside in
    let n = counted i.keep i.fuel (known_of i.player) i.opening.items i.store.store i.first i.turns.items i.done
    (text_of i.given_up) c.args.self.now c.self.view_is in
    let keep = view_keep i.keep i.fuel (known_of i.player) i.opening.items i.store.store i.first i.turns.items i.done
    (text_of i.given_up) c.args.self.now c.self.view_is in
    c.give_up_oldest.ensures ∙ bound_over c.args.self.now c.in-Some.most (keep ∙ c.in-Some.is)
    (omega (arith, n.present, c.if-self-most.true))

pub returns-else-self-most : goal.returns-else-self-most
returns-else-self-most c =
    let i = c.self.inside in
    let n = counted i.keep i.fuel (known_of i.player) i.opening.items i.store.store i.first i.turns.items i.done
    (text_of i.given_up) c.args.self.now c.self.view_is in
    let keep = view_keep i.keep i.fuel (known_of i.player) i.opening.items i.store.store i.first i.turns.items i.done
    (text_of i.given_up) c.args.self.now c.self.view_is in
    bound_under c.args.self.now c.in-Some.most (keep ∙ c.in-Some.is) (omega (arith, n.present, c.if-self-most.false))

pub returns-in-None : goal.returns-in-None
returns-in-None c =
    let i = c.self.inside in
    let keep = view_keep i.keep i.fuel (known_of i.player) i.opening.items i.store.store i.first i.turns.items i.done
    (text_of i.given_up) c.args.self.now c.self.view_is in
    bound_none c.args.self.now (keep ∙ c.in-None.is)
