use Rattle.std.proofs.Common.{◌-◌, ◌<◌, ◌∙◌, ap, subst, sym, arith}
use Rattle.session.specs.Inside.{view_of, IsBetweenTurns}
use Rattle.session.specs.Session.{Session}
use Rattle.session.specs.Stepped.{without_oldest}
use Rattle.session.proofs.Insides.{oldest_view, oldest_between}
use Rattle.session.proofs.Views.{counted}
use Rattle.session.specs.Reached.{Reached}
use Rattle.session_lines.specs.declared.written.Written.{Written}
use Rattle.session_lines.specs.Written.{text_of}
use Rattle.session.specs.Players.{known_of}
use Rattle.session.proofs.session.Session.give_up_oldest.Goals as goal

pub overflow_sub-self : goal.overflow_sub-self
overflow_sub-self c =
    let i = c.self.inside in
    let n = counted i.keep i.fuel (known_of i.player) i.opening.items i.store.store i.first i.turns.items i.done
    (text_of i.given_up) c.args.self.now c.self.view_is in
    omega (arith, n.present, c.requires)

pub invariant_of-self : goal.invariant_of-self
invariant_of-self c =
    let i = c.self.inside in
    let n = counted i.keep i.fuel (known_of i.player) i.opening.items i.store.store i.first i.turns.items i.done
    (text_of i.given_up) c.args.self.now c.self.view_is in
    let some : 0 < i.done = omega (arith, n.present, c.requires) in
    subst (λ (x : Written × Reached). IsBetweenTurns (known_of i.player) i.store x.1 c.pop_front.new.self.items (i.done - 1))
    (sym c.into_parts-written.ensures)
    (oldest_between (known_of i.player) i.store i.first i.turns.items c.pop_front.new.self.items c.in-Some.oldest i.done
    c.in-Some.ensures.items some c.self.invariant)

pub returns-in-Some : goal.returns-in-Some
returns-in-Some c =
    let i = c.self.inside in
    let n = counted i.keep i.fuel (known_of i.player) i.opening.items i.store.store i.first i.turns.items i.done
    (text_of i.given_up) c.args.self.now c.self.view_is in
    let some : 0 < i.done = omega (arith, n.present, c.requires) in
    ap (λ (x : Written × Reached). view_of i.keep i.fuel (known_of i.player) i.opening.items i.store.store x.1
    c.pop_front.new.self.items (i.done - 1) (text_of x.0)) c.into_parts-written.ensures
    ∙ oldest_view i.keep i.fuel (known_of i.player) i.opening.items i.store.store i.first i.turns.items
    c.pop_front.new.self.items c.in-Some.oldest i.done (text_of i.given_up) c.in-Some.ensures.items some
    ∙ ap {A = Session} without_oldest c.self.view_is

pub returns-in_default : goal.returns-in_default
returns-in_default c =
    let i = c.self.inside in
    let n = counted i.keep i.fuel (known_of i.player) i.opening.items i.store.store i.first i.turns.items i.done
    (text_of i.given_up) c.args.self.now c.self.view_is in
    absurd (omega (arith, n.present, c.requires, c.in_default.ensures.cases.0, i.turns.ok.0, c.self.invariant.within))
