use Rattle.std.proofs.Common.{◌≡◌, ℕ, ◌+◌, ◌-◌, ◌<◌, ap, sym, ◌∙◌, arith, subst, length, refl}
use Rattle.journal.specs.Swap.{Fits}
use Rattle.machine_frames.specs.Contents.{bound_of}
use Rattle.session.specs.Session.{Session}
use Rattle.session.specs.Game.{Game, IsSessionOf, bytes_of, play_on}
use Rattle.session_lines.specs.Standing.{Standing, redo_of}
use Rattle.session.proofs.Insides.{turn_fits, StandsAt, redo_view, redo_between, redone_text}
use Rattle.session.proofs.Views.{counted, turn_text}
use Rattle.session.proofs.Games.{game_redo}
use Rattle.session.proofs.Sessions.{forward_none, forward_some, session_undone, session_again}
use Rattle.session_lines.specs.Written.{text_of}
use Rattle.session.specs.Players.{known_of}
use Rattle.session.proofs.session.Session.redo.Goals as goal

pub returns-then-self-len : goal.returns-then-self-len
returns-then-self-len c =
    let i = c.self.inside in
    let n = counted i.keep i.fuel (known_of i.player) i.opening.items i.store.store i.first i.turns.items i.done
    (text_of i.given_up) c.args.self.now c.self.view_is in
    let all : length i.turns.items ≡ i.done = omega (arith, i.turns.ok.0, c.len.ensures, c.if-self-len.true) in
    let same = c.self.view_is ∙ forward_none c.args.self.now (omega (arith, all, n.present, n.size)) in (
      (
        refl,
        (λ _. tt),
        record {
          stepped = same;
          stands = λ game s h. subst (IsSessionOf game (redo_of s))
              (sym same) (game_redo game s c.args.self.now h);
        },
      ),
      record {
        rests = tt;
        found = λ game s h.
            let u = session_undone (bytes_of game) game.fuel (play_on game) game.keep s c.args.self.now i.done
            (length i.turns.items) n.present n.size h.session in
            ((λ p. cc), (λ p. absurd (omega (arith, all, u.0, u.1))));
        text = λ game s h. tt;
      },
    )

pub do_again-requires-clause-fits : goal.do_again-requires-clause-fits
do_again-requires-clause-fits c =
    let i = c.self.inside in
    let here : i.done < length i.turns.items = omega
    (arith, i.turns.ok.0, c.len.ensures, c.if-self-len.false, c.self.invariant.within) in
    turn_fits (Fits (length i.store.store.cells) bound_of) i.turns.items i.done c.index_mut.result.now here
    c.index_mut.ensures.value c.self.invariant.fits

pub invariant_of-self-2 : goal.invariant_of-self-2
invariant_of-self-2 c =
    let i = c.self.inside in
    let here : i.done < length i.turns.items = omega
    (arith, i.turns.ok.0, c.len.ensures, c.if-self-len.false, c.self.invariant.within) in
    redo_between (known_of i.player) i.store c.do_again.new.store i.first i.turns.items c.index_mut.result.now
    c.do_again.new.turn i.done
    (record { here = here; is = c.index_mut.ensures.value }) c.do_again.ensures c.self.invariant

pub returns : goal.returns
returns c =
    let i = c.self.inside in
    let n = counted i.keep i.fuel (known_of i.player) i.opening.items i.store.store i.first i.turns.items i.done
    (text_of i.given_up) c.args.self.now c.self.view_is in
    let here : i.done < length i.turns.items = omega
    (arith, i.turns.ok.0, c.len.ensures, c.if-self-len.false, c.self.invariant.within) in
    let stands : StandsAt i.turns.items i.done c.index_mut.result.now =
    record { here = here; is = c.index_mut.ensures.value } in
    let is = redo_view i.keep i.fuel (known_of i.player) i.opening.items i.store c.do_again.new.store i.first
    i.turns.items c.index_mut.result.now c.do_again.new.turn i.done (text_of i.given_up) stands c.do_again.ensures
    ∙ ap {A = Session} (λ v. record v { present = i.done + 1 }) c.self.view_is
    ∙ ap {A = ℕ} (λ k. record c.args.self.now { present = k + 1 }) n.present
    ∙ forward_some c.args.self.now (omega (arith, here, n.present, n.size)) in
    let e : i.done + 1 - 1 ≡ i.done = omega arith in
    let text = c.text.ensures ∙ redone_text i.turns.items i.done (i.done + 1 - 1) c.index_mut.result.now
    c.do_again.new.turn c.index.result.now _ here e c.index.ensures c.do_again.ensures.turn
    ∙ turn_text i.keep i.fuel (known_of i.player) i.opening.items i.store.store i.first i.turns.items i.done
    (text_of i.given_up) c.args.self.now i.done c.index_mut.result.now c.self.view_is here c.index_mut.ensures.value in
    let undone = λ (game : Game) (s : Standing) (h : IsSessionOf game s c.args.self.now). (
    let u = session_undone (bytes_of game) game.fuel (play_on game) game.keep s c.args.self.now i.done (length i.turns.items)
    n.present n.size h.session in
    let some : 0 < length s.undone = omega (arith, here, u.0, u.1) in
    some) in (
      (
        refl,
        (λ _. tt),
        record {
          stepped = is;
          stands = λ game s h. subst (IsSessionOf game (redo_of s)) (sym is)
              (game_redo game s c.args.self.now h);
        },
      ),
      record {
        rests = tt;
        found = λ game s h. ((λ p. undone game s h), (λ p. refl));
        text = λ game s h.
            session_again (bytes_of game) game.fuel (play_on game) game.keep s c.args.self.now i.done _ n.present
            (undone game s h) text h.session;
      },
    )
