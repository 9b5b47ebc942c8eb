use Rattle.std.proofs.Common.{◌≡◌, ◌+◌, ◌∙◌, Bool, ap, sym, subst, take, ℕ, List, [], ◌∷◌, ◌++◌, length, get_or, arith, refl}
use Rattle.std.specs.Prelude.{IsTrue}
use Rattle.session.specs.Reached.{Reached}
use Rattle.session.specs.declared.turns.Turn.{Turn}
use Rattle.session.specs.Inside.{IsBetweenTurns, shown_at}
use Rattle.session.specs.Showing.{begun_with, shown_of, showing_of, turn_drawing, turn_shown, turn_styles}
use Rattle.session.specs.Shown.{Showing, Shown}
use Rattle.machine_picture.specs.Represented.{styles_of}
use Rattle.machine_picture.specs.Styles.{Styles, begun}
use Rattle.session.proofs.Insides.{ready_now}
use Rattle.machine_frames.specs.Playing.{whole_of}
use Rattle.machine_frames.specs.States.{play_of}
use Rattle.zcore_standard.specs.Machine.{keeping, play_keeping}
use Rattle.session.proofs.Views.{view_place, view_showing}
use Rattle.session.proofs.Turning.{IsPlayed, given_up_between, given_up_view, played, taken_between}
use Rattle.session.proofs.Turning.{script_turned, taken_turned, turn_shows}
use Rattle.session_lines.specs.declared.written.Written.{Written}
use Rattle.session_lines.specs.Written.{text_of}
use Rattle.session.specs.Players.{known_of}
use Rattle.session.proofs.session.Session.play.Goals as goal

pub turn-requires-clause-store : goal.turn-requires-clause-store
turn-requires-clause-store c =
    let i = c.self.inside in
    (ready_now (known_of i.player) i.store i.first i.turns.items i.done c.self.invariant).store

pub turn-requires-clause-settled : goal.turn-requires-clause-settled
turn-requires-clause-settled c = c.self.invariant.settled

pub turn-requires-clause-ready : goal.turn-requires-clause-ready
turn-requires-clause-ready c =
    let i = c.self.inside in
    (ready_now (known_of i.player) i.store i.first i.turns.items i.done c.self.invariant).waits
    (view_place i.keep i.fuel (known_of i.player) i.opening.items i.store.store i.first i.turns.items i.done
    (text_of i.given_up) c.args.self.now c.self.view_is ∙ c.requires.waits)

pub turn-requires-clause-idle : goal.turn-requires-clause-idle
turn-requires-clause-idle c = c.self.invariant.idle

pub turn-requires-clause-begun : goal.turn-requires-clause-begun
turn-requires-clause-begun c = c.self.invariant.begun

pub invariant_of-self-in-Err-of : goal.invariant_of-self-in-Err-of
invariant_of-self-in-Err-of c =
    let i = c.self.inside in
    given_up_between (known_of i.player) i.store c.turn.new.store c.give_turn_up.new.store i.first i.turns.items
    c.begin_text.new.turns.items i.done c.self.invariant c.in-Ok-turn.ensures.ends.goes_on
    c.give_turn_up.ensures c.begin_text.ensures.items

pub returns-in-Err-of-clause-same : goal.returns-in-Err-of-clause-same
returns-in-Err-of-clause-same c =
    let i = c.self.inside in
    given_up_view i.keep i.fuel (known_of i.player) i.opening.items i.store c.turn.new.store
    c.give_turn_up.new.store i.first i.turns.items c.begin_text.new.turns.items i.done (text_of i.given_up)
    c.args.self.now c.self.invariant c.in-Ok-turn.ensures.ends.goes_on c.give_turn_up.ensures
    c.begin_text.ensures.items c.self.view_is

pub invariant_of-self-in-Err-reach : goal.invariant_of-self-in-Err-reach
invariant_of-self-in-Err-reach c =
    let i = c.self.inside in
    given_up_between (known_of i.player) i.store c.turn.new.store c.give_turn_up-in-Err-reach.new.store i.first
    i.turns.items c.begin_text.new.turns.items i.done c.self.invariant c.in-Ok-turn.ensures.ends.goes_on
    c.give_turn_up-in-Err-reach.ensures c.begin_text.ensures.items

pub returns-in-Err-reach-clause-same : goal.returns-in-Err-reach-clause-same
returns-in-Err-reach-clause-same c =
    let i = c.self.inside in
    given_up_view i.keep i.fuel (known_of i.player) i.opening.items i.store c.turn.new.store
    c.give_turn_up-in-Err-reach.new.store i.first i.turns.items c.begin_text.new.turns.items i.done (text_of i.given_up)
    c.args.self.now c.self.invariant c.in-Ok-turn.ensures.ends.goes_on
    c.give_turn_up-in-Err-reach.ensures c.begin_text.ensures.items c.self.view_is

pub invariant_of-self-2 : goal.invariant_of-self-2
invariant_of-self-2 c =
    let i = c.self.inside in
    let s = (ready_now (known_of i.player) i.store i.first i.turns.items i.done c.self.invariant).store in
    let written : Written = record { bytes = c.in-Ok-of.bytes; line = length c.args.line.now } in
    let turn : Reached → Turn = λ r.
    record {
      written = written;
      reached = r;
      overwritten = c.close.result;
    } in
    let shown : Shown =
    shown_of i.keep.rows c.args.has_styles c.deref-2.result.now c.text.result.now (styles_of c.turn.new.styles) in
    let t : Turn = turn (record { place = c.in-Ok-turn.place; kept = c.turn.new.kept; shown = shown }) in
    let h : IsPlayed (known_of i.player) c.begin_kept.new.kept i.store c.close.new.self c.args.line.now i.fuel t =
    played (known_of i.player) c.begin_kept.new.kept i.store c.turn.new.store c.turn.new.store c.close.new.self
    c.args.line.now i.fuel t c.begin_text.new.text.items c.turn.new.text.items s c.in-Ok-turn.ensures.ends
    refl
    c.in-Ok-begin_text.ensures.line refl (c.in-Ok-of.ensures ∙ c.deref.ensures.value)
    c.self.invariant.begun c.close.ensures.back c.close.ensures.fits c.close.ensures.bound c.close.ensures.new in
    let more = c.put_turn.ensures
    ∙ ap (λ (ts : List Turn). take i.done ts ++ turn c.in-Ok-reach.reached ∷ []) c.begin_text.ensures.items
    ∙ ap (λ (r : Reached). take i.done i.turns.items ++ turn r ∷ []) c.in-Ok-reach.ensures in
    subst (λ ts. IsBetweenTurns (known_of i.player) c.close.new.self i.first ts (i.done + 1)) (sym more)
    (taken_between (known_of i.player) c.begin_kept.new.kept i.store c.close.new.self i.first c.args.line.now i.fuel
    i.turns.items i.done t c.self.invariant h)

pub returns-clause-turned : goal.returns-clause-turned
returns-clause-turned c =
    let i = c.self.inside in
    let s = (ready_now (known_of i.player) i.store i.first i.turns.items i.done c.self.invariant).store in
    let written : Written = record { bytes = c.in-Ok-of.bytes; line = length c.args.line.now } in
    let turn : Reached → Turn = λ r.
    record {
      written = written;
      reached = r;
      overwritten = c.close.result;
    } in
    let shown : Shown =
    shown_of i.keep.rows c.args.has_styles c.deref-2.result.now c.text.result.now (styles_of c.turn.new.styles) in
    let t : Turn = turn (record { place = c.in-Ok-turn.place; kept = c.turn.new.kept; shown = shown }) in
    let h : IsPlayed (known_of i.player) c.begin_kept.new.kept i.store c.close.new.self c.args.line.now i.fuel t =
    played (known_of i.player) c.begin_kept.new.kept i.store c.turn.new.store c.turn.new.store c.close.new.self
    c.args.line.now i.fuel t c.begin_text.new.text.items c.turn.new.text.items s c.in-Ok-turn.ensures.ends
    refl
    c.in-Ok-begin_text.ensures.line refl (c.in-Ok-of.ensures ∙ c.deref.ensures.value)
    c.self.invariant.begun c.close.ensures.back c.close.ensures.fits c.close.ensures.bound c.close.ensures.new in
    let more = c.put_turn.ensures
    ∙ ap (λ (ts : List Turn). take i.done ts ++ turn c.in-Ok-reach.reached ∷ []) c.begin_text.ensures.items
    ∙ ap (λ (r : Reached). take i.done i.turns.items ++ turn r ∷ []) c.in-Ok-reach.ensures in
    let before = shown_at i.first i.turns.items i.done in
    let was : shown_at i.first c.begin_text.new.turns.items i.done ≡ before =
    ap (λ (ts : List Turn). shown_at i.first ts i.done) c.begin_text.ensures.items in
    let state = play_keeping c.begin_kept.new.kept (play_of i.store.store) in
    let same : c.args.has_styles ≡ i.keep.styles = c.requires.styles
    ∙ sym (ap (λ (x : Showing). x.styles)
    (view_showing i.keep i.fuel (known_of i.player) i.opening.items i.store.store i.first i.turns.items i.done
    (text_of i.given_up) c.args.self.now c.self.view_is)) in
    let first : IsTrue c.args.has_styles → styles_of c.begin_styles.new.styles ≡ begun before.style 0 = λ asked.
    c.begin_styles.ensures asked ∙ ap (λ (x : Shown). begun x.style 0) was in
    let shows : shown ≡ turn_shown (known_of i.player).loaded (showing_of i.keep) c.args.line.now i.fuel before state =
    turn_shows (known_of i.player) i.keep c.args.has_styles c.args.line.now i.fuel before state
    c.deref-2.result.now c.text.result.now
    (keeping t.reached.kept (whole_of c.close.new.self.store t.reached.place (text_of t.written)))
    (styles_of c.turn.new.styles) same
    (c.deref-2.ensures.value ∙ c.in-Ok-turn.ensures.drawing
    ∙ ap (λ (d : List ℕ). turn_drawing (known_of i.player).loaded c.args.line.now i.fuel d state)
    (c.in_ok-begin_drawing.ensures ∙ ap (λ (x : Shown). begun_with i.keep.picture x.drawing) was))
    h.turn (sym c.text.ensures)
    (λ asked. c.in-Ok-turn.ensures.styles asked
    ∙ ap (λ (n : ℕ). turn_styles (known_of i.player).loaded c.args.line.now i.fuel n state)
    (ap (λ (p : Styles). p.style) (first asked))) in
    taken_turned i.keep i.fuel (known_of i.player) c.begin_kept.new.kept i.opening.items i.store c.close.new.self
    i.first c.args.line.now i.turns.items c.put_turn.new.turns.items i.done t (text_of i.given_up) c.args.self.now c.self.view_is
    c.self.invariant.within h more
    (sym c.in-Ok.ensures)
    shows

pub turn-requires-clause-unwritten : goal.turn-requires-clause-unwritten
turn-requires-clause-unwritten c = c.requires.empty

pub returns-clause-script : goal.returns-clause-script
returns-clause-script c =
    let i = c.self.inside in
    script_turned i.keep i.fuel (known_of i.player) c.begin_kept.new.kept i.opening.items i.store.store i.first
    c.args.line.now i.turns.items i.done (text_of i.given_up) c.args.self.now c.turn.new.script.items c.self.view_is
    c.self.invariant.within
    (sym c.in-Ok.ensures)
    c.in-Ok-turn.ensures.script

pub begin_drawing-requires : goal.begin_drawing-requires
begin_drawing-requires c =
    omega (arith, c.self.invariant.within, ap (λ (ts : List Turn). length ts) c.begin_text.ensures.items)

pub begin_kept-requires : goal.begin_kept-requires
begin_kept-requires c = c.self.invariant.within

pub begin_styles-requires : goal.begin_styles-requires
begin_styles-requires c =
    omega (arith, c.self.invariant.within, ap (λ (ts : List Turn). length ts) c.begin_text.ensures.items)

pub turn-requires-clause-unstyled : goal.turn-requires-clause-unstyled
turn-requires-clause-unstyled c = λ asked.
    let e = c.begin_styles.ensures asked in
    e ∙ sym (ap (λ (p : Styles). begun p.style 0) e)
