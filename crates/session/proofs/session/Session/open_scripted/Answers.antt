use Rattle.std.proofs.Common.{◌≡◌, ◌∙◌, ℕ, ap, sym, subst, refl, drop, length, List, [], None}
use Rattle.journal.specs.Recording.{Recording}
use Rattle.machine_frames.specs.Contents.{Contents}
use Rattle.machine_frames.specs.Playing.{whole_of}
use Rattle.machine_frames.specs.States.{IsStoreOf}
use Rattle.machine_frames.proofs.Steps.{store_after}
use Rattle.zcore_standard.specs.Machine.{keeping}
use Rattle.session.specs.Inside.{IsBetweenTurns, view_of}
use Rattle.session.specs.Game.{Game, game_keeping, IsSessionOf}
use Rattle.session.specs.Players.{known_of, IsPlayerOf, PlayerDrawing, PlayerScript, PlayerStyles, PlayerTurn}
use Rattle.session.specs.Showing.{shown_of}
use Rattle.session.specs.Shown.{Shown}
use Rattle.machine_picture.specs.Represented.{styles_of}
use Rattle.machine_picture.specs.Styles.{Styles, begun}
use Rattle.session.specs.Reached.{Reached}
use Rattle.session_lines.specs.Standing.{nothing}
use Rattle.session_lines.specs.Written.{text_of}
use Rattle.session.proofs.Opening.{opened_between, opened_script, session_opened}
use Rattle.session.proofs.session.Session.open_scripted.Goals as goal

pub invariant_of-result : goal.invariant_of-result
invariant_of-result c =
    let l = c.in-Ok.ensures in
    let known = known_of c.in-Ok.loaded.0 in
    let shown : Shown =
    shown_of c.args.keep.rows c.args.keep.styles c.deref.result.now c.deref-in-Ok-turn.result.now (styles_of c.turn.new.styles) in
    let first : Reached =
    record { place = c.in-Ok-turn.place; kept = c.turn.new.kept; shown = shown } in
    let same : c.new-store.result.store ≡ c.in-Ok.loaded.1 = ap (λ (r : Recording Contents). r.store)
    c.new-store.ensures in
    let before : IsStoreOf known.header c.new-store.result.store = subst (IsStoreOf known.header) (sym same) l.store in
    subst (λ f. IsBetweenTurns known c.close.new.self f c.new.result.items 0)
    (sym c.in-Ok-reach.ensures)
    (subst (λ r. IsBetweenTurns known r first c.new.result.items 0) (sym c.close.ensures.new)
    (opened_between known
    (record { store = c.turn.new.store.store; beginning = c.turn.new.store.store.cells; kept = [] }) first
    c.new.result.items c.new.ensures.items l.settled (store_after before c.in-Ok-turn.ensures.ends.goes_on)
    c.in-Ok-turn.ensures.ends.waits refl refl))

pub returns-in-Ok-reach-clause-opens : goal.returns-in-Ok-reach-clause-opens
returns-in-Ok-reach-clause-opens c =
    let l = c.in-Ok.ensures in
    let known = known_of c.in-Ok.loaded.0 in
    let game : Game = game_keeping c.args.mode c.args.story.items c.args.fuel c.args.keep in
    let shown : Shown =
    shown_of c.args.keep.rows c.args.keep.styles c.deref.result.now c.deref-in-Ok-turn.result.now (styles_of c.turn.new.styles) in
    let first : Reached =
    record { place = c.in-Ok-turn.place; kept = c.turn.new.kept; shown = shown } in
    let same : c.new-store.result.store ≡ c.in-Ok.loaded.1 = ap (λ (r : Recording Contents). r.store)
    c.new-store.ensures in
    let player = subst (IsPlayerOf c.args.mode c.args.story.items known) (sym same) l in
    let words : drop (length c.new-opening.result.items) c.turn.new.text.items
    ≡ c.turn.new.text.items = ap (λ (x : List ℕ). drop (length x) c.turn.new.text.items)
    c.new-opening.ensures.items in
    let closed : c.close.new.self.store ≡ c.turn.new.store.store = ap (λ (r : Recording Contents). r.store)
    c.close.ensures.new in
    let session = subst
    (λ s. IsSessionOf game nothing
    (view_of c.args.keep c.args.fuel known c.turn.new.text.items s first c.new.result.items 0 (text_of c.none.result)))
    (sym closed)
    (session_opened game c.args.keep known c.new-store.result.store c.turn.new.store.store first c.new.result.items
    (drop (length c.new-opening.result.items) c.turn.new.text.items) c.turn.new.text.items (text_of c.none.result)
    c.deref.result.now (styles_of c.turn.new.styles) (refl, refl) c.new.ensures.items player
    (subst (λ k. PlayerTurn known None k c.new-store.result.store c.args.fuel
    (keeping c.turn.new.kept (whole_of c.turn.new.store.store c.in-Ok-turn.place
    (drop (length c.new-opening.result.items) c.turn.new.text.items)))) c.none-kept.ensures
    c.in-Ok-turn.ensures.ends.whole)
    (subst (λ d. PlayerDrawing known None [] c.new-store.result.store c.args.fuel [] d)
    (sym c.deref.ensures.value)
    (subst (λ d. PlayerDrawing known None [] c.new-store.result.store c.args.fuel d c.turn.new.drawing.items)
    c.new-drawn.ensures.items
    (subst (λ k. PlayerDrawing known None k c.new-store.result.store c.args.fuel c.new-drawn.result.items
    c.turn.new.drawing.items) c.none-kept.ensures c.in-Ok-turn.ensures.drawing)))
    (λ asked. subst (λ n. PlayerStyles known None [] c.new-store.result.store c.args.fuel n (styles_of c.turn.new.styles))
    (ap (λ (p : Styles). p.style) c.new-styles.ensures)
    (subst (λ k. PlayerStyles known None k c.new-store.result.store c.args.fuel
    (styles_of c.new-styles.result).style (styles_of c.turn.new.styles)) c.none-kept.ensures
    (c.in-Ok-turn.ensures.styles asked)))
    (ap (λ t. shown_of c.args.keep.rows c.args.keep.styles c.deref.result.now t (styles_of c.turn.new.styles)) c.deref-in-Ok-turn.ensures.value)
    words) in (
      l.can,
      subst
          (λ f. IsSessionOf game nothing (view_of c.args.keep c.args.fuel known c.turn.new.text.items c.close.new.self.store f
          c.new.result.items 0 (text_of c.none.result))) (sym c.in-Ok-reach.ensures) session,
    )

pub returns-in-Ok-reach-clause-script : goal.returns-in-Ok-reach-clause-script
returns-in-Ok-reach-clause-script c =
    let l = c.in-Ok.ensures in
    let known = known_of c.in-Ok.loaded.0 in
    let same : c.new-store.result.store ≡ c.in-Ok.loaded.1 = ap (λ (r : Recording Contents). r.store)
    c.new-store.ensures in
    opened_script (game_keeping c.args.mode c.args.story.items c.args.fuel c.args.keep) known c.new-store.result.store
    c.turn.new.script.items (subst (IsPlayerOf c.args.mode c.args.story.items known) (sym same) l)
    (subst (λ k. PlayerScript known None k c.new-store.result.store c.args.fuel c.turn.new.script.items)
    c.none-kept.ensures c.in-Ok-turn.ensures.script)

pub turn-requires-clause-unstyled : goal.turn-requires-clause-unstyled
turn-requires-clause-unstyled c = λ asked.
    let e = c.new-styles.ensures in
    e ∙ sym (ap (λ (p : Styles). begun p.style 0) e)
