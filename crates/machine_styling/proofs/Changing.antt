-- What a step does to styles, besides adding some.
use Rattle.std.proofs.Common.{◌≡◌, ◌∙◌, ℕ, Bool, true, false, List, ap, sym, refl}
use Rattle.std.proofs.Common.{Option, Some, None}
use Rattle.std.specs.Prelude.{◌&&◌, if◌then◌else◌}
use Rattle.zcore.specs.declared.place.Place.{Place}
use Rattle.zcore.specs.declared.place.Place.TheVariants as places
use Rattle.zcore.specs.State.{State}
use Rattle.zcore.specs.Turn.{is_waiting}
use Rattle.zcore_standard.specs.declared.operations.StandardOperation.{StandardOperation}
use Rattle.zcore_standard.specs.declared.operations.StandardOperation.TheVariants.{Restart, SplitWindow, SetWindow}
use Rattle.zcore_standard.specs.declared.operations.StandardOperation.TheVariants.{EraseWindow, SetCursor, SetTextStyle}
use Rattle.zcore_standard.specs.declared.operations.StandardOperation.TheVariants.{Read, ReadChar, Save, Restore}
use Rattle.zcore_standard.specs.declared.windows.Upper.{Upper}
use Rattle.zcore_standard.specs.Place.{Here}
use Rattle.machine_picture.specs.Picture.{can_wait}
use Rattle.machine_picture.specs.Represented.{IsLine}
use Rattle.machine_picture.specs.Styles.{Styles, chosen, left, left_by, moves, plain, restyled, value_at, waits}
use Rattle.machine_picture.specs.declared.lines.Line.{Line}
use Rattle.machine_picture.specs.declared.lines.Shown.{Shown}
use Rattle.machine_styling.specs.Restyling.{Changes, restyles}
use Rattle.machine_styling.specs.declared.before.Change.{Change}
use Rattle.machine_styling.specs.declared.before.Change.TheVariants as changes

-- Operations apart

pub restyled_still : (operation : StandardOperation) (value style : ℕ) → restyles operation ≡ false
    → restyled (Some operation) value style ≡ style
restyled_still Restart value style e = absurd (cc)
restyled_still SetTextStyle value style e = absurd (cc)
restyled_still _ value style e = refl

pub others_stay : (operation : StandardOperation) → (operation ≡ Restart → ⊥) → (operation ≡ SetTextStyle → ⊥)
    → restyles operation ≡ false
others_stay Restart restart style = absurd (restart refl)
others_stay SetTextStyle restart style = absurd (style refl)
others_stay _ restart style = refl

pub apart : (b : Bool) → b ≡ true → b ≡ false → ⊥
apart true e f = absurd (cc)
apart false e f = absurd (cc)

waits_apart : (operation : StandardOperation) → can_wait operation ≡ true
    → (restyles operation ≡ false) × (moves operation ≡ false)
waits_apart Read e = (refl, refl)
waits_apart ReadChar e = (refl, refl)
waits_apart Save e = (refl, refl)
waits_apart Restore e = (refl, refl)
waits_apart _ e = absurd (cc)

moves_apart : (operation : StandardOperation) → moves operation ≡ true
    → (restyles operation ≡ false) × (can_wait operation ≡ false)
moves_apart SplitWindow e = (refl, refl)
moves_apart SetWindow e = (refl, refl)
moves_apart EraseWindow e = (refl, refl)
moves_apart SetCursor e = (refl, refl)
moves_apart _ e = absurd (cc)

-- The upper window

left_nowhere : (b : Bool) (upper : Option Upper) (text : List ℕ) (to : Option Upper) (new each : List ℕ)
    → (b ≡ true → upper ≡ None) → each ≡ (if b then left_by upper text to new each else each)
left_nowhere true upper text to new each h = sym (ap (λ u. left_by u text to new each) (h refl))
left_nowhere false upper text to new each h = refl

left_still : (b : Bool) (upper : Option Upper) (text : List ℕ) (to : Option Upper) (new each : List ℕ) → b ≡ false
    → each ≡ (if b then left_by upper text to new each else each)
left_still true upper text to new each e = absurd (cc)
left_still false upper text to new each e = refl

left_moved : (b : Bool) (upper : Option Upper) (there : Upper) (text : List ℕ) (to : Option Upper) (new each : List ℕ)
    → b ≡ true → upper ≡ Some there
    → left_by (Some there) text to new each ≡ (if b then left_by upper text to new each else each)
left_moved true upper there text to new each e is = sym (ap (λ u. left_by u text to new each) is)
left_moved false upper there text to new each e is = absurd (cc)

-- Styles

abbrev these : Styles → ℕ → List ℕ → Styles
these p style each = record p { style = style; each = each }

are_these : (p : Styles) (style other : ℕ) (each more : List ℕ) → style ≡ other → each ≡ more
    → these p style each ≡ these p other more
are_these p style other each more e f = ap (λ n. these p n each) e ∙ ap (these p other) f

-- what an operation makes of styles, besides adding some
abbrev pub made : Option StandardOperation → Here → State → Option Upper → List ℕ → Styles → Styles
made operation here s to text p = record p {
  style = restyled operation (value_at s here.next.program_counter) p.style;
  each = left operation here.upper s.text to text p.each;
}

pub made_none : (operation : Option StandardOperation) (here : Here) (s : State) (to : Option Upper) (text : List ℕ)
    (p : Styles) → Changes operation here s changes.None → p ≡ made operation here s to text p
made_none None here s to text p h = refl
made_none (Some operation) here s to text p h =
    are_these p p.style _ p.each _
    (sym (restyled_still operation (value_at s here.next.program_counter) p.style h.styles))
    (left_nowhere (moves operation) here.upper s.text to text p.each h.nowhere)

pub made_wait : (operation : Option StandardOperation) (here : Here) (s : State) (to : Option Upper) (text : List ℕ)
    (p : Styles) (shown : Shown) → Changes operation here s (changes.Wait shown) → p ≡ made operation here s to text p
made_wait None here s to text p shown h = absurd (cc)
made_wait (Some operation) here s to text p shown h =
    let apart = waits_apart operation h.0 in
    are_these p p.style _ p.each _
    (sym (restyled_still operation (value_at s here.next.program_counter) p.style apart.0))
    (left_still (moves operation) here.upper s.text to text p.each apart.1)

pub made_restart : (operation : Option StandardOperation) (here : Here) (s : State) (to : Option Upper) (text : List ℕ)
    (p q : Styles) → q ≡ record p { style = plain } → Changes operation here s changes.Restart
    → q ≡ made operation here s to text p
made_restart None here s to text p q put h = absurd (cc)
made_restart (Some operation) here s to text p q put h =
    put ∙ ap (λ (o : StandardOperation). made (Some o) here s to text p) (sym h)

pub made_choose : (operation : Option StandardOperation) (here : Here) (s : State) (to : Option Upper) (text : List ℕ)
    (p q : Styles) (value : ℕ) → q ≡ record p { style = chosen value p.style }
    → Changes operation here s (changes.Choose value) → q ≡ made operation here s to text p
made_choose None here s to text p q value put h = absurd (cc)
made_choose (Some operation) here s to text p q value put h =
    put ∙ ap (λ n. these p (chosen n p.style) p.each) h.1
    ∙ ap (λ (o : StandardOperation). made (Some o) here s to text p) (sym h.0)

pub made_move : (operation : Option StandardOperation) (here : Here) (s : State) (to : Option Upper) (text : List ℕ)
    (p q : Styles) (line : Line)
    → ((upper : Upper) (was : List ℕ) → IsLine upper was line
    → q ≡ record p { each = left_by (Some upper) was to text p.each })
    → Changes operation here s (changes.Move line) → q ≡ made operation here s to text p
made_move None here s to text p q line put h = absurd (cc)
made_move (Some operation) here s to text p q line put h =
    put h.upper s.text h.line
    ∙ are_these p p.style _ (left_by (Some h.upper) s.text to text p.each) _
    (sym (restyled_still operation (value_at s here.next.program_counter) p.style (moves_apart operation h.moving).0))
    (left_moved (moves operation) here.upper h.upper s.text to text p.each h.moving h.there)

-- Whether a step waits

none_waits : (b : Bool) → (b && false) ≡ false
none_waits true = refl
none_waits false = refl

pub waits_elsewhere : (operation : Option StandardOperation) (end : Place) → is_waiting end ≡ false
    → waits operation end ≡ false
waits_elsewhere None end e = refl
waits_elsewhere (Some operation) end e = ap (λ b. can_wait operation && b) e ∙ none_waits (can_wait operation)

pub not_waiting : (end : Place) → (end ≡ places.Waiting → ⊥) → is_waiting end ≡ false
not_waiting places.Waiting not = absurd (not refl)
not_waiting _ not = refl

pub cannot_wait : (operation : Option StandardOperation) (here : Here) (s : State) (change : Change) (end : Place)
    → ((shown : Shown) → change ≡ changes.Wait shown → ⊥) → Changes operation here s change → waits operation end ≡ false
cannot_wait None here s change end not h = refl
cannot_wait (Some operation) here s changes.None end not h = ap (λ b. b && is_waiting end) h.goes_on
cannot_wait (Some operation) here s changes.Restart end not h =
    ap (λ (o : StandardOperation). can_wait o && is_waiting end) h
cannot_wait (Some operation) here s (changes.Choose value) end not h =
    ap (λ (o : StandardOperation). can_wait o && is_waiting end) h.0
cannot_wait (Some operation) here s (changes.Move line) end not h =
    ap (λ b. b && is_waiting end) (moves_apart operation h.moving).1
cannot_wait (Some operation) here s (changes.Wait shown) end not h = absurd (not shown refl)

pub waits_now : (operation : Option StandardOperation) (here : Here) (s : State) (shown : Shown)
    → Changes operation here s (changes.Wait shown) → waits operation places.Waiting ≡ true
waits_now None here s shown h = absurd (cc)
waits_now (Some operation) here s shown h = ap (λ b. b && true) h.0
