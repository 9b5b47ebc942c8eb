-- The picture of a whole turn: more steps than it has change nothing, and its weight is enough.
use Rattle.std.proofs.Common.{◌≡◌, ◌≤◌, ◌+◌, ℕ, zero, suc, List, ap, sym, ◌∙◌, arith, refl, Option, Some, length}
use Rattle.std.proofs.lemmas.Option.{same_Some}
use Rattle.zcore.specs.declared.place.Place.{Place}
use Rattle.zcore.specs.State.{Out, State, done, halt}
use Rattle.zcore.specs.Turn.{after_step, weight}
use Rattle.zcore_standard.specs.Place.{Here}
use Rattle.zcore_versions.specs.Machine.{any_step}
use Rattle.zcore_versions.specs.Versions.{Story}
use Rattle.zcore_versions.proofs.Stepping.{any_step_lighter}
use Rattle.machine_picture.specs.Picture.{Draws, Picture, after_step_to, any_drawing, before_step, picture_by, picture_from}
use Rattle.machine_picture.specs.Picture.{picture_text, text_in}

more_by : (o : Out Here) (f g : Here → State → Option Picture) (stop : Place → State → Option Picture) (q : Picture)
    → ((next : Here) (t : State) → f next t ≡ Some q → g next t ≡ Some q) → after_step o f stop ≡ Some q
    → after_step o g stop ≡ Some q
more_by (done next t) f g stop q more e = more next t e
more_by (halt place t) f g stop q more e = e

picture_more : (story : Story) (count rest : ℕ) (here : Here) (s : State) (p q : Picture)
    → picture_by story count here s p ≡ Some q → picture_by story (count + rest) here s p ≡ Some q
unfolding picture_by
picture_more story zero rest here s p q e = absurd (cc)
picture_more story (suc count) rest here s p q e =
    let n : suc count + rest ≡ suc (count + rest) = omega arith in
    ap (λ k. picture_by story k here s p) n
    ∙ more_by (any_step story here s)
    (λ next t. picture_by story count next t (after_step_to story here s t.text p))
    (λ next t. picture_by story (count + rest) next t (after_step_to story here s t.text p))
    (λ place t. Some (before_step story here s p)) q
    (λ next t h. picture_more story count rest next t (after_step_to story here s t.text p) q h) e

-- some picture
abbrev Found : Story → ℕ → Here → State → Picture → Type 0
Found story count here s p = (q : Picture) × (picture_by story count here s p ≡ Some q)

no_weight : (here : Here) (s : State) → weight here.next s ≤ 0 → ⊥
unfolding weight
no_weight here s le = omega (arith, le)

found_by : (story : Story) (count : ℕ) (here : Here) (s : State) (p : Picture) (o : Out Here) → any_step story here s ≡ o
    → ((next : Here) (t : State) → o ≡ done next t → Found story count next t (after_step_to story here s t.text p))
    → Found story (suc count) here s p
unfolding picture_by
found_by story count here s p (done next t) e more =
    let x = more next t refl in (
      x.0,
      ap (λ o. after_step o (λ next t. picture_by story count next t (after_step_to story here s t.text p))
          (λ place t. Some (before_step story here s p))) e
          ∙ x.1,
    )
found_by story count here s p (halt place t) e more = (
  before_step story here s p,
  ap (λ o. after_step o (λ next t. picture_by story count next t (after_step_to story here s t.text p))
      (λ place t. Some (before_step story here s p))) e,
)

picture_found : (story : Story) (count : ℕ) (here : Here) (s : State) (p : Picture) → weight here.next s ≤ count
    → Found story count here s p
picture_found story zero here s p le = absurd (no_weight here s le)
picture_found story (suc count) here s p le =
    found_by story count here s p (any_step story here s) refl (λ next t e.
    picture_found story count next t (after_step_to story here s t.text p)
    (omega (arith, le, (any_step_lighter story here next s t e).falls)))

-- the text of what a turn draws
pub drawing_is : (story : Story) (here : Here) (s : State) (drawing : List ℕ) (q : Picture)
    → Draws story here s (picture_from drawing (length s.text)) q → any_drawing story here s drawing ≡ picture_text q
unfolding any_drawing
drawing_is story here s drawing q d =
    let w = weight here.next s in
    let p = picture_from drawing (length s.text) in
    let x = picture_found story w here s p (omega arith) in
    let n : w + d.count ≡ d.count + w = omega arith in
    let same : x.0 ≡ q = same_Some x.0 q (sym (picture_more story w d.count here s p x.0 x.1)
    ∙ ap (λ k. picture_by story k here s p) n ∙ picture_more story d.count w here s p q d.draws) in
    ap text_in x.1 ∙ ap picture_text same
