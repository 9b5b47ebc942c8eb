-- The styles of a whole turn: more steps than it has change nothing, and its weight is enough.
use Rattle.std.proofs.Common.{◌≡◌, ◌≤◌, ◌+◌, ℕ, zero, suc, ap, sym, ◌∙◌, arith, refl, Option, Some, length}
use Rattle.std.proofs.lemmas.Option.{same_Some}
use Rattle.std.specs.Option.{unwrap_or}
use Rattle.zcore.specs.declared.place.Place.{Place}
use Rattle.zcore.specs.State.{Out, State, done, halt}
use Rattle.zcore.specs.Turn.{after_step, weight}
use Rattle.zcore_standard.specs.Place.{Here}
use Rattle.zcore_versions.specs.Machine.{any_step}
use Rattle.zcore_versions.specs.Versions.{Story}
use Rattle.zcore_versions.proofs.Stepping.{any_step_lighter}
use Rattle.machine_picture.specs.Styles.{Styles, after_last, after_step_to, begun, styles_by}
use Rattle.machine_standard.specs.Styled.{StylesFrom, any_styles}
use Rattle.machine_standard.proofs.ScriptTurns.{no_weight}

more_by : (o : Out Here) (f g : Here → State → Option Styles) (stop : Place → State → Option Styles) (q : Styles)
    → ((next : Here) (t : State) → f next t ≡ Some q → g next t ≡ Some q) → after_step o f stop ≡ Some q
    → after_step o g stop ≡ Some q
more_by (done next t) f g stop q more e = more next t e
more_by (halt place t) f g stop q more e = e

styles_more : (story : Story) (count rest : ℕ) (here : Here) (s : State) (p q : Styles)
    → styles_by story count here s p ≡ Some q → styles_by story (count + rest) here s p ≡ Some q
unfolding styles_by
styles_more story zero rest here s p q e = absurd (cc)
styles_more story (suc count) rest here s p q e =
    let n : suc count + rest ≡ suc (count + rest) = omega arith in
    ap (λ k. styles_by story k here s p) n
    ∙ more_by (any_step story here s)
    (λ next t. styles_by story count next t (after_step_to story here s next t.text p))
    (λ next t. styles_by story (count + rest) next t (after_step_to story here s next t.text p))
    (λ place t. Some (after_last story here s place t.text p)) q
    (λ next t h. styles_more story count rest next t (after_step_to story here s next t.text p) q h) e

-- some styles
abbrev Found : Story → ℕ → Here → State → Styles → Type 0
Found story count here s p = (q : Styles) × (styles_by story count here s p ≡ Some q)

found_by : (story : Story) (count : ℕ) (here : Here) (s : State) (p : Styles) (o : Out Here) → any_step story here s ≡ o
    → ((next : Here) (t : State) → o ≡ done next t → Found story count next t (after_step_to story here s next t.text p))
    → Found story (suc count) here s p
unfolding styles_by
found_by story count here s p (done next t) e more =
    let x = more next t refl in (
      x.0,
      ap (λ o. after_step o (λ next t. styles_by story count next t (after_step_to story here s next t.text p))
          (λ place t. Some (after_last story here s place t.text p))) e
          ∙ x.1,
    )
found_by story count here s p (halt place t) e more = (
  after_last story here s place t.text p,
  ap (λ o. after_step o (λ next t. styles_by story count next t (after_step_to story here s next t.text p))
      (λ place t. Some (after_last story here s place t.text p))) e,
)

styles_found : (story : Story) (count : ℕ) (here : Here) (s : State) (p : Styles) → weight here.next s ≤ count
    → Found story count here s p
styles_found story zero here s p le = absurd (no_weight here s le)
styles_found story (suc count) here s p le =
    found_by story count here s p (any_step story here s) refl (λ next t e.
    styles_found story count next t (after_step_to story here s next t.text p)
    (omega (arith, le, (any_step_lighter story here next s t e).falls)))

-- the styles of a turn
pub styles_is : (story : Story) (here : Here) (s : State) (style : ℕ) (last : Styles) → StylesFrom story here s style last
    → any_styles story here s style ≡ last
unfolding any_styles
styles_is story here s style last d =
    let first = begun style (length s.text) in
    let w = weight here.next s in
    let x = styles_found story w here s first (omega arith) in
    let n : w + d.count ≡ d.count + w = omega arith in
    let same : x.0 ≡ last = same_Some x.0 last (sym (styles_more story w d.count here s first x.0 x.1)
    ∙ ap (λ k. styles_by story k here s first) n ∙ styles_more story d.count w here s first last d.styled) in
    ap (λ (o : Option Styles). unwrap_or o (begun style 0)) x.1 ∙ same
