-- The transcript of a whole turn: more steps than it has change nothing, and its weight is enough.
use Rattle.std.proofs.Common.{◌≡◌, ◌≤◌, ◌+◌, ℕ, zero, suc, ap, sym, ◌∙◌, arith, refl, Option, Some, List, [], ◌++◌}
use Rattle.std.proofs.lemmas.Option.{same_Some}
use Rattle.std.specs.Option.{unwrap_or}
use Rattle.zcore.specs.declared.place.Place.{Place}
use Rattle.zcore.specs.State.{Out, State, done, halt}
use Rattle.zcore.specs.Turn.{after_step, weight}
use Rattle.zcore_standard.specs.Place.{Here}
use Rattle.zcore_versions.specs.Machine.{any_step}
use Rattle.zcore_versions.specs.Versions.{Story}
use Rattle.zcore_versions.proofs.Stepping.{any_step_lighter}
use Rattle.machine_standard.specs.Script.{Scripts, added, any_script, last_added, script_by}

more_by : (o : Out Here) (f g : Here → State → Option (List ℕ)) (stop : Place → State → Option (List ℕ)) (q : List ℕ)
    → ((next : Here) (t : State) → f next t ≡ Some q → g next t ≡ Some q) → after_step o f stop ≡ Some q
    → after_step o g stop ≡ Some q
more_by (done next t) f g stop q more e = more next t e
more_by (halt place t) f g stop q more e = e

script_more : (story : Story) (count rest : ℕ) (here : Here) (s : State) (p q : List ℕ)
    → script_by story count here s p ≡ Some q → script_by story (count + rest) here s p ≡ Some q
unfolding script_by
script_more story zero rest here s p q e = absurd (cc)
script_more story (suc count) rest here s p q e =
    let n : suc count + rest ≡ suc (count + rest) = omega arith in
    ap (λ k. script_by story k here s p) n
    ∙ more_by (any_step story here s)
    (λ next t. script_by story count next t (p ++ added story.loaded here s t.text))
    (λ next t. script_by story (count + rest) next t (p ++ added story.loaded here s t.text))
    (λ place t. Some (p ++ last_added story.loaded place here s t.text)) q
    (λ next t h. script_more story count rest next t (p ++ added story.loaded here s t.text) q h) e

-- some transcript
abbrev Found : Story → ℕ → Here → State → List ℕ → Type 0
Found story count here s p = (q : List ℕ) × (script_by story count here s p ≡ Some q)

pub no_weight : (here : Here) (s : State) → weight here.next s ≤ 0 → ⊥
unfolding weight
no_weight here s le = omega (arith, le)

found_by : (story : Story) (count : ℕ) (here : Here) (s : State) (p : List ℕ) (o : Out Here) → any_step story here s ≡ o
    → ((next : Here) (t : State) → o ≡ done next t → Found story count next t (p ++ added story.loaded here s t.text))
    → Found story (suc count) here s p
unfolding script_by
found_by story count here s p (done next t) e more =
    let x = more next t refl in (
      x.0,
      ap (λ o. after_step o (λ next t. script_by story count next t (p ++ added story.loaded here s t.text))
          (λ place t. Some (p ++ last_added story.loaded place here s t.text))) e
          ∙ x.1,
    )
found_by story count here s p (halt place t) e more = (
  p ++ last_added story.loaded place here s t.text,
  ap (λ o. after_step o (λ next t. script_by story count next t (p ++ added story.loaded here s t.text))
      (λ place t. Some (p ++ last_added story.loaded place here s t.text))) e,
)

script_found : (story : Story) (count : ℕ) (here : Here) (s : State) (p : List ℕ) → weight here.next s ≤ count
    → Found story count here s p
script_found story zero here s p le = absurd (no_weight here s le)
script_found story (suc count) here s p le =
    found_by story count here s p (any_step story here s) refl (λ next t e.
    script_found story count next t (p ++ added story.loaded here s t.text)
    (omega (arith, le, (any_step_lighter story here next s t e).falls)))

-- what a turn adds
pub script_is : (story : Story) (here : Here) (s : State) (before after : List ℕ) → Scripts story here s before after
    → any_script story here s before ≡ after
unfolding any_script
script_is story here s before after d =
    let w = weight here.next s in
    let x = script_found story w here s before (omega arith) in
    let n : w + d.count ≡ d.count + w = omega arith in
    let same : x.0 ≡ after = same_Some x.0 after (sym (script_more story w d.count here s before x.0 x.1)
    ∙ ap (λ k. script_by story k here s before) n ∙ script_more story d.count w here s before after d.scripts) in
    ap (λ (o : Option (List ℕ)). unwrap_or o []) x.1 ∙ same
