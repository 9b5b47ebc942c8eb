use Rattle.std.proofs.Common.{◌≡◌, ℕ, suc, ◌+◌, ◌-◌, length, take, drop, Some, ap, ◌∙◌, subst, arith}
use Rattle.std.specs.Prelude.{map, slice_get}
use Rattle.std.specs.Option.{option_map}
use Rattle.meaning.specs.Places.{total}
use Rattle.meaning.specs.declared.checked.CheckedRoutine.{CheckedRoutine}
use Rattle.messages_diagnosis.specs.Figures.{figures_in, ranked, size_of}
use Rattle.messages_diagnosis.proofs.Ranking.{heavier, longer}
use Rattle.messages_diagnosis.proofs.routine_figures.routines_of.Goals as goal

pub loop-behind-preserved : goal.loop-behind-preserved
loop-behind-preserved c =
    let l = c.loop-behind in
    let rs = c.args.checked.now.routines in
    let f = λ (r : CheckedRoutine). figures_in c.args.checked.now r in
    let i = length rs - (l.behind + 1) in
    let at : c.routines-count.result - 1 - l.behind ≡ i = omega arith in
    let follows : length rs - l.behind ≡ suc i = omega arith in
    let is : Some c.in_ok-figures.figures ≡ option_map f (slice_get rs i) =
    subst (λ (k : ℕ). Some c.in_ok-figures.figures ≡ option_map f (slice_get rs k)) at c.in_ok-figures.ensures in
    record {
      heaviest = heavier f rs i (length rs - l.behind) c.in_ok-figures.figures follows is l.heaviest.items _
          l.invariant.heaviest c.in_ok-place.ensures;
      sum = longer f rs i (length rs - l.behind) c.in_ok-figures.figures follows is l.size _ l.invariant.sum c.with_bytes-size.ensures.sum;
      bound = omega (arith, c.with_bytes-size.ensures.few);
    }

pub returns-clause-heaviest : goal.returns-clause-heaviest
returns-clause-heaviest c =
    let rs = c.args.checked.now.routines in
    let all : length rs - c.loop-behind.behind ≡ 0 = omega arith in
    c.loop-behind.invariant.heaviest
    ∙ ap (λ k. take 10 (ranked (map (figures_in c.args.checked.now) (drop k rs)))) all

pub returns-clause-size : goal.returns-clause-size
returns-clause-size c =
    let rs = c.args.checked.now.routines in
    let all : length rs - c.loop-behind.behind ≡ 0 = omega arith in
    c.loop-behind.invariant.sum
    ∙ ap (λ k. total (map size_of (map (figures_in c.args.checked.now) (drop k rs)))) all
