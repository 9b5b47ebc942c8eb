use Rattle.std.proofs.Common.{◌≡◌, ◌++◌, ℕ, ap, arith, replicate, ◌∙◌}
use Rattle.screen.proofs.Texts.{blanks_more}
use Rattle.screen.proofs.upper.put_blanks.Goals as goal

pub loop-done-preserved : goal.loop-done-preserved
loop-done-preserved c = record {
  so_far = blanks_more _ _ _ c.loop-done.done c.loop-done.invariant.so_far c.in_ok-push.ensures.items;
}

pub returns : goal.returns
returns c =
    let all : c.loop-done.done ≡ c.args.columns = omega arith in
    c.loop-done.invariant.so_far ∙ ap (λ (n : ℕ). c.args.written.now.items ++ replicate n 32) all
