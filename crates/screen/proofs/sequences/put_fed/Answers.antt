use Rattle.std.proofs.Common.{◌≡◌, ◌-◌, ◌++◌, ℕ, ap, arith}
use Rattle.screen.specs.Sequences.{fed}
use Rattle.screen.proofs.Adding.{all_added}
use Rattle.screen.proofs.Texts.{fed_end, fed_more}
use Rattle.screen.proofs.sequences.put_fed.Goals as goal

pub loop-done-init : goal.loop-done-init
loop-done-init c =
    let all : c.args.rows - 0 ≡ c.args.rows = omega arith in
    record { so_far = ap (λ (n : ℕ). c.args.written.now.items ++ fed n) all }

pub loop-done-preserved : goal.loop-done-preserved
loop-done-preserved c = record {
  so_far = fed_more _ _ _ c.args.rows c.loop-done.done (omega arith) c.in_ok-extend_from_slice.ensures.items
      c.loop-done.invariant.so_far;
}

pub returns : goal.returns
returns c = all_added _ _ _ (fed_end c.args.rows c.loop-done.done (omega arith)) c.loop-done.invariant.so_far
