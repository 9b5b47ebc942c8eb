use Rattle.std.proofs.Common.{◌≡◌, ◌+◌, ◌-◌, ◌++◌, ℕ, ap, arith, drop, refl, take, ◌∙◌}
use Rattle.screen.specs.Upper.{rows_from}
use Rattle.screen.proofs.Adding.{all_added}
use Rattle.screen.proofs.Texts.{rows_end, rows_more}
use Rattle.screen.proofs.upper.put_rows.Goals as goal

pub loop-row-init : goal.loop-row-init
loop-row-init c =
    let all : c.args.count - 0 ≡ c.args.count = omega arith in
    record { so_far = ap (λ (n : ℕ). c.args.written.now.items ++ rows_from c.args.columns 1 n c.args.text.now) all }

pub loop-row-preserved : goal.loop-row-preserved
loop-row-preserved c = record {
  so_far = rows_more _ _ _ c.loop-row.rest.now _ _ c.args.columns c.args.count c.loop-row.row _ (omega arith) refl
      (ap (λ (n : ℕ). take n c.loop-row.rest.now) c.line_length-end.ensures.length)
      (c.after-rest.ensures ∙ ap (λ (n : ℕ). drop (n + 1) c.loop-row.rest.now) c.line_length-end.ensures.length) c.in_ok-put_row.ensures
      c.loop-row.invariant.so_far;
}

pub returns : goal.returns
returns c = all_added _ _ _
    (rows_end c.args.columns (c.loop-row.row + 1) c.args.count c.loop-row.row c.loop-row.rest.now (omega arith))
    c.loop-row.invariant.so_far
