use Rattle.std.proofs.Common.{◌≡◌, ℕ, ◌+◌, ◌-◌, ◌<◌, length, map, drop, subst, arith}
use Rattle.meaning.specs.Views.{printed_of}
use Rattle.code_drafts.specs.Writing.{written_in, WritesBefore}
use Rattle.code_items.specs.Statements.{prints_items}
use Rattle.code_items.proofs.Actions.{printed_next}
use Rattle.code_items.proofs.statement.put_prints.Goals as goal

pub loop-done-preserved : goal.loop-done-preserved
loop-done-preserved c =
    let xs = c.args.items.now in
    let i = length xs - 1 - c.loop-done.done in
    let lt : c.loop-done.done < length xs = c.loop-done-test.true in
    let P : ℕ → Type 0 = λ k. WritesBefore (written_in c.args.draft.now) (written_in c.loop-done.draft)
    (λ n at. prints_items at (map printed_of (drop k xs))) in
    let Q : ℕ → Type 0 = λ k. WritesBefore (written_in c.args.draft.now) (written_in c.put_printed.new.draft)
    (λ n at. prints_items at (map printed_of (drop k xs))) in
    let before : length xs - c.loop-done.done ≡ i + 1 = omega (arith, lt) in
    let after : i ≡ length xs - (c.loop-done.done + 1) = omega arith in
    subst Q after (printed_next _ _ _ xs i _ (omega (arith, lt)) c.index-items-items.is
    (subst P before c.loop-done.invariant) c.in-Ok.ensures)
