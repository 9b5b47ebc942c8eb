use Rattle.std.proofs.Common.{◌≡◌, ◌<◌, ◌+◌, ℕ, Option, Ok, length, map, subst, inr, arith}
use Rattle.std.proofs.lemmas.Grind.{common_steps}
use Rattle.std.proofs.lemmas.List.{length-map}
use Rattle.map_text.specs.Text.{row_of}
use Rattle.map_text.specs.Reading.{AddsRow, not_below, row_in}
use Rattle.map_text.proofs.Rounds.{ended, goes_on, no_line, no_row, out_of_memory}
use Rattle.map_text.proofs.reading.read_rows.Goals as goal
use Rattle.map_text.proofs.reading.read_rows.Goals.{else-loop-done-test, then-loop-done-test+then-is_empty}

pub returns-in_default : goal.returns-in_default
returns-in_default c =
    let some : 0 < length c.loop-done.rest.now = grind (arith, common_steps) in
    let rows = c.loop-done.rows.items in
    let number : c.saturating_add-number.result ≡ length (map row_of rows) + 3 = omega (
      arith,
      c.saturating_add-number.ensures,
      c.len.ensures,
      c.loop-done.rows.small,
      c.loop-done.rows.ok.0,
      c.loop-done.rows.ok.1,
      length-map rows row_of,
    ) in
    inr (no_line _ _ _ _ _ c.loop-done.invariant.1 some c.in_default.ensures.none number)

pub returns-in-None : goal.returns-in-None
returns-in-None c =
    let rows = c.loop-done.rows.items in
    let new = c.add_row.new.rows.items in
    let number : c.saturating_add-number.result ≡ length (map row_of rows) + 3 = omega (
      arith,
      c.saturating_add-number.ensures,
      c.len.ensures,
      c.loop-done.rows.small,
      c.loop-done.rows.ok.0,
      c.loop-done.rows.ok.1,
      length-map rows row_of,
    ) in
    let P : Option ℕ → Type 0 = λ o. AddsRow {E = Unit {0}} (Ok o) (map row_of rows) (map row_of new)
    (not_below c.loop-done.least (row_in c.in-Some.line.now)) in
    inr (no_row _ _ _ _ _ _ c.loop-done.invariant.1 c.in-Some.ensures.some c.in-Some.ensures.front
    (subst P c.in-None.is c.in_ok-address.ensures) number)

pub returns-in_err-address : goal.returns-in_err-address
returns-in_err-address c = out_of_memory c.from_residual.result _ c.from_residual.ensures

pub loop-done-preserved : goal.loop-done-preserved
loop-done-preserved c =
    let old = map row_of c.loop-done.rows.items in
    let new = map row_of c.add_row.new.rows.items in
    let P : Option ℕ → Type 0 = λ o. AddsRow {E = Unit {0}} (Ok o) old new
    (not_below c.loop-done.least (row_in c.in-Some.line.now)) in
    let adds = subst P c.in-Some-2.is c.in_ok-address.ensures in (
      omega (arith, c.loop-done.invariant.0, c.in-Some.ensures.shorter),
      goes_on _ _ _ _ _ _ _ _ adds.0 c.loop-done.invariant.1 c.in-Some.ensures.some c.in-Some.ensures.front
          c.in-Some.ensures.back adds.1 adds.2 adds.3,
    )

pub returns : goal.returns
returns c =
    let none : length c.loop-done.rest.now ≡ 0 = elim c.loop-done-test.branch [
      | else-loop-done-test w ↦ omega (arith, c.loop-done.invariant.0, w.loop-done-test.false)
      | then-loop-done-test+then-is_empty w ↦ grind (arith, common_steps, w.if-is_empty.true)
    ] in
    ended _ _ _ _ c.loop-done.invariant.1 none
