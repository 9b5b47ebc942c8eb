use Rattle.std.proofs.Common.{◌≡◌, ◌+◌, ◌-◌, ◌^◌, ◌∙◌, ℕ, List, length, map, min, reverse, slice_index, ap, sym, arith}
use Rattle.std.proofs.lemmas.List.{length-reverse}
use Rattle.meaning.specs.Views.{program_of}
use Rattle.code_drafts.specs.Layout.{first}
use Rattle.code_instructions.specs.Places.{place_in}
use Rattle.map_text.specs.Text.{row_of}
use Rattle.map_lines.specs.Rows.{lefts_at}
use Rattle.map_lines.specs.declared.routine.TheConstants.{NO_ITEM}
use Rattle.map_lines.proofs.Growing.{added, first_of, others_of}
use Rattle.map_lines.proofs.Rising.{past_end, routine_ends, routine_rises}
use Rattle.map_lines.proofs.routine.put_routine.Goals as goal

pub returns : goal.returns
returns c = λ r is.
    let marked = c.in_ok-put_marks.ensures in
    let x = c.routine-routine.result.now in
    let lefts = lefts_at (program_of c.args.checked.now) c.args.number in
    let left : c.deref.result.now ≡ c.in_ok-left.left.items = c.deref.ensures.value in
    let are : reverse c.deref.result.now ≡ lefts = ap (λ (l : List ℕ). reverse l) left ∙ c.in_ok-left.ensures.left in
    let end : c.place.result ≡ place_in (reverse c.deref.result.now) NO_ITEM =
    c.place.ensures.value ∙ ap (λ (l : List ℕ). place_in (reverse l) NO_ITEM)
    (c.deref-3.ensures.value ∙ sym c.deref.ensures.value) in
    let none : slice_index (reverse c.deref.result.now) NO_ITEM ≡ 0 = past_end (reverse c.deref.result.now) NO_ITEM
    (omega (
      arith,
      length-reverse c.deref.result.now,
      ap (λ (l : List ℕ). length l) left,
      c.in_ok-left.left.ok.0,
      c.in_ok-left.left.ok.1,
      c.in_ok-left.left.small,
    )) in
    let whole : c.place.result ≡ first lefts = omega (arith, end, none, ap (λ (l : List ℕ). first l) are) in (
      row_of c.row_of.result,
      map row_of marked.0,
      added _ _ _ _ _ c.in_ok-push.ensures.items marked.1,
      first_of r x _ c.row_of.result c.args.address is c.routine-routine.ensures.given c.row_of.ensures.routine
          c.row_of.ensures.line c.row_of.ensures.address,
      others_of r x _ (reverse c.deref.result.now) lefts c.args.address (map row_of marked.0) is
          c.routine-routine.ensures.given are marked.4,
      routine_rises c.args.address (place_in (reverse c.deref.result.now) NO_ITEM) c.saturating_add.result
          c.saturating_add-length.result c.row_of.result (map row_of marked.0) c.row_of.ensures.address marked.3
          (c.saturating_add-length.ensures ∙ ap (λ n. min (n + 1) (2 ^ 64 - 1)) end) c.saturating_add.ensures,
      routine_ends c.args.address c.place.result (first lefts) c.saturating_add.result c.saturating_add-length.result
          c.saturating_add-length.ensures c.saturating_add.ensures whole,
    )
