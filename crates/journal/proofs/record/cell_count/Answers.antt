use Rattle.std.proofs.Common.{◌*◌, ◌<◌, ◌∙◌, ℕ, List, ap, arith, length, refl}
use Rattle.std.proofs.lemmas.List.{take_all}
use Rattle.std.proofs.lemmas.List.Elements.{All-get_or}
use Rattle.journal.specs.Pages.{cells_of}
use Rattle.journal.proofs.Steps.{page_at, page_within}
use Rattle.journal.proofs.record.cell_count.Goals as goal

pub loop-slot-init : goal.loop-slot-init
loop-slot-init c = record { counted = refl }

pub page_size-count-requires : goal.page_size-count-requires
page_size-count-requires c = All-get_or (λ (p : ℕ). p * 64 < c.args.len) c.args.pages.now c.loop-slot.slot 0 (omega arith)
    c.requires.named

pub overflow_add-count : goal.overflow_add-count
overflow_add-count c = omega (
  arith,
  page_within c.args.len c.args.pages.now c.loop-slot.slot 0 (omega arith),
  c.loop-slot.invariant.counted,
  c.page_size-count.ensures.result,
  c.requires.within,
)

pub loop-slot-preserved : goal.loop-slot-preserved
loop-slot-preserved c = record {
  counted = omega (
    arith,
    page_at c.args.len c.args.pages.now c.loop-slot.slot 0 (omega arith),
    c.loop-slot.invariant.counted,
    c.page_size-count.ensures.result,
  );
}

pub returns : goal.returns
returns c = c.loop-slot.invariant.counted ∙ ap (λ (t : List ℕ). length (cells_of c.args.len t))
    (take_all c.loop-slot.slot c.args.pages.now (omega arith))
