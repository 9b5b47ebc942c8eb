use Rattle.std.proofs.Common.{List, length, ap, ◌∙◌, arith}
use Rattle.std.proofs.lemmas.List.{with_items_is}
use Rattle.code_drafts.specs.declared.item.Item as code
use Rattle.code_drafts.specs.Code.{items_of}
use Rattle.code_drafts.specs.Writing.{in_order}
use Rattle.code_drafts.proofs.draft.into_items.Goals as goal

pub returns : goal.returns
returns c =
    let row : List code.Item = c.put_in_order.new.items in
    ap items_of (with_items_is c.args.draft.items row
    (omega (arith, c.put_in_order.auto.items, c.deref_mut.ensures.len)))
    ∙ c.put_in_order.ensures
    ∙ ap (λ (xs : List code.Item). in_order (length (items_of xs)) (items_of xs)) c.deref_mut.ensures.value
