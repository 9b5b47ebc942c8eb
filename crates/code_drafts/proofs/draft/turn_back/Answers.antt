use Rattle.std.proofs.Common.{arith}
use Rattle.std.proofs.lemmas.List.{length-map}
use Rattle.code_drafts.specs.Code.{item_of}
use Rattle.code_drafts.proofs.Drafts.{turned_there}
use Rattle.code_drafts.proofs.draft.turn_back.Goals as goal

pub returns : goal.returns
returns c =
    turned_there c.args.draft.now.items.items c.args.number c.len-first.result _ c.index_mut.result.now
    c.turn_item_back.new.item
    (omega (arith, c.requires, length-map c.args.draft.now.items.items item_of))
    (omega (arith, c.len-first.ensures, c.args.draft.now.items.ok.0)) c.index_mut.ensures.value c.turn_item_back.ensures
