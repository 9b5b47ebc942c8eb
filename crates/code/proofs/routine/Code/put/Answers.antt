use Rattle.std.proofs.Common.{◌≡◌, ◌%◌, List, [], ◌∷◌, ◌++◌, ap, ◌∙◌}
use Rattle.code_drafts.specs.Items.{Item}
use Rattle.code_drafts.specs.Code.{items_of}
use Rattle.code_drafts.specs.Written.{addresses_of, sizes_in}
use Rattle.code.specs.Bytes.{code_bytes}
use Rattle.code.proofs.Codes.{code_written}
use Rattle.code.proofs.routine.Code.put.Goals as goal

pub returns-clause-written : goal.returns-clause-written
returns-clause-written c =
    let x = c.self.inside in
    let sizes = sizes_in x.sizes in
    let a = addresses_of c.args.addresses.now in
    let first : c.push.new.self.items ≡ (x.locals % 256) ∷ [] =
    c.in_ok-push.ensures.items ∙ ap (λ z. z ++ (x.locals % 256) ∷ []) c.in_ok-bytes.ensures.items in
    let same = ap items_of c.deref.ensures.value in
    code_written sizes a c.args.self.now (items_of x.items.items) x.locals c.args.story.now.items
    c.extend_from_slice.new.self.items c.push.new.self.items c.put_items.new.bytes.items c.deref-4.result.now
    c.self.view_is first (c.in_ok-put_items.ensures
    ∙ ap (λ (is : List Item). c.push.new.self.items
    ++ code_bytes sizes a is) same) c.deref-4.ensures.value
    c.in_ok-extend_from_slice.ensures.items
