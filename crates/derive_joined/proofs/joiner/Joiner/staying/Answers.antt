use Rattle.std.proofs.Common.{◌∙◌, ◌++◌, ap, sym, take, drop}
use Rattle.derive_joined.proofs.Stretches.{held_nothing_in_code, held_nothing_in_comment}
use Rattle.derive_joined.proofs.joiner.Joiner.staying.Goals as goal

pub returns-in-Code-clause-stays : goal.returns-in-Code-clause-stays
returns-in-Code-clause-stays c =
    let j = c.args.self.now in
    let bytes = c.args.bytes.now in
    let count = c.code_length.result in
    rw c.in-Code.is
    (held_nothing_in_code j.held.items j.ends bytes ∙ c.code_length.ensures.stays
    ∙ ap (λ xs. take count bytes ++ xs) (sym (held_nothing_in_code j.held.items j.ends (drop count bytes))))

pub returns-in-Comment-clause-stays : goal.returns-in-Comment-clause-stays
returns-in-Comment-clause-stays c =
    let j = c.args.self.now in
    let bytes = c.args.bytes.now in
    let count = c.comment_length.result in
    rw c.in-Comment.is
    (held_nothing_in_comment j.held.items j.ends bytes ∙ c.comment_length.ensures.stays
    ∙ ap (λ xs. take count bytes ++ xs) (sym (held_nothing_in_comment j.held.items j.ends (drop count bytes))))
