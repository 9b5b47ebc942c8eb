use Rattle.std.proofs.Common.{◌≡◌, ◌++◌, ℕ, List, OnOk, subst}
use Rattle.code_drafts.specs.Written.{addresses_of}
use Rattle.code.proofs.ItemParts.{read_same}
use Rattle.code.proofs.item.put_read_line.Goals as goal

pub returns : goal.returns
returns c =
    subst (λ (l : List ℕ). OnOk c.put_read.result (c.put_read.new.bytes.items ≡ c.args.bytes.now.items ++ l))
    (read_same (addresses_of c.args.addresses.now) c.array_of-letters.ensures.size c.array_of-letters.ensures.address
    c.array_of-words.ensures.size c.array_of-words.ensures.address)
    c.put_read.ensures
