use Rattle.std.proofs.Common.{◌≡◌, ◌++◌, ◌%◌, slice_index, sym, subst}
use Rattle.code_drafts.specs.declared.item.Item as code
use Rattle.code_drafts.specs.Code.{item_of}
use Rattle.code_drafts.specs.Bytes.{bytes_of_all}
use Rattle.code_drafts.specs.Written.{addresses_of, sizes_in}
use Rattle.code.specs.ItemCode.{read_code}
use Rattle.code.specs.ItemBytes.{item_bytes}
use Rattle.code.proofs.ItemParts.{no_text}
use Rattle.code.proofs.item.put_flow.Goals as goal

pub returns-in_ok-put_read_line-in-Read : goal.returns-in_ok-put_read_line-in-Read
returns-in_ok-put_read_line-in-Read c =
    let sizes = sizes_in c.args.sizes.now in
    let a = addresses_of c.args.addresses.now in
    let t = c.in-Read.text in
    let q = c.in-Read.parse in
    subst (λ (i : code.Item). c.put_read_line.new.bytes.items ≡ c.args.bytes.now.items
    ++ item_bytes sizes a c.args.offset (item_of i)) (sym c.in-Read.is)
    (no_text c.args.bytes.now.items c.put_read_line.new.bytes.items
    (bytes_of_all (read_code a (slice_index sizes.arrays t % 65536) (slice_index a.arrays t)
    (slice_index sizes.arrays q % 65536) (slice_index a.arrays q))) c.in_ok-put_read_line-in-Read.ensures)
