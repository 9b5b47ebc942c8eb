use Rattle.std.proofs.Common.{ap, sym, ◌∙◌, ◌&&◌, nat_le, nat_lt, arith}
use Rattle.machine_frames.proofs.Bytes.{write_byte_went, write_byte_none, writable_inside}
use Rattle.machine_frames.proofs.memory.write_byte.Goals as goal

pub returns-then-not-is_writable : goal.returns-then-not-is_writable
returns-then-not-is_writable c =
    let base = c.requires.headed.static_base in
    write_byte_none _ c.args.at c.args.byte c.requires.sound
    (ap (λ x. nat_le 64 c.args.at && nat_lt c.args.at x) (sym base) ∙ sym c.is_writable.ensures
    ∙ c.if-not-is_writable.true)

pub overflow_add-at : goal.overflow_add-at
overflow_add-at c =
    let holds = ap (λ x. nat_le 64 c.args.at && nat_lt c.args.at x) (sym c.requires.headed.static_base)
    ∙ sym c.is_writable.ensures ∙ c.if-not-is_writable.false in
    let inside = writable_inside _ c.args.at c.requires.sound holds in
    omega (arith, inside)

pub returns : goal.returns
returns c =
    let base = c.requires.headed.static_base in
    write_byte_went _ _ c.args.at c.args.byte c.requires.sound
    (ap (λ x. nat_le 64 c.args.at && nat_lt c.args.at x) (sym base) ∙ sym c.is_writable.ensures
    ∙ c.if-not-is_writable.false)
    c.in_ok-put.ensures.cells c.put.ensures.fixed c.in_ok-put.ensures.beginning
