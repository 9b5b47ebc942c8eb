use Rattle.std.proofs.Common.{◌≡◌, ◌<◌, ◌∙◌, ap, sym, arith, length, take, drop}
use Rattle.zcore.specs.Instruction.{operand, operands}
use Rattle.machine_decoding.proofs.Decoding.{seen_err}
use Rattle.machine_decoding.proofs.OperandsRead.{reads_more, reads_no_more, read_on, read_all}
use Rattle.std.proofs.lemmas.List.{length-take-le, get_or-take, drop_all, length-set}
use Rattle.machine_decoding.proofs.decode.read_each.Goals as goal

pub returns-in_err-operand-clause-operands : goal.returns-in_err-operand-clause-operands
returns-in_err-operand-clause-operands c =
    let types = take c.args.count c.args.types.now in
    let lt : c.loop-i.i < length types = omega (arith, length-take-le c.args.count c.args.types.now (omega arith)) in
    seen_err _ _ _ _ c.from_residual.ensures.1
    (reads_no_more c.args.story.now types c.loop-i.operands c.loop-i.i c.loop-i.after _ _ lt
    (c.in_err-operand.ensures.operand ∙ ap (λ t. operand c.args.story.now t c.loop-i.after)
    (sym (get_or-take c.args.count c.args.types.now c.loop-i.i 0 (omega arith)))) c.loop-i.invariant.read)

pub loop-i-preserved : goal.loop-i-preserved
loop-i-preserved c =
    let types = take c.args.count c.args.types.now in
    let lt : c.loop-i.i < length types = omega (arith, length-take-le c.args.count c.args.types.now (omega arith)) in
    record {
      read = reads_more c.args.story.now types c.loop-i.operands c.loop-i.i c.loop-i.after c.in_ok-operand.next
          c.in_ok-operand.operand _ lt (omega (arith, c.loop-i.invariant.size))
          (c.in_ok-operand.ensures.operand ∙ ap (λ t. operand c.args.story.now t c.loop-i.after)
          (sym (get_or-take c.args.count c.args.types.now c.loop-i.i 0 (omega arith)))) c.loop-i.invariant.read;
      within = c.in_ok-operand.ensures.within;
      size = length-set _ _ _ ∙ c.loop-i.invariant.size;
    }

pub returns-clause-operands : goal.returns-clause-operands
returns-clause-operands c =
    let types = take c.args.count c.args.types.now in
    let size : length types ≡ c.args.count = length-take-le c.args.count c.args.types.now (omega arith) in
    let all : c.loop-i.i ≡ c.args.count = omega arith in
    read_all c.args.story.now types (take c.args.count c.loop-i.operands) c.loop-i.after _
    (c.loop-i.invariant.read
    ∙ ap (λ n. read_on (take n c.loop-i.operands) (operands c.args.story.now (drop n types) c.loop-i.after)) all
    ∙ ap (λ l. read_on (take c.args.count c.loop-i.operands) (operands c.args.story.now l c.loop-i.after))
    (drop_all c.args.count types (omega arith)))
