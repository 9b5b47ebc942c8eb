use Rattle.std.proofs.Common.{arith, inl, inr}
use Rattle.machine_decoding.proofs.Decoding.{seen_err}
use Rattle.zcore_standard.proofs.Decoding.{decoded_types, decoded_counted, decoded_operands, decoded_ending}
use Rattle.zcore_standard.proofs.Decoding.{decoded_whole, Typed}
use Rattle.zcore_standard.proofs.decode.decode_row.Goals as goal

pub returns-in_err-types-clause-instruction : goal.returns-in_err-types-clause-instruction
returns-in_err-types-clause-instruction c = seen_err _ _ _ _ c.from_residual.ensures.1
    (decoded_types c.args.story.now c.args.at c.args.row _ c.in_err-types.ensures.types)

pub returns-then-count-row-clause-instruction : goal.returns-then-count-row-clause-instruction
returns-then-count-row-clause-instruction c = decoded_counted c.args.story.now c.args.at c.args.row
    _ _ _ (omega (arith, c.in_ok-types.ensures.few))
    (elim c.then-count-row.either [ inl a ↦ inl a | inr b ↦ inr b.1 ]) c.in_ok-types.ensures.types

pub returns-in_err-after-clause-instruction : goal.returns-in_err-after-clause-instruction
returns-in_err-after-clause-instruction c =
    let typed : Typed c.args.story.now c.args.at c.args.row _ _ _ = record {
      few = omega (arith, c.in_ok-types.ensures.few);
      least = omega arith;
      most = omega arith;
      types_are = c.in_ok-types.ensures.types;
    } in
    seen_err _ _ _ _ c.from_residual-in_err-after.ensures.1
    (decoded_operands c.args.story.now c.args.at c.args.row _ _ _ _ typed
    c.in_err-after.ensures.operands)

pub returns-in_err-ending-clause-instruction : goal.returns-in_err-ending-clause-instruction
returns-in_err-ending-clause-instruction c =
    let typed : Typed c.args.story.now c.args.at c.args.row _ _ _ = record {
      few = omega (arith, c.in_ok-types.ensures.few);
      least = omega arith;
      most = omega arith;
      types_are = c.in_ok-types.ensures.types;
    } in
    seen_err _ _ _ _ c.from_residual-in_err-ending.ensures.1
    (decoded_ending c.args.story.now c.args.at c.args.row _ _ _ _ _ _ typed
    c.in_ok-after.ensures.operands c.in_err-ending.ensures.ending)

pub returns-clause-instruction : goal.returns-clause-instruction
returns-clause-instruction c =
    let typed : Typed c.args.story.now c.args.at c.args.row _ _ _ = record {
      few = omega (arith, c.in_ok-types.ensures.few);
      least = omega arith;
      most = omega arith;
      types_are = c.in_ok-types.ensures.types;
    } in
    decoded_whole c.args.story.now c.args.at c.args.row _ _ _ _ _ _ _ _ typed
    c.in_ok-after.ensures.operands c.in_ok-ending.ensures.ending
