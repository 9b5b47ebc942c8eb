use Rattle.std.proofs.Common.{arith}
use Rattle.derive_tokens.specs.Held.{names_of}
use Rattle.derive_values.specs.Values.{first_text}
use Rattle.derive_routines.specs.Made.{text_arms}
use Rattle.derive_routines.proofs.Rounds.{one_more, text_arm_put}
use Rattle.derive_routines.proofs.made.text_arms.Goals as goal

pub loop-k-preserved : goal.loop-k-preserved
loop-k-preserved c = record {
  count = one_more c.loop-k.arms.items c.push.new.self.items c.text_arm.result c.loop-k.k c.in_ok-push.ensures.items
      c.loop-k.invariant.count;
  value = text_arm_put c.loop-k.arms.items c.push.new.self.items c.text_arm.result (names_of c.args.texts.now) c.loop-k.k
      (text_arms first_text (names_of c.args.texts.now)) c.in_ok-push.ensures.items c.text_arm.ensures (omega arith)
      c.loop-k.invariant.value;
}
