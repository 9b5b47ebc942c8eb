use Rattle.std.proofs.Common.{arith}
use Rattle.derive_tokens.specs.Held.{names_of}
use Rattle.derive_entries.specs.Arrays.{first_place}
use Rattle.derive_addresses.specs.Made.{entry_arms}
use Rattle.derive_addresses.specs.Views.{access_of}
use Rattle.derive_addresses.proofs.EntryRounds.{arm_put, one_more}
use Rattle.derive_addresses.proofs.made.entry_arms.Goals as goal

pub loop-k-preserved : goal.loop-k-preserved
loop-k-preserved c = record {
  count = one_more c.loop-k.arms.items c.push.new.self.items c.entry_arm.result c.loop-k.k c.in_ok-push.ensures.items
      c.loop-k.invariant.count;
  value = arm_put c.loop-k.arms.items c.push.new.self.items c.entry_arm.result (access_of c.args.access)
      (names_of c.args.places.now) c.loop-k.k (entry_arms (access_of c.args.access) first_place (names_of c.args.places.now))
      c.in_ok-push.ensures.items c.entry_arm.ensures (omega arith) c.loop-k.invariant.value;
}
