use Rattle.std.proofs.Common.{◌++◌, ◌+◌, ◌-◌, map, arith}
use Rattle.derive_routines.specs.Held.{arm_of, search_of}
use Rattle.derive_routines.specs.Search.{group_arm, group_arms, group_texts}
use Rattle.derive_routines.proofs.Groups.{arms_on, one_more, text_on}
use Rattle.derive_routines.proofs.search.put_groups.Goals as goal

pub loop-j-preserved : goal.loop-j-preserved
loop-j-preserved c =
    let x = search_of c.args.search in
    let count = c.group_count-count.result in
    let k = c.args.k + c.loop-j.j in
    record {
      made = one_more c.loop-j.next.items c.put_one.new.next.items (group_arm x k (map arm_of c.front.result.now)) c.loop-j.j
          c.in_ok-put_one.ensures.arm c.loop-j.invariant.made;
      text = text_on c.loop-j.text.items (c.args.text.now.items ++ group_texts x count c.args.k (map arm_of c.args.arms.now))
          c.put_one.new.text.items x (count - c.loop-j.j) k (count - (c.loop-j.j + 1)) (c.args.k + (c.loop-j.j + 1))
          c.loop-j.rest.now c.front.result.now c.after-rest.result.now (omega arith) (omega arith) (omega arith)
          c.front.ensures c.after-rest.ensures c.in_ok-put_one.ensures.text c.loop-j.invariant.text;
      rest = arms_on (map arm_of c.loop-j.next.items) (group_arms x count c.args.k (map arm_of c.args.arms.now))
          (map arm_of c.put_one.new.next.items) x (count - c.loop-j.j) k (count - (c.loop-j.j + 1))
          (c.args.k + (c.loop-j.j + 1)) c.loop-j.rest.now c.front.result.now c.after-rest.result.now (omega arith)
          (omega arith) (omega arith) c.front.ensures c.after-rest.ensures c.in_ok-put_one.ensures.arm
          c.loop-j.invariant.rest;
    }
