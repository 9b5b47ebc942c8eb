use Rattle.std.proofs.Common.{◌∙◌, arith}
use Rattle.machine_frames.proofs.Pushing.{push_went, push_full_went}
use Rattle.machine_frames.proofs.stack.push.Goals as goal

pub returns-then-top-eq-STACK_SIZE : goal.returns-then-top-eq-STACK_SIZE
returns-then-top-eq-STACK_SIZE c = push_full_went _ c.args.word c.height-top.result c.requires
    c.height-top.ensures.same c.if-top-eq-STACK_SIZE.true

pub returns : goal.returns
returns c =
    push_went _ _ c.put.new.self.store.cells c.args.word c.height-top.result c.requires c.height-top.ensures.same
    (omega arith) c.in_ok-put.ensures.cells c.in_ok-put_long.ensures.cells
    (c.put_long.ensures.fixed ∙ c.put.ensures.fixed)
    (c.in_ok-put_long.ensures.beginning ∙ c.in_ok-put.ensures.beginning)
