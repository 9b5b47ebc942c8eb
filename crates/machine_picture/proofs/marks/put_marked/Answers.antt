use Rattle.std.proofs.Common.{arith, refl}
use Rattle.machine_picture.proofs.Marking.{marked_all, marked_next, without_marks_is_text}
use Rattle.machine_picture.proofs.marks.put_marked.Goals as goal

pub loop-i-init : goal.loop-i-init
loop-i-init c = record { so_far = refl }

pub loop-i-preserved : goal.loop-i-preserved
loop-i-preserved c = record {
  so_far = marked_next c.args.text.now c.args.each.now c.args.out.now.items _ _ _ c.loop-i.i c.loop-i.before _
      c.style_at-style.result (omega arith) refl c.style_at-style.ensures c.loop-i.invariant.so_far
      c.in_ok-put_change.ensures c.in_ok-push.ensures.items;
}

-- the text is what is left without marks
pub returns-clause-text : goal.returns-clause-text
returns-clause-text c = without_marks_is_text c.args.text.now c.args.each.now

pub returns-in_err-put_change-clause-text : goal.returns-in_err-put_change-clause-text
returns-in_err-put_change-clause-text c = without_marks_is_text c.args.text.now c.args.each.now

pub returns-in_err-push-clause-text : goal.returns-in_err-push-clause-text
returns-in_err-push-clause-text c = without_marks_is_text c.args.text.now c.args.each.now

pub returns-in_err-put_change-2-clause-text : goal.returns-in_err-put_change-2-clause-text
returns-in_err-put_change-2-clause-text c = without_marks_is_text c.args.text.now c.args.each.now

pub returns-clause-marked : goal.returns-clause-marked
returns-clause-marked c = marked_all c.args.text.now c.args.each.now c.args.out.now.items _ _ c.loop-i.i c.loop-i.before
    (omega arith) c.loop-i.invariant.so_far c.in_ok-put_change-2.ensures
