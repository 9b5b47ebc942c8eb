use Rattle.std.proofs.Common.{ap, sym, ◌∙◌, arith, length}
use Rattle.std.proofs.lemmas.List.{length-drop}
use Rattle.machine_standard_windows.proofs.Selecting.{settles_open, settles_lower, settles_begun, settles_on}
use Rattle.machine_standard_windows.proofs.windows.begin_or_drop_upper.Goals as goal

pub returns-then-as_slice-ne0-clause-redraws : goal.returns-then-as_slice-ne0-clause-redraws
returns-then-as_slice-ne0-clause-redraws c = settles_open c.args.start c.args.turn.now c.args.text.now.items
    (λ e. c.if-as_slice-ne0.true (ap length c.as_slice.ensures.value ∙ e))

pub returns-then-turn-eq-LOWER-clause-redraws : goal.returns-then-turn-eq-LOWER-clause-redraws
returns-then-turn-eq-LOWER-clause-redraws c = settles_lower c.args.start c.args.turn.now c.args.text.now.items _
    (ap length (sym c.as_slice.ensures.value) ∙ c.if-as_slice-ne0.false) c.if-turn-eq-LOWER.true
    c.drop_upper.ensures.lower

pub returns-in-None-clause-redraws : goal.returns-in-None-clause-redraws
returns-in-None-clause-redraws c = settles_begun c.args.start _ _ c.args.turn.now c.args.text.now.items
    (ap length (sym c.as_slice.ensures.value) ∙ c.if-as_slice-ne0.false) c.if-turn-eq-LOWER.false c.in-None.is
    c.begun_at.ensures (omega (arith, length-drop c.args.start c.args.text.now.items))

pub returns-in-Some-clause-redraws : goal.returns-in-Some-clause-redraws
returns-in-Some-clause-redraws c = settles_on c.args.start c.args.turn.now _ c.args.text.now.items
    (ap length (sym c.as_slice.ensures.value) ∙ c.if-as_slice-ne0.false) c.if-turn-eq-LOWER.false c.in-Some.is
