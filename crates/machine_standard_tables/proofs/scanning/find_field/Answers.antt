use Rattle.std.proofs.Common.{arith, ◌-◌, ◌+◌, ◌∙◌, sym, subst}
use Rattle.std.proofs.lemmas.Bool.{eq-eqb, ne_eqb}
use Rattle.machine_frames.proofs.Steps.{went_err}
use Rattle.machine_standard_tables.proofs.Fields.{FindsFrom, find_stops, find_here, find_alike, find_on, find_none, left}
use Rattle.machine_standard_tables.proofs.scanning.find_field.Goals as goal

pub returns-in_err-value : goal.returns-in_err-value
returns-in_err-value c =
    let i = c.loop-step in
    went_err _ c.from_residual.ensures.1
    (find_stops _ c.args.form c.args.word c.args.table c.args.count i.at _ (c.args.count - (i.step + 1)) _
    (left c.args.count i.step (omega arith)) i.invariant.same c.in_err-value.ensures.went)

pub returns-then-value-word : goal.returns-then-value-word
returns-then-value-word c =
    let i = c.loop-step in
    find_here _ c.args.form c.args.word c.args.table c.args.count i.at _ (c.args.count - (i.step + 1)) _
    (left c.args.count i.step (omega arith)) i.invariant.same c.in_ok-value.ensures.went
    (eq-eqb _ _ c.if-value-word.true)

pub returns-then-length-eq0 : goal.returns-then-length-eq0
returns-then-length-eq0 c =
    let i = c.loop-step in
    find_alike _ c.args.form c.args.word c.args.table c.args.count i.at _ _ i.invariant.same
    c.in_ok-value.ensures.went (ne_eqb _ _ c.if-value-word.false)
    (sym c.field_length-length.ensures.same ∙ c.if-length-eq0.true)

pub loop-step-preserved : goal.loop-step-preserved
loop-step-preserved c =
    let i = c.loop-step in
    record {
      same = subst (λ n. FindsFrom c.args.store.now c.args.form c.args.word c.args.table c.args.count (i.at + n)
          (c.args.count - (i.step + 1))) (sym c.field_length-length.ensures.same)
          (find_on _ c.args.form c.args.word c.args.table c.args.count i.at _ (c.args.count - (i.step + 1)) _
          (left c.args.count i.step (omega arith)) i.invariant.same c.in_ok-value.ensures.went
          (ne_eqb _ _ c.if-value-word.false));
    }

pub returns : goal.returns
returns c =
    let i = c.loop-step in
    find_none _ c.args.form c.args.word c.args.table c.args.count i.at (c.args.count - i.step) (omega arith)
    c.requires i.invariant.same
