use Rattle.std.proofs.Common.{refl}
use Rattle.std.proofs.lemmas.Bool.{eq-eqb, ne_eqb}
use Rattle.zcore_versions.specs.SmallObjects.{print_object}
use Rattle.machine_frames.proofs.Steps.{went_then, went_no_further, told_went, told_then, told_err, told_still}
use Rattle.machine_versions.proofs.printing.print_object.Goals as goal

pub returns-in_err-test_object-clause-told : goal.returns-in_err-test_object-clause-told
unfolding print_object
returns-in_err-test_object-clause-told c = told_err _ c.from_residual.ensures.1
    (told_went _ _ (went_no_further _ c.in_err-test_object.ensures.tested))

pub returns-in_err-table-clause-told : goal.returns-in_err-table-clause-told
unfolding print_object
returns-in_err-table-clause-told c =
    told_err _ c.from_residual-in_err-table.ensures.1
    (told_went _ _ (went_then _ c.in_ok-test_object.ensures.tested (went_no_further _ c.in_err-table.ensures)))

pub returns-in_err-words-clause-told : goal.returns-in_err-words-clause-told
unfolding print_object
returns-in_err-words-clause-told c =
    told_err _ c.from_residual-in_err-words.ensures.1
    (told_went _ _
    (went_then _ c.in_ok-test_object.ensures.tested
    (went_then _ c.in_ok-table.ensures (went_no_further _ c.in_err-words.ensures))))

pub returns-then-words-eq0-clause-told : goal.returns-then-words-eq0-clause-told
unfolding print_object
returns-then-words-eq0-clause-told c =
    told_then _ (told_went _ _ c.in_ok-test_object.ensures.tested)
    (told_then _ (told_went _ _ c.in_ok-table.ensures)
    (told_then _ (told_went _ _ c.in_ok-words.ensures)
    (rw (eq-eqb _ 0 c.if-words-eq0.true) (told_still _ _ _ c.requires.store.sound refl))))

pub returns-clause-told : goal.returns-clause-told
unfolding print_object
returns-clause-told c =
    told_then _ (told_went _ _ c.in_ok-test_object.ensures.tested)
    (told_then _ (told_went _ _ c.in_ok-table.ensures)
    (told_then _ (told_went _ _ c.in_ok-words.ensures)
    (rw (ne_eqb _ 0 c.if-words-eq0.false) c.print_text.ensures.told)))
