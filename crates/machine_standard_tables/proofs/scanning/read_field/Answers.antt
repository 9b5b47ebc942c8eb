use Rattle.std.proofs.Common.{sym, ◌∙◌, arith}
use Rattle.machine_frames.proofs.Steps.{went_err}
use Rattle.machine_standard_tables.proofs.Fields.{field_past, field_word, field_byte}
use Rattle.machine_standard_tables.proofs.scanning.read_field.Goals as goal

pub returns-then-at-ge-READABLE-clause-went : goal.returns-then-at-ge-READABLE-clause-went
returns-then-at-ge-READABLE-clause-went c = field_past c.args.form c.args.at _ c.requires (omega arith)

pub returns-then-has_words-clause-went : goal.returns-then-has_words-clause-went
returns-then-has_words-clause-went c = field_word _ _ c.args.form c.args.at
    (sym c.has_words.ensures ∙ c.if-has_words.true) c.read_word.ensures

pub returns-in_err-byte-clause-went : goal.returns-in_err-byte-clause-went
returns-in_err-byte-clause-went c = went_err _ c.from_residual.ensures.1
    (field_byte _ _ c.args.form c.args.at (sym c.has_words.ensures ∙ c.if-has_words.false) c.in_err-byte.ensures)

pub returns-clause-went : goal.returns-clause-went
returns-clause-went c = field_byte _ _ c.args.form c.args.at
    (sym c.has_words.ensures ∙ c.if-has_words.false) c.in_ok-byte.ensures
