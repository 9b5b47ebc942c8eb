use Rattle.std.proofs.Common.{arith, ap, ◌∙◌}
use Rattle.std.specs.List.{suffix_len}
use Rattle.std.proofs.lemmas.List.Sums.{suffix_len-le-length}
use Rattle.zcore_standard.specs.Windows.{is_new_line}
use Rattle.machine_picture.specs.Drawing.{picture_of}
use Rattle.machine_picture.specs.Picture.{row_count, rows_text}
use Rattle.machine_picture.proofs.Rows.{trimmed}
use Rattle.machine_picture.proofs.picture.Picture.put_text.Goals as goal

pub overflow_sub-ended : goal.overflow_sub-ended
overflow_sub-ended c =
    let k = c.new_lines_at_end.ensures ∙ ap (suffix_len is_new_line) c.as_slice-2.ensures.value in
    omega (arith, k, suffix_len-le-length is_new_line c.put_rows.new.text.items, c.len.ensures)

pub returns : goal.returns
returns c = trimmed c.put_rows.new.text.items _ (picture_of c.args.self.now) c.len.result c.new_lines_at_end.result
    (c.in_ok-put_rows.ensures ∙ ap (λ l. rows_text (row_count l) l) c.as_slice.ensures.value) (omega arith)
    (c.new_lines_at_end.ensures ∙ ap (suffix_len is_new_line) c.as_slice-2.ensures.value) c.truncate.ensures.items
