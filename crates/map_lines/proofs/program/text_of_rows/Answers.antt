use Rattle.std.proofs.Common.{◌≡◌, ◌+◌, ◌++◌, ◌∙◌, ℕ, List, ap, map, subst}
use Rattle.zcore.specs.Header.{high_memory_of}
use Rattle.meaning.specs.Views.{program_of, title_of}
use Rattle.map_text.specs.declared.row.Row.{Row}
use Rattle.map_text.specs.Text.{row_of, rows_text}
use Rattle.map_lines.specs.Rows.{AreOf}
use Rattle.meaning.specs.Places.{start_size}
use Rattle.map_lines.proofs.program.text_of_rows.Goals as goal

pub returns : goal.returns
returns c =
    let rows = map row_of c.in_ok-rows.rows.items in
    let begins : c.word_in.result + start_size ≡ high_memory_of c.args.story.now + start_size =
    ap (λ n. n + start_size) c.word_in.ensures in (
      rows,
      c.in_ok-put_rows.ensures
          ∙ ap (λ (rs : List Row). c.in_ok-text.text.items ++ rows_text (map row_of rs)) c.deref.ensures.value
          ∙ ap (λ (t : List ℕ). t ++ rows_text rows) c.in_ok-text.ensures,
      subst (λ (at : ℕ). AreOf c.args.version (program_of c.args.checked.now) at 0
          (map title_of c.args.checked.now.routines) rows) begins c.in_ok-rows.ensures.routines,
      c.in_ok-rows.ensures.ascend,
    )
