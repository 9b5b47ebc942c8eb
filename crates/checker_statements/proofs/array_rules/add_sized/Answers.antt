use Rattle.std.proofs.Common.{◌++◌, ap, ◌∙◌}
use Rattle.std.specs.Prelude.{replicate}
use Rattle.std.specs.List.{flat_map}
use Rattle.syntax_trees.specs.declared.tree.Width.{Width}
use Rattle.checker_values.specs.Scope.{file_in}
use Rattle.checker_statements.specs.Arrays.{entry_bytes}
use Rattle.checker_statements.proofs.ArrayBytes.{sized_breaks, sized_adds}
use Rattle.checker_statements.proofs.array_rules.add_sized.Goals as goal

pub returns-clause-bytes : goal.returns-clause-bytes
returns-clause-bytes c =
    sized_adds (file_in c.args.file.now) c.args.kind c.args.values.now _ c.literal-size.result
    c.zeros_of-count.result c.args.bytes.now.items c.add_number.new.bytes.items c.add_zeros.new.bytes.items
    c.requires.one c.literal-size.ensures.value c.zeros_of-count.ensures.value
    c.in_ok-add_number.ensures
    (c.in_ok-add_zeros.ensures ∙ ap (λ (w : Width). c.add_number.new.bytes.items
    ++ flat_map (entry_bytes w) (replicate c.zeros_of-count.result 0)) c.width_of.ensures)

pub returns-clause-breaches : goal.returns-clause-breaches
returns-clause-breaches c =
    sized_breaks c.args.file.now.table.entries c.args.position c.args.kind c.args.values.now _
    c.literal-size.result c.args.tally.now c.literal-size.new.tally c.zeros_of-count.new.tally c.requires.one
    c.literal-size.ensures.value c.literal-size.ensures.breaches c.zeros_of-count.ensures.breaches
