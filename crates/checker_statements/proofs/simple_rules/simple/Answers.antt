use Rattle.std.proofs.Common.{◌≡◌, refl, ap}
use Rattle.std.specs.Prelude.{map}
use Rattle.syntax_trees.specs.Views.{name_tree, expression_tree}
use Rattle.syntax_statements.specs.PartViews.{flag_tree, item_tree}
use Rattle.syntax_statements.specs.Tree as written
use Rattle.syntax_statements.specs.Views.{simple_tree}
use Rattle.meaning.specs.declared.resolved.Value.TheVariants as made
use Rattle.meaning.specs.Resolved as values
use Rattle.checker_values.proofs.Walks.{leaf, made_number}
use Rattle.checker_statements.proofs.MadeActions.{made_text, made_new_line, made_quit, made_return_value}
use Rattle.checker_statements.proofs.MadeActions.{made_break, made_continue}
use Rattle.checker_statements.proofs.simple_rules.simple.Goals as goal

pub returns-in-Text : goal.returns-in-Text
returns-in-Text c = rw (c.in-Text.is, made_text c.in-Text.text)
    (leaf c.args.tally.now (values.text_alone c.in-Text.text.now))

pub returns-in-Print : goal.returns-in-Print
returns-in-Print c = let v = c.in-Print in
    let is : simple_tree c.args.s.now ≡ written.print (map item_tree v.all.items) = ap simple_tree v.is in
    rw is (c.print.ensures c.args.around)

pub returns-in-PrintReturn : goal.returns-in-PrintReturn
returns-in-PrintReturn c = let v = c.in-PrintReturn in
    let is : simple_tree c.args.s.now ≡ written.print_return (map item_tree v.all.items) = ap simple_tree v.is in
    rw is (c.print-in-PrintReturn.ensures c.args.around)

pub returns-in-NewLine : goal.returns-in-NewLine
returns-in-NewLine c = rw (c.in-NewLine.is, made_new_line) (leaf c.args.tally.now values.new_line)

pub returns-in-Break : goal.returns-in-Break
returns-in-Break c = rw (c.in-Break.is, made_break) (record { value = refl; breaches = c.break_rule.ensures })

pub returns-in-Continue : goal.returns-in-Continue
returns-in-Continue c = rw (c.in-Continue.is, made_continue)
    (record { value = refl; breaches = c.break_rule-in-Continue.ensures })

pub returns-in-Return : goal.returns-in-Return
returns-in-Return c = rw (c.in-Return.is, made_return_value (made.Number 1), made_number 1)
    (leaf c.args.tally.now (values.return_value (values.number 1)))

pub returns-in-ReturnValue : goal.returns-in-ReturnValue
returns-in-ReturnValue c = let v = c.in-ReturnValue in
    let is : simple_tree c.args.s.now ≡ written.return_value v.position (expression_tree v.e.value)
    = ap simple_tree v.is in
    rw is c.use_value.ensures

pub returns-in-ReturnTrue : goal.returns-in-ReturnTrue
returns-in-ReturnTrue c = rw (c.in-ReturnTrue.is, made_return_value (made.Number 1), made_number 1)
    (leaf c.args.tally.now (values.return_value (values.number 1)))

pub returns-in-ReturnFalse : goal.returns-in-ReturnFalse
returns-in-ReturnFalse c = rw (c.in-ReturnFalse.is, made_return_value (made.Number 0), made_number 0)
    (leaf c.args.tally.now (values.return_value (values.number 0)))

pub returns-in-Quit : goal.returns-in-Quit
returns-in-Quit c = rw (c.in-Quit.is, made_quit) (leaf c.args.tally.now values.quit)

pub returns-in-Read : goal.returns-in-Read
returns-in-Read c = let v = c.in-Read in
    let is : simple_tree c.args.s.now
    ≡ written.read_line (name_tree v.names.value.0) (name_tree v.names.value.1) = ap simple_tree v.is in
    rw (is, ← c.deref.ensures) (c.read.ensures c.args.around)

pub returns-in-Give : goal.returns-in-Give
returns-in-Give c = let v = c.in-Give in
    let is : simple_tree c.args.s.now
    ≡ written.give v.position (expression_tree v.e.value) (map flag_tree v.given.value.items)
    = ap simple_tree v.is in
    rw is (c.give.ensures c.args.around)

pub returns-in-Move : goal.returns-in-Move
returns-in-Move c = let v = c.in-Move in
    let is : simple_tree c.args.s.now
    ≡ written.move v.position (expression_tree v.object.value) (expression_tree v.parent.value)
    = ap simple_tree v.is in
    rw is (c.move_to.ensures c.args.around)

pub returns-in-Remove : goal.returns-in-Remove
returns-in-Remove c = let v = c.in-Remove in
    let is : simple_tree c.args.s.now ≡ written.remove v.position (expression_tree v.e.value) = ap simple_tree v.is in
    rw is c.use_value-in-Remove.ensures

pub returns-in-Effect : goal.returns-in-Effect
returns-in-Effect c = let v = c.in-Effect in
    let is : simple_tree c.args.s.now ≡ written.effect v.position (expression_tree v.e.value) = ap simple_tree v.is in
    rw is c.use_value-in-Effect.ensures
