-- What the code's groups of tests stand for.
use Rattle.code_items.specs.Statements.{Group}
use Rattle.code_items.specs.Statements as statements
use Rattle.code_items.specs.declared.group.Group as code_group
use Rattle.code_items.specs.declared.group.Group.TheVariants as groups

-- a group of tests of the code
abbrev pub group_of : code_group.Group → Group
group_of (groups.Numbers ns) = statements.numbers ns.items
group_of (groups.Range low high) = statements.range low high
