-- What the code's programs stand for: their trees, without where they lie in memory.
use Rattle.std.specs.Prelude.{map}
use Rattle.syntax_directives.specs.Views.{directive_tree, text_tree}
use Rattle.syntax.specs.declared.tree.Program.{Program}
use Rattle.syntax.specs.Tree.{ProgramTree}

abbrev pub program_tree : Program → ProgramTree
program_tree p = record {
  directives = map directive_tree p.directives.items;
  abbreviations = map text_tree p.abbreviations.items;
  end = p.end;
  weight = p.weight;
  words = map (λ w. w.now) p.words.items;
}
