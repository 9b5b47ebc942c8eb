-- Programs whose texts print: each of their bytes is one of 32 to 126.
use Rattle.std.specs.List.{All}
use Rattle.syntax_directives.specs.Printable.{IsPrintableDirective, IsPrintableText}
use Rattle.syntax.specs.Tree.{ProgramTree}

abbrev pub HasPrintableTexts : ProgramTree → Type 0
HasPrintableTexts p = All IsPrintableDirective p.directives × All IsPrintableText p.abbreviations
