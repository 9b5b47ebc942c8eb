-- Where the texts of tokens print, so do those of the program that they are.
use Rattle.std.proofs.Common.{List}
use Rattle.std.specs.List.{All}
use Rattle.std.proofs.lemmas.List.Elements.{All-nil, All-cons, All-append}
use Rattle.syntax_lexer.specs.Token.{Lexeme}
use Rattle.syntax_directives.specs.Printable.{IsPrintableText, IsPrintableDirective}
use Rattle.syntax.specs.Tree.{EntryTree, directives_of, abbreviations_of, ProgramTree}
use Rattle.syntax.specs.Grammar.{IsEntry, e_directive, e_abbreviate, IsEntries, entries_stop, entries_next, IsProgram}
use Rattle.syntax.specs.Grammar.{program}
use Rattle.syntax.specs.Printable.{HasPrintableTexts}
use Rattle.syntax.specs.Laws.{PrintableTrees}
use Rattle.syntax_directives.proofs.Printable.{Prints, after, directive_prints, after_directive, texts_print}
use Rattle.syntax_directives.proofs.Printable.{after_texts}

after_entry : {ts r : List Lexeme} {e : EntryTree} → IsEntry ts e r → Prints ts → Prints r
after_entry (e_directive a) h = after_directive a h
after_entry (e_abbreviate a lt) h = after (after_texts a (after h))

directives_print : {ts r : List Lexeme} {es : List EntryTree} → IsEntries ts es r → Prints ts
    → All IsPrintableDirective (directives_of es)
directives_print entries_stop h = All-nil IsPrintableDirective
directives_print (entries_next {es = es} (e_directive {d = d} a) b) h = All-cons IsPrintableDirective d
    (directives_of es) (directive_prints a h) (directives_print b (after_directive a h))
directives_print (entries_next (e_abbreviate a lt) b) h = directives_print b (after_entry (e_abbreviate a lt) h)

abbreviations_print : {ts r : List Lexeme} {es : List EntryTree} → IsEntries ts es r → Prints ts
    → All IsPrintableText (abbreviations_of es)
abbreviations_print entries_stop h = All-nil IsPrintableText
abbreviations_print (entries_next (e_directive a) b) h = abbreviations_print b (after_directive a h)
abbreviations_print (entries_next {es = es} (e_abbreviate {xs = xs} a lt) b) h = All-append IsPrintableText xs
    (abbreviations_of es) (texts_print a (after h)) (abbreviations_print b (after_entry (e_abbreviate a lt) h))

program_prints : {ts : List Lexeme} {p : ProgramTree} → IsProgram ts p → Prints ts → HasPrintableTexts p
program_prints (program a) h = (directives_print a h, abbreviations_print a h)

pub printable_trees : PrintableTrees
printable_trees ts p a h = program_prints a (record { all = h })
