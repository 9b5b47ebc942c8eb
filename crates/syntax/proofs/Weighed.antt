-- What routines weigh.
use Rattle.std.proofs.Common.{List, arith}
use Rattle.std.specs.List.{All}
use Rattle.std.proofs.lemmas.List.Elements.{All-nil, All-cons}
use Rattle.syntax_lexer.specs.Token.{Lexeme}
use Rattle.syntax_directives.specs.Tree.{DirectiveTree}
use Rattle.syntax_directives.specs.Grammar.{IsDirective, d_global, d_global_value, d_constant, d_array, d_attribute}
use Rattle.syntax_directives.specs.Grammar.{d_property, d_property_value, d_object, d_routine}
use Rattle.syntax.specs.Tree.{EntryTree, directives_of, ProgramTree}
use Rattle.syntax.specs.Grammar.{e_directive, e_abbreviate, IsEntries, entries_stop, entries_next, IsProgram, program}
use Rattle.syntax.specs.Laws.{IsWeighed, WeighedRoutines}
use Rattle.syntax_directives.proofs.SpelledStatements.{spelled_Names, spelled_Ss}
use Rattle.syntax_directives.proofs.Spelled.{weighs, weighs_about}

directive_weighed : {ts r : List Lexeme} {d : DirectiveTree} → IsDirective ts d r → IsWeighed d
directive_weighed d_global = tt
directive_weighed (d_global_value a) = tt
directive_weighed (d_constant a) = tt
directive_weighed (d_array o a lt) = tt
directive_weighed d_attribute = tt
directive_weighed d_property = tt
directive_weighed (d_property_value a) = tt
directive_weighed (d_object h a b) = tt
directive_weighed (d_routine a b) = let body = spelled_Ss b in
    (body.signs, body.few, omega (arith, weighs (spelled_Names a), weighs_about body))

entries_weighed : {ts r : List Lexeme} {es : List EntryTree} → IsEntries ts es r → All IsWeighed (directives_of es)
entries_weighed entries_stop = All-nil IsWeighed
entries_weighed (entries_next {es = es} (e_directive {d = d} a) b) = All-cons IsWeighed d (directives_of es)
    (directive_weighed a) (entries_weighed b)
entries_weighed (entries_next (e_abbreviate a lt) b) = entries_weighed b

program_weighed : {ts : List Lexeme} {p : ProgramTree} → IsProgram ts p → All IsWeighed p.directives
program_weighed (program a) = entries_weighed a

pub weighed_routines : WeighedRoutines
weighed_routines ts p a = program_weighed a
