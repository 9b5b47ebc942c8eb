use Rattle.std.proofs.Common.{sym, subst, List, Ok, map}
use Rattle.syntax_lexer.specs.Tokens.{Lexes}
use Rattle.syntax_lexer.specs.Results.{source_tokens}
use Rattle.syntax.specs.Views.{program_tree}
use Rattle.meaning.specs.Resolved.{ProgramOf}
use Rattle.meaning.specs.Views.{title_of}
use Rattle.checker.specs.Programs.{resolve_program}
use Rattle.map_lines.specs.Rows.{IsMapOf, Title}
use Rattle.map_lines.proofs.program.map_of.Goals as goal

pub returns : goal.returns
returns c =
    let tree = program_tree c.in_ok-program.program in
    let text = c.in_ok-text.text.items in
    record {
      tokens = c.deref.result.now;
      lexed = subst (λ ts. Lexes 0 1 c.args.source.now (Ok (source_tokens ts))) (sym c.deref.ensures.value)
          c.in_ok-tokens.ensures.meets;
      tree = tree;
      parsed = c.in_ok-program.ensures.found.0;
      is = subst (λ (ts : List Title). IsMapOf c.args.version (resolve_program tree) c.args.story.now ts text)
          c.in_ok-checked.ensures.1.titles
          (subst (λ (p : ProgramOf). IsMapOf c.args.version p c.args.story.now
          (map title_of c.in_ok-checked.checked.routines) text) c.in_ok-checked.ensures.1.program c.in_ok-text.ensures);
    }
