use Rattle.std.proofs.Common.{sym, subst, ap, ◌∙◌, Ok, refl}
use Rattle.syntax_lexer.specs.FaultNumbers.{no_memory}
use Rattle.syntax_lexer.specs.Token.{lexemes}
use Rattle.syntax_lexer.specs.Tokens.{Lexes, EndsOnce}
use Rattle.syntax_lexer.specs.Results.{source_tokens}
use Rattle.syntax.specs.Views.{program_tree}
use Rattle.story.specs.Large.{limits_by}
use Rattle.story.proofs.Compiling.{is_tree, light, printable}
use Rattle.messages_diagnosis.specs.Needs.{IsFirstGreatest, program_needs}
use Rattle.messages_diagnosis.specs.Figures.{attributes_in, counts_in}
use Rattle.messages_diagnosis.proofs.Accepting.{few_words, few_objects, accepted_program, story_of_tree, refused}
use Rattle.messages_diagnosis.proofs.FewTemporaries.{temporaries_few}
use Rattle.messages_diagnosis.proofs.Refusals.{without_memory, unlexed, unparsed, unchecked}
use Rattle.messages_diagnosis.proofs.measuring.measure.Goals as goal

pub returns-in_err-tokens : goal.returns-in_err-tokens
returns-in_err-tokens c =
    refused c.args.limit c.args.version c.args.source.now c.from_residual.result c.in_err-tokens.field-0.0
    c.from_residual.ensures
    (unlexed (limits_by c.args.limit) c.args.version c.args.source.now c.in_err-tokens.field-0.0 c.in_err-tokens.ensures.meets)

pub returns-in_err-program : goal.returns-in_err-program
returns-in_err-program c =
    let lexed : Lexes 0 1 c.args.source.now (Ok (source_tokens c.deref.result.now)) =
    subst (λ ts. Lexes 0 1 c.args.source.now (Ok (source_tokens ts))) (sym c.deref.ensures.value)
    c.in_ok-tokens.ensures.meets in
    refused c.args.limit c.args.version c.args.source.now c.from_residual-in_err-program.result c.in_err-program.field-0.0
    c.from_residual-in_err-program.ensures
    (unparsed c.args.source.now c.deref.result.now lexed (limits_by c.args.limit) c.args.version c.in_err-program.field-0.0
    c.in_err-program.ensures.grammar
    (λ ten. c.in_err-program.ensures.place ten
    (subst (λ ts. EndsOnce (lexemes ts)) (sym c.deref.ensures.value) c.in_ok-tokens.ensures.ends_once))
    (λ five. (c.in_err-program.ensures.deep five).1) c.in_err-program.ensures.deep_place
    c.in_err-program.ensures.numbers)

pub returns-in_err-checked : goal.returns-in_err-checked
returns-in_err-checked c =
    let lexed : Lexes 0 1 c.args.source.now (Ok (source_tokens c.deref.result.now)) =
    subst (λ ts. Lexes 0 1 c.args.source.now (Ok (source_tokens ts))) (sym c.deref.ensures.value)
    c.in_ok-tokens.ensures.meets in
    let found = c.in_ok-program.ensures.found in
    let p = program_tree c.in_ok-program.program in
    refused c.args.limit c.args.version c.args.source.now c.from_residual-in_err-checked.result c.in_err-checked.field-0.0
    c.from_residual-in_err-checked.ensures
    (unchecked (limits_by c.args.limit) c.args.version c.args.source.now p c.in_err-checked.field-0.0
    (is_tree c.args.source.now c.deref.result.now lexed p found.0 found.1) c.in_err-checked.ensures)

pub returns-in_err-found : goal.returns-in_err-found
returns-in_err-found c =
    refused c.args.limit c.args.version c.args.source.now c.from_residual-in_err-found.result no_memory
    c.from_residual-in_err-found.ensures (without_memory (limits_by c.args.limit) c.args.version c.args.source.now no_memory refl)

pub figures_of-figures-requires : goal.figures_of-figures-requires
figures_of-figures-requires c =
    let lexed : Lexes 0 1 c.args.source.now (Ok (source_tokens c.deref.result.now)) =
    subst (λ ts. Lexes 0 1 c.args.source.now (Ok (source_tokens ts))) (sym c.deref.ensures.value)
    c.in_ok-tokens.ensures.meets in
    let found = c.in_ok-program.ensures.found in
    let checked = c.in_ok-checked.ensures in
    let accepted = accepted_program c.accepted_programs.ensures (program_tree c.in_ok-program.program)
    c.in_ok-checked.checked checked.0 checked.1 in
    record {
      words = few_words c.in_ok-checked.checked accepted;
      few = few_objects c.in_ok-checked.checked accepted;
      short = accepted.few_abbreviations;
      accepted = accepted;
      printable = printable c.accepted_programs.ensures c.printable_tokens.ensures c.printable_trees.ensures
          c.printable_programs.ensures c.args.source.now c.deref.result.now (program_tree c.in_ok-program.program)
          c.in_ok-checked.checked lexed found.0 checked.0 checked.1;
      light = light c.accepted_programs.ensures c.printable_tokens.ensures c.printable_trees.ensures
          c.printable_programs.ensures c.args.source.now c.deref.result.now (program_tree c.in_ok-program.program)
          c.in_ok-checked.checked lexed found.0 checked.0 checked.1 c.small_sources_have_small_code.ensures
          c.args.version;
    }

pub returns : goal.returns
returns c =
    let lexed : Lexes 0 1 c.args.source.now (Ok (source_tokens c.deref.result.now)) =
    subst (λ ts. Lexes 0 1 c.args.source.now (Ok (source_tokens ts))) (sym c.deref.ensures.value)
    c.in_ok-tokens.ensures.meets in
    let parsed = c.in_ok-program.ensures.found in
    let p = program_tree c.in_ok-program.program in
    let q = c.in_ok-checked.checked in
    let checked = c.in_ok-checked.ensures in
    let w = c.tree_figures-of_tree in
    let e = c.in_ok-found.ensures in
    record {
      tree = p;
      is_tree = is_tree c.args.source.now c.deref.result.now lexed p parsed.0 parsed.1;
      lawful = checked.0;
      checked = q;
      is_checked = checked.1;
      figures = e.checked;
      counts = e.counts ∙ ap (λ n. counts_in q n w.result.properties) w.ensures.attributes
          ∙ ap (λ n. counts_in q (attributes_in p.directives) n) w.ensures.properties;
      temporaries = subst (IsFirstGreatest (program_needs p)) (sym e.temporaries)
          (w.ensures.temporaries (temporaries_few p checked.0));
      story = story_of_tree c.args.limit c.args.version p q checked.1 c.in_ok-found.found.story e.checked.story;
    }
