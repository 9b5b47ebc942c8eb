use Rattle.std.proofs.Common.{◌≡◌, arith, drop, replicate, subst, Ok}
use Rattle.zcore_standard.specs.Characters.{print_codes}
use Rattle.machine_frames.specs.Went.{Told}
use Rattle.machine_frames.proofs.Steps.{told_err}
use Rattle.machine_opcodes.proofs.Transcripts.{grew_still, grew_after}
use Rattle.machine_standard_texts.proofs.Adding.{codes_none}
use Rattle.machine_standard_tables.proofs.Rows.{spaces_more, spaces_stop}
use Rattle.machine_standard_tables.proofs.printing.print_spaces.Goals as goal

pub loop-init : goal.loop-init
loop-init c = record {
  told = codes_none c.args.characters.now _ _ c.requires.sound;
  grew = grew_still _ _ c.requires.text;
}

pub returns-in_err-print_code-clause-told : goal.returns-in_err-print_code-clause-told
returns-in_err-print_code-clause-told c = told_err _ c.from_residual.ensures.1
    (spaces_stop c.args.characters.now c.loop.counter c.args.count (omega arith)
    (spaces_more c.args.characters.now c.loop.counter c.loop.invariant.told c.in_err-print_code.ensures.told))

pub loop-preserved : goal.loop-preserved
loop-preserved c = record {
  told = spaces_more c.args.characters.now c.loop.counter c.loop.invariant.told c.in_ok-print_code.ensures.told;
  grew = grew_after c.loop.invariant.grew c.print_code.ensures.text;
}

pub returns-clause-told : goal.returns-clause-told
returns-clause-told c =
    let all : c.loop.counter ≡ c.args.count = omega arith in
    subst
    (λ n. Told (Ok tt) c.args.store.now (drop c.args.start c.args.text.now.items) c.loop.store
    (drop c.args.start c.loop.text.items) (print_codes c.args.characters.now (replicate n 32)))
    all c.loop.invariant.told
