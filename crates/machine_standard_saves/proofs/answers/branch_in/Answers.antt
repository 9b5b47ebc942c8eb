use Rattle.std.proofs.Common.{List, ℕ, ap, sym, ◌∙◌, arith, length}
use Rattle.zcore.specs.Instruction.{branch_at}
use Rattle.machine_frames.specs.Contents.{memory_of}
use Rattle.machine_standard_saves.proofs.answers.branch_in.Goals as goal

pub branch_at-requires : goal.branch_at-requires
branch_at-requires c = omega (
  arith,
  ap length (c.memory.ensures ∙ ap memory_of c.store.ensures),
  c.requires.short,
)

pub overflow_cast-result : goal.overflow_cast-result
overflow_cast-result c = omega (
  arith,
  c.in-Ok.ensures.within,
  ap length (c.memory.ensures ∙ ap memory_of c.store.ensures),
  c.requires.short,
)

pub returns-in-Ok : goal.returns-in-Ok
returns-in-Ok c = (
  ap (λ (m : List ℕ). branch_at m c.args.at) (sym (c.memory.ensures ∙ ap memory_of c.store.ensures))
      ∙ sym c.in-Ok.ensures.branch,
  omega (
    arith,
    c.in-Ok.ensures.within,
    ap length (c.memory.ensures ∙ ap memory_of c.store.ensures),
    c.requires.short,
  ),
)

pub returns-in-Err : goal.returns-in-Err
returns-in-Err c =
    ap (λ (m : List ℕ). branch_at m c.args.at) (sym (c.memory.ensures ∙ ap memory_of c.store.ensures))
    ∙ sym c.in-Err.ensures.branch
