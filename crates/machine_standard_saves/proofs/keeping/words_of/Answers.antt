use Rattle.std.proofs.Common.{List, ℕ, ap, arith, length, take, ◌∙◌}
use Rattle.std.proofs.lemmas.List.{length-take-le}
use Rattle.machine_frames.specs.Contents.{Contents}
use Rattle.machine_standard_saves.proofs.WrittenFrames.{words_between}
use Rattle.machine_standard_saves.proofs.keeping.words_of.Goals as goal

pub part_of-requires-clause-end : goal.part_of-requires-clause-end
part_of-requires-clause-end c =
    let s = c.args.store.now.store in
    omega (
      arith,
      ap (λ (l : List ℕ). length l) (c.words.ensures ∙ ap (λ (x : Contents). take 72559 x.cells) c.store.ensures),
      length-take-le 72559 s.cells (omega (arith, c.requires.sound.size)),
      c.requires.most,
    )

pub returns : goal.returns
returns c =
    c.part_of.ensures
    ∙ words_between c.args.store.now.store.cells c.words.result.now c.args.from c.args.to
    (c.words.ensures ∙ ap (λ (x : Contents). take 72559 x.cells) c.store.ensures) c.requires.order c.requires.most
    (omega (arith, c.requires.sound.size))
