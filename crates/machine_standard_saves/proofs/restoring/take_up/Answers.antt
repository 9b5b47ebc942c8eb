use Rattle.std.proofs.Common.{ℕ, ap, sym, ◌∙◌, arith, drop, length, subst}
use Rattle.std.proofs.lemmas.List.{length-drop}
use Rattle.zcore_standard.specs.Extension.{with_words_of}
use Rattle.machine_standard_saves.specs.Restored.{AreStacks}
use Rattle.machine_standard_saves.proofs.Resumed.{fill_and_stop, filled_size, store_then, taken_as, words_kept}
use Rattle.machine_standard_saves.proofs.restoring.take_up.Goals as goal

pub keep_words-requires : goal.keep_words-requires
keep_words-requires c = record {
  header = omega (arith, ap length c.dynamic.ensures, c.requires.loaded, c.requires.store.sound.static_base);
  same = c.requires.dynamic ∙ sym c.requires.loaded ∙ sym (ap length c.dynamic.ensures);
}

pub bytes_after-requires : goal.bytes_after-requires
bytes_after-requires c = omega (arith, c.keep_words.ensures.same, c.requires.dynamic, c.requires.store.sound.static_base)

pub fill-requires-clause-room : goal.fill-requires-clause-room
fill-requires-clause-room c = omega (
  arith,
  ap length c.bytes_after.ensures,
  length-drop 64 c.keep_words.new.memory,
  c.keep_words.ensures.same,
  c.requires.dynamic,
  c.requires.store.sound.static_base,
)

pub put_back-requires-clause-sound : goal.put_back-requires-clause-sound
put_back-requires-clause-sound c =
    let f = fill_and_stop c.args.store.now c.fill.new.store c.put.new.self c.keep_words.new.memory _
    c.in_ok-fill.ensures.filled c.bytes_after.ensures c.in_ok-put.ensures.cells c.put.ensures.fixed
    c.in_ok-put.ensures.beginning in
    f.goes_on.sound

pub put_back-requires-clause-stacks : goal.put_back-requires-clause-stacks
put_back-requires-clause-stacks c =
    let f = fill_and_stop c.args.store.now c.fill.new.store c.put.new.self c.keep_words.new.memory _
    c.in_ok-fill.ensures.filled c.bytes_after.ensures c.in_ok-put.ensures.cells c.put.ensures.fixed
    c.in_ok-put.ensures.beginning in (
      c.requires.stacks.0,
      subst (λ (n : ℕ). AreStacks n c.args.stacks.now c.requires.stacks.0) (sym (filled_size _ _ _ f))
          c.requires.stacks.1,
    )

pub returns-clause-went : goal.returns-clause-went
returns-clause-went c = λ counter read are.
    let memory = words_kept c.args.loaded.now _ c.args.memory.now c.keep_words.new.memory c.dynamic.ensures
    c.keep_words.ensures.words in
    let f = fill_and_stop c.args.store.now c.fill.new.store c.put.new.self
    (with_words_of c.args.loaded.now.dynamic c.args.memory.now) _ c.in_ok-fill.ensures.filled
    (c.bytes_after.ensures ∙ ap (drop 64) memory) c.in_ok-put.ensures.cells c.put.ensures.fixed
    c.in_ok-put.ensures.beginning in
    taken_as c.put_back.result c.args.loaded.now _ _ _ (record {
      program_counter = counter;
      memory = c.args.memory.now;
      stacks = read;
    }) f (c.put_back.ensures read
    (subst (λ (n : ℕ). AreStacks n c.args.stacks.now read) (sym (filled_size _ _ _ f)) are))

pub returns-clause-store : goal.returns-clause-store
returns-clause-store c =
    let memory = words_kept c.args.loaded.now _ c.args.memory.now c.keep_words.new.memory c.dynamic.ensures
    c.keep_words.ensures.words in
    let f = fill_and_stop c.args.store.now c.fill.new.store c.put.new.self
    (with_words_of c.args.loaded.now.dynamic c.args.memory.now) _ c.in_ok-fill.ensures.filled
    (c.bytes_after.ensures ∙ ap (drop 64) memory) c.in_ok-put.ensures.cells c.put.ensures.fixed
    c.in_ok-put.ensures.beginning in
    store_then c.put_back.result c.requires.store f.goes_on (c.put_back.ensures c.requires.stacks.0
    (subst (λ (n : ℕ). AreStacks n c.args.stacks.now c.requires.stacks.0) (sym (filled_size _ _ _ f))
    c.requires.stacks.1))
