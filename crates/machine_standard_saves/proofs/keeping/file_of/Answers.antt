use Rattle.std.proofs.Common.{◌≡◌, ℕ, List, ap, sym, ◌∙◌, arith, length, take}
use Rattle.std.proofs.lemmas.List.{length-take-le}
use Rattle.zcore.specs.Header.{static_base_of}
use Rattle.machine_frames.specs.Contents.{memory_of}
use Rattle.machine_frames.proofs.Kept.{length-memory}
use Rattle.machine_standard_saves.proofs.KeptFiles.{cannot_be_kept, has_file, short_stacks}
use Rattle.machine_standard_saves.proofs.keeping.file_of.Goals as goal

pub returns-then-not-can_be_kept : goal.returns-then-not-can_be_kept
returns-then-not-can_be_kept c =
    cannot_be_kept c.args.story.now c.args.at c.args.store.now.store _ _ _ c.if-not-can_be_kept.true
    c.in_ok-can_be_kept.ensures

pub static_base-base-requires : goal.static_base-base-requires
static_base-base-requires c = omega (
  arith,
  ap (λ (l : List ℕ). length l) (c.memory-memory.ensures ∙ ap memory_of c.store.ensures),
  length-memory c.args.store.now.store c.requires.sound,
  c.requires.sound.static_base,
)

pub first_bytes-requires : goal.first_bytes-requires
first_bytes-requires c =
    let memory = c.memory-memory.ensures ∙ ap memory_of c.store.ensures in
    omega (
      arith,
      c.static_base-base.ensures,
      ap (λ (m : List ℕ). static_base_of m) memory,
      ap (λ (l : List ℕ). length l) memory,
      length-memory c.args.store.now.store c.requires.sound,
    )

pub write_save-requires-clause-header : goal.write_save-requires-clause-header
write_save-requires-clause-header c = omega (
  arith,
  c.requires.dynamic,
  c.requires.sound.static_base,
)

pub write_save-requires-clause-memory : goal.write_save-requires-clause-memory
write_save-requires-clause-memory c =
    let memory = c.memory-memory.ensures ∙ ap memory_of c.store.ensures in
    let base : c.static_base-base.result ≡ static_base_of (memory_of c.args.store.now.store) =
    c.static_base-base.ensures ∙ ap (λ (m : List ℕ). static_base_of m) memory in
    ap (λ (l : List ℕ). length l) c.first_bytes.ensures
    ∙ length-take-le c.static_base-base.result c.memory-memory.result.now (omega (
      arith,
      base,
      ap (λ (l : List ℕ). length l) memory,
      length-memory c.args.store.now.store c.requires.sound,
    ))
    ∙ base ∙ sym c.requires.dynamic

pub write_save-requires-clause-short : goal.write_save-requires-clause-short
write_save-requires-clause-short c =
    let memory = c.memory-memory.ensures ∙ ap memory_of c.store.ensures in
    let base : c.static_base-base.result ≡ static_base_of (memory_of c.args.store.now.store) =
    c.static_base-base.ensures ∙ ap (λ (m : List ℕ). static_base_of m) memory in
    let long : length c.args.story.now ≡ c.static_base-base.result = c.requires.dynamic ∙ sym base in (
      omega (arith, long, c.static_base-base.type_inv),
      omega (
        arith,
        ap (λ (l : List ℕ). length l) c.as_slice.ensures.value,
        short_stacks c.args.store.now.store c.in_ok-stacks.stacks.items c.put_frames.new.out.items _ c.requires.sound
            c.if-not-can_be_kept.false c.in_ok-can_be_kept.ensures c.in_ok-stacks.ensures.items,
      ),
    )

pub returns : goal.returns
returns c =
    let memory = c.memory-memory.ensures ∙ ap memory_of c.store.ensures in
    has_file c.args.story.now c.args.at c.args.store.now.store _ c.put_frames.new.out.items c.first_bytes.result.now _ _
    c.if-not-can_be_kept.false c.in_ok-can_be_kept.ensures c.in_ok-stacks.ensures.items
    (c.first_bytes.ensures
    ∙ ap (λ (n : ℕ). take n c.memory-memory.result.now)
    (c.static_base-base.ensures ∙ ap (λ (m : List ℕ). static_base_of m) memory ∙ sym c.requires.dynamic)
    ∙ ap (λ (l : List ℕ). take (length c.args.story.now) l) memory)
    (λ read e. c.in_ok-file.ensures read (c.as_slice.ensures.value ∙ e))
