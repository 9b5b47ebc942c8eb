use Rattle.std.proofs.Common.{◌≡◌, ◌++◌, ◌+◌, ℕ, List, codes, length, ap, ◌∙◌, arith}
use Rattle.iff_files.specs.Chunks.{chunk}
use Rattle.iff_files.specs.Differences.{packed}
use Rattle.iff_files.specs.SaveFiles.{Saved, chunks_of, form_start}
use Rattle.iff_files.proofs.Lengths.{length-packed}
use Rattle.iff_files.proofs.ReadSaves.{file_is, length-chunks}
use Rattle.iff_files.proofs.writing.write_save.Goals as goal

pub chunk_size-requires-2 : goal.chunk_size-requires-2
chunk_size-requires-2 c =
    let differences : c.pack.new.out.items ≡ packed 0 c.args.story.now c.args.state.memory.now =
    c.in_ok-pack.ensures
    ∙ ap (λ (t : List ℕ). t ++ packed 0 c.args.story.now c.args.state.memory.now) c.in_ok-differences.ensures.items in
    omega (
      arith,
      c.len.ensures,
      ap (λ (t : List ℕ). length t) differences,
      length-packed 0 c.args.story.now c.args.state.memory.now,
      c.requires.short.0,
    )

pub put_form-requires : goal.put_form-requires
put_form-requires c =
    let differences : c.pack.new.out.items ≡ packed 0 c.args.story.now c.args.state.memory.now =
    c.in_ok-pack.ensures
    ∙ ap (λ (t : List ℕ). t ++ packed 0 c.args.story.now c.args.state.memory.now) c.in_ok-differences.ensures.items in
    omega (
      arith,
      c.len.ensures,
      ap (λ (t : List ℕ). length t) differences,
      length-packed 0 c.args.story.now c.args.state.memory.now,
      c.requires.short.0,
      c.requires.short.1,
      c.chunk_size.ensures,
      c.chunk_size-2.ensures,
      c.chunk_size-3.ensures,
    )

pub put_chunk-requires-2 : goal.put_chunk-requires-2
put_chunk-requires-2 c =
    let differences : c.as_slice.result.now ≡ packed 0 c.args.story.now c.args.state.memory.now =
    c.as_slice.ensures.value ∙ c.in_ok-pack.ensures
    ∙ ap (λ (t : List ℕ). t ++ packed 0 c.args.story.now c.args.state.memory.now) c.in_ok-differences.ensures.items in
    omega (
      arith,
      ap (λ (t : List ℕ). length t) differences,
      length-packed 0 c.args.story.now c.args.state.memory.now,
      c.requires.short.0,
    )

pub returns : goal.returns
returns c = λ stacks e.
    let story : List ℕ = c.args.story.now in
    let s : Saved = record {
      program_counter = c.args.state.program_counter;
      memory = c.args.state.memory.now;
      stacks = stacks;
    } in
    let written : c.pack.new.out.items ≡ packed 0 story s.memory =
    c.in_ok-pack.ensures ∙ ap (λ (t : List ℕ). t ++ packed 0 story s.memory) c.in_ok-differences.ensures.items in
    let long : 4 + c.chunk_size.result + c.chunk_size-2.result + c.chunk_size-3.result ≡ 4 + length (chunks_of story s) =
    omega (
      arith,
      c.len.ensures,
      ap (λ (t : List ℕ). length t) written,
      ap (λ (t : List ℕ). length t) e,
      length-chunks story s,
      c.chunk_size.ensures,
      c.chunk_size-2.ensures,
      c.chunk_size-3.ensures,
    ) in
    let size : ℕ = 4 + c.chunk_size.result + c.chunk_size-2.result + c.chunk_size-3.result in
    c.in_ok-put_chunk-3.ensures
    ∙ ap (λ (t : List ℕ). t ++ chunk (codes "Stks") c.args.state.stacks.now) (c.in_ok-put_chunk-2.ensures
    ∙ ap (λ (t : List ℕ). t ++ chunk (codes "CMem") c.as_slice.result.now) (c.in_ok-put_chunk.ensures
    ∙ ap (λ (t : List ℕ). t ++ chunk (codes "IFhd") c.header.result) (c.in_ok-put_form.ensures
    ∙ ap (λ (t : List ℕ). t ++ form_start size) c.in_ok-file.ensures.items)))
    ∙ file_is story s size c.header.result c.as_slice.result.now c.args.state.stacks.now long c.header.ensures
    (c.as_slice.ensures.value ∙ written) e
