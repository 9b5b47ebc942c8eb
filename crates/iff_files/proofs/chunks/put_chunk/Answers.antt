use Rattle.std.proofs.Common.{◌++◌, ◌%◌, List, ℕ, length, ap, ◌∙◌, append_assoc, arith}
use Rattle.iff_files.specs.Chunks.{chunk, four, padding}
use Rattle.iff_files.proofs.FoundChunks.{padding_is}
use Rattle.iff_files.proofs.chunks.put_chunk.Goals as goal

pub returns : goal.returns
unfolding chunk
returns c =
    let was : List ℕ = c.args.out.now.items in
    let contents : List ℕ = c.args.contents.now in
    let name : List ℕ = c.args.name.now in
    let size : List ℕ = four (length contents) in
    let pad : List ℕ = padding (length contents % 2) in
    c.in_ok-put_padding.ensures
    ∙ ap (λ (t : List ℕ). c.extend_from_slice-2.new.self.items ++ t) (padding_is (length contents % 2) (omega arith))
    ∙ ap (λ (t : List ℕ). t ++ pad) (c.in_ok-extend_from_slice-2.ensures.items
    ∙ ap (λ (t : List ℕ). t ++ contents) (c.in_ok-put_four.ensures
    ∙ ap (λ (t : List ℕ). t ++ size) c.in_ok-extend_from_slice.ensures.items))
    ∙ append_assoc ((was ++ name) ++ size) contents pad
    ∙ append_assoc (was ++ name) size (contents ++ pad)
    ∙ append_assoc was name (size ++ (contents ++ pad))
