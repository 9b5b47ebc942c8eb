use Rattle.std.proofs.Common.{◌≡◌, ℕ, List, ◌+◌, reverse, ap, ◌∙◌, arith}
use Rattle.code_drafts.specs.declared.layout.Part.{Part}
use Rattle.code_drafts.specs.Layout.{lefts, uses}
use Rattle.code_drafts.specs.Code.{items_of}
use Rattle.code_drafts.specs.Written.{sizes_in}
use Rattle.code_instructions.specs.Places.{place_in}
use Rattle.code.specs.Bytes.{lefts_of, parts_of, code_size, kept_bytes, is_near}
use Rattle.code.proofs.Codes.{place_is, last_place}
use Rattle.code.proofs.routine.code_of.Goals as goal

pub invariant_of-result : goal.invariant_of-result
invariant_of-result c =
    let xs = c.args.items.items in
    let sizes = sizes_in c.args.sizes in
    let ys = c.deref.result.now in
    let same = ap items_of c.deref.ensures.value in
    let parts = ap (parts_of sizes) same in
    let are : c.put_all_parts.new.scratch.parts.items ≡ parts_of sizes (items_of xs) =
    c.in_ok-near.ensures.parts ∙ parts in
    let left : c.in_ok-left.left.items ≡ reverse (lefts_of sizes (items_of xs)) =
    c.in_ok-left.ensures ∙ ap (λ (ps : List Part). reverse (lefts 0 ps)) (c.deref-2.ensures.value ∙ are) in
    let whole : c.place-length.result ≡ code_size sizes (items_of xs) =
    c.place-length.ensures.value ∙ ap (λ (l : List ℕ). place_in (reverse l) c.len.result) c.deref-5.ensures.value
    ∙ place_is sizes c.in_ok-left.left.items (items_of xs) c.len.result left
    ∙ last_place sizes xs c.len.result (omega (arith, c.len.ensures, c.args.items.ok.0)) in (
      left,
      c.in_ok-branches.ensures.uses ∙ ap (λ (ps : List Part). uses 0 ps) (c.deref-3.ensures.value ∙ are),
      ap (λ n. 1 + n) whole,
      omega (arith, c.in_ok-near.ensures.fits, ap (code_size sizes) same),
      c.in_ok-near.ensures.kept ∙ ap (kept_bytes sizes) same,
      c.in_ok-near.ensures.near ∙ ap (is_near sizes) same,
    )
