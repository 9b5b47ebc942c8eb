use Rattle.std.proofs.Common.{◌≡◌, ◌-◌, ◌++◌, ◌∙◌, ℕ, List, length, take, drop, ap, arith}
use Rattle.std.proofs.lemmas.List.{length-append, length-drop, take_all, with_items_is}
use Rattle.story_file.specs.Layout.{header_of}
use Rattle.story_file.proofs.header.fill_header.Goals as goal

pub overwrite-requires : goal.overwrite-requires
overwrite-requires c =
    let all : List ℕ = c.deref.result.now in
    let body : List ℕ = take (length all - 64) (drop 64 all) in
    omega (
      arith,
      c.requires.kept,
      ap length c.deref_mut.ensures.value,
      ap length c.deref-2.ensures.value,
      ap length c.in-Ok.ensures,
      ap (λ bs. length (bs ++ header_of c.args.version c.args.places body)) c.new-header.ensures.items,
    )

pub returns : goal.returns
returns c =
    let old : List ℕ = c.deref_mut.result.now in
    let written : List ℕ = c.overwrite.new.story in
    let all : List ℕ = c.deref.result.now in
    let body : List ℕ = take (length all - 64) (drop 64 all) in
    let rest : body ≡ drop 64 all = take_all (length all - 64) (drop 64 all) (omega (arith, length-drop 64 all)) in
    let header : c.deref-2.result.now ≡ header_of c.args.version c.args.places (drop 64 c.args.story.now.items) =
    c.deref-2.ensures.value ∙ c.in-Ok.ensures
    ∙ ap (λ bs. bs ++ header_of c.args.version c.args.places body) c.new-header.ensures.items
    ∙ ap (λ bs. header_of c.args.version c.args.places bs) rest
    ∙ ap (λ bs. header_of c.args.version c.args.places (drop 64 bs)) c.deref.ensures.value in
    let whole : written ≡ header_of c.args.version c.args.places (drop 64 c.args.story.now.items) ++ drop 64 old =
    c.overwrite.ensures ∙ ap (λ bs. bs ++ drop (length bs) old) header in
    let size : length written ≡ length old =
    omega (
      arith,
      ap length whole,
      length-append (header_of c.args.version c.args.places (drop 64 c.args.story.now.items)) (drop 64 old),
      length-drop 64 old,
      c.requires.kept,
      ap length c.deref_mut.ensures.value,
    ) in
    with_items_is c.args.story.now written (omega (arith, size, c.deref_mut.ensures.len))
    ∙ whole
    ∙ ap (λ bs. header_of c.args.version c.args.places (drop 64 c.args.story.now.items) ++ drop 64 bs)
    c.deref_mut.ensures.value
