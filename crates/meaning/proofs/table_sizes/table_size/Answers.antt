use Rattle.std.proofs.Common.{◌≡◌, ◌+◌, ◌*◌, ap, ◌∙◌, arith}
use Rattle.meaning.specs.Places.{folded, table_size}
use Rattle.meaning.specs.Views.{object_of}
use Rattle.meaning.proofs.Folding.{properties_total, fold_part}
use Rattle.meaning.proofs.table_sizes.table_size.Goals as goal

pub returns-clause-size : goal.returns-clause-size
returns-clause-size c =
    let o = c.args.object.now in
    let all = properties_total o.properties.items in
    let properties : c.properties_size-properties.result ≡ folded all =
    c.properties_size-properties.ensures.size ∙ ap (λ ps. folded (properties_total ps)) c.deref.ensures.value in
    let sum : 2 + 2 * c.name_words.result + all ≡ table_size (object_of o) =
    omega (arith, c.name_words.ensures.words) in
    c.fold.ensures.size
    ∙ fold_part (2 + 2 * c.name_words.result) all c.properties_size-properties.result properties ∙ ap folded sum
