use Rattle.std.proofs.Common.{◌≡◌, ◌+◌, ◌*◌, List, map, ap, ◌∙◌, arith}
use Rattle.syntax_directives.specs.declared.tree.Property.{Property}
use Rattle.syntax_directives.specs.Views.{object_tree, property_tree}
use Rattle.meaning.specs.Places.{folded, name_words, total}
use Rattle.meaning.proofs.Folding.{fold_part}
use Rattle.checker_statements.specs.Objects.{short_name}
use Rattle.checker_statements.specs.Sizes.{listed_size, listed_table_size}
use Rattle.checker_statements.proofs.listed.table_size.Goals as goal

pub returns-clause-size : goal.returns-clause-size
returns-clause-size c =
    let o = object_tree c.args.written.now in
    let all = total (map listed_size o.properties) in
    let properties : c.listed_sizes-properties.result ≡ folded all =
    c.listed_sizes-properties.ensures.size
    ∙ ap (λ (xs : List Property). folded (total (map listed_size (map property_tree xs)))) c.deref.ensures.value in
    let words : c.name_words.result ≡ name_words (short_name o.short) =
    c.name_words.ensures.words ∙ ap name_words c.short_name.ensures in
    let sum : 2 + 2 * c.name_words.result + all ≡ listed_table_size o = omega (arith, words) in
    c.fold.ensures.size
    ∙ fold_part (2 + 2 * c.name_words.result) all c.listed_sizes-properties.result properties ∙ ap folded sum
