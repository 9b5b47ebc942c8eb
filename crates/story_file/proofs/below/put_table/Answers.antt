use Rattle.std.proofs.Common.{◌≡◌, ◌++◌, length, map, ap, sym, ◌∙◌}
use Rattle.std.proofs.lemmas.List.{length-map}
use Rattle.story_file.specs.Layout.{addresses_from}
use Rattle.story_file.specs.Written.{encoded_length}
use Rattle.story_file.proofs.AbbreviationTables.{table_joined}
use Rattle.story_file.proofs.below.put_table.Goals as goal

pub returns : goal.returns
returns c =
    let sizes : c.deref.result.now ≡ map encoded_length c.args.texts.now =
    c.deref.ensures.value ∙ c.in-Ok.ensures
    ∙ ap (λ z. z ++ map encoded_length c.args.texts.now) c.new-sizes.ensures.items in
    table_joined c.args.place (length c.args.texts.now) (map encoded_length c.args.texts.now) c.deref-2.result.now
    c.args.bytes.now.items c.put_halves.new.bytes.items c.put_words.new.bytes.items
    (sym (length-map c.args.texts.now encoded_length))
    (c.deref-2.ensures.value ∙ c.in-Ok-array_addresses.ensures ∙ ap (addresses_from 1 c.args.place) sizes)
    c.in-Ok-put_halves.ensures c.in-Ok-put_words.ensures
