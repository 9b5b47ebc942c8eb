use Rattle.derive_tokens.specs.Pieces.{derived_all}
use Rattle.derive_tokens.specs.Held.{names_of}
use Rattle.derive_values.specs.Views.{numbers_held}
use Rattle.derive_addresses.specs.Views.{placed_of}
use Rattle.derive.specs.Held.{signatures_held}
use Rattle.derive.proofs.Finishing.{asking_on, called_on, places_on}
use Rattle.derive.proofs.passes.called_source.Goals as goal

pub returns : goal.returns
returns c =
    let n = numbers_held c.args.numbers.now in
    let given = signatures_held c.args.given.now in
    let us = derived_all c.args.calls.now in
    let messages = names_of c.args.messages.now in
    let keys = names_of c.args.keys.now in
    let names = names_of c.in_ok-names.names in
    let p = placed_of c.args.placed.now in
    called_on n given us messages keys names (names_of c.in_ok-words.words) p c.put_places_made.new.text.items
    c.put_words_made.new.text.items
    (places_on n given us messages keys names p c.in_ok-text.text.items c.put_places_made.new.text.items
    (asking_on n given us messages keys names c.in_ok-text.text.items c.in_ok-text.ensures c.in_ok-names.ensures)
    c.in_ok-names.ensures c.in_ok-put_places_made.ensures)
    c.in_ok-names.ensures c.in_ok-words.ensures c.in_ok-put_words_made.ensures
