use Rattle.std.proofs.Common.{ℕ, List, ◌≡◌, ◌∙◌, ◌++◌, ap}
use Rattle.derive_tokens.specs.Held.{names_of}
use Rattle.derive_routines.proofs.Chains.{four}
use Rattle.derive_addresses.specs.Made.{Access, access_given, byte_read, byte_set, word_read, word_set}
use Rattle.derive_addresses.proofs.made.put_entries_made.Goals as goal

put_as : (new old : List ℕ) (names places : List (List ℕ)) (x a : Access) → new ≡ old ++ access_given names places x
    → x ≡ a → new ≡ old ++ access_given names places a
put_as new old names places x a e same = e ∙ ap (λ (y : Access). old ++ access_given names places y) same

pub returns : goal.returns
returns c =
    let names = names_of c.args.names.now in
    let arrays = names_of c.args.arrays.now in
    let places = names_of c.args.places.now in
    four c.args.text.now.items (access_given names places word_read) (access_given names arrays byte_read)
    (access_given names places word_set) (access_given names arrays byte_set)
    (put_as _ _ names places _ word_read c.in_ok-put_given_access.ensures c.word_read.ensures)
    (put_as _ _ names arrays _ byte_read c.in_ok-put_given_access-2.ensures c.byte_read.ensures)
    (put_as _ _ names places _ word_set c.in_ok-put_given_access-3.ensures c.word_set.ensures)
    (put_as _ _ names arrays _ byte_set c.in_ok-put_given_access-4.ensures c.byte_set.ensures)
