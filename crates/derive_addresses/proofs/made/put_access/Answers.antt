use Rattle.std.proofs.Common.{◌∙◌, map}
use Rattle.std.proofs.lemmas.Result.{on_ok_weaker}
use Rattle.derive_tokens.specs.Held.{names_of}
use Rattle.derive_routines.specs.Held.{arm_of, search_of}
use Rattle.derive_routines.specs.Search.{search_text}
use Rattle.derive_routines.proofs.Chains.{two}
use Rattle.derive_routines.proofs.Levels.{searched}
use Rattle.derive_entries.specs.Arrays.{first_place}
use Rattle.derive_addresses.specs.Made.{entry_arms, entry_routines, entry_search}
use Rattle.derive_addresses.specs.Views.{access_of}
use Rattle.derive_addresses.proofs.made.put_access.Goals as goal

pub returns : goal.returns
returns c =
    let a = access_of c.args.access in
    let places = names_of c.args.places.now in
    on_ok_weaker c.put_search.result
    (λ e. two c.args.text.now.items (entry_routines a first_place places)
    (search_text (entry_search a) first_place (entry_arms a first_place places)) c.in_ok-put_entries.ensures
    (e ∙ searched c.put_entries.new.text.items (search_of c.entry_search.result) (entry_search a) first_place
    (map arm_of c.in_ok-arms.arms.items) (entry_arms a first_place places) c.entry_search.ensures
    c.in_ok-arms.ensures.value))
    c.put_search.ensures
