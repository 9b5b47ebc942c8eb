use Rattle.std.proofs.Common.{◌≡◌, ◌∙◌, List, ℕ, ap, sym, subst, take, refl}
use Rattle.std.specs.Option.{option_map}
use Rattle.zcore.specs.Header.{static_base_of}
use Rattle.zcore_standard_loading.specs.Loading.{IsPlaced, characters_of, own_alphabets_of}
use Rattle.machine_standard.proofs.Beginning.{begins_with, loaded_as}
use Rattle.machine_standard.proofs.load.begin.Goals as goal

pub characters_of-requires-clause-placed : goal.characters_of-requires-clause-placed
characters_of-requires-clause-placed c = subst IsPlaced (sym c.deref.ensures.value) c.requires.playable.placed

pub own_alphabets_of-own-requires-clause-placed : goal.own_alphabets_of-own-requires-clause-placed
own_alphabets_of-own-requires-clause-placed c = subst IsPlaced (sym c.deref-2.ensures.value) c.requires.playable.placed

pub returns : goal.returns
returns c =
    let memory : List ℕ = c.args.memory.items in
    let dynamic : c.in_ok-dynamic.dynamic.items ≡ take (static_base_of memory) memory = c.in_ok-dynamic.ensures
    ∙ ap (take c.args.story.header.static_base) c.deref-3.ensures.value
    ∙ ap (λ n. take n memory) c.requires.playable.read.static_base in
    let characters : c.in_ok-characters.characters.items ≡ characters_of memory = c.in_ok-characters.ensures
    ∙ ap characters_of c.deref.ensures.value in
    let own = c.own_alphabets_of-own.ensures ∙ ap own_alphabets_of c.deref-2.ensures.value in
    begins_with memory (option_map (λ m. m.items) c.args.saves) c.args.story c.args.options _ c.in_ok-store.store c.requires.playable
    c.requires.saves refl refl
    (loaded_as c.new-loaded.result _ _ _ _ _ _ _ _ _ _ _ c.new-loaded.ensures dynamic c.seeded-dice.ensures characters own)
    c.in_ok-store.ensures.sound c.in_ok-store.ensures.state
