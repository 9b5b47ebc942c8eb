use Rattle.std.proofs.Common.{◌≡◌, true, ap, arith, length, ◌∙◌, sym, subst}
use Rattle.zcore.specs.Header.{dictionary_of}
use Rattle.zcore_standard.specs.Words.{can_be_searched, has_letters, has_slots, dictionary_for, with_slots}
use Rattle.zcore_standard.specs.Texts.{alphabets_of}
use Rattle.machine_frames.specs.Contents.{memory_of}
use Rattle.machine_frames.proofs.Kept.{length-memory}
use Rattle.machine_frames.proofs.Steps.{went_err}
use Rattle.machine_lines.specs.Lines.{Filled}
use Rattle.machine_standard_words.proofs.Tokens.{head_searched, no_letters, no_slots, no_dictionary, search_as, search_unpaid}
use Rattle.machine_standard_words.proofs.Tokens.{slots_numbers, tokens_filled}
use Rattle.machine_standard_words.proofs.parsing.tokenise.Goals as goal

pub returns-then-not-has_letters : goal.returns-then-not-has_letters
returns-then-not-has_letters c =
    let is = c.memory-memory.ensures ∙ ap memory_of c.store.ensures in
    no_letters c.args.store.now (alphabets_of c.args.loaded.now) c.args.here c.args.after c.args.text c.args.parse c.args.dictionary c.args.flag
    c.requires.sound
    (sym (ap (λ m. has_letters m c.args.text) is) ∙ sym c.has_letters.ensures ∙ c.if-not-has_letters.true)

pub returns-then-not-has_slots : goal.returns-then-not-has_slots
returns-then-not-has_slots c =
    let is = c.memory-memory.ensures ∙ ap memory_of c.store.ensures in
    no_slots c.args.store.now (alphabets_of c.args.loaded.now) c.args.here c.args.after c.args.text c.args.parse c.args.dictionary c.args.flag
    c.requires.sound
    (sym (ap (λ m. has_letters m c.args.text) is) ∙ sym c.has_letters.ensures ∙ c.if-not-has_letters.false)
    (sym (ap (λ m. has_slots m c.args.parse) is) ∙ sym c.has_slots.ensures ∙ c.if-not-has_slots.true)

pub returns-then-not-can_be_searched : goal.returns-then-not-can_be_searched
returns-then-not-can_be_searched c =
    let m = memory_of c.args.store.now.store in
    let is = c.memory-memory.ensures ∙ ap memory_of c.store.ensures in
    let named = c.search_for-search.ensures.dictionary m c.requires.headed.dictionary in
    no_dictionary c.args.store.now (alphabets_of c.args.loaded.now) c.args.here c.args.after c.args.text c.args.parse c.args.dictionary c.args.flag
    c.requires.sound
    (sym (ap (λ m. has_letters m c.args.text) is) ∙ sym c.has_letters.ensures ∙ c.if-not-has_letters.false)
    (sym (ap (λ m. has_slots m c.args.parse) is) ∙ sym c.has_slots.ensures ∙ c.if-not-has_slots.false)
    (sym (ap (can_be_searched m) named) ∙ sym (ap (λ m. can_be_searched m c.search_for-search.result.dictionary) is)
    ∙ sym c.can_be_searched.ensures ∙ c.if-not-can_be_searched.true)

pub can_be_searched-requires : goal.can_be_searched-requires
can_be_searched-requires c =
    c.requires.headed.dictionary ∙ sym (ap dictionary_of (c.memory-memory.ensures ∙ ap memory_of c.store.ensures))

pub fill_slots-requires-clause-head : goal.fill_slots-requires-clause-head
fill_slots-requires-clause-head c =
    let m = memory_of c.args.store.now.store in
    let is = c.memory-memory.ensures ∙ ap memory_of c.store.ensures in
    head_searched m c.search_for-search.result.dictionary
    (sym (ap (λ m. can_be_searched m c.search_for-search.result.dictionary) is)
    ∙ sym c.can_be_searched.ensures ∙ c.if-not-can_be_searched.false)
    c.requires.headed.head

pub spend_search-requires-clause-own : goal.spend_search-requires-clause-own
spend_search-requires-clause-own c =
    c.requires.headed.dictionary ∙ sym (ap dictionary_of (c.memory-memory.ensures ∙ ap memory_of c.store.ensures))

pub spend_search-requires-clause-slots : goal.spend_search-requires-clause-slots
spend_search-requires-clause-slots c =
    let s = c.args.store.now.store in
    let is = c.memory-memory.ensures ∙ ap memory_of c.store.ensures in
    let slots : has_slots (memory_of s) c.args.parse ≡ true = sym (ap (λ m. has_slots m c.args.parse) is)
    ∙ sym c.has_slots.ensures ∙ c.if-not-has_slots.false in
    let h = slots_numbers (memory_of s) c.args.parse slots in
    omega (arith, h.room, ap length is, length-memory s c.requires.sound, c.requires.sound.static_base)

pub returns-in_err-fuel : goal.returns-in_err-fuel
returns-in_err-fuel c =
    let s = c.args.store.now in
    let m = memory_of s.store in
    let is = c.memory-memory.ensures ∙ ap memory_of c.store.ensures in
    let named = c.search_for-search.ensures.dictionary m c.requires.headed.dictionary in
    went_err _ c.from_residual.ensures.1
    (search_unpaid s (alphabets_of c.args.loaded.now) c.args.here c.args.after c.args.text c.args.parse c.args.dictionary c.args.flag
    c.requires.sound
    (sym (ap (λ m. has_letters m c.args.text) is) ∙ sym c.has_letters.ensures ∙ c.if-not-has_letters.false)
    (sym (ap (λ m. has_slots m c.args.parse) is) ∙ sym c.has_slots.ensures ∙ c.if-not-has_slots.false)
    (sym (ap (can_be_searched m) named) ∙ sym (ap (λ m. can_be_searched m c.search_for-search.result.dictionary) is)
    ∙ sym c.can_be_searched.ensures ∙ c.if-not-can_be_searched.false)
    (search_as s (alphabets_of c.args.loaded.now) c.args.here c.args.after c.args.text c.args.parse c.args.dictionary c.args.flag
    _ _ is named c.in_err-fuel.ensures))

pub returns : goal.returns
returns c =
    let s = c.args.store.now in
    let t = c.fill_slots.new.store in
    let m = memory_of s.store in
    let is = c.memory-memory.ensures ∙ ap memory_of c.store.ensures in
    let named = c.search_for-search.ensures.dictionary m c.requires.headed.dictionary in
    tokens_filled s (alphabets_of c.args.loaded.now) c.args.here c.args.after c.args.text c.args.parse c.args.dictionary c.args.flag t _
    (sym (ap (λ m. has_letters m c.args.text) is) ∙ sym c.has_letters.ensures ∙ c.if-not-has_letters.false)
    (sym (ap (λ m. has_slots m c.args.parse) is) ∙ sym c.has_slots.ensures ∙ c.if-not-has_slots.false)
    (sym (ap (can_be_searched m) named) ∙ sym (ap (λ m. can_be_searched m c.search_for-search.result.dictionary) is)
    ∙ sym c.can_be_searched.ensures ∙ c.if-not-can_be_searched.false)
    (search_as s (alphabets_of c.args.loaded.now) c.args.here c.args.after c.args.text c.args.parse c.args.dictionary c.args.flag
    _ _ is named c.in_ok-fuel.ensures)
    (subst (λ f. Filled s t (with_slots (alphabets_of c.args.loaded.now) m c.args.text c.args.parse (dictionary_for m c.args.dictionary) f))
    c.search_for-search.ensures.flag
    (subst (λ d. Filled s t (with_slots (alphabets_of c.args.loaded.now) m c.args.text c.args.parse d c.search_for-search.result.flag)) named
    c.in_ok-fill_slots.ensures.filled))
