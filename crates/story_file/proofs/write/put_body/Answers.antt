use Rattle.std.proofs.Common.{◌≡◌, ℕ, ◌*◌, ◌<◌, ◌≤◌, List, length, map, arith, ap, sym, subst, ◌∙◌}
use Rattle.std.specs.Prelude.{slice_index}
use Rattle.std.specs.Global.{Vec}
use Rattle.zcore.specs.Header.{scale_of}
use Rattle.meaning.specs.declared.places.Places.{Places}
use Rattle.meaning.specs.Places.{arrays_place, routines_place}
use Rattle.meaning.specs.Views.{program_of}
use Rattle.code_drafts.specs.Written.{addresses_of}
use Rattle.story_file.specs.Layout.{fault_texts, packed_addresses, addresses_from, array_addresses, addresses_in}
use Rattle.story_file.specs.Written.{bytes_in, codes_in, end_from, packed_from}
use Rattle.story_file.proofs.Laid.{packed_within, packed_counted, packed_are, found_at, codes_counted, codes_ready}
use Rattle.story_file.proofs.Laid.{addresses_are, arrays_within, body_laid, sizes_of_texts}
use Rattle.story_file.proofs.write.put_body.Goals as goal

pub packed_addresses-requires : goal.packed_addresses-requires
packed_addresses-requires c =
    let texts = map bytes_in c.in-Ok.texts.items in
    subst (λ (at : Places). end_from (scale_of c.args.version) at.routines c.deref-2.result.now
    ≤ 65535 * scale_of c.args.version)
    (sym c.requires.at)
    (packed_within c.args.version (program_of c.args.checked.now) c.args.codes.now texts c.deref-2.result.now
    c.requires.fits c.requires.codes c.in-Ok.ensures
    (c.deref-2.ensures.value ∙ sizes_of_texts c.args.codes.now c.in-Ok.texts.items c.deref.result.now
    c.in-Ok-code_sizes.sizes.items c.add_text_sizes.new.sizes.items c.deref.ensures.value c.in-Ok-code_sizes.ensures
    c.in-Ok-add_text_sizes.ensures))

pub array_addresses-requires : goal.array_addresses-requires
array_addresses-requires c =
    arrays_within (program_of c.args.checked.now) c.arrays_place.result c.array_sizes.result.now
    c.requires.fits.placed c.arrays_place.ensures c.array_sizes.ensures

pub addresses_in-addresses-requires : goal.addresses_in-addresses-requires
addresses_in-addresses-requires c =
    let count = packed_counted c.args.version c.args.at.routines c.args.codes.now
    (map bytes_in c.in-Ok.texts.items) c.deref-2.result.now c.in-Ok-packed_addresses.packed.items
    (c.deref-2.ensures.value ∙ sizes_of_texts c.args.codes.now c.in-Ok.texts.items c.deref.result.now
    c.in-Ok-code_sizes.sizes.items c.add_text_sizes.new.sizes.items c.deref.ensures.value c.in-Ok-code_sizes.ensures
    c.in-Ok-add_text_sizes.ensures) c.in-Ok-packed_addresses.ensures in
    omega (arith, count, ap length c.deref-3.ensures.value)

pub index-requires : goal.index-requires
index-requires c =
    let count = packed_counted c.args.version c.args.at.routines c.args.codes.now
    (map bytes_in c.in-Ok.texts.items) c.deref-2.result.now c.in-Ok-packed_addresses.packed.items
    (c.deref-2.ensures.value ∙ sizes_of_texts c.args.codes.now c.in-Ok.texts.items c.deref.result.now
    c.in-Ok-code_sizes.sizes.items c.add_text_sizes.new.sizes.items c.deref.ensures.value c.in-Ok-code_sizes.ensures
    c.in-Ok-add_text_sizes.ensures) c.in-Ok-packed_addresses.ensures in
    let codes = codes_counted (program_of c.args.checked.now) c.args.codes.now c.requires.codes in
    omega (arith, count, codes, c.requires.fits.accepted.main, c.main.ensures, c.in-Ok-packed_addresses.packed.ok.0)

pub put_low-requires-clause-objects : goal.put_low-requires-clause-objects
put_low-requires-clause-objects c = record {
  few = c.requires.fits.accepted.few;
  proper = record { each = c.requires.fits.accepted.objects; names = c.requires.fits.printable.1 };
  defaults = c.requires.fits.accepted.defaults.0;
  placed = c.requires.fits.placed;
}

pub put_low-requires-clause-keys : goal.put_low-requires-clause-keys
put_low-requires-clause-keys c = omega (arith, c.requires.fits.placed)

pub put_low-requires-clause-few : goal.put_low-requires-clause-few
put_low-requires-clause-few c = c.requires.fits.accepted.few_abbreviations

pub put_low-requires-clause-printable : goal.put_low-requires-clause-printable
put_low-requires-clause-printable c = c.requires.fits.printable.2

pub put_routines-requires : goal.put_routines-requires
put_routines-requires c =
    codes_ready c.args.version (program_of c.args.checked.now) c.args.codes.now c.requires.fits
    c.requires.codes

pub returns : goal.returns
returns c =
    let p = program_of c.args.checked.now in
    let texts : List (List ℕ) = map bytes_in c.in-Ok.texts.items in
    let codes : c.args.codes.now ≡ codes_in p = c.requires.codes in
    let from_place : c.in-Ok-packed_addresses.packed.items
    ≡ packed_from (scale_of c.args.version) (routines_place p) c.deref-2.result.now =
    c.in-Ok-packed_addresses.ensures
    ∙ ap (λ (at : Places). packed_from (scale_of c.args.version) at.routines c.deref-2.result.now)
    c.requires.at in
    let packed : c.in-Ok-packed_addresses.packed.items ≡ packed_addresses (scale_of c.args.version) p =
    packed_are c.args.version p c.args.codes.now texts c.deref-2.result.now c.in-Ok-packed_addresses.packed.items codes
    c.in-Ok.ensures
    (c.deref-2.ensures.value ∙ sizes_of_texts c.args.codes.now c.in-Ok.texts.items c.deref.result.now
    c.in-Ok-code_sizes.sizes.items c.add_text_sizes.new.sizes.items c.deref.ensures.value c.in-Ok-code_sizes.ensures
    c.in-Ok-add_text_sizes.ensures) from_place in
    let count : length c.args.codes.now ≡ length p.routines =
    omega (arith, codes_counted p c.args.codes.now codes) in
    let arrays : c.in-Ok-array_addresses.arrays.items ≡ array_addresses p =
    c.in-Ok-array_addresses.ensures ∙ ap (λ at. addresses_from 1 at c.array_sizes.result.now) c.arrays_place.ensures
    ∙ ap (addresses_from 1 arrays_place) c.array_sizes.ensures in
    let a = addresses_of c.addresses_in-addresses.result in
    let addresses : a ≡ addresses_in (scale_of c.args.version) p =
    addresses_are c.args.version p a c.deref-3.result.now c.deref-4.result.now (length c.args.codes.now)
    (c.deref-3.ensures.value ∙ packed) (c.deref-4.ensures.value ∙ arrays) count c.addresses_in-addresses.ensures in
    let same : a.routines ≡ c.in-Ok-packed_addresses.packed.items =
    ap (λ x. x.routines) c.addresses_in-addresses.ensures ∙ c.deref-3.ensures.value in
    let counted = packed_counted c.args.version c.args.at.routines c.args.codes.now
    (map bytes_in c.in-Ok.texts.items) c.deref-2.result.now c.in-Ok-packed_addresses.packed.items
    (c.deref-2.ensures.value ∙ sizes_of_texts c.args.codes.now c.in-Ok.texts.items c.deref.result.now
    c.in-Ok-code_sizes.sizes.items c.add_text_sizes.new.sizes.items c.deref.ensures.value c.in-Ok-code_sizes.ensures
    c.in-Ok-add_text_sizes.ensures) c.in-Ok-packed_addresses.ensures in
    let there : c.main.result < length c.in-Ok-packed_addresses.packed.items =
    omega (arith, counted, codes_counted p c.args.codes.now codes, c.requires.fits.accepted.main, c.main.ensures) in
    let main : c.index.result.now ≡ slice_index a.routines p.main =
    c.index.ensures ∙ found_at c.in-Ok-packed_addresses.packed.items c.main.result c.index.result.now there
    ∙ ap (λ n. slice_index c.in-Ok-packed_addresses.packed.items n) c.main.ensures
    ∙ ap (λ xs. slice_index xs p.main) (sym same) in
    let again : c.args.codes.now ≡ codes_in p = c.requires.codes in
    let printed : map bytes_in c.deref-5.result.now ≡ fault_texts =
    ap (λ (xs : List (Vec ℕ)). map bytes_in xs) c.deref-5.ensures.value ∙ c.in-Ok.ensures in
    body_laid c.args.version p c.args.codes.now a (map bytes_in c.deref-5.result.now)
    c.args.story.now.items c.put_low.new.bytes.items c.put_routines.new.story.items c.put_texts.new.story.items
    c.index.result.now c.requires.fits.accepted.defaults.0
    again printed addresses main c.requires.header c.in-Ok-put_low.ensures c.in-Ok-put_routines.ensures
    c.in-Ok-put_texts.ensures
