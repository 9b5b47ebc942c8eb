use Rattle.std.proofs.Common.{length, map, ap, refl, ◌∙◌}
use Rattle.meaning.specs.Places.{folded, text_size, total}
use Rattle.meaning.specs.Views.{program_of}
use Rattle.meaning.proofs.Folding.{objects_total, dictionary_is, places_are}
use Rattle.meaning.proofs.places.part_places.Goals as goal

pub returns : goal.returns
returns c =
    let p = program_of c.args.checked.now in
    let arrays = ap length c.array_bytes-arrays.ensures in
    let place = dictionary_is p (length c.array_bytes-arrays.result.now) c.objects_size.result
    c.dictionary_after-dictionary.result arrays
    (c.objects_size.ensures.size ∙ ap (λ os. folded (objects_total os)) c.objects.ensures)
    c.dictionary_after-dictionary.ensures.place in
    places_are p (length c.array_bytes-arrays.result.now) c.dictionary_after-dictionary.result
    (length c.args.checked.now.keys) c.texts_after-texts.result c.abbreviations_size.result c.requires arrays place
    refl c.texts_after-texts.ensures.place
    (c.abbreviations_size.ensures.size ∙ ap (λ ts. folded (total (map text_size ts))) c.abbreviations.ensures)
