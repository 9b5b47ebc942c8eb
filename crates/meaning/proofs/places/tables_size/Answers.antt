use Rattle.std.proofs.Common.{length, map, ap, refl, ◌∙◌}
use Rattle.meaning.specs.Places.{folded, text_size, total}
use Rattle.meaning.specs.Views.{program_of}
use Rattle.meaning.proofs.Folding.{objects_total, dictionary_is, texts_folded, routines_are}
use Rattle.meaning.proofs.places.tables_size.Goals as goal

pub returns : goal.returns
returns c =
    let p = program_of c.args.checked.now in
    let place = dictionary_is p (length c.array_bytes.result.now) c.objects_size-objects.result
    c.dictionary_after-dictionary.result (ap length c.array_bytes.ensures)
    (c.objects_size-objects.ensures.size ∙ ap (λ os. folded (objects_total os)) c.objects.ensures)
    c.dictionary_after-dictionary.ensures.place in
    let texts = texts_folded p c.dictionary_after-dictionary.result (length c.args.checked.now.keys)
    c.texts_after-texts.result refl c.texts_after-texts.ensures.place place in
    routines_are p c.texts_after-texts.result c.abbreviations_size.result c.fold.result texts
    (c.abbreviations_size.ensures.size ∙ ap (λ ts. folded (total (map text_size ts))) c.abbreviations.ensures)
    c.fold.ensures.size
