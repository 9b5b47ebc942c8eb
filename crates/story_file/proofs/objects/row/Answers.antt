use Rattle.std.proofs.Common.{◌+◌, map, slice_index_or, refl, ap, ◌∙◌}
use Rattle.meaning.specs.Views.{property_of}
use Rattle.code.specs.Rows.{attribute_byte}
use Rattle.story_file.proofs.ObjectRows.{attributes_are, first_is, row_made}
use Rattle.story_file.proofs.objects.row.Goals as goal

pub returns : goal.returns
returns c =
    row_made c.args.objects.now c.args.index c.index-objects-index.result c.requires.within c.index-objects-index.is
    _ _ _ _
    c.in-Ok.name.items c.in-Ok-copy_properties.properties.items
    (attributes_are c.index-objects-index.result.attributes.items _ _ _ _ _ _
    (c.attribute_byte.ensures ∙ ap (λ xs. attribute_byte xs 0) c.deref-2.ensures.value)
    (c.attribute_byte-2.ensures ∙ ap (λ xs. attribute_byte xs 8) c.deref-3.ensures.value)
    (c.attribute_byte-3.ensures ∙ ap (λ xs. attribute_byte xs 16) c.deref-4.ensures.value)
    (c.attribute_byte-4.ensures ∙ ap (λ xs. attribute_byte xs 24) c.deref-5.ensures.value)
    (c.attribute_byte-5.ensures ∙ ap (λ xs. attribute_byte xs 32) c.deref-6.ensures.value)
    (c.attribute_byte-6.ensures ∙ ap (λ xs. attribute_byte xs 40) c.deref-7.ensures.value))
    refl c.sibling.ensures
    (first_is c.args.objects.now c.args.index c.index-objects-index.result c.requires.within c.index-objects-index.is
    _ _ _ c.requires.linked
    (c.number_at.ensures ∙ ap (λ ns. slice_index_or ns (c.args.index + 1) 0) c.deref-8.ensures.value))
    c.in-Ok.ensures
    (c.in-Ok-copy_properties.ensures ∙ ap (map property_of) c.deref.ensures.value)
