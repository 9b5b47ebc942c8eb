use Rattle.std.proofs.Common.{◌++◌, length, map, nat_le, ap, ◌∙◌}
use Rattle.zcore.specs.Header.{scale_of}
use Rattle.story_file.specs.Layout.{greatest_length}
use Rattle.story_file.specs.Written.{end_from, part_size}
use Rattle.story_file.proofs.Laid.{sizes_of_texts}
use Rattle.story_file.proofs.write.is_within.Goals as goal

pub returns : goal.returns
returns c =
    let sizes = c.deref-2.ensures.value
    ∙ sizes_of_texts c.args.codes.now c.in-Ok.texts.items c.deref.result.now c.in-Ok-code_sizes.sizes.items
    c.add_text_sizes.new.sizes.items c.deref.ensures.value c.in-Ok-code_sizes.ensures c.in-Ok-add_text_sizes.ensures
    ∙ ap (λ texts. map part_size c.args.codes.now ++ map length texts) c.in-Ok.ensures in
    c.reach_end.ensures
    ∙ ap (λ ns. nat_le (end_from (scale_of c.args.version) c.args.place ns) (greatest_length c.args.version)) sizes
