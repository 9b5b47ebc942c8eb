use Rattle.std.proofs.Common.{slice_index_or, ap, ◌∙◌, arith}
use Rattle.std.proofs.lemmas.Bool.Decides.{nat_tests}
use Rattle.story_file.proofs.ObjectRows.{next_is}
use Rattle.story_file.proofs.objects.sibling.Goals as goal

pub returns : goal.returns
returns c =
    next_is c.args.objects.now c.args.index c.index-objects-index.result c.requires.within c.index-objects-index.is
    _ _ _ c.requires.linked
    (c.number_at.ensures ∙ ap (λ ns. slice_index_or ns c.args.index 0) c.deref.ensures.value)
    (λ e. grind (arith, e, c.if-parent-eq0.false, nat_tests))
