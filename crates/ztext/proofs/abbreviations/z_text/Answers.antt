use Rattle.std.proofs.Common.{◌∙◌, ap, sym, subst, arith, map}
use Rattle.ztext.specs.Words.{packed, padded}
use Rattle.ztext.specs.Abbreviations.{encoded_with}
use Rattle.ztext.specs.TextParts.{AreSmall}
use Rattle.ztext.proofs.Spelling.{bytes_from_index}
use Rattle.ztext.proofs.Shortening.{shortened_small}
use Rattle.ztext.proofs.abbreviations.z_text.Goals as goal

pub packed-requires : goal.packed-requires
packed-requires g c = subst AreSmall
    (sym (c.deref.ensures.value ∙ c.in_ok-pad.ensures ∙ ap padded c.in_ok-characters.ensures))
    (shortened_small (map g.T.AsSlice.items c.args.abbreviations.now) c.args.text.now
    (bytes_from_index c.args.text.now (λ i. omega (arith, c.type_inv.text i))))

pub returns : goal.returns
unfolding encoded_with
returns g c = (
  sym c.are_printable.ensures ∙ c.if-not-are_printable.false,
  c.in_ok-packed.ensures
      ∙ ap packed (c.deref.ensures.value ∙ c.in_ok-pad.ensures ∙ ap padded c.in_ok-characters.ensures),
)
