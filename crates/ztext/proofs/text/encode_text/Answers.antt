use Rattle.std.proofs.Common.{◌∙◌, ap, sym, subst, arith}
use Rattle.ztext.specs.Words.{packed, padded}
use Rattle.ztext.specs.Text.{encoded}
use Rattle.ztext.specs.TextParts.{AreSmall}
use Rattle.ztext.proofs.Spelling.{bytes_from_index}
use Rattle.ztext.proofs.RoundTrip.{padded_small, round_trip}
use Rattle.ztext.proofs.text.encode_text.Goals as goal

pub packed-requires : goal.packed-requires
packed-requires c = subst AreSmall
    (sym (c.deref.ensures.value ∙ c.in_ok-pad.ensures ∙ ap padded c.in_ok-characters.ensures))
    (padded_small c.args.text.now (bytes_from_index c.args.text.now (λ i. omega (arith, c.type_inv.text i))))

pub returns-clause-encodes : goal.returns-clause-encodes
unfolding encoded
returns-clause-encodes c = (
  sym c.are_printable.ensures ∙ c.if-not-are_printable.false,
  c.in_ok-packed.ensures
      ∙ ap packed (c.deref.ensures.value ∙ c.in_ok-pad.ensures ∙ ap padded c.in_ok-characters.ensures),
)

pub returns-clause-again : goal.returns-clause-again
unfolding encoded
returns-clause-again c = λ story at held lt. round_trip c.args.text.now c.in_ok-packed.field-0.items story at
    (bytes_from_index c.args.text.now (λ i. omega (arith, c.type_inv.text i)))
    (sym c.are_printable.ensures ∙ c.if-not-are_printable.false)
    (c.in_ok-packed.ensures
    ∙ ap packed (c.deref.ensures.value ∙ c.in_ok-pad.ensures ∙ ap padded c.in_ok-characters.ensures)) held lt
