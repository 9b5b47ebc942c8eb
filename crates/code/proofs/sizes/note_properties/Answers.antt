use Rattle.std.proofs.Common.{ℕ, List, length, subst}
use Rattle.std.specs.Prelude.{◌==◌, ◌||◌, not}
use Rattle.meaning.specs.Views.{property_of}
use Rattle.code.specs.HeldProgram.{is_one_word}
use Rattle.code.specs.Written.{Narrows}
use Rattle.code.proofs.Singles.{narrows_next, narrows_all}
use Rattle.code.proofs.sizes.note_properties.Goals as goal

pub loop-property-preserved : goal.loop-property-preserved
loop-property-preserved c =
    let x = c.property-item.result in
    let old = c.loop-property.singles in
    let new = c.note_property.new.singles in (
      c.note_property.array_long,
      narrows_next c.args.singles.now old new is_one_word property_of c.args.properties.now c.loop-property.property-index
          x c.loop-property-test.true c.property-item.is c.loop-property.invariant.1
          (subst (λ (ws : List ℕ). Narrows old new (λ q. not (x.0 == q) || length ws == 1)) c.deref.ensures.value
          c.note_property.ensures),
    )

pub returns : goal.returns
returns c =
    narrows_all c.args.singles.now c.loop-property.singles is_one_word property_of c.args.properties.now
    c.loop-property.property-index c.loop-property-test.false c.loop-property.invariant.1
