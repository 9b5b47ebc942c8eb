use Rattle.std.proofs.Common.{ℕ, Bool, true, map, replicate, subst}
use Rattle.std.specs.List.{list_all}
use Rattle.meaning.specs.Objects.{ObjectOf}
use Rattle.meaning.specs.Views.{object_of, property_of}
use Rattle.code.specs.HeldProgram.{is_one_word}
use Rattle.code.specs.Written.{Narrows}
use Rattle.code.proofs.Singles.{narrows_next, narrows_all, singles_are}
use Rattle.code.proofs.sizes.singles_of.Goals as goal

-- an object has no property of this number, or one word of it
abbrev is_single_in : ℕ → ObjectOf → Bool
is_single_in q o = list_all (is_one_word q) o.properties

pub loop-object-preserved : goal.loop-object-preserved
loop-object-preserved c =
    let x = c.object-item.result in
    let old = c.loop-object.singles in
    let new = c.note_properties.new.singles in (
      c.note_properties.array_long,
      narrows_next (replicate 64 true) old new is_single_in object_of c.args.objects.now c.loop-object.object-index x
          c.loop-object-test.true c.object-item.is c.loop-object.invariant.1
          (subst (λ ps. Narrows old new (λ q. list_all (is_one_word q) (map property_of ps))) c.deref.ensures.value
          c.note_properties.ensures),
    )

pub returns : goal.returns
returns c =
    singles_are c.loop-object.singles (map object_of c.args.objects.now) c.loop-object.invariant.0
    (narrows_all (replicate 64 true) c.loop-object.singles is_single_in object_of c.args.objects.now
    c.loop-object.object-index c.loop-object-test.false c.loop-object.invariant.1)
