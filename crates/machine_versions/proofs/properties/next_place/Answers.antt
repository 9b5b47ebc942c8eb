use Rattle.std.proofs.Common.{ap, arith, Ok}
use Rattle.machine_frames.proofs.Steps.{went_err}
use Rattle.tables.specs.Standing.{listed_of}
use Rattle.machine_small_entries.proofs.Values.{first_place, place_found, place_absent, place_unread}
use Rattle.machine_versions.proofs.properties.next_place.Goals as goal

pub returns-then-number-eq0 : goal.returns-then-number-eq0
returns-then-number-eq0 c = first_place _ _ c.args.object c.args.number c.if-number-eq0.true c.property_list.ensures

pub returns-in_err-property : goal.returns-in_err-property
returns-in_err-property c = went_err _ c.from_residual.ensures.1
    (place_unread _ c.args.object c.args.number c.if-number-eq0.false _ c.in_err-property.ensures.went)

pub returns-in-Some : goal.returns-in-Some
returns-in-Some c = place_found _ c.args.object c.args.number c.if-number-eq0.false (listed_of c.in-Some.property)
    c.requires.sound (rw c.in-Some.is at c.in_ok-property.ensures.went)

pub returns-in-None : goal.returns-in-None
returns-in-None c = place_absent _ c.args.object c.args.number c.if-number-eq0.false c.requires.sound
    (rw c.in-None.is at c.in_ok-property.ensures.went)

pub overflow_add-result : goal.overflow_add-result
overflow_add-result c =
    let within = c.in_ok-property.ensures.within c.in-Some.property (ap Ok c.in-Some.is) in
    omega (arith, within)
