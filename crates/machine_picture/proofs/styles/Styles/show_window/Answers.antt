use Rattle.std.proofs.Common.{◌+◌, ap, arith, length, refl}
use Rattle.std.proofs.lemmas.List.{length-take-le}
use Rattle.machine_picture.specs.Represented.{styles_of}
use Rattle.machine_picture.proofs.Showing.{shown_put}
use Rattle.machine_picture.proofs.styles.Styles.show_window.Goals as goal

pub put_plain-requires-clause-at : goal.put_plain-requires-clause-at
put_plain-requires-clause-at c =
    let inside = (rw c.in-Some.is at c.requires).inside in
    let cut = ap length c.truncate.ensures.items in
    omega (arith, inside, cut, length-take-le (c.in-Some.drawn.from + c.in-Some.drawn.bare) c.args.self.now.each.items inside)

pub put_plain-requires-clause-few : goal.put_plain-requires-clause-few
put_plain-requires-clause-few c = (rw c.in-Some.is at c.requires).few

pub returns-in-None : goal.returns-in-None
returns-in-None c = rw c.in-None.is refl

pub returns-in-Some : goal.returns-in-Some
returns-in-Some c =
    rw c.in-Some.is
    (shown_put c.put_plain.result c.in-Some.drawn (styles_of c.args.self.now) _ _ c.truncate.ensures.items
    c.put_plain.ensures)
