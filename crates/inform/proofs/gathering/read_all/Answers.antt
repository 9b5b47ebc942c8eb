use Rattle.std.proofs.Common.{◌≡◌, ◌+◌, [], ◌∷◌, length, None, ap, ◌∙◌, arith, length-append}
use Rattle.derive_joined.specs.Included.{first_asked}
use Rattle.inform.proofs.Begins.{at_none, begins_alone, begins_still}
use Rattle.inform.proofs.gathering.read_all.Goals as goal

pub loop-wanted-init : goal.loop-wanted-init
loop-wanted-init c = (
  begins_alone c.args.bytes.items c.begin.new.self.written.items c.in_ok-begin.ensures.files,
  c.in_ok-begin.ensures.gathered,
)

pub loop-wanted-smaller : goal.loop-wanted-smaller
loop-wanted-smaller c =
    let t = c.in_ok-include.ensures in
    let old = c.loop-wanted.gathering.written.items in
    let counted : length c.include.new.gathering.written.items ≡ length old + 1 =
    ap length t.takes ∙ length-append old (t.file ∷ []) in
    omega (arith, t.at_most, counted)

pub loop-wanted-preserved : goal.loop-wanted-preserved
loop-wanted-preserved c =
    let t = c.in_ok-include.ensures in
    let h = c.loop-wanted.invariant in
    let old = c.loop-wanted.gathering.written.items in
    (begins_still c.args.bytes.items old c.include.new.gathering.written.items t.file t.takes h.0, t.gathers h.1)

pub returns : goal.returns
returns c =
    let h = c.loop-wanted.invariant in
    let asked = first_asked c.loop-wanted.gathering.parts.items in
    record {
      begins = h.0;
      gathered = h.1;
      asks_no_more = at_none c.in_ok-wanted.field-0 (asked ≡ None) c.in_default.is c.in_ok-wanted.ensures;
    }
