use Rattle.std.proofs.Common.{rules, ◌≤◌, ◌-◌, ◌+◌, ◌++◌, ◌∙◌, length, drop, Vec, Global, ap, subst, sym, arith}
use Rattle.std.specs.List.{All}
use Rattle.std.proofs.lemmas.List.{length-take}
use Rattle.code_drafts.specs.declared.layout.BranchUse.{BranchUse}
use Rattle.code_drafts.specs.Layout.{uses, IsShortest}
use Rattle.code_drafts.proofs.Offsets.{left_length, behind_small, offset_at, one_used, none_used, all_shortest}
use Rattle.code_drafts.proofs.Offsets.{all_found}
use Rattle.code_drafts.proofs.layout.branches.Goals.{in-Some+in_ok-push, in_default}
use Rattle.code_drafts.proofs.layout.branches.Goals as goal

pub slice_bounds-after-length : goal.slice_bounds-after-length
slice_bounds-after-length c =
    let l = left_length c.args.parts.now c.args.left.now c.requires.left in
    omega (arith, l, length-take (length c.args.parts.now - c.loop-number.number) c.args.left.now)

pub offset_over-offset-requires : goal.offset_over-offset-requires
offset_over-offset-requires c =
    behind_small c.args.parts.now c.args.left.now c.loop-number.number c.requires.left c.loop-number-test.true
    c.requires.small

pub loop-number-preserved : goal.loop-number-preserved
loop-number-preserved c = elim c.match-parts-number.branch [
  | in-Some+in_ok-push w ↦
      one_used c.args.parts.now c.loop-number.number w.in-Some.target w.offset_over-offset.result
      c.loop-number.found.items c.match-parts-number.found.items c.loop-number-test.true c.loop-number.invariant
      w.in-Some.is
      (offset_at c.args.parts.now c.args.left.now c.loop-number.number w.in-Some.target w.saturating_sub-over.result
      w.offset_over-offset.result c.requires.left c.loop-number-test.true
      (search rules) w.offset_over-offset.ensures)
      (search rules)
  | in_default w ↦
      ap (λ (f : Vec BranchUse Global). f.items ++ uses (c.loop-number.number + 1)
      (drop (c.loop-number.number + 1) c.args.parts.now)) w.found-is
      ∙ none_used c.args.parts.now c.loop-number.number c.loop-number.found.items c.loop-number-test.true
      c.loop-number.invariant w.in_default.is
]

pub returns-clause-shortest : goal.returns-clause-shortest
returns-clause-shortest c =
    let over : length c.args.parts.now ≤ c.loop-number.number = search rules in
    let is = all_found c.args.parts.now c.loop-number.number c.loop-number.found.items over c.loop-number.invariant in
    subst (All IsShortest) (sym is) (all_shortest 0 c.args.parts.now)
