use Rattle.std.proofs.Common.{◌≡◌, ◌<◌, ◌≤◌, ◌∙◌, [], ap, sym, arith, length, map, take, get_or}
use Rattle.std.proofs.lemmas.List.{get_or-take, get_or-map, length-take, length-map, drop_all}
use Rattle.ztext.specs.Abbreviations.{longer, longest_from}
use Rattle.ztext.specs.Found.{found_of}
use Rattle.ztext.proofs.Longest.{longest_more, longer_none}
use Rattle.ztext.proofs.abbreviations.longest.Goals as goal

pub loop-number-preserved : goal.loop-number-preserved
loop-number-preserved g c =
    let n = c.loop-number.number in
    let all = map g.T.AsSlice.items c.args.abbreviations.now in
    let many = length-map c.args.abbreviations.now g.T.AsSlice.items in
    let few : n < 96 = omega (arith, c.min-number-end.ensures, c.loop-number-test.true) in
    let lt : n < length c.args.abbreviations.now = omega (arith, c.min-number-end.ensures, c.loop-number-test.true) in
    let within : n < length (take 96 all) = omega (arith, length-take 96 all) in
    let here : get_or (take 96 all) n [] ≡ c.as_slice.result.now =
    get_or-take 96 all n [] few
    ∙ get_or-map g.T.AsSlice.items c.args.abbreviations.now n c.index-abbreviations-number.result [] lt
    ∙ ap g.T.AsSlice.items (sym c.index-abbreviations-number.is) ∙ sym c.as_slice.ensures in
    longest_more (take 96 all) c.args.text.now c.as_slice.result.now (found_of c.loop-number.best)
    (found_of c.found_at.result) (found_of c.longer-best.result) n within here c.found_at.ensures c.longer-best.ensures
    ∙ c.loop-number.invariant

pub returns : goal.returns
returns g c =
    let n = c.loop-number.number in
    let all = map g.T.AsSlice.items c.args.abbreviations.now in
    let many = length-map c.args.abbreviations.now g.T.AsSlice.items in
    let past : length (take 96 all) ≤ n = omega (
      arith,
      length-take 96 all,
      c.min-number-end.ensures,
      c.loop-number-test.false,
    ) in
    sym (longer_none (found_of c.loop-number.best))
    ∙ ap (λ xs. longer (found_of c.loop-number.best) (longest_from n xs c.args.text.now))
    (sym (drop_all n (take 96 all) past))
    ∙ c.loop-number.invariant
