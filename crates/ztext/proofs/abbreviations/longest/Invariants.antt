use Rattle.std.proofs.Common.{◌≡◌, map, take, drop}
use Rattle.ztext.specs.Abbreviations.{longer, longest_from, longest}
use Rattle.ztext.specs.Bytes.{most_abbreviations}
use Rattle.ztext.specs.Found.{found_of}
use Rattle.ztext.proofs.abbreviations.longest.Given as goal

abbrev pub invariant-loop-number : goal.invariant-loop-number
invariant-loop-number g l =
    let texts = take most_abbreviations (map g.T.AsSlice.items l.abbreviations) in
    longer (found_of l.best) (longest_from l.number (drop l.number texts) l.text)
    ≡ longest (map g.T.AsSlice.items l.abbreviations) l.text
