use Rattle.std.proofs.Common.{◌≡◌, ◌++◌, map, drop}
use Rattle.ztext.specs.Abbreviations.{spelled_behind}
use Rattle.ztext.proofs.abbreviations.shortened.Given as goal

abbrev pub invariant-loop-place : goal.invariant-loop-place
invariant-loop-place g l =
    l.characters.items ++ spelled_behind (map g.T.AsSlice.items l.abbreviations) l.spelled (drop l.place l.text)
    ≡ spelled_behind (map g.T.AsSlice.items l.abbreviations) 0 l.text
