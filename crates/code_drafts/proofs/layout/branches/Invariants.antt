use Rattle.std.proofs.Common.{◌≡◌, ◌++◌, drop}
use Rattle.code_drafts.specs.Layout.{uses}
use Rattle.code_drafts.proofs.layout.branches.Given as goal

abbrev pub invariant-loop-number : goal.invariant-loop-number
invariant-loop-number l = l.found.items ++ uses l.number (drop l.number l.parts) ≡ uses 0 l.parts
