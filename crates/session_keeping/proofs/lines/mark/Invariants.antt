use Rattle.std.proofs.Common.{◌≡◌, ◌++◌, length}
use Rattle.session_keeping.specs.Lines.{is_begun_after, marked}
use Rattle.session_keeping.proofs.lines.mark.Given as goal

-- what is added and what is still to be added is what there is to add
abbrev pub invariant-loop-typed : goal.invariant-loop-typed
invariant-loop-typed l = record {
  kept : l.kept.items ++ marked l.is_begun l.typed ≡ l.fn.kept.items ++ marked l.fn.is_begun l.fn.typed;
  begun : is_begun_after l.is_begun l.typed ≡ is_begun_after l.fn.is_begun l.fn.typed;
}

abbrev pub decreases-loop-typed : goal.decreases-loop-typed
decreases-loop-typed l = length l.typed
