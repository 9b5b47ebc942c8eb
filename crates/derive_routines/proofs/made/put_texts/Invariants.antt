use Rattle.std.proofs.Common.{◌≡◌, ◌++◌, ◌+◌, drop}
use Rattle.derive_tokens.specs.Held.{names_of}
use Rattle.derive_values.specs.Values.{first_text}
use Rattle.derive_routines.specs.Made.{text_routines}
use Rattle.derive_routines.proofs.made.put_texts.Given as goal

abbrev pub invariant-loop-k : goal.invariant-loop-k
invariant-loop-k l = l.text.items ++ text_routines (first_text + l.k) (drop l.k (names_of l.texts))
    ≡ l.initial.text.items ++ text_routines first_text (names_of l.texts)
