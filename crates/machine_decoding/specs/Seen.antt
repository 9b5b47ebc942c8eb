-- Answers that are seen by a view.
use Rattle.std.specs.Prelude.{Result, Ok, Err}

-- an answer, seen by a view
abbrev pub seen : {X Y E : Type 0} → (X → Y) → Result X E → Result Y E
seen view (Ok x) = Ok (view x)
seen view (Err e) = Err e
