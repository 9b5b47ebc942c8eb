-- Where a part is not read, the whole is not.
use Rattle.std.proofs.Common.{◌≡◌, Result, refl, ◌∙◌}
use Rattle.syntax_trees.specs.Stop.{Stop}
use Rattle.syntax_trees.specs.declared.error.ParseError.{ParseError}
use Rattle.syntax_trees.specs.declared.error.ParseError.TheVariants as errors
use Rattle.syntax_trees.specs.Parse.{◌>>=◌, Fails}

pub part_fails : {A B : Type 0} (e : ParseError) (read : Result A Stop) (whole : Result B Stop)
    (next : A → Result B Stop) → Fails e read → whole ≡ (read >>= next) → Fails e whole
part_fails errors.Memory read whole next h is = tt
part_fails (errors.Fault f count) read whole next h is = is ∙ rw h refl
