-- In no list that is cut.
use Rattle.std.proofs.Common.{◌≡◌, true, refl}
use Rattle.derive_statements.specs.Prints as prints
use Rattle.derive_statements.specs.Prints.{Cut, is_whole}

pub whole : (cut : Cut) → is_whole cut ≡ true → cut ≡ prints.whole
whole prints.whole e = refl
whole prints.apart e = absurd cc
whole (prints.ruled rule) e = absurd cc
