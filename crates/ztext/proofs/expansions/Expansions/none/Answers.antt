use Rattle.std.proofs.Common.{refl, false}
use Rattle.std.specs.Prelude.{replicate}
use Rattle.ztext.proofs.Copies.{nothing_known}
use Rattle.ztext.proofs.expansions.Expansions.none.Goals as goal

pub returns : goal.returns
returns c = nothing_known
    (record { known = replicate 96 false; places = replicate 96 (record { start = 0; length = 0 }) }) refl
