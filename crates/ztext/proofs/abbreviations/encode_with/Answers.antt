use Rattle.std.proofs.Common.{◌<◌, List, ℕ, length, map}
use Rattle.std.proofs.lemmas.List.Elements.{All-map}
use Rattle.ztext.proofs.Expanding.{read_again}
use Rattle.ztext.proofs.abbreviations.encode_with.Goals as goal

pub returns-clause-again : goal.returns-clause-again
returns-clause-again c =
    read_again (map (λ a. a.now) c.args.abbreviations.now) c.args.text.now c.z_text.result
    (All-map (λ (a : List ℕ). 0 < length a) (λ a. a.now) c.args.abbreviations.now c.requires) c.z_text.ensures
