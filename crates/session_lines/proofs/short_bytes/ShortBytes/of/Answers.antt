use Rattle.std.proofs.Common.{◌∙◌, List, ℕ, ap, length}
use Rattle.std.proofs.lemmas.List.{take_at}
use Rattle.session_lines.proofs.short_bytes.ShortBytes.of.Goals as goal

pub returns : goal.returns
returns c = take_at c.copy_from_slice.new.self _ _ (ap (λ (x : List ℕ). length x) c.copy_from_slice.ensures.after)
    ∙ c.copy_from_slice.ensures.after
