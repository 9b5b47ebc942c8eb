-- Bytes that are passed on in parts.
use Rattle.std.proofs.Common.{◌≡◌, ℕ, List, ◌++◌, Option, ap, drop, sym, subst, take, ◌∙◌, append_assoc, take-append-drop}
use Rattle.std.specs.Io.KnownBytes.{Appends, Keeps}
use Rattle.std.proofs.KnownBytes.{Appends-kept, Appends-trans}
use Rattle.terminal.specs.Passed.{PassedOn}

-- so many bytes more were taken, of what was left
pub passed_more : (before now after : Option (List ℕ)) (bytes left given fewer : List ℕ) (n : ℕ)
    → PassedOn before now bytes left → given ≡ left → Appends now after (take n given) → fewer ≡ drop n left
    → PassedOn before after bytes fewer
passed_more before now after bytes left given fewer n on same took are =
    let all : left ≡ take n left ++ fewer =
    sym (take-append-drop n left) ∙ ap (λ (t : List ℕ). take n left ++ t) (sym are) in
    record {
      part = on.part ++ take n left;
      whole = on.whole ∙ ap (λ (t : List ℕ). on.part ++ t) all ∙ sym (append_assoc on.part (take n left) fewer);
      added = Appends-trans before now after on.part (take n left) on.added
          (subst (λ (t : List ℕ). Appends now after (take n t)) same took);
    }

-- none was taken
pub passed_same : (before now after : Option (List ℕ)) (bytes left : List ℕ) → PassedOn before now bytes left
    → Keeps now after → PassedOn before after bytes left
passed_same before now after bytes left on kept = record {
  part = on.part;
  whole = on.whole;
  added = Appends-kept before now after on.part on.added kept;
}
