-- Warnings in order, a token at a time.
use Rattle.std.proofs.Common.{◌≡◌, ℕ, ◌+◌, ◌<◌, ◌≤◌, List, [], ◌∷◌, ◌++◌, arith}
use Rattle.std.proofs.lemmas.List.Elements.{All-nil, All-push, All-weaker, All-get_or}
use Rattle.std.proofs.lemmas.List.Quantifiers.{all_pairs_push}
use Rattle.messages_warnings.specs.declared.marks.Warning.{Warning}
use Rattle.messages_warnings.specs.InOrder.{AreInOrder}

abbrev pub Before : ℕ → Warning → Type 0
Before count w = w.at < count

abbrev pub Ascends : Warning → Warning → Type 0
Ascends v w = v.at < w.at

pub none_in_order : AreInOrder 0 []
none_in_order = record { within = All-nil (Before 0); ordered = λ i j d h k. absurd (omega (arith, h, k)) }

-- more tokens, about which nothing is said
pub passed : (count more : ℕ) (ws : List Warning) → count ≤ more → AreInOrder count ws → AreInOrder more ws
passed count more ws few a = record {
  within = All-weaker (Before count) (Before more) (λ w h. omega (arith, h, few)) ws a.within;
  ordered = a.ordered;
}

-- a token about which something is said
pub warned : (count : ℕ) (ws : List Warning) (w : Warning) → w.at ≡ count → AreInOrder count ws
    → AreInOrder (count + 1) (ws ++ w ∷ [])
warned count ws w is a = record {
  within = All-push (Before (count + 1)) ws w (passed count (count + 1) ws (omega arith) a).within (omega (arith, is));
  ordered = all_pairs_push Ascends ws w a.ordered
      (λ k d h. let low = All-get_or (Before count) ws k d h a.within in omega (arith, is, low));
}
