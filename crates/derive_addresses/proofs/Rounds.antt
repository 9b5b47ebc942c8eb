-- Rounds over names: what one more adds, and nothing after the last.
use Rattle.std.proofs.Common.{◌≡◌, ℕ, ◌+◌, ◌<◌, ◌≤◌, List, [], ◌++◌, length, drop, fold, get_or, sym, ◌∙◌}
use Rattle.std.proofs.Common.{append_assoc, append-nil}
use Rattle.std.proofs.lemmas.List.{at_drop_more, at_drop_all}
use Rattle.derive_values.specs.Values.{with_room}
use Rattle.derive_addresses.specs.Addresses.{declared, declared_from}

pub declared_on : (text : List ℕ) (names : List (List ℕ)) (k : ℕ) → k < length names
    → text ++ declared_from (k + 1) (drop k names)
    ≡ (text ++ declared (k + 1)) ++ declared_from (k + 1 + 1) (drop (k + 1) names)
declared_on text names k lt =
    at_drop_more (λ (ns : List (List ℕ)). text ++ declared_from (k + 1) ns) names k [] lt
    ∙ sym (append_assoc text (declared (k + 1)) (declared_from (k + 1 + 1) (drop (k + 1) names)))

pub declared_end : (text : List ℕ) (names : List (List ℕ)) (n k : ℕ) → length names ≤ k
    → text ++ declared_from n (drop k names) ≡ text
declared_end text names n k le =
    at_drop_all (λ (ns : List (List ℕ)). text ++ declared_from n ns) names k le ∙ append-nil text

pub again_on : (places names : List (List ℕ)) (k : ℕ) → k < length names
    → fold (with_room 8192) places (drop k names)
    ≡ fold (with_room 8192) (with_room 8192 places (get_or names k [])) (drop (k + 1) names)
again_on places names k lt =
    at_drop_more (λ (ns : List (List ℕ)). fold (with_room 8192) places ns) names k [] lt

pub again_end : (places names : List (List ℕ)) (k : ℕ) → length names ≤ k
    → fold (with_room 8192) places (drop k names) ≡ places
again_end places names k le = at_drop_all (λ (ns : List (List ℕ)). fold (with_room 8192) places ns) names k le
