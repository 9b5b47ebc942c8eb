-- Rounds over words: what is put for one more, and after the last.
use Rattle.std.proofs.Common.{◌≡◌, ℕ, ◌+◌, ◌<◌, ◌≤◌, List, [], ◌++◌, length, get_or, drop, sym, ◌∙◌}
use Rattle.std.proofs.Common.{append_assoc, append-nil}
use Rattle.std.proofs.lemmas.List.{at_drop_more, at_drop_all}
use Rattle.derive_addresses.specs.Words.{before_case, call_at, calls_from, cases_from, ended_before, word_case}

pub case_on : (text : List ℕ) (words : List (List ℕ)) (k : ℕ) → k < length words
    → text ++ cases_from k (drop k words)
    ≡ ((text ++ before_case k) ++ word_case (get_or words k [])) ++ cases_from (k + 1) (drop (k + 1) words)
case_on text words k lt =
    let w = word_case (get_or words k []) in
    let more = cases_from (k + 1) (drop (k + 1) words) in
    at_drop_more (λ (ws : List (List ℕ)). text ++ cases_from k ws) words k [] lt
    ∙ regroup text (before_case k) w more
  where
    regroup : (a b c d : List ℕ) → a ++ ((b ++ c) ++ d) ≡ ((a ++ b) ++ c) ++ d
    regroup a b c d = simp append_assoc

pub case_end : (text : List ℕ) (words : List (List ℕ)) (k : ℕ) → length words ≤ k
    → text ++ cases_from k (drop k words) ≡ text ++ ended_before k
case_end text words k le = at_drop_all (λ (ws : List (List ℕ)). text ++ cases_from k ws) words k le

pub call_on : (text : List ℕ) (words : List (List ℕ)) (k : ℕ) → k < length words
    → text ++ calls_from k (drop k words) ≡ (text ++ call_at k) ++ calls_from (k + 1) (drop (k + 1) words)
call_on text words k lt =
    at_drop_more (λ (ws : List (List ℕ)). text ++ calls_from k ws) words k [] lt
    ∙ sym (append_assoc text (call_at k) (calls_from (k + 1) (drop (k + 1) words)))

pub call_end : (text : List ℕ) (words : List (List ℕ)) (k : ℕ) → length words ≤ k
    → text ++ calls_from k (drop k words) ≡ text
call_end text words k le =
    at_drop_all (λ (ws : List (List ℕ)). text ++ calls_from k ws) words k le ∙ append-nil text
