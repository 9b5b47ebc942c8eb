-- The greatest number so far is the greatest of the needs that were taken, where none is above 48.
use Rattle.std.proofs.Common.{◌≡◌, ℕ, ◌<◌, ◌≤◌, min, Bool, true, false, nat_lt, List, [], ◌∷◌, ◌++◌, append_assoc}
use Rattle.std.proofs.Common.{Option, Some, None, refl, sym, ap, ◌∙◌, subst, arith}
use Rattle.std.specs.Prelude.{if◌then◌else◌}
use Rattle.std.specs.List.{All}
use Rattle.std.proofs.lemmas.List.{append-nil}
use Rattle.std.proofs.lemmas.Bool.Decides.{nat_tests}
use Rattle.std.proofs.lemmas.List.Elements.{All-nil, All-cons, All-head, All-tail, All-append, All-push, All-weaker}
use Rattle.std.proofs.lemmas.List.Elements.{All-same}
use Rattle.meaning.specs.Limits.{most_temporaries}
use Rattle.messages_diagnosis.specs.declared.sought.Sought.{Sought}
use Rattle.messages_diagnosis.specs.declared.sought.Temporaries.{Temporaries}
use Rattle.messages_diagnosis.specs.Needs.{PlacedNeed, HasFew, IsFirstGreatest}
use Rattle.messages_diagnosis.specs.Walk.{risen, raised_all}

abbrev Below : ℕ → PlacedNeed → Type 0
Below n x = x.1 < n

abbrev UpTo : ℕ → PlacedNeed → Type 0
UpTo n x = x.1 ≤ n

-- the greatest number is below another: so are all
all_below : (xs : List PlacedNeed) (t : Temporaries) (n : ℕ) → IsFirstGreatest xs (Some t) → t.number < n
    → All (Below n) xs
all_below xs t n h lt =
    let here : PlacedNeed = (t.position, t.number) in
    All-same (Below n) xs (h.0 ++ here ∷ h.1) h.2
    (All-append (Below n) h.0 (here ∷ h.1)
    (All-weaker (Below t.number) (Below n) (λ x less. omega (arith, less, lt)) h.0 h.3)
    (All-cons (Below n) here h.1 lt
    (All-weaker (UpTo t.number) (Below n) (λ x less. omega (arith, less, lt)) h.1 h.4)))

-- one more need
some_more : (xs : List PlacedNeed) (t : Temporaries) (x : PlacedNeed) (b : Bool) → IsFirstGreatest xs (Some t)
    → nat_lt t.number x.1 ≡ b
    → IsFirstGreatest (xs ++ x ∷ []) (if b then Some (record { position = x.0; number = x.1 }) else Some t)
some_more xs t x true h test =
    let lt : t.number < x.1 = grind (arith, nat_tests) in
    (xs, [], refl, all_below xs t x.1 h lt, All-nil (UpTo x.1))
some_more xs t x false h test =
    let few : x.1 ≤ t.number = grind (arith, nat_tests) in
    let here : PlacedNeed = (t.position, t.number) in (
      h.0,
      h.1 ++ x ∷ [],
      ap (λ ys. ys ++ x ∷ []) h.2 ∙ append_assoc h.0 (here ∷ h.1) (x ∷ []),
      h.3,
      All-push (UpTo t.number) h.1 x h.4 few,
    )

one_more : (xs : List PlacedNeed) (g : Option Temporaries) (x : PlacedNeed) → IsFirstGreatest xs g
    → IsFirstGreatest (xs ++ x ∷ []) (risen g x.0 x.1)
one_more xs None x h =
    subst (λ ys. IsFirstGreatest (ys ++ x ∷ []) (risen None x.0 x.1)) (sym h)
    ([], [], refl, All-nil (Below x.1), All-nil (UpTo x.1))
one_more xs (Some t) x h = some_more xs t x (nat_lt t.number x.1) h refl

-- a walk that looks for the greatest
abbrev pub greatest_so_far : Option Temporaries → Sought
greatest_so_far g = record { most = most_temporaries; offset = None; found = g }

all_more : (before : List PlacedNeed) (g : Option Temporaries) (xs : List PlacedNeed) → IsFirstGreatest before g
    → All HasFew xs → IsFirstGreatest (before ++ xs) (raised_all (greatest_so_far g) xs).found
unfolding raised_all
all_more before g [] h few = subst (λ ys. IsFirstGreatest ys g) (sym (append-nil before)) h
all_more before g (x ∷ xs) h few =
    let few_here = All-head HasFew x xs few in
    let same : min most_temporaries x.1 ≡ x.1 = omega (arith, few_here) in
    let next = subst (λ n. IsFirstGreatest (before ++ x ∷ []) (risen g x.0 n)) (sym same) (one_more before g x h) in
    let walked = raised_all (greatest_so_far (risen g x.0 (min most_temporaries x.1))) xs in
    subst (λ ys. IsFirstGreatest ys walked.found) (append_assoc before (x ∷ []) xs)
    (all_more (before ++ x ∷ []) (risen g x.0 (min most_temporaries x.1)) xs next (All-tail HasFew x xs few))

pub greatest_of : (xs : List PlacedNeed) (s : Sought) → s ≡ raised_all (greatest_so_far None) xs → All HasFew xs
    → IsFirstGreatest xs s.found
greatest_of xs s is few = subst (λ (t : Sought). IsFirstGreatest xs t.found) (sym is) (all_more [] None xs refl few)
