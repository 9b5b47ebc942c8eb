-- Rounds over arrays: what is put for one more, and nothing after the last.
use Rattle.std.proofs.Common.{◌≡◌, ℕ, ◌+◌, ◌<◌, ◌≤◌, List, [], ◌∷◌, ◌++◌, length, map, get_or, drop, ap, sym, ◌∙◌, arith}
use Rattle.std.proofs.Common.{append_assoc, append-nil, length-append}
use Rattle.std.proofs.lemmas.List.{at_drop_more, at_drop_all, map-append}
use Rattle.derive_routines.specs.declared.search.Arm.{Arm as ArmHeld}
use Rattle.derive_routines.specs.Held.{arm_of}
use Rattle.derive_routines.specs.Search.{Arm}
use Rattle.derive_addresses.specs.Made.{Access, entry_arm, entry_arms, entry_routine, entry_routines}

pub entry_on : (text : List ℕ) (a : Access) (names : List (List ℕ)) (k : ℕ) → k < length names
    → text ++ entry_routines a (40960 + k) (drop k names)
    ≡ (text ++ entry_routine a (40960 + k) (get_or names k [])) ++ entry_routines a (40960 + (k + 1)) (drop (k + 1) names)
entry_on text a names k lt =
    let next : 40960 + k + 1 ≡ 40960 + (k + 1) = omega arith in
    at_drop_more (λ (ns : List (List ℕ)). text ++ entry_routines a (40960 + k) ns) names k [] lt
    ∙ sym (append_assoc text (entry_routine a (40960 + k) (get_or names k []))
    (entry_routines a (40960 + k + 1) (drop (k + 1) names)))
    ∙ ap (λ n. (text ++ entry_routine a (40960 + k) (get_or names k [])) ++ entry_routines a n (drop (k + 1) names)) next

pub entry_end : (text : List ℕ) (a : Access) (names : List (List ℕ)) (n k : ℕ) → length names ≤ k
    → text ++ entry_routines a n (drop k names) ≡ text
entry_end text a names n k le =
    at_drop_all (λ (ns : List (List ℕ)). text ++ entry_routines a n ns) names k le ∙ append-nil text

arm_on : (arms : List Arm) (a : Access) (names : List (List ℕ)) (k : ℕ) → k < length names
    → arms ++ entry_arms a (40960 + k) (drop k names)
    ≡ (arms ++ entry_arm a (40960 + k) ∷ []) ++ entry_arms a (40960 + (k + 1)) (drop (k + 1) names)
arm_on arms a names k lt =
    let next : 40960 + k + 1 ≡ 40960 + (k + 1) = omega arith in
    at_drop_more (λ (ns : List (List ℕ)). arms ++ entry_arms a (40960 + k) ns) names k [] lt
    ∙ sym (append_assoc arms (entry_arm a (40960 + k) ∷ []) (entry_arms a (40960 + k + 1) (drop (k + 1) names)))
    ∙ ap (λ n. (arms ++ entry_arm a (40960 + k) ∷ []) ++ entry_arms a n (drop (k + 1) names)) next

-- one arm more, as the code holds it
pub one_more : (old new : List ArmHeld) (arm : ArmHeld) (n : ℕ) → new ≡ old ++ arm ∷ [] → length old ≡ n
    → length new ≡ n + 1
one_more old new arm n pushed count = omega (arith, ap length pushed, length-append old (arm ∷ []))

pub arm_put : (old new : List ArmHeld) (arm : ArmHeld) (a : Access) (names : List (List ℕ)) (k : ℕ) (all : List Arm)
    → new ≡ old ++ arm ∷ [] → arm_of arm ≡ entry_arm a (40960 + k) → k < length names
    → map arm_of old ++ entry_arms a (40960 + k) (drop k names) ≡ all
    → map arm_of new ++ entry_arms a (40960 + (k + 1)) (drop (k + 1) names) ≡ all
arm_put old new arm a names k all pushed is lt before =
    ap (λ (arms : List ArmHeld). map arm_of arms ++ entry_arms a (40960 + (k + 1)) (drop (k + 1) names)) pushed
    ∙ ap (λ (arms : List Arm). arms ++ entry_arms a (40960 + (k + 1)) (drop (k + 1) names)) (map-append arm_of old (arm ∷ []))
    ∙ ap (λ (x : Arm). (map arm_of old ++ x ∷ []) ++ entry_arms a (40960 + (k + 1)) (drop (k + 1) names)) is
    ∙ sym (arm_on (map arm_of old) a names k lt) ∙ before

pub arm_end : (arms : List Arm) (a : Access) (names : List (List ℕ)) (n k : ℕ) → length names ≤ k
    → arms ++ entry_arms a n (drop k names) ≡ arms
arm_end arms a names n k le =
    at_drop_all (λ (ns : List (List ℕ)). arms ++ entry_arms a n ns) names k le ∙ append-nil arms
