-- Rounds over names: what is put for one more, and nothing after the last.
use Rattle.std.proofs.Common.{◌≡◌, ℕ, ◌+◌, ◌<◌, ◌≤◌, List, [], ◌∷◌, ◌++◌, length, map, get_or, drop, ap, sym, ◌∙◌, arith}
use Rattle.std.proofs.Common.{append_assoc, append-nil, length-append}
use Rattle.std.proofs.lemmas.List.{at_drop_more, at_drop_all, map-append}
use Rattle.derive_constants.specs.Values.{Known}
use Rattle.derive_routines.specs.declared.search.Arm.{Arm as ArmHeld}
use Rattle.derive_routines.specs.Held.{arm_of}
use Rattle.derive_routines.specs.Made.{key_words, or_text, or_texts, send_text, send_texts, text_arm, text_arms, text_routine}
use Rattle.derive_routines.specs.Made.{text_routines, routine_arm, routine_arms}
use Rattle.derive_routines.specs.Search.{Arm}

pub key_on : (text : List ℕ) (keys : List (List ℕ)) (k : ℕ) → k < length keys
    → text ++ or_texts (k + 1) (drop k keys)
    ≡ (text ++ or_text (k + 1) (key_words (get_or keys k []))) ++ or_texts (k + 1 + 1) (drop (k + 1) keys)
key_on text keys k lt =
    at_drop_more (λ (ns : List (List ℕ)). text ++ or_texts (k + 1) ns) keys k [] lt
    ∙ sym (append_assoc text (or_text (k + 1) (key_words (get_or keys k []))) (or_texts (k + 1 + 1) (drop (k + 1) keys)))

pub key_end : (text : List ℕ) (keys : List (List ℕ)) (n k : ℕ) → length keys ≤ k
    → text ++ or_texts n (drop k keys) ≡ text
key_end text keys n k le =
    at_drop_all (λ (ns : List (List ℕ)). text ++ or_texts n ns) keys k le ∙ append-nil text

pub send_on : (text : List ℕ) (names : List (List ℕ)) (k : ℕ) → k < length names
    → text ++ send_texts (k + 1) (drop k names)
    ≡ (text ++ send_text (k + 1) (get_or names k [])) ++ send_texts (k + 1 + 1) (drop (k + 1) names)
send_on text names k lt =
    at_drop_more (λ (ns : List (List ℕ)). text ++ send_texts (k + 1) ns) names k [] lt
    ∙ sym (append_assoc text (send_text (k + 1) (get_or names k [])) (send_texts (k + 1 + 1) (drop (k + 1) names)))

pub send_end : (text : List ℕ) (names : List (List ℕ)) (n k : ℕ) → length names ≤ k
    → text ++ send_texts n (drop k names) ≡ text
send_end text names n k le =
    at_drop_all (λ (ns : List (List ℕ)). text ++ send_texts n ns) names k le ∙ append-nil text

pub text_on : (text : List ℕ) (texts : List (List ℕ)) (k : ℕ) → k < length texts
    → text ++ text_routines (49152 + k) (drop k texts)
    ≡ (text ++ text_routine (49152 + k) (get_or texts k [])) ++ text_routines (49152 + (k + 1)) (drop (k + 1) texts)
text_on text texts k lt =
    let next : 49152 + k + 1 ≡ 49152 + (k + 1) = omega arith in
    at_drop_more (λ (ns : List (List ℕ)). text ++ text_routines (49152 + k) ns) texts k [] lt
    ∙ sym (append_assoc text (text_routine (49152 + k) (get_or texts k [])) (text_routines (49152 + k + 1) (drop (k + 1) texts)))
    ∙ ap (λ n. (text ++ text_routine (49152 + k) (get_or texts k [])) ++ text_routines n (drop (k + 1) texts)) next

pub text_end : (text : List ℕ) (texts : List (List ℕ)) (n k : ℕ) → length texts ≤ k
    → text ++ text_routines n (drop k texts) ≡ text
text_end text texts n k le =
    at_drop_all (λ (ns : List (List ℕ)). text ++ text_routines n ns) texts k le ∙ append-nil text

pub text_arm_on : (arms : List Arm) (texts : List (List ℕ)) (k : ℕ) → k < length texts
    → arms ++ text_arms (49152 + k) (drop k texts)
    ≡ (arms ++ text_arm (49152 + k) ∷ []) ++ text_arms (49152 + (k + 1)) (drop (k + 1) texts)
text_arm_on arms texts k lt =
    let next : 49152 + k + 1 ≡ 49152 + (k + 1) = omega arith in
    at_drop_more (λ (ns : List (List ℕ)). arms ++ text_arms (49152 + k) ns) texts k [] lt
    ∙ sym (append_assoc arms (text_arm (49152 + k) ∷ []) (text_arms (49152 + k + 1) (drop (k + 1) texts)))
    ∙ ap (λ n. (arms ++ text_arm (49152 + k) ∷ []) ++ text_arms n (drop (k + 1) texts)) next

-- one arm more, as the code holds it
pub one_more : (old new : List ArmHeld) (arm : ArmHeld) (n : ℕ) → new ≡ old ++ arm ∷ [] → length old ≡ n
    → length new ≡ n + 1
one_more old new arm n pushed count = omega (arith, ap length pushed, length-append old (arm ∷ []))

pub text_arm_put : (old new : List ArmHeld) (arm : ArmHeld) (texts : List (List ℕ)) (k : ℕ) (all : List Arm)
    → new ≡ old ++ arm ∷ [] → arm_of arm ≡ text_arm (49152 + k) → k < length texts
    → map arm_of old ++ text_arms (49152 + k) (drop k texts) ≡ all
    → map arm_of new ++ text_arms (49152 + (k + 1)) (drop (k + 1) texts) ≡ all
text_arm_put old new arm texts k all pushed is lt before =
    ap (λ (arms : List ArmHeld). map arm_of arms ++ text_arms (49152 + (k + 1)) (drop (k + 1) texts)) pushed
    ∙ ap (λ (arms : List Arm). arms ++ text_arms (49152 + (k + 1)) (drop (k + 1) texts)) (map-append arm_of old (arm ∷ []))
    ∙ ap (λ (a : Arm). (map arm_of old ++ a ∷ []) ++ text_arms (49152 + (k + 1)) (drop (k + 1) texts)) is
    ∙ sym (text_arm_on (map arm_of old) texts k lt) ∙ before

pub text_arm_end : (arms : List Arm) (texts : List (List ℕ)) (n k : ℕ) → length texts ≤ k
    → arms ++ text_arms n (drop k texts) ≡ arms
text_arm_end arms texts n k le =
    at_drop_all (λ (ns : List (List ℕ)). arms ++ text_arms n ns) texts k le ∙ append-nil arms

pub routine_arm_on : (arms : List Arm) (arities : Known) (names : List (List ℕ)) (k : ℕ) → k < length names
    → arms ++ routine_arms arities (57344 + k) (drop k names)
    ≡ (arms ++ routine_arm arities (57344 + k) (get_or names k []) ∷ [])
    ++ routine_arms arities (57344 + (k + 1)) (drop (k + 1) names)
routine_arm_on arms arities names k lt =
    let next : 57344 + k + 1 ≡ 57344 + (k + 1) = omega arith in
    at_drop_more (λ (ns : List (List ℕ)). arms ++ routine_arms arities (57344 + k) ns) names k [] lt
    ∙ sym (append_assoc arms (routine_arm arities (57344 + k) (get_or names k []) ∷ [])
    (routine_arms arities (57344 + k + 1) (drop (k + 1) names)))
    ∙ ap (λ n. (arms ++ routine_arm arities (57344 + k) (get_or names k []) ∷ []) ++ routine_arms arities n (drop (k + 1) names))
    next

pub routine_arm_end : (arms : List Arm) (arities : Known) (names : List (List ℕ)) (n k : ℕ) → length names ≤ k
    → arms ++ routine_arms arities n (drop k names) ≡ arms
routine_arm_end arms arities names n k le =
    at_drop_all (λ (ns : List (List ℕ)). arms ++ routine_arms arities n ns) names k le ∙ append-nil arms
