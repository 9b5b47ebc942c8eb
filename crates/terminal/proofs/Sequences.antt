-- What is typed, without the sequences of keys, byte by byte.
use Rattle.std.proofs.Common.{◌≡◌, ℕ, ◌+◌, ◌<◌, ◌≤◌, true, false, List, [], ◌∷◌, ◌++◌, drop, length, ap, sym, ◌∙◌}
use Rattle.std.proofs.Common.{add-one, drop-cons, slice_index, refl, append_assoc, append-nil}
use Rattle.std.proofs.lemmas.List.{drop_all}
use Rattle.std.specs.Prelude.{codes}
use Rattle.terminal.specs.Keys.{is_kept, reading_after, without_keys, without_keys_from}
use Rattle.terminal.specs.declared.keys.Reading.{Reading}

next_is : (typed : List ℕ) (k : ℕ) → k < length typed → drop k typed ≡ slice_index typed k ∷ drop (k + 1) typed
next_is typed k lt = rw add-one (drop-cons typed k 0 lt)

kept_further : (typed : List ℕ) (k : ℕ) (reading : Reading) → k < length typed
    → is_kept reading (slice_index typed k) ≡ true
    → without_keys_from reading (drop k typed)
    ≡ slice_index typed k ∷ without_keys_from (reading_after reading (slice_index typed k)) (drop (k + 1) typed)
unfolding without_keys_from
kept_further typed k reading lt is = ap (without_keys_from reading) (next_is typed k lt) ∙ rw is refl

skipped_further : (typed : List ℕ) (k : ℕ) (reading : Reading) → k < length typed
    → is_kept reading (slice_index typed k) ≡ false
    → without_keys_from reading (drop k typed)
    ≡ without_keys_from (reading_after reading (slice_index typed k)) (drop (k + 1) typed)
unfolding without_keys_from
skipped_further typed k reading lt is = ap (without_keys_from reading) (next_is typed k lt) ∙ rw is refl

pub skips : (now typed whole : List ℕ) (k : ℕ) (reading later : Reading) → k < length typed
    → is_kept reading (slice_index typed k) ≡ false → later ≡ reading_after reading (slice_index typed k)
    → now ++ without_keys_from reading (drop k typed) ≡ whole
    → now ++ without_keys_from later (drop (k + 1) typed) ≡ whole
skips now typed whole k reading later lt is goes so =
    ap (λ (r : Reading). now ++ without_keys_from r (drop (k + 1) typed)) goes
    ∙ ap (λ (t : List ℕ). now ++ t) (sym (skipped_further typed k reading lt is)) ∙ so

pub keeps : (now new typed whole : List ℕ) (k : ℕ) (reading later : Reading) → k < length typed
    → is_kept reading (slice_index typed k) ≡ true → later ≡ reading_after reading (slice_index typed k)
    → new ≡ now ++ (slice_index typed k ∷ [])
    → now ++ without_keys_from reading (drop k typed) ≡ whole
    → new ++ without_keys_from later (drop (k + 1) typed) ≡ whole
keeps now new typed whole k reading later lt is goes put so =
    ap (λ (r : Reading). new ++ without_keys_from r (drop (k + 1) typed)) goes
    ∙ ap (λ (t : List ℕ). t ++ without_keys_from (reading_after reading (slice_index typed k)) (drop (k + 1) typed)) put
    ∙ append_assoc now (slice_index typed k ∷ [])
    (without_keys_from (reading_after reading (slice_index typed k)) (drop (k + 1) typed))
    ∙ ap (λ (t : List ℕ). now ++ t) (sym (kept_further typed k reading lt is)) ∙ so

pub reaches_end : (now typed whole : List ℕ) (k : ℕ) (reading : Reading) → length typed ≤ k
    → now ++ without_keys_from reading (drop k typed) ≡ whole → now ≡ whole
unfolding without_keys_from
reaches_end now typed whole k reading le so =
    sym (append-nil now)
    ∙ ap (λ (t : List ℕ). now ++ t) (sym (ap (without_keys_from reading) (drop_all k typed le))) ∙ so

-- samples

an_arrow_before_a_line : without_keys (27 ∷ codes "[A" ++ (codes "look" ++ 10 ∷ [])) ≡ codes "look" ++ 10 ∷ []
unfolding without_keys_from
an_arrow_before_a_line = refl

in_application_mode : without_keys (codes "lo" ++ (27 ∷ codes "OC" ++ codes "ok")) ≡ codes "look"
unfolding without_keys_from
in_application_mode = refl

a_function_key : without_keys (27 ∷ codes "[15~" ++ (27 ∷ codes "[1;5Dn")) ≡ codes "n"
unfolding without_keys_from
a_function_key = refl

the_end_of_a_line_stays : without_keys (27 ∷ codes "[" ++ 10 ∷ codes "n") ≡ 10 ∷ codes "n"
unfolding without_keys_from
the_end_of_a_line_stays = refl
