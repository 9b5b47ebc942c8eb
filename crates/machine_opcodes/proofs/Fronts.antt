-- The front of a text prints as the text does, where it is longer than a turn may print.
use Rattle.std.proofs.Common.{◌≡◌, ℕ, ◌+◌, ◌<◌, ◌≤◌, ◌⊎◌, inl, inr, List, [], ◌∷◌, ◌++◌, length, take, drop, refl}
use Rattle.std.proofs.Common.{ap, sym, ◌∙◌, subst, arith, true, false, Result}
use Rattle.std.specs.Prelude.{◌≢◌, nat_le, min, slice_index_or}
use Rattle.std.specs.List.{All, flat_map, list_all}
use Rattle.std.proofs.lemmas.Bool.{and_parts, lt-leb, cases_lt}
use Rattle.std.proofs.lemmas.Grind.{flat_map-append}
use Rattle.std.proofs.lemmas.List.{append-nil, length-append, length-take-le, length-take, take-append-drop, take_all, drop-take}
use Rattle.std.proofs.lemmas.List.Folds.{list_all-append}
use Rattle.std.proofs.lemmas.List.Sums.{AllPass-from_list_all}
use Rattle.std.proofs.Math.Seq.{drop-append_seam}
use Rattle.journal.specs.Recording.{Recording}
use Rattle.ztext.specs.Alphabets.{is_printable}
use Rattle.zcore.specs.State.{State, Out}
use Rattle.zcore.specs.Parts.{transcribed, print}
use Rattle.machine_frames.specs.Contents.{Contents}
use Rattle.machine_frames.specs.Went.{Told}
use Rattle.machine_frames.specs.declared.end.End.{End}
use Rattle.machine_frames.specs.States.{state_of}
use Rattle.machine_frames.proofs.Steps.{told_as}
use Rattle.machine_opcodes.specs.Fronts.{StandsFor, HasAdded}
use Rattle.machine_opcodes.specs.Printed.{HasBegun, Grew}
use Rattle.machine_opcodes.proofs.Transcripts.{puts, puts_both, one_byte, grew_still}

-- what passes the limit prints as much as what stands before it
puts_past : (xs ys : List ℕ) (s : State) → 65536 < length s.text + length xs → puts (xs ++ ys) s ≡ puts xs s
puts_past xs ys s lt =
    let full : nat_le (length s.text + length xs) 65536 ≡ false = lt-leb _ _ lt in
    puts_both xs ys s (inr (full, lt)) ∙ rw full refl

-- a printable character has a byte in the transcript
bytes_of : (text : List ℕ) → list_all is_printable text ≡ true → length (flat_map transcribed text) ≡ length text
bytes_of [] h = refl
bytes_of (c ∷ text) h =
    let p = and_parts (is_printable c) (list_all is_printable text) h in
    let b = one_byte c
    (λ e. let no : is_printable 0 ≡ true = subst (λ k. is_printable k ≡ true) e p.0 in absurd cc) in
    length-append (transcribed c) (flat_map transcribed text)
    ∙ omega (arith, ap length b.1, bytes_of text p.1)

front_printable : (most : ℕ) (text : List ℕ) → list_all is_printable text ≡ true
    → list_all is_printable (take most text) ≡ true
front_printable most text h =
    let both = ap (list_all is_printable) (take-append-drop most text) ∙ h in
    let p = and_parts (list_all is_printable (take most text)) (list_all is_printable (drop most text))
    (sym (list_all-append is_printable (take most text) (drop most text)) ∙ both) in
    p.0

front_prints : (text : List ℕ) → list_all is_printable text ≡ true → (s : State)
    → (length text < 65537) ⊎ (65537 ≤ length text) → print (take 65537 text) s ≡ print text s
unfolding print
front_prints text h s (inl lt) = ap (λ l. puts (flat_map transcribed l) s) (take_all 65537 text (omega (arith, lt)))
front_prints text h s (inr le) =
    let front = take 65537 text in
    let rest = drop 65537 text in
    let n = bytes_of front (front_printable 65537 text h) in
    let many : 65536 < length s.text + length (flat_map transcribed front) = omega
    (arith, n, length-take-le 65537 text le) in
    sym (puts_past (flat_map transcribed front) (flat_map transcribed rest) s many)
    ∙ ap (λ l. puts l s) (sym (flat_map-append transcribed front rest))
    ∙ ap (λ l. puts (flat_map transcribed l) s) (take-append-drop 65537 text)

front_stands : (front text : List ℕ) → list_all is_printable text ≡ true → front ≡ take 65537 text
    → StandsFor front text
front_stands front text h e = record {
  few = rw e (omega (arith, length-take 65537 text));
  same = λ s. ap (λ l. print l s) e ∙ front_prints text h s (cases_lt (length text) 65537);
}

-- printing what stands for a text

print_for : {r : Result (Unit {0}) End} {s t : Recording Contents} {x y : List ℕ} (cs front text : List ℕ)
    → cs ≡ front → StandsFor front text → Told r s x t y (print cs) → Told r s x t y (print text)
print_for {r} {s} {t} {x} {y} cs front text e w h = told_as r (print text)
    (sym (ap (λ l. print l (state_of s.store x)) e ∙ w.same (state_of s.store x))) h

-- a text that was added behind a transcript

bytes_all : (text : List ℕ) → list_all is_printable text ≡ true → All (λ c. c ≢ 0) text
bytes_all text h k d lt e =
    let here : is_printable (slice_index_or text k d) ≡ true = AllPass-from_list_all is_printable text h k d lt in
    let no : is_printable 0 ≡ true = subst (λ c. is_printable c ≡ true) e here in
    absurd cc

pub has_added : (was now text : List ℕ) → list_all is_printable text ≡ true → take (length was) now ≡ was
    → now ≡ take (length was + 65537) (was ++ text) → HasAdded was now text
has_added was now text h stays is =
    let front : drop (length was) now ≡ take 65537 text = ap (drop (length was)) is
    ∙ drop-take (length was) 65537 (was ++ text) ∙ ap (take 65537) (drop-append_seam was text) in
    let n : length now ≡ min (length was + 65537) (length was + length text) = ap length is
    ∙ length-take (length was + 65537) (was ++ text) ∙ ap (min (length was + 65537)) (length-append was text) in
    record {
      longer = omega (arith, n);
      stays = stays;
      stands = front_stands (drop (length was) now) text h front;
      bytes = subst (All (λ c. c ≢ 0)) (sym front) (bytes_all (take 65537 text) (front_printable 65537 text h));
    }

-- the empty text
pub added_nothing : (was : List ℕ) → HasAdded was was []
added_nothing was = has_added was was [] refl (take_all (length was) was (omega arith))
    (sym (take_all (length was + 65537) was (omega arith)) ∙ ap (take (length was + 65537)) (sym (append-nil was)))

module _ (start end : ℕ) (was now text : List ℕ) (is : end ≡ length was) (added : HasAdded was now text) where
  back : take end now ≡ was
  back = ap (λ k. take k now) is ∙ added.stays

  pub added_begun : HasBegun start was → HasBegun start (take end now)
  added_begun h = subst (HasBegun start) (sym back) h

  pub added_bytes : All (λ c. c ≢ 0) (drop end now)
  added_bytes = subst (λ k. All (λ c. c ≢ 0) (drop k now)) (sym is) added.bytes

  pub added_grew : {new : List ℕ} → Grew start (take end now) new → Grew start was new
  added_grew {new} h = subst (λ l. Grew start l new) back h

  pub added_told : {r : Result (Unit {0}) End} {s : Recording Contents} (new : List ℕ)
      → Told r s (drop start (take end now)) s (drop start new) (print (drop end now))
      → Told r s (drop start was) s (drop start new) (print text)
  added_told {r} {s} new h = print_for (drop end now) (drop (length was) now) text (ap (λ k. drop k now) is)
      added.stands (subst (λ l. Told r s (drop start l) s (drop start new) (print (drop end now))) back h)

-- nothing was added
pub told_back : {A : Type 0} {r : Result A End} {s t : Recording Contents} {f : State → Out A} (start : ℕ)
    (was now : List ℕ) → now ≡ was → Told r s (drop start was) t (drop start was) f
    → Told r s (drop start was) t (drop start now) f
told_back {A} {r} {s} {t} {f} start was now e h = subst (λ l. Told r s (drop start was) t (drop start l) f) (sym e) h

pub grew_back : (start : ℕ) (was now : List ℕ) → now ≡ was → HasBegun start was → Grew start was now
grew_back start was now e h = subst (Grew start was) (sym e) (grew_still start was h)
