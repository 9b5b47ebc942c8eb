-- The front of what is read.
use Rattle.std.proofs.Common.{◌≡◌, ℕ, zero, suc, ◌≤◌, List, [], ◌∷◌, ◌++◌, length, take, refl, ap, sym, ◌∙◌, arith}
use Rattle.std.specs.Prelude.{◌<◌, ◌^◌, min, Vec, IfOk, IfErr}
use Rattle.std.proofs.Common.{Result, Ok, Err}
use Rattle.std.proofs.lemmas.List.{append-nil, take_all, take-take, take-append-le, length-take}
use Rattle.ztext.specs.Results.{◌>>=◌}
use Rattle.ztext.specs.declared.fault.TextFault.{TextFault}
use Rattle.ztext.specs.declared.fault.TextFault.TheVariants as faults
use Rattle.ztext.specs.Text.{read_with, abbreviation, decoded}
use Rattle.ztext.specs.Reading.{Cause, Character, End, Abbreviation}
use Rattle.ztext.specs.Faults.{FailsText, GivesText, HasFault}
use Rattle.ztext.specs.Fronts.{front_of, after_text}
use Rattle.ztext.proofs.Causes.{cause_is, has_cause}

-- the first of the characters that are read
abbrev pub front : ℕ → Result (List ℕ) Cause → Result (List ℕ) Cause
front most r = r >>= λ text. Ok (take most text)

-- what stands behind the front is left out, whether before or after more is added
pub take_front : (most : ℕ) (xs ys : List ℕ) → take most (take most xs ++ ys) ≡ take most (xs ++ ys)
take_front zero xs ys = refl
take_front (suc n) [] ys = refl
take_front (suc n) (x ∷ xs) ys = ap (λ l. x ∷ l) (take_front n xs ys)

-- nothing is added
pub still : (most : ℕ) (text : List ℕ) → length text ≤ most → text ≡ take most (text ++ [])
still most text le = sym (ap (take most) (append-nil text) ∙ take_all most text le)

-- a front has room
pub front_room : (most : ℕ) (now text : List ℕ) → now ≡ take most text → length now ≤ most
front_room most now text e = rw e (omega (arith, length-take most text))

-- what stood there stays
pub front_stays : (most : ℕ) (old text got now : List ℕ) → length text ≤ most → take (length old) text ≡ old
    → now ≡ take most (text ++ got) → take (length old) now ≡ old
front_stays most old text got now room stays grown =
    let long : length old ≤ length text =
    (let n : length old ≡ min (length old) (length text) = ap length (sym stays) ∙ length-take (length old) text in
    omega (arith, n)) in
    ap (take (length old)) grown ∙ take-take (length old) most (text ++ got) (omega (arith, long, room))
    ∙ take-append-le (length old) text got long ∙ stays

-- what stood there stays, whatever is added in two steps
pub stays_twice : (old text now : List ℕ) → take (length old) text ≡ old → take (length text) now ≡ text
    → take (length old) now ≡ old
stays_twice old text now first second =
    let long : length old ≤ length text =
    (let n : length old ≡ min (length old) (length text) = ap length (sym first) ∙ length-take (length old) text in
    omega (arith, n)) in
    sym (take-take (length old) (length text) now long) ∙ ap (take (length old)) second ∙ first

-- the faults of a text are those of the text behind other characters
after_fails : (old : List ℕ) (fault : TextFault) (r : Result (List ℕ × ℕ) Cause) → FailsText fault (after_text old r)
    → FailsText fault r
after_fails old faults.Memory r h = tt
after_fails old faults.Character (Ok x) h = absurd cc
after_fails old faults.End (Ok x) h = absurd cc
after_fails old faults.Abbreviation (Ok x) h = absurd cc
after_fails old faults.Character (Err f) h = ap (λ y. Err y) (cause_is f Character h)
after_fails old faults.End (Err f) h = ap (λ y. Err y) (cause_is f End h)
after_fails old faults.Abbreviation (Err f) h = ap (λ y. Err y) (cause_is f Abbreviation h)

-- the faults of a front are those of the whole
pub front_fails : (most : ℕ) (fault : TextFault) (r : Result (List ℕ × ℕ) Cause) → FailsText fault (front_of most r)
    → FailsText fault r
front_fails most faults.Memory r h = tt
front_fails most faults.Character (Ok x) h = absurd cc
front_fails most faults.End (Ok x) h = absurd cc
front_fails most faults.Abbreviation (Ok x) h = absurd cc
front_fails most faults.Character (Err f) h = ap (λ y. Err y) (cause_is f Character h)
front_fails most faults.End (Err f) h = ap (λ y. Err y) (cause_is f End h)
front_fails most faults.Abbreviation (Err f) h = ap (λ y. Err y) (cause_is f Abbreviation h)

-- a fault of a front behind other characters is one of the whole
pub behind_fails : (most : ℕ) (old : List ℕ) (fault : TextFault) (r : Result (List ℕ × ℕ) Cause)
    → FailsText fault (front_of most (after_text old r)) → FailsText fault r
behind_fails most old fault r h = after_fails old fault r (front_fails most fault (after_text old r) h)

-- a fault of characters and then a front has its cause in the story
pub fault_behind : (most : ℕ) (old now story : List ℕ) (at : ℕ) (result : Result ℕ TextFault)
    → GivesText (λ after. (now, after)) result (front_of most (after_text old (decoded story at)))
    → IfErr result (HasFault story at)
unfolding decoded
fault_behind most old now story at (Ok after) h = tt
fault_behind most old now story at (Err fault) h =
    has_cause story at fault (behind_fails most old fault (read_with (abbreviation story) story at) h)

-- what was read to a front, by the whole
pub front_read : (most after : ℕ) (r : Result (List ℕ × ℕ) Cause) (front : List ℕ)
    → front_of most r ≡ Ok (front, after) → (text : List ℕ) × (r ≡ Ok (text, after)) × (front ≡ take most text)
front_read most after (Ok x) front e =
    let there : Result (List ℕ × ℕ) Cause → List ℕ × ℕ = λ r. elim r [ Ok y ↦ y | Err f ↦ x ] in
    let is = ap there e in
    (x.0, ap (λ y. Ok (x.0, y.1)) is, sym (ap (λ y. y.0) is))
front_read most after (Err f) front e = absurd cc

-- what was read behind other characters, to a front of both, by the whole
pub front_behind : (most after : ℕ) (old now : List ℕ) (r : Result (List ℕ × ℕ) Cause)
    → front_of most (after_text old r) ≡ Ok (now, after)
    → (text : List ℕ) × (r ≡ Ok (text, after)) × (now ≡ take most (old ++ text))
front_behind most after old now (Ok x) e =
    let there : Result (List ℕ × ℕ) Cause → List ℕ × ℕ = λ r. elim r [ Ok y ↦ y | Err f ↦ x ] in
    let is = ap there e in
    (x.0, ap (λ y. Ok (x.0, y.1)) is, sym (ap (λ y. y.0) is))
front_behind most after old now (Err f) e = absurd cc

-- a front that is not full is the whole
pub front_whole : (most after : ℕ) (r : Result (List ℕ × ℕ) Cause) (front : List ℕ) → length front < most
    → front_of most r ≡ Ok (front, after) → r ≡ Ok (front, after)
front_whole most after r front lt e =
    let read = front_read most after r front e in
    let n : length front ≡ min most (length read.0) = ap length read.2 ∙ length-take most read.0 in
    read.1 ∙ ap (λ l. Ok (l, after)) (sym (read.2 ∙ take_all most read.0 (omega (arith, n, lt))))

-- what was read to a front that no text fills is the whole
pub gives_whole : {Z : Type 0} (most : ℕ) (result : Result (Vec ℕ Z × ℕ) TextFault) (r : Result (List ℕ × ℕ) Cause)
    → 2 ^ 63 ≤ most → IfOk result (λ x. length x.0.items < 2 ^ 63)
    → GivesText (λ x. (x.0.items, x.1)) result (front_of most r) → GivesText (λ x. (x.0.items, x.1)) result r
gives_whole most (Ok x) r le lt h = front_whole most x.1 r x.0.items (omega (arith, le, lt)) h
gives_whole most (Err fault) r le lt h = front_fails most fault r h
