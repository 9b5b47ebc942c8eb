-- The files that go, so that there is room for one more.
use Rattle.std.proofs.Common.{◌≡◌, ◌≤◌, ◌<◌, ◌+◌, ◌-◌, ℕ, Bool, true, false, if◌then◌else◌, List, [], ◌∷◌, ◌++◌, length}
use Rattle.std.proofs.Common.{map, drop, take, get_or, refl, ap, sym, ◌∙◌, arith, subst}
use Rattle.std.proofs.lemmas.List.{drop-append-le, drop-map, drop_more, length-map, map-append, take_rest}
use Rattle.zcore_standard.specs.Keeping.{has_room, room_for, with_newest}

-- files that have room beside them stay
all_stay : (bytes : ℕ) (files : List (List ℕ)) → has_room bytes files ≡ true → room_for bytes files ≡ files
all_stay bytes [] has = refl
all_stay bytes (file ∷ files) has =
    ap (λ (b : Bool). if b then file ∷ files else room_for bytes files) has

of_rest : {X : Type 0} (v : X → List ℕ) (bytes : ℕ) (files : List X) (i : ℕ) (b : Bool)
    → has_room bytes (map v (take (length files - i) (drop i files))) ≡ b → has_room bytes (map v (drop i files)) ≡ b
of_rest {X} v bytes files i b h = ap (λ (t : List X). has_room bytes (map v t)) (sym (take_rest files i)) ∙ h

pub stay : {X : Type 0} (v : X → List ℕ) (bytes : ℕ) (files : List X) (i : ℕ)
    → has_room bytes (map v (take (length files - i) (drop i files))) ≡ true
    → room_for bytes (map v files) ≡ room_for bytes (map v (drop i files))
    → drop i (map v files) ≡ room_for bytes (map v files)
stay v bytes files i has same = drop-map v i files ∙ sym (same ∙ all_stay bytes (map v (drop i files)) (of_rest v bytes files i true has))

-- and where there is no room the oldest goes
one_goes : (bytes : ℕ) (file : List ℕ) (files : List (List ℕ)) → has_room bytes (file ∷ files) ≡ false
    → room_for bytes (file ∷ files) ≡ room_for bytes files
one_goes bytes file files none =
    ap (λ (b : Bool). if b then file ∷ files else room_for bytes files) none

pub goes : {X : Type 0} (v : X → List ℕ) (bytes : ℕ) (files : List X) (i : ℕ) → i < length files
    → has_room bytes (map v (take (length files - i) (drop i files))) ≡ false
    → room_for bytes (map v files) ≡ room_for bytes (map v (drop i files))
    → room_for bytes (map v files) ≡ room_for bytes (map v (drop (i + 1) files))
goes v bytes files i lt none same =
    let all : List (List ℕ) = map v files in
    let within : i < length all = omega (arith, length-map files v) in
    let here : map v (drop i files) ≡ get_or all i [] ∷ drop (i + 1) all =
    sym (drop-map v i files) ∙ drop_more all i [] within in
    same ∙ ap (λ t. room_for bytes t) here
    ∙ one_goes bytes (get_or all i []) (drop (i + 1) all) (ap (λ t. has_room bytes t) (sym here) ∙ of_rest v bytes files i false none)
    ∙ ap (λ t. room_for bytes t) (drop-map v (i + 1) files)

-- one more is kept
pub pushed : {X : Type 0} (v : X → List ℕ) (old slice between new : List X) (newest : X) (file : List ℕ)
    (kept : List (List ℕ)) (bytes count : ℕ)
    → slice ≡ old → bytes ≡ length file → count ≤ length slice → drop count (map v slice) ≡ room_for bytes (map v slice)
    → v newest ≡ file → between ≡ old ++ newest ∷ [] → new ≡ drop count between → map v old ≡ kept
    → map v new ≡ with_newest file kept
pushed {X} v old slice between new newest file kept bytes count part size few left last more went view =
    rw (went, more, drop-append-le count old (newest ∷ []) (subst (λ (s : List X). count ≤ length s) part few), sym view, sym last)
    (map-append v (drop count old) (newest ∷ [])
    ∙ ap (λ (t : List (List ℕ)). t ++ v newest ∷ [])
    (sym (drop-map v count old)
    ∙ subst (λ (s : List X). drop count (map v s) ≡ room_for bytes (map v s)) part left
    ∙ ap (λ (n : ℕ). room_for n (map v old)) (size ∙ ap (λ (f : List ℕ). length f) (sym last))))
