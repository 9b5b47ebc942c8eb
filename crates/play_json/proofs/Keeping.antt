-- The lines that are kept, and those of marks.
use Rattle.std.proofs.Common.{◌≡◌, ℕ, ◌+◌, ◌-◌, ◌<◌, ◌≤◌, List, [], ◌∷◌, ◌++◌, length, get_or, take, drop, map, refl, ap, sym, ◌∙◌}
use Rattle.std.proofs.Common.{arith, nat_lt, true, Some}
use Rattle.std.proofs.lemmas.Bool.Decides.{nat_tests}
use Rattle.std.specs.Prelude.{option_map, slice_get}
use Rattle.std.proofs.lemmas.List.{drop-map, length-drop, length-map, map-append, take-map, take_all}
use Rattle.std.proofs.lemmas.Option.{slice_get-get_or, slice_get-map}
use Rattle.play_json.specs.Answers.{common}
use Rattle.play_json.specs.Going.{IsWayTo}
use Rattle.play_json.specs.Lines.{Lines, with_mark}
use Rattle.play_json.specs.declared.lines.Way.{Way}
use Rattle.play_json.proofs.Walking.{common_within}

-- what two lists have in common is no more than what is left of each
pub common_rest : {X : Type 0} (f : X → List ℕ) (xs ys : List X) (n : ℕ)
    → (common (map f (drop n xs)) (map f (drop n ys)) ≤ length xs - n)
    × (common (map f (drop n xs)) (map f (drop n ys)) ≤ length ys - n)
common_rest f xs ys n =
    let h = common_within (map f (drop n xs)) (map f (drop n ys)) in (
      omega (arith, h.0, length-map (drop n xs) f, length-drop n xs),
      omega (arith, h.1, length-map (drop n ys) f, length-drop n ys),
    )

-- a line is kept behind the first of them
pub kept_behind : {X : Type 0} (f : X → List ℕ) (olds mids news : List X) (x : X) (line : List ℕ) (done : ℕ)
    → mids ≡ take done olds → f x ≡ line → news ≡ mids ++ x ∷ []
    → map f news ≡ take done (map f olds) ++ line ∷ []
kept_behind f olds mids news x line done front is added =
    ap (map f) added ∙ map-append f mids (x ∷ [])
    ∙ ap (λ xs. xs ++ f x ∷ []) (ap (map f) front ∙ sym (take-map f done olds))
    ∙ ap (λ y. take done (map f olds) ++ y ∷ []) is

-- a mark more is kept
pub kept_mark : {X Y : Type 0} (f : X → List ℕ) (g : Y → List (List ℕ)) (lines slice : List X) (olds news : List Y)
    (done : ℕ) (marked : List (List ℕ)) (l : Lines)
    → record { all = map f lines; at = done; marks = map g olds } ≡ l → slice ≡ lines
    → marked ≡ map f (take done slice) → map g news ≡ map g olds ++ marked ∷ []
    → record { all = map f lines; at = done; marks = map g news } ≡ with_mark l
kept_mark f g lines slice olds news done marked l is same mark added =
    let whole : Lines = record { all = map f lines; at = done; marks = map g olds } in
    let lines_of : marked ≡ take done (map f lines) =
    mark ∙ ap (λ xs. map f (take done xs)) same ∙ sym (take-map f done lines) in
    ap (λ (ms : List (List (List ℕ))). record { all = map f lines; at = done; marks = ms })
    (added ∙ ap (λ m. map g olds ++ m ∷ []) lines_of) ∙ ap with_mark is

-- the way to a mark that is kept
pub kept_way : {X Y : Type 0} (f : X → List ℕ) (inside : Y → List X) (lines slice more after : List X)
    (marks among : List Y) (mark : Y) (done number : ℕ) (l : Lines) (way : Way)
    → record { all = map f lines; at = done; marks = map (λ y. map f (inside y)) marks } ≡ l
    → among ≡ marks → true ≡ nat_lt number (length among) → mark ≡ get_or among number mark → slice ≡ lines
    → more ≡ inside mark → after ≡ inside mark
    → way.common ≡ common (map f slice) (map f more)
    → map (λ rc. rc.value.given.items) way.rest.items
    ≡ map f (take (length after - way.common) (drop way.common after))
    → (whole : List (List ℕ)) × (slice_get l.marks number ≡ Some whole) × IsWayTo l whole way
kept_way f inside lines slice more after marks among mark done number l way is whole within found same all rest count left =
    let lt : number < length among = grind (arith, nat_tests) in
    let there : slice_get marks number ≡ Some mark =
    ap (λ ms. slice_get ms number) (sym whole) ∙ slice_get-get_or among number mark lt ∙ ap Some (sym found) in
    let long : length (drop way.common after) ≤ length after - way.common =
    omega (arith, length-drop way.common after) in (
      map f (inside mark),
      ap (λ (x : Lines). slice_get x.marks number) (sym is) ∙ slice_get-map (λ y. map f (inside y)) marks number
          ∙ ap (option_map (λ y. map f (inside y))) there,
      record {
        common = count ∙ ap (λ xs. common (map f xs) (map f more)) same ∙ ap (λ xs. common (map f lines) (map f xs)) all
            ∙ ap (λ (x : Lines). common x.all (map f (inside mark))) is;
        rest = left ∙ ap (map f) (take_all (length after - way.common) (drop way.common after) long)
            ∙ ap (λ xs. map f (drop way.common xs)) rest ∙ sym (drop-map f way.common (inside mark));
      },
    )
