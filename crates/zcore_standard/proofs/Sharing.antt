-- Lists of files that are shared.
use Rattle.std.proofs.Common.{◌≡◌, ℕ, ◌+◌, ◌<◌, List, [], ◌∷◌, ◌++◌, length, map, drop, get_or}
use Rattle.std.proofs.Common.{ap, sym, ◌∙◌, append_assoc}
use Rattle.std.proofs.lemmas.List.{drop_more, map-append}

-- one file more is shared
pub share_step : {X : Type 0} (v : X → List ℕ) (copies files : List X) (i : ℕ) (item copy : X) (whole : List (List ℕ))
    → i < length files → item ≡ get_or files i item → v copy ≡ v item
    → map v copies ++ map v (drop i files) ≡ whole
    → map v (copies ++ copy ∷ []) ++ map v (drop (i + 1) files) ≡ whole
share_step v copies files i item copy whole lt is same h =
    ap (λ (t : List (List ℕ)). t ++ map v (drop (i + 1) files)) (map-append v copies (copy ∷ []))
    ∙ append_assoc (map v copies) (v copy ∷ []) (map v (drop (i + 1) files))
    ∙ ap (λ (t : List ℕ). map v copies ++ t ∷ map v (drop (i + 1) files)) same
    ∙ ap (λ t. map v copies ++ map v t)
    (sym (drop_more files i item lt ∙ ap (λ t. t ∷ drop (i + 1) files) (sym is)))
    ∙ h
