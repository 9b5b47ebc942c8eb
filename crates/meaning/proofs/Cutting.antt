-- Arrays that follow one another, by their sizes.
use Rattle.std.proofs.Common.{◌≡◌, ℕ, List, [], ◌∷◌, ◌++◌, length, drop, refl, sym, ap, ◌∙◌}
use Rattle.std.proofs.Math.Seq.{take-append_seam, drop-append_seam}
use Rattle.std.specs.Prelude.{map}
use Rattle.std.specs.List.{concat}
use Rattle.meaning.specs.Views.{cut, AreArrays}

pub cut_back : (arrays : List (List ℕ)) → cut (map length arrays) (concat arrays) ≡ arrays
cut_back [] = refl
cut_back (a ∷ rest) =
    ap (λ (x : List ℕ). x ∷ cut (map length rest) (drop (length a) (a ++ concat rest)))
    (take-append_seam a (concat rest))
    ∙ ap (λ (x : List ℕ). a ∷ cut (map length rest) x) (drop-append_seam a (concat rest))
    ∙ ap (λ (x : List (List ℕ)). a ∷ x) (cut_back rest)

pub cut_is : (sizes bytes : List ℕ) (arrays : List (List ℕ)) → sizes ≡ map length arrays → bytes ≡ concat arrays
    → cut sizes bytes ≡ arrays
cut_is sizes bytes arrays s b = rw (s, b) (cut_back arrays)

pub cut_all : (sizes bytes : List ℕ) → AreArrays sizes bytes → bytes ≡ concat (cut sizes bytes)
cut_all sizes bytes h = h.2 ∙ ap concat (sym (cut_is sizes bytes h.0 h.1 h.2))

pub cut_sizes : (sizes bytes : List ℕ) → AreArrays sizes bytes → sizes ≡ map length (cut sizes bytes)
cut_sizes sizes bytes h = h.1 ∙ ap (map length) (sym (cut_is sizes bytes h.0 h.1 h.2))
