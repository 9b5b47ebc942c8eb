-- Where the bytes of a source of several files stand.
use Rattle.std.proofs.Common.{◌⊎◌, inl, inr, ◌≡◌, ◌∙◌, ◌<◌, ◌≤◌, ◌+◌, ◌-◌, ℕ, suc, Bool, true, false, List, [], ◌∷◌, ◌++◌}
use Rattle.std.proofs.Common.{Option, Some, None, length, drop, get_or, refl, sym, ap, subst, arith}
use Rattle.std.specs.Prelude.{if◌then◌else◌, nat_le}
use Rattle.std.proofs.lemmas.Bool.{leb-true, leb-false}
use Rattle.std.proofs.lemmas.List.{get_or_append_left, get_or-append_right, get_or-take, get_or-drop, length-take}
use Rattle.derive_joined.specs.declared.part.Part.{Part}
use Rattle.derive_joined.specs.declared.part.Part.TheVariants as p
use Rattle.derive_joined.specs.declared.part.Run.{Run}
use Rattle.derive_joined.specs.declared.texts.Spot.{Spot}
use Rattle.derive_joined.specs.Texts.{IsByteAt, bytes_of, spot_of, text_of}

abbrev unwrapped : Spot → Option Spot → Spot
unwrapped default None = default
unwrapped default (Some spot) = spot

same_spot : (a b : Spot) → Some a ≡ Some b → a ≡ b
same_spot a b e = ap (unwrapped a) e

-- a byte of a run
in_run : (files : List (List ℕ)) (run : Run) (k : ℕ) → k < length (bytes_of files run)
    → get_or (bytes_of files run) k 0 ≡ get_or (get_or files run.file []) (run.begin + k) 0
in_run files run k lt =
    get_or-take run.length (drop run.begin (get_or files run.file [])) k 0
    (omega (arith, lt, length-take run.length (drop run.begin (get_or files run.file []))))
    ∙ get_or-drop run.begin (get_or files run.file []) k 0

-- the byte of an offset within a run, or the line end after it
within : (files : List (List ℕ)) (run : Run) (rest : List ℕ) (k : ℕ) → k ≤ length (bytes_of files run)
    → IsByteAt files (get_or (bytes_of files run ++ 10 ∷ rest) k 0)
    (record { file = run.file; offset = run.begin + k })
within files run rest k le = by (nat_le (k + 1) (length (bytes_of files run))) refl
  where
    by : (c : Bool) → nat_le (k + 1) (length (bytes_of files run)) ≡ c
        → IsByteAt files (get_or (bytes_of files run ++ 10 ∷ rest) k 0)
        (record { file = run.file; offset = run.begin + k })
    by true e =
        let lt : k < length (bytes_of files run) = omega (arith, leb-true (k + 1) (length (bytes_of files run)) e) in
        inl (get_or_append_left (bytes_of files run) (10 ∷ rest) 0 k lt ∙ in_run files run k lt)
    by false e =
        let same : k - length (bytes_of files run) ≡ 0 = omega (arith, le) in
        inr (get_or-append_right (bytes_of files run) (10 ∷ rest) (length (bytes_of files run)) k 0 refl
        (omega (arith, leb-false (k + 1) (length (bytes_of files run)) e))
        ∙ ap (λ n. get_or (10 ∷ rest) n 0) same)

-- a byte behind a run and its line end
behind : (xs rest : List ℕ) (k : ℕ) → length xs < k
    → get_or rest (k - (length xs + 1)) 0 ≡ get_or (xs ++ 10 ∷ rest) k 0
behind xs rest k lt =
    let more : k - length xs ≡ suc (k - (length xs + 1)) = omega (arith, lt) in
    sym (get_or-append_right xs (10 ∷ rest) (length xs) k 0 refl (omega (arith, lt))
    ∙ ap (λ n. get_or (10 ∷ rest) n 0) more)

-- Each byte of the source is the byte of a file at its spot, or a line end between parts.
pub stands : (files : List (List ℕ)) (parts : List Part) (k : ℕ) (spot : Spot) → spot_of files parts k ≡ Some spot
    → IsByteAt files (get_or (text_of files parts) k 0) spot
stands files [] k spot e = absurd cc
stands files (p.Asked named ∷ parts) k spot e = stands files parts k spot e
stands files (p.Bytes run ∷ parts) k spot e =
    by (nat_le k (length (bytes_of files run))) refl e
    (λ later. stands files parts (k - (length (bytes_of files run) + 1)) spot later)
  where
    by : (c : Bool) → nat_le k (length (bytes_of files run)) ≡ c
        → (if c then Some (record { file = run.file; offset = run.begin + k })
        else spot_of files parts (k - (length (bytes_of files run) + 1))) ≡ Some spot
        → (spot_of files parts (k - (length (bytes_of files run) + 1)) ≡ Some spot
        → IsByteAt files (get_or (text_of files parts) (k - (length (bytes_of files run) + 1)) 0) spot)
        → IsByteAt files (get_or (bytes_of files run ++ 10 ∷ text_of files parts) k 0) spot
    by true c e rest =
        subst (IsByteAt files (get_or (bytes_of files run ++ 10 ∷ text_of files parts) k 0))
        (same_spot (record { file = run.file; offset = run.begin + k }) spot e)
        (within files run (text_of files parts) k (leb-true k (length (bytes_of files run)) c))
    by false c e rest =
        subst (λ (b : ℕ). IsByteAt files b spot)
        (behind (bytes_of files run) (text_of files parts) k (leb-false k (length (bytes_of files run)) c))
        (rest e)
