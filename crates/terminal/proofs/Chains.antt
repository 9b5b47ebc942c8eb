-- The arguments of the command line, as a chain of calls adds them: their names are all different.
use Rattle.std.proofs.Common.{◌≡◌, ◌<◌, ◌∙◌, ◌&&◌, ap, sym, not, zero, suc, ℕ, Bool, true, false, List, [], ◌∷◌, length, codes}
use Rattle.std.proofs.Common.{refl, inl, inr, arith}
use Rattle.std.specs.List.{All, slice_index_or}
use Rattle.std.specs.Str.{bytes_eq}
use Rattle.std.proofs.lemmas.Slice.Eq.{bytes_eq-Decides}
use Rattle.clap.specs.Built.{HasDistinctIds}
use Rattle.clap.specs.declared.builder.arg.Arg.{Arg}
use Rattle.terminal.specs.Arguments.{AreNamed, IsNamed}
use Rattle.terminal.proofs.Optional.{Joins}

-- a name that is not empty, and that `clap` gives no argument of its own
abbrev pub is_free : List ℕ → Bool
is_free name =
    not (bytes_eq name []) && (not (bytes_eq name (codes "help")) && not (bytes_eq name (codes "version")))

abbrev pub is_unlike : List ℕ → List (List ℕ) → Bool
is_unlike name [] = true
is_unlike name (other ∷ others) = not (bytes_eq name other) && is_unlike name others

-- all are free, and no two are one
abbrev pub are_own : List (List ℕ) → Bool
are_own [] = true
are_own (name ∷ names) = is_free name && (is_unlike name names && are_own names)

both : (a b : Bool) → a && b ≡ true → (a ≡ true) × (b ≡ true)
both true b h = (refl, h)
both false b h = let bad : false ≡ true = h in cc

denied : (b : Bool) → not b ≡ true → b ≡ true → ⊥
denied true h holds = let bad : false ≡ true = h in cc
denied false h holds = let bad : false ≡ true = holds in cc

differ : (xs ys : List ℕ) → not (bytes_eq xs ys) ≡ true → xs ≡ ys → ⊥
differ xs ys h same = denied (bytes_eq xs ys) h ((bytes_eq-Decides xs ys).1 same)

joins : (name : List ℕ) (a : Arg) → is_free name ≡ true → IsNamed name a → Joins a
joins name a free named =
    let some = both _ _ free in
    let own = both _ _ some.1 in (
      named.1,
      named.2,
      (λ empty. differ name [] some.0 (sym named.0 ∙ empty)),
      (λ auto. elim auto [
        | inl h ↦ differ name (codes "help") own.0 (sym named.0 ∙ h)
        | inr h ↦ differ name (codes "version") own.1 (sym named.0 ∙ h)
      ]),
    )

-- each argument of such a list joins a chain
pub all_join : (names : List (List ℕ)) (given : List Arg) → are_own names ≡ true → AreNamed names given → All Joins given
all_join [] [] own named k d lt = absurd (omega arith)
all_join (name ∷ names) (a ∷ given) own named zero d lt = joins name a (both _ _ own).0 named.0
all_join (name ∷ names) (a ∷ given) own named (suc k) d lt =
    all_join names given (both _ _ (both _ _ own).1).1 named.1 k d (omega arith)
all_join [] (a ∷ given) own named k d lt = absurd named
all_join (name ∷ names) [] own named k d lt = absurd named

other_at : (name : List ℕ) (names : List (List ℕ)) (given : List Arg) (k : ℕ) (d : Arg) → is_unlike name names ≡ true
    → AreNamed names given → k < length given → name ≡ (slice_index_or given k d).id.now → ⊥
other_at name [] [] k d unlike named lt same = absurd (omega arith)
other_at name (other ∷ others) (a ∷ given) zero d unlike named lt same =
    differ name other (both _ _ unlike).0 (same ∙ named.0.0)
other_at name (other ∷ others) (a ∷ given) (suc k) d unlike named lt same =
    other_at name others given k d (both _ _ unlike).1 named.1 (omega arith) same
other_at name [] (a ∷ given) k d unlike named lt same = absurd named
other_at name (other ∷ others) [] k d unlike named lt same = absurd named

-- no two of them have one id
pub all_distinct : (names : List (List ℕ)) (given : List Arg) → are_own names ≡ true → AreNamed names given
    → HasDistinctIds given
all_distinct [] [] own named j k d e in_j in_k same = absurd (omega arith)
all_distinct (name ∷ names) (a ∷ given) own named zero zero d e in_j in_k same = refl
all_distinct (name ∷ names) (a ∷ given) own named zero (suc k) d e in_j in_k same =
    absurd (other_at name names given k d (both _ _ (both _ _ own).1).0 named.1 (omega arith)
    (sym named.0.0 ∙ (bytes_eq-Decides _ _).0 same))
all_distinct (name ∷ names) (a ∷ given) own named (suc j) zero d e in_j in_k same =
    absurd (other_at name names given j e (both _ _ (both _ _ own).1).0 named.1 (omega arith)
    (sym named.0.0 ∙ sym ((bytes_eq-Decides _ _).0 same)))
all_distinct (name ∷ names) (a ∷ given) own named (suc j) (suc k) d e in_j in_k same =
    ap suc (all_distinct names given (both _ _ (both _ _ own).1).1 named.1 j k d e (omega arith) (omega arith) same)
all_distinct [] (a ∷ given) own named j k d e in_j in_k same = absurd named
all_distinct (name ∷ names) [] own named j k d e in_j in_k same = absurd named
