-- How long code is, wherever it stands.
use Rattle.std.proofs.Common.{◌≡◌, List, [], ◌∷◌, ◌++◌, length, refl, ap, ◌∙◌, arith}
use Rattle.std.specs.Prelude.{map}
use Rattle.meaning.specs.Resolved.{RoutineOf}
use Rattle.code_items.specs.Statements.{routine_items}
use Rattle.code_drafts.specs.Addresses.{Addresses, Sizes}
use Rattle.code.specs.Bytes.{code_size, code_bytes}
use Rattle.code.specs.Sizes.{routine_size}
use Rattle.code.proofs.Places.{code_length}
use Rattle.story_file.specs.Layout.{fault_texts, routine_bytes}

-- of a program of these sizes
module _ (sizes : Sizes) (a : Addresses) where
  pub routine_length : (r : RoutineOf) → length (routine_bytes sizes a r) ≡ routine_size sizes r
  routine_length r =
      let e : length (code_bytes sizes a (routine_items r)) ≡ code_size sizes (routine_items r) =
      code_length sizes a (routine_items r) in
      omega (arith, e)

  -- the sizes of the parts of a story are those by which its addresses are reckoned
  pub sizes_are : (rs : List RoutineOf)
      → map length (map (routine_bytes sizes a) rs ++ fault_texts)
      ≡ map (routine_size sizes) rs ++ map length fault_texts
  sizes_are [] = refl
  sizes_are (r ∷ rs) =
      ap (λ n. n ∷ map length (map (routine_bytes sizes a) rs ++ fault_texts)) (routine_length r)
      ∙ ap (λ ns. routine_size sizes r ∷ ns) (sizes_are rs)
