-- A branch over one part to the end.
use Rattle.std.proofs.Common.{◌≡◌, ℕ, List, [], ◌∷◌, Some, None, refl}
use Rattle.code_drafts.specs.declared.layout.Form.TheVariants.{One, Two, Far}
use Rattle.code_drafts.specs.declared.layout.Part.{Part}
use Rattle.code_drafts.specs.Layout.{lefts, uses}

-- a part of 2 bytes that branches to the end, and one of so many
abbrev over : ℕ → List Part
over size = record { size = 2; target = Some 2 } ∷ record { size = size; target = None } ∷ []

least : uses 0 (over 0) ≡ record { form = One; offset = 2 } ∷ []
least = refl

most_of_one : uses 0 (over 61) ≡ record { form = One; offset = 63 } ∷ []
most_of_one = refl

bytes_of_one : lefts 0 (over 61) ≡ 64 ∷ 61 ∷ 0 ∷ []
bytes_of_one = refl

least_of_two : uses 0 (over 62) ≡ record { form = Two; offset = 64 } ∷ []
least_of_two = refl

bytes_of_two : lefts 0 (over 62) ≡ 66 ∷ 62 ∷ 0 ∷ []
bytes_of_two = refl

most_of_two : uses 0 (over 8189) ≡ record { form = Two; offset = 8191 } ∷ []
most_of_two = refl

least_of_far : uses 0 (over 8190) ≡ record { form = Far; offset = 8192 } ∷ []
least_of_far = refl

bytes_of_far : lefts 0 (over 8190) ≡ 8196 ∷ 8190 ∷ 0 ∷ []
bytes_of_far = refl
