-- Which objects the entries of an object table lead to.
use Rattle.std.specs.Prelude.{◌≡◌, ◌≤◌, ◌<◌, ◌+◌, ℕ, List, drop, length, slice_index_or}
use Rattle.meaning.specs.Objects.{ObjectOf, no_object, first_of, standing_in}

-- each object stands in an earlier one, or nowhere
abbrev pub ArePlaced : List ObjectOf → Type 0
ArePlaced objects = (k : ℕ) → k < length objects → (slice_index_or objects k no_object).parent ≤ k

-- The links of objects, as far as they are known from those after the first so many: of each number the first of these
-- that stands in it, and of each of these the next that stands where it does.
pub record AreLinked (objects : List ObjectOf) (from : ℕ) (first next : List ℕ) : Type 0 where
  pub numbers : length first ≡ length objects + 1
  pub places : length next ≡ length objects
  pub first_in : (p : ℕ) → p ≤ length objects
      → slice_index_or first p 0 ≡ first_of (standing_in p (from + 1) (drop from objects))
  pub after : (k : ℕ) → from ≤ k → k < length objects
      → slice_index_or next k 0
      ≡ first_of (standing_in (slice_index_or objects k no_object).parent (k + 1 + 1) (drop (k + 1) objects))
