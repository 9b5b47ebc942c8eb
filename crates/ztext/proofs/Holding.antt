-- Bytes that stand at an address: one by one, and in two runs.
use Rattle.std.proofs.Common.{◌≡◌, ℕ, suc, ◌+◌, ◌<◌, ◌≤◌, List, [], ◌∷◌, ◌++◌, length, take, drop, refl, ap, sym, ◌∙◌}
use Rattle.std.proofs.Common.{arith, subst, slice_index, ◌⊎◌, inl, inr}
use Rattle.std.proofs.lemmas.Bool.{cases_lt}
use Rattle.std.proofs.lemmas.List.{drop_more, drop_all}
use Rattle.ztext.specs.Text.{Holds}

-- two lists that are equal have one first element
head_same : (x y : ℕ) (xs ys : List ℕ) → x ∷ xs ≡ y ∷ ys → x ≡ y
head_same x y xs ys h = cc

-- and the same rest
tail_same : (x y : ℕ) (xs ys : List ℕ) → x ∷ xs ≡ y ∷ ys → xs ≡ ys
tail_same x y xs ys h = cc

-- a first byte, and those after it
pub record HoldsByte (memory : List ℕ) (at byte : ℕ) (bytes : List ℕ) : Type 0 where
  pub within : at < length memory
  pub here : slice_index memory at ≡ byte
  pub rest : Holds memory (at + 1) bytes

-- the first byte, where it is within the memory or is not
holds_by : (memory : List ℕ) (at byte : ℕ) (bytes : List ℕ) → (at < length memory) ⊎ (length memory ≤ at)
    → Holds memory at (byte ∷ bytes) → HoldsByte memory at byte bytes
holds_by memory at byte bytes (inl within) h =
    let e : take (suc (length bytes)) (slice_index memory at ∷ drop (at + 1) memory)
    ≡ byte ∷ bytes = ap (take (suc (length bytes))) (sym (drop_more memory at 0 within)) ∙ h in
    record { within = within; here = head_same _ byte _ bytes e; rest = tail_same _ byte _ bytes e }
holds_by memory at byte bytes (inr past) h =
    let e : take (suc (length bytes)) [] ≡ byte ∷ bytes = ap (take (suc (length bytes)))
    (sym (drop_all at memory past)) ∙ h in
    absurd (cc)

-- the first byte of those that stand at an address
pub holds_byte : (memory : List ℕ) (at byte : ℕ) (bytes : List ℕ) → Holds memory at (byte ∷ bytes)
    → HoldsByte memory at byte bytes
holds_byte memory at byte bytes h = holds_by memory at byte bytes (cases_lt at (length memory)) h

-- a byte before bytes that stand at the next address
pub byte_holds : (memory : List ℕ) (at byte : ℕ) (bytes : List ℕ) → at < length memory → slice_index memory at ≡ byte
    → Holds memory (at + 1) bytes → Holds memory at (byte ∷ bytes)
byte_holds memory at byte bytes within here rest =
    ap (take (suc (length bytes))) (drop_more memory at 0 within)
    ∙ ap (λ x. x ∷ take (length bytes) (drop (at + 1) memory)) here ∙ ap (λ xs. byte ∷ xs) rest

-- two runs of bytes, one after the other
pub holds_append : (memory : List ℕ) (at : ℕ) (xs ys : List ℕ) → Holds memory at (xs ++ ys)
    → Holds memory at xs × Holds memory (at + length xs) ys
holds_append memory at [] ys h = let e : at ≡ at + 0 = omega arith in (refl, subst (λ a. Holds memory a ys) e h)
holds_append memory at (x ∷ xs) ys h =
    let b = holds_byte memory at x (xs ++ ys) h in
    let p = holds_append memory (at + 1) xs ys b.rest in
    let e : at + 1 + length xs ≡ at + suc (length xs) = omega arith in
    (byte_holds memory at x xs b.within b.here p.0, subst (λ a. Holds memory a ys) e p.1)
