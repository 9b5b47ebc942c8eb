-- Bytes and words that are written.
use Rattle.std.proofs.Common.{◌≡◌, ◌≢◌, ◌⊎◌, inl, inr, ℕ, zero, suc, ◌+◌, ◌-◌, ◌*◌, ◌/◌, ◌%◌, ◌<◌, ◌≤◌, List, [], ◌∷◌}
use Rattle.std.proofs.Common.{◌++◌, length, drop, slice_index, slice_set, refl, ap, sym, ◌∙◌, arith, subst}
use Rattle.std.proofs.lemmas.List.{length-set, get_or-set_same, get_or-set_other, ext_get_or, get_or-drop, length-drop}
use Rattle.std.proofs.lemmas.List.{set-append_left}
use Rattle.ztext.specs.Bytes.{word_at}
use Rattle.ztext.specs.Text.{Holds}
use Rattle.ztext.proofs.Holding.{holds_byte, byte_holds}
use Rattle.zcore.specs.Parts.{with_word}

module _ (memory : List ℕ) (at word : ℕ) where
  pub length_with : length (with_word memory at word) ≡ length memory
  length_with = length-set (slice_set memory at (word / 256)) (at + 1) (word % 256) ∙ length-set memory at (word / 256)

  pub byte_other : (q : ℕ) → q ≢ at → q ≢ (at + 1) → slice_index (with_word memory at word) q ≡ slice_index memory q
  byte_other q a b = get_or-set_other (slice_set memory at (word / 256)) (at + 1) q (word % 256) 0 b
      ∙ get_or-set_other memory at q (word / 256) 0 a

  pub word_other : (q : ℕ) → (q + 1 < at) ⊎ (at + 1 < q) → word_at (with_word memory at word) q ≡ word_at memory q
  word_other q (inl h) =
      let a = byte_other q (λ e. omega (arith, h, e)) (λ e. omega (arith, h, e)) in
      let b = byte_other (q + 1) (λ e. omega (arith, h, e)) (λ e. omega (arith, h, e)) in
      ap (λ x. x * 256 + slice_index (with_word memory at word) (q + 1)) a ∙ ap (λ x. slice_index memory q * 256 + x) b
  word_other q (inr h) =
      let a = byte_other q (λ e. omega (arith, h, e)) (λ e. omega (arith, h, e)) in
      let b = byte_other (q + 1) (λ e. omega (arith, h, e)) (λ e. omega (arith, h, e)) in
      ap (λ x. x * 256 + slice_index (with_word memory at word) (q + 1)) a ∙ ap (λ x. slice_index memory q * 256 + x) b

  pub word_here : at + 1 < length memory → word_at (with_word memory at word) at ≡ word
  word_here h =
      let high = get_or-set_other (slice_set memory at (word / 256)) (at + 1) at (word % 256) 0
      (λ e. omega (arith, e)) ∙ get_or-set_same memory at (word / 256) 0 (omega (arith, h)) in
      let low = get_or-set_same (slice_set memory at (word / 256)) (at + 1) (word % 256) 0
      (omega (arith, h, length-set memory at (word / 256))) in
      let whole : word / 256 * 256 + word % 256 ≡ word = omega arith in
      ap (λ x. x * 256 + slice_index (with_word memory at word) (at + 1)) high ∙ ap (λ x. word / 256 * 256 + x) low
      ∙ whole

-- a word whose bytes are the same
pub word_same : (old new : List ℕ) (at : ℕ) → slice_index new at ≡ slice_index old at
    → slice_index new (at + 1) ≡ slice_index old (at + 1) → word_at new at ≡ word_at old at
word_same old new at high low =
    ap (λ x. x * 256 + slice_index new (at + 1)) high ∙ ap (λ x. slice_index old at * 256 + x) low

-- what lies after an address is the same
pub drop_same : (old new : List ℕ) (k : ℕ) → length new ≡ length old
    → ((q : ℕ) → k ≤ q → slice_index new q ≡ slice_index old q) → drop k new ≡ drop k old
drop_same old new k long same =
    ext_get_or 0 (drop k new) (drop k old)
    (length-drop k new ∙ ap (λ n. n - k) long ∙ sym (length-drop k old))
    (λ i lt. get_or-drop k new i 0 ∙ same (k + i) (omega arith) ∙ sym (get_or-drop k old i 0))

-- bytes that stand at an address stand there where none of them is changed
pub holds_same : (old new : List ℕ) (at : ℕ) (bytes : List ℕ) → Holds old at bytes → length new ≡ length old
    → ((q : ℕ) → at ≤ q → q < at + length bytes → slice_index new q ≡ slice_index old q) → Holds new at bytes
holds_same old new at [] held long same = refl
holds_same old new at (b ∷ bytes) held long same =
    let h = holds_byte old at b bytes held in
    let rest = holds_same old new (at + 1) bytes h.rest long (λ q low high. same q (omega arith) (omega arith)) in
    byte_holds new at b bytes (omega (arith, h.within, long)) (same at (omega arith) (omega arith) ∙ h.here) rest

-- a byte among those that stand at an address
pub holds_set : (memory : List ℕ) (at : ℕ) (bytes : List ℕ) (k b : ℕ) → Holds memory at bytes → k < length bytes
    → Holds (slice_set memory (at + k) b) at (slice_set bytes k b)
holds_set memory at [] k b held lt = absurd (omega arith)
holds_set memory at (c ∷ bytes) zero b held lt =
    let h = holds_byte memory at c bytes held in
    let there : at + zero ≡ at = omega arith in
    let long = length-set memory (at + zero) b in
    let here : slice_index (slice_set memory (at + zero) b) at ≡ b =
    ap (λ n. slice_index (slice_set memory n b) at) there ∙ get_or-set_same memory at b 0 h.within in
    let rest = holds_same memory (slice_set memory (at + zero) b) (at + 1) bytes h.rest long
    (λ q low high. get_or-set_other memory (at + zero) q b 0 (λ e. omega (arith, low, e))) in
    byte_holds (slice_set memory (at + zero) b) at b bytes (omega (arith, h.within, long)) here rest
holds_set memory at (c ∷ bytes) (suc k) b held lt =
    let h = holds_byte memory at c bytes held in
    let next : at + 1 + k ≡ at + suc k = omega arith in
    let long = length-set memory (at + suc k) b in
    let later : Holds (slice_set memory (at + suc k) b) (at + 1) (slice_set bytes k b) =
    subst (λ n. Holds (slice_set memory n b) (at + 1) (slice_set bytes k b)) next
    (holds_set memory (at + 1) bytes k b h.rest (omega arith)) in
    let here = get_or-set_other memory (at + suc k) at b 0 (λ e. omega (arith, e)) in
    byte_holds (slice_set memory (at + suc k) b) at c (slice_set bytes k b) (omega (arith, h.within, long))
    (here ∙ h.here) later

-- a word among them
pub holds_with : (memory : List ℕ) (at : ℕ) (bytes : List ℕ) (k w : ℕ) → Holds memory at bytes → k + 1 < length bytes
    → Holds (with_word memory (at + k) w) at (with_word bytes k w)
holds_with memory at bytes k w held lt =
    let a = holds_set memory at bytes k (w / 256) held (omega (arith, lt)) in
    let long = length-set bytes k (w / 256) in
    let next : at + (k + 1) ≡ at + k + 1 = omega arith in
    subst (λ n. Holds (slice_set (slice_set memory (at + k) (w / 256)) n (w % 256)) at (with_word bytes k w)) next
    (holds_set (slice_set memory (at + k) (w / 256)) at (slice_set bytes k (w / 256)) (k + 1) (w % 256) a
    (omega (arith, lt, long)))

set_behind : (xs ys : List ℕ) (k b : ℕ) → slice_set (xs ++ ys) (length xs + k) b ≡ xs ++ slice_set ys k b
set_behind [] ys k b = let e : 0 + k ≡ k = omega arith in ap (λ n. slice_set ys n b) e
set_behind (x ∷ xs) ys k b =
    let e : suc (length xs) + k ≡ suc (length xs + k) = omega arith in
    ap (λ n. slice_set (x ∷ xs ++ ys) n b) e ∙ ap (λ zs. x ∷ zs) (set_behind xs ys k b)

-- a word that is written into the second of two runs of bytes, and into the first
pub with_behind : (xs ys : List ℕ) (k w : ℕ) → with_word (xs ++ ys) (length xs + k) w ≡ xs ++ with_word ys k w
with_behind xs ys k w =
    let next : length xs + k + 1 ≡ length xs + (k + 1) = omega arith in
    ap (λ zs. slice_set zs (length xs + k + 1) (w % 256)) (set_behind xs ys k (w / 256))
    ∙ ap (λ n. slice_set (xs ++ slice_set ys k (w / 256)) n (w % 256)) next
    ∙ set_behind xs (slice_set ys k (w / 256)) (k + 1) (w % 256)

pub with_before : (xs ys : List ℕ) (k w : ℕ) → k + 1 < length xs → with_word (xs ++ ys) k w ≡ with_word xs k w ++ ys
with_before xs ys k w lt =
    let long = length-set xs k (w / 256) in
    ap (λ zs. slice_set zs (k + 1) (w % 256)) (set-append_left xs ys k (w / 256) (omega (arith, lt)))
    ∙ set-append_left (slice_set xs k (w / 256)) ys (k + 1) (w % 256) (omega (arith, lt, long))
