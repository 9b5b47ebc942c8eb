-- The bytes of an item from those of its instructions.
use Rattle.std.proofs.Common.{◌≡◌, ℕ, List, [], ◌++◌, sym, ap, ◌∙◌, append-nil}
use Rattle.code_drafts.specs.Addresses.{Addresses}
use Rattle.code_drafts.specs.Bytes.{bytes_of_all}
use Rattle.code.specs.ItemCode.{read_code}

-- an item that is no text
pub no_text : (b b1 xs : List ℕ) → b1 ≡ b ++ xs → b1 ≡ b ++ (xs ++ [])
no_text b b1 xs e = e ∙ ap (λ z. b ++ z) (sym (append-nil xs))

-- the code of `read` by what its numbers are
pub read_same : (a : Addresses) {size place size1 place1 words entries words1 entries1 : ℕ} → size ≡ size1
    → place ≡ place1 → words ≡ words1 → entries ≡ entries1
    → bytes_of_all (read_code a size place words entries) ≡ bytes_of_all (read_code a size1 place1 words1 entries1)
read_same a {place = place} {size1 = size1} {place1 = place1} {words = words} {entries = entries} {words1 = words1} e f
    g h =
    ap (λ (n : ℕ). bytes_of_all (read_code a n place words entries)) e
    ∙ ap (λ (n : ℕ). bytes_of_all (read_code a size1 n words entries)) f
    ∙ ap (λ (n : ℕ). bytes_of_all (read_code a size1 place1 n entries)) g
    ∙ ap (λ (n : ℕ). bytes_of_all (read_code a size1 place1 words1 n)) h
