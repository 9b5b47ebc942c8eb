-- Code that stands at an address after the header, where the machine can do it.
use Rattle.std.proofs.Common.{◌≡◌, ℕ, ◌+◌, ◌≤◌, List, ◌++◌, drop, length, arith}
use Rattle.ztext.specs.Text as text
use Rattle.ztext.proofs.Holding as holding
use Rattle.code.proofs.Memory as memory

abbrev pub Holds : List ℕ → ℕ → List ℕ → Type 0
Holds story at bytes = (64 ≤ at) × text.Holds story at bytes

-- two runs of bytes, one after the other
pub holds_append : (story : List ℕ) (at : ℕ) (xs ys : List ℕ) → Holds story at (xs ++ ys)
    → Holds story at xs × Holds story (at + length xs) ys
holds_append story at xs ys h =
    let above : 64 ≤ at = h.0 in
    let p = holding.holds_append story at xs ys h.1 in
    ((above, p.0), (omega arith, p.1))

-- bytes from static memory on stand in each memory that has the same from there on
pub holds_on : (base q : ℕ) (story other bytes : List ℕ) → drop base other ≡ drop base story → base ≤ q
    → Holds story q bytes → Holds other q bytes
holds_on base q story other bytes kept high h = (h.0, memory.holds_on base q story other bytes kept high h.1)
