-- The links of the machine's objects, three numbers for each (Z-Machine Standards Document 1.1, section 12.3), and how
-- they hold a tree.
use Rattle.std.specs.Prelude.{◌≡◌, ℕ, List, [], ◌∷◌}
use Rattle.ztext.specs.Bytes.{word_at}
use Rattle.zcore.specs.Entries.{Link, Parent, Sibling, Child, place_of}
use Rattle.zcore.specs.Header.{defaults_of}
use Rattle.meaning.specs.Objects.{Tree}
use Rattle.meaning.specs.Forests.{IsObjectNumber}

abbrev pub Links : Type 0
Links = Link → ℕ

-- the links that stand in memory
abbrev pub links_of : List ℕ → Links
links_of memory link = word_at memory (place_of (defaults_of memory) link)

-- a list stands in links: one names its first, the sibling of each the next, and that of the last none
abbrev pub IsChain : Links → Link → List ℕ → Type 0
IsChain links at [] = links at ≡ 0
IsChain links at (x ∷ xs) = (links at ≡ x) × IsChain links (Sibling x) xs

-- links of so many objects hold a tree
pub record HoldsTree (n : ℕ) (t : Tree) (links : Links) : Type 0 where
  pub parents : (o : ℕ) → IsObjectNumber n o → links (Parent o) ≡ t.parent o
  pub chains : (p : ℕ) → IsObjectNumber n p → IsChain links (Child p) (t.children p)
  pub alone : (o : ℕ) → IsObjectNumber n o → t.parent o ≡ 0 → links (Sibling o) ≡ 0
