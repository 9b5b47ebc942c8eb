-- The right operand of an operator, where it finds it.
use Rattle.std.proofs.Common.{◌≡◌, ℕ, ◌+◌, ◌≤◌, List, [], ◌∷◌, ◌++◌, length, Bool, true, false, refl, sym, arith}
use Rattle.std.specs.Prelude.{if◌then◌else◌}
use Rattle.syntax_trees.specs.declared.tree.Binary.{Binary}
use Rattle.meaning.specs.Limits.{operands}
use Rattle.meaning.specs.Resolved.{Value, Values, none, more}
use Rattle.meaning.specs.Resolved as source
use Rattle.meaning.specs.Accepted.{need_of}
use Rattle.meaning.specs.World.{Situation, to, Part, ◌>>=◌, value_in}
use Rattle.meaning.specs.Meaning.{evaluate}
use Rattle.code_drafts.specs.Items.{Item, Operand, pushed, number, variable, Destination, push, alone, left_of}
use Rattle.code_drafts.specs.Items.{if_pushed, operand_count, value_count, value_items, right_place, operation_item}
use Rattle.code_drafts.specs.Items.{prefix_operand, operand_of, change}
use Rattle.code_drafts.proofs.CountedForms.{if_length}
use Rattle.code_drafts.proofs.Counts.{value_length}
use Rattle.code_items.specs.Stack.{Next}
use Rattle.code_items.proofs.Running.{Running, code, setting}
use Rattle.code_items.proofs.Standing.{HasAt, split}
use Rattle.code_items.proofs.Held.{onto, onto_length, AllHeld, no_variable}
use Rattle.code_items.proofs.Leads.{Leads, on, given, stands, lands, begins_at, as_part}
use Rattle.code_items.proofs.Evaluated.{ValueOk, operand_held, operand_does, comes_to, left_held}

-- two operands, and an operation with what stands after it
abbrev pub operated_items : ℕ → Binary → Value → Value → Destination → List Item → List Item
operated_items at op a b d rest = if_pushed (left_of a b) (value_items at a push) []
    ++ (if_pushed (alone b) (value_items (at + operand_count a (left_of a b)) b (right_place op (left_of a b))) []
    ++ operation_item (right_place op (left_of a b)) op (left_of a b) (alone b) d ∷ rest)

-- after the operands
abbrev pub placed_end : Binary → Value → Value → ℕ → ℕ
placed_end op a b pc =
    pc + operand_count a (left_of a b) + if_pushed (alone b) (value_count b (right_place op (left_of a b))) 0

module _ (now : Running) where
  -- a right operand that does not stand in place is in its place
  abbrev pub placed_at : Destination → Operand → ℕ → List ℕ → ℕ → Situation → Next
  placed_at place pushed q words v s = lands now place q words v s
  placed_at place (number n) q words v s = stands now q words s
  placed_at place (variable x) q words v s = stands now q words s

  pub operand_placed : (v : Value) (later : Values) (place : Destination) → ValueOk now v → (s : Situation)
      (n pc q : ℕ) (words : List ℕ) → HasAt (code now) pc (if_pushed (operand_of v later) (value_items pc v place) []) q
      → length words + need_of v ≤ 48
      → Leads now s n (stands now pc words s) (evaluate (setting now) v s)
      (placed_at place (operand_of v later) q words)
  operand_placed (source.number k) later place ok s n pc q words has le =
      begins_at now q pc words (sym has) (given now {behind = λ a last. stands now q words last} k)
  operand_placed (source.read x) later place ok s n pc q words has le = go (change x later) has
    where
      go : (b : Bool) → HasAt (code now) pc
          (if_pushed (if b then pushed else variable x) (value_items pc (source.read x) place) []) q
          → Leads now s n (stands now pc words s) (to (value_in x s) s)
          (placed_at place (if b then pushed else variable x) q words)
      go true has = ok.value s n pc q words place has le
      go false has =
          begins_at now q pc words (sym has) (given now {behind = λ a last. stands now q words last} (value_in x s))
  operand_placed (source.prefixed op v) later place ok s n pc q words has le =
      go (prefix_operand op (operand_of v none)) refl has
    where
      go : (o : Operand) → prefix_operand op (operand_of v none) ≡ o
          → HasAt (code now) pc (if_pushed o (value_items pc (source.prefixed op v) place) []) q
          → Leads now s n (stands now pc words s) (evaluate (setting now) (source.prefixed op v) s)
          (placed_at place o q words)
      go pushed e has = ok.value s n pc q words place has le
      go (variable x) e has = absurd (no_variable op (operand_of v none) x e)
      go (number k) e has = as_part now _ _ (sym (comes_to now (source.prefixed op v) k s e))
          (begins_at now q pc words (sym has) (given now {behind = λ a last. stands now q words last} k))
  operand_placed v later place ok s n pc q words has le = ok.value s n pc q words place has le

  -- the operands of an operator, and what follows them
  pub placed_operands : {B : Type 0} {behind : B → Situation → Next} (op : Binary) (a b : Value) → ValueOk now a
      → ValueOk now b → (s : Situation) (n pc q : ℕ) (words : List ℕ) (tail : List Item) (g : ℕ → ℕ → Part B)
      → HasAt (code now) pc (if_pushed (left_of a b) (value_items pc a push) []
      ++ (if_pushed (alone b)
      (value_items (pc + operand_count a (left_of a b)) b (right_place op (left_of a b))) [] ++ tail)) q
      → length words + operands 0 (need_of a ∷ need_of b ∷ []) ≤ 48
      → ((x y : ℕ) (s2 : Situation)
      → HasAt (code now) (placed_end op a b pc) tail q
      → AllHeld (left_of a b ∷ alone b ∷ []) (x ∷ y ∷ []) s2
      → Leads now s2 n
      (placed_at (right_place op (left_of a b)) (alone b) (placed_end op a b pc) (onto (left_of a b) x words) y s2)
      (g x y s2) behind)
      → Leads now s n (stands now pc words s)
      ((evaluate (setting now) a >>= λ x. (evaluate (setting now) b >>= λ y. g x y)) s) behind
  placed_operands op a b oka okb s n pc q words tail g has le hg =
      let oa = left_of a b in
      let place = right_place op oa in
      let count = if_pushed (alone b) (value_count b place) 0 in
      let m = pc + operand_count a oa in
      let ha = split (code now) pc (if_pushed oa (value_items pc a push) []) _ q (operand_count a oa)
      (if_length oa _ _ (value_length a push pc)) has in
      let hb = split (code now) m (if_pushed (alone b) (value_items m b place) []) tail q count
      (if_length (alone b) _ _ (value_length b place m)) ha.1 in
      on now (evaluate (setting now) a) _ (operand_does now a (more b none) oka s n pc m words ha.0 (omega (arith, le)))
      (λ x s1 e1.
      on now (evaluate (setting now) b) (g x)
      (operand_placed b none place okb s1 n m (m + count) (onto oa x words) hb.0
      (omega (arith, le, onto_length oa x words))) (λ y s2 e2.
      hg x y s2 hb.1 (left_held now a b s s1 s2 x y e1 e2, (operand_held now b none s1 s2 y e2, tt))))
