-- A condition as a word: 1 or 0.
use Rattle.std.proofs.Common.{◌≡◌, ℕ, ◌+◌, ◌≤◌, List, [], ◌∷◌, ◌++◌, length, Some, Bool, true, false, refl, sym, ap}
use Rattle.std.proofs.Common.{◌∙◌, subst, arith}
use Rattle.std.specs.Prelude.{◌==◌, if◌then◌else◌, slice_get}
use Rattle.syntax_trees.specs.declared.tree.Binary.TheVariants as binaries
use Rattle.syntax_trees.specs.declared.tree.Comparison.{Comparison}
use Rattle.syntax_trees.specs.declared.tree.Equality.{Equality}
use Rattle.syntax_trees.specs.declared.tree.Prefix.TheVariants as prefixes
use Rattle.meaning.specs.Resolved.{Value, Values}
use Rattle.meaning.specs.Resolved as source
use Rattle.meaning.specs.Accepted.{need_of}
use Rattle.meaning.specs.World.{Situation, Comes, to, ◌>>=◌, give}
use Rattle.meaning.specs.Meaning.{truth, is_true, equated, compared, evaluate, evaluate_all}
use Rattle.code_drafts.specs.Items.{Item, number, Destination, push, into, aside, nowhere, agrees}
use Rattle.code_drafts.specs.Items.{truth_items}
use Rattle.code_drafts.specs.Items as items
use Rattle.code_items.proofs.Acts.{came}
use Rattle.code_items.proofs.Running.{Running, code, setting}
use Rattle.code_items.proofs.Standing.{HasAt, split, long}
use Rattle.code_items.proofs.Conditions.{truth_truth}
use Rattle.code_items.proofs.Leads.{Leads, given, then_to, stands, lands, goes_by, at_place, begins_at}
use Rattle.code_items.proofs.Steps.{number_does, jumps_after}

module _ (now : Running) where
  -- 1 or 0, where a condition branches
  truth_does : {s : Situation} {n : ℕ} (c : Comes ℕ) (count : ℕ) (d : Destination) (f : ℕ → List Item) (pc q : ℕ)
      (words : List ℕ) → ((t : ℕ) → length (f t) ≡ count) → HasAt (code now) pc (truth_items pc count d f) q
      → length words + 1 ≤ 48
      → ((v : ℕ) (last : Situation) → c ≡ to v last → truth (is_true v) ≡ v)
      → ((t q : ℕ) → HasAt (code now) pc (f t) q → q ≤ t
      → Leads now s n (stands now pc words s) c (goes_by now true t q words))
      → Leads now s n (stands now pc words s) c (lands now d q words)
  truth_does {s = s} {n = n} c count d f pc q words len has le is hb = go d has
    where
      m : ℕ
      m = pc + count

      -- the word, where 0 stands at m and 1 after it
      word : (d : Destination) → slice_get (code now) m ≡ Some (items.move (number 0) d)
          → slice_get (code now) (m + 1)
          ≡ Some (items.jump (pc + count + 3)) → slice_get (code now) (m + 1 + 1) ≡ Some (items.move (number 1) d)
          → (v : ℕ) (last : Situation) → (b : Bool) → is_true v ≡ b → truth b
          ≡ v → Leads now last n (stands now (if b then pc + count + 2 else m) words last) (to v last)
          (lands now d (pc + count + 3) words)
      word d h0 hj h1 v last true e t =
          at_place now (λ x. lands now d x words) (pc + count + 2 + 1) (pc + count + 3) (omega arith)
          (subst (λ w. Leads now last n (stands now (pc + count + 2) words last) (to w last)
          (lands now d (pc + count + 2 + 1) words)) t
          (number_does now 1 d (pc + count + 2) words
          (subst (λ x. slice_get (code now) x ≡ Some (items.move (number 1) d)) (omega arith) h1) le))
      word d h0 hj h1 v last false e t =
          jumps_after now d (m + 1) (pc + count + 3) words hj (omega arith)
          (subst (λ w. Leads now last n (stands now m words last) (to w last) (lands now d (m + 1) words)) t
          (number_does now 0 d m words h0 le))

      chosen : (d : Destination)
          → HasAt (code now) pc (f (pc + count + 2) ++ items.move (number 0) d ∷ items.jump
          (pc + count + 3) ∷ items.move (number 1) d ∷ []) q
          → Leads now s n (stands now pc words s) c (lands now d q words)
      chosen d has =
          let h = split (code now) pc (f (pc + count + 2)) _ q count (len (pc + count + 2)) has in
          at_place now (λ x. lands now d x words) (pc + count + 3) q (omega (arith, h.1.1.1.1))
          (then_to now c (hb (pc + count + 2) m h.0 (omega arith)) (λ v last e.
          subst (λ b. Leads now last n (stands now (if b then pc + count + 2 else m) words last) (to v last)
          (lands now d (pc + count + 3) words)) (agrees_true (is_true v))
          (word d h.1.0 h.1.1.0 h.1.1.1.0 v last (is_true v) refl (is v last e))))
        where
          agrees_true : (b : Bool) → b ≡ agrees b true
          agrees_true true = refl
          agrees_true false = refl

      either_way : (b : Bool) (t : ℕ) → t ≡ (if b then t else t)
      either_way true t = refl
      either_way false t = refl

      go : (d : Destination) → HasAt (code now) pc (truth_items pc count d f) q
          → Leads now s n (stands now pc words s) c (lands now d q words)
      go nowhere has =
          let e = long (code now) pc (f (pc + count)) q count (len (pc + count)) has in
          then_to now c (hb (pc + count) q has (omega (arith, e))) (λ v last _.
          begins_at now q (if agrees (is_true v) true then pc + count else q) words
          (either_way (agrees (is_true v) true) q ∙ ap (λ x. if agrees (is_true v) true then x else q) (sym e))
          (given now {behind = lands now nowhere q words} v))
      go push has = chosen push has
      go (into x) has = chosen (into x) has
      go aside has = chosen aside has

  -- a condition is 1 or 0
  abbrev IsTruth : Value → Type 0
  IsTruth v = (s last : Situation) (x : ℕ) → evaluate (setting now) v s ≡ to x last → truth (is_true x) ≡ x

  pub not_condition : (v : Value) → IsTruth (source.prefixed prefixes.Not v)
  not_condition v s last x e = let c = came (evaluate (setting now) v s) _ x last e in let is : truth (c.first == 0)
      ≡ x = cc in truth_truth (c.first == 0) x is

  pub compare_condition : (op : Comparison) (a b : Value) → IsTruth (source.compare op a b)
  compare_condition op a b s last x e =
      let c = came (evaluate (setting now) a s) _ x last e in
      let k = came (evaluate (setting now) b c.between) (λ y. give (truth (compared op c.first y))) x last c.then_is in
      let is : truth (compared op c.first k.first) ≡ x = cc in truth_truth (compared op c.first k.first) x is

  pub equal_condition : (op : Equality) (a : Value) (bs : Values) → IsTruth (source.equal op a bs)
  equal_condition op a bs s last x e =
      let c = came (evaluate (setting now) a s) _ x last e in
      let k = came (evaluate_all (setting now) bs c.between)
      (λ ys. give (truth (equated op c.first ys))) x last c.then_is in
      let is : truth (equated op c.first k.first) ≡ x = cc in truth_truth (equated op c.first k.first) x is

  second_condition : (b : Value) (s last : Situation) (x : ℕ)
      → (evaluate (setting now) b >>= λ y. give (truth (is_true y))) s ≡ to x last → truth (is_true x) ≡ x
  second_condition b s last x e = let c = came (evaluate (setting now) b s) (λ y. give (truth (is_true y))) x last e in
      let is : truth (is_true c.first) ≡ x = cc in truth_truth (is_true c.first) x is

  pub and_condition : (a b : Value) → IsTruth (source.binary binaries.AndAlso a b)
  and_condition a b s last x e = let c = came (evaluate (setting now) a s) _ x last e in
      go (is_true c.first) c.between c.then_is
    where
      go : (t : Bool) (s1 : Situation)
          → (if t then (evaluate (setting now) b >>= λ y. give (truth (is_true y))) else give 0) s1
          ≡ to x last → truth (is_true x) ≡ x
      go true s1 e = second_condition b s1 last x e
      go false s1 e = let is : 0 ≡ x = cc in truth_truth false x is

  pub or_condition : (a b : Value) → IsTruth (source.binary binaries.OrElse a b)
  or_condition a b s last x e = let c = came (evaluate (setting now) a s) _ x last e in
      go (is_true c.first) c.between c.then_is
    where
      go : (t : Bool) (s1 : Situation)
          → (if t then give 1 else (evaluate (setting now) b >>= λ y. give (truth (is_true y)))) s1
          ≡ to x last → truth (is_true x) ≡ x
      go true s1 e = let is : 1 ≡ x = cc in truth_truth true x is
      go false s1 e = second_condition b s1 last x e

  -- the items of a branch by this value do so
  abbrev pub Branches : Value → (ℕ → Bool → ℕ → List Item) → Type 0
  Branches v f = (s : Situation) (n pc t q : ℕ) (words : List ℕ) (when : Bool) → HasAt (code now) pc (f pc when t) q
      → q ≤ t → length words + need_of v ≤ 48 → Leads now s n (stands now pc words s) (evaluate (setting now) v s)
      (goes_by now when t q words)

  -- a condition, from what branches by it
  pub condition : (v : Value) (count : ℕ) (f : ℕ → Bool → ℕ → List Item) → ((at t : ℕ) → length (f at true t) ≡ count)
      → IsTruth v → Branches v f → 1 ≤ need_of v
      → (s : Situation) (n pc q : ℕ) (words : List ℕ) (dest : Destination)
      → HasAt (code now) pc (truth_items pc count dest (λ t. f pc true t)) q → length words + need_of v ≤ 48
      → Leads now s n (stands now pc words s) (evaluate (setting now) v s) (lands now dest q words)
  condition v count f len is hb some s n pc q words dest has le =
      truth_does (evaluate (setting now) v s) count dest (λ t. f pc true t) pc q words (len pc) has
      (omega (arith, le, some)) (λ x last e. is s last x e)
      (λ t e h before. hb s n pc t e words true h before le)
