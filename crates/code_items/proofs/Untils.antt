-- Tests of a `do` that lead back themselves.
use Rattle.std.proofs.Common.{◌≡◌, ℕ, ◌+◌, ◌≤◌, List, [], ◌∷◌, ◌++◌, Some, Bool, true, false, refl, sym, ap}
use Rattle.std.proofs.Common.{◌∙◌, subst, arith, append_assoc}
use Rattle.std.specs.Prelude.{◌||◌, ◌&&◌, ◌==◌, not, if◌then◌else◌, slice_get}
use Rattle.std.specs.List.{list_any}
use Rattle.std.proofs.lemmas.Bool.{le-leb, leb-true}
use Rattle.syntax_trees.specs.declared.tree.Comparison.{Comparison}
use Rattle.syntax_trees.specs.declared.tree.Equality.{Equality}
use Rattle.syntax_trees.specs.declared.tree.Prefix.TheVariants as prefixes
use Rattle.meaning.specs.Resolved.{Value, Values}
use Rattle.meaning.specs.Resolved as source
use Rattle.meaning.specs.Accepted.{IsWhole}
use Rattle.meaning.specs.World.{Situation, Comes, to, ◌>>=◌, give, spend, value_in}
use Rattle.meaning.specs.Meaning.{truth, is_true, compared, equated, evaluate, evaluate_all, until}
use Rattle.code_drafts.specs.Items.{Item, Operand, pushed, variable, push, Test, is_zero, same, alone, left_of}
use Rattle.code_drafts.specs.Items.{operand_of, value_count}
use Rattle.code_drafts.specs.Items.{operands_of, if_pushed, agrees, branch_true, comparison_test, comparison_when}
use Rattle.code_drafts.specs.Items.{equality_when, is_few, is_one_test, same_items, turned_back, last_back, branch_count}
use Rattle.code_drafts.specs.Items.{operand_count, operands_count, value_items, operands_items, branch_items}
use Rattle.code_drafts.specs.Items as items
use Rattle.code_drafts.specs.Writing.{IsWord}
use Rattle.code_drafts.proofs.CountedForms.{if_length}
use Rattle.code_drafts.proofs.Counts.{value_length, operands_length}
use Rattle.code_drafts.proofs.InPlace.{same_last, operands_counted}
use Rattle.code_drafts.proofs.WrittenItems.{last_turned}
use Rattle.code_items.specs.Stack.{Next, after_part, holds, act, stuck}
use Rattle.code_items.specs.Stack as stack
use Rattle.code_items.proofs.Acts.{bound_bound, bound_alike}
use Rattle.code_items.proofs.Unchanged.{all_unchanged}
use Rattle.code_items.proofs.Running.{steps_on, Running, code, locals, setting}
use Rattle.code_items.proofs.Standing.{HasAt, split}
use Rattle.code_items.proofs.Conditions.{truth_back, not_not, zero_agrees, compares, closes, equated_is}
use Rattle.code_items.proofs.Held.{onto, onto_length, AllHeld, onto_all, with_all_held}
use Rattle.code_items.proofs.Leads.{Leads, on, given, as_part, here, stands}
use Rattle.code_items.proofs.Evaluated.{operand_held, still_held, operand_does, all_held, two_operands}
use Rattle.code_items.proofs.EachValue.{value_ok, list_ok}
use Rattle.code_items.proofs.Words.{word_items}

-- the last of items after two others
behind_two : (first : ℕ) (a b : List Item) (i : Item) → last_back first (a ++ (b ++ i ∷ []))
    ≡ a ++ (b ++ turned_back first i ∷ [])
behind_two first a b i =
    ap (last_back first) (sym (append_assoc a b (i ∷ []))) ∙ last_turned first (a ++ b) i
    ∙ append_assoc a b (turned_back first i ∷ [])

-- what a branch back asks: the other way round
agrees_turned : (so when : Bool) → agrees so (not when) ≡ not (agrees so when)
agrees_turned true when = refl
agrees_turned false when = refl

agrees_true : (so : Bool) → agrees so true ≡ so
agrees_true true = refl
agrees_true false = refl

asks_back : (v : ℕ) (so holding when : Bool) → agrees (is_true v) so ≡ agrees holding when
    → agrees holding (not when) ≡ not (agrees (is_true v) so)
asks_back v so holding when e = agrees_turned holding when ∙ ap not (sym e)

-- of `~~`, it asks whether the word is not true
not_asked : (w : ℕ) (so : Bool) → agrees (is_true w) (not so) ≡ agrees (is_true (truth (w == 0))) so
not_asked w so =
    sym (zero_agrees w (not so)) ∙ ap (λ b. agrees (w == 0) b) (not_not so)
    ∙ ap (λ b. agrees b so) (sym (truth_back (w == 0)))

module _ (now : Running) where
  open now use {p, full, keep}

  -- going back costs a unit
  abbrev pub goes_again : ℕ → Situation → Next
  goes_again first s = after_part (spend s) (λ _ later. stands now first [] later)

  -- after a round: back to the first item, or at the end of the loop
  abbrev pub again_or : ℕ → ℕ → Bool → Situation → Next
  again_or first q wanted s = if wanted then goes_again first s else stands now q [] s

  -- one item, whatever it leads to
  pub item_leads : {A : Type 0} {s : Situation} {n : ℕ} {c : Comes A} {behind : A → Situation → Next} (m : ℕ)
      (before : List ℕ) (i : Item) (next : Next) → slice_get (code now) m ≡ Some i
      → act p full (Some i) (here now m before s) ≡ next → Leads now s n next c behind
      → Leads now s n (stands now m before s) c behind
  item_leads {s = s} m before i next h e l =
      record {
        does = λ k le d. steps_on p full (here now m before s) _ _ (ap (λ x. act p full x (here now m before s)) h ∙ e)
            (l.does k le d);
      }

  pub leads_again : (m first : ℕ) (s : Situation) → first ≤ m
      → stack.go_back first (here now m [] s) ≡ goes_again first s
  leads_again m first s le = ap (λ b. if b then goes_again first s else stuck) (le-leb first m le)

  -- `until`, of which the condition is to be true, or is not
  abbrev until_so : Value → Bool → Situation → Comes Bool
  until_so v so = evaluate (setting now) v >>= λ w. give (not (agrees (is_true w) so))

  until_means : (v : Value) (s : Situation) → until_so v true s ≡ until (setting now) v s
  until_means v s = bound_alike (evaluate (setting now) v s) _ _
      (λ w s1. ap (λ b. to (not b) s1) (agrees_true (is_true w)))

  -- the item that leads back by a test of its operands
  asked_again : {s : Situation} {n : ℕ} (m first q : ℕ) (test : Test) (os : List Operand) (vs : List ℕ) (when : Bool)
      (v : ℕ) (so : Bool) → slice_get (code now) m ≡ Some (items.branch_back test os (not when) first) → first ≤ m
      → m + 1 ≡ q → AllHeld os vs s → agrees (is_true v) so ≡ agrees (holds test vs) when
      → Leads now s n (stands now m (onto_all os vs []) s) (to (not (agrees (is_true v) so)) s) (again_or first q)
  asked_again {s = s} {n = n} m first q test os vs when v so h le is held e =
      go (not (agrees (is_true v) so)) (asks_back v so (holds test vs) when e)
    where
      words : List ℕ
      words = onto_all os vs []

      acts : act p full (Some (items.branch_back test os (not when) first)) (here now m words s)
          ≡ stack.branch_back (agrees (holds test vs) (not when)) first [] (here now m words s)
      acts = with_all_held os vs s []
          (λ taken rest. stack.branch_back (agrees (holds test taken) (not when)) first rest (here now m words s)) held

      go : (b : Bool) → agrees (holds test vs) (not when) ≡ b
          → Leads now s n (stands now m words s) (to b s) (again_or first q)
      go true asks =
          item_leads m words (items.branch_back test os (not when) first) (goes_again first s) h
          (acts ∙ ap (λ b. stack.branch_back b first [] (here now m words s)) asks
          ∙ ap (λ b. if b then stack.go_back first (here now m [] s) else stuck) (le-leb first m le)
          ∙ leads_again m first s le)
          (given now {behind = again_or first q} true)
      go false asks =
          item_leads m words (items.branch_back test os (not when) first) (stands now q [] s) h
          (acts ∙ ap (λ b. stack.branch_back b first [] (here now m words s)) asks
          ∙ ap (λ b. if b then stands now (m + 1) [] s else stuck) (le-leb first m le) ∙ ap (λ x. stands now x [] s) is)
          (given now {behind = again_or first q} false)

  read_again : (x : _) (so : Bool) (s : Situation) (n pc first q t : ℕ)
      → HasAt (code now) pc (last_back first (branch_true (variable x) so t ∷ [])) q → first ≤ pc
      → Leads now s n (stands now pc [] s) (until_so (source.read x) so s) (again_or first q)
  read_again x so s n pc first q t has le =
      asked_again pc first q is_zero (variable x ∷ []) (value_in x s ∷ []) (not so) (value_in x s) so has.0 le has.1
      (refl, tt) (sym (zero_agrees (value_in x s) so))

  -- a word that is pushed
  word_again : (v : Value) → IsWord v → IsWhole p (locals now) v → (so : Bool) (s : Situation) (n pc first q t : ℕ)
      → HasAt (code now) pc (last_back first (branch_items pc v so t)) q → first ≤ pc
      → Leads now s n (stands now pc [] s) (until_so v so s) (again_or first q)
  word_again v is fine so s n pc first q t has le =
      let m = pc + value_count v push in
      let there = ap (last_back first) (is pc t so)
      ∙ last_turned first (value_items pc v push) (branch_true pushed so t) in
      let h = split (code now) pc (value_items pc v push) _ q (value_count v push) (value_length v push pc)
      (subst (λ l. HasAt (code now) pc l q) there has) in
      on now (evaluate (setting now) v) _ ((value_ok now v).value s n pc m [] push h.0 (omega (arith, fine.1)))
      (λ w s1 e1.
      asked_again m first q is_zero (pushed ∷ []) (w ∷ []) (not so) w so h.1.0 (omega (arith, le)) h.1.1 (tt, tt)
      (sym (zero_agrees w so)))

  not_means : (v : Value) (so : Bool) (s : Situation)
      → until_so v (not so) s ≡ until_so (source.prefixed prefixes.Not v) so s
  not_means v so s =
      bound_alike (evaluate (setting now) v s) _ _ (λ w s1. ap (λ b. to (not b) s1) (not_asked w so))
      ∙ bound_bound (evaluate (setting now) v s) (λ w. give (truth (w == 0)))
      (λ w. give (not (agrees (is_true w) so)))

  compare_means : (op : Comparison) (a b : Value) (so : Bool) (s : Situation)
      → (evaluate (setting now) a >>= λ x. (evaluate (setting now) b >>= λ y.
      give (not (agrees (is_true (truth (compared op x y))) so)))) s
      ≡ until_so (source.compare op a b) so s
  compare_means op a b so s =
      bound_alike (evaluate (setting now) a s) _ _ (λ x s1.
      bound_bound (evaluate (setting now) b s1) (λ y. give (truth (compared op x y)))
      (λ w. give (not (agrees (is_true w) so))))
      ∙ bound_bound (evaluate (setting now) a s)
      (λ x. evaluate (setting now) b >>= λ y. give (truth (compared op x y))) (λ w. give (not (agrees (is_true w) so)))

  compare_again : (op : Comparison) (a b : Value) → IsWhole p (locals now) (source.compare op a b) → (so : Bool)
      (s : Situation) (n pc first q t : ℕ)
      → HasAt (code now) pc (last_back first (branch_items pc (source.compare op a b) so t)) q → first ≤ pc
      → Leads now s n (stands now pc [] s) (until_so (source.compare op a b) so s) (again_or first q)
  compare_again op a b fine so s n pc first q t has le =
      let os = left_of a b ∷ alone b ∷ [] in
      let when = comparison_when op so in
      let m = pc + operand_count a (left_of a b) + operand_count b (alone b) in
      let there = behind_two first (if_pushed (left_of a b) (value_items pc a push) [])
      (if_pushed (alone b) (value_items (pc + operand_count a (left_of a b)) b push) [])
      (items.branch (comparison_test op) os when t) in
      as_part now _ _ (compare_means op a b so s)
      (two_operands now {behind = again_or first q} a b (value_ok now a) (value_ok now b) s n pc q []
      (items.branch_back (comparison_test op) os (not when) first ∷ [])
      (λ x y. give (not (agrees (is_true (truth (compared op x y))) so)))
      (subst (λ l. HasAt (code now) pc l q) there has) (omega (arith, fine.1)) (λ x y s2 h held.
      asked_again m first q (comparison_test op) os (x ∷ y ∷ []) when (truth (compared op x y)) so h.0
      (omega (arith, le)) h.1 held (compares op x y so)))

  equal_means : (op : Equality) (a : Value) (bs : Values) (so : Bool) (s : Situation)
      → (evaluate (setting now) a >>= λ x. (evaluate_all (setting now) bs >>= λ ys.
      give (not (agrees (is_true (truth (equated op x ys))) so)))) s
      ≡ until_so (source.equal op a bs) so s
  equal_means op a bs so s =
      bound_alike (evaluate (setting now) a s) _ _ (λ x s1.
      bound_bound (evaluate_all (setting now) bs s1) (λ ys. give (truth (equated op x ys)))
      (λ w. give (not (agrees (is_true w) so))))
      ∙ bound_bound (evaluate (setting now) a s)
      (λ x. evaluate_all (setting now) bs >>= λ ys. give (truth (equated op x ys)))
      (λ w. give (not (agrees (is_true w) so)))

  -- the branch of `==` or `~=` with few right sides
  few_items : (op : Equality) (a : Value) (bs : Values) (so : Bool) (pc first t : ℕ) → is_few bs ≡ true
      → last_back first (branch_items pc (source.equal op a bs) so t)
      ≡ if_pushed (operand_of a bs) (value_items pc a push) []
      ++ (operands_items (pc + operand_count a (operand_of a bs)) bs
      ++ items.branch_back same (operand_of a bs ∷ operands_of bs) (not (equality_when op so)) first ∷ [])
  few_items op a bs so pc first t few =
      let o = operand_of a bs in
      let m = pc + operand_count a o in
      let e = m + operands_count bs in
      let pushes = if_pushed o (value_items pc a push) [] in
      let tests = same_items o (operands_of bs) e (equality_when op so) t in
      let each = value_items pc a push ++ items.many_items (pc + items.value_count a push) op bs so t in
      ap (λ (b : Bool). last_back first (if (b || (items.is_in_place a && items.all_in_place bs))
      then pushes ++ (operands_items m bs ++ tests) else each)) few
      ∙ ap (λ l. last_back first (pushes ++ (operands_items m bs ++ l)))
      (same_last o (operands_of bs) e (equality_when op so) t
      (omega (arith, operands_counted bs, leb-true _ _ few)))
      ∙ behind_two first pushes (operands_items m bs)
      (items.branch same (o ∷ operands_of bs) (equality_when op so) t)

  equal_again : (op : Equality) (a : Value) (bs : Values) → is_few bs ≡ true
      → IsWhole p (locals now) (source.equal op a bs) → (so : Bool) (s : Situation) (n pc first q t : ℕ)
      → HasAt (code now) pc (last_back first (branch_items pc (source.equal op a bs) so t)) q → first ≤ pc
      → Leads now s n (stands now pc [] s) (until_so (source.equal op a bs) so s) (again_or first q)
  equal_again op a bs few fine so s n pc first q t has le =
      let o = operand_of a bs in
      let when = equality_when op so in
      let m = pc + operand_count a o in
      let e = m + operands_count bs in
      let ha = split (code now) pc (if_pushed o (value_items pc a push) []) _ q (operand_count a o)
      (if_length o _ _ (value_length a push pc))
      (subst (λ l. HasAt (code now) pc l q) (few_items op a bs so pc first t few) has) in
      let hb = split (code now) m (operands_items m bs) _ q (operands_count bs) (operands_length bs m) ha.1 in
      as_part now _ _ (equal_means op a bs so s)
      (on now (evaluate (setting now) a) _
      (operand_does now a bs (value_ok now a) s n pc m [] ha.0 (omega (arith, fine.1))) (λ x s1 e1.
      on now (evaluate_all (setting now) bs) _
      ((list_ok now bs).all s1 n 0 1 m e (onto o x []) hb.0 (onto_length o x []) (omega (arith, fine.1)))
      (λ ys s2 e2.
      asked_again e first q same (o ∷ operands_of bs) (x ∷ ys) when (truth (equated op x ys)) so hb.1.0
      (omega (arith, le)) hb.1.1 (
        still_held now a bs s1 s2 x (λ z f. all_unchanged (setting now) keep z bs s1 s2 ys f e2)
            (operand_held now a bs s s1 x e1),
        all_held now bs s1 s2 ys e2,
      )
      (ap (λ b. agrees (is_true (truth b)) so) (equated_is op x ys)
      ∙ closes op (list_any (λ y. x == y) ys) so))))

  -- a condition that one test decides leads back where it is not so
  turned_again : (v : Value) → is_one_test v ≡ true → IsWhole p (locals now) v → (so : Bool) (s : Situation)
      (n pc first q t : ℕ) → HasAt (code now) pc (last_back first (branch_items pc v so t)) q → first ≤ pc
      → Leads now s n (stands now pc [] s) (until_so v so s) (again_or first q)
  turned_again (source.read x) one fine so s n pc first q t has le = read_again x so s n pc first q t has le
  turned_again (source.prefixed prefixes.Not v) one fine so s n pc first q t has le =
      as_part now _ _ (not_means v so s)
      (turned_again v one (fine.0, omega (arith, fine.1)) (not so) s n pc first q t has le)
  turned_again (source.compare op a b) one fine so s n pc first q t has le =
      compare_again op a b fine so s n pc first q t has le
  turned_again (source.equal op a bs) one fine so s n pc first q t has le =
      equal_again op a bs one fine so s n pc first q t has le
  turned_again v one fine so s n pc first q t has le =
      word_again v (word_items v one) fine so s n pc first q t has le

  pub tested_again : (v : Value) → is_one_test v ≡ true → IsWhole p (locals now) v → (s : Situation)
      (n pc first q : ℕ)
      → HasAt (code now) pc (last_back first (branch_items pc v true (pc + branch_count v true))) q → first ≤ pc
      → Leads now s n (stands now pc [] s) (until (setting now) v s) (again_or first q)
  tested_again v one fine s n pc first q has le =
      as_part now _ _ (until_means v s) (turned_again v one fine true s n pc first q _ has le)
