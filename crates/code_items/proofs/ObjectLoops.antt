-- `objectloop`.
use Rattle.std.proofs.Common.{◌≡◌, ℕ, zero, suc, ◌+◌, ◌≤◌, List, [], ◌∷◌, ◌++◌, length, Some, Bool, true, false, refl}
use Rattle.std.proofs.Common.{sym, subst, arith}
use Rattle.std.specs.Prelude.{◌==◌, not, nat_lt, if◌then◌else◌, slice_get}
use Rattle.std.proofs.lemmas.Bool.{lt-ltb, ne_eqb}
use Rattle.syntax_trees.specs.declared.tree.Relative.{Relative}
use Rattle.syntax_trees.specs.declared.tree.Relative.TheVariants as relatives
use Rattle.meaning.specs.declared.resolved.Variable.{Variable}
use Rattle.meaning.specs.Resolved.{Value, none, Action}
use Rattle.meaning.specs.Resolved as source
use Rattle.meaning.specs.Accepted.{IsWhole}
use Rattle.meaning.specs.World.{Situation, Comes, to, over, Part, bound, ◌>>=◌, give, units, write_variable, value_in}
use Rattle.meaning.specs.World.{relative_of}
use Rattle.meaning.specs.Meaning.{is_true, evaluate, test_object, Ending, goes_on, rounds, next_object, sibling_next}
use Rattle.meaning.specs.Meaning.{count_next, each_of, run}
use Rattle.code_drafts.specs.Items.{Item, Operand, variable, push, alone, agrees, branch_count, operand_count}
use Rattle.code_drafts.specs.Items.{alone_items}
use Rattle.code_drafts.specs.Items as items
use Rattle.code_drafts.proofs.Counts.{alone_length}
use Rattle.code_items.specs.Statements.{action_count, Exits, exits_to, action_items, each_items, relative_items}
use Rattle.code_items.specs.Statements.{children_items}
use Rattle.code_items.specs.Stack.{Next, gives, relative_to, begins_objects, steps_object}
use Rattle.code_items.proofs.Acts.{bound_bound, keeps_write}
use Rattle.code_items.proofs.ObjectParts.{keeps_relative, keeps_begins, keeps_steps}
use Rattle.code_items.proofs.StatementCounts.{action_length}
use Rattle.code_items.proofs.Running.{Running, code, locals, setting}
use Rattle.code_items.proofs.Standing.{HasAt, split}
use Rattle.code_items.proofs.Held.{Held, onto, with_held}
use Rattle.code_items.proofs.Leads.{Leads, on, given, then_to, as_part, here, stands, goes_by, at_place}
use Rattle.code_items.proofs.Steps.{one, by_word, decides}
use Rattle.code_items.proofs.Evaluated.{operand_held}
use Rattle.code_items.proofs.Statements.{ended_at, goes_at, alone_does}
use Rattle.code_items.proofs.Conditionals.{IsAhead, ActionOk, if_does}
use Rattle.code_items.proofs.Loops.{rounds_do, loop_does}

true_is : (k : ℕ) → is_true k ≡ not (k == 0)
true_is zero = refl
true_is (suc k) =
    let a : (suc k == 0) ≡ false = ne_eqb _ _ (λ e. omega (arith, e)) in
    let b : nat_lt 0 (suc k) ≡ true = lt-ltb _ _ (omega arith) in
    rw (a, b) refl

module _ (now : Running) where
  open now use {p, full}

  -- a loop begins where there is an object
  abbrev begun : Part Ending → Bool → Part Ending
  begun loop is_one = if is_one then loop else give goes_on

  -- at one place where there is an object, and at another where there is none
  abbrev by_object : ℕ → ℕ → Bool → Situation → Next
  by_object next end is_one s = stands now (if is_one then next else end) [] s

  each_means : (y : Variable) (loop : Part Ending) (none : Bool) (s : Situation)
      → ((if none then give false else (write_variable y 1 >>= λ _. give true)) >>= begun loop) s
      ≡ (if none then give goes_on else (write_variable y 1 >>= λ _. loop)) s
  each_means y loop true s = refl
  each_means y loop false s = refl

  -- what an item tells leads on so
  told : {s : Situation} {n : ℕ} (so : Bool) (next end : ℕ)
      → Leads now s n (stands now (if agrees so false then end else next) [] s) (to so s) (by_object next end)
  told true next end = given now {behind = by_object next end} true
  told false next end = given now {behind = by_object next end} false

  -- a variable gets a relative of an object; whether there is one

  kin_means : (r : Relative) (y : Variable) (o : ℕ) (c : Comes (Unit {0}))
      → bound (bound (bound c (λ _. relative_of r o)) (λ k. write_variable y k >>= λ _. give k))
      (λ k. give (not (k == 0)))
      ≡ bound c (λ _. next_object y (relative_of r o))
  kin_means r y o (to a s) = refl
  kin_means r y o (over outcome) = refl

  kin_does : {s : Situation} {n : ℕ} (r : Relative) (o : Operand) (y : Variable) (v m end q : ℕ)
      → HasAt (code now) m (relative_items r o y end) q → q ≤ end → Held o v s
      → Leads now s n (stands now m (onto o v []) s)
      ((test_object (setting now) v >>= λ _. next_object y (relative_of r v)) s) (by_object q end)
  kin_does {s = s} {n = n} r o y v m end q has before held =
      as_part now _ _ (kin_means r y v (test_object (setting now) v s))
      (on now (relative_to p r v >>= word) (λ k. give (not (k == 0)))
      (by_word now _ (m + 1 + 1) end q [] false
      (on now (relative_to p r v) word
      (one now m [] push (items.relative r o push) (relative_to p r v) (onto o v []) has.0
      (with_held o v s [] (λ w rest. gives (relative_to p r w) push rest (here now m (onto o v []) s)) held)
      (keeps_relative p full r v) (omega arith))
      (λ k s1 _. one now (m + 1) [] push (items.keep y) (word k) (k ∷ []) has.1.0 refl (λ s. keeps_write full y k s)
      (omega arith)))
      has.1.1.0 (omega (arith, before, has.1.1.1)) has.1.1.1)
      (λ k s1 _. chosen k s1))
    where
      word : ℕ → Part ℕ
      word k = write_variable y k >>= λ _. give k

      chosen : (k : ℕ) (last : Situation) → Leads now last n (goes_by now false end q [] k last)
          (to (not (k == 0)) last) (by_object q end)
      chosen k last =
          subst (λ b. Leads now last n (stands now (if agrees b false then end else q) [] last)
          (to (not (k == 0)) last) (by_object q end)) (sym (true_is k)) (told (not (k == 0)) q end)

  -- a body, whose items have a known number wherever they stand
  module _ (y : Variable) (count : ℕ) (body : Part Ending) (bodied : Exits → ℕ → List Item)
      (counted : (inside : Exits) (at : ℕ) → length (bodied inside at) ≡ count)
      (runs : (inside : Exits) (s : Situation) (n pc q : ℕ) → IsAhead now q inside
      → HasAt (code now) pc (bodied inside pc) q
      → Leads now s n (stands now pc [] s) (body s) (ended_at now inside q)) where
    -- rounds, of which the first is not tested
    rounds_lead : {s : Situation} {n : ℕ} (x : Exits) (behind : Part Bool) (top close back end : ℕ) → close ≤ end
        → HasAt (code now) top (bodied (exits_to close end) top) close
        → slice_get (code now) back ≡ Some (items.back top) → top ≤ back
        → ((s : Situation) (n : ℕ) → Leads now s n (stands now close [] s) (behind s) (by_object back end))
        → (is_one : Bool) → Leads now s n (by_object top end is_one s)
        (begun (λ s. rounds (units full s.world) (give 1) body behind s) is_one s) (ended_at now x end)
    rounds_lead x behind top close back end le has h before closes true =
        loop_does now x (give 1) body behind top end
        (rounds_do now (give 1) body behind top top close back end
        (λ s1 n1. given now {behind = goes_by now false end top []} 1)
        (λ s1 n1. runs (exits_to close end) s1 n1 top close (le, omega arith) has) closes h before x)
    rounds_lead x behind top close back end le has h before closes false = goes_at now x end end refl

    pub each_does : (x : Exits) (s : Situation) (n pc q : ℕ) → HasAt (code now) pc (each_items pc y count bodied) q
        → Leads now s n (stands now pc [] s) (each_of (setting now) y body s) (ended_at now x q)
    each_does x s n pc q has =
        let top = pc + 1 in
        let close = top + count in
        let end = close + 2 in
        let h = split (code now) top (bodied (exits_to close end) top) _ q count (counted (exits_to close end) top)
        has.1 in
        let behind = count_next (setting now) y in
        as_part now _ _ (each_means y (λ s. rounds (units full s.world) (give 1) body behind s)
        (length p.objects == 0) s)
        (at_place now (ended_at now x) end q (omega (arith, h.1.1.1))
        (on now (begins_objects p y) (begun (λ s. rounds (units full s.world) (give 1) body behind s))
        (then_to now (begins_objects p y s)
        (decides now pc end top [] [] (items.first_object y end) (begins_objects p y) false has.0 refl
        (keeps_begins p full y) (omega arith) refl) (λ so last _. told so top end))
        (λ is_one s1 _.
        rounds_lead x behind top close (close + 1) end (omega arith) h.0 h.1.1.0 (omega arith)
        (λ s2 n2. then_to now (steps_object p y s2)
        (decides now close end (close + 1) [] [] (items.next_object y end) (steps_object p y) false h.1.0 refl
        (keeps_steps p full y) (omega arith) refl) (λ so last _. told so (close + 1) end)) is_one)))

    pub children_do : (v : Value) → IsWhole p (locals now) v → (x : Exits) (s : Situation) (n pc q : ℕ)
        → HasAt (code now) pc (alone_items pc v
        ++ children_items (pc + operand_count v (alone v)) y (alone v) count bodied) q
        → Leads now s n (stands now pc [] s)
        ((evaluate (setting now) v >>= λ o. (test_object (setting now) o >>= λ _.
        (next_object y (relative_of relatives.Child o) >>= begun (λ s. rounds (units full s.world) (give 1) body
        (sibling_next (setting now) y) s)))) s) (ended_at now x q)
    children_do v fine x s n pc q has =
        let m = pc + operand_count v (alone v) in
        let top = m + 3 in
        let close = top + count in
        let end = close + 4 in
        let ha = split (code now) pc (alone_items pc v) _ q (operand_count v (alone v)) (alone_length v pc) has in
        let hc = split (code now) m (relative_items relatives.Child (alone v) y end) _ q 3 refl ha.1 in
        let last = items.back top ∷ [] in
        let sibling = relative_items relatives.Sibling (variable y) y end in
        let hb = split (code now) top (bodied (exits_to close end) top) (sibling ++ last) q count
        (counted (exits_to close end) top) hc.1 in
        let hs = split (code now) close sibling last q 3 refl hb.1 in
        let behind = sibling_next (setting now) y in
        let loop : Part Ending = λ s. rounds (units full s.world) (give 1) body behind s in
        at_place now (ended_at now x) end q (omega (arith, hs.1.1))
        (on now (evaluate (setting now) v) _ (alone_does now x v fine s n pc m ha.0) (λ o s1 e1.
        as_part now _ _ (sym (bound_bound (test_object (setting now) o s1)
        (λ _. next_object y (relative_of relatives.Child o)) (begun loop)))
        (on now (test_object (setting now) o >>= λ _. next_object y (relative_of relatives.Child o)) (begun loop)
        (kin_does relatives.Child (alone v) y o m end top hc.0 (omega arith) (operand_held now v none s s1 o e1))
        (λ is_one s2 _.
        rounds_lead x behind top close (close + 3) end (omega arith) hb.0 hs.1.0 (omega arith)
        (λ s3 n3. kin_does relatives.Sibling (variable y) y (value_in y s3) close end (close + 3) hs.0 (omega arith)
        refl) is_one))))

  pub each_object_does : (y : Variable) (a : Action) → ActionOk now a → ActionOk now (source.each_object y a)
  each_object_does y a oka x s n pc q ahead has =
      each_does y (action_count a) (run (setting now) a) (λ inside at. action_items inside at a)
      (λ inside at. action_length inside a at) oka x s n pc q has

  pub each_where_does : (y : Variable) (v : Value) (a : Action) → IsWhole p (locals now) v → ActionOk now a
      → ActionOk now (source.each_where y v a)
  each_where_does y v a fine oka x s n pc q ahead has =
      each_does y (branch_count v false + action_count a) (run (setting now) (source.if_then v a))
      (λ inside at. action_items inside at (source.if_then v a))
      (λ inside at. action_length inside (source.if_then v a) at) (if_does now v a fine oka) x s n pc q has

  pub each_in_does : (y : Variable) (v : Value) (a : Action) → IsWhole p (locals now) v → ActionOk now a
      → ActionOk now (source.each_in y v a)
  each_in_does y v a fine oka x s n pc q ahead has =
      children_do y (action_count a) (run (setting now) a) (λ inside at. action_items inside at a)
      (λ inside at. action_length inside a at) oka v fine x s n pc q has
