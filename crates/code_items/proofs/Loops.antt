-- Loops.
use Rattle.std.proofs.Common.{◌≡◌, ℕ, zero, suc, ◌+◌, ◌≤◌, [], ◌∷◌, ◌++◌, Option, Some, None, Bool, true, false, refl}
use Rattle.std.proofs.Common.{sym, ap}
use Rattle.std.proofs.Common.{◌∙◌, arith}
use Rattle.std.specs.Prelude.{not, if◌then◌else◌, slice_get}
use Rattle.zcore.specs.declared.place.Place.TheVariants as places
use Rattle.zcore.specs.declared.place.Limit.TheVariants as limits
use Rattle.meaning.specs.Resolved.{Value, Action}
use Rattle.meaning.specs.Resolved as source
use Rattle.meaning.specs.Accepted.{IsWhole, IsPart}
use Rattle.meaning.specs.World.{Situation, Comes, to, Part, bound, ◌>>=◌, give, ended, spend, units}
use Rattle.meaning.specs.World as world
use Rattle.meaning.specs.Meaning.{is_true, evaluate, Ending, goes_on, breaks, continues, returns, after_body, round}
use Rattle.meaning.specs.Meaning.{rounds, once, tested, after_round, until, run}
use Rattle.code_drafts.specs.Items.{nowhere, agrees, branch_count, branch_items, is_one_test, last_back}
use Rattle.code_items.specs.Statements.{once_count, once_items, test_count, test_items, action_count, Exits, exits_to}
use Rattle.code_items.specs.Statements.{action_items, until_count, until_items}
use Rattle.code_drafts.specs.Items as items
use Rattle.code_items.specs.Stack.{Next, after_part}
use Rattle.code_items.proofs.Acts.{hand, spends}
use Rattle.code_drafts.proofs.Counts.{branch_length}
use Rattle.code_items.proofs.StatementCounts.{once_length, test_length, until_length, action_length}
use Rattle.code_items.proofs.Running.{ends_there, Running, code, locals, setting, RunsTo}
use Rattle.code_items.proofs.Standing.{HasAt, split, long}
use Rattle.code_items.proofs.Leads.{Leads, on, given, then_to, stands, goes_by, at_place, begins_at}
use Rattle.code_items.proofs.EachValue.{value_ok}
use Rattle.code_items.proofs.Untils.{goes_again, again_or, item_leads, leads_again, tested_again}
use Rattle.code_items.proofs.Statements.{ended_at, goes_at}
use Rattle.code_items.proofs.Conditionals.{ActionOk}

module _ (now : Running) where
  open now use {p, full}

  -- a loop cannot go back with no unit left
  no_more : {s : Situation} (x : Exits) (t q : ℕ)
      → Leads now s 0 (goes_again now t s) (world.ends (places.Limit limits.Fuel) s) (ended_at now x q)
  no_more {s = s} x t q = record {
    does = λ k none d.
        let P : Comes (Unit {0}) → Type 0 = λ c. RunsTo p full (after_part c (λ _ last. stands now t [] last))
        (ended (places.Limit limits.Fuel) s.world) in
        spends full s P (λ e. ends_there p full _) (λ last low is. absurd (omega (arith, none, low)));
  }

  -- it goes back with one unit less
  goes_back : {s : Situation} (x : Exits) (n t q : ℕ) (again : Part Ending)
      → ((last : Situation) → Leads now last n (stands now t [] last) (again last) (ended_at now x q))
      → Leads now s (suc n) (goes_again now t s) ((spend >>= λ _. again) s) (ended_at now x q)
  goes_back {s = s} x n t q again ha = record {
    does = λ k most d.
        let P : Comes (Unit {0}) → Type 0 =
        λ c. spend s ≡ c → RunsTo p full (after_part c (λ _ last. stands now t [] last))
        (hand (bound c (λ _. again)) k) in
        let there : P (spend s) =
        spends full s P (λ e _. ends_there p full _)
        (λ last low is e. (ha last).does k (omega (arith, most, low))
        (λ a later e2 low2. d a later (ap (λ c. bound c (λ _. again)) e ∙ e2) (omega (arith, low, low2)))) in
        there refl;
  }

  -- the item that goes back
  by_back : {s : Situation} {n : ℕ} {before : Next} {c : Comes Bool} (top back end : ℕ)
      → slice_get (code now) back ≡ Some (items.back top) → top ≤ back
      → Leads now s n before c (λ wanted last. stands now (if wanted then back else end) [] last)
      → Leads now s n before c (again_or now top end)
  by_back {n = n} {c = c} top back end h le l = then_to now c l (λ wanted last _. go wanted last)
    where
      go : (wanted : Bool) (last : Situation) → Leads now last n (stands now (if wanted then back else end) [] last)
          (to wanted last) (again_or now top end)
      go true last = item_leads now back [] (items.back top) (goes_again now top last) h
          (leads_again now back top last le) (given now {behind = again_or now top end} true)
      go false last = given now {behind = again_or now top end} false

  -- A loop whose test stands at `top`: its body and the part after the body stand at these places, and the loop ends
  -- at `end`.
  module _ (test : Part ℕ) (body : Part Ending) (behind : Part Bool) (top inside close end : ℕ)
      (tests : (s : Situation) (n : ℕ) → Leads now s n (stands now top [] s) (test s)
      (goes_by now false end inside []))
      (runs : (s : Situation) (n : ℕ) → Leads now s n (stands now inside [] s) (body s)
      (ended_at now (exits_to close end) close))
      (closes : (s : Situation) (n : ℕ) → Leads now s n (stands now close [] s) (behind s) (again_or now top end)) where
    -- one round, and then again
    round_does : (x : Exits) (n : ℕ) (s : Situation) (again : Part Ending)
        → ((last : Situation) → Leads now last n (goes_again now top last) (again last) (ended_at now x end))
        → Leads now s n (stands now top [] s) (round test body behind again s) (ended_at now x end)
    round_does x n s again ha = on now test _ (tests s n) (λ v last _. entered (is_true v) last)
      where
        told : (wanted : Bool) (last : Situation)
            → Leads now last n (again_or now top end wanted last)
            ((if wanted then again else give goes_on) last) (ended_at now x end)
        told true last = ha last
        told false last = goes_at now x end end refl

        closing : (last : Situation) → Leads now last n (stands now close [] last)
            ((behind >>= λ wanted. if wanted then again else give goes_on) last) (ended_at now x end)
        closing last = on now behind _ (closes last n) (λ wanted later _. told wanted later)

        left : (e : Ending) (last : Situation) → Leads now last n (ended_at now (exits_to close end) close e last)
            (after_body e (behind >>= λ wanted. if wanted then again else give goes_on) last) (ended_at now x end)
        left goes_on last = closing last
        left breaks last = goes_at now x end end refl
        left continues last = closing last
        left (returns v) last = given now {behind = ended_at now x end} (returns v)

        entered : (b : Bool) (last : Situation) → Leads now last n
            (stands now (if agrees b false then end else inside) [] last)
            ((if b then (body >>= λ e. after_body e (behind >>= λ wanted. if wanted then again else give goes_on))
            else give goes_on) last) (ended_at now x end)
        entered true last = on now body _ (runs last n) (λ e later _. left e later)
        entered false last = goes_at now x end end refl

    -- at most n goings back, where no more units are left
    rounds_go : (x : Exits) (n : ℕ) (s : Situation)
        → Leads now s n (stands now top [] s) (rounds n test body behind s) (ended_at now x end)
    rounds_go x zero s = round_does x zero s _ (λ last. no_more x top end)
    rounds_go x (suc n) s = round_does x (suc n) s _
        (λ last. goes_back x n top end (rounds n test body behind) (λ later. rounds_go x n later))

  -- the same, where an item of its own goes back, from a place
  pub rounds_do : (test : Part ℕ) (body : Part Ending) (behind : Part Bool) (top inside close back end : ℕ)
      → ((s : Situation) (n : ℕ) → Leads now s n (stands now top [] s) (test s) (goes_by now false end inside []))
      → ((s : Situation) (n : ℕ) → Leads now s n (stands now inside [] s) (body s)
      (ended_at now (exits_to close end) close))
      → ((s : Situation) (n : ℕ) → Leads now s n (stands now close [] s) (behind s)
      (λ wanted last. stands now (if wanted then back else end) [] last))
      → slice_get (code now) back ≡ Some (items.back top) → top ≤ back → (x : Exits) (n : ℕ) (s : Situation)
      → Leads now s n (stands now top [] s) (rounds n test body behind s) (ended_at now x end)
  rounds_do test body behind top inside close back end tests runs closes h le x n s =
      rounds_go test body behind top inside close end tests runs (λ s1 n1. by_back top back end h le (closes s1 n1))
      x n s

  -- as many goings back as there are units
  pub loop_does : {s : Situation} {n : ℕ} (x : Exits) (test : Part ℕ) (body : Part Ending) (behind : Part Bool)
      (pc end : ℕ)
      → ((m : ℕ) (s : Situation)
      → Leads now s m (stands now pc [] s) (rounds m test body behind s) (ended_at now x end))
      → Leads now s n (stands now pc [] s) (rounds (units full s.world) test body behind s) (ended_at now x end)
  loop_does {s = s} x test body behind pc end h =
      record { does = λ k le d. (h (units full s.world) s).does k (omega arith) d }

  pub while_does : (v : Value) (a : Action) → IsWhole p (locals now) v → ActionOk now a
      → ActionOk now (source.while_do v a)
  while_does v a fine oka x s n pc q ahead has =
      let m = pc + branch_count v false in
      let e = m + action_count a in
      let inside = exits_to e (e + 1) in
      let h = split (code now) pc (branch_items pc v false (e + 1)) _ q (branch_count v false)
      (branch_length v false pc (e + 1)) has in
      let ha = split (code now) m (action_items inside m a) _ q (action_count a) (action_length inside a m) h.1 in
      at_place now (ended_at now x) (e + 1) q ha.1.1
      (loop_does x (evaluate (setting now) v) (run (setting now) a) (give true) pc (e + 1)
      (rounds_do (evaluate (setting now) v) (run (setting now) a) (give true) pc m e e (e + 1)
      (λ s1 n1. (value_ok now v).branch s1 n1 pc (e + 1) m [] false h.0 (omega arith) (omega (arith, fine.1)))
      (λ s1 n1. oka inside s1 n1 m e (omega arith, omega arith) ha.0)
      (λ s1 n1. given now {behind = λ wanted last. stands now (if wanted then e else e + 1) [] last} true)
      ha.1.0 (omega arith) x))

  -- `until`, which leads to the end where its word is true
  until_does : (v : Value) → IsWhole p (locals now) v → (s : Situation) (n pc t q : ℕ)
      → HasAt (code now) pc (branch_items pc v true t) q → q ≤ t
      → Leads now s n (stands now pc [] s) (until (setting now) v s)
      (λ wanted last. stands now (if wanted then q else t) [] last)
  until_does v fine s n pc t q has le = on now (evaluate (setting now) v) _
      ((value_ok now v).branch s n pc t q [] true has le (omega (arith, fine.1))) (λ w last _. go (is_true w) last)
    where
      go : (b : Bool) (last : Situation) → Leads now last n (stands now (if agrees b true then t else q) [] last)
          (to (not b) last) (λ wanted later. stands now (if wanted then q else t) [] later)
      go true last = given now {behind = λ wanted later. stands now (if wanted then q else t) [] later} false
      go false last = given now {behind = λ wanted later. stands now (if wanted then q else t) [] later} true

  -- the test of a `do`: back, or on at the end
  until_leads : (v : Value) → IsWhole p (locals now) v → (s : Situation) (n pc first q : ℕ)
      → HasAt (code now) pc (until_items pc first v) q → first ≤ pc
      → Leads now s n (stands now pc [] s) (until (setting now) v s) (again_or now first q)
  until_leads v fine s n pc first q has le = go (is_one_test v) refl has
    where
      k : ℕ
      k = branch_count v true

      go : (b : Bool) → is_one_test v ≡ b
          → HasAt (code now) pc (if b then last_back first (branch_items pc v true (pc + k))
          else branch_items pc v true (pc + k + 1) ++ items.back first ∷ []) q
          → Leads now s n (stands now pc [] s) (until (setting now) v s) (again_or now first q)
      go true one has = tested_again now v one fine s n pc first q has le
      go false other has =
          let h = split (code now) pc (branch_items pc v true (pc + k + 1)) _ q k
          (branch_length v true pc (pc + k + 1)) has in
          at_place now (λ y. again_or now first y) (pc + k + 1) q h.1.1
          (by_back first (pc + k) (pc + k + 1) h.1.0 (omega (arith, le))
          (until_does v fine s n pc (pc + k + 1) (pc + k) h.0 (omega arith)))

  pub do_does : (v : Value) (a : Action) → IsWhole p (locals now) v → ActionOk now a
      → ActionOk now (source.do_until a v)
  do_does v a fine oka x s n pc q ahead has =
      let m = pc + action_count a in
      let e = m + until_count v in
      let inside = exits_to m e in
      let h = split (code now) pc (action_items inside pc a) _ q (action_count a) (action_length inside a pc) has in
      let ends = long (code now) m (until_items m pc v) q (until_count v) (until_length v m pc) h.1 in
      at_place now (ended_at now x) e q ends
      (loop_does x (give 1) (run (setting now) a) (until (setting now) v) pc e
      (rounds_go (give 1) (run (setting now) a) (until (setting now) v) pc pc m e
      (λ s1 n1. given now {behind = goes_by now false e pc []} 1)
      (λ s1 n1. oka inside s1 n1 pc m (omega arith, omega arith) h.0)
      (λ s1 n1. at_place now (λ y. again_or now pc y) q e (sym ends) (until_leads v fine s1 n1 m pc q h.1 (omega arith)))
      x))

  -- the parts of a `for`

  once_does : (v : Option Value) → IsPart p (locals now) v → (s : Situation) (n pc q : ℕ)
      → HasAt (code now) pc (once_items pc v) q → Leads now s n (stands now pc [] s) (once (setting now) v s)
      (λ _ last. stands now q [] last)
  once_does None fine s n pc q has =
      begins_at now q pc [] (sym has) (given now {behind = λ (_ : Unit {0}) last. stands now q [] last} tt)
  once_does (Some v) fine s n pc q has = on now (evaluate (setting now) v) _
      ((value_ok now v).value s n pc q [] nowhere has (omega (arith, fine.1)))
      (λ w last _. given now {behind = λ (_ : Unit {0}) last. stands now q [] last} tt)

  test_does : (v : Option Value) → IsPart p (locals now) v → (s : Situation) (n pc t q : ℕ)
      → HasAt (code now) pc (test_items pc v t) q → q ≤ t
      → Leads now s n (stands now pc [] s) (tested (setting now) v s) (goes_by now false t q [])
  test_does None fine s n pc t q has le =
      begins_at now q pc [] (sym has) (given now {behind = goes_by now false t q []} 1)
  test_does (Some v) fine s n pc t q has le =
      (value_ok now v).branch s n pc t q [] false has le (omega (arith, fine.1))

  behind_does : (v : Option Value) → IsPart p (locals now) v → (s : Situation) (n pc t q : ℕ)
      → HasAt (code now) pc (once_items pc v) q → Leads now s n (stands now pc [] s) (after_round (setting now) v s)
      (λ wanted last. stands now (if wanted then q else t) [] last)
  behind_does v fine s n pc t q has = on now (once (setting now) v) _ (once_does v fine s n pc q has)
      (λ _ last _. given now {behind = λ wanted last. stands now (if wanted then q else t) [] last} true)

  pub for_does : (before test behind : Option Value) (a : Action) → IsPart p (locals now) before
      → IsPart p (locals now) test → IsPart p (locals now) behind → ActionOk now a
      → ActionOk now (source.for_loop before test behind a)
  for_does before test behind a fine_before fine_test fine_behind oka x s n pc q ahead has =
      let top = pc + once_count before in
      let m = top + test_count test in
      let c = m + action_count a in
      let e = c + once_count behind in
      let inside = exits_to c (e + 1) in
      let h = split (code now) pc (once_items pc before) _ q (once_count before) (once_length before pc) has in
      let ht = split (code now) top (test_items top test (e + 1)) _ q (test_count test)
      (test_length test top (e + 1)) h.1 in
      let ha = split (code now) m (action_items inside m a) _ q (action_count a) (action_length inside a m) ht.1 in
      let hb = split (code now) c (once_items c behind) _ q (once_count behind) (once_length behind c) ha.1 in
      let each = run (setting now) a in
      let first = tested (setting now) test in
      let last = after_round (setting now) behind in
      at_place now (ended_at now x) (e + 1) q hb.1.1
      (on now (once (setting now) before) _ (once_does before fine_before s n pc top h.0)
      (λ _ s1 _. loop_does x first each last top (e + 1)
      (rounds_do first each last top m c e (e + 1)
      (λ s2 n2. test_does test fine_test s2 n2 top (e + 1) m ht.0 (omega arith))
      (λ s2 n2. oka inside s2 n2 m c (omega arith, omega arith) ha.0)
      (λ s2 n2. behind_does behind fine_behind s2 n2 c (e + 1) e hb.0) hb.1.0 (omega arith) x)))
