-- `if`.
use Rattle.std.proofs.Common.{◌≡◌, ℕ, ◌+◌, ◌<◌, ◌≤◌, [], Some, Bool, true, false, arith}
use Rattle.std.specs.Prelude.{if◌then◌else◌, slice_get}
use Rattle.meaning.specs.Resolved.{Value, Action}
use Rattle.meaning.specs.Resolved as source
use Rattle.meaning.specs.Accepted.{IsWhole}
use Rattle.meaning.specs.World.{Situation, to, Part, ◌>>=◌, give}
use Rattle.meaning.specs.Meaning.{is_true, evaluate, Ending, goes_on, breaks, continues, returns, run}
use Rattle.code_drafts.specs.Items.{agrees, branch_count, branch_items}
use Rattle.code_items.specs.Statements.{action_count, Exits, action_items}
use Rattle.code_drafts.specs.Items as items
use Rattle.code_drafts.proofs.Counts.{branch_length}
use Rattle.code_items.proofs.StatementCounts.{action_length}
use Rattle.code_items.proofs.Running.{Running, code, locals, setting}
use Rattle.code_items.proofs.Standing.{HasAt, split, long}
use Rattle.code_items.proofs.Leads.{Leads, on, given, then_to, stands}
use Rattle.code_items.proofs.Steps.{jumps}
use Rattle.code_items.proofs.EachValue.{value_ok}
use Rattle.code_items.proofs.Statements.{ended_at, goes_at}

module _ (now : Running) where
  open now use {p, full}

  -- a statement that ends there leads ahead
  abbrev pub IsAhead : ℕ → Exits → Type 0
  IsAhead q x = (q ≤ x.breaks) × (q ≤ x.continues)

  abbrev pub ActionOk : Action → Type 0
  ActionOk a = (x : Exits) (s : Situation) (n pc q : ℕ) → IsAhead q x → HasAt (code now) pc (action_items x pc a) q
      → Leads now s n (stands now pc [] s) (run (setting now) a s) (ended_at now x q)

  -- a test, and what follows where it is true, and where it is not
  tested : {s : Situation} {n : ℕ} (x : Exits) (v : Value) (pc t m q : ℕ) (f g : Part Ending)
      → IsWhole p (locals now) v
      → HasAt (code now) pc (branch_items pc v false t) m → m ≤ t
      → ((last : Situation) → Leads now last n (stands now m [] last) (f last) (ended_at now x q))
      → ((last : Situation) → Leads now last n (stands now t [] last) (g last) (ended_at now x q))
      → Leads now s n (stands now pc [] s) ((evaluate (setting now) v >>= λ x. if is_true x then f else g) s)
      (ended_at now x q)
  tested {s = s} {n = n} x v pc t m q f g fine has ahead hf hg =
      on now (evaluate (setting now) v) _
      ((value_ok now v).branch s n pc t m [] false has ahead (omega (arith, fine.1)))
      (λ w s1 _. go (is_true w) s1)
    where
      go : (b : Bool) (s1 : Situation) → Leads now s1 n (stands now (if agrees b false then t else m) [] s1)
          ((if b then f else g) s1) (ended_at now x q)
      go true s1 = hf s1
      go false s1 = hg s1

  pub if_does : (v : Value) (a : Action) → IsWhole p (locals now) v → ActionOk a → ActionOk (source.if_then v a)
  if_does v a fine oka x s n pc q ahead has =
      let m = pc + branch_count v false in
      let e = m + action_count a in
      let h = split (code now) pc (branch_items pc v false e) (action_items x m a) q (branch_count v false)
      (branch_length v false pc e) has in
      let behind = long (code now) m (action_items x m a) q (action_count a) (action_length x a m) h.1 in
      tested x v pc e m q (run (setting now) a) (give goes_on) fine h.0 (omega arith)
      (λ last. oka x last n m q ahead h.1)
      (λ last. goes_at now x e q behind)

  pub else_does : (v : Value) (a b : Action) → IsWhole p (locals now) v → ActionOk a → ActionOk b
      → ActionOk (source.if_else v a b)
  else_does v a b fine oka okb x s n pc q ahead has =
      let m = pc + branch_count v false in
      let e = m + action_count a in
      let h = split (code now) pc (branch_items pc v false (e + 1)) _ q (branch_count v false)
      (branch_length v false pc (e + 1)) has in
      let ha = split (code now) m (action_items x m a) _ q (action_count a) (action_length x a m) h.1 in
      let behind = long (code now) (e + 1) (action_items x (e + 1) b) q (action_count b)
      (action_length x b (e + 1)) ha.1.1 in
      let first = ahead.0 in
      let second = ahead.1 in
      let inner : IsAhead e x = (omega (arith, first, behind), omega (arith, second, behind)) in
      tested x v pc (e + 1) m q (run (setting now) a) (run (setting now) b) fine h.0
      (omega arith)
      (λ last. then_to now (run (setting now) a last) (oka x last n m e inner ha.0)
      (λ ending later _. passes ending later e (e + 1 + action_count b) ha.1.0 (omega arith) behind))
      (λ last. okb x last n (e + 1) q ahead ha.1.1)
    where
      passes : (ending : Ending) (later : Situation) (e t : ℕ) → slice_get (code now) e ≡ Some (items.jump t)
          → e < t → t ≡ q → Leads now later n (ended_at now x e ending later) (to ending later) (ended_at now x q)
      passes goes_on later e t h lt is = jumps now e t [] h lt (goes_at now x t q is)
      passes breaks later e t h lt is = given now {behind = ended_at now x q} breaks
      passes continues later e t h lt is = given now {behind = ended_at now x q} continues
      passes (returns v) later e t h lt is = given now {behind = ended_at now x q} (returns v)
