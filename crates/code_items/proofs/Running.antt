-- A routine that runs, and the calls that it may make.
use Rattle.std.proofs.Common.{◌≡◌, ℕ, suc, ◌+◌, ◌≤◌, List, length, Some, refl, sym, ap, ◌∙◌, subst}
use Rattle.std.specs.Prelude.{if◌then◌else◌}
use Rattle.std.proofs.lemmas.Bool.{le-leb}
use Rattle.meaning.specs.Resolved.{ProgramOf}
use Rattle.meaning.specs.World.{Outcome, Situation, to}
use Rattle.meaning.specs.Meaning.{Setting, routine_at, call_in}
use Rattle.meaning.specs.Meaning as meaning
use Rattle.code_drafts.specs.Items.{Item}
use Rattle.code_items.specs.Statements.{routine_items}
use Rattle.code_items.specs.Stack.{Caller, Next, goes, ends, stuck, within, enter, return_to, step, from, exec}
use Rattle.code_items.specs.Stack.{ItemState}
use Rattle.code_items.proofs.Acts.{hand, Lower}
use Rattle.code_items.proofs.Unchanged.{LeaveLocals}

module _ (p : ProgramOf) (full : ℕ) where
  -- from here the run comes to this outcome
  pub record RunsTo (n : Next) (outcome : Outcome) : Type 0 where
    pub count : ℕ
    pub comes : from n (exec p full count) ≡ Some outcome

  pub ends_there : (outcome : Outcome) → RunsTo (ends outcome) outcome
  ends_there outcome = record { count = 0; comes = refl }

  pub steps_on : (s : ItemState) (n : Next) (outcome : Outcome) → step p full s ≡ n → RunsTo n outcome
      → RunsTo (goes s) outcome
  steps_on s n outcome e d = record { count = suc d.count; comes = ap (λ x. from x (exec p full d.count)) e ∙ d.comes }

  pub fits : (s : ItemState) (outcome : Outcome) → length s.stack ≤ 48 → RunsTo (goes s) outcome
      → RunsTo (within s) outcome
  fits s outcome le d = subst (λ b. RunsTo (if b then goes s else stuck) outcome) (sym (le-leb (length s.stack) 48 le))
      d

-- the code of every call does what the call means, where so many more calls may be open
abbrev pub CallsOk : ProgramOf → ℕ → ℕ → Type 0
CallsOk p full depth =
    (r : ℕ) (arguments : List ℕ) (callers : List Caller) (s : Situation) (k : ℕ → Situation → Outcome) →
    length callers + depth ≡ 1000 →
    ((v : ℕ) (last : Situation) → call_in p full depth r arguments s ≡ to v last → last.locals
    ≡ s.locals → Lower full s last → RunsTo p full (return_to callers v last.world) (k v last)) →
    RunsTo p full (enter p r arguments callers s) (hand (call_in p full depth r arguments s) k)

-- a routine of a program whose turns get so many units, the calls that wait for it, and how many more may be open
pub record Running : Type 0 where
  pub p : ProgramOf
  pub full : ℕ
  pub routine : ℕ
  pub callers : List Caller
  pub depth : ℕ
  pub lower_calls : CallsOk p full depth
  pub keep : LeaveLocals (call_in p full depth)
  pub room : length callers + suc depth ≡ 1000

module _ (now : Running) where
  open now use {p, full, routine, depth}

  abbrev pub code : List Item
  code = routine_items (routine_at p.routines routine)

  abbrev pub locals : ℕ
  locals = (routine_at p.routines routine).locals

  abbrev pub setting : Setting
  setting = meaning.setting p full (call_in p full depth)
