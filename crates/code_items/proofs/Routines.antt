-- A routine does what its body means.
use Rattle.std.proofs.Common.{◌≡◌, ℕ, ◌+◌, [], ◌∷◌, length, Some, refl, ap, arith}
use Rattle.std.specs.Prelude.{slice_get, map}
use Rattle.meaning.specs.Resolved.{none, Action, Actions, stop, next, CasesOf}
use Rattle.meaning.specs.Resolved as source
use Rattle.meaning.specs.Accepted.{IsAction, AreActions, AreCases}
use Rattle.meaning.specs.World.{Situation, to, ◌>>=◌, give, put, shown}
use Rattle.meaning.specs.Meaning.{put_line, evaluate, Ending, goes_on, breaks, continues, returns, print_all, run}
use Rattle.meaning.specs.Meaning.{run_all, run_cases, routine_at, word_of}
use Rattle.meaning.specs.Reading.{read_next}
use Rattle.meaning.specs.Places.{number_in}
use Rattle.code_drafts.specs.Items.{nowhere, alone, operand_count, alone_items}
use Rattle.code_items.specs.Statements.{prints_count, action_count, actions_count, prints_items, return_true, Exits}
use Rattle.code_items.specs.Statements.{exits_to, action_items, actions_items, cases_count, cases_items}
use Rattle.code_drafts.specs.Items as items
use Rattle.code_items.specs.Stack.{Next, return_to, act}
use Rattle.code_drafts.proofs.Counts.{alone_length}
use Rattle.code_items.proofs.StatementCounts.{prints_length, action_length, actions_length, cases_length}
use Rattle.code_items.proofs.Acts.{keeps_put}
use Rattle.code_items.proofs.Running.{ends_there, steps_on, Running, code, locals, setting}
use Rattle.code_items.proofs.Standing.{HasAt, split, long, all_at}
use Rattle.code_items.proofs.Leads.{Leads, on, given, here, stands, begins_at}
use Rattle.code_items.proofs.Steps.{puts, jumps}
use Rattle.code_items.proofs.Evaluated.{operand_held}
use Rattle.code_items.proofs.EachValue.{value_ok}
use Rattle.code_items.proofs.Statements.{ended_at, goes_at, follows_on, returns_by, alone_does, prints_do, line_does}
use Rattle.code_items.proofs.Statements.{read_does, end_of_line}
use Rattle.code_items.proofs.Conditionals.{IsAhead, ActionOk, if_does, else_does}
use Rattle.code_items.proofs.Loops.{while_does, do_does, for_does}
use Rattle.code_items.proofs.ObjectStatements.{give_does, move_does, remove_does}
use Rattle.code_items.proofs.ObjectLoops.{each_object_does, each_where_does, each_in_does}
use Rattle.code_items.proofs.Chosen.{with_it}
use Rattle.code_items.proofs.Switches.{CasesOk, case_does, switch_does}

module _ (now : Running) where
  open now use {p, full, routine, callers}

  mutual
    action_does : (a : Action) → IsAction p (locals now) a → ActionOk now a
    action_does source.empty fine x s n pc q ahead has = goes_at now x pc q has
    action_does (source.block xs) fine x s n pc q ahead has = actions_do xs fine x s n pc q ahead has
    action_does (source.text_alone bytes) fine x s n pc q ahead has =
        on now (put (map shown bytes)) _
        (puts now pc [] (items.print_text bytes) (put (map shown bytes)) [] has.0 refl
        (keeps_put full (map shown bytes))) (λ _ s1 _. end_of_line now x (pc + 1) q has.1)
    action_does (source.print is) fine x s n pc q ahead has =
        on now (print_all (setting now) is) _ (prints_do now x is fine s n pc q has)
        (λ _ s1 _. goes_at now x q q refl)
    action_does (source.print_return is) fine x s n pc q ahead has =
        let m = pc + prints_count is in
        let h = split (code now) pc (prints_items pc is) _ q (prints_count is) (prints_length is pc) has in
        on now (print_all (setting now) is) _ (prints_do now x is fine s n pc m h.0)
        (λ _ s1 _. end_of_line now x m q h.1)
    action_does source.new_line fine x s n pc q ahead has =
        on now put_line _ (line_does now x pc has.0) (λ _ s1 _. goes_at now x (pc + 1) q has.1)
    action_does (source.if_then v a) fine x s n pc q ahead has =
        if_does now v a fine.0 (action_does a fine.1) x s n pc q ahead has
    action_does (source.if_else v a b) fine x s n pc q ahead has =
        else_does now v a b fine.0 (action_does a fine.1) (action_does b fine.2) x s n pc q ahead has
    action_does (source.while_do v a) fine x s n pc q ahead has =
        while_does now v a fine.0 (action_does a fine.1) x s n pc q
        ahead has
    action_does (source.do_until a v) fine x s n pc q ahead has =
        do_does now v a fine.1 (action_does a fine.0) x s n pc q ahead has
    action_does (source.for_loop before test behind a) fine x s n pc q ahead has =
        for_does now before test behind a fine.0 fine.1 fine.2 (action_does a fine.3) x s n pc q ahead has
    action_does (source.switch_on v cs) fine x s n pc q ahead has =
        switch_does now v cs fine.0 (cases_do cs fine.1) x s n pc q ahead has
    action_does source.break_out fine x s n pc q ahead has =
        let behind = has.1 in
        let first = ahead.0 in
        jumps now pc x.breaks [] has.0 (omega (arith, behind, first)) (given now {behind = ended_at now x q} breaks)
    action_does source.continue_on fine x s n pc q ahead has =
        let behind = has.1 in
        let second = ahead.1 in
        jumps now pc x.continues [] has.0 (omega (arith, behind, second))
        (given now {behind = ended_at now x q} continues)
    action_does (source.read_line t w) fine x s n pc q ahead has =
        on now (read_next (number_in p) full t w) _ (read_does now x t w pc has.0)
        (λ _ s1 _. goes_at now x (pc + 1) q has.1)
    action_does (source.give_to v changes) fine x s n pc q ahead has =
        give_does now v changes fine.0 x s n pc q ahead has
    action_does (source.move_to v w) fine x s n pc q ahead has = move_does now v w fine.2 x s n pc q ahead has
    action_does (source.remove_from v) fine x s n pc q ahead has = remove_does now v fine x s n pc q ahead has
    action_does (source.each_object y a) fine x s n pc q ahead has =
        each_object_does now y a (action_does a fine.1) x s n pc q ahead has
    action_does (source.each_where y v a) fine x s n pc q ahead has =
        each_where_does now y v a fine.1 (action_does a fine.2) x s n pc q ahead has
    action_does (source.each_in y v a) fine x s n pc q ahead has =
        each_in_does now y v a fine.1 (action_does a fine.2) x s n pc q ahead has
    action_does (source.return_value v) fine x s n pc q ahead has =
        let m = pc + operand_count v (alone v) in
        let h = split (code now) pc (alone_items pc v) _ q (operand_count v (alone v)) (alone_length v pc) has in
        on now (evaluate (setting now) v) _ (alone_does now x v fine s n pc m h.0)
        (λ w s1 e1. returns_by now x m q (alone v) w h.1.0 (operand_held now v none s s1 w e1))
    action_does source.quit fine x s n pc q ahead has =
        record {
          does = λ k le d. steps_on p full (here now pc [] s) _ _ (ap (λ x. act p full x (here now pc [] s)) has.0)
              (ends_there p full _);
        }
    action_does (source.effect v) fine x s n pc q ahead has =
        on now (evaluate (setting now) v) _ ((value_ok now v).value s n pc q [] nowhere has (omega (arith, fine.1)))
        (λ w s1 _. goes_at now x q q refl)

    pub actions_do : (xs : Actions) → AreActions p (locals now) xs → (x : Exits) (s : Situation) (n pc q : ℕ)
        → IsAhead now q x → HasAt (code now) pc (actions_items x pc xs) q
        → Leads now s n (stands now pc [] s) (run_all (setting now) xs s)
        (ended_at now x q)
    actions_do stop fine x s n pc q ahead has = goes_at now x pc q has
    actions_do (next a rest) fine x s n pc q ahead has =
        let m = pc + action_count a in
        let h = split (code now) pc (action_items x pc a) (actions_items x m rest) q (action_count a)
        (action_length x a pc) has in
        let behind = long (code now) m (actions_items x m rest) q (actions_count rest)
        (actions_length x rest m) h.1 in
        let first = ahead.0 in
        let second = ahead.1 in
        let inner : IsAhead now m x = (omega (arith, first, behind), omega (arith, second, behind)) in
        follows_on now x m q (run (setting now) a) (run_all (setting now) rest)
        (action_does a fine.0 x s n pc m inner h.0)
        (λ last. actions_do rest fine.1 x last n m q ahead h.1)

    cases_do : (cs : CasesOf) → AreCases p (locals now) cs → CasesOk now cs
    cases_do source.no_case fine x v s n pc end q is ahead has = with_it now v pc (goes_at now x pc q has)
    cases_do (source.default_case xs) fine x v s n pc end q is ahead has =
        with_it now v pc (actions_do xs fine x s n pc q ahead has)
    cases_do (source.case gs xs rest) fine x v s n pc end q is ahead has =
        case_does now x v gs (actions_count xs) (cases_count rest) (run_all (setting now) xs)
        (run_cases (setting now) v rest) (λ place. actions_items x place xs)
        (λ place. cases_items x place rest end) s n pc end q (λ at. actions_length x xs at)
        (λ at. cases_length x rest at end) is ahead has
        (λ at after inner h. actions_do xs fine.0 x s n at after inner h)
        (λ at h. cases_do rest fine.1 x v s n at end q is ahead h)

  -- the word that the routine returns
  abbrev hands : ℕ → Situation → Next
  hands v s = return_to callers v s.world

  -- at its end, to which it leads also where it would break or continue
  finishes : {s : Situation} {n : ℕ} (pc end : ℕ) → pc ≡ end → slice_get (code now) pc ≡ Some return_true
      → (e : Ending)
      → Leads now s n (ended_at now (exits_to end end) pc e s) (to (word_of e) s) hands
  finishes {s = s} {n = n} pc end same h = go
    where
      true_there : Leads now s n (stands now pc [] s) (to 1 s) hands
      true_there = record {
        does = λ k le d. steps_on p full (here now pc [] s) (return_to callers 1 s.world) _
            (ap (λ x. act p full x (here now pc [] s)) h) (d 1 s refl (omega arith));
      }

      at_end : Leads now s n (stands now end [] s) (to 1 s) hands
      at_end = begins_at now pc end [] same true_there

      go : (e : Ending) → Leads now s n (ended_at now (exits_to end end) pc e s) (to (word_of e) s) hands
      go goes_on = true_there
      go breaks = at_end
      go continues = at_end
      go (returns v) = given now {behind = hands} v

  pub routine_does : AreActions p (locals now) (routine_at p.routines routine).body → (s : Situation) (n : ℕ)
      → Leads now s n (stands now 0 [] s)
      ((run_all (setting now) (routine_at p.routines routine).body >>= λ e. give (word_of e)) s) hands
  routine_does fine s n =
      let body = (routine_at p.routines routine).body in
      let count = actions_count body in
      let x = exits_to count count in
      let h = split (code now) 0 (actions_items x 0 body) (return_true ∷ []) (length (code now)) count
      (actions_length x body 0) (all_at (code now) []) in
      on now (run_all (setting now) body) (λ e. give (word_of e))
      (actions_do body fine x s n 0 (0 + count) (omega arith, omega arith) h.0)
      (λ e s1 _. finishes (0 + count) count (omega arith) h.1.0 e)
