-- `give`, `move` and `remove`.
use Rattle.std.proofs.Common.{◌≡◌, ℕ, ◌+◌, ◌≤◌, List, [], ◌∷◌, Bool, refl, sym, ◌∙◌, arith}
use Rattle.meaning.specs.Limits.{operands}
use Rattle.meaning.specs.Resolved.{Value}
use Rattle.meaning.specs.Resolved as source
use Rattle.meaning.specs.Accepted.{need_of, IsWhole}
use Rattle.meaning.specs.World.{Situation, Part, ◌>>=◌, give}
use Rattle.meaning.specs.World as world
use Rattle.meaning.specs.Meaning.{evaluate, test_object, Ending, goes_on, run}
use Rattle.meaning.specs.Meaning as meaning
use Rattle.code_drafts.specs.Items.{alone, left_of, operand_count}
use Rattle.code_drafts.specs.Items as items
use Rattle.code_items.specs.Stack.{with_operand, prints, gives_attributes, moves_object, removes_object, ItemState}
use Rattle.code_items.proofs.Acts.{bound_bound, bound_alike}
use Rattle.code_items.proofs.ObjectParts.{keeps_gives, keeps_moves, keeps_removes}
use Rattle.code_items.proofs.Running.{Running, locals, setting}
use Rattle.code_items.proofs.Held.{onto, with_held}
use Rattle.code_items.proofs.Leads.{on, as_part, here}
use Rattle.code_items.proofs.Steps.{puts}
use Rattle.code_items.proofs.Evaluated.{two_operands}
use Rattle.code_items.proofs.EachValue.{value_ok}
use Rattle.code_items.proofs.Statements.{ended_at, goes_at, taken_does}
use Rattle.code_items.proofs.Conditionals.{ActionOk}

module _ (now : Running) where
  open now use {p, full}

  -- nothing follows
  abbrev going : Unit {0} → Part Ending
  going _ = give goes_on

  -- a statement that tests an object, and then does a part of the meaning
  tested_means : (v : Value) (f : ℕ → Part (Unit {0})) (s : Situation)
      → ((evaluate (setting now) v >>= λ o. (test_object (setting now) o >>= λ _. f o)) >>= going) s
      ≡ (evaluate (setting now) v >>= λ o. (test_object (setting now) o >>= λ _. (f o >>= going))) s
  tested_means v f s =
      sym (bound_bound (evaluate (setting now) v s) (λ o. test_object (setting now) o >>= λ _. f o) going)
      ∙ bound_alike (evaluate (setting now) v s) _ _ (λ o s1.
      sym (bound_bound (test_object (setting now) o s1) (λ _. f o) going))

  pub give_does : (v : Value) (changes : List (Bool × ℕ)) → IsWhole p (locals now) v
      → ActionOk now (source.give_to v changes)
  give_does v changes fine x s n pc q ahead has =
      as_part now _ _ (tested_means v (λ o. meaning.give_all o changes) s)
      (on now (evaluate (setting now) v >>= λ o. gives_attributes p o changes) going
      (taken_does now x v fine (λ o. items.give o changes) (λ o. gives_attributes p o changes) (λ o s. refl)
      (λ o. keeps_gives p full o changes) s n pc q has) (λ _ s1 _. goes_at now x q q refl))

  pub remove_does : (v : Value) → IsWhole p (locals now) v → ActionOk now (source.remove_from v)
  remove_does v fine x s n pc q ahead has =
      as_part now _ _ (tested_means v world.remove_object s)
      (on now (evaluate (setting now) v >>= removes_object p) going
      (taken_does now x v fine items.remove_object (removes_object p) (λ o s. refl) (keeps_removes p full) s n pc q has)
      (λ _ s1 _. goes_at now x q q refl))

  move_means : (v w : Value) (s : Situation)
      → (evaluate (setting now) v >>= λ o. (evaluate (setting now) w >>= λ into. (moves_object p o into >>= going))) s
      ≡ run (setting now) (source.move_to v w) s
  move_means v w s =
      bound_alike (evaluate (setting now) v s) _ _ (λ o s1.
      bound_alike (evaluate (setting now) w s1) _ _ (λ into s2.
      sym (bound_bound (test_object (setting now) o s2)
      (λ _. test_object (setting now) into >>= λ _. world.move_object o into) going)
      ∙ bound_alike (test_object (setting now) o s2) _ _ (λ _ s3.
      sym (bound_bound (test_object (setting now) into s3) (λ _. world.move_object o into) going))))

  pub move_does : (v w : Value) → operands 0 (need_of v ∷ need_of w ∷ []) ≤ 48 → ActionOk now (source.move_to v w)
  move_does v w most x s n pc q ahead has =
      let oa = left_of v w in
      let ob = alone w in
      let m = pc + operand_count v oa + operand_count w ob in
      as_part now _ _ (move_means v w s)
      (two_operands now {behind = ended_at now x q} v w (value_ok now v) (value_ok now w) s n pc q []
      (items.move_object oa ob ∷ []) (λ o into. moves_object p o into >>= going) has (omega (arith, most))
      (λ o into s2 h held.
      let there : ItemState = here now m (onto ob into (onto oa o [])) s2 in
      on now (moves_object p o into) going
      (puts now m [] (items.move_object oa ob) (moves_object p o into) (onto ob into (onto oa o [])) h.0
      (with_held ob into s2 (onto oa o [])
      (λ z rest. with_operand oa s2 rest (λ y left. prints (moves_object p y z) left there)) held.1.0
      ∙ with_held oa o s2 [] (λ y left. prints (moves_object p y into) left there) held.0)
      (keeps_moves p full o into)) (λ _ s3 _. goes_at now x (m + 1) q h.1)))
