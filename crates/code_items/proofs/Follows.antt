-- The items do what the tree means.
use Rattle.std.proofs.Common.{◌≡◌, ℕ, zero, suc, List, [], ◌∷◌, length, Some, None, refl, sym, ap, ◌∙◌, subst, arith}
use Rattle.std.specs.Prelude.{if◌then◌else◌, slice_index}
use Rattle.std.specs.List.{All}
use Rattle.std.proofs.lemmas.List.Elements.{All-head, All-tail}
use Rattle.std.proofs.lemmas.Bool.{lt-ltb, le-ltb}
use Rattle.zcore.specs.declared.place.Place.TheVariants as places
use Rattle.zcore.specs.declared.place.Limit.TheVariants as limits
use Rattle.meaning.specs.declared.resolved.Variable.TheVariants as variables
use Rattle.meaning.specs.Resolved.{RoutineOf, ProgramOf}
use Rattle.meaning.specs.Accepted.{IsRoutine}
use Rattle.meaning.specs.World.{Outcome, Situation, Comes, to, over, bound, give, ended, spend, units, value_in}
use Rattle.meaning.specs.World as world
use Rattle.meaning.specs.Meaning.{Ending, run_all, locals_of, routine_at, word_of, to_caller, call_in, setting}
use Rattle.meaning.specs.Meaning.{first_world, quits, meaning}
use Rattle.code_items.specs.Stack.{goes, ends, after_part}
use Rattle.code_items.specs.Laws.{ItemsFollow}
use Rattle.code_items.proofs.Acts.{hand, spends}
use Rattle.code_items.proofs.Unchanged.{Still, LeaveLocals, leaves_bound}
use Rattle.code_items.proofs.Running.{ends_there, CallsOk, Running, RunsTo}
use Rattle.code_items.proofs.Leads.{stands}
use Rattle.code_items.proofs.Routines.{routine_does}

hand_caller : (locals : List ℕ) (c : Comes Ending) (k : ℕ → Situation → Outcome)
    → hand (bound c (λ e. give (word_of e))) (λ v s. k v (record { locals = locals; world = s.world }))
    ≡ hand (to_caller locals c) k
hand_caller locals (to e s) k = refl
hand_caller locals (over outcome) k = refl

hand_quits : (c : Comes ℕ) → hand c (λ v s. ended places.Quit s.world) ≡ quits c
hand_quits (to v s) = refl
hand_quits (over outcome) = refl

-- what a caller gets, where a routine comes to a word
to_caller_is : (locals : List ℕ) (c : Comes Ending) (v : ℕ) (later : Situation) → bound c (λ e. give (word_of e))
    ≡ to v later → to_caller locals c ≡ to v (record { locals = locals; world = later.world })
to_caller_is locals (to e s) v later is = let a : word_of e ≡ v = cc in let b : s ≡ later = cc in
    ap (λ (x : ℕ). to x (record { locals = locals; world = s.world })) a
    ∙ ap (λ (x : Situation). to v (record { locals = locals; world = x.world })) b
to_caller_is locals (over outcome) v later is = absurd (cc)

-- calls leave a routine's locals
leaves_calls : (p : ProgramOf) (full d : ℕ) → LeaveLocals (call_in p full d)
leaves_calls p full zero i r arguments = λ s. tt
leaves_calls p full (suc d) i r arguments =
    leaves_bound (variables.Local i) spend _ (λ s. spent s.world.fuel s refl)
    (λ _ s. back s.locals
    (run_all (setting p full (call_in p full d)) (routine_at p.routines r).body
    (record { locals = locals_of (routine_at p.routines r).locals arguments; world = s.world })) s refl)
  where
    spent : (fuel : ℕ) (s : Situation) → s.world.fuel
        ≡ fuel → Still (variables.Local i) (value_in (variables.Local i) s) (world.spend_from fuel s)
    spent zero s e = tt
    spent (suc fuel) s e = refl

    back : (locals : List ℕ) (c : Comes Ending) (s : Situation) → locals
        ≡ s.locals → Still (variables.Local i) (value_in (variables.Local i) s) (to_caller locals c)
    back locals (to e last) s is = ap (λ l. slice_index l i) is
    back locals (over outcome) s is = tt

-- each routine is fine, also one that is not there
routine_fine : (p : ProgramOf) (rs : List RoutineOf) → All (IsRoutine p) rs → (r : ℕ) → IsRoutine p (routine_at rs r)
routine_fine p [] fine r = (omega arith, tt, tt)
routine_fine p (x ∷ rs) fine zero = All-head (IsRoutine p) x rs fine
routine_fine p (x ∷ rs) fine (suc r) = routine_fine p rs (All-tail (IsRoutine p) x rs fine) r

module _ (p : ProgramOf) (full : ℕ) (fine : (r : ℕ) → IsRoutine p (routine_at p.routines r)) where
  call_more : (d : ℕ) → CallsOk p full d → CallsOk p full (suc d)
  call_more d ok r arguments callers s k room ret =
      let now : Running = record {
        p = p;
        full = full;
        routine = r;
        callers = callers;
        depth = d;
        lower_calls = ok;
        keep = leaves_calls p full d;
        room = room;
      } in
      let R = routine_at p.routines r in
      let inner : Situation → Situation =
      λ last. record { locals = locals_of R.locals arguments; world = last.world } in
      let body : Situation → Comes ℕ =
      λ last. to_caller last.locals (run_all (setting p full (call_in p full d)) R.body (inner last)) in
      let P : Comes (Unit {0}) → Type 0 = λ c. spend s
      ≡ c → RunsTo p full (after_part c (λ _ last. stands now 0 [] (inner last))) (hand (bound c (λ _. body)) k) in
      let there : P (spend s) = spends full s P (λ e _. ends_there p full _) (λ last low locals_are e.
      subst (RunsTo p full (stands now 0 [] (inner last)))
      (hand_caller last.locals (run_all (setting p full (call_in p full d)) R.body (inner last)) k)
      ((routine_does now (fine r).1 (inner last) (units full last.world)).does
      (λ v later. k v (record { locals = last.locals; world = later.world })) (omega arith)
      (λ v later e2 low2. ret v (record { locals = last.locals; world = later.world })
      (ap (λ c. bound c (λ _. body)) e
      ∙ to_caller_is last.locals (run_all (setting p full (call_in p full d)) R.body (inner last)) v later e2)
      locals_are (omega (arith, low, low2))))) in
      subst (λ c. RunsTo p full (if c then after_part (spend s) (λ _ last. stands now 0 [] (inner last)) else ends
      (ended (places.Limit limits.Calls) s.world)) (hand (call_in p full (suc d) r arguments s) k))
      (sym (lt-ltb (length callers) 1000 (omega (arith, room)))) (there refl)

  calls_do : (d : ℕ) → CallsOk p full d
  calls_do zero r arguments callers s k room ret =
      let R = routine_at p.routines r in
      subst (λ c. RunsTo p full (if c then after_part (spend s)
      (λ _ last. goes (record {
        routine = r;
        place = 0;
        stack = [];
        put_aside = None;
        callers = callers;
        situation = record { locals = locals_of R.locals arguments; world = last.world };
      }))
      else ends (ended (places.Limit limits.Calls) s.world)) (ended (places.Limit limits.Calls) s.world))
      (sym (le-ltb (length callers) 1000 (omega (arith, room)))) (ends_there p full _)
  calls_do (suc d) r arguments callers s k room ret = call_more d (calls_do d) r arguments callers s k room ret

-- the items of an accepted program do what the program means
pub items_follow : ItemsFollow
unfolding meaning
items_follow p accepted full lines =
    let s : Situation = record { locals = []; world = first_world p full lines } in
    let run = calls_do p full (routine_fine p p.routines accepted.routines) 1000 p.main [] [] s
    (λ v last. ended places.Quit last.world) refl
    (λ v last e is low. ends_there p full (ended places.Quit last.world)) in
    record { count = run.count; comes = run.comes ∙ ap Some (hand_quits (call_in p full 1000 p.main [] s)) }
