-- Calls with initial values make the weight of a turn fall.
use Rattle.std.proofs.Common.{◌≡◌, ℕ, ◌+◌, ◌<◌, ◌≤◌, List, [], ◌∷◌, length, ap, ◌∙◌, arith, Option}
use Rattle.std.specs.Prelude.{◌==◌}
use Rattle.zcore.specs.declared.place.Fault.TheVariants as faults
use Rattle.zcore.specs.declared.next.Next.{Next}
use Rattle.zcore.specs.State.{State, done, bound}
use Rattle.zcore.specs.Parts.{test_routine, test_calls, spend, enter, call, goes_on}
use Rattle.zcore.specs.Turn.{weight}
use Rattle.zcore.proofs.KeepingReads.{Alike, Keeps, alike_same, alike_then, done_state, done_value, both, keeps_done}
use Rattle.zcore.proofs.KeepingReads.{keeps_then, keeps_test}
use Rattle.zcore.proofs.Keeping.{keeps_write_variable}
use Rattle.zcore.proofs.FallsOfParts.{Falls, FallsFrom, falls_alike, falls_either, call_falls}
use Rattle.zcore.proofs.FallsOfEffects.{give_result_falls}
use Rattle.zcore_versions.specs.declared.version.StoryVersion.{StoryVersion}
use Rattle.zcore_versions.specs.Versions.{is_old, routine_at}
use Rattle.zcore_versions.specs.Calls.{code_of, initial_values, has_values, test_values, set_locals, call_with_values}
use Rattle.zcore_versions.specs.Calls.{call_older}

keeps_test_values : (routine : ℕ) → Keeps (test_values routine)
unfolding test_values
keeps_test_values routine s t a h = keeps_test (has_values s.memory routine) faults.Code s t a h

keeps_set_locals : (number : ℕ) (words : List ℕ) → Keeps (set_locals number words)
unfolding set_locals
keeps_set_locals number [] = keeps_done tt
keeps_set_locals number (word ∷ words) =
    keeps_then _ _ (keeps_write_variable (number + 1) word) (λ _. keeps_set_locals (number + 1) words)

-- a place further on, in a state that is alike, weighs no more
further_on : (here next there : Next) (s t u : State) → Falls here s next t → Alike t u → there.fuel ≡ next.fuel
    → next.program_counter ≤ there.program_counter → Falls here s there u
unfolding weight
further_on here next there s t u falls alike fuel ahead =
    let f = falls.lighter.falls in
    let m = alike.memory in
    let n = alike.frames in
    record {
      lighter = record {
        falls = rw (m, n, fuel) (omega (arith, f, ahead));
        memory = m ∙ falls.lighter.memory;
        frames = λ few. let g = falls.lighter.frames few in omega (arith, n, g);
      };
      behind = λ after. let g = falls.behind after in omega (arith, g, ahead);
    }

-- a call goes on at the byte behind the number of locals
call_goes : (here : Next) (after routine : ℕ) (arguments : List ℕ) (result : Option ℕ) (s t : State) (next : Next)
    → call here after routine arguments result s ≡ done next t → next.program_counter ≡ routine + 1
unfolding call
call_goes here after routine arguments result s t next h =
    let p = both (test_routine routine s) _ next t h in
    let q = both (test_calls p.between) _ next t p.second in
    let r = both (spend here.fuel q.between) _ next t q.second in
    let u = both (enter routine arguments result after r.between) _ next t r.second in
    let v : next ≡ record { program_counter = routine + 1; fuel = r.value } = done_value _ next u.between t u.second in
    ap (λ (x : Next). x.program_counter) v

-- what comes after a call
begun : (here next there : Next) (words : List ℕ) (given code : ℕ) (s t u : State) → Falls here s next t
    → next.program_counter ≤ code
    → bound (set_locals given words t) (λ _. goes_on code next.fuel) ≡ done there u → Falls here s there u
begun here next there words given code s t u falls ahead h =
    let p = both (set_locals given words t) (λ _. goes_on code next.fuel) there u h in
    let v = done_value (record { program_counter = code; fuel = next.fuel }) there p.between u p.second in
    let w = done_state (record { program_counter = code; fuel = next.fuel }) there p.between u p.second in
    let place = ap (λ (x : Next). x.program_counter) v in
    further_on here next there s t u falls
    (alike_then t p.between u (keeps_set_locals given words t p.between p.value p.first) (alike_same p.between u w))
    (ap (λ (x : Next). x.fuel) v) (omega (arith, place, ahead))

pub call_with_values_falls : (here : Next) (after routine : ℕ) (arguments : List ℕ) (result : Option ℕ)
    → FallsFrom here (call_with_values here after routine arguments result)
unfolding call_with_values
call_with_values_falls here after routine arguments result s t next within h =
    let given = length arguments in
    let words : List ℕ = initial_values s.memory routine given in
    let code = code_of s.memory routine in
    let v = both (test_values routine s)
    (λ _ u. bound (call here after routine arguments result u)
    (λ n w. bound (set_locals given words w) (λ _. goes_on code n.fuel))) next t h in
    let alike = keeps_test_values routine s v.between v.value v.first in
    let p = both (call here after routine arguments result v.between)
    (λ n w. bound (set_locals given words w) (λ _. goes_on code n.fuel)) next t v.second in
    let falls = call_falls here after routine arguments result v.between p.between p.value
    (omega (arith, alike.memory)) p.first in
    let goes = call_goes here after routine arguments result v.between p.between p.value p.first in
    falls_alike here next s v.between t alike
    (begun here p.value next words given code v.between p.between t falls (omega (arith, goes)) p.second)

pub call_older_falls : (version : StoryVersion) (here : Next) (after : ℕ) (result : Option ℕ) (packed : ℕ)
    (arguments : List ℕ) → here.program_counter < after
    → FallsFrom here (call_older version here after result packed arguments)
unfolding call_older
call_older_falls version here after result packed arguments ahead =
    falls_either (packed == 0) here _ _ (λ _. give_result_falls here after result 0 ahead)
    (falls_either (is_old version) here _ _
    (λ _. call_with_values_falls here after (routine_at version packed) arguments result)
    (call_falls here after (routine_at version packed) arguments result))
