-- The cases of a `switch`.
use Rattle.std.proofs.Common.{◌≡◌, ℕ, ◌+◌, ◌<◌, ◌≤◌, List, [], ◌∷◌, ◌++◌, length, Bool, true, false, refl, sym, subst}
use Rattle.std.proofs.Common.{arith}
use Rattle.std.specs.Prelude.{◌||◌, ◌&&◌, ◌==◌, not, if◌then◌else◌}
use Rattle.std.specs.List.{list_any}
use Rattle.std.proofs.lemmas.Bool.{eqb-true}
use Rattle.zcore.specs.Arithmetic.{signed_less}
use Rattle.meaning.specs.Resolved.{Value, RangeOf, CasesOf}
use Rattle.meaning.specs.Resolved as source
use Rattle.meaning.specs.Accepted.{IsWhole}
use Rattle.meaning.specs.World.{Situation, Comes, to, Part}
use Rattle.meaning.specs.Meaning.{evaluate, Ending, goes_on, breaks, continues, returns, holds_for, after_case}
use Rattle.meaning.specs.Meaning.{run_cases}
use Rattle.code_drafts.specs.Items.{Item, aside, agrees, value_count, value_items, same, less, greater}
use Rattle.code_items.specs.Statements.{Group, numbers, range, groups_of, group_count, group_items, last_items}
use Rattle.code_items.specs.Statements.{tests_count, tests_items, over_count, over_items, case_items, cases_count}
use Rattle.code_items.specs.Statements.{cases_items, Exits}
use Rattle.code_drafts.specs.Items as items
use Rattle.code_items.specs.Stack.{Next, goes}
use Rattle.code_drafts.proofs.Counts.{value_length}
use Rattle.code_items.proofs.StatementCounts.{tests_length, over_length, cases_length}
use Rattle.code_items.proofs.Running.{Running, code, locals, setting}
use Rattle.code_items.proofs.Standing.{HasAt, split, long}
use Rattle.code_items.proofs.Leads.{Leads, on, given, then_to, stands}
use Rattle.code_items.proofs.Steps.{jumps}
use Rattle.code_items.proofs.EachValue.{value_ok}
use Rattle.code_items.proofs.Statements.{ended_at, goes_at}
use Rattle.code_items.proofs.Conditionals.{IsAhead, ActionOk}
use Rattle.code_items.proofs.Chosen.{has_word, with_it, tests_word, jumps_word}
use Rattle.code_items.proofs.Groups.{asks, groups_hold}

-- there is a test
group_counted : (g : Group) → 1 ≤ group_count g
group_counted (numbers ns) = omega arith
group_counted (range low high) = omega arith

tests_counted : (gs : List Group) → 1 ≤ tests_count gs
tests_counted [] = omega arith
tests_counted (g ∷ gs) = let e = group_counted g in omega (arith, e)

module _ (now : Running) where
  open now use {p, full}

  module _ (A : Type 0) (v : ℕ) (s : Situation) (n : ℕ) (c : Comes A) (target : A → Situation → Next) where
    -- from a place, with the word of the `switch`
    abbrev From : ℕ → Type 0
    From pc = Leads now s n (goes (has_word now v pc s)) c target

    -- the last test, or two
    last_does : (g : Group) (pc inside behind : ℕ) → HasAt (code now) pc (last_items g behind) inside
        → inside ≤ behind → From (if asks v g then inside else behind) → From pc
    last_does (numbers ns) pc inside behind has le l =
        tests_word now v pc inside behind same ns false has.0
        (let e = has.1 in omega (arith, e, le)) has.1 (go (list_any (λ y. v == y) ns) l)
      where
        go : (b : Bool) → From (if b then inside else behind) → From (if agrees b false then behind else inside)
        go true l = l
        go false l = l
    last_does (range low high) pc inside behind has le l =
        let e = has.1.1 in
        tests_word now v pc (pc + 1) behind less (low ∷ []) true has.0 (omega (arith, e, le)) refl
        (go (signed_less v low) l)
      where
        second : (b : Bool) → From (if not b then inside else behind) → From (if agrees b true then behind else inside)
        second true l = l
        second false l = l

        go : (b : Bool) → From (if not b && not (signed_less high v) then inside else behind)
            → From (if agrees b true then behind else pc + 1)
        go true l = l
        go false l =
            let e = has.1.1 in
            tests_word now v (pc + 1) inside behind greater (high ∷ []) true has.1.0 (omega (arith, e, le))
            has.1.1 (second (signed_less high v) l)

    -- tests before others, of which it is known what they do
    group_does : (g : Group) (pc inside behind m : ℕ) (b : Bool) (is : List Item)
        → HasAt (code now) pc (group_items pc g inside ++ is) m → pc + group_count g < inside
        → (HasAt (code now) (pc + group_count g) is m → From (if b then inside else behind)
        → From (pc + group_count g)) → From (if asks v g || b then inside else behind) → From pc
    group_does (numbers ns) pc inside behind m b is has lt later l =
        tests_word now v pc (pc + 1) inside same ns true has.0 (omega (arith, lt)) refl
        (go (list_any (λ y. v == y) ns) l)
      where
        go : (d : Bool) → From (if d || b then inside else behind) → From (if agrees d true then inside else pc + 1)
        go true l = l
        go false l = later has.1 l
    group_does (range low high) pc inside behind m b is has lt later l =
        tests_word now v pc (pc + 1) (pc + 2) less (low ∷ []) true has.0 (omega arith) refl
        (go (signed_less v low) l)
      where
        two : pc + 1 + 1 ≡ pc + 2
        two = omega arith

        behind_both : HasAt (code now) (pc + 2) is m
        behind_both = subst (λ x. HasAt (code now) x is m) two has.1.1

        second : (d : Bool) → From (if not d || b then inside else behind)
            → From (if agrees d false then inside else pc + 2)
        second true l = later behind_both l
        second false l = l

        go : (d : Bool) → From (if (not d && not (signed_less high v)) || b then inside else behind)
            → From (if agrees d true then pc + 2 else pc + 1)
        go true l = later behind_both l
        go false l =
            tests_word now v (pc + 1) (pc + 2) inside greater (high ∷ []) false has.1.0 (omega (arith, lt))
            (omega arith) (second (signed_less high v) l)

    one_group : (b : Bool) (inside behind : ℕ) → From (if b || false then inside else behind)
        → From (if b then inside else behind)
    one_group true inside behind l = l
    one_group false inside behind l = l

    -- the tests of a case lead to its statements, or after them
    tests_do : (gs : List Group) (pc inside behind : ℕ) → HasAt (code now) pc (tests_items pc gs inside behind) inside
        → inside ≤ behind → From (if list_any (asks v) gs then inside else behind) → From pc
    tests_do [] pc inside behind has le l =
        let e = has.1 in jumps_word now v pc behind has.0 (omega (arith, e, le)) l
    tests_do (g ∷ []) pc inside behind has le l =
        last_does g pc inside behind has le (one_group (asks v g) inside behind l)
    tests_do (g ∷ h ∷ gs) pc inside behind has le l =
        let next = pc + group_count g in
        let is = tests_items next (h ∷ gs) inside behind in
        let all = long (code now) pc (group_items pc g inside ++ is) inside (tests_count (g ∷ h ∷ gs))
        (tests_length (g ∷ h ∷ gs) pc inside behind) has in
        let some = tests_counted (h ∷ gs) in
        group_does g pc inside behind inside (list_any (asks v) (h ∷ gs)) is has (omega (arith, all, some))
        (λ rest more. tests_do (h ∷ gs) next inside behind rest le more) l

  -- the way over the later cases
  over_does : {s : Situation} {n : ℕ} (x : Exits) (ending : Ending) (pc later end q : ℕ)
      → HasAt (code now) pc (over_items later end) (pc + over_count later) → pc + over_count later + later ≡ q → q ≡ end
      → Leads now s n (ended_at now x pc ending s) (to ending s) (ended_at now x q)
  over_does {s = s} {n = n} x goes_on pc later end q has all is = go (later == 0) refl has all
    where
      go : (b : Bool) → (later == 0) ≡ b
          → HasAt (code now) pc (if b then [] else items.jump end ∷ []) (pc + (if b then 0 else 1))
          → pc + (if b then 0 else 1) + later ≡ q
          → Leads now s n (stands now pc [] s) (to goes_on s) (ended_at now x q)
      go true zero_is has all = let e = eqb-true later 0 zero_is in goes_at now x pc q (omega (arith, all, e))
      go false zero_is has all = jumps now pc end [] has.0 (omega (arith, all, is)) (goes_at now x end q (sym is))
  over_does x breaks pc later end q has all is = given now {behind = ended_at now x q} breaks
  over_does x continues pc later end q has all is = given now {behind = ended_at now x q} continues
  over_does x (returns v) pc later end q has all is = given now {behind = ended_at now x q} (returns v)

  -- a case, where its statements and the later cases do what they mean
  pub case_does : (x : Exits) (v : ℕ) (gs : List RangeOf) (body later : ℕ) (f g : Part Ending)
      (run_items rest_items : ℕ → List Item) (s : Situation) (n pc end q : ℕ)
      → ((at : ℕ) → length (run_items at) ≡ body) → ((at : ℕ) → length (rest_items at) ≡ later) → q ≡ end
      → IsAhead now q x
      → HasAt (code now) pc (case_items pc (groups_of gs) body later end run_items rest_items) q
      → ((at after : ℕ) → IsAhead now after x → HasAt (code now) at (run_items at) after
      → Leads now s n (stands now at [] s) (f s) (ended_at now x after))
      → ((at : ℕ) → HasAt (code now) at (rest_items at) q
      → Leads now s n (goes (has_word now v at s)) (g s) (ended_at now x q))
      → Leads now s n (goes (has_word now v pc s)) ((if list_any (holds_for v) gs then f else g) s) (ended_at now x q)
  case_does x v gs body later f g run_items rest_items s n pc end q run_length rest_length is ahead has runs rests =
      let groups = groups_of gs in
      let m = pc + tests_count groups in
      let e = m + body in
      let b = e + over_count later in
      let h = split (code now) pc (tests_items pc groups m b) _ q (tests_count groups)
      (tests_length groups pc m b) has in
      let hr = split (code now) m (run_items m) _ q body (run_length m) h.1 in
      let ho = split (code now) e (over_items later end) (rest_items b) q (over_count later)
      (over_length later end) hr.1 in
      let all = long (code now) b (rest_items b) q later (rest_length b) ho.1 in
      let first = ahead.0 in
      let second = ahead.1 in
      let inner : IsAhead now e x = (omega (arith, first, all), omega (arith, second, all)) in
      let held : Leads now s n (stands now m [] s) (f s) (ended_at now x q) =
      then_to now (f s) (runs m e inner hr.0) (λ ending last _. over_does x ending e later end q ho.0 all is) in
      subst (λ c. Leads now s n (goes (has_word now v pc s)) ((if c then f else g) s) (ended_at now x q))
      (groups_hold v gs)
      (tests_do _ v s n _ _ groups pc m b h.0 (omega arith)
      (either (list_any (asks v) groups) m b (with_it now v m held) (rests b ho.1)))
    where
      either : (c : Bool) (m b : ℕ) → Leads now s n (goes (has_word now v m s)) (f s) (ended_at now x q)
          → Leads now s n (goes (has_word now v b s)) (g s) (ended_at now x q)
          → Leads now s n (goes (has_word now v (if c then m else b) s)) ((if c then f else g) s) (ended_at now x q)
      either true m b hm hb = hm
      either false m b hm hb = hb

  -- the cases do what they mean, with the word of the `switch`
  abbrev pub CasesOk : CasesOf → Type 0
  CasesOk cs = (x : Exits) (v : ℕ) (s : Situation) (n pc end q : ℕ) → q ≡ end → IsAhead now q x
      → HasAt (code now) pc (cases_items x pc cs end) q
      → Leads now s n (goes (has_word now v pc s)) (run_cases (setting now) v cs s) (ended_at now x q)

  pub switch_does : (v : Value) (cs : CasesOf) → IsWhole p (locals now) v → CasesOk cs
      → ActionOk now (source.switch_on v cs)
  switch_does v cs fine ok x s n pc q ahead has =
      let m = pc + value_count v aside in
      let e = m + cases_count cs in
      let inner : Exits = record x { breaks = e } in
      let h = split (code now) pc (value_items pc v aside) _ q (value_count v aside) (value_length v aside pc) has in
      let all = long (code now) m (cases_items inner m cs e) q (cases_count cs) (cases_length inner cs m e) h.1 in
      on now (evaluate (setting now) v) _
      ((value_ok now v).value s n pc m [] aside h.0 (omega (arith, fine.1))) (λ w s1 e1.
      on now (run_cases (setting now) w cs) _
      (ok inner w s1 n m e q (sym all) (omega (arith, all), ahead.1) h.1)
      (λ ending s2 _. leaves e all ending s2))
    where
      leaves : (e : ℕ) → e ≡ q → (ending : Ending) (last : Situation)
          → Leads now last n (ended_at now (record x { breaks = e }) q ending last) (to (after_case ending) last)
          (ended_at now x q)
      leaves e is goes_on last = goes_at now x q q refl
      leaves e is breaks last = goes_at now x e q is
      leaves e is continues last = given now {behind = ended_at now x q} continues
      leaves e is (returns w) last = given now {behind = ended_at now x q} (returns w)
