-- What a story is given for a name: the store in which its turn goes on.
use Rattle.std.proofs.Common.{◌≡◌, ◌≢◌, ℕ, Bool, true, false, if◌then◌else◌, List, [], ◌∷◌, length, drop, refl, ap, sym}
use Rattle.std.proofs.Common.{◌∙◌, arith, slice_index, subst, Option, Some, None, Result, Ok, Err, codes}
use Rattle.std.specs.Prelude.{◌==◌, ◌&&◌, nat_lt, IfOk, IfSome}
use Rattle.std.proofs.lemmas.Bool.{eq-eqb, eqb-true, false≢true, ne_eqb}
use Rattle.journal.specs.Recording.{Recording}
use Rattle.zcore.specs.declared.next.Next.{Next}
use Rattle.zcore.specs.State.{Pending, State, Out, done, halt, ◌>>=◌}
use Rattle.iff_files.specs.SaveFiles.{Saved, saved_in}
use Rattle.iff_files.specs.declared.fault.SaveFault.{SaveFault}
use Rattle.zcore_standard.specs.Loaded.{Loaded}
use Rattle.zcore_standard.specs.SavedStates.{state_in, take_up}
use Rattle.zcore_standard.specs.Saving.{answer, answer_restored, byte_of_file, file_given, follows_save, given_for, is_done, is_place}
use Rattle.zcore_standard.specs.Saving.{place_of, purpose_of, refuse, restore_read, restored_by, restored_or, saved_by, saved_or}
use Rattle.zcore_standard.specs.Saving.{answer_saved, reason, reason_of, restored_from, test_success}
use Rattle.zcore_standard.specs.declared.save_form.Purpose.{Purpose}
use Rattle.zcore_standard.specs.declared.save_form.SaveForm.{SaveForm}
use Rattle.machine_frames.specs.Contents.{Contents, memory_of}
use Rattle.machine_frames.specs.States.{pending_of, state_of, IsSound}
use Rattle.machine_frames.specs.Went.{GoesOn, Told, Went}
use Rattle.machine_frames.specs.declared.end.End.{End}
use Rattle.machine_frames.specs.declared.end.End.TheVariants as ends
use Rattle.machine_frames.proofs.Steps.{header_same, told_as}
use Rattle.machine_frames.proofs.Steps.{told_then, told_went}
use Rattle.machine_lines.specs.Lines.{WaitsNoMore}
use Rattle.machine_lines.proofs.Lines.{base_kept, pending_parts}
use Rattle.machine_standard_saves.specs.Asked.{HasSaves}
use Rattle.machine_standard_saves.proofs.AlwaysDone.{left_in}
use Rattle.machine_standard_saves.proofs.Answering.{told_from, at_the_end, told_at_end}

-- What is given

pub empty_by : (given : List ℕ) (b : Bool) → b ≡ (length given == 0) → b ≡ true → length given ≡ 0
empty_by given b is holds = eqb-true (length given) 0 (sym is ∙ holds)

pub some_by : (given : List ℕ) (b : Bool) → b ≡ (length given == 0) → b ≡ false → length given ≢ 0
some_by given b is fails = λ e. false≢true (sym fails ∙ is ∙ eq-eqb (length given) 0 e)

saved_none : (form : SaveForm) (place fuel : ℕ) (given : List ℕ) → length given ≡ 0
    → saved_or form place fuel given ≡ answer form place 0 fuel
saved_none form place fuel [] e = refl
saved_none form place fuel (g ∷ gs) e = absurd (omega (arith, e))

saved_some : (form : SaveForm) (place fuel : ℕ) (given : List ℕ) → length given ≢ 0
    → saved_or form place fuel given ≡ saved_by form place fuel (slice_index given 0)
saved_some form place fuel [] e = absurd (e refl)
saved_some form place fuel (g ∷ gs) e = refl

restored_none : (loaded : Loaded) (form : SaveForm) (place fuel : ℕ) (given : List ℕ) → length given ≡ 0
    → restored_or loaded form place fuel given ≡ answer form place 0 fuel
restored_none loaded form place fuel [] e = refl
restored_none loaded form place fuel (g ∷ gs) e = absurd (omega (arith, e))

restored_some : (loaded : Loaded) (form : SaveForm) (place fuel : ℕ) (given : List ℕ) → length given ≢ 0
    → restored_or loaded form place fuel given
    ≡ answer_restored loaded form place fuel (slice_index given 0) (drop 1 given)
restored_some loaded form place fuel [] e = absurd (e refl)
restored_some loaded form place fuel (g ∷ gs) e = refl

-- another definition that is the same
as_same : {s t : Recording Contents} {x y : List ℕ} (r : Result Next End) (f g : State → Out Next) → g ≡ f
    → Told r s x t y f → Told r s x t y g
as_same {s} {t} {x} {y} r f g e w = subst (λ (h : State → Out Next). Told r s x t y h) (sym e) w

pub gives_none_saved : {s t : Recording Contents} (r : Result Next End) (form : SaveForm) (place fuel : ℕ)
    (given text : List ℕ) → length given ≡ 0 → Went r s t (answer form place 0 fuel)
    → Told r s (drop (length text) text) t (drop (length text) text) (saved_or form place fuel given)
gives_none_saved r form place fuel given text e w =
    as_same r (answer form place 0 fuel) (saved_or form place fuel given) (saved_none form place fuel given e)
    (told_at_end r text w)

pub gives_saved : {s t : Recording Contents} {x y : List ℕ} (r : Result Next End) (form : SaveForm) (place fuel : ℕ)
    (given : List ℕ) → length given ≢ 0 → Told r s x t y (saved_by form place fuel (slice_index given 0))
    → Told r s x t y (saved_or form place fuel given)
gives_saved r form place fuel given e w =
    as_same r (saved_by form place fuel (slice_index given 0)) (saved_or form place fuel given)
    (saved_some form place fuel given e) w

pub gives_none_restored : {s t : Recording Contents} (r : Result Next End) (loaded : Loaded) (form : SaveForm)
    (place fuel : ℕ) (given text : List ℕ) → length given ≡ 0 → Went r s t (answer form place 0 fuel)
    → Told r s (drop (length text) text) t (drop (length text) text) (restored_or loaded form place fuel given)
gives_none_restored r loaded form place fuel given text e w =
    as_same r (answer form place 0 fuel) (restored_or loaded form place fuel given)
    (restored_none loaded form place fuel given e) (told_at_end r text w)

pub gives_restored : {s t : Recording Contents} {x y : List ℕ} (r : Result Next End) (loaded : Loaded)
    (form : SaveForm) (place fuel number : ℕ) (given bytes : List ℕ) → length given ≢ 0
    → number ≡ slice_index given 0 → number ≡ 0 → bytes ≡ drop 1 given
    → Told r s x t y (restored_by loaded form place fuel bytes) → Told r s x t y (restored_or loaded form place fuel given)
gives_restored {s} {t} {x} {y} r loaded form place fuel number given bytes e is zero same w =
    as_same r (restored_by loaded form place fuel bytes) (restored_or loaded form place fuel given)
    (restored_some loaded form place fuel given e
    ∙ ap (λ (n : ℕ). answer_restored loaded form place fuel n (drop 1 given)) (sym is ∙ zero)
    ∙ ap (λ (b : List ℕ). restored_by loaded form place fuel b) (sym same)) w

pub gives_refused : {s t : Recording Contents} {x y : List ℕ} (r : Result Next End) (loaded : Loaded)
    (form : SaveForm) (place fuel number : ℕ) (given why : List ℕ) → length given ≢ 0 → number ≡ slice_index given 0
    → number ≢ 0 → why ≡ reason number → Told r s x t y (refuse form place fuel (codes "restored") why)
    → Told r s x t y (restored_or loaded form place fuel given)
gives_refused {s} {t} {x} {y} r loaded form place fuel number given why e is some same w =
    as_same r (refuse form place fuel (codes "restored") why) (restored_or loaded form place fuel given)
    (restored_some loaded form place fuel given e
    ∙ ap (λ (n : ℕ). answer_restored loaded form place fuel n (drop 1 given)) (sym is)
    ∙ ap (λ (b : Bool). λ (z : State). if b then restored_by loaded form place fuel (drop 1 given) z
    else refuse form place fuel (codes "restored") (reason number) z) (ne_eqb number 0 some)
    ∙ ap (λ (l : List ℕ). refuse form place fuel (codes "restored") l) (sym same)) w

-- save

pub misnamed : {s t : Recording Contents} {x y : List ℕ} (r : Result Next End) (form : SaveForm)
    (place fuel number : ℕ) (why : List ℕ) → number ≡ 1 → why ≡ reason number
    → Told r s x t y (refuse form place fuel (codes "saved") why) → Told r s x t y (saved_by form place fuel number)
unfolding saved_by
misnamed {s} {t} {x} {y} r form place fuel number why is same w =
    as_same r (refuse form place fuel (codes "saved") why) (saved_by form place fuel number)
    (ap (λ (n : ℕ). saved_by form place fuel n) is
    ∙ ap (λ (l : List ℕ). refuse form place fuel (codes "saved") l) (sym (same ∙ ap (λ (n : ℕ). reason n) is))) w

-- a name that is one: "success" is tested
abbrev tests_first : SaveForm → ℕ → ℕ → ℕ → State → Out Next
tests_first form place fuel number = do
  _ ← test_success form place
  answer_saved form place fuel number

tested : (form : SaveForm) (place fuel number : ℕ) → number ≢ 1
    → saved_by form place fuel number ≡ tests_first form place fuel number
unfolding saved_by
tested form place fuel number other =
    ap (λ (b : Bool). if b then answer_saved form place fuel number else tests_first form place fuel number)
    (ne_eqb number 1 other)

pub fails_first : {s : Recording Contents} {x : List ℕ} (r : Result Next End) (form : SaveForm)
    (place fuel number : ℕ) → number ≢ 1 → Told {A = Next} r s x s x (tests_first form place fuel number)
    → Told r s x s x (saved_by form place fuel number)
fails_first r form place fuel number other w =
    as_same r (tests_first form place fuel number) (saved_by form place fuel number) (tested form place fuel number other) w

pub saves : {s t : Recording Contents} {x : List ℕ} (r : Result Next End) (form : SaveForm) (place fuel number : ℕ)
    → number ≢ 1 → number ≡ 0 → Went (Ok tt) s s (test_success form place) → Went r s t (answer form place 1 fuel)
    → Told r s x t x (saved_by form place fuel number)
saves {s} {t} {x} r form place fuel number other is test w =
    as_same r (tests_first form place fuel number) (saved_by form place fuel number) (tested form place fuel number other)
    (told_then (λ _. answer_saved form place fuel number) (told_went (Ok tt) x test)
    (as_same r (answer form place 1 fuel) (answer_saved form place fuel number)
    (ap (λ (n : ℕ). answer_saved form place fuel n) is) (told_went r x w)))

pub saves_not : {s t : Recording Contents} {x y : List ℕ} (r : Result Next End) (form : SaveForm)
    (place fuel number : ℕ) (why : List ℕ) → number ≢ 1 → number ≢ 0 → why ≡ reason number
    → Went (Ok tt) s s (test_success form place) → Told r s x t y (refuse form place fuel (codes "saved") why)
    → Told r s x t y (saved_by form place fuel number)
saves_not {s} {t} {x} {y} r form place fuel number why other some same test w =
    as_same r (tests_first form place fuel number) (saved_by form place fuel number) (tested form place fuel number other)
    (told_then (λ _. answer_saved form place fuel number) (told_went (Ok tt) x test)
    (as_same r (refuse form place fuel (codes "saved") why) (answer_saved form place fuel number)
    (ap (λ (b : Bool). λ (z : State). if b then answer form place 1 fuel z
    else refuse form place fuel (codes "saved") (reason number) z) (ne_eqb number 0 some)
    ∙ ap (λ (l : List ℕ). refuse form place fuel (codes "saved") l) (sym same)) w))

-- A place after a `save`

-- the tests of a place before that of the answer
abbrev comes_after : List ℕ → List ℕ → SaveForm → ℕ → Bool
comes_after story memory form place =
    nat_lt place (length memory) && follows_save form (byte_of_file story memory) place

tested_first : (s : Contents) (story memory : List ℕ) (form : SaveForm) (place : ℕ) (follows : Bool)
    → memory ≡ memory_of s → follows ≡ comes_after story memory form place
    → is_place story form place (state_of s []) ≡ (follows && is_done (test_success form place (state_of s [])))
tested_first s story memory form place follows same is =
    ap (λ (b : Bool). b && is_done (test_success form place (state_of s [])))
    (sym (is ∙ ap (λ (m : List ℕ). comes_after story m form place) same))

pub no_place : (s : Contents) (story memory : List ℕ) (form : SaveForm) (place : ℕ) (follows : Bool)
    → memory ≡ memory_of s → follows ≡ comes_after story memory form place → follows ≡ false
    → false ≡ is_place story form place (state_of s [])
no_place s story memory form place follows same is not =
    sym (tested_first s story memory form place follows same is
    ∙ ap (λ (b : Bool). b && is_done (test_success form place (state_of s []))) not)

pub goes_on_there : {E : Type 0} (r : Result Bool E) (s : Contents) (story memory : List ℕ) (form : SaveForm)
    (place : ℕ) (follows : Bool) → memory ≡ memory_of s → follows ≡ comes_after story memory form place
    → follows ≡ true → IfOk r (λ can. can ≡ is_done (test_success form place (state_of s [])))
    → IfOk r (λ is. is ≡ is_place story form place (state_of s []))
goes_on_there (Ok can) s story memory form place follows same is holds done_is =
    done_is
    ∙ sym (tested_first s story memory form place follows same is
    ∙ ap (λ (b : Bool). b && is_done (test_success form place (state_of s []))) holds)
goes_on_there (Err e) s story memory form place follows same is holds done_is = tt

-- restore

pub no_saves : {s t : Recording Contents} {x y : List ℕ} (r : Result Next End) (loaded : Loaded) (form : SaveForm)
    (place fuel : ℕ) (why bytes : List ℕ) → loaded.saves ≡ None → why ≡ reason 4
    → Told r s x t y (refuse form place fuel (codes "restored") why) → Told r s x t y (restored_by loaded form place fuel bytes)
unfolding restored_by
no_saves {s} {t} {x} {y} r loaded form place fuel why bytes none same w =
    as_same r (refuse form place fuel (codes "restored") why) (restored_by loaded form place fuel bytes)
    (ap (λ (o : Option (List ℕ)). restored_from loaded o form place fuel bytes) none
    ∙ ap (λ (l : List ℕ). refuse form place fuel (codes "restored") l) (sym same)) w

pub from_saves : {s t : Recording Contents} {x y : List ℕ} (r : Result Next End) (loaded : Loaded) (story : List ℕ)
    (form : SaveForm) (place fuel : ℕ) (bytes : List ℕ) → loaded.saves ≡ Some story
    → Told r s x t y (λ z. restore_read loaded story form place fuel (saved_in story (length z.memory) bytes) z)
    → Told r s x t y (restored_by loaded form place fuel bytes)
unfolding restored_by
from_saves r loaded story form place fuel bytes some w =
    as_same r (λ z. restore_read loaded story form place fuel (saved_in story (length z.memory) bytes) z)
    (restored_by loaded form place fuel bytes)
    (ap (λ (o : Option (List ℕ)). restored_from loaded o form place fuel bytes) some) w

-- what a file says
pub read_as : {s t : Recording Contents} {x y : List ℕ} (r : Result Next End) (loaded : Loaded) (story : List ℕ)
    (form : SaveForm) (place fuel : ℕ) (bytes : List ℕ) (outcome : Result Saved SaveFault)
    → saved_in story (length (memory_of s.store)) bytes ≡ outcome
    → Told r s x t y (restore_read loaded story form place fuel outcome)
    → Told r s x t y (λ z. restore_read loaded story form place fuel (saved_in story (length z.memory) bytes) z)
read_as {s} {t} {x} {y} r loaded story form place fuel bytes outcome is w =
    told_as r (λ z. restore_read loaded story form place fuel (saved_in story (length z.memory) bytes) z)
    (ap (λ (o : Result Saved SaveFault). restore_read loaded story form place fuel o (state_of s.store x)) is) w

pub refused_as : {s t : Recording Contents} {x y : List ℕ} (r : Result Next End) (loaded : Loaded) (story : List ℕ)
    (form : SaveForm) (place fuel : ℕ) (cause : SaveFault) (why : List ℕ) → why ≡ reason_of cause
    → Told r s x t y (refuse form place fuel (codes "restored") why)
    → Told r s x t y (restore_read loaded story form place fuel (Err cause))
refused_as r loaded story form place fuel cause why same w =
    as_same r (refuse form place fuel (codes "restored") why) (restore_read loaded story form place fuel (Err cause))
    (ap (λ (l : List ℕ). refuse form place fuel (codes "restored") l) (sym same)) w

-- the state of the file is there
there : (s m : Recording Contents) (loaded : Loaded) (saved : Saved) → Went (Ok tt) s m (take_up loaded saved)
    → state_in loaded saved (state_of s.store []) ≡ state_of m.store []
unfolding take_up
there s m loaded saved w = ap (λ (o : Out (Unit {0})). left_in o) (w.did.1 [])

pub not_taken : {A : Type 0} {e : End} {s t : Recording Contents} {x y : List ℕ} (loaded : Loaded) (saved : Saved)
    (f : State → Out A) → Went {A = Unit {0}} (Err e) s t (take_up loaded saved) → Told {A = A} (Err e) s x t y f
unfolding take_up
not_taken {e = ends.Memory} loaded saved f w = record { told = w.did }
not_taken {e = ends.Stop place} {s} {t} loaded saved f w =
    let clash : true ≡ false = ap (λ (o : Out (Unit {0})). is_done o) (w.did.1 []) in
    absurd (cc)

-- the file is restored
pub restored_told : {s m t : Recording Contents} {x : List ℕ} (r : Result Next End) (loaded : Loaded) (story : List ℕ)
    (form : SaveForm) (place fuel : ℕ) (saved : Saved) → x ≡ [] → Went (Ok tt) s m (take_up loaded saved)
    → is_place story form saved.program_counter (state_of m.store []) ≡ true
    → Went r m t (answer form saved.program_counter 2 fuel)
    → Told r s x t x (restore_read loaded story form place fuel (Ok saved))
restored_told {s} {m} {t} {x} r loaded story form place fuel saved none w is v =
    let here : is_place story form saved.program_counter (state_in loaded saved (state_of s.store [])) ≡ true =
    ap (λ (z : State). is_place story form saved.program_counter z) (there s m loaded saved w) ∙ is in
    subst (λ (l : List ℕ). Told r s l t l (restore_read loaded story form place fuel (Ok saved))) (sym none)
    (told_as r (restore_read loaded story form place fuel (Ok saved))
    (ap (λ (b : Bool). if b then (take_up loaded saved >>= (λ _. answer form saved.program_counter 2 fuel)) (state_of s.store [])
    else refuse form place fuel (codes "restored") (codes "its place is not after a save") (state_of s.store [])) here)
    (told_then (λ _. answer form saved.program_counter 2 fuel) (told_went (Ok tt) [] w) (told_went r [] v)))

-- and is not, where no `save` is before its place
pub restored_not : {s m z t : Recording Contents} {x y : List ℕ} (r : Result Next End) (loaded : Loaded)
    (story : List ℕ) (form : SaveForm) (place fuel : ℕ) (saved : Saved) → x ≡ []
    → Went (Ok tt) s m (take_up loaded saved)
    → is_place story form saved.program_counter (state_of m.store []) ≡ false
    → z.store ≡ s.store → z.beginning ≡ s.beginning → IsSound z.store
    → Told r z x t y (refuse form place fuel (codes "restored") (codes "its place is not after a save"))
    → Told r s x t y (restore_read loaded story form place fuel (Ok saved))
restored_not {s} {m} {z} {t} {x} {y} r loaded story form place fuel saved none w is same beginning sound v =
    let why : List ℕ = codes "its place is not after a save" in
    let here : is_place story form saved.program_counter (state_in loaded saved (state_of s.store [])) ≡ false =
    ap (λ (q : State). is_place story form saved.program_counter q) (there s m loaded saved w) ∙ is in
    let goes : GoesOn s z = record {
      sound = sound;
      beginning = beginning;
      fixed = ap (λ (c : Contents). c.fixed) same;
      header = header_same (ap memory_of same);
    } in
    told_from r (refuse form place fuel (codes "restored") why) (restore_read loaded story form place fuel (Ok saved)) goes
    (subst (λ (l : List ℕ). restore_read loaded story form place fuel (Ok saved) (state_of s.store l)
    ≡ refuse form place fuel (codes "restored") why (state_of z.store l)) (sym none)
    (ap (λ (b : Bool). if b then (take_up loaded saved >>= (λ _. answer form saved.program_counter 2 fuel)) (state_of s.store [])
    else refuse form place fuel (codes "restored") why (state_of s.store [])) here
    ∙ ap (λ (c : Contents). refuse form place fuel (codes "restored") why (state_of c [])) (sym same))) v

-- The turn begins

pub purpose_is : (f : ℕ → ℕ) (pending : Pending) (purpose : Purpose) (number : ℕ) → number ≡ f 7
    → purpose ≡ purpose_of (record { text_buffer = 0; parse_buffer = number; result = None; return_address = 0 })
    → pending_of f ≡ Some pending → purpose ≡ purpose_of pending
purpose_is f pending purpose number is asks waits =
    asks ∙ ap (λ (n : ℕ). purpose_of (record { text_buffer = 0; parse_buffer = n; result = None; return_address = 0 }))
    (is ∙ ap (λ (p : Pending). p.parse_buffer) (pending_parts f pending waits))

pub saves_kept : (loaded : Loaded) (s m : Recording Contents) → GoesOn s m → HasSaves loaded s.store
    → HasSaves loaded m.store
saves_kept loaded s m goes has =
    subst (λ (n : ℕ). IfSome loaded.saves (λ story. length story ≡ n)) (sym (base_kept s m goes)) has

pub takes_file : {s m t : Recording Contents} (r : Result Next End) (loaded : Loaded) (form : SaveForm)
    (purpose : Purpose) (place fuel : ℕ) (pending : Pending) (given before after : List ℕ) → WaitsNoMore s m
    → purpose ≡ purpose_of pending → place ≡ place_of pending
    → Told r m (drop (length before) before) t (drop (length before) after) (given_for loaded form purpose place fuel given)
    → Told r s (drop (length before) before) t (drop (length before) after) (file_given loaded form pending given fuel)
unfolding file_given
takes_file {s} {m} {t} r loaded form purpose place fuel pending given before after waits is at w =
    let x : List ℕ = drop (length before) before in
    let begun : State = record (state_of s.store []) { pending = None } in
    let state : state_of m.store x ≡ begun =
    waits.state x ∙ ap (λ (l : List ℕ). record (state_of s.store l) { pending = None }) (at_the_end before) in
    told_from r (given_for loaded form purpose place fuel given) (file_given loaded form pending given fuel) waits.goes_on
    (ap (λ (q : Purpose). given_for loaded form q (place_of pending) fuel given begun) (sym is)
    ∙ ap (λ (p : ℕ). given_for loaded form purpose p fuel given begun) (sym at)
    ∙ ap (λ (q : State). given_for loaded form purpose place fuel given q) (sym state)) w
