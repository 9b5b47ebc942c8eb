-- Where an operation that prints answers M10 in the profile, it has changed nothing.
use Rattle.std.proofs.Common.{◌≡◌, ℕ, ◌+◌, List, [], ◌∷◌, ◌++◌, refl, ap, sym, ◌∙◌, Bool, true, false, cond}
use Rattle.std.proofs.Common.{Option, Some, None, Result, Ok, Err, slice_index}
use Rattle.std.specs.Prelude.{◌==◌, ◌&&◌, nat_lt}
use Rattle.std.specs.Option.{is_some}
use Rattle.ztext.specs.Bytes.{word_at}
use Rattle.ztext.specs.Reading.{Cause}
use Rattle.zcore.specs.Entries.{properties_place}
use Rattle.zcore.specs.Header.{defaults_of}
use Rattle.ztext.specs.Text.{decoded}
use Rattle.zcore.specs.declared.next.Next.{Next}
use Rattle.zcore.specs.declared.place.Fault.{Fault}
use Rattle.zcore.specs.declared.place.Fault.TheVariants as faults
use Rattle.zcore.specs.declared.place.Limit.{Limit}
use Rattle.zcore.specs.declared.place.Place.{Place}
use Rattle.zcore.specs.declared.place.Place.TheVariants as places
use Rattle.zcore.specs.Effects.{read_text, text_at, print_characters, print_address}
use Rattle.zcore.specs.Execution.{print_inline, print_return, print_character, is_output}
use Rattle.zcore.specs.Objects.{is_object, test_object, property_table, print_object}
use Rattle.zcore.specs.Parts.{fault, test, goes_on, print, returning, test_return, can_store, can_store_in, leave}
use Rattle.zcore.specs.Parts.{store_result, write_variable, pushed, push, write_local, with_local, write_global, give_back}
use Rattle.zcore.specs.Parts.{read_byte, read_word, is_readable, is_code}
use Rattle.zcore.specs.State.{Frame, State, Out, done, halt, bound, ◌>>=◌}
use Rattle.journal.specs.Recording.{Recording}
use Rattle.zcore_standard.specs.Printing.{is_refused, or_else, by_alphabets}
use Rattle.machine_frames.specs.Contents.{Contents}
use Rattle.machine_frames.specs.States.{state_of}
use Rattle.machine_frames.specs.Went.{GoesOn, Told}
use Rattle.machine_frames.specs.declared.end.End.{End}
use Rattle.machine_frames.specs.declared.end.End.TheVariants as ends
use Rattle.machine_frames.proofs.Steps.{told_as, goes_on_after, given_up_after}
use Rattle.machine_standard_texts.specs.Read.{ends_refused}

abbrev stops : {A : Type 0} → Place → State → Out A
stops x s = halt x s

abbrev refuses : {A : Type 0} → State → Out A
refuses s = halt (places.Fault faults.Character) s

-- a part that answers M10 in the same state, one that never does, and one that comes to a value in the same state
abbrev pub Still : {A : Type 0} → (State → Out A) → Type 0
Still f = (s t : State) → f s ≡ refuses t → t ≡ s

abbrev pub Never : {A : Type 0} → (State → Out A) → Type 0
Never f = (s t : State) → f s ≡ refuses t → ⊥

abbrev pub Same : {A : Type 0} → (State → Out A) → Type 0
Same {A} f = (s t : State) (a : A) → f s ≡ done a t → t ≡ s

still_never : {A : Type 0} (f : State → Out A) → Never f → Still f
still_never f n s t h = absurd (n s t h)

ended_as : {A B : Type 0} (x : Place) (s t : State) → stops {A = B} x s ≡ refuses t → stops {A = A} x s ≡ refuses t
ended_as x s t h = cc

no_value : {A : Type 0} (a : A) (s t : State) → done a s ≡ refuses t → ⊥
no_value a s t h = cc

no_done : {A : Type 0} (x : Place) (a : A) (s t : State) → stops x s ≡ done a t → ⊥
no_done x a s t h = cc

same_done : {A : Type 0} (a b : A) (s t : State) → done a s ≡ done b t → t ≡ s
same_done a b s t h = cc

-- whatever it answers, a part that stops there leaves the same state
same_halt : {A : Type 0} (x : Place) (s t : State) → stops {A = A} x s ≡ refuses t → t ≡ s
same_halt x s t h = cc

no_write : {A : Type 0} (s t : State) → stops {A = A} (places.Fault faults.Write) s ≡ refuses t → ⊥
no_write s t h = cc

no_full : {A : Type 0} (s t : State) → stops {A = A} (places.Fault faults.StackFull) s ≡ refuses t → ⊥
no_full s t h = cc

no_return : {A : Type 0} (s t : State) → stops {A = A} (places.Fault faults.Return) s ≡ refuses t → ⊥
no_return s t h = cc

no_code : {A : Type 0} (s t : State) → stops {A = A} (places.Fault faults.Code) s ≡ refuses t → ⊥
no_code s t h = cc

no_object : {A : Type 0} (s t : State) → stops {A = A} (places.Fault faults.Object) s ≡ refuses t → ⊥
no_object s t h = cc

no_read : {A : Type 0} (s t : State) → stops {A = A} (places.Fault faults.Read) s ≡ refuses t → ⊥
no_read s t h = cc

no_limit : {A : Type 0} (limit : Limit) (s t : State) → stops {A = A} (places.Limit limit) s ≡ refuses t → ⊥
no_limit limit s t h = cc

-- one of two
either : {A P : Type 0} (b : Bool) (o p q : Out A) → (o ≡ q → P) → (p ≡ q → P) → cond b o p ≡ q → P
either true o p q v w h = v h
either false o p q v w h = w h

-- one part after another

never_bound : {A B : Type 0} (o : Out A) (k : A → State → Out B) (t : State)
    → ((u : State) → o ≡ refuses u → ⊥) → ((a : A) → Never (k a)) → bound o k ≡ refuses t → ⊥
never_bound (done a s) k t v w h = w a s t h
never_bound (halt x s) k t v w h = v t (ended_as x s t h)

never_then : {A B : Type 0} (f : State → Out A) (k : A → State → Out B) → Never f → ((a : A) → Never (k a))
    → Never (f >>= k)
never_then f k v w s t h = never_bound (f s) k t (v s) w h

still_bound : {A B : Type 0} (s : State) (o : Out A) (k : A → State → Out B) (t : State)
    → ((u : State) → o ≡ refuses u → u ≡ s) → ((a : A) (u : State) → o ≡ done a u → u ≡ s)
    → ((a : A) → Still (k a)) → bound o k ≡ refuses t → t ≡ s
still_bound s (done a u) k t v e w h = w a u t h ∙ e a u refl
still_bound s (halt x u) k t v e w h = v t (ended_as x u t h)

still_then : {A B : Type 0} (f : State → Out A) (k : A → State → Out B) → Still f → Same f
    → ((a : A) → Still (k a)) → Still (f >>= k)
still_then f k v e w s t h = still_bound s (f s) k t (v s) (λ a u g. e s u a g) w h

-- Parts that print and return

never_goes_on : (at fuel : ℕ) → Never (goes_on at fuel)
never_goes_on at fuel s t h = no_value _ s t h

never_print : (cs : List ℕ) → Never (print cs)
unfolding print
never_print cs s t h = either _ _ _ _ (no_value tt _ t) (no_limit _ _ t) h

never_test_full : (b : Bool) → Never (test b faults.StackFull)
never_test_full true s t h = no_value tt s t h
never_test_full false s t h = no_full s t h

never_test_write : (b : Bool) → Never (test b faults.Write)
never_test_write true s t h = no_value tt s t h
never_test_write false s t h = no_write s t h

never_test_code : (b : Bool) → Never (test b faults.Code)
never_test_code true s t h = no_value tt s t h
never_test_code false s t h = no_code s t h

never_store_in : (variable : ℕ) (fs : List Frame) (s t : State) → can_store_in variable s fs ≡ refuses t → ⊥
never_store_in variable [] s t h = no_write s t h
never_store_in variable (f ∷ fs) s t h = either (variable == 0) _ _ _ (never_test_full _ s t) (never_test_write _ s t) h

never_can_store : (result : Option ℕ) (fs : List Frame) → Never (can_store result fs)
never_can_store None fs s t h = no_value tt s t h
never_can_store (Some variable) fs s t h = never_store_in variable fs s t h

never_returning : (fs : List Frame) (s t : State) → returning s fs ≡ refuses t → ⊥
never_returning [] s t h = no_return s t h
never_returning (f ∷ []) s t h = no_return s t h
never_returning (f ∷ g ∷ fs) s t h =
    never_bound (can_store f.result (g ∷ fs) s) _ t (never_can_store f.result (g ∷ fs) s)
    (λ _ u v. never_bound (test (is_code s.memory f.return_address) faults.Code u) _ v (never_test_code _ u)
    (λ _ x y. no_value _ x y)) h

never_test_return : Never test_return
unfolding test_return
never_test_return s t h = never_returning s.frames s t h

never_leave : Never leave
unfolding leave
never_leave s t h = no_value tt _ t h

never_pushed : (word : ℕ) (fs : List Frame) (s t : State) → pushed word s fs ≡ refuses t → ⊥
never_pushed word [] s t h = no_full s t h
never_pushed word (f ∷ fs) s t h = either _ _ _ _ (no_value tt _ t) (no_full s t) h

never_push : (word : ℕ) → Never (push word)
unfolding push
never_push word s t h = never_pushed word s.frames s t h

never_with_local : (number word : ℕ) (fs : List Frame) (s t : State) → with_local number word s fs ≡ refuses t → ⊥
never_with_local number word [] s t h = no_write s t h
never_with_local number word (f ∷ fs) s t h = either _ _ _ _ (no_value tt _ t) (no_write _ t) h

never_write_local : (number word : ℕ) → Never (write_local number word)
unfolding write_local
never_write_local number word s t h = never_with_local number word s.frames s t h

never_write_global : (variable word : ℕ) → Never (write_global variable word)
unfolding write_global
never_write_global variable word s t h = no_value tt _ t h

never_chosen : {A : Type 0} (b : Bool) (f g : State → Out A) → Never f → Never g → Never (cond b f g)
never_chosen true f g v w = v
never_chosen false f g v w = w

never_write_variable : (variable word : ℕ) → Never (write_variable variable word)
unfolding write_variable
never_write_variable variable word =
    never_chosen (variable == 0) _ _ (never_push word)
    (never_chosen (nat_lt variable 16) _ _ (never_write_local _ word) (never_write_global variable word))

never_store_result : (result : Option ℕ) (word : ℕ) → Never (store_result result word)
unfolding store_result
never_store_result None word = λ s t h. no_value tt s t h
never_store_result (Some variable) word = never_write_variable variable word

never_give_back : (fuel word : ℕ) → Never (give_back fuel word)
unfolding give_back
never_give_back fuel word =
    never_then _ _ never_test_return (λ caller.
    never_then _ _ never_leave (λ _.
    never_then _ _ (never_store_result caller.1 word) (λ _. never_goes_on caller.0 fuel)))

-- Texts

still_read_text : (r : Result (List ℕ × ℕ) Cause) → Still (read_text r)
still_read_text (Ok text) s t h = absurd (no_value text s t h)
still_read_text (Err cause) s t h = same_halt _ s t h

same_read_text : (r : Result (List ℕ × ℕ) Cause) → Same (read_text r)
same_read_text (Ok text) s t a h = same_done text a s t h
same_read_text (Err cause) s t a h = absurd (no_done _ a s t h)

still_text_at : (address : ℕ) → Still (text_at address)
unfolding text_at
still_text_at address s t h = still_read_text (decoded s.memory address) s t h

same_text_at : (address : ℕ) → Same (text_at address)
unfolding text_at
same_text_at address s t a h = same_read_text (decoded s.memory address) s t a h

-- The operations

never_characters : (here : Next) (after : ℕ) (cs : List ℕ) → Never (print_characters here after cs)
unfolding print_characters
never_characters here after cs = never_then _ _ (never_print cs) (λ _. never_goes_on after here.fuel)

pub still_address : (here : Next) (after address : ℕ) → Still (print_address here after address)
unfolding print_address
still_address here after address = still_then _ _ (still_text_at address) (same_text_at address)
    (λ text. still_never _ (never_characters here after text.0))

pub still_inline : (here : Next) (after : ℕ) → Still (print_inline here after)
unfolding print_inline
still_inline here after = still_then _ _ (still_text_at after) (same_text_at after)
    (λ text. still_never _ (never_then _ _ (never_print text.0) (λ _. never_goes_on text.1 here.fuel)))

pub still_return : (here : Next) (after : ℕ) → Still (print_return here after)
unfolding print_return
still_return here after = still_then _ _ (still_text_at after) (same_text_at after)
    (λ text. still_never _
    (never_then _ _ never_test_return (λ _.
    never_then _ _ (never_print (text.0 ++ 13 ∷ [])) (λ _. never_give_back here.fuel 1))))

still_test : (b : Bool) (cause : Fault) → Still (test b cause)
still_test true cause s t h = absurd (no_value tt s t h)
still_test false cause s t h = same_halt _ s t h

same_test : (b : Bool) (cause : Fault) → Same (test b cause)
same_test true cause s t a h = same_done tt a s t h
same_test false cause s t a h = absurd (no_done _ a s t h)

pub still_character : (here : Next) (after character : ℕ) → Still (print_character here after character)
unfolding print_character
still_character here after character =
    still_then _ _ (still_test (is_output character) faults.Character) (same_test (is_output character) faults.Character)
    (λ _. still_never _ (never_characters here after (character ∷ [])))

still_test_object : (object : ℕ) → Still (test_object object)
unfolding test_object
still_test_object object s t h = still_test (is_object s.memory object) faults.Object s t h

same_test_object : (object : ℕ) → Same (test_object object)
unfolding test_object
same_test_object object s t a h = same_test (is_object s.memory object) faults.Object s t a h

still_table : (object : ℕ) → Still (property_table object)
unfolding property_table read_word
still_table object s t h = absurd (either _ _ _ _ (no_value _ s t) (no_read s t) h)

same_word : (at : ℕ) → Same (read_word at)
unfolding read_word
same_word at s t a h = either (is_readable s.memory at && is_readable s.memory (at + 1)) (done (word_at s.memory at) s)
    (fault faults.Read s) (done a t) (same_done (word_at s.memory at) a s t)
    (λ e. absurd (no_done (places.Fault faults.Read) a s t e)) h

same_table : (object : ℕ) → Same (property_table object)
unfolding property_table
same_table object s t a h = same_word (properties_place (defaults_of s.memory) object) s t a h

still_byte : (at : ℕ) → Still (read_byte at)
unfolding read_byte
still_byte at s t h = absurd (either _ _ _ _ (no_value _ s t) (no_read s t) h)

same_byte : (at : ℕ) → Same (read_byte at)
unfolding read_byte
same_byte at s t a h = either (is_readable s.memory at) (done (slice_index s.memory at) s) (fault faults.Read s) (done a t)
    (same_done (slice_index s.memory at) a s t) (λ e. absurd (no_done (places.Fault faults.Read) a s t e)) h

still_chosen : {A : Type 0} (b : Bool) (f g : State → Out A) → Still f → Still g → Still (cond b f g)
still_chosen true f g v w = v
still_chosen false f g v w = w

pub still_object : (here : Next) (after object : ℕ) → Still (print_object here after object)
unfolding print_object
still_object here after object =
    still_then _ _ (still_test_object object) (same_test_object object) (λ _.
    still_then _ _ (still_table object) (same_table object) (λ table.
    still_then _ _ (still_byte table) (same_byte table) (λ words.
    still_chosen (words == 0) _ _ (still_never _ (never_goes_on after here.fuel))
    (still_address here after (table + 1)))))

-- What is done then

stopped : (place : Place) (s : State) → ends_refused {A = Next} (Err (ends.Stop place)) ≡ false
    → is_refused (stops {A = Next} place s) ≡ false
stopped (places.Fault faults.Character) s e = absurd (cc)
stopped (places.Fault _) s e = refl
stopped _ s e = refl

pub kept : {s t : Recording Contents} {x y : List ℕ} (r : Result Next End) (f g : State → Out Next)
    → ends_refused r ≡ false → Told r s x t y f → Told r s x t y (or_else f g)
kept {s} {x = x} (Ok next) f g e w = told_as (Ok next) (or_else f g)
    (ap (λ (b : Bool). cond b (g (state_of s.store x)) (f (state_of s.store x))) (ap is_refused w.told.1)) w
kept (Err ends.Memory) f g e w = record { told = w.told }
kept {s} {t} {x} {y} (Err (ends.Stop place)) f g e w = told_as (Err (ends.Stop place)) (or_else f g)
    (ap (λ (b : Bool). cond b (g (state_of s.store x)) (f (state_of s.store x)))
    (ap is_refused w.told.1 ∙ stopped place (state_of t.store y) e)) w

-- another way, from the same state
anew_by : {s t u : Recording Contents} {x y z : List ℕ} (q : Result Next End) (f g : State → Out Next)
    → state_of t.store y ≡ state_of s.store x → is_refused (f (state_of s.store x)) ≡ true → GoesOn s t
    → Told q t y u z g → Told q s x u z (or_else f g)
anew_by {s} {t} {u} {x} {y} {z} (Ok next) f g same refused on v = record {
  told = (
    goes_on_after on v.told.0,
    ap (λ (b : Bool). cond b (g (state_of s.store x)) (f (state_of s.store x))) refused ∙ ap g (sym same) ∙ v.told.1,
  );
}
anew_by (Err ends.Memory) f g same refused on v = record { told = given_up_after on v.told }
anew_by {s} {t} {u} {x} {y} {z} (Err (ends.Stop place)) f g same refused on v = record {
  told = (
    goes_on_after on v.told.0,
    ap (λ (b : Bool). cond b (g (state_of s.store x)) (f (state_of s.store x))) refused ∙ ap g (sym same) ∙ v.told.1,
  );
}

pub anew : {s t u : Recording Contents} {x y z : List ℕ} (r q : Result Next End) (f g : State → Out Next) → Still f
    → ends_refused r ≡ true → Told r s x t y f → Told q t y u z g → Told q s x u z (or_else f g)
anew (Ok next) q f g still e w v = absurd (cc)
anew (Err ends.Memory) q f g still e w v = absurd (cc)
anew {s} {x = x} (Err (ends.Stop (places.Fault faults.Character))) q f g still e w v =
    let same = still _ _ w.told.1 in
    let refused : is_refused (f (state_of s.store x)) ≡ true = ap is_refused w.told.1 in
    anew_by q f g same refused w.told.0 v
anew (Err (ends.Stop _)) q f g still e w v = absurd (cc)

-- the turn goes on from there
pub refused_on : {s t : Recording Contents} {x y : List ℕ} {f : State → Out Next} (r : Result Next End)
    → ends_refused r ≡ true → Told r s x t y f → GoesOn s t
refused_on (Ok next) e w = w.told.0
refused_on (Err ends.Memory) e w = absurd (cc)
refused_on (Err (ends.Stop place)) e w = w.told.0

-- by the default alphabets, and by the story's own

pub by_default : {s t : Recording Contents} {x y : List ℕ} (r : Result Next End) (own : Option (List ℕ))
    (f g : State → Out Next) → is_some own ≡ false → Told r s x t y (or_else f g)
    → Told r s x t y (by_alphabets own f g)
by_default r None f g e w = w
by_default r (Some alphabets) f g e w = absurd (cc)

pub by_own : {s t : Recording Contents} {x y : List ℕ} (r : Result Next End) (own : Option (List ℕ))
    (f g : State → Out Next) → is_some own ≡ true → Told r s x t y g → Told r s x t y (by_alphabets own f g)
by_own r None f g e w = absurd (cc)
by_own r (Some alphabets) f g e w = w
