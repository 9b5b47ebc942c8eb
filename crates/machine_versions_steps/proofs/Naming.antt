-- What is printed of a name, and a store after a turn that was given up.
use Rattle.std.proofs.Common.{◌≡◌, ℕ, List, [], ◌∷◌, ◌++◌, length, take, drop, refl, ap, sym, ◌∙◌, subst, append-nil, Result, Ok, Err}
use Rattle.journal.specs.Recording.{Recording}
use Rattle.machine_frames.specs.Contents.{Contents}
use Rattle.zcore.specs.declared.next.Next.{Next}
use Rattle.zcore.specs.declared.place.Place.{Place}
use Rattle.zcore.specs.State.{State, Out, done, halt}
use Rattle.machine_frames.specs.declared.end.End.{End}
use Rattle.machine_frames.specs.declared.end.End.TheVariants as ends
use Rattle.machine_frames.specs.States.{state_of}
use Rattle.machine_frames.specs.Went.{ToldBy}
use Rattle.zcore_versions.specs.SmallObjects.{print_object}
use Rattle.zcore_versions.specs.StatusLine.{nowhere, on_one_line, printed, short_name}
use Rattle.zcore_versions.specs.Versions.{Story}

pub name_printed : (story : Story) (s t : State) (object : ℕ) (next : Next)
    → print_object story nowhere 0 object (record s { text = [] }) ≡ done next t → short_name story s object ≡ t.text
unfolding short_name
name_printed story s t object next e = ap printed e

pub name_unread : (story : Story) (s t : State) (object : ℕ) (place : Place)
    → print_object story nowhere 0 object (record s { text = [] }) ≡ halt place t → short_name story s object ≡ []
unfolding short_name
name_unread story s t object place e = ap printed e

pub none_left : (xs : List ℕ) → drop (length xs) xs ≡ []
none_left [] = refl
none_left (x ∷ xs) = none_left xs

pub all_taken : (xs : List ℕ) → take (length xs) xs ≡ xs
all_taken [] = refl
all_taken (x ∷ xs) = ap (λ ys. x ∷ ys) (all_taken xs)

-- the store of a turn that is given up is that of its beginning
pub given_up_is : (old new : Recording Contents) → new.store.cells ≡ old.store.cells → new.store.fixed ≡ old.store.fixed
    → new.beginning ≡ old.beginning → new.kept ≡ old.kept → new ≡ old
given_up_is old new cells fixed beginning kept =
    let r : List ℕ → List ℕ → List ℕ → List ℕ → Recording Contents =
    λ a b c d. record { store = record { cells = a; fixed = b }; beginning = c; kept = d } in
    ap (λ a. r a new.store.fixed new.beginning new.kept) cells
    ∙ ap (λ b. r old.store.cells b new.beginning new.kept) fixed
    ∙ ap (λ c. r old.store.cells old.store.fixed c new.kept) beginning
    ∙ ap (λ d. r old.store.cells old.store.fixed old.beginning d) kept

-- whatever a part that prints came to, it keeps the beginning of the turn
pub beginning_kept : {A : Type 0} (r : Result A End) (old mid : Recording Contents) (was now : List ℕ) (f : State → Out A)
    → ToldBy r old was mid now f → (mid.beginning ≡ old.beginning) × (mid.store.fixed ≡ old.store.fixed)
beginning_kept (Ok a) old mid was now f h = (h.0.beginning, h.0.fixed)
beginning_kept (Err ends.Memory) old mid was now f h = (h.beginning, h.fixed)
beginning_kept (Err (ends.Stop place)) old mid was now f h = (h.0.beginning, h.0.fixed)

-- a part that prints was stopped: so it is by its definition
pub stopped : {A : Type 0} (r : Result A End) (end : End) (place : Place) (old mid : Recording Contents)
    (was now : List ℕ) (f : State → Out A) → r ≡ Err end → end ≡ ends.Stop place → ToldBy r old was mid now f
    → f (state_of old.store was) ≡ halt place (state_of mid.store now)
stopped {A} r end place old mid was now f e is h =
    let told : ToldBy (Err (ends.Stop place)) old was mid now f =
    subst (λ (x : Result A End). ToldBy x old was mid now f) (e ∙ ap (λ x. Err x) is) h in
    told.1

-- the text after a name was added, and after one that cannot be read
pub name_added : (story : Story) (old mid : Contents) (was now after : List ℕ) (object start : ℕ) (next : Next)
    → start ≡ length was
    → print_object story nowhere 0 object (state_of old (drop start was)) ≡ done next (state_of mid (drop start now))
    → take start now ≡ take start was → after ≡ take start now ++ on_one_line (drop start now)
    → after ≡ was ++ on_one_line (short_name story (state_of old []) object)
name_added story old mid was now after object start next size told front is =
    let none : [] ≡ drop start was = sym (ap (λ k. drop k was) size ∙ none_left was) in
    let all : take start was ≡ was = ap (λ k. take k was) size ∙ all_taken was in
    is ∙ ap (λ l. l ++ on_one_line (drop start now)) (front ∙ all)
    ∙ ap (λ l. was ++ on_one_line l)
    (sym (name_printed story (state_of old []) (state_of mid (drop start now)) object next
    (ap (λ t. print_object story nowhere 0 object (state_of old t)) none ∙ told)))

pub no_name_added : (story : Story) (old mid : Contents) (was now after : List ℕ) (object start : ℕ) (place : Place)
    → start ≡ length was
    → print_object story nowhere 0 object (state_of old (drop start was)) ≡ halt place (state_of mid (drop start now))
    → take start now ≡ take start was → after ≡ take start now
    → after ≡ was ++ on_one_line (short_name story (state_of old []) object)
no_name_added story old mid was now after object start place size told front is =
    let none : [] ≡ drop start was = sym (ap (λ k. drop k was) size ∙ none_left was) in
    let all : take start was ≡ was = ap (λ k. take k was) size ∙ all_taken was in
    is ∙ front ∙ all ∙ sym (append-nil was)
    ∙ ap (λ l. was ++ on_one_line l)
    (sym (name_unread story (state_of old []) (state_of mid (drop start now)) object place
    (ap (λ t. print_object story nowhere 0 object (state_of old t)) none ∙ told)))
