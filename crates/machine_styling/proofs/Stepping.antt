-- The styles after a step, by what was known before it.
use Rattle.std.proofs.Common.{◌≡◌, ◌∙◌, ◌≤◌, ℕ, Bool, true, false, List, [], ◌∷◌, length, take, ap, subst}
use Rattle.std.proofs.Common.{sym, refl, arith, Option, Some, None}
use Rattle.std.specs.Prelude.{if◌then◌else◌, min, OnOk, Result, Ok, Err}
use Rattle.std.proofs.lemmas.List.{length-take}
use Rattle.zcore.specs.declared.next.Next.{Next}
use Rattle.zcore.specs.declared.place.Place.{Place}
use Rattle.zcore.specs.declared.place.Place.TheVariants as places
use Rattle.zcore.specs.State.{State}
use Rattle.zcore_standard.specs.declared.operations.StandardOperation.{StandardOperation}
use Rattle.zcore_standard.specs.declared.streams.Stream.{Stream}
use Rattle.zcore_standard.specs.declared.windows.Upper.{Upper}
use Rattle.zcore_standard.specs.Place.{Here}
use Rattle.zcore_standard.specs.Streams.{heard, heard_of}
use Rattle.zcore_versions.specs.Versions.{Story}
use Rattle.machine_frames.specs.declared.end.End.{End}
use Rattle.machine_frames.specs.declared.end.End.TheVariants as causes
use Rattle.machine_picture.specs.Picture.{operation_at}
use Rattle.machine_standard_windows.specs.TurnState.{place}
use Rattle.machine_standard_windows.specs.declared.turn_state.TurnState.{TurnState}
use Rattle.machine_picture.specs.Represented.{IsShown, left_of}
use Rattle.machine_picture.specs.Styles.{Styles, added, after_last, after_step_to, as_long, plain}
use Rattle.machine_picture.specs.Styles.{part_shown, stopped, waiting, waits}
use Rattle.machine_picture.specs.declared.lines.Part.{Part}
use Rattle.machine_picture.specs.declared.lines.Shown.{Shown}
use Rattle.machine_styling.specs.Restyling.{Changes, IsBefore, IsFitting, Restyles, StaysAt}
use Rattle.machine_styling.specs.declared.before.Before.{Before}
use Rattle.machine_styling.specs.declared.before.Change.{Change}
use Rattle.machine_styling.specs.declared.before.Change.TheVariants as changes
use Rattle.machine_styling.proofs.Changing.{made, waits_now}

-- Before a step

pub before_as : (o : Option StandardOperation) (story : Story) (here : Here) (s : State) (style : ℕ) (before : Before)
    → operation_at story s.memory here.next.program_counter ≡ o
    → before.added ≡ added story.version.number o s.memory style → Changes o here s before.change
    → IsBefore story here s style before
before_as o story here s style before e adds does = record {
  added = adds ∙ ap (λ x. added story.version.number x s.memory style) (sym e);
  change = subst (λ x. Changes x here s before.change) (sym e) does;
}

-- A step that goes on

goes_on : (story : Story) (here next : Here) (s : State) (to : Option Upper) (text : List ℕ) (p m q : Styles)
    (before : Before) → next.upper ≡ to → IsBefore story here s p.style before
    → m ≡ made (operation_at story s.memory here.next.program_counter) here s to text p
    → q ≡ record m { each = as_long (length text) before.added m.each } → q ≡ after_step_to story here s next text p
unfolding after_step_to
goes_on story here next s to text p m q before is known made_so put =
    let o = operation_at story s.memory here.next.program_counter in
    put ∙ ap (λ (x : Styles). record x { each = as_long (length text) before.added x.each }) made_so
    ∙ ap (λ n. record (made o here s to text p) { each = as_long (length text) n (made o here s to text p).each })
    known.added
    ∙ ap (λ u. record (made o here s u text p) {
      each = as_long (length text) (added story.version.number o s.memory p.style) (made o here s u text p).each;
    })
    (sym is)

pub goes_on_so : {E : Type 0} (result : Result (Unit {0}) E) (story : Story) (here next : Here) (s : State)
    (to : Option Upper) (text : List ℕ) (p m q : Styles) (before : Before) → next.upper ≡ to
    → IsBefore story here s p.style before
    → m ≡ made (operation_at story s.memory here.next.program_counter) here s to text p
    → OnOk result (q ≡ record m { each = as_long (length text) before.added m.each })
    → OnOk result (q ≡ after_step_to story here s next text p)
goes_on_so (Ok x) story here next s to text p m q before is known made_so put =
    goes_on story here next s to text p m q before is known made_so put
goes_on_so (Err e) story here next s to text p m q before is known made_so put = tt

-- A step that ends the turn

ends_by : (b : Bool) (one other : Styles) → b ≡ false → other ≡ (if b then one else other)
ends_by true one other e = absurd (cc)
ends_by false one other e = refl

waits_by : (b : Bool) (one other : Styles) → b ≡ true → one ≡ (if b then one else other)
waits_by true one other e = refl
waits_by false one other e = absurd (cc)

-- the styles where a step leaves the machine waiting
abbrev waiting_there : Here → State → List ℕ → Styles → Styles
waiting_there here s text p = record p {
  each = waiting here s.text text p.each;
  part = part_shown here.upper here.standard_state.window (heard here.streams s.text);
}

ends : (story : Story) (here : Here) (s : State) (end : Place) (text : List ℕ) (long : ℕ) (p q : Styles)
    (before : Before) → length text ≡ long → IsBefore story here s p.style before
    → waits (operation_at story s.memory here.next.program_counter) end ≡ false
    → q ≡ record p { each = take (length (heard_of here text)) (as_long long before.added p.each) }
    → q ≡ after_last story here s end text p
unfolding after_last
ends story here s end text long p q before e known none put =
    let o = operation_at story s.memory here.next.program_counter in
    let number = story.version.number in
    put
    ∙ ap (λ n. record p { each = take (length (heard_of here text)) (as_long n before.added p.each) }) (sym e)
    ∙ ap (λ n. record p { each = take (length (heard_of here text)) (as_long (length text) n p.each) }) known.added
    ∙ ends_by (waits o end) (waiting_there here s text p) (record p { each = stopped number o here s text p }) none

pub ends_so : {E : Type 0} (result : Result (Unit {0}) E) (story : Story) (here : Here) (s : State) (end : Place)
    (text : List ℕ) (long : ℕ) (p q : Styles) (before : Before) → length text ≡ long
    → IsBefore story here s p.style before → waits (operation_at story s.memory here.next.program_counter) end ≡ false
    → OnOk result (q ≡ record p { each = take (length (heard_of here text)) (as_long long before.added p.each) })
    → OnOk result (q ≡ after_last story here s end text p)
ends_so (Ok x) story here s end text long p q before e known none put =
    ends story here s end text long p q before e known none put
ends_so (Err x) story here s end text long p q before e known none put = tt

pub heard_short : (streams : List Stream) (text : List ℕ) → length (heard streams text) ≤ length text
heard_short [] text = omega arith
heard_short (stream ∷ streams) text =
    omega (arith, heard_short streams (take stream.from text), length-take stream.from text)

pub waits_there : (story : Story) (here : Here) (s : State) (text : List ℕ) (long : ℕ) (p q : Styles) (shown : Shown)
    → length text ≡ long → length p.each ≡ length s.text
    → Changes (operation_at story s.memory here.next.program_counter) here s (changes.Wait shown)
    → IsShown here.upper here.standard_state.window (heard here.streams s.text) shown
    → q ≡ record p { each = as_long long plain (left_of shown p.each); part = shown.part }
    → q ≡ after_last story here s places.Waiting text p
unfolding after_last
waits_there story here s text long p q shown e same does is put =
    let o = operation_at story s.memory here.next.program_counter in
    let bare = heard here.streams s.text in
    let short : length bare ≤ length p.each = omega (arith, heard_short here.streams s.text, same) in
    put ∙ ap (λ n. record p { each = as_long n plain (left_of shown p.each); part = shown.part }) (sym e)
    ∙ ap (λ (l : List ℕ). record p { each = as_long (length text) plain l; part = shown.part }) (is.left p.each short)
    ∙ ap (λ (x : Part). record p { each = waiting here s.text text p.each; part = x }) is.part
    ∙ waits_by (waits o places.Waiting) (waiting_there here s text p)
    (record p { each = stopped story.version.number o here s text p }) (waits_now o here s shown does)

shown_of : (o : Option StandardOperation) (here : Here) (s : State) (shown : Shown)
    → Changes o here s (changes.Wait shown)
    → IsShown here.upper here.standard_state.window (heard here.streams s.text) shown
shown_of None here s shown h = absurd (cc)
shown_of (Some operation) here s shown h = h.1

-- a read that waits
pub waits_so : {E : Type 0} (result : Result (Unit {0}) E) (story : Story) (here : Here) (s : State) (text : List ℕ)
    (long : ℕ) (p q : Styles) (shown : Shown) → length text ≡ long → length p.each ≡ length s.text
    → Changes (operation_at story s.memory here.next.program_counter) here s (changes.Wait shown)
    → OnOk result (q ≡ record p { each = as_long long plain (left_of shown p.each); part = shown.part })
    → OnOk result (q ≡ after_last story here s places.Waiting text p)
waits_so (Ok x) story here s text long p q shown e same does put =
    waits_there story here s text long p q shown e same does
    (shown_of (operation_at story s.memory here.next.program_counter) here s shown does) put
waits_so (Err x) story here s text long p q shown e same does put = tt

-- what it shows lies in the text
pub fits : (o : Option StandardOperation) (here : Here) (s : State) (change : Change) (long : ℕ) → long ≡ length s.text
    → Changes o here s change → IsFitting change long
fits o here s changes.None long e h = tt
fits o here s changes.Restart long e h = tt
fits o here s (changes.Choose value) long e h = tt
fits o here s (changes.Move line) long e h = tt
fits o here s (changes.Wait shown) long e h =
    let is = shown_of o here s shown h in
    (omega (arith, is.kept, heard_short here.streams s.text, e), is.within)

-- A step that ends the turn leaves what goes with its place.
pub restyles_end : {E : Type 0} (result : Result (Unit {0}) E) (story : Story) (was turn : TurnState) (next : Next)
    (s : State) (end : Place) (text : List ℕ) (p q : Styles) (before : Before) → turn ≡ was
    → IsBefore story (place was next) s p.style before
    → (IsBefore story (place turn next) s p.style before
    → OnOk result (q ≡ after_last story (place turn next) s end text p))
    → OnOk result (q ≡ after_last story (place was next) s end text p)
restyles_end result story was turn next s end text p q before e known ends =
    subst (λ (t : TurnState). OnOk result (q ≡ after_last story (place t next) s end text p)) e
    (ends (subst (λ (t : TurnState). IsBefore story (place t next) s p.style before) (sym e) known))

-- What a step has come to

pub restyles_goes : {E : Type 0} (result : Result (Unit {0}) E) (done : Result Next End) (to : Next) (story : Story)
    (here : Here) (s : State) (turn : TurnState) (text : List ℕ) (p q : Styles) → done ≡ Ok to
    → OnOk result (q ≡ after_step_to story here s (place turn to) text p)
    → OnOk result (Restyles done story here s turn text p q)
restyles_goes result done to story here s turn text p q e h =
    subst (λ (d : Result Next End). OnOk result (Restyles d story here s turn text p q)) (sym e) h

pub restyles_stops : {E : Type 0} (result : Result (Unit {0}) E) (done : Result Next End) (cause : End) (end : Place)
    (story : Story) (was turn : TurnState) (next : Next) (s : State) (text : List ℕ) (p q : Styles) (before : Before)
    → done ≡ Err cause → cause ≡ causes.Stop end → StaysAt done was turn
    → IsBefore story (place was next) s p.style before
    → (IsBefore story (place turn next) s p.style before
    → OnOk result (q ≡ after_last story (place turn next) s end text p))
    → OnOk result (Restyles done story (place was next) s turn text p q)
restyles_stops result done cause end story was turn next s text p q before e f stays known ended =
    let is : done ≡ Err (causes.Stop end) = e ∙ ap (λ (x : End). Err x) f in
    subst (λ (d : Result Next End). StaysAt d was turn → OnOk result (Restyles d story (place was next) s turn text p q))
    (sym is) (λ same. restyles_end result story was turn next s end text p q before same known ended) stays

-- How much is heard

pub heard_long : (there : ℕ) (text bare : List ℕ) → there ≤ length text → take there text ≡ bare → there ≡ length bare
heard_long there text bare le e = omega (arith, le, length-take there text, ap length e)

pub heard_shown : (from heard_there : ℕ) (text bare : List ℕ) → heard_there ≤ length text → take heard_there text ≡ bare
    → min heard_there from ≡ length (take from bare)
heard_shown from heard_there text bare le e =
    let n : length (take heard_there text) ≡ heard_there = omega (arith, le, length-take heard_there text) in
    omega (arith, length-take from bare, sym (ap length e) ∙ n)
