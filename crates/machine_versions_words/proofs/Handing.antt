-- What is given to a store that waits.
use Rattle.std.proofs.Common.{◌≡◌, ℕ, List, [], ap, sym, ◌∙◌, subst, refl, true, false, None, Ok, Err, Result}
use Rattle.std.specs.Prelude.{◌==◌, if◌then◌else◌}
use Rattle.std.proofs.lemmas.Bool.{eq-eqb}
use Rattle.journal.specs.Recording.{Recording}
use Rattle.zcore.specs.declared.next.Next.{Next}
use Rattle.zcore.specs.Parts.{store_result, goes_on}
use Rattle.zcore.specs.State.{Pending, State, Out, ◌>>=◌}
use Rattle.zcore_standard.specs.Reading.{result_given, standard_given, can_take}
use Rattle.zcore_versions.specs.Reading.{any_given, can_be_given, can_take_old, memory_given, older_given}
use Rattle.zcore_versions.specs.Versions.{Story, is_old}
use Rattle.machine_frames.specs.Contents.{Contents, memory_of}
use Rattle.machine_frames.specs.States.{state_of, IsSound}
use Rattle.machine_frames.specs.Went.{GoesOn, Went, Told}
use Rattle.machine_frames.specs.declared.end.End.{End}
use Rattle.machine_frames.specs.declared.end.End.TheVariants as ends
use Rattle.machine_frames.proofs.Steps.{goes_on_still, goes_on_after, given_up_after}
use Rattle.machine_lines.specs.Lines.{Filled, WaitsNoMore}
use Rattle.machine_standard_words.specs.Taking.{CanBeGiven, TakesGiven}
use Rattle.machine_standard_words.proofs.Giving.{given_as}
use Rattle.machine_versions_words.specs.Taking.{CanBeGivenBy, CanBeGivenOlder, TakesGivenBy, TakesOlder}

-- by the version

pub waits_older : (story : Story) (s : Contents) → is_old story.version ≡ true → CanBeGivenBy story s
    → CanBeGivenOlder s
waits_older story s old w = record {
  pending = w.pending;
  waits = w.waits;
  right = sym (ap (λ b. if b then can_take_old (memory_of s) w.pending.text_buffer w.pending.parse_buffer
      else can_take (memory_of s) w.pending.text_buffer w.pending.parse_buffer) old) ∙ w.right;
}

pub waits_later : (story : Story) (s : Contents) → is_old story.version ≡ false → CanBeGivenBy story s → CanBeGiven s
waits_later story s late w = record {
  pending = w.pending;
  waits = w.waits;
  right = sym (ap (λ b. if b then can_take_old (memory_of s) w.pending.text_buffer w.pending.parse_buffer
      else can_take (memory_of s) w.pending.text_buffer w.pending.parse_buffer) late) ∙ w.right;
}

pub told_older : (R : Result Next End) (r t : Recording Contents) (story : Story) (line : List ℕ) (fuel : ℕ)
    → is_old story.version ≡ true → TakesOlder story R r t line fuel → TakesGivenBy story R r t line fuel
told_older R r t story line fuel old w = λ p h.
    let e : any_given story ≡ older_given story = rw old refl in
    subst (λ f. Told R r [] t [] (f p line fuel)) (sym e) (w p h)

pub told_later : (R : Result Next End) (r t : Recording Contents) (story : Story) (line : List ℕ) (fuel : ℕ)
    → is_old story.version ≡ false → TakesGiven story.loaded R r t line fuel → TakesGivenBy story R r t line fuel
told_later R r t story line fuel late w = λ p h.
    let e : any_given story ≡ standard_given story.loaded = rw late refl in
    subst (λ f. Told R r [] t [] (f p line fuel)) (sym e) (w p h)

-- What a key leaves

pub key_filled : (s : Recording Contents) (story : Story) (text parse : ℕ) (line : List ℕ) → IsSound s.store → text ≡ 0
    → Filled s s (memory_given story text parse line (memory_of s.store))
key_filled s story text parse line sound none =
    let same : (text == 0) ≡ true = eq-eqb text 0 none in
    record { goes_on = goes_on_still s sound; state = λ x. rw same refl }

-- What the line leads to

pub given_told : {R : Result Next End} {r m s t : Recording Contents} (story : Story) (p : Pending) (line : List ℕ)
    (text parse word fuel : ℕ) → text ≡ p.text_buffer → parse ≡ p.parse_buffer
    → word ≡ result_given story.loaded.characters text line
    → Filled r m (memory_given story text parse line (memory_of r.store)) → WaitsNoMore m s
    → Went R s t (store_result p.result word >>= λ _. goes_on p.return_address fuel)
    → Told R r [] t [] (older_given story p line fuel)
unfolding older_given
given_told {R} {r} {m} {s} {t} story p line text parse word fuel is_text is_parse is_word filled waits w =
    let k = memory_of r.store in
    let goes : ℕ → State → Out Next = λ n. store_result p.result n >>= λ _. goes_on p.return_address fuel in
    let e : state_of s.store []
    ≡ record (state_of r.store []) { memory = memory_given story text parse line k; pending = None } =
    waits.state [] ∙ ap (λ (x : State). record x { pending = None }) (filled.state []) in
    let memory : memory_given story text parse line k ≡ memory_given story p.text_buffer p.parse_buffer line k =
    ap (λ b. memory_given story text b line k) is_parse ∙ ap (λ b. memory_given story b p.parse_buffer line k) is_text in
    let result : word ≡ result_given story.loaded.characters p.text_buffer line =
    is_word ∙ ap (λ b. result_given story.loaded.characters b line) is_text in
    given_as (older_given story p line fuel) (goes word)
    (goes_on_after filled.goes_on waits.goes_on)
    (ap (λ n. goes n (record (state_of r.store []) {
      memory = memory_given story p.text_buffer p.parse_buffer line k;
      pending = None;
    })) (sym result)
    ∙ ap (goes word)
    (sym (e ∙ ap (λ (l : List ℕ). record (state_of r.store []) { memory = l; pending = None }) memory))) w
