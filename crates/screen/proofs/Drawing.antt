-- What was drawn, in parts.
use Rattle.std.proofs.Common.{◌≡◌, ℕ, List, [], ◌∷◌, ◌++◌, Option, Some, None, true, false, ap, refl, subst, sym, ◌∙◌, append_assoc, append-nil}
use Rattle.std.proofs.KnownBytes.{Appends-kept, Appends-trans}
use Rattle.std.proofs.lemmas.Bool.{both_ways}
use Rattle.std.proofs.Math.Logic.{∥∥₁_map}
use Rattle.std.specs.Io.KnownBytes.{Keeps}
use Rattle.std.specs.Option.{option_map}
use Rattle.std.specs.Prelude.{IfSome, is_some}
use Rattle.terminal.specs.Passed.{PassedOn}
use Rattle.screen.specs.declared.size.Size.{Size}
use Rattle.screen.specs.Drawn.{DrewReplies, DrewSome, DrewText, Drew, lines_of, written_of}
use Rattle.screen.specs.Marked.{styles_in}
use Rattle.screen.specs.Replies.{AddsText, text_part, window_part}
use Rattle.screen.specs.Sequences.{plain}
use Rattle.screen.specs.Shown.{shown}

-- more is gathered

some_more : (size : Size) (before : ℕ) (prompt : Option (List ℕ)) (drawn written gathered more : List ℕ)
    → DrewSome size before prompt drawn written gathered
    → DrewSome size before prompt drawn (written ++ more) (gathered ++ more)
some_more size before None drawn written gathered more drew = record {
  replies = drew.replies;
  all = ap (λ (t : List ℕ). t ++ more) drew.all ∙ append_assoc (written_of drew.replies) gathered more;
  show = drew.show;
  is_plain = drew.is_plain;
}
some_more size before (Some prompt) drawn written gathered more drew = record {
  replies = drew.replies;
  text = drew.text;
  lines = drew.lines;
  all = ap (λ (t : List ℕ). t ++ more) drew.all
      ∙ append_assoc (written_of drew.replies) (drew.text ++ gathered) more
      ∙ ap (λ (t : List ℕ). written_of drew.replies ++ t) (append_assoc drew.text gathered more);
  show = drew.show;
  is_plain = drew.is_plain;
}

pub gathers : (size : Size) (before : ℕ) (prompt held_before held_after : Option (List ℕ))
    (left old new old_gathered new_gathered more : List ℕ) → new ≡ old ++ more → new_gathered ≡ old_gathered ++ more
    → ∥ Drew size before prompt held_before held_after left old old_gathered ∥₁
    → ∥ Drew size before prompt held_before held_after left new new_gathered ∥₁
gathers size before prompt held_before held_after left old new old_gathered new_gathered more told put drew =
    rw (told, put) (∥∥₁_map drew (λ d. record {
      passed = d.passed;
      added = d.added;
      drew = some_more size before prompt (d.passed ++ left) old old_gathered more d.drew;
    }))

-- what was drawn is passed on

pub passes : (size : Size) (before : ℕ) (prompt held_before held_now held_after : Option (List ℕ))
    (left fewer written gathered : List ℕ) → PassedOn held_now held_after left fewer
    → ∥ Drew size before prompt held_before held_now left written gathered ∥₁
    → ∥ Drew size before prompt held_before held_after fewer written gathered ∥₁
passes size before prompt held_before held_now held_after left fewer written gathered on drew =
    ∥∥₁_map drew (λ d. record {
      passed = d.passed ++ on.part;
      added = Appends-trans held_before held_now held_after d.passed on.part d.added on.added;
      drew = subst (λ (t : List ℕ). DrewSome size before prompt t written gathered)
          (ap (λ (t : List ℕ). d.passed ++ t) on.whole ∙ sym (append_assoc d.passed on.part fewer)) d.drew;
    })

pub rests : (size : Size) (before : ℕ) (prompt held_before held_now held_after : Option (List ℕ))
    (left written gathered : List ℕ) → Keeps held_now held_after
    → ∥ Drew size before prompt held_before held_now left written gathered ∥₁
    → ∥ Drew size before prompt held_before held_after left written gathered ∥₁
rests size before prompt held_before held_now held_after left written gathered kept drew = ∥∥₁_map drew (λ d. record {
  passed = d.passed;
  added = Appends-kept held_before held_now held_after d.passed d.added kept;
  drew = d.drew;
})

-- a text is drawn

text_drawn : (size : Size) (before : ℕ) (prompt passed drawn written gathered : List ℕ)
    → DrewReplies passed written gathered → AddsText size before gathered [] drawn prompt
    → DrewText size before prompt (passed ++ drawn) written []
text_drawn size before prompt passed drawn written gathered drew adds =
    let part : List ℕ = text_part before adds.broken (styles_in gathered) in
    record {
      replies = drew.replies;
      text = gathered;
      lines = adds.broken;
      all = drew.all ∙ ap (λ (t : List ℕ). written_of drew.replies ++ t) (sym (append-nil gathered));
      show = (adds.kept, drew.show);
      is_plain = λ status later.
          let window : List ℕ = window_part size before (shown status) prompt ++ later in
          ap plain (append_assoc passed drawn window)
          ∙ ap (λ (t : List ℕ). plain (passed ++ (t ++ window))) adds.added
          ∙ drew.is_plain (part ++ window)
          ∙ ap (λ (t : List ℕ). lines_of drew.replies ++ t) (adds.is_plain status later);
    }

-- nothing is left to pass on
none_left : (size : Size) (before : ℕ) (prompt : Option (List ℕ)) (passed left written gathered : List ℕ) → left ≡ []
    → DrewSome size before prompt (passed ++ left) written gathered
    → DrewSome size before prompt passed written gathered
none_left size before prompt passed left written gathered none =
    subst (λ (t : List ℕ). DrewSome size before prompt t written gathered)
    (ap (λ (t : List ℕ). passed ++ t) none ∙ append-nil passed)

pub draws_text : (size old_size : Size) (before old_before : ℕ) (old_prompt held_before held_after : Option (List ℕ))
    (prompt left text start drawn written gathered rest : List ℕ) → old_prompt ≡ None → left ≡ [] → text ≡ gathered
    → start ≡ [] → rest ≡ [] → AddsText size before text start drawn prompt
    → ∥ Drew old_size old_before old_prompt held_before held_after left written gathered ∥₁
    → ∥ Drew size before (Some prompt) held_before held_after drawn written rest ∥₁
draws_text size old_size before old_before old_prompt held_before held_after prompt left text start drawn written gathered rest is none same begun empty adds drew =
    let added : AddsText size before gathered [] drawn prompt =
    subst (λ (t : List ℕ). AddsText size before t [] drawn prompt) same
    (subst (λ (t : List ℕ). AddsText size before text t drawn prompt) begun adds) in
    rw empty (∥∥₁_map drew (λ d. record {
      passed = d.passed;
      added = d.added;
      drew = text_drawn size before prompt d.passed drawn written gathered
          (subst (λ (o : Option (List ℕ)). DrewSome old_size old_before o d.passed written gathered) is
          (none_left old_size old_before old_prompt d.passed left written gathered none d.drew)) added;
    }))

-- and its upper window

window_drawn : (size : Size) (before : ℕ) (prompt passed drawn written gathered status : List ℕ)
    → DrewText size before prompt passed written gathered → drawn ≡ window_part size before (shown status) prompt
    → DrewReplies (passed ++ drawn) written []
window_drawn size before prompt passed drawn written gathered status drew is =
    record {
      replies = record { text = drew.text; lines = drew.lines; answer = gathered } ∷ drew.replies;
      all = drew.all ∙ sym (append-nil (written_of drew.replies ++ (drew.text ++ gathered)));
      show = drew.show;
      is_plain = λ later.
          ap plain (append_assoc passed drawn later)
          ∙ ap (λ (t : List ℕ). plain (passed ++ (t ++ later))) is
          ∙ drew.is_plain status later
          ∙ sym (append_assoc (lines_of drew.replies) drew.lines (plain later));
    }

pub draws_window : (size old_size : Size) (before old_before : ℕ) (old_prompt held_before held_after : Option (List ℕ))
    (prompt left start drawn written gathered status rest : List ℕ) → old_prompt ≡ Some prompt → left ≡ [] → start ≡ []
    → rest ≡ [] → drawn ≡ start ++ window_part old_size old_before (shown status) prompt
    → ∥ Drew old_size old_before old_prompt held_before held_after left written gathered ∥₁
    → ∥ Drew size before None held_before held_after drawn written rest ∥₁
draws_window size old_size before old_before old_prompt held_before held_after prompt left start drawn written gathered status rest is none begun empty put drew =
    let put_all : drawn ≡ window_part old_size old_before (shown status) prompt =
    put ∙ ap (λ (t : List ℕ). t ++ window_part old_size old_before (shown status) prompt) begun in
    rw empty (∥∥₁_map drew (λ d. record {
      passed = d.passed;
      added = d.added;
      drew = window_drawn old_size old_before prompt d.passed drawn written gathered status
          (subst (λ (o : Option (List ℕ)). DrewSome old_size old_before o d.passed written gathered) is
          (none_left old_size old_before old_prompt d.passed left written gathered none d.drew)) put_all;
    }))

-- a prompt

pub no_prompt : {A : Type 0} (f : A → List ℕ) (prompt : Option A) → is_some prompt ≡ false → option_map f prompt ≡ None
no_prompt f None none = refl
no_prompt f (Some line) none = absurd (both_ways true none refl)

-- the upper window that was drawn, and the prompt
pub put_line : (size : Size) (before : ℕ) (prompt : Option (List ℕ)) (line start drawn status window : List ℕ)
    → prompt ≡ Some line → start ≡ [] → drawn ≡ start ++ window_part size before (shown status) line → status ≡ window
    → IfSome prompt (λ p. drawn ≡ window_part size before (shown window) p)
put_line size before prompt line start drawn status window is begun put same =
    let put_all : drawn ≡ window_part size before (shown window) line =
    put ∙ ap (λ (t : List ℕ). t ++ window_part size before (shown status) line) begun
    ∙ ap (λ (t : List ℕ). window_part size before (shown t) line) same in
    subst (λ (o : Option (List ℕ)). IfSome o (λ p. drawn ≡ window_part size before (shown window) p)) (sym is) put_all
