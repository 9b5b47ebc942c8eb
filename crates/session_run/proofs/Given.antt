-- What a story that asks for a name is given.
use Rattle.std.proofs.Common.{◌≡◌, ℕ, Bool, true, false, List, [], ◌∷◌, Option, None, Some, Result}
use Rattle.std.proofs.Common.{refl, ap, sym, ◌∙◌, subst}
use Rattle.std.specs.Prelude.{IfOk, IsErrAnd}
use Rattle.std.specs.Global.{Vec}
use Rattle.zcore_standard.specs.Saving.{no_name}
use Rattle.zcore_standard.specs.declared.save_form.Purpose.{Purpose}
use Rattle.zcore_standard.specs.declared.save_form.Purpose.TheVariants.{Saving, Restoring}
use Rattle.session.specs.Files.{file_on}
use Rattle.session.specs.Game.{Game, asked_for_on, given_on}
use Rattle.session_lines.specs.Answers.{IsAnswered}
use Rattle.session_lines.specs.Files.{EndsWithLook, FileAct, Logs, LogsActs, acts_for, looked, may_be_written, no_act}
use Rattle.session_lines.specs.Files.{recalled, seen_by}
use Rattle.session_lines.specs.Names.{file_name, given_after, given_name, is_name}
use Rattle.session_lines.specs.declared.answers.GivenFault.{GivenFault}
use Rattle.session_lines.proofs.Answering.{acts_none, acts_recalled, acts_same, acts_saved, acts_then}
use Rattle.session_lines.proofs.Answering.{acts_loaded, empty_acts}
use Rattle.session_lines.proofs.Answering.{name_given, no_name_given, none_given}
use Rattle.session_run.specs.Acts.{acts_on, is_own_on}
use Rattle.session_run.specs.Given.{IsAnsweredFor, IsGiven, MayWrite}
use Rattle.session_run.proofs.Replying.{plain, unanswered}

-- what is given is what the definition gives, by what is asked for
given_as : (game : Game) (lines : List (List ℕ)) (line answer : List ℕ) (purpose : Purpose)
    → asked_for_on game lines ≡ Some purpose
    → given_on game lines (record { line = line; answer = answer; refused = false }) ≡ given_name line answer
given_as game lines line answer purpose e = ap (λ p. given_after p line answer) e

-- nothing was answered
unnamed : (game : Game) (lines : List (List ℕ)) (line given : List ℕ) (purpose : Purpose)
    (log : Option (List FileAct)) (result : Result (Vec ℕ) GivenFault) → asked_for_on game lines ≡ Some purpose
    → given_name line [] ≡ given → IfOk result (λ g. g.items ≡ given) → IsGiven game lines line log log result
unnamed game lines line given purpose log result e is h = record {
  answer = [];
  given = subst (λ x. IfOk result (λ g. g.items ≡ x)) (sym (given_as game lines line [] purpose e ∙ is)) h;
  logged = subst (LogsActs (is_own_on game) log log) (sym (unanswered game lines line false))
      (acts_none (is_own_on game) log);
}

pub given_empty : (game : Game) (lines : List (List ℕ)) (line : List ℕ) (purpose : Purpose)
    (log : Option (List FileAct)) (result : Result (Vec ℕ) GivenFault) → asked_for_on game lines ≡ Some purpose
    → line ≡ [] → IfOk result (λ g. g.items ≡ []) → IsGiven game lines line log log result
given_empty game lines line purpose log result e none h =
    unnamed game lines line [] purpose log result e (ap (λ l. given_name l []) none) h

pub given_no_name : (game : Game) (lines : List (List ℕ)) (line : List ℕ) (purpose : Purpose)
    (log : Option (List FileAct)) (result : Result (Vec ℕ) GivenFault) → asked_for_on game lines ≡ Some purpose
    → (line ≡ [] → ⊥) → is_name line ≡ false → IfOk result (λ g. g.items ≡ no_name ∷ [])
    → IsGiven game lines line log log result
given_no_name game lines line purpose log result e some is h =
    unnamed game lines line (no_name ∷ []) purpose log result e (no_name_given line [] some is) h

-- the line is not taken, and nothing was done
pub given_nothing : (game : Game) (lines : List (List ℕ)) (line : List ℕ) (before after : Option (List FileAct))
    (result : Result (Vec ℕ) GivenFault) (why : GivenFault → Type 0) → IsErrAnd result why → after ≡ before
    → IsGiven game lines line before after result
given_nothing game lines line before after result why e same = record {
  answer = [];
  given = none_given result why (given_on game lines (plain line false)) e;
  logged = subst (LogsActs (is_own_on game) before after) (sym (unanswered game lines line false))
      (acts_same (is_own_on game) before after same);
}

-- it was answered before
pub given_again : (game : Game) (lines : List (List ℕ)) (line answer : List ℕ) (purpose : Purpose)
    (before after : Option (List FileAct)) (result : Result (Vec ℕ) GivenFault)
    → asked_for_on game lines ≡ Some purpose → is_name line ≡ true → Logs before after (recalled answer ∷ [])
    → IfOk result (λ g. g.items ≡ answer) → IsGiven game lines line before after result
given_again game lines line answer purpose before after result e is log h =
    let given : given_on game lines (record { line = line; answer = answer; refused = false }) ≡ answer =
    given_as game lines line answer purpose e ∙ name_given line answer is in
    record {
      answer = answer;
      given = subst (λ x. IfOk result (λ g. g.items ≡ x)) (sym given) h;
      logged = acts_recalled (is_own_on game) before after (asked_for_on game lines) (file_name line)
          (file_on game lines) (given_on game lines (record { line = line; answer = answer; refused = false }))
          (subst (λ x. Logs before after (recalled x ∷ [])) (sym given) log);
    }

-- files have answered
pub given_by_files : (game : Game) (lines : List (List ℕ)) (line : List ℕ) (purpose : Purpose)
    (before mid after : Option (List FileAct)) (result : Result (Vec ℕ) GivenFault)
    → asked_for_on game lines ≡ Some purpose → is_name line ≡ true → Logs before mid []
    → IsAnsweredFor (is_own_on game) (acts_for (Some purpose) (file_name line) (file_on game lines)) mid after result
    → IsGiven game lines line before after result
given_by_files game lines line purpose before mid after result e is none h =
    let given : given_on game lines (record { line = line; answer = h.answer; refused = false }) ≡ h.answer =
    given_as game lines line h.answer purpose e ∙ name_given line h.answer is in
    let acts : acts_on game lines (record { line = line; answer = h.answer; refused = false })
    ≡ acts_for (Some purpose) (file_name line) (file_on game lines) h.answer =
    ap (λ p. acts_for p (file_name line) (file_on game lines)
    (given_on game lines (record { line = line; answer = h.answer; refused = false }))) e
    ∙ ap (acts_for (Some purpose) (file_name line) (file_on game lines)) given in
    record {
      answer = h.answer;
      given = subst (λ x. IfOk result (λ g. g.items ≡ x)) (sym given) h.given;
      logged = acts_then (is_own_on game) before mid after []
          (acts_on game lines (record { line = line; answer = h.answer; refused = false })) ([], (no_act, none))
          (subst (LogsActs (is_own_on game) mid after) (sym acts) h.logged);
    }

-- Answers, by which files are the story's own

-- a file was read
pub loaded_for : (is_own : List ℕ → Bool) (name file : List ℕ) (before after : Option (List FileAct))
    (result : Result (Vec ℕ) GivenFault) → IsAnswered (acts_for (Some Restoring) name file) before after result
    → IsAnsweredFor is_own (acts_for (Some Restoring) name file) before after result
loaded_for is_own name file before after result h = record {
  answer = h.answer;
  given = h.given;
  logged = acts_loaded is_own before after name file h.answer h.logged;
}

-- nothing was done, and the number of a reason is given, or nothing
pub reason_for : (is_own : List ℕ → Bool) (name file : List ℕ) (before after : Option (List FileAct)) (number : ℕ)
    (result : Result (Vec ℕ) GivenFault) → acts_for (Some Saving) name file (number ∷ []) ≡ []
    → LogsActs is_own before after [] → IfOk result (λ given. given.items ≡ number ∷ [])
    → IsAnsweredFor is_own (acts_for (Some Saving) name file) before after result
reason_for is_own name file before after number result none h is = record {
  answer = number ∷ [];
  given = is;
  logged = subst (LogsActs is_own before after) (sym none) h;
}

pub none_for : (is_own : List ℕ → Bool) (purpose : Purpose) (name file : List ℕ) (before after : Option (List FileAct))
    (result : Result (Vec ℕ) GivenFault) (why : GivenFault → Type 0) → LogsActs is_own before after []
    → IsErrAnd result why → IsAnsweredFor is_own (acts_for (Some purpose) name file) before after result
none_for is_own purpose name file before after result why h e = record {
  answer = [];
  given = none_given result why [] e;
  logged = subst (LogsActs is_own before after) (sym (empty_acts purpose name file)) h;
}

-- what is there may be written over, and the file was written or not
pub saved_for : (is_own : List ℕ → Bool) (name file : List ℕ) (seen : Option (List ℕ))
    (before mid after : Option (List FileAct)) (result : Result (Vec ℕ) GivenFault)
    → Logs before mid (looked name seen ∷ []) → may_be_written is_own seen ≡ true
    → IsAnswered (acts_for (Some Saving) name file) mid after result
    → IsAnsweredFor is_own (acts_for (Some Saving) name file) before after result
saved_for is_own name file seen before mid after result look may h = record {
  answer = h.answer;
  given = h.given;
  logged = acts_saved is_own before mid after name file h.answer seen look may h.logged;
}

-- an answer is the same where the log after it is, and where it is not given
pub same_for : (is_own : List ℕ → Bool) (acts : List ℕ → List FileAct) (before mid after : Option (List FileAct))
    (result : Result (Vec ℕ) GivenFault) → after ≡ mid → IsAnsweredFor is_own acts before mid result
    → IsAnsweredFor is_own acts before after result
same_for is_own acts before mid after result e h = record {
  answer = h.answer;
  given = h.given;
  logged = subst (λ l. LogsActs is_own before l (acts h.answer)) (sym e) h.logged;
}

pub lost_for : (is_own : List ℕ → Bool) (acts : List ℕ → List FileAct) (before after : Option (List FileAct))
    (result lost : Result (Vec ℕ) GivenFault) (why : GivenFault → Type 0) → IsErrAnd lost why
    → IsAnsweredFor is_own acts before after result → IsAnsweredFor is_own acts before after lost
lost_for is_own acts before after result lost why e h =
    record { answer = h.answer; given = none_given lost why h.answer e; logged = h.logged }

-- What may be written

pub may_write_after : (is_own : List ℕ → Bool) (before after : Option (List FileAct)) (name : List ℕ)
    (seen : Option (List ℕ)) → Logs before after (looked name seen ∷ []) → may_be_written is_own seen ≡ true
    → MayWrite is_own after name
may_write_after is_own None after name seen h may = subst (λ l. MayWrite is_own l name) (sym h) tt
may_write_after is_own (Some log) after name seen h may =
    subst (λ l. MayWrite is_own l name) (sym h) (log, (seen, (refl, may)))

-- what a test has found
pub may_be : (is_own : List ℕ → Bool) (is_there : Bool) {shown head : List ℕ} {may : Bool} → shown ≡ head
    → may ≡ may_be_written is_own (seen_by is_there shown) → may ≡ true
    → may_be_written is_own (seen_by is_there head) ≡ true
may_be is_own is_there same e h =
    ap (λ bytes. may_be_written is_own (seen_by is_there bytes)) (sym same) ∙ sym e ∙ h

pub looked_at : (is_own : List ℕ → Bool) (log : Option (List FileAct)) (name : List ℕ) → MayWrite is_own log name
    → EndsWithLook log name
looked_at is_own None name h = tt
looked_at is_own (Some log) name h = (h.0, (h.1.0, h.1.1.0))
