-- What is answered for the name of a saved game.
use Rattle.std.proofs.Common.{zero, suc, Bool}
use Rattle.std.proofs.Common.{◌≡◌, ℕ, true, false, List, [], ◌∷◌, ◌++◌, Option, None, Some, Result, Ok, Err}
use Rattle.std.proofs.Common.{refl, ap, sym, ◌∙◌, subst, append-nil, append_assoc, length, ◌==◌, if◌then◌else◌}
use Rattle.std.proofs.Common.{eqb-true}
use Rattle.std.proofs.lemmas.List.{nil_from_length}
use Rattle.std.specs.Prelude.{IfOk, IsErrAnd}
use Rattle.std.specs.Global.{Vec}
use Rattle.std.specs.Option.{option_map}
use Rattle.zcore_standard.specs.Saving.{no_name}
use Rattle.zcore_standard.specs.declared.save_form.Purpose.{Purpose}
use Rattle.zcore_standard.specs.declared.save_form.Purpose.TheVariants.{Saving, Restoring}
use Rattle.session_lines.specs.Answers.{IsAnswered}
use Rattle.session_lines.specs.Files.{AreLogged, EndsWithLook, FileAct, Logs, LogsActs, acts_for, may_be_written}
use Rattle.session_lines.specs.Files.{a_look, a_read, a_recall, a_script, a_write, looked, no_act, read, recalled}
use Rattle.session_lines.specs.Files.{scripted, wrote}
use Rattle.session_lines.specs.Names.{given_name, is_name}
use Rattle.session_lines.specs.declared.answers.GivenFault.{GivenFault}

pub logs_none : (log : Option (List FileAct)) → Logs log log []
logs_none None = refl
logs_none (Some acts) = ap (λ (l : List FileAct). Some l) (sym (append-nil acts))

pub logs_then : (a b c : Option (List FileAct)) (xs ys : List FileAct) → Logs a b xs → Logs b c ys → Logs a c (xs ++ ys)
logs_then None b c xs ys h k = k ∙ ap (λ (o : Option (List FileAct)). option_map (λ (l : List FileAct). l ++ ys) o) h
logs_then (Some acts) b c xs ys h k =
    k ∙ ap (λ (o : Option (List FileAct)). option_map (λ (l : List FileAct). l ++ ys) o) h
    ∙ ap (λ (l : List FileAct). Some l) (append_assoc acts xs ys)

pub empty_acts : (p : Purpose) (name file : List ℕ) → acts_for (Some p) name file [] ≡ []
empty_acts Saving name file = refl
empty_acts Restoring name file = refl

pub none_given : (result : Result (Vec ℕ) GivenFault) (why : GivenFault → Type 0) (answer : List ℕ) → IsErrAnd result why
    → IfOk result (λ given. given.items ≡ answer)
none_given (Ok given) why answer e = absurd e
none_given (Err fault) why answer e = tt

-- nothing was done, and nothing is given
pub none_answered : (p : Purpose) (name file : List ℕ) (log : Option (List FileAct)) (result : Result (Vec ℕ) GivenFault)
    (why : GivenFault → Type 0) → IsErrAnd result why → IsAnswered (acts_for (Some p) name file) log log result
none_answered p name file log result why e = record {
  answer = [];
  given = none_given result why [] e;
  logged = subst (Logs log log) (sym (empty_acts p name file)) (logs_none log);
}

-- nothing was done, and the number of a reason is given
pub reason_answered : (p : Purpose) (name file : List ℕ) (log : Option (List FileAct)) (number : ℕ)
    (result : Result (Vec ℕ) GivenFault) → acts_for (Some p) name file (number ∷ []) ≡ []
    → IfOk result (λ given. given.items ≡ number ∷ [])
    → IsAnswered (acts_for (Some p) name file) log log result
reason_answered p name file log number result none h = record {
  answer = number ∷ [];
  given = h;
  logged = subst (Logs log log) (sym none) (logs_none log);
}

-- a name is given the answer, and what is none the number of that reason
pub name_given : (line answer : List ℕ) → is_name line ≡ true → given_name line answer ≡ answer
name_given [] answer e = cc
name_given (b ∷ bs) answer e = ap (λ t. if t then answer else no_name ∷ []) e

pub no_name_given : (line answer : List ℕ) → (line ≡ [] → ⊥) → is_name line ≡ false → given_name line answer ≡ no_name ∷ []
no_name_given [] answer some e = absurd (some refl)
no_name_given (b ∷ bs) answer some e = ap (λ t. if t then answer else no_name ∷ []) e

-- a file was read, or written, and 0 is given
pub read_answered : (name file bytes : List ℕ) (before after : Option (List FileAct))
    (result : Result (Vec ℕ) GivenFault) → Logs before after (read name bytes ∷ [])
    → IfOk result (λ g. g.items ≡ 0 ∷ bytes)
    → IsAnswered (acts_for (Some Restoring) name file) before after result
read_answered name file bytes before after result log h = record { answer = 0 ∷ bytes; given = h; logged = log }

-- memory was refused for what was read
pub read_lost : (name file bytes : List ℕ) (before after : Option (List FileAct)) (result : Result (Vec ℕ) GivenFault)
    (why : GivenFault → Type 0) → Logs before after (read name bytes ∷ []) → IsErrAnd result why
    → IsAnswered (acts_for (Some Restoring) name file) before after result
read_lost name file bytes before after result why log e = record {
  answer = 0 ∷ bytes;
  given = none_given result why (0 ∷ bytes) e;
  logged = log;
}

pub wrote_answered : (name file : List ℕ) (before after : Option (List FileAct))
    (result : Result (Vec ℕ) GivenFault) → Logs before after (wrote name file ∷ [])
    → IfOk result (λ g. g.items ≡ 0 ∷ [])
    → IsAnswered (acts_for (Some Saving) name file) before after result
wrote_answered name file before after result log h = record { answer = 0 ∷ []; given = h; logged = log }

pub empty_line : (line : List ℕ) → (length line == 0) ≡ true → line ≡ []
empty_line line e = nil_from_length line (eqb-true (length line) 0 e)

pub full_line : (line : List ℕ) → (length line == 0) ≡ false → line ≡ [] → ⊥
full_line [] e h = cc
full_line (b ∷ bs) e h = cc

-- How acts are logged

pub logged_then : {is_own : List ℕ → Bool} {xs ls ys ms : List FileAct} → AreLogged is_own xs ls
    → AreLogged is_own ys ms → AreLogged is_own (xs ++ ys) (ls ++ ms)
logged_then no_act k = k
logged_then (a_look name seen h) k = a_look name seen (logged_then h k)
logged_then (a_write name bytes seen may h) k = a_write name bytes seen may (logged_then h k)
logged_then (a_read name bytes h) k = a_read name bytes (logged_then h k)
logged_then {is_own} {ys = ys} {ms} (a_recall {acts} {log} purpose name file given h) k =
    subst (λ xs. AreLogged is_own xs (recalled given ∷ (log ++ ms)))
    (sym (append_assoc (acts_for purpose name file given) acts ys))
    (a_recall purpose name file given (logged_then h k))
logged_then (a_script bytes h) k = a_script bytes (logged_then h k)

pub acts_none : (is_own : List ℕ → Bool) (log : Option (List FileAct)) → LogsActs is_own log log []
acts_none is_own log = ([], (no_act, logs_none log))

pub acts_then : (is_own : List ℕ → Bool) (a b c : Option (List FileAct)) (xs ys : List FileAct)
    → LogsActs is_own a b xs → LogsActs is_own b c ys → LogsActs is_own a c (xs ++ ys)
acts_then is_own a b c xs ys h k =
    (h.0 ++ k.0, (logged_then h.1.0 k.1.0, logs_then a b c h.0 k.0 h.1.1 k.1.1))

pub acts_same : (is_own : List ℕ → Bool) (before after : Option (List FileAct)) → after ≡ before
    → LogsActs is_own before after []
acts_same is_own before after e = subst (λ l. LogsActs is_own before l []) (sym e) (acts_none is_own before)

pub acts_script : (is_own : List ℕ → Bool) (before after : Option (List FileAct)) (bytes : List ℕ)
    → Logs before after (scripted bytes ∷ []) → LogsActs is_own before after (scripted bytes ∷ [])
acts_script is_own before after bytes h = (scripted bytes ∷ [], (a_script bytes no_act, h))

-- only a look was taken
pub acts_look : (is_own : List ℕ → Bool) (before after : Option (List FileAct)) (name : List ℕ)
    (seen : Option (List ℕ)) → Logs before after (looked name seen ∷ []) → LogsActs is_own before after []
acts_look is_own before after name seen h = (looked name seen ∷ [], (a_look name seen no_act, h))

pub acts_recalled : (is_own : List ℕ → Bool) (before after : Option (List FileAct)) (purpose : Option Purpose)
    (name file given : List ℕ) → Logs before after (recalled given ∷ [])
    → LogsActs is_own before after (acts_for purpose name file given)
acts_recalled is_own before after purpose name file given h =
    subst (LogsActs is_own before after) (append-nil (acts_for purpose name file given))
    (recalled given ∷ [], (a_recall purpose name file given no_act, h))

pub acts_loaded : (is_own : List ℕ → Bool) (before after : Option (List FileAct)) (name file answer : List ℕ)
    → Logs before after (acts_for (Some Restoring) name file answer)
    → LogsActs is_own before after (acts_for (Some Restoring) name file answer)
acts_loaded is_own before after name file [] h = ([], (no_act, h))
acts_loaded is_own before after name file (zero ∷ bytes) h =
    (read name bytes ∷ [], (a_read name bytes no_act, h))
acts_loaded is_own before after name file (suc n ∷ bytes) h = ([], (no_act, h))

-- what may be written over was looked at, and a file was written or not
pub acts_saved : (is_own : List ℕ → Bool) (before mid after : Option (List FileAct)) (name file answer : List ℕ)
    (seen : Option (List ℕ)) → Logs before mid (looked name seen ∷ []) → may_be_written is_own seen ≡ true
    → Logs mid after (acts_for (Some Saving) name file answer)
    → LogsActs is_own before after (acts_for (Some Saving) name file answer)
acts_saved is_own before mid after name file [] seen look may h =
    (looked name seen ∷ [], (a_look name seen no_act, logs_then before mid after (looked name seen ∷ []) [] look h))
acts_saved is_own before mid after name file (zero ∷ bytes) seen look may h = (
  looked name seen ∷ wrote name file ∷ [],
  (
    a_write name file seen may no_act,
    logs_then before mid after (looked name seen ∷ []) (wrote name file ∷ []) look h,
  ),
)
acts_saved is_own before mid after name file (suc n ∷ bytes) seen look may h =
    (looked name seen ∷ [], (a_look name seen no_act, logs_then before mid after (looked name seen ∷ []) [] look h))

-- a log that has a look more ends with it
pub ends_with_look : (before after : Option (List FileAct)) (name : List ℕ) (seen : Option (List ℕ))
    → Logs before after (looked name seen ∷ []) → EndsWithLook after name
ends_with_look None after name seen h = subst (λ l. EndsWithLook l name) (sym h) tt
ends_with_look (Some log) after name seen h = subst (λ l. EndsWithLook l name) (sym h) (log, (seen, refl))
