-- The reply to one line, case by case.
use Rattle.std.proofs.Common.{◌≡◌, ℕ, ◌<◌, ◌≤◌, Bool, true, false, IsTrue, zero, suc, None, Some}
use Rattle.std.proofs.Common.{Option, List, [], ◌∷◌, ◌++◌}
use Rattle.std.proofs.Common.{length, refl, ap, sym, ◌∙◌, subst, append-nil, arith, Result, Ok, Err, IsErr, bytes_eq}
use Rattle.std.proofs.Common.{codes, if◌then◌else◌, inl, inr}
use Rattle.std.specs.Io.KnownBytes.{Appends}
use Rattle.zcore.specs.Turn.{is_waiting}
use Rattle.session.specs.Asking.{told_at, told_waiting}
use Rattle.session.specs.Game.{Game, IsSessionOf, told_of, told_on, place_on, is_typable_on, answer, asks_on}
use Rattle.session.specs.Game.{asked_on, status_on, asked_for_on, given_on}
use Rattle.session.specs.Files.{file_on}
use Rattle.session_lines.specs.Files.{FileAct, LogsActs, acts_for}
use Rattle.session.specs.Given.{IsAskedFor}
use Rattle.session_lines.specs.Names.{file_name, given_after, is_name}
use Rattle.session.specs.Replies.{After, RepliesGiven, RepliesWith, ScriptsReply}
use Rattle.session.specs.Session.{Session}
use Rattle.session.specs.declared.reply.Reply.{Reply}
use Rattle.session.specs.declared.reply.Reply.TheVariants as replies
use Rattle.zcore_standard.specs.Saving.{no_name}
use Rattle.zcore_standard.specs.declared.save_form.Purpose.{Purpose}
use Rattle.zcore_standard.specs.declared.save_form.Purpose.TheVariants.{Saving, Restoring}
use Rattle.session_lines.proofs.Answering.{acts_none, acts_then}
use Rattle.session_lines.specs.Standing.{Standing, undo_of, redo_of, taken}
use Rattle.session_lines.specs.Transcript.{Typed, answer_of, Answer, note, answer_undo, answer_redo, answer_line}
use Rattle.session_run.specs.Acts.{Leaves, acts_on, adding, is_own_on, line_acts, script_acts}
use Rattle.session_run.specs.Heard.{Heard, Broke, Hears, asked_reply}
use Rattle.session_run.specs.Told.{script_told}
use Rattle.session_run.proofs.Marked.{told_to}
use Rattle.session_lines.specs.Wrote.{WroteText, WroteSome}
use Rattle.session_run.proofs.Scripting.{acts_other, line_adds, none_of, quiet_line, some}

-- a line that is no name of a file, with its mark
abbrev pub plain : List ℕ → Bool → Typed
plain line refused = record { line = line; answer = []; refused = refused }

no_acts_by : (p : Purpose) (name file : List ℕ) (b : Bool)
    → acts_for (Some p) name file (if b then [] else no_name ∷ []) ≡ []
no_acts_by Saving name file true = refl
no_acts_by Saving name file false = refl
no_acts_by Restoring name file true = refl
no_acts_by Restoring name file false = refl

no_acts : (p : Option Purpose) (name file line : List ℕ) → acts_for p name file (given_after p line []) ≡ []
no_acts None name file line = refl
no_acts (Some Saving) name file [] = refl
no_acts (Some Restoring) name file [] = refl
no_acts (Some Saving) name file (b ∷ bs) = no_acts_by Saving name file (is_name (b ∷ bs))
no_acts (Some Restoring) name file (b ∷ bs) = no_acts_by Restoring name file (is_name (b ∷ bs))

-- where nothing was answered, nothing was done
pub unanswered : (game : Game) (lines : List (List ℕ)) (line : List ℕ) (refused : Bool)
    → acts_on game lines (plain line refused) ≡ []
unanswered game lines line refused =
    no_acts (asked_for_on game lines) (file_name line) (file_on game lines) line

-- where a plain line adds this to the transcript
logged : (game : Game) (s : Standing) (l l' : Option (List FileAct)) (line : List ℕ) (refused : Bool)
    (acts : List FileAct) → script_acts game s (plain line refused) ≡ acts → LogsActs (is_own_on game) l l' acts
    → LogsActs (is_own_on game) l l' (line_acts game s (plain line refused))
logged game s l l' line refused acts e h =
    subst (LogsActs (is_own_on game) l l')
    (sym (ap (λ (xs : List FileAct). xs ++ script_acts game s (plain line refused))
    (unanswered game s.done line refused) ∙ e)) h

pub heard_ok : (game : Game) (w w' : Option (List ℕ)) (s : Standing) (v : Session) (l l' : Option (List FileAct))
    (x : Typed) (a : Answer) → answer game s x ≡ a → IsSessionOf game a.standing v
    → LogsActs (is_own_on game) l l' (line_acts game s x) → Appends w w' a.reply
    → Heard game w w' s (Leaves game s v l l') (x.line ∷ [])
heard_ok game w w' s v l l' x a e f q p = record {
  typed = x ∷ [];
  said = refl;
  wrote = subst (Appends w w') (ap (λ (b : Answer). b.reply) (sym e) ∙ sym (append-nil (answer game s x).reply)) p;
  stands = (
    subst (λ (b : Answer). IsSessionOf game b.standing v) (sym e) f,
    subst (LogsActs (is_own_on game) l l') (sym (append-nil (line_acts game s x))) q,
  );
}

pub heard_err : (game : Game) (w w' : Option (List ℕ)) (s : Standing) (v : Session) (l l' : Option (List FileAct))
    (x : Typed) (a : Answer) → answer game s x ≡ a → IsSessionOf game a.standing v
    → LogsActs (is_own_on game) l l' (line_acts game s x) → WroteSome w w' a.reply
    → Broke game w w' s (Leaves game s v l l') (x.line ∷ [])
heard_err game w w' s v l l' x a e f q p = record {
  typed = [];
  last = x;
  more = [];
  said = refl;
  part = p.part;
  rest = p.rest;
  whole = p.whole ∙ ap (λ (b : Answer). b.reply) (sym e);
  wrote = p.wrote;
  stands = (
    subst (λ (b : Answer). IsSessionOf game b.standing v) (sym e) f,
    subst (LogsActs (is_own_on game) l l') (sym (append-nil (line_acts game s x))) q,
  );
}

pub heard_one : {A : Type 0} (game : Game) (w w' : Option (List ℕ)) (s : Standing) (v : Session)
    (l l' : Option (List FileAct)) (x : Typed) (a : Answer) (r : Result (Unit {0}) A)
    → answer game s x ≡ a → IsSessionOf game a.standing v → LogsActs (is_own_on game) l l' (line_acts game s x)
    → WroteText w w' a.reply r
    → Hears game w w' s (Leaves game s v l l') (x.line ∷ []) r
heard_one game w w' s v l l' x a (Ok done) e f q p = heard_ok game w w' s v l l' x a e f q p
heard_one game w w' s v l l' x a (Err y) e f q p = heard_err game w w' s v l l' x a e f q p

-- the same for lines that are no names of files, by what they add to the transcript
pub heard_plain : (game : Game) (w w' : Option (List ℕ)) (s : Standing) (v : Session) (l l' : Option (List FileAct))
    (line : List ℕ) (refused : Bool) (a : Answer) (acts : List FileAct)
    → answer game s (plain line refused) ≡ a → IsSessionOf game a.standing v
    → script_acts game s (plain line refused) ≡ acts → LogsActs (is_own_on game) l l' acts → Appends w w' a.reply
    → Heard game w w' s (Leaves game s v l l') (line ∷ [])
heard_plain game w w' s v l l' line refused a acts e f d q p =
    heard_ok game w w' s v l l' (plain line refused) a e f (logged game s l l' line refused acts d q) p

pub broke_plain : (game : Game) (w w' : Option (List ℕ)) (s : Standing) (v : Session) (l l' : Option (List FileAct))
    (line : List ℕ) (refused : Bool) (a : Answer) (acts : List FileAct)
    → answer game s (plain line refused) ≡ a → IsSessionOf game a.standing v
    → script_acts game s (plain line refused) ≡ acts → LogsActs (is_own_on game) l l' acts → WroteSome w w' a.reply
    → Broke game w w' s (Leaves game s v l l') (line ∷ [])
broke_plain game w w' s v l l' line refused a acts e f d q p =
    heard_err game w w' s v l l' (plain line refused) a e f (logged game s l l' line refused acts d q) p

pub hears_plain : {A : Type 0} (game : Game) (w w' : Option (List ℕ)) (s : Standing) (v : Session)
    (l l' : Option (List FileAct)) (line : List ℕ) (refused : Bool) (a : Answer) (acts : List FileAct)
    (r : Result (Unit {0}) A)
    → answer game s (plain line refused) ≡ a → IsSessionOf game a.standing v
    → script_acts game s (plain line refused) ≡ acts → LogsActs (is_own_on game) l l' acts → WroteText w w' a.reply r
    → Hears game w w' s (Leaves game s v l l') (line ∷ []) r
hears_plain game w w' s v l l' line refused a acts r e f d q p =
    heard_one game w w' s v l l' (plain line refused) a r e f (logged game s l l' line refused acts d q) p

-- and where that is nothing
pub hears_quiet : {A : Type 0} (game : Game) (w w' : Option (List ℕ)) (s : Standing) (v : Session)
    (l : Option (List FileAct)) (line : List ℕ) (refused : Bool) (a : Answer) (r : Result (Unit {0}) A)
    → answer game s (plain line refused) ≡ a → IsSessionOf game a.standing v
    → script_acts game s (plain line refused) ≡ [] → WroteText w w' a.reply r
    → Hears game w w' s (Leaves game s v l l) (line ∷ []) r
hears_quiet game w w' s v l line refused a r e f d p =
    hears_plain game w w' s v l l line refused a [] r e f d (acts_none (is_own_on game) l) p

pub hears_err : {A : Type 0} (game : Game) (w w' : Option (List ℕ)) (s : Standing)
    (P : List Typed → Standing → Type 0) (lines : List (List ℕ)) (r : Result (Unit {0}) A)
    → IsErr r → Broke game w w' s P lines → Hears game w w' s P lines r
hears_err game w w' s P lines (Ok done) h p = cc
hears_err game w w' s P lines (Err x) h p = p

pub wrote_err : {A : Type 0} (w w' : Option (List ℕ)) (text : List ℕ) (r : Result (Unit {0}) A)
    → IsErr r → WroteSome w w' text → WroteText w w' text r
wrote_err w w' text (Ok done) h p = cc
wrote_err w w' text (Err x) h p = p

-- what `==` said of a line
pub tested : (line words : List ℕ) (slice : List ℕ) (r b : Bool) → slice ≡ words → r ≡ bytes_eq line slice → r ≡ b
    → bytes_eq line words ≡ b
tested line words slice r b e f h = ap (bytes_eq line) (sym e) ∙ sym f ∙ h

-- what a test that failed says of a number
pub absent : (n : ℕ) → (0 < n → IsTrue false) → n ≤ 0
absent zero h = omega arith
absent (suc n) h = let e : false ≡ true = h (omega arith) in cc

pub at_undo : (game : Game) (s : Standing) (x : Typed) → bytes_eq x.line (codes "/undo") ≡ true
    → answer game s x ≡ answer_undo s
unfolding answer_of
at_undo game s x e = ap
    (λ b. if b then answer_undo s
    else (if bytes_eq x.line (codes "/redo") then answer_redo (told_of game) s
    else answer_line (asked_on game x.line) (told_of game) game.keep s x)) e

pub at_redo : (game : Game) (s : Standing) (x : Typed) → bytes_eq x.line (codes "/undo") ≡ false
    → bytes_eq x.line (codes "/redo") ≡ true → answer game s x ≡ answer_redo (told_of game) s
unfolding answer_of
at_redo game s x d e =
    ap (λ b. if b then answer_undo s
    else (if bytes_eq x.line (codes "/redo") then answer_redo (told_of game) s
    else answer_line (asked_on game x.line) (told_of game) game.keep s x)) d
    ∙ ap (λ b. if b then answer_redo (told_of game) s
    else answer_line (asked_on game x.line) (told_of game) game.keep s x) e

at_other : (game : Game) (s : Standing) (x : Typed) → bytes_eq x.line (codes "/undo") ≡ false
    → bytes_eq x.line (codes "/redo") ≡ false
    → answer game s x ≡ answer_line (asked_on game x.line) (told_of game) game.keep s x
unfolding answer_of
at_other game s x d e =
    ap (λ b. if b then answer_undo s
    else (if bytes_eq x.line (codes "/redo") then answer_redo (told_of game) s
    else answer_line (asked_on game x.line) (told_of game) game.keep s x)) d
    ∙ ap (λ b. if b then answer_redo (told_of game) s
    else answer_line (asked_on game x.line) (told_of game) game.keep s x) e

-- the reply to a line, where it asks and where it does not
answer_if : Game → Standing → Typed → Bool → Answer
answer_if game s x asks = answer_line
    (if asks then Some (λ lines. told_at (place_on game lines) (status_on game lines)) else None) (told_of game)
    game.keep s x

-- a line for the story, or the name of a saved game
pub record IsForStory (game : Game) (line : List ℕ) : Type 0 where
  pub undo : bytes_eq line (codes "/undo") ≡ false
  pub redo : bytes_eq line (codes "/redo") ≡ false
  pub asks : asks_on game line ≡ false

pub at_line : (game : Game) (s : Standing) (x : Typed) → IsForStory game x.line
    → answer game s x ≡ answer_line None (told_of game) game.keep s x
unfolding answer_if
at_line game s x to = at_other game s x to.undo to.redo ∙ ap (answer_if game s x) to.asks

pub at_asked : (game : Game) (s : Standing) (x : Typed) → bytes_eq x.line (codes "/undo") ≡ false
    → bytes_eq x.line (codes "/redo") ≡ false → asks_on game x.line ≡ true
    → answer game s x ≡ record { reply = asked_reply game s x.refused; standing = s }
unfolding answer_if
at_asked game s x d e f = at_other game s x d e ∙ ap (answer_if game s x) f

-- the reply to a line that asks, case by case
pub reply_over : (game : Game) (s : Standing) → is_waiting (place_on game s.done) ≡ false
    → asked_reply game s false ≡ note (codes "[The story is over.]")
reply_over game s e = ap (λ b. if b then told_waiting (status_on game s.done) else note (codes "[The story is over.]")) e

pub reply_waiting : (game : Game) (s : Standing) (line : List ℕ) → is_waiting (place_on game s.done) ≡ true
    → line ≡ status_on game s.done → asked_reply game s false ≡ told_waiting line
reply_waiting game s line e f =
    ap (λ b. if b then told_waiting (status_on game s.done) else note (codes "[The story is over.]")) e
    ∙ ap told_waiting (sym f)

pub undo_some : (s : Standing) → 0 < s.kept → answer_undo s
    ≡ record { reply = note (codes "[Undone.]"); standing = undo_of s }
undo_some s h = ap
    (λ b. record {
      reply = if b then note (codes "[Nothing to undo.]") else note (codes "[Undone.]");
      standing = undo_of s;
    }) (some s.kept h)

pub undo_none : (s : Standing) → s.kept ≤ 0 → answer_undo s
    ≡ record { reply = note (codes "[Nothing to undo.]"); standing = undo_of s }
undo_none s h = ap
    (λ b. record {
      reply = if b then note (codes "[Nothing to undo.]") else note (codes "[Undone.]");
      standing = undo_of s;
    }) (none_of s.kept h)

pub redo_some : (game : Game) (s : Standing) → 0 < length s.undone
    → answer_redo (told_of game) s
    ≡ record { reply = note (codes "[Redone.]") ++ told_on game (redo_of s).done; standing = redo_of s }
redo_some game s h = ap
    (λ b. record {
      reply = if b then note (codes "[Nothing to redo.]")
          else note (codes "[Redone.]") ++ told_on game (redo_of s).done;
      standing = redo_of s;
    }) (some (length s.undone) h)

pub redo_none : (game : Game) (s : Standing) → length s.undone ≤ 0
    → answer_redo (told_of game) s ≡ record { reply = note (codes "[Nothing to redo.]"); standing = redo_of s }
redo_none game s h = ap
    (λ b. record {
      reply = if b then note (codes "[Nothing to redo.]")
          else note (codes "[Redone.]") ++ told_on game (redo_of s).done;
      standing = redo_of s;
    })
    (none_of (length s.undone) h)

-- the reply to a line for the story, by the tests in their order
abbrev reply_by : Game → Standing → List ℕ → Bool → Bool → Bool → Answer
reply_by game s given takes waits refused =
    if takes then (
    if waits then (
    if refused then (record { reply = note (codes "[No memory: line not taken.]"); standing = s })
    else (record { reply = told_on game (s.done ++ given ∷ []); standing = taken game.keep given s }))
    else (record { reply = note (codes "[The story is over.]"); standing = s }))
    else (record { reply = note (codes "[Line refused.]"); standing = s })

by_tests : (game : Game) (s : Standing) (x : Typed)
    → answer_line None (told_of game) game.keep s x
    ≡ reply_by game s (given_on game s.done x) (is_typable_on game x.line) (is_waiting (place_on game s.done)) x.refused
by_tests game s x = refl

pub line_taken : (game : Game) (s : Standing) (x : Typed) (given : List ℕ) → is_typable_on game x.line ≡ true
    → is_waiting (place_on game s.done) ≡ true → x.refused ≡ false → given_on game s.done x ≡ given
    → answer_line None (told_of game) game.keep s x
    ≡ record { reply = told_on game (s.done ++ given ∷ []); standing = taken game.keep given s }
line_taken game s x given d e f g =
    by_tests game s x
    ∙ ap (λ b. reply_by game s (given_on game s.done x) b (is_waiting (place_on game s.done)) x.refused) d
    ∙ ap (λ b. reply_by game s (given_on game s.done x) true b x.refused) e
    ∙ ap (λ b. reply_by game s (given_on game s.done x) true true b) f
    ∙ ap (λ (l : List ℕ). reply_by game s l true true false) g

pub line_unmet : (game : Game) (s : Standing) (x : Typed) → is_typable_on game x.line ≡ true
    → is_waiting (place_on game s.done) ≡ true → x.refused ≡ true
    → answer_line None (told_of game) game.keep s x
    ≡ record { reply = note (codes "[No memory: line not taken.]"); standing = s }
line_unmet game s x d e f =
    by_tests game s x
    ∙ ap (λ b. reply_by game s (given_on game s.done x) b (is_waiting (place_on game s.done)) x.refused) d
    ∙ ap (λ b. reply_by game s (given_on game s.done x) true b x.refused) e
    ∙ ap (λ b. reply_by game s (given_on game s.done x) true true b) f

pub line_over : (game : Game) (s : Standing) (x : Typed) → is_typable_on game x.line ≡ true
    → is_waiting (place_on game s.done) ≡ false
    → answer_line None (told_of game) game.keep s x
    ≡ record { reply = note (codes "[The story is over.]"); standing = s }
line_over game s x d e =
    by_tests game s x
    ∙ ap (λ b. reply_by game s (given_on game s.done x) b (is_waiting (place_on game s.done)) x.refused) d
    ∙ ap (λ b. reply_by game s (given_on game s.done x) true b x.refused) e

pub line_refused : (game : Game) (s : Standing) (x : Typed) → is_typable_on game x.line ≡ false
    → answer_line None (told_of game) game.keep s x ≡ record { reply = note (codes "[Line refused.]"); standing = s }
line_refused game s x d =
    by_tests game s x
    ∙ ap (λ b. reply_by game s (given_on game s.done x) b (is_waiting (place_on game s.done)) x.refused) d

-- a line that is no name is given as it is
given_plain : (game : Game) (s : Standing) (line : List ℕ) → IsAskedFor game s line None
    → is_typable_on game line ≡ true → is_waiting (place_on game s.done) ≡ true
    → given_on game s.done (plain line false) ≡ line
given_plain game s line (inl e) d w = ap (λ p. given_after p line []) e
given_plain game s line (inr (inl e)) d w = let no : false ≡ true = sym e ∙ d in cc
given_plain game s line (inr (inr e)) d w = let no : false ≡ true = sym e ∙ w in cc

-- a line for the story was replied to, and the reply written
pub hears_reply : {A : Type 0} (game : Game) (w w' : Option (List ℕ)) (s : Standing) (old new : Session)
    (l l' : Option (List FileAct)) (line : List ℕ) (r : Reply) (script : List ℕ) (done : Result (Unit {0}) A)
    → IsForStory game line → IsAskedFor game s line None → RepliesWith game s line r → ScriptsReply game s line r script
    → After line r old new → IsSessionOf game s old → WroteText w w' (told_to game (s.done ++ line ∷ []) r) done
    → LogsActs (is_own_on game) l l' (script_told r script)
    → Hears game w w' s (Leaves game s new l l') (line ∷ []) done
hears_reply game w w' s old new l l' line (replies.Taken text) script done to asked says adds after h p q =
    let given : given_on game s.done (plain line false) ≡ line = given_plain game s line asked says.0 says.1 in
    let a : Answer = record { reply = told_on game (s.done ++ line ∷ []); standing = taken game.keep line s } in
    let at : answer game s (plain line false) ≡ a =
    at_line game s (plain line false) to ∙ line_taken game s (plain line false) line says.0 says.1 refl given in
    hears_plain game w w' s new l l' line false a (adding script) done at (after game s h)
    (acts_other game s (plain line false) to.undo to.redo
    ∙ line_adds game s (plain line false) line a at refl given ∙ ap adding (sym adds)) q p
hears_reply game w w' s old new l l' line replies.Refused script done to asked says adds after h p q =
    let a : Answer = record { reply = note (codes "[Line refused.]"); standing = s } in
    let at : answer game s (plain line false) ≡ a =
    at_line game s (plain line false) to ∙ line_refused game s (plain line false) says in
    hears_plain game w w' s new l l' line false a [] done at (subst (IsSessionOf game s) (sym after) h)
    (quiet_line game s (plain line false) a to.undo to.redo at refl) q p
hears_reply game w w' s old new l l' line replies.Over script done to asked says adds after h p q =
    let a : Answer = record { reply = note (codes "[The story is over.]"); standing = s } in
    let at : answer game s (plain line false) ≡ a =
    at_line game s (plain line false) to ∙ line_over game s (plain line false) says.0 says.1 in
    hears_plain game w w' s new l l' line false a [] done at (subst (IsSessionOf game s) (sym after) h)
    (quiet_line game s (plain line false) a to.undo to.redo at refl) q p
hears_reply game w w' s old new l l' line replies.NoMemory script done to asked says adds after h p q =
    let a : Answer = record { reply = note (codes "[No memory: line not taken.]"); standing = s } in
    let at : answer game s (plain line true) ≡ a =
    at_line game s (plain line true) to ∙ line_unmet game s (plain line true) says.0 says.1 refl in
    hears_plain game w w' s new l l' line true a [] done at (subst (IsSessionOf game s) (sym after) h)
    (quiet_line game s (plain line true) a to.undo to.redo at refl) q p

-- a line was given as a name, with what was answered
abbrev pub named : List ℕ → List ℕ → Bool → Typed
named line given refused = record { line = line; answer = given; refused = refused }

-- where it is not taken
pub hears_unmet : {A : Type 0} (game : Game) (w w' : Option (List ℕ)) (s : Standing) (v : Session)
    (l l' : Option (List FileAct)) (line given : List ℕ) (purpose : Purpose) (done : Result (Unit {0}) A)
    → IsForStory game line → IsAskedFor game s line (Some purpose)
    → LogsActs (is_own_on game) l l' (acts_on game s.done (named line given true))
    → IsSessionOf game s v → WroteText w w' (note (codes "[No memory: line not taken.]")) done
    → Hears game w w' s (Leaves game s v l l') (line ∷ []) done
hears_unmet game w w' s v l l' line given purpose done to asked logged h p =
    let x : Typed = named line given true in
    let a : Answer = record { reply = note (codes "[No memory: line not taken.]"); standing = s } in
    let at : answer game s x ≡ a = at_line game s x to ∙ line_unmet game s x asked.1 asked.2 refl in
    heard_one game w w' s v l l' x a done at h
    (subst (LogsActs (is_own_on game) l l') (sym (ap (λ (acts : List FileAct). acts_on game s.done x ++ acts)
    (quiet_line game s x a to.undo to.redo at refl) ∙ append-nil (acts_on game s.done x))) logged) p

-- where the story is given something for it
pub hears_given : {A : Type 0} (game : Game) (w w' : Option (List ℕ)) (s : Standing) (old new : Session)
    (l l1 l' : Option (List FileAct)) (line answered given : List ℕ) (purpose : Purpose) (r : Reply) (script : List ℕ)
    (done : Result (Unit {0}) A)
    → IsForStory game line → IsAskedFor game s line (Some purpose)
    → LogsActs (is_own_on game) l l1 (acts_on game s.done (named line answered false))
    → given ≡ given_on game s.done (named line answered false)
    → RepliesGiven game s given r → ScriptsReply game s given r script → After given r old new → IsSessionOf game s old
    → WroteText w w' (told_to game (s.done ++ given ∷ []) r) done
    → LogsActs (is_own_on game) l1 l' (script_told r script)
    → Hears game w w' s (Leaves game s new l l') (line ∷ []) done
hears_given game w w' s old new l l1 l' line answered given purpose (replies.Taken text) script done to asked logged
    is says adds after h p q =
    let x : Typed = named line answered false in
    let a : Answer = record { reply = told_on game (s.done ++ given ∷ []); standing = taken game.keep given s } in
    let at : answer game s x ≡ a =
    at_line game s x to ∙ line_taken game s x given asked.1 asked.2 refl (sym is) in
    let acts : script_acts game s x ≡ adding script =
    acts_other game s x to.undo to.redo ∙ line_adds game s x given a at refl (sym is) ∙ ap adding (sym adds) in
    heard_one game w w' s new l l' x a done at (after game s h)
    (subst (λ (more : List FileAct). LogsActs (is_own_on game) l l' (acts_on game s.done x ++ more)) (sym acts)
    (acts_then (is_own_on game) l l1 l' (acts_on game s.done x) (adding script) logged q)) p
hears_given game w w' s old new l l1 l' line answered given purpose replies.Refused script done to asked logged
    is says adds after h p q =
    absurd says
hears_given game w w' s old new l l1 l' line answered given purpose replies.Over script done to asked logged
    is says adds after h p q =
    absurd says
hears_given game w w' s old new l l1 l' line answered given purpose replies.NoMemory script done to asked logged
    is says adds after h p q =
    let x : Typed = named line answered true in
    hears_unmet game w w' s new l l' line answered purpose done to asked
    (subst (LogsActs (is_own_on game) l l') (append-nil (acts_on game s.done x))
    (acts_then (is_own_on game) l l1 l' (acts_on game s.done x) [] logged q))
    (subst (IsSessionOf game s) (sym after) h) p
