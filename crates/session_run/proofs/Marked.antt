-- What is told of a reply: the text of its turn, with marks where styles are kept, or a notice.
use Rattle.std.proofs.Common.{◌≡◌, ℕ, Bool, true, false, Some, Option, List, [], ◌∷◌, ◌++◌, ap, sym, ◌∙◌, subst, Result}
use Rattle.std.proofs.Common.{if◌then◌else◌}
use Rattle.std.specs.Borrow.{Bor}
use Rattle.session.specs.Game.{Game, InEach, IsSessionOf, marked_on, text_on, told_on}
use Rattle.session.specs.Replies.{After, RepliesGiven, RepliesWith}
use Rattle.session.specs.Session.{Session}
use Rattle.session.specs.declared.reply.Reply.{Reply}
use Rattle.session.specs.declared.reply.Reply.TheVariants as replies
use Rattle.session_lines.specs.Standing.{Standing, taken}
use Rattle.session_lines.specs.Wrote.{WroteText}
use Rattle.session_lines.specs.Files.{FileAct, Logs, LogsActs, no_act}
use Rattle.session_lines.proofs.Answering.{acts_script}
use Rattle.session_run.specs.Acts.{adding, adding_if}
use Rattle.session_run.specs.Told.{IsNotice, script_or, script_told, told_or, words_of}

abbrev pub told_to : Game → List (List ℕ) → Reply → List ℕ
told_to game lines (replies.Taken text) = told_on game lines
told_to game lines r = words_of r

pub told_plain : (game : Game) (lines : List (List ℕ)) → game.showing.styles ≡ false
    → text_on game lines ≡ told_on game lines
told_plain game lines e = sym (ap (λ b. if b then marked_on game lines else text_on game lines) e)

pub told_marked : (game : Game) (lines : List (List ℕ)) → game.showing.styles ≡ true
    → marked_on game lines ≡ told_on game lines
told_marked game lines e = sym (ap (λ b. if b then marked_on game lines else text_on game lines) e)

-- what is lent is told as it is where none are kept
pub reply_plain : {A : Type 0} (game : Game) (w w' : Option (List ℕ)) (s : Standing) (line : List ℕ) (r : Reply)
    (done : Result (Unit {0}) A) → game.showing.styles ≡ false → RepliesWith game s line r → WroteText w w' (words_of r) done
    → WroteText w w' (told_to game (s.done ++ line ∷ []) r) done
reply_plain game w w' s line (replies.Taken text) done e says p =
    subst (λ (t : List ℕ). WroteText w w' t done) (says.2 ∙ told_plain game (s.done ++ line ∷ []) e) p
reply_plain game w w' s line replies.Refused done e says p = p
reply_plain game w w' s line replies.Over done e says p = p
reply_plain game w w' s line replies.NoMemory done e says p = p

pub given_is_plain : {A : Type 0} (game : Game) (w w' : Option (List ℕ)) (s : Standing) (given : List ℕ) (r : Reply)
    (done : Result (Unit {0}) A) → game.showing.styles ≡ false → RepliesGiven game s given r
    → WroteText w w' (words_of r) done → WroteText w w' (told_to game (s.done ++ given ∷ []) r) done
given_is_plain game w w' s given (replies.Taken text) done e says p =
    subst (λ (t : List ℕ). WroteText w w' t done) (says.1 ∙ told_plain game (s.done ++ given ∷ []) e) p
given_is_plain game w w' s given replies.Refused done e says p = p
given_is_plain game w w' s given replies.Over done e says p = p
given_is_plain game w w' s given replies.NoMemory done e says p = p

-- a notice is told as it is
notice_told : {A : Type 0} (game : Game) (w w' : Option (List ℕ)) (s : Standing) (v : Session) (words : List ℕ)
    (notice : Option (Bor (List ℕ))) (done : Result (Unit {0}) A)
    → ((said : Bor (List ℕ)) × ((notice ≡ Some said) × (said.now ≡ words))) → IsSessionOf game s v
    → InEach v (λ game t. WroteText w w' (told_or notice (marked_on game t.done)) done) → WroteText w w' words done
notice_told game w w' s v words notice done is h p =
    subst (λ (t : List ℕ). WroteText w w' t done)
    (ap (λ o. told_or o (marked_on game s.done)) is.1.0 ∙ is.1.1) (p game s h)

-- and a text with marks where they are kept
pub reply_marked : {A : Type 0} (game : Game) (w w' : Option (List ℕ)) (s : Standing) (old new : Session) (line : List ℕ)
    (r : Reply) (notice : Option (Bor (List ℕ))) (done : Result (Unit {0}) A) → game.showing.styles ≡ true
    → IsNotice r notice → After line r old new → IsSessionOf game s old
    → InEach new (λ game t. WroteText w w' (told_or notice (marked_on game t.done)) done)
    → WroteText w w' (told_to game (s.done ++ line ∷ []) r) done
reply_marked game w w' s old new line (replies.Taken text) notice done e is after h p =
    subst (λ (t : List ℕ). WroteText w w' t done)
    (ap (λ o. told_or o (marked_on game (s.done ++ line ∷ []))) is ∙ told_marked game (s.done ++ line ∷ []) e)
    (p game (taken game.keep line s) (after game s h))
reply_marked game w w' s old new line replies.Refused notice done e is after h p =
    notice_told game w w' s new (words_of replies.Refused) notice done is (subst (IsSessionOf game s) (sym after) h) p
reply_marked game w w' s old new line replies.Over notice done e is after h p =
    notice_told game w w' s new (words_of replies.Over) notice done is (subst (IsSessionOf game s) (sym after) h) p
reply_marked game w w' s old new line replies.NoMemory notice done e is after h p =
    notice_told game w w' s new (words_of replies.NoMemory) notice done is (subst (IsSessionOf game s) (sym after) h) p

-- what was added to the transcript is logged

acts_adding : (is_own : List ℕ → Bool) (l l' : Option (List FileAct)) (script : List ℕ)
    → Logs l l' (adding script) → LogsActs is_own l l' (adding script)
acts_adding is_own l l' [] q = ([], (no_act, q))
acts_adding is_own l l' (b ∷ bs) q = acts_script is_own l l' (b ∷ bs) q

pub acts_adding_if : (is_own : List ℕ → Bool) (l l' : Option (List FileAct)) (is_on : Bool) (bytes : List ℕ)
    → Logs l l' (adding_if is_on bytes) → LogsActs is_own l l' (adding_if is_on bytes)
acts_adding_if is_own l l' true bytes q = acts_script is_own l l' bytes q
acts_adding_if is_own l l' false bytes q = ([], (no_act, q))

pub script_plain : (is_own : List ℕ → Bool) (r : Reply) (script : List ℕ) (l l' : Option (List FileAct))
    → Logs l l' (script_told r script) → LogsActs is_own l l' (script_told r script)
script_plain is_own (replies.Taken text) script l l' q = acts_adding is_own l l' script q
script_plain is_own replies.Refused script l l' q = ([], (no_act, q))
script_plain is_own replies.Over script l l' q = ([], (no_act, q))
script_plain is_own replies.NoMemory script l l' q = ([], (no_act, q))

script_noticed : (r : Reply) (notice : Option (Bor (List ℕ))) (script : List ℕ) (l l' : Option (List FileAct))
    → IsNotice r notice → Logs l l' (script_or notice script) → Logs l l' (script_told r script)
script_noticed (replies.Taken text) notice script l l' is q = subst (λ o. Logs l l' (script_or o script)) is q
script_noticed replies.Refused notice script l l' is q = subst (λ o. Logs l l' (script_or o script)) is.1.0 q
script_noticed replies.Over notice script l l' is q = subst (λ o. Logs l l' (script_or o script)) is.1.0 q
script_noticed replies.NoMemory notice script l l' is q = subst (λ o. Logs l l' (script_or o script)) is.1.0 q

pub script_marked : (is_own : List ℕ → Bool) (r : Reply) (notice : Option (Bor (List ℕ))) (script : List ℕ)
    (l l' : Option (List FileAct)) → IsNotice r notice → Logs l l' (script_or notice script)
    → LogsActs is_own l l' (script_told r script)
script_marked is_own r notice script l l' is q =
    script_plain is_own r script l l' (script_noticed r notice script l l' is q)
