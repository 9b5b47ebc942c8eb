-- The definitions of transcripts without the replies to `/status`, computed.
use Rattle.std.proofs.Common.{◌≡◌, ℕ, ◌+◌, List, [], ◌∷◌, ◌++◌, length, Option, None, Some, refl, ap}
use Rattle.std.proofs.Common.{true, false, if◌then◌else◌}
use Rattle.std.specs.Prelude.{bytes_eq, codes}
use Rattle.std.specs.List.{All}
use Rattle.std.proofs.lemmas.List.Elements.{All-head, All-tail}
use Rattle.zcore.specs.declared.place.Place.TheVariants.{Waiting}
use Rattle.session_lines.specs.Standing.{Standing, nothing}
use Rattle.session_lines.specs.Transcript.{Telling, Typed, answer_of, note, replies_of, standing_after, transcript_of}
use Rattle.tools.specs.Standard.{asks_status, replies_without_status, transcript_without_status, without_status}

-- a story that prints how many lines it was given, and whose status line is `Hall`
abbrev counting : Telling
counting =
    record {
      text = λ lines. (48 + length lines) ∷ [];
      place = λ lines. Waiting;
      takes = λ line. true;
      given = λ lines x. x.line;
      asked = λ line. if bytes_eq line (codes "/status") then Some (λ lines. note (codes "Hall")) else None;
    }

abbrev line : List ℕ → Typed
line bytes = record { line = bytes; answer = []; refused = false }

abbrev status : Typed
status = line (codes "/status")

-- as on a screen, which asks before the first line and after each
abbrev on_screen : List Typed
on_screen =
    status ∷ line (codes "go") ∷ status ∷ line (codes "wait") ∷ status ∷ line (codes "/undo") ∷ status ∷ []

typed_by_hand : without_status on_screen ≡ line (codes "go") ∷ line (codes "wait") ∷ line (codes "/undo") ∷ []
typed_by_hand = refl

told : transcript_of counting None on_screen
    ≡ codes "0Hall\n1Hall\n2Hall\n[Undone.]\nHall\n"
unfolding answer_of
told = refl

told_without : transcript_without_status counting None on_screen ≡ codes "012[Undone.]\n"
unfolding answer_of
told_without = refl

one_stands : (standing_after counting None nothing on_screen).done ≡ codes "go" ∷ []
unfolding answer_of
one_stands = refl

-- a notice to `/status` is left out, too
not_taken : transcript_without_status counting None (record status { refused = true } ∷ []) ≡ codes "0"
unfolding answer_of
not_taken = refl

-- where no line asks, none is left out: it is the transcript
abbrev asks_nothing : Typed → Type 0
asks_nothing x = asks_status x ≡ false

all_lines : (xs : List Typed) → All asks_nothing xs → without_status xs ≡ xs
all_lines [] h = refl
all_lines (x ∷ xs) h = rw (All-head asks_nothing x xs h) (ap (λ ys. x ∷ ys) (all_lines xs (All-tail asks_nothing x xs h)))

all_replies : (telling : Telling) (keep : Option ℕ) (xs : List Typed) (s : Standing) → All asks_nothing xs
    → replies_without_status telling keep s xs ≡ replies_of telling keep s xs
all_replies telling keep [] s h = refl
all_replies telling keep (x ∷ xs) s h =
    rw (All-head asks_nothing x xs h) (ap (λ t. (answer_of telling keep s x).reply ++ t)
    (all_replies telling keep xs (answer_of telling keep s x).standing (All-tail asks_nothing x xs h)))

whole_transcript : (telling : Telling) (keep : Option ℕ) (xs : List Typed) → All asks_nothing xs
    → transcript_without_status telling keep xs ≡ transcript_of telling keep xs
whole_transcript telling keep xs h = ap (λ t. telling.text [] ++ t) (all_replies telling keep xs nothing h)
