-- What a run's contract says where the reader and the writer tell their bytes.
use Rattle.std.proofs.Common.{Option, None, Some, ◌≡◌, ℕ, Bool, List, [], ◌∷◌, ◌++◌, refl, ap, ◌∙◌, subst}
use Rattle.std.proofs.Common.{Result, Ok, Err, if◌then◌else◌}
use Rattle.std.specs.Prelude.{bytes_eq, codes}
use Rattle.std.specs.Io.KnownBytes.{Appends}
use Rattle.zcore.specs.declared.place.Place.{Place}
use Rattle.session_lines.specs.Input.{lines_of}
use Rattle.session.specs.Game.{told_of, Game, place_on, transcript}
use Rattle.session_lines.specs.Standing.{Standing, nothing}
use Rattle.session_lines.specs.Transcript.{Telling, Typed, lines_typed, Answer, answer_of, replies_of}
use Rattle.session_lines.specs.Transcript.{answer_undo, answer_redo, answer_line, standing_after, transcript_of}
use Rattle.session_run.specs.declared.fault.RunFault.{RunFault}
use Rattle.session_run.specs.declared.fault.RunFault.TheVariants.{Reading, Writing}
use Rattle.session_lines.specs.Wrote.{WroteSome}
use Rattle.session_run.specs.Ran.{Streams, Played, RanWhole, RanToRead, LinesRead, RanToWrite, in_opening}
use Rattle.session_run.specs.Ran.{in_reply, Ran}

-- a run without a fault: all of the reader's bytes were played, and the writer holds what was written beside what it
-- held
pub record Told (game : Game) (input before later : List ℕ) (P : List Typed → Standing → Type 0) (p : Place)
    : Type 0 where
  pub written : List ℕ
  pub wrote : later ≡ before ++ written
  pub played : Played (told_of game) game.keep (lines_of input) written (λ xs s. P xs s × (p ≡ place_on game s.done))

-- after a failed write, a beginning of the transcript of the lines that were read
pub record Begins (game : Game) (r' : Option (List ℕ)) (input written : List ℕ) : Type 0 where
  pub typed : List Typed
  pub rest : List ℕ
  pub said : LinesRead r' input (lines_typed typed)
  pub begins : written ++ rest ≡ transcript game typed

-- ---- two tellings that say the same have one transcript, and leave the same lines standing

-- one telling says what the other says, on all lines
pub record Agree (a b : Telling) : Type 0 where
  pub texts : (ls : List (List ℕ)) → a.text ls ≡ b.text ls
  pub places : (ls : List (List ℕ)) → a.place ls ≡ b.place ls
  pub takes : (l : List ℕ) → a.takes l ≡ b.takes l
  pub given : (ls : List (List ℕ)) (x : Typed) → a.given ls x ≡ b.given ls x
  pub asked : (l : List ℕ) → a.asked l ≡ b.asked l

line_same : (a b : Telling) (keep : Option ℕ) → Agree a b → (asked : Option (List (List ℕ) → List ℕ)) (s : Standing)
    (x : Typed) → answer_line asked a keep s x ≡ answer_line asked b keep s x
line_same a b keep same (Some reply) s x = refl
line_same a b keep same None s x = simp (same.texts, same.places, same.takes, same.given)

redo_same : (a b : Telling) → Agree a b → (s : Standing) → answer_redo a s ≡ answer_redo b s
redo_same a b same s = simp (same.texts)

pub answer_same : (a b : Telling) (keep : Option ℕ) → Agree a b → (s : Standing) (x : Typed)
    → answer_of a keep s x ≡ answer_of b keep s x
unfolding answer_of
answer_same a b keep same s x =
    let undo : Bool = bytes_eq x.line (codes "/undo") in
    let redo : Bool = bytes_eq x.line (codes "/redo") in
    ap (λ o. if undo then answer_undo s else (if redo then answer_redo a s else answer_line o a keep s x))
    (same.asked x.line)
    ∙ ap (λ t. if undo then answer_undo s else (if redo then answer_redo a s else t))
    (line_same a b keep same (b.asked x.line) s x)
    ∙ ap (λ t. if undo then answer_undo s else (if redo then t else answer_line (b.asked x.line) b keep s x))
    (redo_same a b same s)

pub replies_same : (a b : Telling) (keep : Option ℕ) → Agree a b → (s : Standing) (xs : List Typed)
    → replies_of a keep s xs ≡ replies_of b keep s xs
replies_same a b keep same s [] = refl
replies_same a b keep same s (x ∷ xs) =
    ap (λ (t : Answer). t.reply ++ replies_of a keep t.standing xs) (answer_same a b keep same s x)
    ∙ ap (λ t. (answer_of b keep s x).reply ++ t) (replies_same a b keep same (answer_of b keep s x).standing xs)

pub standing_same : (a b : Telling) (keep : Option ℕ) → Agree a b → (s : Standing) (xs : List Typed)
    → standing_after a keep s xs ≡ standing_after b keep s xs
standing_same a b keep same s [] = refl
standing_same a b keep same s (x ∷ xs) =
    ap (λ (t : Answer). standing_after a keep t.standing xs) (answer_same a b keep same s x)
    ∙ standing_same a b keep same (answer_of b keep s x).standing xs

pub transcript_same : (a b : Telling) (keep : Option ℕ) → Agree a b → (xs : List Typed)
    → transcript_of a keep xs ≡ transcript_of b keep xs
transcript_same a b keep same xs = ap (λ t. t ++ replies_of a keep nothing xs) (same.texts [])
    ∙ ap (λ t. b.text [] ++ t) (replies_same a b keep same nothing xs)

played_same : (a b : Telling) (keep : Option ℕ) → Agree a b
    → (lines : List (List ℕ)) (written : List ℕ) (P : List Typed → Standing → Type 0) → Played a keep lines written P
    → Played b keep lines written P
played_same a b keep same lines written P h = record {
  typed = h.typed;
  said = h.said;
  wrote = h.wrote ∙ transcript_same a b keep same h.typed;
  stands = subst (P h.typed) (standing_same a b keep same nothing h.typed) h.stands;
}

whole_same : (a b : Telling) (keep : Option ℕ) → Agree a b → (io : Streams) (P : List Typed → Standing → Type 0) (p : Place)
    → RanWhole a keep io P p → RanWhole b keep io P p
whole_same a b keep same io P p h =
    let q = subst (λ s. P h.played.typed s × (p ≡ a.place s.done)) (standing_same a b keep same nothing h.played.typed)
    h.played.stands in
    record {
      input = h.input;
      written = h.written;
      took = h.took;
      ended = h.ended;
      wrote = h.wrote;
      played = record {
        typed = h.played.typed;
        said = h.played.said;
        wrote = h.played.wrote ∙ transcript_same a b keep same h.played.typed;
        stands = (q.0, q.1 ∙ same.places (standing_after b keep nothing h.played.typed).done);
      };
    }

read_same : (a b : Telling) (keep : Option ℕ) → Agree a b → (io : Streams) (P : List Typed → Standing → Type 0)
    → RanToRead a keep io P → RanToRead b keep io P
read_same a b keep same io P h = record {
  input = h.input;
  written = h.written;
  took = h.took;
  wrote = h.wrote;
  played = played_same a b keep same _ h.written P h.played;
}

write_same : (a b : Telling) (keep : Option ℕ) → Agree a b → (io : Streams) (P : List Typed → Standing → Type 0)
    → RanToWrite a keep io P → RanToWrite b keep io P
write_same a b keep same io P (in_opening h) = in_opening (record {
  unread = h.unread;
  wrote = subst (WroteSome io.held_before io.held_after) (same.texts []) h.wrote;
  stands = h.stands;
})
write_same a b keep same io P (in_reply h) =
    let e : answer_of a keep (standing_after a keep nothing h.typed) h.last
    ≡ answer_of b keep (standing_after b keep nothing h.typed) h.last =
    ap (λ s. answer_of a keep s h.last) (standing_same a b keep same nothing h.typed)
    ∙ answer_same a b keep same (standing_after b keep nothing h.typed) h.last in
    in_reply (record {
      input = h.input;
      typed = h.typed;
      last = h.last;
      more = h.more;
      took = h.took;
      said = h.said;
      part = h.part;
      rest = h.rest;
      whole = h.whole ∙ ap (λ (x : Answer). x.reply) e;
      wrote = subst (λ t. Appends io.held_before io.held_after (t ++ h.part)) (transcript_same a b keep same h.typed)
          h.wrote;
      stands = subst (λ (x : Answer). P (h.typed ++ h.last ∷ []) x.standing) e h.stands;
    })

-- a run is what the one telling says, and so what the other says
pub ran_same : (a b : Telling) (keep : Option ℕ) → Agree a b
    → (io : Streams) (P : List Typed → Standing → Type 0) (result : Result Place RunFault) → Ran a keep io P result
    → Ran b keep io P result
ran_same a b keep same io P (Ok place) h = whole_same a b keep same io P place h
ran_same a b keep same io P (Err Reading) h = read_same a b keep same io P h
ran_same a b keep same io P (Err Writing) h = write_same a b keep same io P h
