-- Steps of a run.
use Rattle.std.proofs.Common.{◌≡◌, ℕ, ◌<◌, Option, None, Some, List, [], ◌∷◌, ◌++◌, refl, ap, sym, subst}
use Rattle.std.proofs.Common.{append_assoc, inl, inr, Result, Ok, Err, IsErrAnd}
use Rattle.std.specs.Io.KnownBytes.{Appends, Consumes, Keeps, IsAtEnd}
use Rattle.std.proofs.KnownBytes.{Appends-trans, Consumes-nil, Consumes-trans, Consumes-kept}
use Rattle.session_lines.specs.declared.line.Line.{Line}
use Rattle.zcore.specs.declared.place.Place.{Place}
use Rattle.session_run.specs.declared.fault.RunFault.{RunFault}
use Rattle.session_run.specs.declared.fault.RunFault.TheVariants.{Writing}
use Rattle.session_lines.specs.Input.{whole_from, rest_from, last_line, lines_of, whole_lines}
use Rattle.session_run.specs.Acts.{Leaves}
use Rattle.session_lines.specs.Files.{FileAct}
use Rattle.session.specs.Session.{Session}
use Rattle.session_lines.specs.Transcript.{Typed}
use Rattle.session.specs.Game.{IsSessionOf, told_of, Game, told_on, place_on, replies, after, transcript}
use Rattle.session_lines.specs.Standing.{Standing, nothing}
use Rattle.session_run.specs.Heard.{Heard, Broke}
use Rattle.session_lines.specs.Wrote.{WroteSome}
use Rattle.session_lines.specs.Kept.{IsKept}
use Rattle.session_run.specs.Ran.{Streams, RanWhole, RanToRead, RanToWrite, LinesRead, in_opening, in_reply, RanToFault}
use Rattle.session_run.specs.Ran.{Ran}
use Rattle.session_lines.proofs.Cutting.{whole_from-append, rest_from-append, kept_some}
use Rattle.session_run.proofs.Chaining.{heard_none, heard_then, heard_broke}

abbrev pub streams : (r r' w w' : Option (List ℕ)) → Streams
streams r r' w w' = record { unread_before = r; unread_after = r'; held_before = w; held_after = w' }

-- a run on its way: the opening was written, and this input heard
pub record Going (game : Game) (r r' w w' : Option (List ℕ)) (v : Session) (l l' : Option (List FileAct)) (line : Line)
    : Type 0 where
  pub input : List ℕ
  pub opened : Option (List ℕ)
  pub took : Consumes r r' input
  pub wrote : Appends w opened (told_on game [])
  pub heard : Heard game opened w' nothing (Leaves game nothing v l l') (whole_lines input)
  pub kept : IsKept line (rest_from [] input)

keeps_of : (a b : Option (List ℕ)) → Consumes a b [] → Keeps a b
keeps_of None b p = tt
keeps_of (Some x) None p = absurd p
keeps_of (Some x) (Some y) p = sym p

pub going_start : (game : Game) (r w w1 : Option (List ℕ)) (v : Session) (l : Option (List FileAct)) (line : Line)
    → IsSessionOf game nothing v → Appends w w1 (told_on game []) → IsKept line [] → Going game r r w w1 v l l line
going_start game r w w1 v l line e p kept = record {
  input = [];
  opened = w1;
  took = Consumes-nil r;
  wrote = p;
  heard = heard_none game w1 nothing v l e;
  kept = kept;
}

pub going_on : (game : Game) (r r1 r2 w w1 w2 : Option (List ℕ)) (v1 v2 : Session) (l l1 l2 : Option (List FileAct))
    (line line' : Line) (chunk : List ℕ)
    → (h : Going game r r1 w w1 v1 l l1 line) → Consumes r1 r2 chunk
    → ((t : Standing) → IsSessionOf game t v1
    → Heard game w1 w2 t (Leaves game t v2 l1 l2) (whole_from (rest_from [] h.input) chunk))
    → IsKept line' (rest_from (rest_from [] h.input) chunk) → Going game r r2 w w2 v2 l l2 line'
going_on game r r1 r2 w w1 w2 v1 v2 l l1 l2 line line' chunk h took k kept = record {
  input = h.input ++ chunk;
  opened = h.opened;
  took = Consumes-trans r r1 r2 h.input chunk h.took took;
  wrote = h.wrote;
  heard = subst (Heard game h.opened w2 nothing (Leaves game nothing v2 l l2))
      (sym (whole_from-append [] h.input chunk))
      (heard_then game h.opened w1 w2 nothing v1 v2 l l1 l2 (whole_lines h.input)
      (whole_from (rest_from [] h.input) chunk) h.heard k);
  kept = subst (IsKept line') (sym (rest_from-append [] h.input chunk)) kept;
}

-- what was written of lines that were all heard
played : (game : Game) (w opened w' : Option (List ℕ)) (P : List Typed → Standing → Type 0) (lines : List (List ℕ))
    → Appends w opened (told_on game []) → (h : Heard game opened w' nothing P lines)
    → Appends w w' (transcript game h.typed)
played game w opened w' P lines wrote h = Appends-trans w opened w' (told_on game []) (replies game nothing h.typed)
    wrote h.wrote

-- the end of the input was reached
pub ran_whole : (game : Game) (r r1 r2 w w1 w2 : Option (List ℕ)) (v1 v2 : Session) (l l1 l2 : Option (List FileAct))
    (line : Line) (p : Place)
    → (h : Going game r r1 w w1 v1 l l1 line) → Consumes r1 r2 [] → IsAtEnd r2
    → ((t : Standing) → IsSessionOf game t v1
    → Heard game w1 w2 t (Leaves game t v2 l1 l2) (last_line (rest_from [] h.input)))
    → ((t : Standing) → IsSessionOf game t v2 → p ≡ place_on game t.done)
    → RanWhole (told_of game) game.keep (streams r r2 w w2) (Leaves game nothing v2 l l2) p
ran_whole game r r1 r2 w w1 w2 v1 v2 l l1 l2 line p h took end k place =
    let all : Heard game h.opened w2 nothing (Leaves game nothing v2 l l2) (lines_of h.input) =
    heard_then game h.opened w1 w2 nothing v1 v2 l l1 l2 (whole_lines h.input) (last_line (rest_from [] h.input))
    h.heard k in
    record {
      input = h.input;
      written = transcript game all.typed;
      took = Consumes-kept r r1 r2 h.input h.took (keeps_of r1 r2 took);
      ended = end;
      wrote = played game w h.opened w2 (Leaves game nothing v2 l l2) (lines_of h.input) h.wrote all;
      played =
          record {
            typed = all.typed;
            said = all.said;
            wrote = refl;
            stands = (all.stands, place (after game nothing all.typed) all.stands.0);
          };
    }

-- a read failed
pub ran_read : (game : Game) (r r1 r2 w w1 : Option (List ℕ)) (v : Session) (l l1 : Option (List FileAct)) (line : Line)
    → Going game r r1 w w1 v l l1 line → Keeps r1 r2
    → RanToRead (told_of game) game.keep (streams r r2 w w1) (Leaves game nothing v l l1)
ran_read game r r1 r2 w w1 v l l1 line h keeps = record {
  input = h.input;
  written = transcript game h.heard.typed;
  took = Consumes-kept r r1 r2 h.input h.took keeps;
  wrote = played game w h.opened w1 (Leaves game nothing v l l1) (whole_lines h.input) h.wrote h.heard;
  played = record { typed = h.heard.typed; said = h.heard.said; wrote = refl; stands = h.heard.stands };
}

-- the reads came to no end
pub ran_long : (game : Game) (r r1 w w1 : Option (List ℕ)) (v : Session) (l l1 : Option (List FileAct)) (line : Line)
    → Going game r r1 w w1 v l l1 line
    → RanToRead (told_of game) game.keep (streams r r1 w w1) (Leaves game nothing v l l1)
ran_long game r r1 w w1 v l l1 line h = record {
  input = h.input;
  written = transcript game h.heard.typed;
  took = h.took;
  wrote = played game w h.opened w1 (Leaves game nothing v l l1) (whole_lines h.input) h.wrote h.heard;
  played = record { typed = h.heard.typed; said = h.heard.said; wrote = refl; stands = h.heard.stands };
}

ran_broke : (game : Game) (r r2 w opened w2 : Option (List ℕ)) (P : List Typed → Standing → Type 0) (input : List ℕ)
    (lines : List (List ℕ)) → Consumes r r2 input → LinesRead r2 input lines → Appends w opened (told_on game [])
    → Broke game opened w2 nothing P lines
    → RanToWrite (told_of game) game.keep (streams r r2 w w2) P
ran_broke game r r2 w opened w2 P input lines took read wrote k = in_reply (record {
  input = input;
  typed = k.typed;
  last = k.last;
  more = k.more;
  took = took;
  said = subst (LinesRead r2 input) (sym k.said) read;
  part = k.part;
  rest = k.rest;
  whole = k.whole;
  wrote = subst (Appends w w2) (sym (append_assoc (told_on game []) (replies game nothing k.typed) k.part))
      (Appends-trans w opened w2 (told_on game []) (replies game nothing k.typed ++ k.part) wrote k.wrote);
  stands = k.stands;
})

-- writing failed in a reply to a line of the chunk
pub ran_broke_in : (game : Game) (r r1 r2 w w1 w2 : Option (List ℕ)) (v1 v2 : Session) (l l1 l2 : Option (List FileAct))
    (line : Line) (chunk : List ℕ)
    → (h : Going game r r1 w w1 v1 l l1 line) → Consumes r1 r2 chunk
    → ((t : Standing) → IsSessionOf game t v1
    → Broke game w1 w2 t (Leaves game t v2 l1 l2) (whole_from (rest_from [] h.input) chunk))
    → RanToWrite (told_of game) game.keep (streams r r2 w w2) (Leaves game nothing v2 l l2)
ran_broke_in game r r1 r2 w w1 w2 v1 v2 l l1 l2 line chunk h took k =
    ran_broke game r r2 w h.opened w2 (Leaves game nothing v2 l l2) (h.input ++ chunk)
    (whole_lines h.input ++ whole_from (rest_from [] h.input) chunk)
    (Consumes-trans r r1 r2 h.input chunk h.took took)
    (inl (sym (whole_from-append [] h.input chunk))) h.wrote
    (heard_broke game h.opened w1 w2 nothing v1 v2 l l1 l2 (whole_lines h.input)
    (whole_from (rest_from [] h.input) chunk) h.heard k)

-- writing failed in the reply to the last line
pub ran_broke_last : (game : Game) (r r1 r2 w w1 w2 : Option (List ℕ)) (v1 v2 : Session)
    (l l1 l2 : Option (List FileAct)) (line : Line)
    → (h : Going game r r1 w w1 v1 l l1 line) → Consumes r1 r2 [] → IsAtEnd r2 → 0 < line.len
    → ((t : Standing) → IsSessionOf game t v1
    → Broke game w1 w2 t (Leaves game t v2 l1 l2) (rest_from [] h.input ∷ []))
    → RanToWrite (told_of game) game.keep (streams r r2 w w2) (Leaves game nothing v2 l l2)
ran_broke_last game r r1 r2 w w1 w2 v1 v2 l l1 l2 line h took end some k =
    ran_broke game r r2 w h.opened w2 (Leaves game nothing v2 l l2) h.input
    (whole_lines h.input ++ rest_from [] h.input ∷ [])
    (Consumes-kept r r1 r2 h.input h.took (keeps_of r1 r2 took))
    (inr (end, ap (λ x. whole_lines h.input ++ x) (sym (kept_some line (rest_from [] h.input) h.kept some)))) h.wrote
    (heard_broke game h.opened w1 w2 nothing v1 v2 l l1 l2 (whole_lines h.input) (rest_from [] h.input ∷ []) h.heard k)

pub ran_err : (game : Game) (r r' w w' : Option (List ℕ)) (P : List Typed → Standing → Type 0)
    (e : Result Place RunFault)
    → IsErrAnd e (λ x. x ≡ Writing) → RanToWrite (told_of game) game.keep (streams r r' w w') P
    → Ran (told_of game) game.keep (streams r r' w w') P e
ran_err game r r' w w' P (Ok p) h k = absurd h
ran_err game r r' w w' P (Err x) h k = subst (RanToFault (told_of game) game.keep (streams r r' w w') P) (sym h) k

keeps_same : (a : Option (List ℕ)) → Keeps a a
keeps_same None = tt
keeps_same (Some x) = refl

-- writing failed in the opening
pub opening_broke : (game : Game) (r w w' : Option (List ℕ)) (P : List Typed → Standing → Type 0)
    (e : Result Place RunFault)
    → IsErrAnd e (λ x. x ≡ Writing) → WroteSome w w' (told_on game []) → P [] nothing
    → Ran (told_of game) game.keep (streams r r w w') P e
opening_broke game r w w' P e h p q = ran_err game r r w w' P e h
    (in_opening (record { unread = keeps_same r; wrote = p; stands = q }))
