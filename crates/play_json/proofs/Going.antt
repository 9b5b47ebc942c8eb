-- Steps of a run.
use Rattle.std.proofs.Common.{◌≡◌, ℕ, ◌<◌, Option, None, Some, List, [], ◌∷◌, ◌++◌, refl, ap, sym, ◌∙◌, subst, inl, inr}
use Rattle.std.proofs.Common.{Result, Ok, Err, IsErrAnd}
use Rattle.std.specs.Io.KnownBytes.{Consumes, Keeps, IsAtEnd}
use Rattle.std.proofs.KnownBytes.{Consumes-nil, Consumes-trans, Consumes-kept, Keeps-refl}
use Rattle.zcore.specs.declared.place.Place.{Place}
use Rattle.session_run.specs.declared.fault.RunFault.{RunFault}
use Rattle.session_run.specs.declared.fault.RunFault.TheVariants.{Writing}
use Rattle.session.specs.Game.{Game, InEach, IsSessionOf, place_on, telling_of}
use Rattle.session_run.specs.Ran.{LinesRead, Streams}
use Rattle.session.specs.Session.{Session}
use Rattle.session_lines.specs.declared.line.Line.{Line}
use Rattle.session_lines.specs.Input.{whole_from, rest_from, last_line, lines_of, whole_lines}
use Rattle.session_lines.specs.Kept.{IsKept}
use Rattle.session_lines.specs.Standing.{nothing}
use Rattle.session_lines.proofs.Cutting.{whole_from-append, rest_from-append, kept_some}
use Rattle.play_json.specs.Answers.{opening_of}
use Rattle.play_json.specs.Heard.{BrokeIn, Heard, IsBroken}
use Rattle.play_json.specs.Ran.{IsOpened, RanAsObjects, RanToRead, RanToWrite, RanWhole, in_opening, in_reply}
use Rattle.play_json.specs.Lines.{Lines, no_lines}
use Rattle.play_json.specs.Said.{Held, held}
use Rattle.play_json.specs.Told.{BrokeAs}
use Rattle.play_json.specs.declared.first.First.{First}
use Rattle.play_json.proofs.Chaining.{broke_one, broke_then, heard_then}

abbrev pub streams : (r r' w w' : Option (List ℕ)) → Streams
streams r r' w w' = record { unread_before = r; unread_after = r'; held_before = w; held_after = w' }

-- a run on its way: the opening was written, and this input heard
pub record Going (first : First) (r r' w w' : Option (List ℕ)) (v : Session) (h' : Held) (line : Line) : Type 0 where
  pub input : List ℕ
  pub took : Consumes r r' input
  pub opened : Option (List ℕ)
  pub opening : IsOpened first v w opened
  pub heard : Heard (whole_lines input) opened (held v no_lines) w' h'
  pub kept : IsKept line (rest_from [] input)

keeps_of : (a b : Option (List ℕ)) → Consumes a b [] → Keeps a b
keeps_of None b p = tt
keeps_of (Some x) None p = absurd p
keeps_of (Some x) (Some y) p = sym p

pub going_start : (first : First) (r w w1 : Option (List ℕ)) (v : Session) (line : Line) → IsOpened first v w w1 → IsKept line []
    → Going first r r w w1 v (held v no_lines) line
going_start first r w w1 v line p kept = record {
  input = [];
  took = Consumes-nil r;
  opened = w1;
  opening = p;
  heard = (refl, refl);
  kept = kept;
}

pub going_on : (first : First) (r r1 r2 w w1 w2 : Option (List ℕ)) (v : Session) (h1 h2 : Held) (line line' : Line) (chunk : List ℕ)
    → (h : Going first r r1 w w1 v h1 line) → Consumes r1 r2 chunk
    → Heard (whole_from (rest_from [] h.input) chunk) w1 h1 w2 h2
    → IsKept line' (rest_from (rest_from [] h.input) chunk) → Going first r r2 w w2 v h2 line'
going_on first r r1 r2 w w1 w2 v h1 h2 line line' chunk h took k kept = record {
  input = h.input ++ chunk;
  took = Consumes-trans r r1 r2 h.input chunk h.took took;
  opened = h.opened;
  opening = h.opening;
  heard = subst (λ ls. Heard ls h.opened (held v no_lines) w2 h2) (sym (whole_from-append [] h.input chunk))
      (heard_then (whole_lines h.input) (whole_from (rest_from [] h.input) chunk) h.opened w1 w2 (held v no_lines) h1 h2
      h.heard k);
  kept = subst (IsKept line') (sym (rest_from-append [] h.input chunk)) kept;
}

-- the end of the input was reached
pub ran_whole : (first : First) (r r1 r2 w w1 w2 : Option (List ℕ)) (v : Session) (h1 : Held) (v2 : Session) (l2 : Lines) (line : Line)
    (p : Place) → (h : Going first r r1 w w1 v h1 line) → Consumes r1 r2 [] → IsAtEnd r2
    → Heard (last_line (rest_from [] h.input)) w1 h1 w2 (held v2 l2)
    → InEach v2 (λ game s. p ≡ place_on game s.done) → RanWhole first (streams r r2 w w2) v v2 p
ran_whole first r r1 r2 w w1 w2 v h1 v2 l2 line p h took end k place = record {
  input = h.input;
  ended = end;
  played = record {
    took = Consumes-kept r r1 r2 h.input h.took (keeps_of r1 r2 took);
    opened = h.opened;
    opening = h.opening;
    kept = l2;
    heard = heard_then (whole_lines h.input) (last_line (rest_from [] h.input)) h.opened w1 w2 (held v no_lines) h1
        (held v2 l2) h.heard k;
  };
  place_is = place;
}

-- a read failed
pub ran_read : (first : First) (r r1 r2 w w1 : Option (List ℕ)) (v v1 : Session) (l1 : Lines) (line : Line)
    → Going first r r1 w w1 v (held v1 l1) line → Keeps r1 r2 → RanToRead first (streams r r2 w w1) v v1
ran_read first r r1 r2 w w1 v v1 l1 line h keeps = record {
  input = h.input;
  played = record {
    took = Consumes-kept r r1 r2 h.input h.took keeps;
    opened = h.opened;
    opening = h.opening;
    kept = l1;
    heard = h.heard;
  };
}

-- the reads had no end
pub ran_long : (first : First) (r r1 w w1 : Option (List ℕ)) (v v1 : Session) (l1 : Lines) (line : Line)
    → Going first r r1 w w1 v (held v1 l1) line → RanToRead first (streams r r1 w w1) v v1
ran_long first r r1 w w1 v v1 l1 line h = ran_read first r r1 r1 w w1 v v1 l1 line h (Keeps-refl r1)

-- writing failed in a reply to a line of the chunk
pub ran_broke_in : (first : First) (r r1 r2 w w1 w2 : Option (List ℕ)) (v : Session) (h1 : Held) (v2 : Session) (l2 : Lines) (line : Line)
    (chunk : List ℕ) → (h : Going first r r1 w w1 v h1 line) → Consumes r1 r2 chunk
    → BrokeIn (whole_from (rest_from [] h.input) chunk) w1 h1 w2 (held v2 l2) → RanToWrite first (streams r r2 w w2) v v2
ran_broke_in first r r1 r2 w w1 w2 v h1 v2 l2 line chunk h took k = in_reply (record {
  input = h.input ++ chunk;
  lines = whole_lines h.input ++ whole_from (rest_from [] h.input) chunk;
  took = Consumes-trans r r1 r2 h.input chunk h.took took;
  read = inl (sym (whole_from-append [] h.input chunk));
  opened = h.opened;
  opening = h.opening;
  kept = l2;
  broke = broke_then (whole_lines h.input) (whole_from (rest_from [] h.input) chunk) h.opened w1 w2 (held v no_lines) h1
      (held v2 l2) h.heard k;
})

-- writing failed in the reply to the last line
pub ran_broke_last : (first : First) (r r1 r2 w w1 w2 : Option (List ℕ)) (v : Session) (h1 : Held) (v2 : Session) (l2 : Lines)
    (line : Line) → (h : Going first r r1 w w1 v h1 line) → Consumes r1 r2 [] → IsAtEnd r2 → 0 < line.len
    → IsBroken (rest_from [] h.input) w1 h1 w2 (held v2 l2) → RanToWrite first (streams r r2 w w2) v v2
ran_broke_last first r r1 r2 w w1 w2 v h1 v2 l2 line h took end some k = in_reply (record {
  input = h.input;
  lines = whole_lines h.input ++ rest_from [] h.input ∷ [];
  took = Consumes-kept r r1 r2 h.input h.took (keeps_of r1 r2 took);
  read = inr (end, ap (λ x. whole_lines h.input ++ x) (sym (kept_some line (rest_from [] h.input) h.kept some)));
  opened = h.opened;
  opening = h.opening;
  kept = l2;
  broke = broke_then (whole_lines h.input) (rest_from [] h.input ∷ []) h.opened w1 w2 (held v no_lines) h1 (held v2 l2)
      h.heard (broke_one (rest_from [] h.input) [] w1 w2 h1 (held v2 l2) k);
})

pub ran_err : (first : First) (io : Streams) (v v' : Session) (e : Result Place RunFault) → IsErrAnd e (λ x. x ≡ Writing)
    → RanToWrite first io v v' → RanAsObjects first io v v' e
ran_err first io v v' (Ok p) h k = absurd h
ran_err first io v v' (Err x) h k = subst (λ f. RanAsObjects first io v v' (Err f)) (sym h) k

-- writing failed in the opening
pub opening_broke : (first : First) (r w w' : Option (List ℕ)) (v v' : Session) (e : Result Place RunFault)
    → IsErrAnd e (λ x. x ≡ Writing) → v' ≡ v
    → ((game : Game) → IsSessionOf game nothing v → BrokeAs game (opening_of (telling_of game)) (Some first) w w')
    → RanAsObjects first (streams r r w w') v v' e
opening_broke first r w w' v v' e h same p = ran_err first (streams r r w w') v v' e h (in_opening (Keeps-refl r) same p)
