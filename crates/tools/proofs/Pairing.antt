-- A compiled story tells what its source means; and it is refused for want of memory alone.
use Rattle.std.proofs.Common.{◌≡◌, ℕ, List, [], ◌∷◌, map, refl, ap, ◌∙◌, subst, Option, None, Some}
use Rattle.std.proofs.Common.{Result, Ok, Err, inl, inr}
use Rattle.std.specs.Io.KnownBytes.{Keeps}
use Rattle.zcore.specs.Turn.{Whole, plays, last_text}
use Rattle.zcore.specs.declared.header.Version.{Version}
use Rattle.zcore.specs.declared.header.Version.TheVariants.{V5, V8}
use Rattle.zcore.specs.declared.header.Header.{Header}
use Rattle.zcore.specs.declared.header.HeaderFault.{HeaderFault}
use Rattle.zcore.specs.declared.header.HeaderFault.TheVariants.{TooShort, UnknownVersion, WrongLength, WrongSum}
use Rattle.zcore.specs.declared.header.HeaderFault.TheVariants.{WrongAddress}
use Rattle.zcore.specs.Header.{Reads, IsOfVersion, StatesLength}
use Rattle.meaning.specs.Resolved.{ProgramOf}
use Rattle.meaning.specs.Plays.{Plays}
use Rattle.machine.specs.declared.load.LoadFault.TheVariants as loads
use Rattle.session.specs.declared.fault.OpenFault.{OpenFault}
use Rattle.session.specs.declared.fault.OpenFault.TheVariants as opens
use Rattle.session.specs.Replies.{OpensSession}
use Rattle.session.specs.declared.mode.Mode.TheVariants.{Profile}
use Rattle.session_run.specs.declared.fault.RunFault.{RunFault}
use Rattle.session_run.specs.declared.fault.RunFault.TheVariants.{Reading, Writing}
use Rattle.session.specs.Game.{game_of, telling_of}
use Rattle.session_lines.specs.Input.{lines_of, whole_lines}
use Rattle.session.specs.Naming.{last_asked}
use Rattle.session_lines.specs.Transcript.{Telling, Typed}
use Rattle.session_lines.specs.Names.{given_after}
use Rattle.session_run.specs.Ran.{Streams, Played, Ran, RanToWrite, in_opening, in_reply}
use Rattle.session_lines.specs.Standing.{Standing}
use Rattle.zcore.specs.declared.place.Place.{Place}
use Rattle.session_run.proofs.Said.{Agree}
use Rattle.tools.specs.Headline.{last_of, meant_by, WantsMemory}

-- the text of the last of some whole states is the last of their texts
pub last_said : (ws : List Whole) → last_text ws ≡ last_of (map (λ (w : Whole). w.text) ws)
last_said [] = refl
last_said (w ∷ []) = refl
last_said (w ∷ v ∷ ws) = last_said (v ∷ ws)

-- a story that plays a program tells what the program means
-- in the profile no name is asked for
none_asked : (ws : List Whole) → last_asked None ws ≡ None
none_asked [] = refl
none_asked (w ∷ []) = refl
none_asked (w ∷ v ∷ ws) = none_asked (v ∷ ws)

pub agrees : (story : List ℕ) (fuel : ℕ) (keep : Option ℕ) (p : ProgramOf)
    → ((lines : List (List ℕ)) → Plays story p fuel lines)
    → Agree (telling_of (game_of Profile story fuel keep)) (meant_by p fuel)
agrees story fuel keep p h = record {
  texts = λ lines. last_said (plays story fuel lines) ∙ ap last_of (h lines).texts;
  places = λ lines. (h lines).place;
  takes = λ line. refl;
  given = λ lines x. ap (λ asked. given_after asked x.line x.answer) (none_asked (plays story fuel lines));
  asked = λ line. refl;
}

-- a story has one version
one_version : (story : List ℕ) (v u : Version) → IsOfVersion story v → IsOfVersion story u → v ≡ u
one_version story V5 V5 e f = refl
one_version story V8 V8 e f = refl
one_version story V5 V8 e f = absurd (cc)
one_version story V8 V5 e f = absurd (cc)

-- a header that is read is not refused
read_whole : (story : List ℕ) (h : Header) (f : HeaderFault) → Reads story (Ok h) → Reads story (Err f) → ⊥
read_whole story h TooShort p q = q p.0
read_whole story h UnknownVersion p q = q.1 (h.version, p.5.version)
read_whole story h WrongLength p q = q.1.2
    (subst (StatesLength story) (one_version story h.version q.0 p.5.version q.1.1) p.1)
read_whole story h WrongSum p q = q.1.3 p.2
read_whole story h WrongAddress p q = q.1.4 (p.3, p.4)

-- so memory was refused where it is not opened
pub wants_memory : (story : List ℕ) (fuel : ℕ) (keep : Option ℕ) (h : Header) (f : OpenFault) → Reads story (Ok h)
    → OpensSession (game_of Profile story fuel keep) (Err f) → WantsMemory f
wants_memory story fuel keep h (opens.Load (loads.Header f)) p q = absurd (read_whole story h f p q)
wants_memory story fuel keep h (opens.Load loads.Memory) p q = inl refl
wants_memory story fuel keep h (opens.Standard f) p q = absurd q
wants_memory story fuel keep h opens.Memory p q = inr refl

pub keeps_all : (known : Option (List ℕ)) → Keeps known known
keeps_all None = tt
keeps_all (Some bytes) = refl

-- What is known of the lines that stand after a run may be followed by something else.

played_so : (telling : Telling) (keep : Option ℕ) (lines : List (List ℕ)) (written : List ℕ)
    (P Q : List Typed → Standing → Type 0)
    → ((xs : List Typed) (s : Standing) → P xs s → Q xs s) → Played telling keep lines written P
    → Played telling keep lines written Q
played_so telling keep lines written P Q so h = record {
  typed = h.typed;
  said = h.said;
  wrote = h.wrote;
  stands = so _ _ h.stands;
}

write_so : (telling : Telling) (keep : Option ℕ) (io : Streams) (P Q : List Typed → Standing → Type 0)
    → ((xs : List Typed) (s : Standing) → P xs s → Q xs s) → RanToWrite telling keep io P → RanToWrite telling keep io Q
write_so telling keep io P Q so (in_opening h) = in_opening (record {
  unread = h.unread;
  wrote = h.wrote;
  stands = so _ _ h.stands;
})
write_so telling keep io P Q so (in_reply h) = in_reply (record {
  input = h.input;
  typed = h.typed;
  last = h.last;
  more = h.more;
  took = h.took;
  said = h.said;
  part = h.part;
  rest = h.rest;
  whole = h.whole;
  wrote = h.wrote;
  stands = so _ _ h.stands;
})

pub ran_so : (telling : Telling) (keep : Option ℕ) (io : Streams) (P Q : List Typed → Standing → Type 0)
    → ((xs : List Typed) (s : Standing) → P xs s → Q xs s)
    → (result : Result Place RunFault) → Ran telling keep io P result
    → Ran telling keep io Q result
ran_so telling keep io P Q so (Ok place) h = record {
  input = h.input;
  written = h.written;
  took = h.took;
  ended = h.ended;
  wrote = h.wrote;
  played = played_so telling keep (lines_of h.input) h.written (λ xs s. P xs s × (place ≡ telling.place s.done))
      (λ xs s. Q xs s × (place ≡ telling.place s.done)) (λ xs s p. (so xs s p.0, p.1)) h.played;
}
ran_so telling keep io P Q so (Err Reading) h = record {
  input = h.input;
  written = h.written;
  took = h.took;
  wrote = h.wrote;
  played = played_so telling keep (whole_lines h.input) h.written P Q so h.played;
}
ran_so telling keep io P Q so (Err Writing) h = write_so telling keep io P Q so h
