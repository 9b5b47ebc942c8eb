-- A telling that tells of lines that can be typed in the profile what a program means, tells the meaning of lines of ASCII,
-- but for `/status`, which it answers itself.
use Rattle.std.proofs.Common.{◌≡◌, ℕ, zero, suc, ◌-◌, List, [], ◌∷◌, ◌++◌, length, drop, refl, ap, ◌∙◌}
use Rattle.std.proofs.Common.{Bool, true, false, Option, None, Some, if◌then◌else◌}
use Rattle.std.specs.Prelude.{◌==◌, bytes_eq, codes}
use Rattle.std.specs.List.{All}
use Rattle.std.specs.Str.{IsAscii}
use Rattle.std.proofs.lemmas.Slice.Eq.{bytes_eq-Decides}
use Rattle.std.proofs.lemmas.List.Elements.{All-nil, All-cons, All-head, All-tail, All-append, All-take, All-drop}
use Rattle.zcore.specs.Turn.{is_waiting}
use Rattle.meaning.specs.Resolved.{ProgramOf}
use Rattle.session_lines.specs.Standing.{Standing, is_typable, nothing, undo_from, redo_from, redo_of, taken}
use Rattle.session_lines.specs.Transcript.{Telling, Typed, Answer, note, answer_of, answer_line, answer_redo, answer_undo}
use Rattle.session_lines.specs.Transcript.{replies_of, standing_after}
use Rattle.tools.specs.Headline.{meant_by}
use Rattle.tools.specs.Standard.{AreAscii, TellsMeaning, asks_status, meant_after, replies_without_status, without_status}

abbrev IsTypable : List ℕ → Type 0
IsTypable line = is_typable line ≡ true

abbrev pub AreTypable : List (List ℕ) → Type 0
AreTypable lines = All IsTypable lines

-- It tells of these lines what a program means, is given lines of ASCII as they are, and answers only `/status` itself.
pub record Agrees (p : ProgramOf) (fuel : ℕ) (a : Telling) : Type 0 where
  pub texts : (lines : List (List ℕ)) → AreTypable lines → a.text lines ≡ (meant_by p fuel).text lines
  pub places : (lines : List (List ℕ)) → AreTypable lines → a.place lines ≡ (meant_by p fuel).place lines
  pub takes : (line : List ℕ) → IsAscii line → a.takes line ≡ is_typable line
  pub given : (lines : List (List ℕ)) (x : Typed) → AreTypable lines → is_waiting (a.place lines) ≡ true
      → a.given lines x ≡ x.line
  pub for_story : (line : List ℕ) → bytes_eq line (codes "/status") ≡ false → a.asked line ≡ None
  pub status : (reply : List (List ℕ) → List ℕ) × (a.asked (codes "/status") ≡ Some reply)

-- Lines that stand are typable

record IsSound (s : Standing) : Type 0 where
  done : AreTypable s.done
  undone : AreTypable s.undone

undo_sound : (kept : ℕ) (s : Standing) → IsSound s → IsSound (undo_from kept s)
undo_sound zero s h = h
undo_sound (suc kept) s h = record {
  done = All-take IsTypable (length s.done - 1) s.done h.done;
  undone = All-append IsTypable (drop (length s.done - 1) s.done) s.undone
      (All-drop IsTypable (length s.done - 1) s.done h.done) h.undone;
}

redo_sound : (undone : List (List ℕ)) (s : Standing) → AreTypable undone → IsSound s → IsSound (redo_from undone s)
redo_sound [] s u h = h
redo_sound (line ∷ lines) s u h = record {
  done = All-append IsTypable s.done (line ∷ []) h.done
      (All-cons IsTypable line [] (All-head IsTypable line lines u) (All-nil IsTypable));
  undone = All-tail IsTypable line lines u;
}

more_typable : (s : Standing) (line : List ℕ) → IsSound s → is_typable line ≡ true → AreTypable (s.done ++ line ∷ [])
more_typable s line h e = All-append IsTypable s.done (line ∷ []) h.done (All-cons IsTypable line [] e (All-nil IsTypable))

taken_sound : (keep : Option ℕ) (s : Standing) (line : List ℕ) → IsSound s → is_typable line ≡ true
    → IsSound (taken keep line s)
taken_sound keep s line h e = record { done = more_typable s line h e; undone = All-nil IsTypable }

module _ (p : ProgramOf) (fuel : ℕ) (a : Telling) (h : Agrees p fuel a) (keep : Option ℕ) where
  abbrev b : Telling
  b = meant_by p fuel

  module _ (s : Standing) (sound : IsSound s) (x : Typed) where
    -- A line for the story

    line_same : (takes waits : Bool) → a.takes x.line ≡ takes → is_typable x.line ≡ takes
        → is_waiting (a.place s.done) ≡ waits → is_waiting (b.place s.done) ≡ waits
        → answer_line None a keep s x ≡ answer_line None b keep s x
    line_same false waits ta tb wa wb = rw (ta, tb) refl
    line_same true false ta tb wa wb = rw (ta, tb, wa, wb) refl
    line_same true true ta tb wa wb =
        rw (ta, tb, wa, wb, h.given s.done x sound.done wa)
        (ap (λ t. if x.refused then (record { reply = note (codes "[No memory: line not taken.]"); standing = s })
        else (record { reply = t; standing = taken keep x.line s }))
        (h.texts (s.done ++ x.line ∷ []) (more_typable s x.line sound tb)))

    line_sound : (takes waits : Bool) → is_typable x.line ≡ takes → is_waiting (b.place s.done) ≡ waits
        → (refused : Bool) → x.refused ≡ refused → IsSound (answer_line None b keep s x).standing
    line_sound false waits tb wb refused r = rw tb sound
    line_sound true false tb wb refused r = rw (tb, wb) sound
    line_sound true true tb wb true r = rw (tb, wb, r) sound
    line_sound true true tb wb false r = rw (tb, wb, r) (taken_sound keep s x.line sound tb)

    -- Any line

    redo_same : answer_redo a s ≡ answer_redo b s
    redo_same =
        ap (λ t. let o : Answer = record {
          reply = if length s.undone == 0 then note (codes "[Nothing to redo.]") else note (codes "[Redone.]") ++ t;
          standing = redo_of s;
        } in o) (h.texts (redo_of s).done (redo_sound s.undone s sound.undone sound).done)

    answer_same : IsAscii x.line → asks_status x ≡ false → answer_of a keep s x ≡ answer_of b keep s x
    unfolding answer_of
    answer_same ascii for_story =
        let undo : Bool = bytes_eq x.line (codes "/undo") in
        let redo : Bool = bytes_eq x.line (codes "/redo") in
        ap (λ o. if undo then answer_undo s else (if redo then answer_redo a s else answer_line o a keep s x))
        (h.for_story x.line for_story)
        ∙ ap (λ t. if undo then answer_undo s else (if redo then answer_redo a s else t))
        (line_same (is_typable x.line) (is_waiting (b.place s.done)) (h.takes x.line ascii) refl
        (ap is_waiting (h.places s.done sound.done)) refl)
        ∙ ap (λ t. if undo then answer_undo s else (if redo then t else answer_line None b keep s x)) redo_same

    either_sound : (c : Bool) (o q : Answer) → IsSound o.standing → IsSound q.standing
        → IsSound (if c then o else q).standing
    either_sound true o q i j = i
    either_sound false o q i j = j

    answer_sound : IsSound (answer_of b keep s x).standing
    unfolding answer_of
    answer_sound =
        either_sound (bytes_eq x.line (codes "/undo")) _ _ (undo_sound s.kept s sound)
        (either_sound (bytes_eq x.line (codes "/redo")) _ _ (redo_sound s.undone s sound.undone sound)
        (line_sound (is_typable x.line) (is_waiting (b.place s.done)) refl refl x.refused refl))

    status_leaves : asks_status x ≡ true → (answer_of a keep s x).standing ≡ s
    unfolding answer_of
    status_leaves asks =
        let e : x.line ≡ codes "/status" = (bytes_eq-Decides x.line (codes "/status")).0 asks in
        let asked : a.asked x.line ≡ Some h.status.0 = ap a.asked e ∙ h.status.1 in
        rw (asked, e) refl

  -- Many lines

  record SameFrom (s : Standing) (xs : List Typed) : Type 0 where
    replies : replies_without_status a keep s xs ≡ replies_of b keep s (without_status xs)
    standing : standing_after a keep s xs ≡ standing_after b keep s (without_status xs)
    sound : IsSound (standing_after b keep s (without_status xs))

  same_more : (x : Typed) (xs : List Typed) (s : Standing) → IsSound s → IsAscii x.line
      → ((t : Standing) → IsSound t → SameFrom t xs) → (asks : Bool) → asks_status x ≡ asks → SameFrom s (x ∷ xs)
  same_more x xs s sound ascii rest true asks =
      let stays = status_leaves s sound x asks in
      let more = rest s sound in
      record {
        replies = rw (asks, stays) more.replies;
        standing = rw (asks, stays) more.standing;
        sound = rw asks more.sound;
      }
  same_more x xs s sound ascii rest false asks =
      let same = answer_same s sound x ascii asks in
      let more = rest (answer_of b keep s x).standing (answer_sound s sound x) in
      record {
        replies = rw (asks, same) (ap (λ t. (answer_of b keep s x).reply ++ t) more.replies);
        standing = rw (asks, same) more.standing;
        sound = rw asks more.sound;
      }

  same_from : (xs : List Typed) (s : Standing) → IsSound s → AreAscii xs → SameFrom s xs
  same_from [] s sound ascii = record { replies = refl; standing = refl; sound = sound }
  same_from (x ∷ xs) s sound ascii =
      let Ascii = λ (y : Typed). IsAscii y.line in
      same_more x xs s sound (All-head Ascii x xs ascii) (λ t i. same_from xs t i (All-tail Ascii x xs ascii)) (asks_status x)
      refl

  begun : IsSound nothing
  begun = record { done = All-nil IsTypable; undone = All-nil IsTypable }

  pub tells_meaning : TellsMeaning p fuel keep a
  tells_meaning = record {
    transcript = λ typed ascii. ap (λ t. t ++ replies_without_status a keep nothing typed)
        (h.texts [] (All-nil IsTypable))
        ∙ ap (λ t. b.text [] ++ t) (same_from typed nothing begun ascii).replies;
    standing = λ typed ascii. (same_from typed nothing begun ascii).standing;
    place = λ typed ascii. h.places (meant_after p fuel keep typed).done (same_from typed nothing begun ascii).sound.done;
  }
