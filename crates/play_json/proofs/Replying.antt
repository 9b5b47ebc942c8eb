-- What is written of what is said.
use Rattle.std.proofs.Common.{◌≡◌, ℕ, ◌<◌, Option, List, length, refl, sym, subst, inl, inr, Result, Ok, Err}
use Rattle.session.specs.Game.{Game, IsSessionOf}
use Rattle.session_lines.specs.Standing.{Standing, longest_line}
use Rattle.session_lines.specs.Wrote.{WroteText}
use Rattle.play_json.specs.Objects.{IsLineOf, object_of}
use Rattle.play_json.specs.declared.kind.Kind.TheVariants.{TooLong}
use Rattle.play_json.specs.declared.reply.Reply.{Reply}
use Rattle.play_json.specs.Answers.{Answer, IsAnswer, saying}
use Rattle.play_json.specs.Heard.{Answers, IsBroken}
use Rattle.play_json.specs.Said.{Held, IsSaying, Leaves, Matches, MayBeSaid, Says, SaysNothing, SaysThis, Stands}
use Rattle.play_json.specs.Told.{IsReplyOf, Tells, TellsAs}
use Rattle.play_json.specs.declared.first.First.{First}
use Rattle.play_json.specs.declared.said.Said.{Said}
use Rattle.play_json.proofs.Saying.{at_long, leaves_all}

-- what may be said of a line is said to it
pub says_of : {E : Type 0} (line : List ℕ) (old new : Held) (r : Result Said E)
    → ((game : Game) (s : Standing) → Stands game s old
    → (a : Answer) × IsAnswer game s old.lines.marks line a × MayBeSaid game a new r)
    → Says line old new r
says_of line old new (Ok said) h = h
says_of line old new (Err e) h = h

-- a reply's line was written, or a beginning of it
pub tells_by : {E : Type 0} (game : Game) (a : Answer) (first : Option First) (w w' : Option (List ℕ)) (reply : Reply)
    (line : List ℕ) (r : Result (Unit {0}) E) → IsReplyOf game a first reply → IsLineOf (object_of reply) line
    → WroteText w w' line r → TellsAs game a first w w' r
tells_by game a first w w' reply line (Ok done) says object wrote =
    record { reply = reply; says = says; line = line; object = object; wrote = wrote }
tells_by game a first w w' reply line (Err e) says object wrote =
    inr (record { reply = reply; says = says; line = line; object = object; wrote = wrote })

-- a line was answered, and what is said was told
pub answers_by : {E : Type 0} (line : List ℕ) (w w' : Option (List ℕ)) (h h1 h2 : Held) (said : Said)
    (r : Result (Unit {0}) E) → SaysThis line h h1 said
    → ((game : Game) (a : Answer) → IsSessionOf game a.standing h1.session → Matches a said → Tells game a w w' r)
    → h2 ≡ h1 → Answers line w h w' h2 r
answers_by line w w' h h1 h2 said (Ok done) says tells same = λ game s p.
    let q = says game s p in
    (q.0, q.1, tells game q.0 q.2.1.stands.session q.2.0, subst (Leaves game q.0) (sym same) q.2.1)
answers_by line w w' h h1 h2 said (Err e) says tells same = λ game s p.
    let q = says game s p in (
      q.0,
      q.1,
      tells game q.0 q.2.1.stands.session q.2.0,
      subst (λ (x : Held). IsSessionOf game q.0.standing x.session) (sym same) q.2.1.stands.session,
    )

-- memory was refused for what is said
pub answers_none : (line : List ℕ) (w : Option (List ℕ)) (h h1 : Held) → SaysNothing line h h1
    → IsBroken line w h w h1
answers_none line w h h1 says = λ game s p.
    let q = says game s p in
    (q.0, q.1, inl refl, q.2)

-- a line that is too long is refused
pub long_says : (line : List ℕ) (h : Held) (said : Said) → longest_line < length line → IsSaying TooLong said
    → SaysThis line h h said
long_says line h said long is = λ game s p. (
  saying TooLong s h.lines.marks,
  at_long game s h.lines.marks line long,
  leaves_all game TooLong s h said p is,
)
