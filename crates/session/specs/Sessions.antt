-- What a session is: the play of a story on the lines that stand.
use Rattle.std.specs.Prelude.{◌≡◌, ◌≤◌, ◌+◌, ℕ, List, [], ◌++◌, length, map, drop, Option, IfSome}
use Rattle.std.specs.List.{All}
use Rattle.zcore.specs.Header.{static_base_of}
use Rattle.zcore.specs.Turn.{Whole, Play, plays_of, last_text}
use Rattle.session_lines.specs.Standing.{Standing, reached}
use Rattle.session.specs.Session.{Session, largest_record}

-- all lines that stand, in the order in which they are played
abbrev pub all_lines : Standing → List (List ℕ)
all_lines s = s.done ++ s.undone

-- The session holds the whole states of the story in play on the lines that stand, from the oldest that it keeps on,
-- and is at the one after the lines done.
pub record IsSession (story : List ℕ) (units : ℕ) (play : Play) (most : Option ℕ) (s : Standing)
    (v : Session) : Type 0 where
  -- each line that stands was given to a waiting machine
  pub whole : length (plays_of play (all_lines s)) ≡ length s.done + length s.undone + 1
  pub reach : s.kept ≤ length s.done
  pub bound : IfSome most (λ n. s.kept + length s.undone ≤ n)
  pub keep : v.keep ≡ most
  pub fuel : v.fuel ≡ units
  pub static_base : v.static_base ≡ static_base_of story
  pub opening : v.opening ≡ last_text (plays_of play [])
  pub states : v.states ≡ map (λ (w : Whole). w.state) (reached s (plays_of play (all_lines s)))
  pub places : v.places ≡ map (λ (w : Whole). w.place) (reached s (plays_of play (all_lines s)))
  -- the oldest state has no turn before it
  pub texts : v.texts ≡ map (λ (w : Whole). w.text) (drop 1 (reached s (plays_of play (all_lines s))))
  pub lines : v.lines ≡ reached s (all_lines s)
  -- there are as many records as turns that can be undone or done again: under a bound, no more than it
  pub records : length v.sizes ≡ s.kept + length s.undone
  -- a record holds at most one cell for each byte of dynamic memory and 72,559 for stack, frames and registers
  pub small : All (λ size. size ≤ largest_record (static_base_of story)) v.sizes
  pub present : v.present ≡ s.kept
