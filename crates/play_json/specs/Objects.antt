-- The object of a reply, and the line that has it.
use Rattle.std.specs.Prelude.{◌≡◌, ℕ, List, [], ◌∷◌, ◌++◌, Option, None, Some, codes, string_bytes, option_map}
use Rattle.json.specs.Lex.{tokens}
use Rattle.json.specs.Print.{print}
use Rattle.serde_json.specs.Data.{Data, null, string, number, unsigned, object, Members, no_members, put}
use Rattle.serde_json.specs.View.{view}
use Rattle.serde_json.specs.Written.{IsInOrder}
use Rattle.play_json.specs.Headings.{with_heading}
use Rattle.play_json.specs.Names.{awaited_name, kind_name, place_words}
use Rattle.zcore.specs.declared.place.Place.{Place}
use Rattle.zcore.specs.declared.place.Place.TheVariants as places
use Rattle.play_json.specs.declared.kind.Kind.{Kind}
use Rattle.play_json.specs.declared.kind.Kind.TheVariants as kinds
use Rattle.play_json.specs.declared.first.First.{First}
use Rattle.play_json.specs.declared.reply.Reply.{Reply}

-- what was asked for is under the word of the kind
abbrev pub with_shown : List ℕ → Option Data → Members → Members
with_shown name None members = members
with_shown name (Some value) members = put name value members

-- the spans of the text that have a style, where styles are kept
abbrev pub with_styles : Option Data → Members → Members
with_styles None members = members
with_styles (Some spans) members = put (codes "styles") spans members

-- what only the first object of a session tells
abbrev pub seed_data : Option ℕ → Data
seed_data None = null
seed_data (Some seed) = number (unsigned seed)

abbrev pub with_first : Option First → Members → Members
with_first None members = members
with_first (Some first) members = put (codes "seed") (seed_data first.seed) members

-- why a line is refused
abbrev pub with_why : Kind → Members → Members
with_why kinds.Refused members = put (codes "why") (string (codes "characters")) members
with_why kinds.TooLong members = put (codes "why") (string (codes "too long")) members
with_why kinds.NoBytes members = put (codes "why") (string (codes "no such bytes")) members
with_why kinds.NoMark members = put (codes "why") (string (codes "no such mark")) members
with_why kinds.GivenUp members = put (codes "why") (string (codes "given up")) members
with_why _ members = members

-- how a story ended, or null where it did not
abbrev pub over_data : Place → Data
over_data places.Waiting = null
over_data places.Quit = string (codes "quit")
over_data (places.Limit limit) = string (codes "limit")
over_data (places.Fault fault) = string (codes "fault")

abbrev pub members_of : Reply → Members
members_of reply =
    put (codes "undone") (number (unsigned reply.undone))
    (put (codes "done") (number (unsigned reply.done))
    (put (codes "over") (over_data reply.place)
    (put (codes "place") (string (place_words reply.place))
    (put (codes "waits") (string (awaited_name reply.awaited))
    (put (codes "reply") (string (kind_name reply.kind))
    (with_shown (kind_name reply.kind) (option_map view reply.shown)
    (with_why reply.kind
    (with_heading reply.heading
    (with_first reply.first
    (with_styles (option_map view reply.styles)
    (put (codes "window") (view reply.window)
    (put (codes "status") (view reply.status)
    (put (codes "text") (string (string_bytes reply.text)) no_members)))))))))))))

abbrev pub object_of : Reply → Data
object_of reply = object (members_of reply)

-- what is told first where a kept session goes on: how many lines were played before
abbrev pub resumed_members : ℕ → First → Members
resumed_members lines first =
    put (codes "reply") (string (codes "resumed"))
    (put (codes "resumed") (number (unsigned lines))
    (with_first (Some first) no_members))

abbrev pub resumed_data : ℕ → First → Data
resumed_data lines first = object (resumed_members lines first)

-- the text of some data in JSON, without spaces, and a new line after it
pub record IsLineOf (value : Data) (line : List ℕ) : Type 0 where
  pub text : List ℕ
  pub ends : line ≡ text ++ 10 ∷ []
  pub compact : text ≡ print (tokens text)
  pub order : IsInOrder text value
