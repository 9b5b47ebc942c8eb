-- The heading of a session's file: three lines.
use Rattle.std.specs.Prelude.{◌≡◌, ℕ, List, [], ◌∷◌, ◌++◌, codes}
use Rattle.session_keeping.specs.declared.heading.Heading.{Heading}

-- a line and its end
abbrev pub ended : List ℕ → List ℕ
ended line = line ++ 10 ∷ []

abbrev pub heading_bytes : List ℕ → List ℕ → List ℕ
heading_bytes story options = ended (codes "play session 1") ++ (ended story ++ ended options)

-- the text is this heading, and then the lines of play
abbrev pub IsHeadingOf : List ℕ → Heading → Type 0
IsHeadingOf text h = text ≡ heading_bytes h.story.now h.options.now ++ h.lines.now
