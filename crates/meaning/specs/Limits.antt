-- The limits of the language, each once. Those of the machine are in `Layout` of `zcore`.
use Rattle.std.specs.Prelude.{◌+◌, ℕ, max, List, [], ◌∷◌}

-- the globals of a source; variables 16 to 255 are 240, and eight hold temporaries
abbrev pub most_globals : ℕ
most_globals = 232

-- the properties that a source defines, beside `name`
abbrev pub most_properties : ℕ
most_properties = 62

-- the words of a property's value
abbrev pub most_property_words : ℕ
most_property_words = 32

-- the objects of a source
abbrev pub most_objects : ℕ
most_objects = 2000

-- the words of an object's short name
abbrev pub longest_short_name : ℕ
longest_short_name = 255

-- the bytes of an array
abbrev pub most_array_bytes : ℕ
most_array_bytes = 32000

-- the arguments of a call
abbrev pub most_arguments : ℕ
most_arguments = 7

-- the temporaries of an expression of a statement
abbrev pub most_temporaries : ℕ
most_temporaries = 48

-- How many temporaries a form with operands needs, of which these need so many, in order of evaluation, and so many
-- stand before them: where they are e1, e2, .. it is the greatest of (i - 1) + need(ei), and at least 1.
abbrev pub operands : ℕ → List ℕ → ℕ
operands before [] = 1
operands before (n ∷ ns) = max (before + n) (operands (before + 1) ns)
