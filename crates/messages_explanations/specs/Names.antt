-- By which names an explanation is found.
use Rattle.std.specs.Prelude.{◌≡◌, ◌++◌, ℕ, Bool, true, List}
use Rattle.std.specs.Str.{str_eq_ignore_ascii_case}
use Rattle.messages_explanations.specs.declared.explanation.Explanation.{Explanation}
use Rattle.messages_explanations.specs.declared.program.Explanations.{Explanations}

-- the explanation has this name, in capital or in small letters
abbrev pub is_named : List ℕ → Explanation → Bool
is_named name explanation = str_eq_ignore_ascii_case explanation.name.now name

abbrev pub IsNamed : List ℕ → Explanation → Type 0
IsNamed name explanation = is_named name explanation ≡ true

-- a program's explanations, one subject after another
abbrev pub all_of : Explanations → List Explanation
all_of e = e.first.now ++ (e.second.now ++ e.third.now)
