-- The arguments of the command line, as `clap` keeps them, and what is read of them.
use Rattle.std.specs.Prelude.{◌≡◌, ◌⊎◌, ℕ, Bool, List, [], ◌∷◌, false, Some, None, pos, ⊤, codes}
use Rattle.std.specs.List.{slice_index_or}
use Rattle.clap.specs.Facts.{args_of, groups_of}
use Rattle.clap.specs.Built.{IsParsedFrom}
use Rattle.clap.specs.Matches.{found_of, one_text}
use Rattle.clap.specs.Values.{Accepts, read_as, reading_of}
use Rattle.clap.specs.declared.builder.arg.Arg.{Arg}
use Rattle.clap.specs.declared.builder.command.Command.{Command}
use Rattle.clap.specs.declared.builder.command.Command.TheViews.{out-Command}
use Rattle.clap.specs.declared.builder.value_parser.Reading.{Reading}
use Rattle.clap.specs.declared.builder.value_parser.ValueParser.TheVariants.{Signed}
use Rattle.clap.specs.declared.parser.matches.ArgMatches.{ArgMatches}
use Rattle.clap.specs.declared.parser.matches.Found.{Found}
use Rattle.terminal.specs.Range.{least_fuel, most_fuel, most_undo}

-- its value is a number from `low` to `high`
abbrev pub TakesNumber : ℕ → ℕ → Arg → Type 0
TakesNumber low high a = a.value_parser ≡ Some (Signed (pos low) (pos high))

-- no argument was added yet
abbrev pub HasNoArgument : Command → Type 0
HasNoArgument c = (args_of c ≡ []) × (groups_of c ≡ []) × ((out-Command c).has_globals ≡ false)

-- an argument of this name, in no group and not global
abbrev pub IsNamed : List ℕ → Arg → Type 0
IsNamed name a = (a.id.now ≡ name) × (a.groups.items ≡ []) × (a.global ≡ false)

abbrev pub AreNamed : List (List ℕ) → List Arg → Type 0
AreNamed [] [] = ⊤
AreNamed (name ∷ names) (a ∷ given) = IsNamed name a × AreNamed names given
AreNamed _ _ = ⊥

-- the names of the arguments, in the order in which they are added
abbrev pub names : List (List ℕ)
names = codes "fuel" ∷ codes "undo" ∷ codes "why" ∷ codes "map" ∷ codes "standard" ∷ codes "profile"
    ∷ codes "seed" ∷ codes "session" ∷ codes "saves" ∷ codes "transcript" ∷ codes "wrap" ∷ codes "json"
    ∷ codes "screen" ∷ codes "size-file" ∷ codes "no-screen" ∷ codes "styles" ∷ codes "check" ∷ codes "explain"
    ∷ codes "story" ∷ []

-- all arguments: the first two take numbers
pub record AreArguments (given : List Arg) : Type 0 where
  pub named : AreNamed names given
  pub fuel : (d : Arg) → TakesNumber least_fuel most_fuel (slice_index_or given 0 d)
  pub undo : (d : Arg) → TakesNumber 0 most_undo (slice_index_or given 1 d)

-- nothing was read of a name, or a text of which Q holds, as the parser reads it
abbrev pub MayRead : Found → List ℕ → (List ℕ → Type 0) → Reading → Type 0
MayRead f name Q how = (one_text f name ≡ None) ⊎ ((t : List ℕ) × (one_text f name ≡ Some (read_as how t)) × Q t)

-- nothing was read of a name, or a number from `low` to `high`
abbrev pub MayReadNumber : List ℕ → ℕ → ℕ → Found → Type 0
MayReadNumber name low high f = (any_case : Bool)
    × MayRead f name (Accepts any_case (Signed (pos low) (pos high))) (reading_of (Signed (pos low) (pos high)))

-- of any words that pass this command that may be read
abbrev pub ReadsNumber : List ℕ → ℕ → ℕ → Command → Type 0
ReadsNumber name low high c = (m : ArgMatches) → IsParsedFrom c m → MayReadNumber name low high (found_of m)
