-- What a command with all arguments reads of those that take numbers.
use Rattle.std.proofs.Common.{◌≡◌, ◌<◌, ℕ, List, [], ◌∷◌, length, codes, refl, subst, arith}
use Rattle.std.specs.List.{slice_index_or}
use Rattle.std.specs.Prelude.{pos, IfOk, Result, Ok, Err}
use Rattle.clap.specs.Built.{AddsArg, AddsInTurn}
use Rattle.clap.specs.Matches.{found_of}
use Rattle.clap.specs.Values.{Accepts, reading_of}
use Rattle.clap.specs.declared.builder.arg.Arg.{Arg}
use Rattle.clap.specs.declared.builder.command.Command.{Command}
use Rattle.clap.specs.declared.builder.value_parser.ValueParser.TheVariants.{Signed}
use Rattle.terminal.specs.Arguments.{AreArguments, AreNamed, HasNoArgument, MayRead, ReadsNumber, TakesNumber, names}
use Rattle.terminal.specs.Range.{least_fuel, most_fuel, most_undo}
use Rattle.terminal.proofs.Chains.{all_distinct, all_join}
use Rattle.terminal.proofs.Optional.{optional_in_chain}

number_at : (k : ℕ) (d : Arg) (name : List ℕ) (low high : ℕ) (start cmd : Command) (given : List Arg)
    → AddsInTurn AddsArg start given cmd → HasNoArgument start → AreNamed names given → k < length given
    → TakesNumber low high (slice_index_or given k d) → (slice_index_or given k d).id.now ≡ name
    → ReadsNumber name low high cmd
number_at k d name low high start cmd given chain none named lt number own = λ m parsed. (
  (slice_index_or given k d).ignore_case,
  subst (λ id. MayRead (found_of m) id (Accepts (slice_index_or given k d).ignore_case (Signed (pos low) (pos high)))
      (reading_of (Signed (pos low) (pos high)))) own
      (optional_in_chain start cmd given k d m chain none.0 none.1 none.2 (all_join names given refl named)
      (all_distinct names given refl named) lt (Signed (pos low) (pos high)) number parsed),
)

fuel_first : (start cmd : Command) (given : List Arg) → AddsInTurn AddsArg start given cmd → HasNoArgument start
    → AreArguments given → ReadsNumber (codes "fuel") least_fuel most_fuel cmd
fuel_first start cmd [] chain none all = absurd all.named
fuel_first start cmd (fuel ∷ given) chain none all =
    number_at 0 fuel (codes "fuel") least_fuel most_fuel start cmd (fuel ∷ given) chain none all.named (omega arith)
    (all.fuel fuel) all.named.0.0

undo_second : (start cmd : Command) (given : List Arg) → AddsInTurn AddsArg start given cmd → HasNoArgument start
    → AreArguments given → ReadsNumber (codes "undo") 0 most_undo cmd
undo_second start cmd [] chain none all = absurd all.named
undo_second start cmd (fuel ∷ []) chain none all = absurd all.named.1
undo_second start cmd (fuel ∷ undo ∷ given) chain none all =
    number_at 1 undo (codes "undo") 0 most_undo start cmd (fuel ∷ undo ∷ given) chain none all.named (omega arith)
    (all.undo undo) all.named.1.0.0

pub fuel_read : {E : Type 0} (start : Command) (given : List Arg) (r : Result Command E) → HasNoArgument start
    → AreArguments given → IfOk r (AddsInTurn AddsArg start given)
    → IfOk r (ReadsNumber (codes "fuel") least_fuel most_fuel)
fuel_read start given (Ok cmd) none all chain = fuel_first start cmd given chain none all
fuel_read start given (Err e) none all chain = tt

pub undo_read : {E : Type 0} (start : Command) (given : List Arg) (r : Result Command E) → HasNoArgument start
    → AreArguments given → IfOk r (AddsInTurn AddsArg start given) → IfOk r (ReadsNumber (codes "undo") 0 most_undo)
undo_read start given (Ok cmd) none all chain = undo_second start cmd given chain none all
undo_read start given (Err e) none all chain = tt
