use Rattle.std.proofs.Common.{◌≡◌, drop}
use Rattle.play_json.specs.Requests.{number_from}
use Rattle.play_json.proofs.request.number_from.Given as goal

abbrev pub invariant-loop-digit : goal.invariant-loop-digit
invariant-loop-digit l = number_from 0 l.digits ≡ number_from l.number (drop l.digit-index l.digits)
