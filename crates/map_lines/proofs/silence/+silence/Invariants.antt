use Rattle.std.proofs.Common.{◌+◌, ◌*◌}
use Rattle.map_lines.proofs.silence.+silence.Given as goal

abbrev pub decreases-is_silent : goal.decreases-is_silent
decreases-is_silent l = 4 * goal.size-is_silent l

abbrev pub decreases-are_silent : goal.decreases-are_silent
decreases-are_silent l = 4 * goal.size-are_silent l + 1

abbrev pub decreases-is_other_silent : goal.decreases-is_other_silent
decreases-is_other_silent l = 4 * goal.size-is_other_silent l + 2

abbrev pub decreases-is_switch_silent : goal.decreases-is_switch_silent
decreases-is_switch_silent l = 4 * goal.size-is_switch_silent l + 3
