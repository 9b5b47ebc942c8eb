use Rattle.std.proofs.Common.{Ok, Err}
use Rattle.machine_frames.proofs.Steps.{went_then, went_no_further, went_err}
use Rattle.machine_opcodes.proofs.Saying.{went_says}
use Rattle.zcore_standard.specs.Tables.{scan_table}
use Rattle.machine_standard_tables.proofs.scanning.scan_table.Goals as goal

pub returns-in_err-fuel : goal.returns-in_err-fuel
unfolding scan_table
returns-in_err-fuel c = went_err _ c.from_residual.ensures.1
    (went_no_further _ (went_says (Err _) _ c.requires.store.sound
    (rw c.field_length.ensures.same at c.in_err-fuel.ensures)))

pub returns-in_err-found : goal.returns-in_err-found
unfolding scan_table
returns-in_err-found c = went_err _ c.from_residual-in_err-found.ensures.1
    (went_then _ (went_says (Ok c.in_ok-fuel.fuel) _ c.requires.store.sound
    (rw c.field_length.ensures.same at c.in_ok-fuel.ensures))
    (went_no_further _ c.in_err-found.ensures))

pub returns : goal.returns
unfolding scan_table
returns c = went_then _ (went_says (Ok c.in_ok-fuel.fuel) _ c.requires.store.sound
    (rw c.field_length.ensures.same at c.in_ok-fuel.ensures))
    (went_then _ c.in_ok-found.ensures c.give_found.ensures)
