use Rattle.std.proofs.Common.{ap, arith, drop, length, subst}
use Rattle.std.proofs.lemmas.List.{length-drop}
use Rattle.machine_frames.specs.Went.{Went}
use Rattle.zcore_standard.specs.Streams.{counted}
use Rattle.zcore_standard.specs.Words.{write_bytes}
use Rattle.machine_standard_opcodes.proofs.Codes.{few_codes}
use Rattle.machine_standard_opcodes.proofs.Cuts.{behind_slice}
use Rattle.machine_standard_opcodes.proofs.streams.write_zscii.Goals as goal

pub write_table-requires-clause-few : goal.write_table-requires-clause-few
write_table-requires-clause-few c =
    let e = behind_slice c.args.text.now.items c.add_zscii.new.text.items c.deref.result.now _ c.len-end.result
    (omega arith) c.deref.ensures.value c.in-Ok.ensures.added in
    omega (
      arith,
      ap length e,
      few_codes c.args.extra.now (drop c.args.from c.args.text.now.items),
      length-drop c.args.from c.args.text.now.items,
      c.requires.few,
      c.requires.from,
    )

pub returns-in-Ok-clause-went : goal.returns-in-Ok-clause-went
returns-in-Ok-clause-went c = subst (λ l. Went c.write_table.result c.args.store.now c.write_table.new.store
    (write_bytes c.args.table (counted l)))
    (behind_slice c.args.text.now.items c.add_zscii.new.text.items c.deref.result.now _ c.len-end.result
    (omega arith) c.deref.ensures.value c.in-Ok.ensures.added) c.write_table.ensures
