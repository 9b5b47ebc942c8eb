use Rattle.std.proofs.Common.{◌≡◌, ◌≤◌, ◌+◌, ◌++◌, length, subst, sym, ap, ◌∙◌, arith}
use Rattle.std.specs.Prelude.{map}
use Rattle.std.specs.List.{flat_map}
use Rattle.std.proofs.lemmas.List.{take_all}
use Rattle.zcore.specs.Header.{static_end}
use Rattle.ztext.specs.Text.{Holds}
use Rattle.zcore.specs.Dictionary.{number_of_key}
use Rattle.tables.specs.Dictionary.{head_bytes, entry_bytes, dictionary_bytes, ReadsKeys}
use Rattle.code.proofs.Written.{keys_each, length_dictionary, reads_back}
use Rattle.code.proofs.dictionary.write_dictionary.Goals as goal

pub returns-clause-read : goal.returns-clause-read
returns-clause-read c = λ story at.
    let bytes : c.loop-key.bytes.items ≡ dictionary_bytes c.args.keys.now =
    c.loop-key.invariant ∙ ap (λ ks. head_bytes (length c.args.keys.now) ++ flat_map entry_bytes ks)
    (take_all c.loop-key.key-index c.args.keys.now c.loop-key-test.false) in
    subst (λ bytes. Holds story at bytes → at + length bytes ≤ static_end story
    → ReadsKeys story at (map number_of_key c.args.keys.now)) (sym bytes)
    (reads_back story at c.args.keys.now (keys_each c.args.keys.now c.told-keys) c.requires
    (omega (arith, c.if-keys-gt-MOST_ENTRIES.false)))

pub returns-clause-fits : goal.returns-clause-fits
returns-clause-fits c =
    let bytes : c.loop-key.bytes.items ≡ dictionary_bytes c.args.keys.now =
    c.loop-key.invariant ∙ ap (λ ks. head_bytes (length c.args.keys.now) ++ flat_map entry_bytes ks)
    (take_all c.loop-key.key-index c.args.keys.now c.loop-key-test.false) in
    omega (
      arith,
      ap length bytes,
      length_dictionary c.args.keys.now (keys_each c.args.keys.now c.told-keys),
      c.if-keys-gt-MOST_ENTRIES.false,
    )
