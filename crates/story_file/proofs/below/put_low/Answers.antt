use Rattle.std.proofs.Common.{◌≡◌, ◌++◌, ℕ, List, map, arith, ap, replicate, ◌∙◌}
use Rattle.std.specs.Global.{Vec}
use Rattle.ztext.specs.Text.{encoded}
use Rattle.meaning.specs.declared.places.Places.{Places}
use Rattle.meaning.specs.Views.{program_of}
use Rattle.story_file.specs.Layout.{dictionary_bytes, global_bytes}
use Rattle.story_file.specs.Written.{bytes_in}
use Rattle.story_file.proofs.AbbreviationTables.{sizes_total, table_is, texts_are}
use Rattle.story_file.proofs.Joined.{low_joined}
use Rattle.story_file.proofs.below.put_low.Goals as goal

pub put_table-requires-clause-placed : goal.put_table-requires-clause-placed
put_table-requires-clause-placed c =
    let p = program_of c.args.checked.now in
    let texts : map bytes_in c.deref.result.now ≡ map encoded p.abbreviations =
    ap (λ (ts : List (Vec ℕ)). map bytes_in ts) c.deref.ensures.value ∙ c.in-Ok.ensures
    ∙ ap (λ (ts : List (List ℕ)). map encoded ts) (c.texts.ensures ∙ c.abbreviations.ensures) in
    omega (
      arith,
      ap (λ (at : Places). at.texts) c.requires.at,
      sizes_total p c.deref.result.now texts,
      c.requires.objects.placed,
    )

pub returns : goal.returns
returns c =
    let p = program_of c.args.checked.now in
    let given = ap (λ (ts : List (List ℕ)). map encoded ts) (c.texts.ensures ∙ c.abbreviations.ensures) in
    let texts : map bytes_in c.deref.result.now ≡ map encoded p.abbreviations =
    ap (λ (ts : List (Vec ℕ)). map bytes_in ts) c.deref.ensures.value ∙ c.in-Ok.ensures ∙ given in
    let again : map bytes_in c.deref-2.result.now ≡ map encoded p.abbreviations =
    ap (λ (ts : List (Vec ℕ)). map bytes_in ts) c.deref-2.ensures.value ∙ c.in-Ok.ensures ∙ given in
    low_joined p c.args.main c.args.bytes.now.items c.put_table.new.bytes.items c.put_word.new.bytes.items
    c.put_globals.new.bytes.items c.extend_from_slice.new.self.items c.put_objects.new.bytes.items
    c.put_dictionary.new.bytes.items c.put_zeros.new.bytes.items c.put_all.new.bytes.items
    c.put_start.new.bytes.items
    (c.in-Ok-put_table.ensures ∙ ap (λ z. c.args.bytes.now.items ++ z) (table_is p c.deref.result.now
    c.args.at.texts c.requires.few (ap (λ (at : Places). at.texts) c.requires.at) texts))
    c.in-Ok-put_word.ensures
    (c.in-Ok-put_globals.ensures ∙ ap (λ gs. c.put_word.new.bytes.items ++ global_bytes gs) c.globals.ensures)
    (c.in-Ok-extend_from_slice.ensures.items ∙ ap (λ z. c.put_globals.new.bytes.items ++ z) c.array_bytes.ensures)
    c.in-Ok-put_objects.ensures
    (c.in-Ok-put_dictionary.ensures
    ∙ ap (λ keys. c.put_objects.new.bytes.items ++ dictionary_bytes keys) c.keys.ensures.keys)
    (c.in-Ok-put_zeros.ensures ∙ ap (λ n. c.put_dictionary.new.bytes.items ++ replicate {A = ℕ} n 0) c.filling.ensures)
    (c.in-Ok-put_all.ensures
    ∙ ap (λ z. c.put_zeros.new.bytes.items ++ z) (texts_are c.deref-2.result.now p.abbreviations again))
    c.in-Ok-put_start.ensures
