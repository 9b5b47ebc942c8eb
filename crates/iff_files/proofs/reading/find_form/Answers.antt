use Rattle.std.proofs.Common.{◌≡◌, ◌≤◌, ◌+◌, ◌-◌, ℕ, List, Some, length, refl, nat_eq, codes, take, drop, ap, sym, ◌∙◌, true, arith}
use Rattle.std.specs.List.{starts_with}
use Rattle.std.proofs.lemmas.List.{length-drop}
use Rattle.iff_files.specs.Chunks.{stated}
use Rattle.iff_files.proofs.ReadSaves.{form_whole}
use Rattle.iff_files.proofs.reading.find_form.Goals as goal

pub returns : goal.returns
returns c =
    let bytes : List ℕ = c.args.bytes.now in
    let size : c.stated_size-size.result ≡ stated bytes = c.stated_size-size.ensures.size in
    let kind : starts_with nat_eq (drop 8 bytes) (codes "IFZS") ≡ true =
    ap (λ (t : List ℕ). starts_with nat_eq t (codes "IFZS")) (sym c.bytes_after.ensures)
    ∙ sym c.starts_with-2.ensures.value ∙ c.if-not-starts_with-2.false in
    let long : 12 ≤ length bytes = omega (
      arith,
      ap (λ (t : List ℕ). length t) c.bytes_after.ensures,
      length-drop 8 bytes,
      c.if-not-starts_with-2.ensures.bound refl,
    ) in
    form_whole bytes (omega (arith, c.if-bytes-gt-LONGEST_FILE.false))
    (sym c.starts_with.ensures.value ∙ c.if-not-starts_with.false) kind
    (omega (arith, size, c.if-size-bytes.false, long))
    ∙ ap (λ (t : ℕ). Some (take t (drop 12 bytes)))
    (let e : stated bytes - 4 ≡ 8 + c.max.result - 12 = omega (arith, size, c.max.ensures) in e)
