use Rattle.std.proofs.Common.{◌≡◌, ◌==◌, ◌+◌, ◌*◌, ◌-◌, ◌∙◌, sym, arith, false, ℕ, suc, refl, List}
use Rattle.iff_files.specs.Stories.{number_at, program_in}
use Rattle.iff_files.proofs.blorb.program_in.Goals as goal

-- an entry of another usage is passed
passed : (file : List ℕ) (at later many others : ℕ) → many ≡ suc others → at + 12 ≡ later
    → (number_at file at == 0x45786563) ≡ false → program_in file at many ≡ program_in file later others
passed file at later many others one next missed = rw (one, ← next, missed) refl

pub loop-i-preserved : goal.loop-i-preserved
loop-i-preserved c =
    c.loop-i.invariant
    ∙ passed c.args.file.now (24 + 12 * c.loop-i.i) (24 + 12 * (c.loop-i.i + 1)) (c.args.count - c.loop-i.i)
    (c.args.count - (c.loop-i.i + 1)) (omega arith) (omega arith) (sym c.has_name.ensures ∙ c.if-has_name.false)
