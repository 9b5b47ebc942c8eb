-- Operations that leave the picture as it is.
use Rattle.std.proofs.Common.{◌≡◌, ◌≢◌, ℕ, List, refl}
use Rattle.zcore_standard.specs.declared.operations.StandardOperation.{StandardOperation}
use Rattle.zcore_standard.specs.declared.operations.StandardOperation.TheVariants as operations
use Rattle.machine_picture.specs.Picture.{Picture, redrawn, redrawn_to}

pub others_keep : (version : ℕ) (operation : StandardOperation) (window : ℕ) (values : List ℕ) (p : Picture)
    → operation ≢ operations.Restart
    → operation ≢ operations.SplitWindow
    → operation ≢ operations.SetWindow
    → operation ≢ operations.SetCursor
    → operation ≢ operations.EraseLine
    → operation ≢ operations.EraseWindow
    → redrawn version operation window values p ≡ p
others_keep version operations.Restart window values p a b c d e f = absurd (a refl)
others_keep version operations.Catch window values p a b c d e f = refl
others_keep version operations.ShowStatus window values p a b c d e f = refl
others_keep version operations.Verify window values p a b c d e f = refl
others_keep version operations.Piracy window values p a b c d e f = refl
others_keep version operations.SetColour window values p a b c d e f = refl
others_keep version operations.Throw window values p a b c d e f = refl
others_keep version operations.Read window values p a b c d e f = refl
others_keep version operations.Random window values p a b c d e f = refl
others_keep version operations.SplitWindow window values p a b c d e f = absurd (b refl)
others_keep version operations.SetWindow window values p a b c d e f = absurd (c refl)
others_keep version operations.EraseWindow window values p a b c d e f = absurd (f refl)
others_keep version operations.EraseLine window values p a b c d e f = absurd (e refl)
others_keep version operations.SetCursor window values p a b c d e f = absurd (d refl)
others_keep version operations.GetCursor window values p a b c d e f = refl
others_keep version operations.SetTextStyle window values p a b c d e f = refl
others_keep version operations.BufferMode window values p a b c d e f = refl
others_keep version operations.OutputStream window values p a b c d e f = refl
others_keep version operations.InputStream window values p a b c d e f = refl
others_keep version operations.SoundEffect window values p a b c d e f = refl
others_keep version operations.ReadChar window values p a b c d e f = refl
others_keep version operations.ScanTable window values p a b c d e f = refl
others_keep version operations.Tokenise window values p a b c d e f = refl
others_keep version operations.EncodeText window values p a b c d e f = refl
others_keep version operations.CopyTable window values p a b c d e f = refl
others_keep version operations.PrintTable window values p a b c d e f = refl
others_keep version operations.Save window values p a b c d e f = refl
others_keep version operations.Restore window values p a b c d e f = refl
others_keep version operations.LogShift window values p a b c d e f = refl
others_keep version operations.ArtShift window values p a b c d e f = refl
others_keep version operations.SetFont window values p a b c d e f = refl
others_keep version operations.SaveUndo window values p a b c d e f = refl
others_keep version operations.RestoreUndo window values p a b c d e f = refl
others_keep version operations.PrintUnicode window values p a b c d e f = refl
others_keep version operations.CheckUnicode window values p a b c d e f = refl
others_keep version operations.SetTrueColour window values p a b c d e f = refl

-- what is not a table
pub no_table : (version : ℕ) (operation : StandardOperation) (window : ℕ) (values : List ℕ) (long : ℕ) (p : Picture)
    → operation ≢ operations.PrintTable
    → redrawn_to version operation window values long p
    ≡ record (redrawn version operation window values p) { seen = long; until = 0 }
no_table version operations.PrintTable window values long p not = absurd (not refl)
no_table version _ window values long p not = refl
