-- What a source takes, of what there may be.
use Rattle.std.specs.Prelude.{◌≡◌, ℕ, List, [], Some, None, Result, Ok, Err, length}
use Rattle.zcore.specs.declared.header.Version.{Version}
use Rattle.syntax_lexer.specs.declared.fault.SourceFault.{SourceFault}
use Rattle.syntax.specs.Tree.{ProgramTree}
use Rattle.meaning.specs.Views.{CheckedProgram}
use Rattle.checker.specs.Programs.{program_breaches, resolve_program}
use Rattle.checker.specs.Checked.{IsCheckedOf}
use Rattle.story_file.specs.Layout.{story_of}
use Rattle.story.specs.declared.sized.Limit.{Limit}
use Rattle.story.specs.Large.{limits_by}
use Rattle.story.specs.Refused.{IsTreeOf, Limits, RefusesBy}
use Rattle.story.specs.Refused.{too_large}
use Rattle.messages_diagnosis.specs.Needs.{IsFirstGreatest, program_needs}
use Rattle.messages_diagnosis.specs.declared.measuring.Figures.{Figures}
use Rattle.messages_diagnosis.specs.Figures.{AreFiguresOfChecked, attributes_in, properties_in, counts_in}

-- how many bytes the story of a tree has, or the fault by which it is refused as too large: E30, E31 or E32
abbrev pub IsStoryOfTree : Limits → Version → ProgramTree → Result ℕ SourceFault → Type 0
IsStoryOfTree limits version tree (Ok n) =
    (limits version tree ≡ None) × (n ≡ length (story_of version (resolve_program tree)))
IsStoryOfTree limits version tree (Err f) = limits version tree ≡ Some f

-- The source has a tree that breaks no rule, and these are its figures.
pub record AreFiguresOf (limit : Limit) (version : Version) (source : List ℕ) (f : Figures) : Type 0 where
  pub tree : ProgramTree
  pub is_tree : IsTreeOf source tree
  pub lawful : program_breaches tree ≡ []
  -- what it resolves to, with the names and weights of the source
  pub checked : CheckedProgram
  pub is_checked : IsCheckedOf tree checked
  pub figures : AreFiguresOfChecked limit version checked f
  pub counts : f.counts ≡ counts_in checked (attributes_in tree.directives) (properties_in tree.directives)
  -- how many temporaries its expressions need at most, and where the first begins that needs so many
  pub temporaries : IsFirstGreatest (program_needs tree) f.temporaries
  pub story : IsStoryOfTree (limits_by limit) version tree f.story

-- a source is refused, but not as too large
abbrev pub IsNotBySize : (limits : Limits) (version : Version) (source : List ℕ) (f : SourceFault)
    → RefusesBy limits version source f → Type 0
IsNotBySize limits version source f (too_large p is lawful fault) = ⊥
IsNotBySize limits version source f _ = Unit {0}

abbrev pub Measures : Limit → Version → List ℕ → Result Figures SourceFault → Type 0
Measures limit version source (Ok f) = AreFiguresOf limit version source f
Measures limit version source (Err f) =
    (r : RefusesBy (limits_by limit) version source f) × IsNotBySize (limits_by limit) version source f r
