-- What an accepted program says of its figures.
use Rattle.std.proofs.Common.{◌≡◌, ℕ, suc, ◌+◌, ◌<◌, ◌≤◌, List, [], length, Result, Ok, Err}
use Rattle.std.proofs.Common.{sym, ap, ◌∙◌, subst, arith}
use Rattle.std.specs.Prelude.{map, slice_index_or}
use Rattle.std.specs.List.{All}
use Rattle.std.specs.Result.{IsErr, IsErrAnd}
use Rattle.std.proofs.lemmas.List.{length-map, get_or-map}
use Rattle.zcore.specs.declared.header.Version.{Version}
use Rattle.syntax_lexer.specs.declared.fault.SourceFault.{SourceFault}
use Rattle.syntax.specs.Tree.{ProgramTree}
use Rattle.meaning.specs.declared.checked.CheckedObject.{CheckedObject}
use Rattle.meaning.specs.Accepted.{IsAccepted, IsObject}
use Rattle.meaning.specs.Objects.{ObjectOf, no_object, object_at}
use Rattle.meaning.specs.Views.{CheckedProgram, program_of, object_of, property_of}
use Rattle.checker.specs.Programs.{program_breaches}
use Rattle.checker.specs.Checked.{IsCheckedOf}
use Rattle.checker.specs.Laws.{AcceptedPrograms}
use Rattle.story_file.specs.Layout.{story_of}
use Rattle.story.specs.declared.sized.Limit.{Limit}
use Rattle.story.specs.Large.{limits_by}
use Rattle.story.proofs.Faults.{faults_by}
use Rattle.messages_diagnosis.specs.declared.measuring.Figures.{Figures}
use Rattle.messages_diagnosis.specs.Figures.{ObjectHasFewWords, IsStoryOfChecked}
use Rattle.messages_diagnosis.specs.Measured.{IsStoryOfTree, Measures}
use Rattle.messages_diagnosis.proofs.Refusals.{IsRefused}

module _ (c : CheckedProgram) (accepted : IsAccepted (program_of c)) where
  is_object : (k : ℕ) (d : CheckedObject) → k < length c.objects
      → IsObject (object_of (slice_index_or c.objects k d)) k
  is_object k d lt =
      let next : k + 1 ≡ suc k = omega arith in
      let within : k < length (map object_of c.objects) = omega (arith, lt, length-map c.objects object_of) in
      let here : slice_index_or (map object_of c.objects) k no_object ≡ object_of (slice_index_or c.objects k d) =
      get_or-map object_of c.objects k d no_object lt in
      subst (λ (o : ObjectOf). IsObject o k) here
      (subst (λ n. IsObject (object_at (map object_of c.objects) n) k) next (accepted.objects k within))

  pub few_words : All ObjectHasFewWords c.objects
  few_words k d lt j e within =
      let o = slice_index_or c.objects k d in
      let properties = o.properties.items in
      let inside : j < length (map property_of properties) = omega (arith, within, length-map properties property_of) in
      let here : slice_index_or (map property_of properties) j (property_of e)
      ≡ property_of (slice_index_or properties j e) =
      get_or-map property_of properties j e (property_of e) within in
      let words = (is_object k d lt).words j (property_of e) inside in
      subst (λ (x : ℕ × List ℕ). length x.1 ≤ 32) here words.1

  pub few_objects : length c.objects ≤ 2000
  few_objects = omega (arith, accepted.few, length-map c.objects object_of)

-- an accepted program is that of a tree that breaks no rule
pub accepted_program : AcceptedPrograms → (p : ProgramTree) (c : CheckedProgram) → program_breaches p ≡ []
    → IsCheckedOf p c → IsAccepted (program_of c)
accepted_program accepted p c lawful is = subst IsAccepted (sym is.program) (accepted p lawful)

-- the bytes of the story are those of the tree's
pub story_of_tree : (limit : Limit) (version : Version) (p : ProgramTree) (c : CheckedProgram) → IsCheckedOf p c
    → (s : Result ℕ SourceFault) → IsStoryOfChecked limit version c s → IsStoryOfTree (limits_by limit) version p s
story_of_tree limit version p c is (Ok n) h =
    (sym (faults_by limit version p c is) ∙ h.0, h.1 ∙ ap (λ q. length (story_of version q)) is.program)
story_of_tree limit version p c is (Err f) h = sym (faults_by limit version p c is) ∙ h

-- a fault that is handed on
pub refused : (limit : Limit) (version : Version) (source : List ℕ) (r : Result Figures SourceFault) (f : SourceFault)
    → IsErr r × IsErrAnd r (λ e. e ≡ f) → IsRefused (limits_by limit) version source f
    → Measures limit version source r
refused limit version source (Ok figures) f h because = absurd h.1
refused limit version source (Err e) f h because =
    subst (λ (g : SourceFault). IsRefused (limits_by limit) version source g) (sym h.1) because
