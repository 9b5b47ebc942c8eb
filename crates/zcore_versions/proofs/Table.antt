-- What the table of opcodes says of a version.
use Rattle.std.proofs.Common.{◌≡◌, ℕ, ap, sym, ◌∙◌, refl, true, false, cond, Option, Some, None}
use Rattle.std.specs.Prelude.{◌==◌, ◌&&◌}
use Rattle.std.proofs.lemmas.Bool.{and_parts}
use Rattle.zcore.specs.declared.instruction.Operation.{Operation}
use Rattle.zcore.specs.declared.operations.OperandCount.TheVariants.{Zero}
use Rattle.zcore.specs.declared.operations.OpcodeRow.{OpcodeRow}
use Rattle.zcore.specs.Operations as profile
use Rattle.zcore.specs.Operations.{plain}
use Rattle.zcore_standard.specs.declared.opcode.Opcode.{Opcode}
use Rattle.zcore_standard.specs.declared.opcodes.Action.{Action}
use Rattle.zcore_standard.specs.declared.opcodes.Action.TheVariants as actions
use Rattle.zcore_standard.specs.declared.operations.OlderOperation.{OlderOperation}
use Rattle.zcore_standard.specs.declared.operations.StandardOperation.{StandardOperation}
use Rattle.zcore_standard.specs.declared.operations.StandardOperation.TheVariants as standard
use Rattle.zcore_standard.specs.OlderOpcodes.{action_in}
use Rattle.zcore_standard.specs.Operations as table
use Rattle.zcore_standard.specs.Rows.{row_in, said_by}
use Rattle.zcore_versions.specs.declared.operations.VersionOperation.{VersionOperation}
use Rattle.zcore_versions.specs.declared.operations.VersionOperation.TheVariants.{Known, Older, SplitWindow, Missing}
use Rattle.zcore_versions.specs.declared.version.StoryVersion.{StoryVersion}
use Rattle.zcore_versions.specs.Operations.{differs, splits, otherwise, of_opcode, with_row}
use Rattle.zcore_versions.specs.Versions.{is_late}

-- Of an action

pub known_found : (version : ℕ) (action : Action) (operation : Operation) (shape : OpcodeRow)
    → action ≡ actions.Profile operation → shape ≡ row_in version action → differs version operation ≡ true
    → Some (Known operation, shape) ≡ with_row version (otherwise version (Some action))
known_found version action operation shape is same d =
    let e : shape ≡ profile.row_of operation = same ∙ ap (row_in version) is in
    let f : otherwise version (Some action) ≡ Some (Known operation) =
    ap (λ a. otherwise version (Some a)) is ∙ ap (λ b. cond b (Some (Known operation)) None) d in
    ap (λ x. Some (Known operation, x)) e ∙ sym (ap (with_row version) f)

pub known_alike : (version : ℕ) (action : Action) (operation : Operation) → action ≡ actions.Profile operation
    → differs version operation ≡ false → None ≡ with_row version (otherwise version (Some action))
known_alike version action operation is d =
    let f : otherwise version (Some action) ≡ None =
    ap (λ a. otherwise version (Some a)) is ∙ ap (λ b. cond b (Some (Known operation)) None) d in
    sym (ap (with_row version) f)

splits_is : (operation : StandardOperation) → splits operation ≡ true → operation ≡ standard.SplitWindow
splits_is standard.SplitWindow e = refl
splits_is _ e = absurd (cc)

pub split_found : (version : ℕ) (action : Action) (operation : StandardOperation) (shape : OpcodeRow)
    → action ≡ actions.Standard operation → shape ≡ row_in version action
    → ((version == 3) && splits operation) ≡ true
    → Some (SplitWindow, shape) ≡ with_row version (otherwise version (Some action))
split_found version action operation shape is same d =
    let split = splits_is operation (and_parts (version == 3) (splits operation) d).1 in
    let e : shape ≡ table.row_of standard.SplitWindow = same ∙ ap (row_in version) is ∙ ap table.row_of split in
    let f : otherwise version (Some action) ≡ Some SplitWindow =
    ap (λ a. otherwise version (Some a)) is ∙ ap (λ b. cond b (Some SplitWindow) None) d in
    ap (λ x. Some (SplitWindow, x)) e ∙ sym (ap (with_row version) f)

pub split_alike : (version : ℕ) (action : Action) (operation : StandardOperation) → action ≡ actions.Standard operation
    → ((version == 3) && splits operation) ≡ false → None ≡ with_row version (otherwise version (Some action))
split_alike version action operation is d =
    let f : otherwise version (Some action) ≡ None =
    ap (λ a. otherwise version (Some a)) is ∙ ap (λ b. cond b (Some SplitWindow) None) d in
    sym (ap (with_row version) f)

pub older_found : (version : ℕ) (action : Action) (operation : OlderOperation) (shape : OpcodeRow)
    → action ≡ actions.Older operation → shape ≡ row_in version action
    → Some (Older operation, shape) ≡ with_row version (otherwise version (Some action))
older_found version action operation shape is same =
    ap (λ x. Some (Older operation, x)) (same ∙ ap (row_in version) is)
    ∙ sym (ap (λ a. with_row version (otherwise version (Some a))) is)

-- Of an opcode

says_none : (version : ℕ) (a : Option Action) → None ≡ said_by version a → a ≡ None
says_none version None e = refl
says_none version (Some a) e = absurd (cc)

same_pair : (x y : Action × OpcodeRow) → Some x ≡ Some y → x ≡ y
same_pair x y e = cc

says_some : (version : ℕ) (a : Option Action) (action : Action) (shape : OpcodeRow)
    → Some (action, shape) ≡ said_by version a → (a ≡ Some action) × (shape ≡ row_in version action)
says_some version None action shape e = absurd (cc)
says_some version (Some other) action shape e =
    let same = same_pair (action, shape) (other, row_in version other) e in
    let found : other ≡ action = sym (ap (λ (x : Action × OpcodeRow). x.0) same) in (
      ap (λ x. Some x) found,
      ap (λ (x : Action × OpcodeRow). x.1) same ∙ ap (row_in version) found,
    )

early_opcode : (version : StoryVersion) (opcode : Opcode) → is_late version ≡ false
    → of_opcode version opcode ≡ otherwise version.number (action_in version.number opcode)
early_opcode version opcode early =
    ap (λ b. cond b None (otherwise version.number (action_in version.number opcode))) early

pub missing_found : (version : StoryVersion) (opcode : Opcode) (row : OpcodeRow) → is_late version ≡ false
    → None ≡ said_by version.number (action_in version.number opcode) → row ≡ plain Zero 0 0 0
    → Some (Missing, row) ≡ with_row version.number (of_opcode version opcode)
missing_found version opcode row early none e =
    ap (λ x. Some (Missing, x)) e
    ∙ sym (ap (with_row version.number) (early_opcode version opcode early
    ∙ ap (otherwise version.number) (says_none version.number (action_in version.number opcode) none)))

pub row_found : (version : StoryVersion) (opcode : Opcode) (action : Action) (shape : OpcodeRow)
    (r : Option (VersionOperation × OpcodeRow)) → is_late version ≡ false
    → Some (action, shape) ≡ said_by version.number (action_in version.number opcode)
    → r ≡ with_row version.number (otherwise version.number (Some action))
    → r ≡ with_row version.number (of_opcode version opcode)
row_found version opcode action shape r early said e = e
    ∙ sym (ap (with_row version.number) (early_opcode version opcode early
    ∙ ap (otherwise version.number) (says_some version.number (action_in version.number opcode) action shape said).0))

pub shape_found : (version : ℕ) (opcode : Opcode) (action : Action) (shape : OpcodeRow)
    → Some (action, shape) ≡ said_by version (action_in version opcode) → shape ≡ row_in version action
shape_found version opcode action shape said = (says_some version (action_in version opcode) action shape said).1
