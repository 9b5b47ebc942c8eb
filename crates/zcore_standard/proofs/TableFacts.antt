-- Rows of the table in a version.
use Rattle.std.proofs.Common.{◌≡◌, ℕ, ◌<◌, ap, sym, ◌∙◌, subst, refl, Bool, true, false, Option, Some, None}
use Rattle.std.specs.Prelude.{◌&&◌, nat_le, IfSome}
use Rattle.std.proofs.lemmas.Bool.{lt-leb}
use Rattle.zcore.specs.declared.instruction.Operation.{Operation}
use Rattle.zcore.specs.declared.operations.OpcodeRow.{OpcodeRow}
use Rattle.zcore.specs.Operations as profile
use Rattle.zcore_standard.specs.declared.opcode.Opcode.{Opcode}
use Rattle.zcore_standard.specs.declared.opcodes.Action.{Action}
use Rattle.zcore_standard.specs.declared.opcodes.Action.TheVariants.{Profile, Standard}
use Rattle.zcore_standard.specs.declared.opcodes.Row.{Row}
use Rattle.zcore_standard.specs.declared.operations.StandardOperation.{StandardOperation}
use Rattle.zcore_standard.specs.OlderOpcodes.{first_version, first_version_of, last_version, since, newer_in, or_else}
use Rattle.zcore_standard.specs.OlderOpcodes.{older_in, action_in}
use Rattle.zcore_standard.specs.Operations.{profile_of, standard_of}
use Rattle.zcore_standard.specs.Rows.{said_by, said_in, says, newest}

some_same : {A : Type 0} (a b : A) → Some a ≡ Some b → a ≡ b
some_same a b e = cc

-- A row in a version that has it

and_true : (a b : Bool) → a ≡ true → b ≡ true → (a && b) ≡ true
and_true a b e f = rw (e, f) refl

since_there : (version first : ℕ) (action : Action) → nat_le first version ≡ true → nat_le version last_version ≡ true
    → since version first action ≡ Some action
since_there version first action le last = rw (and_true _ _ le last) refl

said_there : (version : ℕ) (p : Option Operation) (q : Option StandardOperation) (other : Option Action) (r : Row)
    → says (Some r) ≡ newest p q → nat_le r.since version ≡ true → nat_le version last_version ≡ true
    → said_in (Some r) ≡ said_by version (or_else (newer_in version p q) other)
said_there version p (Some o) other r e le last =
    let same = some_same _ _ e in
    let first : nat_le (first_version_of o) version ≡ true =
    ap (λ n. nat_le n version) (sym (ap (λ (x : ℕ × (Action × OpcodeRow)). x.0) same)) ∙ le in
    ap (λ (x : ℕ × (Action × OpcodeRow)). Some x.1) same
    ∙ ap (λ x. said_by version (or_else x other)) (sym (since_there version (first_version_of o) (Standard o) first last))
said_there version (Some o) None other r e le last =
    let same = some_same _ _ e in
    let first : nat_le (first_version o) version ≡ true =
    ap (λ n. nat_le n version) (sym (ap (λ (x : ℕ × (Action × OpcodeRow)). x.0) same)) ∙ le in
    ap (λ (x : ℕ × (Action × OpcodeRow)). Some x.1) same
    ∙ ap (λ x. said_by version (or_else x other)) (sym (since_there version (first_version o) (Profile o) first last))
said_there version None None other r e le last = absurd (cc)

pub row_said : (version : ℕ) (opcode : Opcode) (r : Row)
    → says (Some r) ≡ newest (profile_of opcode) (standard_of opcode) → nat_le r.since version ≡ true
    → nat_le version last_version ≡ true → said_in (Some r) ≡ said_by version (action_in version opcode)
row_said version opcode r e le last =
    said_there version (profile_of opcode) (standard_of opcode) (older_in version opcode) r e le last

-- and in one that does not

abbrev pub HasNot : ℕ → Row → Type 0
HasNot version r = (nat_le r.since version && nat_le version last_version) ≡ false

since_not : (version first other : ℕ) (action : Action) → other ≡ first
    → (nat_le other version && nat_le version last_version) ≡ false → since version first action ≡ None
since_not version first other action e h = rw (sym e) (rw h refl)

newer_not : (version : ℕ) (p : Option Operation) (q : Option StandardOperation) (r : Option Row) → says r ≡ newest p q
    → IfSome r (HasNot version) → newer_in version p q ≡ None
newer_not version p (Some o) None e not = absurd (cc)
newer_not version (Some o) None None e not = absurd (cc)
newer_not version None None None e not = refl
newer_not version p (Some o) (Some r) e not =
    since_not version (first_version_of o) r.since (Standard o)
    (ap (λ (x : ℕ × (Action × OpcodeRow)). x.0) (some_same _ _ e)) not
newer_not version (Some o) None (Some r) e not =
    since_not version (first_version o) r.since (Profile o)
    (ap (λ (x : ℕ × (Action × OpcodeRow)). x.0) (some_same _ _ e)) not
newer_not version None None (Some r) e not = absurd (cc)

pub older_said : (version : ℕ) (opcode : Opcode) (r s : Option Row)
    → says r ≡ newest (profile_of opcode) (standard_of opcode) → IfSome r (HasNot version)
    → said_in s ≡ said_by version (older_in version opcode) → said_in s ≡ said_by version (action_in version opcode)
older_said version opcode r s e not f = f
    ∙ ap (λ x. said_by version (or_else x (older_in version opcode)))
    (sym (newer_not version (profile_of opcode) (standard_of opcode) r e not))

pub none_yet : (version : ℕ) (r : Option Row) (row : Row) → r ≡ Some row → version < row.since → IfSome r (HasNot version)
none_yet version r row e less =
    subst (λ o. IfSome o (HasNot version)) (sym e)
    (ap (λ b. b && nat_le version last_version) (lt-leb row.since version less))

false_last : (a b : Bool) → b ≡ false → (a && b) ≡ false
false_last true b e = e
false_last false b e = refl

pub none_past : (version : ℕ) (r : Option Row) (row : Row) → r ≡ Some row → last_version < version
    → IfSome r (HasNot version)
none_past version r row e more =
    subst (λ o. IfSome o (HasNot version)) (sym e)
    (false_last (nat_le row.since version) (nat_le version last_version) (lt-leb version last_version more))

pub none_at_all : (version : ℕ) (r : Option Row) → r ≡ None → IfSome r (HasNot version)
none_at_all version r e = subst (λ o. IfSome o (HasNot version)) (sym e) tt
