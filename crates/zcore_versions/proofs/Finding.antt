-- Where an operation of versions up to 4 is found, the version is one of them.
use Rattle.std.proofs.Common.{◌≡◌, ◌<◌, ℕ, List, length, ap, refl, subst, Bool, true, false, cond, Option, Some, None}
use Rattle.std.proofs.Common.{slice_index, ◌+◌}
use Rattle.std.proofs.lemmas.Bool.{and_parts, ltb-true}
use Rattle.std.specs.Prelude.{◌==◌, ◌&&◌, nat_le}
use Rattle.zcore.specs.declared.instruction.Operation.{Operation}
use Rattle.zcore.specs.Parts.{is_code}
use Rattle.zcore_standard.specs.declared.opcode.Opcode.{Opcode}
use Rattle.zcore_standard.specs.declared.opcodes.Action.{Action}
use Rattle.zcore_standard.specs.declared.opcodes.Action.TheVariants as actions
use Rattle.zcore_standard.specs.declared.operations.OlderOperation.{OlderOperation}
use Rattle.zcore_standard.specs.declared.operations.StandardOperation.{StandardOperation}
use Rattle.zcore_standard.specs.OlderOpcodes.{first_version, first_version_of, newer_in, as_older, older_of, older_in}
use Rattle.zcore_standard.specs.OlderOpcodes.{or_else, action_in, last_version}
use Rattle.zcore_standard.specs.Opcodes.{opcode_of}
use Rattle.zcore_standard.specs.Operations.{profile_of, standard_of}
use Rattle.zcore_versions.specs.declared.operations.VersionOperation.{VersionOperation}
use Rattle.zcore_versions.specs.declared.operations.VersionOperation.TheVariants.{Known, Older, SplitWindow}
use Rattle.zcore_versions.specs.declared.version.StoryVersion.{StoryVersion}
use Rattle.zcore_versions.specs.Operations.{differs, splits, otherwise, of_opcode, older_at}
use Rattle.zcore_versions.specs.Versions.{is_late, is_old}

known_not : {P : Type 0} (b : Bool) (o : Operation) (operation : OlderOperation)
    → cond b (Some (Known o)) None ≡ Some (Older operation) → P
known_not true o operation e = absurd (cc)
known_not false o operation e = absurd (cc)

split_not : {P : Type 0} (b : Bool) (operation : OlderOperation)
    → cond b (Some SplitWindow) None ≡ Some (Older operation) → P
split_not true operation e = absurd (cc)
split_not false operation e = absurd (cc)

action_older : (version : ℕ) (action : Option Action) (operation : OlderOperation)
    → otherwise version action ≡ Some (Older operation) → action ≡ Some (actions.Older operation)
action_older version None operation e = absurd (cc)
action_older version (Some (actions.Profile o)) operation e = known_not (differs version o) o operation e
action_older version (Some (actions.Standard o)) operation e = split_not (version == 3 && splits o) operation e
action_older version (Some (actions.Older o)) operation e = cc

past_standard : (b : Bool) (o : StandardOperation) (other : Option Action) (operation : OlderOperation)
    → or_else (cond b (Some (actions.Standard o)) None) other ≡ Some (actions.Older operation)
    → other ≡ Some (actions.Older operation)
past_standard true o other operation e = absurd (cc)
past_standard false o other operation e = e

past_profile : (b : Bool) (o : Operation) (other : Option Action) (operation : OlderOperation)
    → or_else (cond b (Some (actions.Profile o)) None) other ≡ Some (actions.Older operation)
    → other ≡ Some (actions.Older operation)
past_profile true o other operation e = absurd (cc)
past_profile false o other operation e = e

past_newer : (version : ℕ) (p : Option Operation) (q : Option StandardOperation) (other : Option Action)
    (operation : OlderOperation) → or_else (newer_in version p q) other ≡ Some (actions.Older operation)
    → other ≡ Some (actions.Older operation)
past_newer version p (Some o) other operation e =
    past_standard (nat_le (first_version_of o) version && nat_le version last_version) o other operation e
past_newer version (Some o) None other operation e =
    past_profile (nat_le (first_version o) version && nat_le version last_version) o other operation e
past_newer version None None other operation e = e

in_old : (a b : Bool) (o : Option Action) (operation : OlderOperation)
    → cond (a && b) o None ≡ Some (actions.Older operation) → b ≡ true
in_old true true o operation e = refl
in_old true false o operation e = absurd (cc)
in_old false b o operation e = absurd (cc)

opcode_old : (version : ℕ) (opcode : Opcode) (operation : OlderOperation)
    → action_in version opcode ≡ Some (actions.Older operation) → nat_le version 4 ≡ true
opcode_old version opcode operation e =
    in_old (nat_le 1 version) (nat_le version 4) (as_older (older_of opcode)) operation
    (past_newer version (profile_of opcode) (standard_of opcode) (older_in version opcode) operation e)

in_code : (b : Bool) (o : Option VersionOperation) (operation : OlderOperation)
    → cond b o None ≡ Some (Older operation) → o ≡ Some (Older operation)
in_code true o operation e = e
in_code false o operation e = absurd (cc)

not_late : (b : Bool) (o : Option VersionOperation) (operation : OlderOperation)
    → cond b None o ≡ Some (Older operation) → o ≡ Some (Older operation)
not_late true o operation e = absurd (cc)
not_late false o operation e = e

pub found_old : (version : StoryVersion) (memory : List ℕ) (at : ℕ) (operation : OlderOperation)
    → older_at version memory at ≡ Some (Older operation) → is_old version ≡ true
found_old version memory at operation e =
    let opcode = opcode_of (slice_index memory at) (slice_index memory (at + 1)) in
    opcode_old version.number opcode operation
    (action_older version.number (action_in version.number opcode) operation
    (not_late (is_late version) _ operation (in_code (is_code memory at) (of_opcode version opcode) operation e)))

-- Where an operation of the profile is found, the version performs it otherwise.

known_differs : (b : Bool) (o operation : Operation) → cond b (Some (Known o)) None ≡ Some (Known operation)
    → (b ≡ true) × (o ≡ operation)
known_differs true o operation e = (refl, cc)
known_differs false o operation e = absurd (cc)

split_not_known : {P : Type 0} (b : Bool) (operation : Operation)
    → cond b (Some SplitWindow) None ≡ Some (Known operation) → P
split_not_known true operation e = absurd (cc)
split_not_known false operation e = absurd (cc)

action_differs : (version : ℕ) (action : Option Action) (operation : Operation)
    → otherwise version action ≡ Some (Known operation) → differs version operation ≡ true
action_differs version None operation e = absurd (cc)
action_differs version (Some (actions.Profile o)) operation e =
    let p = known_differs (differs version o) o operation e in
    subst (λ x. differs version x ≡ true) p.1 p.0
action_differs version (Some (actions.Standard o)) operation e =
    split_not_known (version == 3 && splits o) operation e
action_differs version (Some (actions.Older o)) operation e = absurd (cc)

known_in_code : (b : Bool) (o : Option VersionOperation) (operation : Operation)
    → cond b o None ≡ Some (Known operation) → o ≡ Some (Known operation)
known_in_code true o operation e = e
known_in_code false o operation e = absurd (cc)

known_early : (b : Bool) (o : Option VersionOperation) (operation : Operation)
    → cond b None o ≡ Some (Known operation) → o ≡ Some (Known operation)
known_early true o operation e = absurd (cc)
known_early false o operation e = e

pub found_differs : (version : StoryVersion) (memory : List ℕ) (at : ℕ) (operation : Operation)
    → older_at version memory at ≡ Some (Known operation) → differs version.number operation ≡ true
found_differs version memory at operation e =
    let opcode = opcode_of (slice_index memory at) (slice_index memory (at + 1)) in
    action_differs version.number (action_in version.number opcode) operation
    (known_early (is_late version) _ operation (known_in_code (is_code memory at) (of_opcode version opcode) operation e))

-- An operation is found in code alone.

code_within : (b : Bool) (memory : List ℕ) (at : ℕ) (o : Option VersionOperation) (operation : VersionOperation)
    → is_code memory at ≡ b → cond b o None ≡ Some operation → at < length memory
code_within true memory at o operation code h = ltb-true at (length memory) (and_parts _ _ code).1
code_within false memory at o operation code h = absurd (cc)

pub found_within : (version : StoryVersion) (memory : List ℕ) (at : ℕ) (operation : VersionOperation)
    → older_at version memory at ≡ Some operation → at < length memory
found_within version memory at operation e =
    code_within (is_code memory at) memory at
    (of_opcode version (opcode_of (slice_index memory at) (slice_index memory (at + 1)))) operation refl e

-- What is performed otherwise of the profile is the opcode's operation in the profile

known_by : (b : Bool) (o operation : Operation) → cond b (Some (Known o)) None ≡ Some (Known operation) → o ≡ operation
known_by true o operation e = cc
known_by false o operation e = absurd (cc)

not_split : {P : Type 0} (b : Bool) (operation : Operation) → cond b (Some SplitWindow) None ≡ Some (Known operation) → P
not_split true operation e = absurd (cc)
not_split false operation e = absurd (cc)

action_known : (version : ℕ) (action : Option Action) (operation : Operation)
    → otherwise version action ≡ Some (Known operation) → action ≡ Some (actions.Profile operation)
action_known version None operation e = absurd (cc)
action_known version (Some (actions.Profile o)) operation e =
    ap (λ (k : Operation). Some (actions.Profile k)) (known_by (differs version o) o operation e)
action_known version (Some (actions.Standard o)) operation e = not_split (version == 3 && splits o) operation e
action_known version (Some (actions.Older o)) operation e = absurd (cc)

older_not : {P : Type 0} (b : Bool) (o : Option OlderOperation) (operation : Operation)
    → cond b (as_older o) None ≡ Some (actions.Profile operation) → P
older_not true None operation e = absurd (cc)
older_not true (Some o) operation e = absurd (cc)
older_not false o operation e = absurd (cc)

in_standard : {P : Type 0} (b : Bool) (o : StandardOperation) (old : Bool) (older : Option OlderOperation)
    (operation : Operation) → or_else (cond b (Some (actions.Standard o)) None) (cond old (as_older older) None)
    ≡ Some (actions.Profile operation) → P
in_standard true o old older operation e = absurd (cc)
in_standard false o old older operation e = older_not old older operation e

in_profile : (b : Bool) (o : Operation) (old : Bool) (older : Option OlderOperation) (operation : Operation)
    → or_else (cond b (Some (actions.Profile o)) None) (cond old (as_older older) None)
    ≡ Some (actions.Profile operation) → Some o ≡ Some operation
in_profile true o old older operation e = cc
in_profile false o old older operation e = older_not old older operation e

profile_by : (version : ℕ) (p : Option Operation) (q : Option StandardOperation) (old : Bool)
    (older : Option OlderOperation) (operation : Operation)
    → or_else (newer_in version p q) (cond old (as_older older) None) ≡ Some (actions.Profile operation)
    → p ≡ Some operation
profile_by version p (Some o) old older operation e =
    in_standard (nat_le (first_version_of o) version && nat_le version last_version) o old older operation e
profile_by version (Some o) None old older operation e =
    in_profile (nat_le (first_version o) version && nat_le version last_version) o old older operation e
profile_by version None None old older operation e = older_not old older operation e

known_late : (late : Bool) (version : ℕ) (action : Option Action) (operation : Operation)
    → cond late None (otherwise version action) ≡ Some (Known operation) → action ≡ Some (actions.Profile operation)
known_late true version action operation e = absurd (cc)
known_late false version action operation e = action_known version action operation e

pub known_profile : (version : StoryVersion) (opcode : Opcode) (operation : Operation)
    → of_opcode version opcode ≡ Some (Known operation) → profile_of opcode ≡ Some operation
known_profile version opcode operation e =
    profile_by version.number (profile_of opcode) (standard_of opcode) (nat_le 1 version.number && nat_le version.number 4)
    (older_of opcode) operation
    (known_late (is_late version) version.number (action_in version.number opcode) operation e)
