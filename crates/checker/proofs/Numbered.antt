-- The numbers of keys: where the dictionary stands.
use Rattle.std.proofs.Common.{◌≡◌, ◌==◌, ◌<◌, ◌≤◌, ◌⊎◌, inl, inr, ℕ, ◌+◌, ◌*◌, ◌%◌, Bool, true, false, cond, List, []}
use Rattle.std.proofs.Common.{◌∷◌, length, Bor, refl, sym, ap, ◌∙◌, arith}
use Rattle.std.specs.Prelude.{map}
use Rattle.std.specs.List.{concat}
use Rattle.std.proofs.Math.Path.{fun_ext}
use Rattle.std.proofs.lemmas.Bool.{cases_lt}
use Rattle.tables.specs.KeyNumbers.{key_number, place_in}
use Rattle.syntax_directives.specs.declared.tree.Directive.{Directive}
use Rattle.syntax_directives.specs.Views.{directive_tree}
use Rattle.syntax.specs.declared.tree.Program.{Program}
use Rattle.syntax.specs.Tree.{ProgramTree}
use Rattle.syntax.specs.Views.{program_tree}
use Rattle.meaning.specs.Objects.{ObjectOf}
use Rattle.meaning.specs.Places.{dictionary_place, folded, table_size, objects_size, total}
use Rattle.meaning.proofs.Folding.{fold_small, fold_great, fold_part}
use Rattle.checker_values.specs.Keys.{keys_of}
use Rattle.checker_values.specs.Names.{Table, File, table_of}
use Rattle.checker_statements.specs.Arrays.{arrays_of}
use Rattle.checker_statements.specs.Objects.{with_parents, parents_of, object_trees, objects_in}
use Rattle.checker_statements.specs.Sizes.{listed_objects_size}
use Rattle.checker_statements.proofs.Chains.{placed_many}
use Rattle.checker_statements.proofs.Sizes.{objects_sized}
use Rattle.checker.specs.Programs.{resolve_with, no_numbers, file_of}

abbrev pub numbered : Table → (ℕ → ℕ) → File
numbered table number = record { table = table; number = number }

abbrev pub numbers_by : ℕ → List ℕ → ℕ → ℕ
numbers_by place keys key = key_number place keys key % 65536

-- parents add nothing

placed_sizes : (ps : List ℕ) (os : List ObjectOf) → total (map table_size (with_parents ps os)) ≡ total (map table_size os)
placed_sizes ps [] = refl
placed_sizes [] (o ∷ os) = ap (λ (n : ℕ). table_size o + n) (placed_sizes [] os)
placed_sizes (p ∷ ps) (o ∷ os) = ap (λ (n : ℕ). table_size o + n) (placed_sizes ps os)

-- the dictionary is after 864 bytes, the arrays and the objects
pub place_is : (file : File) (p : ProgramTree) → dictionary_place (resolve_with file p)
    ≡ 864 + length (concat (arrays_of file p.directives)) + objects_size (objects_in file p.directives)
unfolding resolve_with
place_is file p =
    let ps : List ℕ = parents_of file.table (object_trees p.directives) in
    let os : List ObjectOf = objects_in file p.directives in
    summed (length (concat (arrays_of file p.directives))) (length (with_parents ps os)) (length os)
    (total (map table_size (with_parents ps os))) (total (map table_size os)) (placed_many ps os) (placed_sizes ps os)
  where
    summed : (a l m s t : ℕ) → l ≡ m → s ≡ t → 64 + 192 + 2 + 480 + a + 126 + 14 * l + s ≡ 864 + a + (14 * m + t)
    summed a l m s t h k = omega (arith, h, k)

-- Numbers do not rest on more of the place than they keep

place_same : (at to key : ℕ) (keys : List ℕ) → at % 65536 ≡ to % 65536
    → place_in at keys key % 65536 ≡ place_in to keys key % 65536
place_same at to key [] h = refl
place_same at to key (k ∷ ks) h = go (k == key) (place_same (at + 9) (to + 9) key ks (omega (arith, h)))
  where
    go : (c : Bool) → place_in (at + 9) ks key % 65536 ≡ place_in (to + 9) ks key % 65536
        → cond c at (place_in (at + 9) ks key) % 65536 ≡ cond c to (place_in (to + 9) ks key) % 65536
    go true r = h
    go false r = r

numbers_same : (at to : ℕ) (keys : List ℕ) → at % 65536 ≡ to % 65536 → numbers_by at keys ≡ numbers_by to keys
numbers_same at to keys h = fun_ext (λ (key : ℕ). place_same (at + 7) (to + 7) key keys (omega (arith, h)))

fold_same : (at to : ℕ) → at ≡ folded to → at % 65536 ≡ to % 65536
fold_same at to is = is_folded (cases_lt to 65536)
  where
    is_folded : (to < 65536) ⊎ (65536 ≤ to) → at % 65536 ≡ to % 65536
    is_folded (inl lt) = let e = is ∙ fold_small to lt in omega (arith, e)
    is_folded (inr ge) = let e = is ∙ fold_great to ge in omega (arith, e)

-- the names and numbers of a file, by those of its names with no numbers
pub file_numbered : (p : Program) (given again : List Directive) (words : List (Bor (List ℕ))) (first : File)
    (table : Table) (keys : List ℕ) (n size place : ℕ)
    → first ≡ no_numbers (program_tree p) → table ≡ first.table → given ≡ p.directives.items
    → again ≡ p.directives.items
    → n ≡ length (concat (arrays_of first (map directive_tree given)))
    → size ≡ folded (listed_objects_size (map directive_tree again))
    → place ≡ folded (864 + n + size) → words ≡ p.words.items
    → keys ≡ keys_of (map (λ (w : Bor (List ℕ)). w.now) words)
    → numbered table (numbers_by place keys) ≡ file_of (program_tree p)
unfolding file_of resolve_with
file_numbered p given again words first table keys n size place none names same twice long much at spoken found =
    let tree = program_tree p in
    let real : ℕ = dictionary_place (resolve_with (no_numbers tree) tree) in
    let arrays : n ≡ length (concat (arrays_of (no_numbers tree) tree.directives)) =
    long ∙ ap (λ (ds : List Directive). length (concat (arrays_of first (map directive_tree ds)))) same
    ∙ ap (λ (f : File). length (concat (arrays_of f tree.directives))) none in
    let objects : size ≡ folded (objects_size (objects_in (no_numbers tree) tree.directives)) =
    much ∙ ap (λ (ds : List Directive). folded (listed_objects_size (map directive_tree ds))) twice
    ∙ ap folded (sym (objects_sized (no_numbers tree) tree.directives)) in
    let here : place ≡ folded real = at
    ∙ fold_part (864 + n) (objects_size (objects_in (no_numbers tree) tree.directives)) size objects
    ∙ ap (λ (m : ℕ). folded (864 + m + objects_size (objects_in (no_numbers tree) tree.directives))) arrays
    ∙ ap folded (sym (place_is (no_numbers tree) tree)) in
    let all : keys ≡ keys_of tree.words = found
    ∙ ap (λ (ws : List (Bor (List ℕ))). keys_of (map (λ (w : Bor (List ℕ)). w.now) ws)) spoken in
    ap (λ (t : Table). numbered t (numbers_by place keys)) (names ∙ ap (λ (f : File). f.table) none)
    ∙ ap (λ (ks : List ℕ). numbered (table_of tree.directives) (numbers_by place ks)) all
    ∙ ap (λ (f : ℕ → ℕ). numbered (table_of tree.directives) f)
    (numbers_same place real (keys_of tree.words) (fold_same place real here))

-- names with no keys
pub none_numbered : (p : ProgramTree) (table : Table) (place : ℕ) (keys : List ℕ) → keys ≡ []
    → table ≡ table_of p.directives → numbered table (numbers_by place keys) ≡ no_numbers p
none_numbered p table place keys none is =
    ap (λ (ks : List ℕ). numbered table (numbers_by place ks)) none
    ∙ ap (λ (t : Table). numbered t (λ key. 0)) is
