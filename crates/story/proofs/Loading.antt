-- The memory of a compiled story, as the Standard's player loads it: bytes of its header are set, and all else stays.
use Rattle.std.proofs.Common.{◌≡◌, ℕ, ◌+◌, ◌/◌, ◌%◌, List, ◌∷◌, ◌++◌, length, drop, refl, ap, ◌∙◌, arith}
use Rattle.std.proofs.Common.{Bool, true, false, cond, Ok}
use Rattle.std.specs.Prelude.{◌==◌, ◌*◌, codes, replicate, sum}
use Rattle.std.proofs.lemmas.List.{length-append, drop_at, take_all}
use Rattle.ztext.specs.Bytes.{word_at}
use Rattle.zcore.specs.Layout.{header_size}
use Rattle.zcore.specs.declared.header.Version.{Version}
use Rattle.zcore.specs.declared.header.Version.TheVariants.{V5, V8}
use Rattle.zcore.specs.declared.header.Header.{Header}
use Rattle.zcore.specs.Header.{Reads, scale_of, version_number}
use Rattle.zcore_standard.specs.Extension.{number_of}
use Rattle.zcore_standard_loading.specs.declared.options.Capabilities.{Capabilities}
use Rattle.zcore_standard_loading.specs.Loading.{flags_1, length_unit, memory_for, story_in, story_length, with_header}
use Rattle.meaning.specs.declared.places.Places.{Places}
use Rattle.meaning.specs.Places.{abbreviations_place, places_of}
use Rattle.meaning.specs.Resolved.{ProgramOf}
use Rattle.story_file.specs.Layout.{body_of, header_of, story_of, word}

-- the header of a story, with what a player writes into it that shows so much
abbrev pub set_header : Capabilities → Version → Places → List ℕ → List ℕ
set_header shown version at body =
    version_number version ∷ flags_1 shown.has_styles (version_number version) 0 ∷ word 1 ++ word at.start ++ word at.start ++ word at.dictionary
    ++ word at.defaults ++ word at.globals ++ word at.dictionary ++ word 0 ++ codes "000000"
    ++ word abbreviations_place ++ word ((header_size + length body) / scale_of version) ++ word (sum body % 65536)
    ++ 1 ∷ 70 ∷ shown.rows ∷ shown.columns ∷ 0 ∷ shown.columns ∷ 0 ∷ shown.rows ∷ 1 ∷ 1 ∷ 0 ∷ 0 ∷ 0 ∷ 0 ∷ 2 ∷ 9
    ∷ 0 ∷ 0 ∷ 0 ∷ 0 ∷ 1 ∷ 1 ∷ replicate 12 0

header_is_set : (shown : Capabilities) (version : Version) (at : Places) (body : List ℕ)
    → with_header shown (header_of version at body ++ body) ≡ set_header shown version at body ++ body
unfolding with_header
header_is_set shown V5 at body = refl
header_is_set shown V8 at body = refl

-- a story that states its length is the whole of its file

both_same : (b : Bool) (x y : ℕ) → y ≡ x → cond b x y ≡ x
both_same true x y e = refl
both_same false x y e = e

unit_is_scale : (version : Version) (number : ℕ) → number ≡ version_number version → length_unit number ≡ scale_of version
unit_is_scale V5 number e = ap length_unit e
unit_is_scale V8 number e = ap length_unit e

pub stated : (story : List ℕ) (h : Header) → Reads story (Ok h) → story_length story ≡ length story
stated story h read =
    both_same (word_at story 0x1A == 0) (length story) (word_at story 0x1A * length_unit (number_of story))
    (ap (λ n. word_at story 0x1A * n) (unit_is_scale h.version (number_of story) read.5.version) ∙ read.1)

pub whole_file : (story : List ℕ) (h : Header) → Reads story (Ok h) → story_in story ≡ story
whole_file story h read =
    let e : story_length story ≡ length story = stated story h read in
    take_all (story_length story) story (omega (arith, e))

-- The loaded memory of a program's story

module _ (version : Version) (p : ProgramOf) where
  pub behind_story : drop 64 (story_of version p) ≡ body_of version p
  unfolding story_of
  behind_story = drop_at (header_of version (places_of p) (body_of version p)) (body_of version p) 64 refl

  pub length_story : length (story_of version p) ≡ 64 + length (body_of version p)
  unfolding story_of
  length_story = length-append (header_of version (places_of p) (body_of version p)) (body_of version p)

  module _ (shown : Capabilities) where
    abbrev pub header_set : List ℕ
    header_set = set_header shown version (places_of p) (body_of version p)

    abbrev pub loaded : List ℕ
    loaded = header_set ++ body_of version p

    pub is_loaded : (h : Header) → Reads (story_of version p) (Ok h) → memory_for shown (story_of version p) ≡ loaded
    unfolding story_of
    is_loaded h read =
        ap (with_header shown) (whole_file (story_of version p) h read)
        ∙ header_is_set shown version (places_of p) (body_of version p)

    pub behind_loaded : drop 64 loaded ≡ body_of version p
    behind_loaded = drop_at header_set (body_of version p) 64 refl

    pub length_loaded : length loaded ≡ 64 + length (body_of version p)
    length_loaded = length-append header_set (body_of version p)
