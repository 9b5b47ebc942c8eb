-- A compiled story is read by the Standard's player, and plays its program.
use Rattle.std.proofs.Common.{◌≡◌, ℕ, List, [], map, refl, sym, ap, subst, ◌∙◌, true, None, Ok}
use Rattle.std.specs.Prelude.{◌<◌, ◌==◌, ◌||◌, slice_index}
use Rattle.std.specs.List.{All, list_all}
use Rattle.zcore.specs.declared.header.Header.{Header}
use Rattle.zcore.specs.declared.header.Version.{Version}
use Rattle.zcore.specs.Header.{Reads, scale_of}
use Rattle.zcore.specs.Turn.{Whole, plays, plays_of, last_place}
use Rattle.zcore_standard_loading.specs.Capabilities.{HasByteSize}
use Rattle.zcore_standard_loading.specs.declared.options.StandardOptions.{StandardOptions}
use Rattle.zcore_standard.specs.Machine.{with_standard_state}
use Rattle.zcore_versions.specs.StandardLaws.{is_plain_line}
use Rattle.zcore_standard_loading.specs.Loading as loading
use Rattle.zcore_standard_loading.specs.Loading.{memory_for, own_alphabets_of}
use Rattle.zcore_versions.specs.Laws.{LateVersionsAreStandard}
use Rattle.zcore_versions.specs.Machine.{by_version}
use Rattle.zcore_versions.specs.Versions.{Story, is_late}
use Rattle.syntax.specs.Laws.{PrintableTrees}
use Rattle.meaning.specs.Plays.{Plays}
use Rattle.meaning.specs.Printable.{HasPrintableTexts}
use Rattle.meaning.specs.Resolved.{ProgramOf}
use Rattle.checker.specs.Laws.{AcceptedPrograms, PrintablePrograms}
use Rattle.checker.specs.Programs.{resolve_program}
use Rattle.code.specs.Laws.{CodePlays}
use Rattle.story_file.specs.Layout.{addresses_in, story_of}
use Rattle.story.specs.CodeSizes.{CodeIsShort}
use Rattle.story.specs.Laws.{IsStory, StoriesHold}
use Rattle.story.specs.Refused.{lexemes_of}
use Rattle.story.specs.Played.{IsPlayableByStandard, PlaysByStandard, StoriesPlayByStandard, asks_no_name}
use Rattle.story.proofs.Asking.{runs_ask, same_asking}
use Rattle.story.proofs.Lifting.{same_place, same_run, same_texts, version_run}
use Rattle.story.proofs.Loading.{is_loaded, loaded}
use Rattle.story.proofs.StandardReading.{file_read, holds_loaded, late_number, loaded_story, no_alphabets}
use Rattle.story.proofs.StandardSizes.{is_story}
use Rattle.story.proofs.Texts.{texts_print}

module _ (late : LateVersionsAreStandard) (code_plays : CodePlays) (hold : StoriesHold) (version : Version)
    (p : ProgramOf) (is : IsStory version p) (printable : HasPrintableTexts p) where
  abbrev file : List ℕ
  file = story_of version p

  abbrev header : Header
  header = (hold version p is).0.0

  reads : Reads file (Ok header)
  reads = (hold version p is).0.1

  module _ (options : StandardOptions) (size_is : HasByteSize options.capabilities) where
    abbrev story : Story
    story = loading.story_of file options

    abbrev memory : List ℕ
    memory = memory_for options.capabilities file

    memory_is : memory ≡ loaded version p options.capabilities
    memory_is = is_loaded version p options.capabilities header reads

    -- the profile plays the loaded memory
    plays_loaded : (full : ℕ) (lines : List (List ℕ)) → Plays memory p full lines
    plays_loaded full lines =
        subst (λ m. Plays m p full lines) (sym memory_is)
        (code_plays (loaded version p options.capabilities) (addresses_in (scale_of version) p) p is.accepted printable
        (holds_loaded version p is options.capabilities size_is (hold version p is).1) full lines)

    is_late_story : is_late story.version ≡ true
    is_late_story =
        ap (λ m. let n = slice_index m 0 in (n == 5) || (n == 8)) memory_is ∙ late_number version

    own : story.loaded.own_alphabets ≡ None
    own = ap own_alphabets_of memory_is ∙ no_alphabets version p options.capabilities

    same : (full : ℕ) (lines : List (List ℕ)) → list_all is_plain_line lines ≡ true
        → plays_of (by_version story memory full) lines
        ≡ map (with_standard_state story.loaded.dice []) (plays memory full lines)
    same full lines plain =
        version_run story (late story is_late_story) memory full lines
        ∙ same_run story.loaded memory p full lines own refl plain (plays_loaded full lines)

    plays_too : (full : ℕ) (lines : List (List ℕ)) → list_all is_plain_line lines ≡ true
        → PlaysByStandard options file p full lines
    plays_too full lines plain =
        let h = plays_loaded full lines in
        let e = same full lines plain in
        let dice = story.loaded.dice in
        record {
          texts = ap (map (λ (w : Whole). w.text)) e ∙ same_texts dice (plays memory full lines) ∙ h.texts;
          place = ap last_place e ∙ same_place dice (plays memory full lines) ∙ h.place;
          asks = ap (list_all asks_no_name) e ∙ same_asking dice (plays memory full lines)
              ∙ runs_ask memory full lines;
        }

    pub playable : IsPlayableByStandard options file p
    playable = record {
      read = (
        loaded_story version p is options.capabilities size_is header reads,
        file_read version p is options.capabilities size_is header reads,
      );
      plays = plays_too;
    }

pub stories_play : AcceptedPrograms → PrintablePrograms → PrintableTrees → CodeIsShort → StoriesHold → CodePlays
    → LateVersionsAreStandard → StoriesPlayByStandard
stories_play accepted_programs printable_programs printable_trees code_is_short hold code_plays late limit version source
    _ is bytes options size_is =
    let play = is.playable in
    let p : ProgramOf = resolve_program play.tree in
    let texts = texts_print source play.is_tree.tokens play.is_tree.lexed in
    let printable : HasPrintableTexts p =
    printable_programs play.tree (printable_trees (lexemes_of play.is_tree.tokens) play.tree play.is_tree.parsed texts) in
    let held : IsStory version p =
    is_story accepted_programs code_is_short version source play.tree play.is_tree play.lawful limit play.fits
    (subst (All (λ b. b < 256)) is.laid_out bytes) in
    subst (λ s. IsPlayableByStandard options s p) (sym is.laid_out)
    (playable late code_plays hold version p held printable options size_is)
