-- Files that are read one after another, and the source that they are together.
use Rattle.std.proofs.Common.{◌≡◌, ◌≢◌, ℕ, List, [], ◌∷◌, ◌++◌, length, map, None, Result, Ok, Err, refl, sym, ap, subst, ◌∙◌, arith}
use Rattle.std.specs.Prelude.{IfOk, slice_get}
use Rattle.std.specs.Global.{Vec}
use Rattle.std.proofs.lemmas.List.{map-append, length-map}
use Rattle.derive_joined.specs.declared.part.Part.{Part}
use Rattle.derive_joined.specs.Held.{texts_of}
use Rattle.derive_joined.specs.Included.{Gathers, HasParts, Includes, first_asked, included}
use Rattle.derive_joined.specs.Included.Gathers.{main, next}
use Rattle.derive_joined.specs.Joined.{joined}
use Rattle.derive_joined.specs.Texts.{text_of}
use Rattle.inform_places.specs.declared.files.Files.{Files}
use Rattle.inform_places.specs.declared.files.Written.{Written}
use Rattle.inform_places.specs.declared.gathering.Gathering.{Gathering}
use Rattle.inform_places.specs.Source.{IsEmpty, IsGathered, IsSourceOf, all_bytes, bytes_gathered, bytes_in, bytes_of, bytes_or_none}
use Rattle.inform_places.specs.Source.{source_of, text_or}

-- the text of one file more
texts_of-push : (texts more : List (Vec ℕ)) (text : Vec ℕ) → more ≡ texts ++ text ∷ []
    → texts_of more ≡ texts_of texts ++ text.items ∷ []
texts_of-push texts more text pushed =
    ap texts_of pushed ∙ map-append (λ (x : Vec ℕ). x.items) texts (text ∷ [])

-- its bytes with their texts joined
joined-push : (written more : List Written) (file : Written) → more ≡ written ++ file ∷ []
    → map joined (map bytes_in more) ≡ map joined (map bytes_in written) ++ joined (bytes_in file) ∷ []
joined-push written more file pushed =
    ap (λ files. map joined (map bytes_in files)) pushed
    ∙ ap (map joined) (map-append bytes_in written (file ∷ []))
    ∙ map-append joined (map bytes_in written) (bytes_in file ∷ [])

-- one file more joins
joins-push : (written new_written : List Written) (texts new_texts : List (Vec ℕ)) (file : Written) (text : Vec ℕ)
    → texts_of texts ≡ map joined (map bytes_in written) → text.items ≡ joined (bytes_in file)
    → new_written ≡ written ++ file ∷ [] → new_texts ≡ texts ++ text ∷ []
    → texts_of new_texts ≡ map joined (map bytes_in new_written)
joins-push written new_written texts new_texts file text joins is_joined more_written more_texts =
    texts_of-push texts new_texts text more_texts
    ∙ ap (λ files. files ++ text.items ∷ []) joins
    ∙ ap (λ one. map joined (map bytes_in written) ++ one ∷ []) is_joined
    ∙ sym (joined-push written new_written file more_written)

-- the main file is read
pub begins : (old : Gathering) (written : List Written) (texts : List (Vec ℕ)) (parts : List Part) (file : Written)
    (text : Vec ℕ) (bytes : List ℕ) → IsEmpty old → text.items ≡ joined (bytes_in file)
    → written ≡ old.written.items ++ file ∷ [] → texts ≡ old.texts.items ++ text ∷ []
    → bytes ≡ text.items → HasParts 0 bytes parts
    → (texts_of texts ≡ map joined (map bytes_in written)) × Gathers (texts_of texts) parts
begins old written texts parts file text bytes empty is_joined more_written more_texts same has =
    let joins = joins-push old.written.items written old.texts.items texts file text
    (ap texts_of empty.texts ∙ sym (ap (λ files. map joined (map bytes_in files)) empty.written))
    is_joined more_written more_texts in
    let one : texts_of texts ≡ text.items ∷ [] = texts_of-push old.texts.items texts text more_texts
    ∙ ap (λ files. texts_of files ++ text.items ∷ []) empty.texts in
    let begun : Gathers (text.items ∷ []) parts = main (subst (λ b. HasParts 0 b parts) same has) in
    (joins, subst (λ files. Gathers files parts) (sym one) begun)

-- one file more is read
pub takes : (old : Gathering) (written : List Written) (texts : List (Vec ℕ)) (parts more : List Part) (file : Written)
    (text : Vec ℕ) (bytes : List ℕ) (number : ℕ) → IsGathered old → text.items ≡ joined (bytes_in file)
    → written ≡ old.written.items ++ file ∷ [] → texts ≡ old.texts.items ++ text ∷ []
    → bytes ≡ text.items → number ≡ length old.texts.items → HasParts number bytes more
    → parts ≡ included more old.parts.items
    → (texts_of texts ≡ map joined (map bytes_in written)) × Gathers (texts_of texts) parts
takes old written texts parts more file text bytes number g is_joined more_written more_texts same last has put =
    let joins = joins-push old.written.items written old.texts.items texts file text
    g.joins is_joined more_written more_texts in
    let counted : number ≡ length (texts_of old.texts.items) =
    last ∙ sym (length-map old.texts.items (λ (x : Vec ℕ). x.items)) in
    let has_here : HasParts (length (texts_of old.texts.items)) text.items more =
    subst (λ n. HasParts n text.items more) counted (subst (λ b. HasParts number b more) same has) in
    let further : Gathers (texts_of old.texts.items ++ text.items ∷ []) (included more old.parts.items) =
    next g.gathers has_here in
    let put_in = subst (λ p. Gathers (texts_of old.texts.items ++ text.items ∷ []) p) (sym put) further in
    (joins, subst (λ files. Gathers files parts) (sym (texts_of-push old.texts.items texts text more_texts)) put_in)

-- files that are not one
several : (files : List (List ℕ)) (source : List ℕ) → length files ≢ 1 → Includes (map joined files) source
    → IsSourceOf files source
several [] source many includes = includes
several (file ∷ []) source many includes = absurd (many refl)
several (first ∷ second ∷ files) source many includes = includes

-- one file is the source
one_alone : (written : List Written) → length written ≡ 1
    → IsSourceOf (map bytes_in written) (bytes_or_none (slice_get written 0))
one_alone [] one = absurd (omega (arith, one))
one_alone (file ∷ []) one = refl
one_alone (first ∷ second ∷ rest) one = absurd (omega (arith, one))

-- the main file is the only one
pub finishes_alone : (files : Files) (written : Vec Written) → files.written ≡ written → files.whole ≡ None
    → length written.items ≡ 1 → IsSourceOf (all_bytes files) (source_of files)
finishes_alone files written same alone one =
    let count : length files.written.items ≡ 1 = ap (λ (w : Vec Written). length w.items) same ∙ one in
    subst (λ w. IsSourceOf (all_bytes files) (text_or (bytes_of files 0) w)) (sym alone)
    (one_alone files.written.items count)

-- all are read
finishes_as : (gathering : Gathering) (files : Files) → IsGathered gathering
    → first_asked gathering.parts.items ≡ None → length gathering.written.items ≢ 1 → files.written ≡ gathering.written
    → source_of files ≡ text_of (texts_of gathering.texts.items) gathering.parts.items
    → IsSourceOf (all_bytes files) (source_of files)
finishes_as gathering files g all_there many same reads =
    let all : all_bytes files ≡ bytes_gathered gathering = ap (λ (w : Vec Written). map bytes_in w.items) same in
    let counted : length (bytes_gathered gathering) ≢ 1 =
    λ one. many (sym (length-map gathering.written.items bytes_in) ∙ one) in
    subst (λ bytes. IsSourceOf bytes (source_of files)) (sym all)
    (several (bytes_gathered gathering) (source_of files) counted (record {
      parts = gathering.parts.items;
      gathers = subst (λ texts. Gathers texts gathering.parts.items) g.joins g.gathers;
      asks_no_more = all_there;
      reads = reads ∙ ap (λ texts. text_of texts gathering.parts.items) g.joins;
    }))

pub finishes : {E : Type 0} (result : Result Files E) (gathering : Gathering) → IsGathered gathering
    → first_asked gathering.parts.items ≡ None → length gathering.written.items ≢ 1
    → IfOk result (λ files. files.written ≡ gathering.written)
    → IfOk result (λ files. source_of files ≡ text_of (texts_of gathering.texts.items) gathering.parts.items)
    → IfOk result (λ files. IsSourceOf (all_bytes files) (source_of files))
finishes (Ok files) gathering g all_there many same reads = finishes_as gathering files g all_there many same reads
finishes (Err refusal) gathering g all_there many same reads = tt
