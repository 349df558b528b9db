-- Clients' files accepted one after the other.
use Rattle.std.proofs.Common.{rules, ◌≡◌, ℕ, zero, suc, ◌+◌, ◌<◌, ◌≤◌, Bool, true, false, ◌||◌, cond, Option, Some, None, Result, Ok, Err, IsErrOf, IsErrAnd, IsTrue, List, [], ◌∷◌, ◌++◌, get_or, length, refl, sym, ap, ◌∙◌, subst, append_assoc, append-nil, arith}
use Rattle.std.specs.{Option.option_map, List.list_all, List.filter_map, declared.vec.Vec.Vec}
use Rattle.std.proofs.{lemmas.List.length-append, lemmas.List.length-map, lemmas.List.Elements.filter_map-append, lemmas.List.Folds.list_all-append}
use Rattle.vz_ids.specs.{declared.FrameSinkId.FrameSinkId, Ids.same_sink}
use Rattle.vz_frame.specs.{declared.message.ClientFile.ClientFile, Fits.fits_file}
use Rattle.vz_codec.specs.Reading.{Fault, file_in}
use Rattle.vz_rules.specs.Plan.{has_sink, taken_from, first_taken}
use Rattle.viz_run.specs.{Decoded.IsDecoded, Decoded.AreDecoded, Read.contents}
use Rattle.viz_run.specs.Refusals.{Flaw, file_spelled, files_in, sink_place, takes_sink, file_flaw, file_refused, refused_at, refused_behind}
use Rattle.viz_run.specs.{declared.refused.Reason.TheVariants.SinkTaken, declared.refused.Refused.Refused, declared.refused.InputError.InputError}
use Rattle.viz_run.specs.declared.refused.InputError.TheVariants as input_error
use Rattle.viz_run.proofs.Flaws.{sink_flaw, error_is, refused_is}

-- a sum of two tests that is false
neither : (a b : Bool) → (a || b) ≡ false → (a ≡ false) × (b ≡ false)
neither false b none = (refl, none)
neither true b none = absurd (true≢false none)
  where
    true≢false : true ≡ false → ⊥
    true≢false h = search rules

-- nothing is found here, and nothing behind it
not_here : (t : Bool) (n : ℕ) (rest : Option ℕ) → cond t (Some n) rest ≡ None → (t ≡ false) × (rest ≡ None)
not_here false n rest none = (refl, none)
not_here true n rest none = absurd (search rules)

-- files that have sinks of their own, and one more with another sink
none_taken :
    (before : List FrameSinkId) (n : ℕ) (files : List ClientFile) (file : ClientFile) →
    taken_from before n files ≡ None → has_sink before file.sink ≡ false → takes_sink files file ≡ false → taken_from before n (files ++ file ∷ []) ≡ None
none_taken before n [] file none other free = ap (λ (t : Bool). cond t (Some n) (taken_from (file.sink ∷ before) (n + 1) [])) other
none_taken before n (f ∷ fs) file none other free =
    let here = not_here (has_sink before f.sink) n (taken_from (f.sink ∷ before) (n + 1) fs) none in
    let apart = neither (same_sink file.sink f.sink) (takes_sink fs file) free in
    ap (λ (t : Bool). cond t (Some n) (taken_from (f.sink ∷ before) (n + 1) (fs ++ file ∷ []))) here.0
    ∙ none_taken (f.sink ∷ before) (n + 1) fs file here.1 (ap (λ (t : Bool). t || has_sink before file.sink) apart.0 ∙ other) apart.1

-- the inputs up to a place were accepted, and these are their files
pub record HasAccepted (all done left : List (List ℕ)) (files : List ClientFile) : Type 0 where
  pub whole : all ≡ done ++ left
  pub count : length files ≡ length done
  pub others : file_refused all ≡ refused_behind files left
  pub spelled : files ≡ files_in done
  pub fitting : IsTrue (list_all fits_file files)
  pub free : first_taken files ≡ None

accepted_none : (all : List (List ℕ)) → HasAccepted all [] all []
unfolding first_taken
accepted_none all = record { whole = refl; count = refl; others = refl; spelled = refl; fitting = refl; free = refl }

-- one more is accepted
accepted_more :
    (all done left : List (List ℕ)) (files : List ClientFile) (bytes : List ℕ) (file : ClientFile) →
    HasAccepted all done (bytes ∷ left) files → file_in bytes ≡ Ok file → IsTrue (fits_file file) → takes_sink files file ≡ false →
    file_flaw files bytes ≡ None → HasAccepted all (done ++ bytes ∷ []) left (files ++ file ∷ [])
unfolding refused_behind first_taken
accepted_more all done left files bytes file has spelled fitting free good = record {
  whole = has.whole ∙ sym (append_assoc done (bytes ∷ []) left);
  count = length-append files (file ∷ []) ∙ (ap (λ (n : ℕ). n + 1) has.count ∙ sym (length-append done (bytes ∷ [])));
  others = has.others ∙ goes_on (file_flaw files bytes) good ∙ ap (λ (fs : List ClientFile). refused_behind (files ++ fs) left) one;
  spelled = ap (λ (fs : List ClientFile). fs ++ file ∷ []) has.spelled
      ∙ sym (filter_map-append file_spelled done (bytes ∷ []) ∙ ap (λ (fs : List ClientFile). files_in done ++ fs) one);
  fitting = rw (list_all-append fits_file files (file ∷ []), has.fitting, fitting) refl;
  free = none_taken [] 0 files file has.free refl free;
}
  where
    one : files_in (bytes ∷ []) ≡ file ∷ []
    one = ap (λ (r : Result ClientFile Fault). filter_map (λ (q : Result ClientFile Fault). elim q [ Ok f ↦ Some f | Err e ↦ None ]) (r ∷ [])) spelled

    goes_on : (f : Option Flaw) → f ≡ None
        → (elim f [ Some flaw ↦ Some (refused_at (length files + 1) flaw) | None ↦ refused_behind (files ++ files_in (bytes ∷ [])) left ])
        ≡ refused_behind (files ++ files_in (bytes ∷ [])) left
    goes_on None is = refl
    goes_on (Some flaw) is = absurd (search rules)

-- the file at a place is refused: no other before it was
refused_here :
    (all done left : List (List ℕ)) (files : List ClientFile) (bytes : List ℕ) (r : Refused) →
    HasAccepted all done (bytes ∷ left) files →
    option_map (refused_at (length files + 1)) (file_flaw files bytes) ≡ Some r → file_refused all ≡ Some r
unfolding refused_behind
refused_here all done left files bytes r has is = has.others ∙ flawed (file_flaw files bytes) is
  where
    flawed : (f : Option Flaw) → option_map (refused_at (length files + 1)) f ≡ Some r
        → (elim f [ Some flaw ↦ Some (refused_at (length files + 1) flaw) | None ↦ refused_behind (files ++ files_in (bytes ∷ [])) left ]) ≡ Some r
    flawed (Some flaw) same = same
    flawed None same = absurd (search rules)

-- these are the answers of the inputs behind those that were accepted
pub record IsUnder (all : List (List ℕ)) (files : List ClientFile) (answers : List (Result ClientFile InputError)) : Type 0 where
  pub done : List (List ℕ)
  pub left : List (List ℕ)
  pub has : HasAccepted all done left files
  pub decoded : AreDecoded (length files) left answers

pub under_none : (all : List (List ℕ)) (answers : List (Result ClientFile InputError)) → AreDecoded 0 all answers → IsUnder all [] answers
under_none all answers decoded = record { done = []; left = all; has = accepted_none all; decoded = decoded }

-- the input that an answer is of
record IsNext (all : List (List ℕ)) (files : List ClientFile) (answer : Result ClientFile InputError) (rest : List (Result ClientFile InputError)) : Type 0 where
  pub done : List (List ℕ)
  pub bytes : List ℕ
  pub left : List (List ℕ)
  pub has : HasAccepted all done (bytes ∷ left) files
  pub one : IsDecoded (length files) bytes answer
  pub others : AreDecoded (length files + 1) left rest

next_of :
    (all : List (List ℕ)) (files : List ClientFile) (answer : Result ClientFile InputError) (rest : List (Result ClientFile InputError))
    → IsUnder all files (answer ∷ rest) → IsNext all files answer rest
next_of all files answer rest under = by_left under.left under.has under.decoded
  where
    by_left : (left : List (List ℕ)) → HasAccepted all under.done left files → AreDecoded (length files) left (answer ∷ rest) → IsNext all files answer rest
    by_left [] has decoded = absurd decoded
    by_left (bytes ∷ more) has decoded =
        record { done = under.done; bytes = bytes; left = more; has = has; one = decoded.0; others = decoded.1 }

module _ (all : List (List ℕ)) (files : List ClientFile) (rest : List (Result ClientFile InputError)) where
  -- there is room for one more
  pub under_few : (answer : Result ClientFile InputError) (earlier : List ClientFile) (most : ℕ) → IsUnder all files (answer ∷ rest) → earlier ≡ files → length all ≤ most → length earlier < most
  under_few answer earlier most under behind few =
      let n = next_of all files answer rest under in
      let parts = length-append n.done (n.bytes ∷ n.left) in
      omega (arith, few, ap length behind, n.has.count, ap length n.has.whole, parts)

  -- a file whose sink is free is accepted
  pub under_more :
      (answer : Result ClientFile InputError) (file kept : ClientFile) (earlier more : List ClientFile) → IsUnder all files (answer ∷ rest)
      → answer ≡ Ok file → kept ≡ file → earlier ≡ files → takes_sink earlier file ≡ false → more ≡ files ++ kept ∷ [] → IsUnder all more rest
  under_more answer file kept earlier more under found same behind free_there is =
      let n = next_of all files (Ok file) rest (subst (λ (a : Result ClientFile InputError). IsUnder all files (a ∷ rest)) found under) in
      let free : takes_sink files file ≡ false = ap (λ (fs : List ClientFile). takes_sink fs file) (sym behind) ∙ free_there in
      let then : more ≡ files ++ file ∷ [] = is ∙ ap (λ (x : ClientFile). files ++ x ∷ []) same in
      let has = accepted_more all n.done n.left files n.bytes file n.has n.one.1 n.one.2 free (sink_flaw files n.bytes file false n.one.0 n.one.1 free) in
      let long : length more ≡ length files + 1 = ap length then ∙ length-append files (file ∷ []) in
      record {
        done = n.done ++ n.bytes ∷ [];
        left = n.left;
        has = subst (HasAccepted all (n.done ++ n.bytes ∷ []) n.left) (sym then) has;
        decoded = subst (λ (k : ℕ). AreDecoded k n.left rest) (sym long) n.others;
      }

  -- one whose sink is taken is refused
  pub under_taken :
      {V : Type 0} (answer : Result ClientFile InputError) (file : ClientFile) (earlier : List ClientFile) (e : InputError) → IsUnder all files (answer ∷ rest)
      → answer ≡ Ok file → earlier ≡ files → takes_sink earlier file ≡ true
      → e ≡ input_error.Refused (record { file = length earlier + 1; at = sink_place; reason = SinkTaken })
      → (r : Refused) → IsErrOf {T = V} (Err e) (input_error.Refused r) → file_refused all ≡ Some r
  under_taken {V = V} answer file earlier e under found behind taken_there made r is =
      let n = next_of all files (Ok file) rest (subst (λ (a : Result ClientFile InputError). IsUnder all files (a ∷ rest)) found under) in
      let taken : takes_sink files file ≡ true = ap (λ (fs : List ClientFile). takes_sink fs file) (sym behind) ∙ taken_there in
      let told : Refused = record { file = length files + 1; at = sink_place; reason = SinkTaken } in
      let same : told ≡ r = refused_is (ap (λ (fs : List ClientFile). input_error.Refused (record { file = length fs + 1; at = sink_place; reason = SinkTaken })) (sym behind)
      ∙ (sym made ∙ error_is {T = V} e (input_error.Refused r) is)) in
      refused_here all n.done n.left files n.bytes told n.has
      (ap (option_map (refused_at (length files + 1))) (sink_flaw files n.bytes file true n.one.0 n.one.1 taken)) ∙ ap Some same

  -- so is one that is wrong by itself
  pub under_refused :
      {V : Type 0} (answer : Result ClientFile InputError) (e : InputError) → IsUnder all files (answer ∷ rest) → answer ≡ Err e
      → (r : Refused) → IsErrOf {T = V} (Err e) (input_error.Refused r) → file_refused all ≡ Some r
  under_refused {V = V} answer e under found r is =
      let n = next_of all files (Err (input_error.Refused r)) rest
      (subst (λ (a : Result ClientFile InputError). IsUnder all files (a ∷ rest)) (found ∙ ap Err (error_is {T = V} e (input_error.Refused r) is)) under) in
      refused_here all n.done n.left files n.bytes r n.has (n.one files)

-- all were accepted
pub record AreAll (all : List (List ℕ)) (files : List ClientFile) : Type 0 where
  pub good : file_refused all ≡ None
  pub count : length files ≡ length all
  pub spelled : files ≡ files_in all
  pub fitting : IsTrue (list_all fits_file files)
  pub free : first_taken files ≡ None

all_done : (all done : List (List ℕ)) (files : List ClientFile) → HasAccepted all done [] files → AreAll all files
unfolding refused_behind
all_done all done files has = record {
  good = has.others;
  count = has.count ∙ ap length (sym (has.whole ∙ append-nil done));
  spelled = has.spelled ∙ ap files_in (sym (has.whole ∙ append-nil done));
  fitting = has.fitting;
  free = has.free;
}

pub under_all : (all : List (List ℕ)) (files : List ClientFile) → IsUnder all files [] → AreAll all files
under_all all files under = by_left under.left under.has under.decoded
  where
    by_left : (left : List (List ℕ)) → HasAccepted all under.done left files → AreDecoded (length files) left [] → AreAll all files
    by_left [] has decoded = all_done all under.done files has
    by_left (bytes ∷ more) has decoded = absurd decoded

-- what each piece of work answers is what is answered of all
pub decoded_from :
    (k : ℕ) (all : List (List ℕ)) (answers : List (Result ClientFile InputError)) → length answers ≡ length all
    → ((i : ℕ) (e : Result ClientFile InputError) → i < length all → IsDecoded (k + i) (get_or all i []) (get_or answers i e))
    → AreDecoded k all answers
decoded_from k [] [] long each = tt
decoded_from k [] (a ∷ as') long each = absurd (omega (arith, long))
decoded_from k (v ∷ vs) [] long each = absurd (omega (arith, long))
decoded_from k (v ∷ vs) (a ∷ as') long each = (
  subst (λ (n : ℕ). IsDecoded n v a) (omega arith) (each 0 a (omega arith)),
  decoded_from (k + 1) vs as' (omega (arith, long))
      (λ i e low. subst (λ (n : ℕ). IsDecoded n (get_or vs i []) (get_or as' i e)) (next i) (each (suc i) e (omega (arith, low)))),
)
  where
    next : (i : ℕ) → k + suc i ≡ k + 1 + i
    next i = omega arith

-- the bytes of the file at a place
pub contents_at : {A : Type 0} (inputs : List (Vec ℕ A)) (n : ℕ) (d : Vec ℕ A) → n < length inputs → get_or (contents inputs) n [] ≡ (get_or inputs n d).items
contents_at [] n d low = absurd (omega (arith, low))
contents_at (v ∷ vs) zero d low = refl
contents_at (v ∷ vs) (suc n) d low = contents_at vs n d (omega (arith, low))

-- as many contents as files
pub contents_count : {A : Type 0} (inputs : List (Vec ℕ A)) → length (contents inputs) ≡ length inputs
contents_count inputs = length-map inputs (λ v. v.items)

-- what is said of an error is said of a result that is this error
pub said_of_error :
    {T V : Type 0} (e : InputError) (r : Result T InputError) (P : Refused → Type 0) → IsErrAnd r (λ f. f ≡ e)
    → ((x : Refused) → IsErrOf {T = V} (Err e) (input_error.Refused x) → P x) → (x : Refused) → IsErrOf r (input_error.Refused x) → P x
said_of_error e (Ok v) P is said x this = absurd is
said_of_error {V = V} e (Err f) P is said x this = said x (err_of (sym is ∙ error_is f (input_error.Refused x) this))
  where
    err_of : {a b : InputError} → a ≡ b → IsErrOf {T = V} (Err a) b
    err_of same = search rules
