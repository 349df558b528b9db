-- Laws on the place of the first file of a name.
use Rattle.std.proofs.Common.{◌≡◌, ℕ, zero, suc, ◌+◌, ◌<◌, nat_lt, not, ◌≢◌, inl, inr, Bool, true, false, Option, Some, None, Result, OnErr, List, [], ◌∷◌, ◌++◌, length, set, Vec, String, string_bytes, refl, sym, ◌∙◌, ap, arith, get_or, if◌then◌else◌}
use Rattle.std.proofs.{lemmas.List.length-map, lemmas.List.map-set, lemmas.List.map-append, lemmas.List.set-get_or, lemmas.Slice.Eq.bytes_eq-Decides}
use Rattle.std.specs.{Global.Global, List.position, List.position_or_len, Option.option_map, Option.option_map_or, Str.bytes_eq}
use Rattle.std.proofs.{lemmas.Bool.cases_lt, lemmas.Bool.lt-ltb, lemmas.Bool.le-ltb, lemmas.Option.none-some, lemmas.Bool.Decides.nat_tests}
use Rattle.vz_outside.specs.InMemory.{File, bytes_in, emptied, extended, file_at, files_of, first_named}
use Rattle.vz_outside.specs.Shelved.{Name}

-- the place in a list, from whether its first element is meant and from the place in its tail
abbrev step : Bool → Option ℕ → Option ℕ
step first later = if first then Some 0 else option_map suc later

-- there is no place where neither the first element is meant nor one of the tail
step_none : (first : Bool) (later : Option ℕ) → step first later ≡ None → (first ≡ false) × (later ≡ None)
step_none true later none = absurd (none-some 0 (sym none))
step_none false None none = (refl, refl)
step_none false (Some j) none = absurd (none-some (suc j) (sym none))

-- two names that differ are told apart
told_apart : (a b : Name) → b ≢ a → bytes_eq a b ≡ false
told_apart a b differs = grind (arith, nat_tests, bytes_eq-Decides a b)

-- a place is within the list
pub place_low : (files : List File) (name : Name) (i : ℕ) → first_named files name ≡ Some i → i < length files
unfolding first_named
place_low [] name i found = absurd (none-some i found)
place_low (file ∷ files) name i found = grind (arith, nat_tests, place_low files name)

-- the file at a name's place has that name
pub place_named : (files : List File) (name : Name) (i : ℕ) → first_named files name ≡ Some i → (file_at files i).0 ≡ name
unfolding first_named
place_named [] name i found = absurd (none-some i found)
place_named (file ∷ files) name i found = grind (arith, nat_tests, bytes_eq-Decides file.0 name, place_named files name)

-- other bytes in a file change no place
pub place-set :
    (files : List File) (i : ℕ) (bytes : List ℕ) (name : Name) →
    first_named (set files i ((file_at files i).0, bytes)) name ≡ first_named files name
unfolding first_named
place-set [] i bytes name = refl
place-set (file ∷ files) zero bytes name = refl
place-set (file ∷ files) (suc i) bytes name = ap (λ (later : Option ℕ). step (bytes_eq file.0 name) later) (place-set files i bytes name)

-- a file behind takes no place
pub place-append : (files more : List File) (name : Name) (i : ℕ) → first_named files name ≡ Some i → first_named (files ++ more) name ≡ Some i
unfolding first_named
place-append [] more name i found = absurd (none-some i found)
place-append (file ∷ files) more name i found = grind (arith, nat_tests, place-append files more name)

-- a file behind is the first of a name that was not there
pub place_new :
    (files : List File) (name : Name) (bytes : List ℕ) → first_named files name ≡ None →
    first_named (files ++ (name, bytes) ∷ []) name ≡ Some (length files)
unfolding first_named
place_new [] name bytes none = ap (λ (b : Bool). step b None) ((bytes_eq-Decides name name).1 refl)
place_new (file ∷ files) name bytes none =
    let parts = step_none (bytes_eq file.0 name) (first_named files name) none in
    ap (λ (b : Bool). step b (first_named (files ++ (name, bytes) ∷ []) name)) parts.0 ∙
    ap (λ (later : Option ℕ). option_map suc later) (place_new files name bytes parts.1)

-- a file behind is none of another name
pub place_other :
    (files : List File) (name other : Name) (bytes : List ℕ) → other ≢ name →
    first_named (files ++ (name, bytes) ∷ []) other ≡ first_named files other
unfolding first_named
place_other [] name other bytes differs = ap (λ (b : Bool). step b None) (told_apart name other differs)
place_other (file ∷ files) name other bytes differs =
    ap (λ (later : Option ℕ). step (bytes_eq file.0 other) later) (place_other files name other bytes differs)

-- a position in a list, from that in its tail
position_step :
    (first : Bool) (k n : ℕ) →
    (if nat_lt (if not first then 1 + k else 0) (suc n) then Some (if not first then 1 + k else 0) else None) ≡
    step first (if nat_lt k n then Some k else None)
position_step true k n = ap (λ (b : Bool). if b then Some 0 else None) (lt-ltb 0 (suc n) (omega arith))
position_step false k n =
    elim (cases_lt k n) [
      | inl low ↦
          ap (λ (b : Bool). if b then Some (1 + k) else None) (lt-ltb (1 + k) (suc n) (omega arith)) ∙
          (let one : 1 + k ≡ suc k = omega arith in ap Some one) ∙
          sym (ap (λ (b : Bool). option_map suc (if b then Some k else None)) (lt-ltb k n low))
      | inr high ↦
          ap (λ (b : Bool). if b then Some (1 + k) else None) (le-ltb (1 + k) (suc n) (omega arith)) ∙
          sym (ap (λ (b : Bool). option_map suc (if b then Some k else None)) (le-ltb k n high))
    ]

-- what a search by position finds
pub place_found :
    (files : List (String Global × Vec ℕ Global)) (name : Name) →
    position (λ file. bytes_eq (string_bytes file.0) name) files ≡ first_named (files_of files) name
unfolding first_named
place_found [] name = refl
place_found (file ∷ files) name =
    position_step (bytes_eq (string_bytes file.0) name) (position_or_len (λ file. bytes_eq (string_bytes file.0) name) files) (length files) ∙
    ap (λ (later : Option ℕ). step (bytes_eq (string_bytes file.0) name) later) (place_found files name)

-- a place among files as a program holds them is within them
pub stored_low :
    (files : List (String Global × Vec ℕ Global)) (name : Name) (i : ℕ) → first_named (files_of files) name ≡ Some i → i < length files
stored_low files name i found =
    let low = place_low (files_of files) name i found in
    let long : length (files_of files) ≡ length files =
    length-map files (λ (file : String Global × Vec ℕ Global). (string_bytes file.0, file.1.items)) in
    omega arith

-- a file as a program holds it
pub stored_at :
    (files : List (String Global × Vec ℕ Global)) (i : ℕ) (d : String Global × Vec ℕ Global) → i < length files →
    file_at (files_of files) i ≡ (string_bytes (get_or files i d).0, (get_or files i d).1.items)
stored_at [] i d low = absurd (omega arith)
stored_at (first ∷ files) zero d low = refl
stored_at (first ∷ files) (suc i) d low = stored_at files i d (omega arith)

-- the bytes of a name that is there
pub bytes_stored :
    (files : List (String Global × Vec ℕ Global)) (seen : List File) (name : Name) (i : ℕ) (d : String Global × Vec ℕ Global) →
    files_of files ≡ seen → first_named (files_of files) name ≡ Some i →
    bytes_in seen name ≡ Some (get_or files i d).1.items
bytes_stored files seen name i d same found =
    ap (λ (all : List File). bytes_in all name) (sym same) ∙
    ap (λ (place : Option ℕ). option_map (λ p. (file_at (files_of files) p).1) place) found ∙
    ap (λ (f : File). Some f.1) (stored_at files i d (stored_low files name i found))

-- the bytes of a name whose place is known
pub bytes_found : (files : List File) (name : Name) (i : ℕ) → first_named files name ≡ Some i → bytes_in files name ≡ Some (file_at files i).1
bytes_found files name i found = ap (λ (place : Option ℕ). option_map (λ p. (file_at files p).1) place) found

-- a place that was found is the first of its file's name
pub place_first : (files : List File) (name : Name) (i : ℕ) → first_named files name ≡ Some i → first_named files (file_at files i).0 ≡ Some i
place_first files name i found = ap (λ (n : Name). first_named files n) (place_named files name i found) ∙ found

-- no bytes of a name that is not there
pub bytes_missing : (files : List File) (name : Name) → first_named files name ≡ None → bytes_in files name ≡ None
bytes_missing files name none = ap (λ (place : Option ℕ). option_map (λ p. (file_at files p).1) place) none

-- a file was put in a place
stored_set :
    (files : List (String Global × Vec ℕ Global)) (i : ℕ) (file : String Global × Vec ℕ Global) →
    files_of (set files i file) ≡ set (files_of files) i (string_bytes file.0, file.1.items)
stored_set files i file = map-set (λ (f : String Global × Vec ℕ Global). (string_bytes f.0, f.1.items)) files i file

-- a file was put in the place of one with the same name and bytes
pub stored_same :
    (files : List (String Global × Vec ℕ Global)) (i : ℕ) (old : String Global × Vec ℕ Global) (bytes : Vec ℕ Global) →
    i < length files → old ≡ get_or files i old → bytes.items ≡ old.1.items →
    files_of (set files i (old.0, bytes)) ≡ files_of files
stored_same files i old bytes low at same =
    stored_set files i (old.0, bytes) ∙
    ap (λ (f : File). set (files_of files) i f) (pair ∙ sym (stored_at files i old low)) ∙
    set-get_or (files_of files) i ([], [])
  where
    pair : ◌≡◌ {A = File} (string_bytes old.0, bytes.items) (string_bytes (get_or files i old).0, (get_or files i old).1.items)
    pair =
        ap (λ (b : List ℕ). (string_bytes old.0, b)) same ∙
        ap (λ (f : String Global × Vec ℕ Global). (string_bytes f.0, f.1.items)) at

-- more bytes were put at the end of a file
pub stored_extended :
    (files : List (String Global × Vec ℕ Global)) (i : ℕ) (old : String Global × Vec ℕ Global) (bytes : Vec ℕ Global) (more : List ℕ) →
    i < length files → old ≡ get_or files i old → bytes.items ≡ old.1.items ++ more →
    files_of (set files i (old.0, bytes)) ≡ extended (files_of files) i more
stored_extended files i old bytes more low at longer =
    stored_set files i (old.0, bytes) ∙
    ap (λ (b : List ℕ). set (files_of files) i (string_bytes old.0, b)) longer ∙
    ap (λ (f : File). set (files_of files) i (f.0, f.1 ++ more))
    (ap (λ (f : String Global × Vec ℕ Global). (string_bytes f.0, f.1.items)) at ∙ sym (stored_at files i old low))

-- the first file of a name was emptied
pub stored_emptied :
    (files : List (String Global × Vec ℕ Global)) (name : Name) (i : ℕ) (old : String Global × Vec ℕ Global) (bytes : Vec ℕ Global) →
    first_named (files_of files) name ≡ Some i → old ≡ get_or files i old → bytes.items ≡ [] →
    files_of (set files i (old.0, bytes)) ≡ set (files_of files) i (name, [])
stored_emptied files name i old bytes found at empty =
    stored_set files i (old.0, bytes) ∙
    ap (λ (b : List ℕ). set (files_of files) i (string_bytes old.0, b)) empty ∙
    ap (λ (n : Name). set (files_of files) i (n, [])) named
  where
    named : string_bytes old.0 ≡ name
    named =
        ap (λ (f : String Global × Vec ℕ Global). string_bytes f.0) at ∙
        sym (ap (λ (f : File). f.0) (stored_at files i old (stored_low files name i found))) ∙
        place_named (files_of files) name i found

-- with its first file emptied a name has the same place
pub place_emptied :
    (files : List File) (name : Name) (i : ℕ) → first_named files name ≡ Some i → first_named (set files i (name, [])) name ≡ Some i
place_emptied files name i found =
    ap (λ (n : Name). first_named (set files i (n, [])) name) (sym (place_named files name i found)) ∙
    place-set files i [] name ∙ found

-- the files with the first of a name emptied, where it is there
pub emptied_there :
    (files : List File) (name : Name) (i : ℕ) → first_named files name ≡ Some i → emptied files name ≡ set files i (name, [])
emptied_there files name i found =
    ap (λ (place : Option ℕ). option_map_or (λ p. set files p (name, [])) place (files ++ (name, []) ∷ [])) found

-- the files with the first of a name made, where it is not there
pub emptied_new : (files : List File) (name : Name) → first_named files name ≡ None → emptied files name ≡ files ++ (name, []) ∷ []
emptied_new files name none = grind (arith, nat_tests)

-- a fact holds at an error where it holds
pub on_err : {T E P : Type 0} (r : Result T E) → P → OnErr r P
on_err r p = grind (arith, nat_tests)

-- what was found among files as a program holds them
pub found_there :
    (seen files : List (String Global × Vec ℕ Global)) (name : Name) (place answer : Option ℕ) →
    seen ≡ files → answer ≡ first_named (files_of seen) name → answer ≡ place → first_named (files_of files) name ≡ place
found_there seen files name place answer same found is =
    ap (λ (all : List (String Global × Vec ℕ Global)). first_named (files_of all) name) (sym same) ∙ sym found ∙ is

-- a file of a new name was put behind the others
pub stored_new :
    (files : List (String Global × Vec ℕ Global)) (name : Name) (file : String Global × Vec ℕ Global) →
    first_named (files_of files) name ≡ None → string_bytes file.0 ≡ name → file.1.items ≡ [] →
    first_named (files_of (files ++ file ∷ [])) name ≡ Some (length files)
stored_new files name file none named empty =
    ap (λ (all : List File). first_named all name) behind ∙
    place_new (files_of files) name [] none ∙
    ap Some (length-map files (λ (f : String Global × Vec ℕ Global). (string_bytes f.0, f.1.items)))
  where
    behind : files_of (files ++ file ∷ []) ≡ files_of files ++ (name, []) ∷ []
    behind =
        map-append (λ (f : String Global × Vec ℕ Global). (string_bytes f.0, f.1.items)) files (file ∷ []) ∙
        ap (λ (n : Name). files_of files ++ (n, file.1.items) ∷ []) named ∙
        ap (λ (b : List ℕ). files_of files ++ (name, b) ∷ []) empty

-- there are as many files as a program holds
pub stored_length : (files : List (String Global × Vec ℕ Global)) → length (files_of files) ≡ length files
stored_length files = length-map files (λ (file : String Global × Vec ℕ Global). (string_bytes file.0, file.1.items))
