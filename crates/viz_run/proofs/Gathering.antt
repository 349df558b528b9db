-- Files read one after the other.
use Rattle.std.proofs.Common.{◌≡◌, ℕ, zero, suc, IsTrue, ◌+◌, ◌<◌, List, [], ◌∷◌, ◌++◌, length, take, get_or, Ok, inl, inr, sym, ap, ◌∙◌, subst, arith}
use Rattle.std.proofs.{lemmas.Grind.take_at_read, lemmas.List.map-append, lemmas.List.length-append}
use Rattle.std.specs.{declared.string.String.String, declared.vec.Vec.Vec, String.string_bytes}
use Rattle.vz_outside.specs.Shelved.{Shelved, Name, IsMissing, SameFiles, BehavesUnless}
use Rattle.vz_outside.proofs.Calls.{Ran, ran_one, ran_then_ran, files_then_files}
use Rattle.viz_run.specs.Read.{IsReadUpto, AreReadUpto, MissesOne, texts, contents}

-- files of these names were read, and calls went through
pub record HasRead (limit : ℕ) (names : List Name) (files : List (List ℕ)) (before now : Shelved) : Type 0 where
  pub read : AreReadUpto limit names files before
  pub same : SameFiles before now
  pub ran : Ran before now

-- one more was read
one_read :
    (limit : ℕ) (names : List Name) (files : List (List ℕ)) (name : Name) (bytes : List ℕ) (s : Shelved) →
    AreReadUpto limit names files s → IsReadUpto limit name bytes s → AreReadUpto limit (names ++ name ∷ []) (files ++ bytes ∷ []) s
one_read limit [] [] name bytes s all one = (one, tt)
one_read limit [] (f ∷ fs) name bytes s all one = absurd all
one_read limit (n ∷ ns) [] name bytes s all one = absurd all
one_read limit (n ∷ ns) (f ∷ fs) name bytes s all one = (all.0, one_read limit ns fs name bytes s all.1 one)

-- what is read of a name after calls that kept the bytes is what was read before
read_before : (limit : ℕ) (name : Name) (bytes : List ℕ) (a b : Shelved) → Ran a b → SameFiles a b → IsReadUpto limit name bytes b → IsReadUpto limit name bytes a
read_before limit name bytes a b ran same read known =
    let known_then = subst IsTrue (sym ran.call.known) known in
    let found = read known_then in
    (found.0, sym (same known name) ∙ found.1, found.2)

pub read_more :
    {P : Type 0} {V : Type 0} (limit : ℕ) (names : List Name) (files : List (List ℕ)) (name : Name) (bytes : List ℕ) (v : V) (a b c : Shelved) →
    HasRead limit names files a b → IsReadUpto limit name bytes b → SameFiles b c → BehavesUnless {T = V} P b c (Ok v) →
    HasRead limit (names ++ name ∷ []) (files ++ bytes ∷ []) a c
read_more limit names files name bytes v a b c has read same behaves = record {
  read = one_read limit names files name bytes a has.read (read_before limit name bytes a b has.ran has.same read);
  same = files_then_files a b c has.ran.call has.same same;
  ran = ran_then_ran a b c has.ran (ran_one v b c behaves);
}

-- the names up to behind a place
names_upto : {A : Type 0} (names : List (String A)) (n : ℕ) (d : String A) → n < length names → texts (take (n + 1) names) ≡ texts (take n names) ++ string_bytes (get_or names n d) ∷ []
names_upto names n d low = ap texts (take_at_read names n d low).1 ∙ map-append string_bytes (take n names) (get_or names n d ∷ [])

-- the file of the name at a place was read, behind those of the names before it
pub read_next :
    {P V A B : Type 0} (limit : ℕ) (names : List (String A)) (n : ℕ) (item : String A) (files : List (Vec ℕ B)) (file : Vec ℕ B) (more : List (Vec ℕ B))
    (v : V) (a b c : Shelved) → n < length names → item ≡ get_or names n item → HasRead limit (texts (take n names)) (contents files) a b
    → (name : Name) → name ≡ string_bytes item → IsReadUpto limit name file.items b → SameFiles b c → BehavesUnless {T = V} P b c (Ok v) → more ≡ files ++ file ∷ []
    → HasRead limit (texts (take (n + 1) names)) (contents more) a c
read_next {A = A} limit names n item files file more v a b c low at has name word read same behaves pushed =
    let all = read_more limit (texts (take n names)) (contents files) (string_bytes item) file.items v a b c has
    (subst (λ (w : Name). IsReadUpto limit w file.items b) word read) same behaves in
    let named : texts (take (n + 1) names) ≡ texts (take n names) ++ string_bytes item ∷ [] =
    names_upto names n item low ∙ ap (λ (s : String A). texts (take n names) ++ string_bytes s ∷ []) (sym at) in
    let kept : contents more ≡ contents files ++ file.items ∷ [] = ap contents pushed ∙ map-append (λ v. v.items) files (file ∷ []) in
    subst (λ (ns : List Name). HasRead limit ns (contents more) a c) (sym named)
    (subst (λ (fs : List (List ℕ)). HasRead limit (texts (take n names) ++ string_bytes item ∷ []) fs a c) (sym kept) all)

-- the name at a place, if it is missing, is one of those that are
pub misses_here :
    {A : Type 0} (names : List (String A)) (n : ℕ) (item : String A) (s : Shelved) → n < length names → item ≡ get_or names n item
    → (word : Name) → word ≡ string_bytes item → IsMissing word s → MissesOne (texts names) s
misses_here [] n item s low at word is missing = absurd (omega arith)
misses_here {A = A} (name ∷ names) zero item s low at word is missing = inl (subst (λ (w : Name). IsMissing w s) (is ∙ ap (λ (x : String A). string_bytes x) at) missing)
misses_here (name ∷ names) (suc n) item s low at word is missing = inr (misses_here names n item s (omega arith) at word is missing)

-- a list with one more is one longer
pub one_longer : {A : Type 0} (xs ys : List A) (x : A) (n : ℕ) → ys ≡ xs ++ x ∷ [] → length xs ≡ n → length ys ≡ n + 1
one_longer xs ys x n more long = ap length more ∙ (length-append xs (x ∷ []) ∙ omega (arith, long))
