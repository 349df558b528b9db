-- Laws on the files of the system: what the slots keep.
use Rattle.std.proofs.Common.{◌≡◌, ℕ, zero, suc, ◌<◌, ◌≤◌, Option, Some, None, List, [], ◌∷◌, ◌++◌, Result, length, set, map, slice_get, get_or, refl, sym, subst, arith, ◌∙◌, ap}
use Rattle.std.proofs.{lemmas.Bool.false≢true, lemmas.List.map-append, lemmas.List.map-set, lemmas.List.length-map, lemmas.List.get_or-set_same}
use Rattle.std.proofs.{lemmas.Option.slice_get_within, Math.Seq.map-set_same}
use Rattle.vz_outside.proofs.{Rises.cause_least, Slots.get-append}
use Rattle.vz_outside.specs.{Faults.HasCause, Outer.Outer, Outer.handle_mode, Outer.outer_shelf, declared.real.Handle.Handle}
use Rattle.vz_outside.specs.{Shelved.Mode, Shelved.IsCall, Shelved.IsUntouched, Shelved.BehavesUnless, declared.shelf.ShelfError.ShelfError}

-- a shelf by what its slots are open for and its count of faults: all that is said of it as a shelf
abbrev seen : List Mode → ℕ → Outer
seen modes faults = record { modes = modes; known = []; faults = faults }

-- a call that keeps the modes of the slots keeps what holds of every call
outer_call :
    (old new : Outer) → ((k : ℕ) (mode : Mode) → slice_get old.modes k ≡ Some mode → slice_get new.modes k ≡ Some mode) →
    old.faults ≤ new.faults → IsCall (outer_shelf old) (outer_shelf new)
outer_call old new keeps more = record {
  slots = keeps;
  names = λ told slot mode is. absurd (false≢true told);
  known = refl;
  faults = more;
}

-- and it behaves, since these files are not told to be faultless
pub outer_behaves :
    {T reason : Type 0} (old : Outer) (modes : List Mode) (faults : ℕ) (result : Result T ShelfError) →
    ((k : ℕ) (mode : Mode) → slice_get old.modes k ≡ Some mode → slice_get modes k ≡ Some mode) →
    HasCause old.faults faults result → BehavesUnless reason (outer_shelf old) (outer_shelf (seen modes faults)) result
outer_behaves old modes faults result keeps cause = record {
  call = outer_call old (seen modes faults) keeps (cause_least old.faults faults result cause);
  cause = cause;
  works = λ faultless. absurd (false≢true faultless);
  stays = λ faultless. absurd (false≢true faultless);
}

-- one more handle leaves the others
pub pushed_modes :
    {F : Type 0} (slots roomed pushed : List (Handle F)) (handle : Handle F) (modes : List Mode) →
    pushed ≡ roomed ++ handle ∷ [] → roomed ≡ slots → map handle_mode slots ≡ modes →
    (k : ℕ) (mode : Mode) → slice_get modes k ≡ Some mode → slice_get (map handle_mode pushed) k ≡ Some mode
pushed_modes {F = F} slots roomed pushed handle modes more same seen k mode is =
    ap (λ (handles : List (Handle F)). slice_get (map handle_mode handles) k) more ∙
    ap (λ (handles : List (Handle F)). slice_get (map handle_mode (handles ++ handle ∷ [])) k) same ∙
    ap (λ (all : List Mode). slice_get all k) (map-append handle_mode slots (handle ∷ [])) ∙
    get-append (map handle_mode slots) (handle_mode handle ∷ []) k mode (ap (λ (all : List Mode). slice_get all k) seen ∙ is)

-- a handle put in the place of one that is open for the same keeps the modes
pub same_modes :
    {F : Type 0} (slots : List (Handle F)) (i : ℕ) (old new : Handle F) (modes : List Mode) →
    old ≡ get_or slots i old → handle_mode new ≡ handle_mode old → map handle_mode slots ≡ modes →
    map handle_mode (set slots i new) ≡ modes
same_modes {F = F} slots i old new modes at same seen =
    map-set_same handle_mode slots i new old (same ∙ ap (λ (handle : Handle F). handle_mode handle) at) ∙ seen

-- so slots that were open stay open
pub kept_modes : (old new : List Mode) → new ≡ old → (k : ℕ) (mode : Mode) → slice_get old k ≡ Some mode → slice_get new k ≡ Some mode
kept_modes old new same k mode is = ap (λ (all : List Mode). slice_get all k) same ∙ is

-- and no slot was opened
pub outer_untouched :
    (old : Outer) (modes : List Mode) (faults : ℕ) → modes ≡ old.modes → IsUntouched (outer_shelf old) (outer_shelf (seen modes faults))
outer_untouched old modes faults same = record {
  slots = λ slot. ap (λ (all : List Mode). slice_get all slot) same;
  bytes = record { files = λ told. absurd (false≢true told); rests = λ told. absurd (false≢true told) };
}

-- an open slot is one of the handles
pub open_low :
    {F : Type 0} (slots : List (Handle F)) (i : ℕ) (mode : Mode) (modes : List Mode) → map handle_mode slots ≡ modes →
    slice_get modes i ≡ Some mode → i < length slots
open_low {F = F} slots i mode modes seen is =
    let low = slice_get_within (map handle_mode slots) i mode (ap (λ (all : List Mode). slice_get all i) seen ∙ is) in
    subst (λ (n : ℕ). i < n) (length-map slots (handle_mode {F = F})) low

-- what is known of the file of a handle put in a place
put_known :
    {F : Type 0} (known : Handle F → Option (List ℕ)) (slots : List (Handle F)) (i : ℕ) (new : Handle F) → i < length slots →
    get_or (map known (set slots i new)) i None ≡ known new
put_known known slots i new low =
    ap (λ (all : List (Option (List ℕ))). get_or all i None) (map-set known slots i new) ∙
    get_or-set_same (map known slots) i (known new) None
    (subst (λ (n : ℕ). i < n) (sym (length-map slots known)) low)

-- what is known of the file of the handle in a place
get_known :
    {F : Type 0} (known : Handle F → Option (List ℕ)) (slots : List (Handle F)) (i : ℕ) (d : Handle F) → i < length slots →
    get_or (map known slots) i None ≡ known (get_or slots i d)
get_known known [] i d low = absurd (omega (arith, low))
get_known known (handle ∷ slots) zero d low = refl
get_known known (handle ∷ slots) (suc i) d low = get_known known slots i d (omega (arith, low))

-- what a call on a handle does to the known bytes of its file, it does to those of its slot
pub slot_bytes :
    {F : Type 0} (known : Handle F → Option (List ℕ)) (Does : Option (List ℕ) → Option (List ℕ) → Type 0)
    (slots : List (Handle F)) (i : ℕ) (old new : Handle F) (all : List (Option (List ℕ))) →
    i < length slots → old ≡ get_or slots i old → map known slots ≡ all → Does (known old) (known new) →
    Does (get_or all i None) (get_or (map known (set slots i new)) i None)
slot_bytes {F = F} known Does slots i old new all low at seen does =
    subst (λ (b : Option (List ℕ)). Does b (get_or (map known (set slots i new)) i None))
    (ap (λ (handle : Handle F). known handle) at ∙ sym (get_known known slots i old low) ∙
    ap (λ (a : List (Option (List ℕ))). get_or a i None) seen)
    (subst (λ (b : Option (List ℕ)). Does (known old) b) (sym (put_known known slots i new low)) does)

-- and it leaves what is known of the files of the others
pub other_bytes :
    {F : Type 0} (known : Handle F → Option (List ℕ)) (slots : List (Handle F)) (i : ℕ) (new : Handle F) (all : List (Option (List ℕ))) →
    i < length slots → map known slots ≡ all →
    map known (set slots i new) ≡ set all i (get_or (map known (set slots i new)) i None)
other_bytes known slots i new all low seen =
    map-set known slots i new ∙ ap (λ (a : List (Option (List ℕ))). set a i (known new)) seen ∙
    ap (λ (b : Option (List ℕ)). set all i b) (sym (put_known known slots i new low))
