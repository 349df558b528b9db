-- What is told meets the lacks of one bunch alone, which are looked at from its end on.
use Rattle.std.proofs.Common.{◌≡◌, ℕ, ◌+◌, ◌-◌, ◌≤◌, ◌<◌, Bool, true, false, ◌==◌, ◌&&◌, ◌||◌, nat_lt, zero, suc, List, [], ◌∷◌, length, take, get_or, Option, Some, None, is_some, refl, ap, sym, inl, inr, ◌∙◌, arith}
use Rattle.std.specs.Option.{option_map}
use Rattle.std.specs.List.{list_any}
use Rattle.std.proofs.lemmas.List.Folds.{list_any_more}
use Rattle.vz_deps.specs.Tracking.{meets, meets_any}
use Rattle.std.proofs.lemmas.Bool.Decides.{nat_tests}
use Rattle.vz_ids.specs.declared.SurfaceId.{SurfaceId}
use Rattle.vz_ids.specs.Ids.{same_sink, same_local, same_surface, newer}
use Rattle.vz_deps.specs.declared.bunches.Bunch.{Bunch}
use Rattle.vz_deps.specs.declared.bunches.Lack.{Lack}
use Rattle.vz_deps.specs.declared.bunches.Seat.{Seat}
use Rattle.vz_deps.specs.declared.lacks.Lacks.{Lacks}
use Rattle.vz_deps.specs.declared.lacks.Told.{Told}
use Rattle.vz_deps.specs.declared.lacks.Told.TheVariants.{Active, Closed}
use Rattle.vz_deps.specs.Bunching.{seat_in, seat_of, size_in}
use Rattle.vz_deps.specs.Placing.{bunch_for}
use Rattle.vz_deps.specs.Lacking.{on_in, bunches_for, bunch_told, met_by, is_of, IsKept, IsCleared, Meets, IsRid}
use Rattle.vz_deps.proofs.Same.{both, either, some_same, none_some, from_number, from_sink}

-- Changes one after the other

pub on_before : (met : SurfaceId → Bool) (o n : Option SurfaceId) (d : SurfaceId) → IsCleared met o n → n ≡ Some d → o ≡ Some d
on_before met o n d (inl e) h = sym e ∙ h
on_before met o n d (inr e) h = let no_way = none_some d n e.3 h in absurd (cc)

pub cleared_both : (met : SurfaceId → Bool) (o n m : Option SurfaceId) → IsCleared met o n → IsCleared met n m → IsCleared met o m
cleared_both met o n m (inl e) (inl f) = inl (f ∙ e)
cleared_both met o n m (inl e) (inr f) = inr (f.0, sym e ∙ f.1, f.2, f.3)
cleared_both met o n m (inr e) (inl f) = inr (e.0, e.1, e.2, f ∙ e.3)
cleared_both met o n m (inr e) (inr f) = inr (e.0, e.1, e.2, f.3)

pub meets_none : (met : SurfaceId → Bool) (a : Lacks) → IsKept a → Meets met a a
meets_none met a kept = grind (arith, nat_tests)

pub meets_both : (met : SurfaceId → Bool) (a b c : Lacks) → Meets met a b → Meets met b c → Meets met a c
meets_both met a b c p q = grind (arith, nat_tests, cleared_both)

pub meets_more : (met more : SurfaceId → Bool) (a b : Lacks) → ((d : SurfaceId) → met d ≡ true → more d ≡ true) → Meets met a b → Meets more a b
meets_more met more a b wider p = grind (arith, nat_tests)

-- The bunch of what is met

met_group : (id d : SurfaceId) (t : Bool) → same_surface id d ≡ t → (t || (same_sink id.sink d.sink && newer id.local d.local)) ≡ true → bunch_for false d ≡ bunch_for false id
met_group id d true e k = grind (arith, nat_tests, both (same_sink id.sink d.sink) (same_local id.local d.local) e, from_sink, from_number, both)
met_group id d false e k = grind (arith, nat_tests, both (same_sink id.sink d.sink) (newer id.local d.local) k, from_sink, from_number, both)

pub met_bunch : (told : Told) (d : SurfaceId) → met_by told d ≡ true → bunch_for (is_of told) d ≡ bunch_told told
met_bunch (Closed sink) d h = λ i. record { sink = from_sink d.sink sink h i; token = record { 0 = 0 } }
met_bunch (Active id) d h = met_group id d (same_surface id d) refl h

seat_found : (o : Option Seat) (k : Bunch) → option_map (λ s. s.bunch) o ≡ Some k → (s : Seat) × (o ≡ Some s) × (s.bunch ≡ k)
seat_found None k h = absurd (cc)
seat_found (Some s) k h = (s, refl, some_same s.bunch k h)

-- Seats from the end on

-- none that sits from there on is met
abbrev pub IsDone : Told → Lacks → Bunch → ℕ → Type 0
IsDone told l bunch from = (i : ℕ) (y : Lack) (d : SurfaceId) → from ≤ i → seat_in (bunches_for (is_of told) l) (record { bunch = bunch; at = i }) ≡ Some y → on_in l y ≡ Some d → met_by told d ≡ false

pub none_beyond : (told : Told) (l : Lacks) (bunch : Bunch) (n : ℕ) → IsKept l → n ≡ size_in (bunches_for (is_of told) l) bunch → IsDone told l bunch (n - 0)
none_beyond told l bunch n kept size i y d far sits h =
    let taken : true ≡ nat_lt i n = sym (ap is_some sits) ∙ (kept.stands (is_of told)).full (record { bunch = bunch; at = i }) ∙ ap (nat_lt i) (sym size) in
    absurd (grind (arith, nat_tests, taken, far))

pub one_more_done : (told : Told) (a b : Lacks) (bunch : Bunch) (n k : ℕ) → k < n → IsDone told a bunch (n - k) → Meets (met_by told) a b
    → ((y : Lack) (d : SurfaceId) → seat_in (bunches_for (is_of told) a) (record { bunch = bunch; at = n - 1 - k }) ≡ Some y → on_in b y ≡ Some d → met_by told d ≡ false)
    → IsDone told b bunch (n - (k + 1))
one_more_done told a b bunch n k low done meets looked i y d far sits h =
    let was = meets.seats (is_of told) (record { bunch = bunch; at = i }) y sits in
    elim (either (was.0 == n - 1 - k)) [
      | inl e ↦ looked y d (ap (λ j. seat_in (bunches_for (is_of told) a) (record { bunch = bunch; at = j })) (sym (from_number was.0 (n - 1 - k) e)) ∙ was.2) h
      | inr e ↦ done was.0 y d (let later = was.1 in grind (arith, nat_tests, e, later, far, low)) was.2 (on_before (met_by told) (on_in a y) (on_in b y) d (meets.on y) h)
    ]

pub all_done : (told : Told) (l : Lacks) (bunch : Bunch) (from : ℕ) → IsKept l → bunch ≡ bunch_told told → from ≤ 0 → IsDone told l bunch from → IsRid (met_by told) l
all_done told l bunch from kept is low done x d h =
    elim (either (met_by told d)) [
      | inl m ↦
          let there = kept.listed (is_of told) x ∙ ap (option_map (bunch_for (is_of told))) h ∙ ap Some (met_bunch told d m) in
          let seat = seat_found (seat_of (bunches_for (is_of told) l) x) (bunch_told told) there in
          let sits = (kept.stands (is_of told)).sits x seat.0 seat.1 in
          done seat.0.at x d (omega (arith, low)) (ap (λ k. seat_in (bunches_for (is_of told) l) (record { bunch = k; at = seat.0.at })) (is ∙ sym seat.2) ∙ sits) h
      | inr m ↦ m
    ]

-- Several are told, one after the other

any_of : {A : Type 0} (p : A → Bool) (xs : List A) (i : ℕ) (d : A) → i < length xs → p (get_or xs i d) ≡ true → list_any p xs ≡ true
any_of p [] i d low h = absurd (omega (arith, low))
any_of p (x ∷ xs) zero d low h = ap (λ t. t || list_any p xs) h
any_of p (x ∷ xs) (suc i) d low h = grind (arith, nat_tests, any_of p xs i d)

neither : (a b : Bool) → a ≡ false → b ≡ false → (a || b) ≡ false
neither false b p q = q
neither true b p q = absurd (cc)

pub tell_next : (ids : List SurfaceId) (k : ℕ) (e : SurfaceId) → k < length ids → (o a b : Lacks) → Meets (meets_any ids) o a → IsRid (meets_any (take k ids)) a
    → Meets (met_by (Active (get_or ids k e))) a b → IsRid (met_by (Active (get_or ids k e))) b → Meets (meets_any ids) o b × IsRid (meets_any (take (k + 1) ids)) b
tell_next ids k e inside o a b p r q s = (
  meets_both (meets_any ids) o a b p (meets_more (met_by (Active (get_or ids k e))) (meets_any ids) a b (λ d m. any_of (λ id. meets id d) ids k e inside m) q),
  λ x d h. list_any_more (λ id. meets id d) ids k e inside ∙ neither _ _ (r x d (on_before (met_by (Active (get_or ids k e))) (on_in a x) (on_in b x) d (q.on x) h)) (s x d h),
)

take_over : {A : Type 0} (k : ℕ) (xs : List A) → length xs ≤ k → take k xs ≡ xs
take_over zero [] h = refl
take_over (suc k) [] h = refl
take_over zero (x ∷ xs) h = absurd (omega (arith, h))
take_over (suc k) (x ∷ xs) h = ap (λ l. x ∷ l) (take_over k xs (omega (arith, h)))

pub tell_end : (ids : List SurfaceId) (k : ℕ) (a : Lacks) → length ids ≤ k → IsRid (meets_any (take k ids)) a → IsRid (meets_any ids) a
tell_end ids k a over r x d h = ap (λ l. meets_any l d) (sym (take_over k ids over)) ∙ r x d h
