-- The orders tie what is the same, and what trees have after one key more.
use Rattle.std.proofs.Common.{◌≡◌, ℕ, ◌+◌, ◌<◌, ◌==◌, Bool, true, false, not, ◌&&◌, ◌||◌, cond, Option, Some, None, List, [], ◌∷◌, ◌++◌, drop, length, get_or, find, filter, refl, sym, ap, ◌∙◌, arith}
use Rattle.std.specs.{List.list_any, Bool.OnFalse}
use Rattle.std.specs.{Option.option_map, Option.option_cmp, BTreeMap.BTreeMap, BTreeMap.get, declared.cmp.Ordering.Ordering, Cmp.unsigned_ties}
use Rattle.std.specs.{BTreeSet.BTreeSet, BTreeSet.contains, BTreeSet.IsUnchanged, Ordering.is_eq, Ordering.ordering_then, Ordering.nat_cmp}
use Rattle.std.proofs.{lemmas.List.drop_more, lemmas.List.Folds.list_any-append, lemmas.Bool.not-true as not_true, lemmas.Bool.not-false as not_false}
use Rattle.vz_rules.specs.{World.FrameData, World.Aggregation, Damage.of_same_range, Damage.shows_other, Damage.is_switched, Closure.adding}
use Rattle.std.proofs.{lemmas.Bool.Decides.nat_tests, lemmas.Grind.common_steps}
use Rattle.vz_ids.specs.{declared.SurfaceId.SurfaceId, declared.SurfaceRange.SurfaceRange}
use Rattle.vz_ids.specs.contracts.SurfaceIdPartialEq.TheImpl as surface_eq
use Rattle.vz_ids.specs.Ids.{same_surface, same_start, same_range, same_group, group_of}
use Rattle.vz_scene.specs.Groups.{by_group}
use Rattle.vz_scene.specs.Order.{by_surface, by_range, by_frame, frame_key, HasNumbers, HasShown}
use Rattle.vz_rules.proofs.Facts.{flip as eq_sym}

then_ties : (x y : Ordering) → is_eq (ordering_then x y) ≡ (is_eq x && is_eq y)
then_ties x y = grind (arith, nat_tests)

-- both are tied where the first and the second are
both_tie : (x y : Ordering) (s t : Bool) → is_eq x ≡ s → is_eq y ≡ t → is_eq (ordering_then x y) ≡ (s && t)
both_tie x y s t e f = then_ties x y ∙ (ap (λ b. b && is_eq y) e ∙ ap (λ b. s && b) f)

nat_ties : (a b : ℕ) → is_eq (nat_cmp a b) ≡ (a == b)
nat_ties a b = sym (unsigned_ties a b)

-- by sink and local id
pub surface_ties : (a b : SurfaceId) → is_eq (by_surface a b) ≡ same_surface a b
surface_ties a b = grind (arith, nat_tests, both_tie, nat_ties)

-- by sink and token
pub group_ties : (a b : SurfaceId) → is_eq (by_group (group_of a) (group_of b)) ≡ same_group a b
group_ties a b = grind (arith, nat_tests, both_tie, nat_ties a.sink.client_id b.sink.client_id, nat_ties a.sink.sink_id b.sink.sink_id, nat_ties a.local.token.0 b.local.token.0)

-- by surface and number
pub frame_ties : (i j : FrameData) → is_eq (by_frame (frame_key i) (frame_key j)) ≡ (same_surface i.id j.id && (i.index == j.index))
frame_ties i j = both_tie _ _ _ _ (surface_ties i.id j.id) (nat_ties i.index j.index)

start_ties : (a b : Option SurfaceId) → is_eq (option_cmp by_surface a b) ≡ same_start a b
start_ties None None = refl
start_ties None (Some b) = refl
start_ties (Some a) None = refl
start_ties (Some a) (Some b) = surface_ties a b

-- by start and end
pub range_ties : (a b : SurfaceRange) → is_eq (by_range a b) ≡ same_range a b
range_ties a b = both_tie _ _ _ _ (start_ties a.start b.start) (surface_ties a.end b.end)

-- what the first of a pair says, where one more pair stands in front
pub pair_step : {K A : Type 0} (tied : Bool) (x : K × A) (rest : Option (K × A)) → cond tied (Some x.1) (option_map (λ (p : K × A). p.1) rest) ≡ option_map (λ (p : K × A). p.1) (cond tied (Some x) rest)
pair_step tied x rest = grind (arith, nat_tests)

-- one pair more to the front
pub find_more : {A : Type 0} (p : A → Bool) (xs : List A) (k m : ℕ) (d : A) → m + 1 ≡ k → m < length xs → find p (drop m xs) ≡ cond (p (get_or xs m d)) (Some (get_or xs m d)) (find p (drop k xs))
find_more p xs k m d e h = ap (find p) (drop_more xs m d h ∙ ap (λ n. get_or xs m d ∷ drop n xs) e)

-- a surface more is in order
pub numbers_more : {A : Type 0} (old new : BTreeMap SurfaceId A) (pairs : List (SurfaceId × A)) (k m : ℕ) (d : SurfaceId × A) → m + 1 ≡ k → m < length pairs
    → ((id : SurfaceId) → get by_surface new id ≡ cond (is_eq (by_surface (get_or pairs m d).0 id)) (Some (get_or pairs m d).1) (get by_surface old id)) → HasNumbers old (drop k pairs) → HasNumbers new (drop m pairs)
numbers_more {A} old new pairs k m d e h updates has id = grind (arith, nat_tests, common_steps, surface_ties, pair_step, find_more)

-- and a range
pub shown_more : {A : Type 0} (old new : BTreeMap SurfaceRange A) (pairs : List (SurfaceRange × A)) (k m : ℕ) (d : SurfaceRange × A) → m + 1 ≡ k → m < length pairs
    → ((r : SurfaceRange) → get by_range new r ≡ cond (is_eq (by_range (get_or pairs m d).0 r)) (Some (get_or pairs m d).1) (get by_range old r)) → HasShown old (drop k pairs) → HasShown new (drop m pairs)
shown_more {A} old new pairs k m d e h updates has r =
    let x = get_or pairs m d in
    let test = λ (p : SurfaceRange × A). same_range p.0 r in
    updates r ∙ (ap (λ t. cond t (Some x.1) (get by_range old r)) (range_ties x.0 r) ∙ (ap (λ o. cond (same_range x.0 r) (Some x.1) o) (has r) ∙ (pair_step (same_range x.0 r) x (find test (drop k pairs)) ∙ ap (option_map (λ (p : SurfaceRange × A). p.1)) (sym (find_more test pairs k m d e h)))))

pub surface_sym : (a b : SurfaceId) → same_surface a b ≡ same_surface b a
surface_sym a b = grind (arith, nat_tests, eq_sym)

-- the derived test of surfaces is that of the definitions
pub compared : (a b : SurfaceId) → (surface_eq.ghosts).eq a b ≡ same_surface a b
compared a b = grind (arith, nat_tests)

start_sym : (a b : Option SurfaceId) → same_start a b ≡ same_start b a
start_sym None None = refl
start_sym None (Some b) = refl
start_sym (Some a) None = refl
start_sym (Some a) (Some b) = surface_sym a b

range_sym : (a b : SurfaceRange) → same_range a b ≡ same_range b a
range_sym a b = ap (λ t. t && same_surface a.end b.end) (start_sym a.start b.start) ∙ ap (λ t. same_start b.start a.start && t) (surface_sym a.end b.end)

-- a range that was not seen is added
pub seen_more : {A : Type 0} (old new : BTreeSet SurfaceRange) (once : List (SurfaceRange × A)) (x : SurfaceRange × A)
    → ((r : SurfaceRange) → contains by_range new r ≡ cond (is_eq (by_range x.0 r)) true (contains by_range old r))
    → ((q : SurfaceRange × A) → contains by_range old q.0 ≡ list_any (λ (y : SurfaceRange × A). same_range q.0 y.0) once)
    → (q : SurfaceRange × A) → contains by_range new q.0 ≡ list_any (λ (y : SurfaceRange × A). same_range q.0 y.0) (once ++ x ∷ [])
seen_more {A} old new once x updates seen q =
    let test = λ (y : SurfaceRange × A). same_range q.0 y.0 in
    updates q.0 ∙ (ap (λ t. cond t true (contains by_range old q.0)) (range_ties x.0 q.0 ∙ range_sym x.0 q.0)
    ∙ (ap (λ t. cond (same_range q.0 x.0) true t) (seen q) ∙ (turned (same_range q.0 x.0) (list_any test once) ∙ sym (list_any-append test once (x ∷ [])))))
  where
    turned : (a b : Bool) → cond a true b ≡ (b || (a || false))
    turned true true = refl
    turned true false = refl
    turned false true = refl
    turned false false = refl

-- a pair more that was not there is added
pub added_more : {A : Type 0} (same : A → A → Bool) (all once pairs : List A) (k : ℕ) (d : A) → k < length pairs → list_any (same (get_or pairs k d)) once ≡ false
    → all ≡ adding same once (drop k pairs) → all ≡ adding same (once ++ get_or pairs k d ∷ []) (drop (k + 1) pairs)
added_more same all once pairs k d h there e = grind (arith, nat_tests, drop_more pairs k d h)

-- one that was there is not
pub added_again : {A : Type 0} (same : A → A → Bool) (all once pairs : List A) (k : ℕ) (d : A) → k < length pairs → list_any (same (get_or pairs k d)) once ≡ true
    → all ≡ adding same once (drop k pairs) → all ≡ adding same once (drop (k + 1) pairs)
added_again same all once pairs k d h there e = grind (arith, nat_tests, drop_more pairs k d h)

-- tests that agree keep the same
pub filter_same : {A : Type 0} (p q : A → Bool) (xs : List A) → ((x : A) → p x ≡ q x) → filter p xs ≡ filter q xs
filter_same p q [] h = refl
filter_same p q (x ∷ xs) h = ap (λ t. cond t (x ∷ filter p xs) (filter p xs)) (h x) ∙ ap (λ l. cond (q x) (x ∷ l) l) (filter_same p q xs h)

-- and find the same
pub any_same : {A : Type 0} (p q : A → Bool) (xs : List A) → ((x : A) → p x ≡ q x) → list_any p xs ≡ list_any q xs
any_same p q [] h = refl
any_same p q (x ∷ xs) h = ap (λ t. t || list_any p xs) (h x) ∙ ap (λ t. q x || t) (any_same p q xs h)

-- a range with what it showed
abbrev pub Shown : Type 0
Shown = SurfaceRange × Option SurfaceId

-- a pair whose range was not seen is added
pub once_added : (all once newer pairs : List Shown) (seen : BTreeSet SurfaceRange) (k : ℕ) (d : Shown) (added : Bool) → newer ≡ once ++ get_or pairs k d ∷ [] → k < length pairs
    → added ≡ not (contains by_range seen (get_or pairs k d).0) → added ≡ true → ((q : Shown) → contains by_range seen q.0 ≡ list_any (of_same_range q) once)
    → all ≡ adding of_same_range once (drop k pairs) → all ≡ adding of_same_range newer (drop (k + 1) pairs)
once_added all once newer pairs seen k d added new h told new_one has e = grind (arith, nat_tests, not_true, added_more of_same_range all once pairs k d h)

-- and was then seen
pub once_seen : (once newer pairs : List Shown) (old new : BTreeSet SurfaceRange) (k : ℕ) (d : Shown) → newer ≡ once ++ get_or pairs k d ∷ []
    → ((r : SurfaceRange) → contains by_range new r ≡ cond (is_eq (by_range (get_or pairs k d).0 r)) true (contains by_range old r)) → ((q : Shown) → contains by_range old q.0 ≡ list_any (of_same_range q) once)
    → (q : Shown) → contains by_range new q.0 ≡ list_any (of_same_range q) newer
once_seen once newer pairs old new k d e updates seen q = seen_more old new once (get_or pairs k d) updates seen q ∙ ap (list_any (of_same_range q)) (sym e)

-- a pair whose range was seen is not added
pub once_again : (all once pairs : List Shown) (seen : BTreeSet SurfaceRange) (k : ℕ) (d : Shown) (added : Bool) → k < length pairs
    → added ≡ not (contains by_range seen (get_or pairs k d).0) → added ≡ false → ((q : Shown) → contains by_range seen q.0 ≡ list_any (of_same_range q) once)
    → all ≡ adding of_same_range once (drop k pairs) → all ≡ adding of_same_range once (drop (k + 1) pairs)
once_again all once pairs seen k d added h told old_one has e = grind (arith, nat_tests, added_again of_same_range all once pairs k d h, not_false)

-- and the same ranges were seen then
pub still_seen : (once : List Shown) (old new : BTreeSet SurfaceRange) (added : Bool) → OnFalse added (IsUnchanged old new) → added ≡ false
    → ((q : Shown) → contains by_range old q.0 ≡ list_any (of_same_range q) once) → (q : Shown) → contains by_range new q.0 ≡ list_any (of_same_range q) once
still_seen once old new added kept e seen q = grind (arith, nat_tests)

found_shows : (o : Option Shown) (before : Option SurfaceId) (now : Option FrameData) → Some before ≡ option_map (λ (x : Shown). x.1) o → shows_other before now ≡ (elim o [ Some x ↦ shows_other x.1 now | None ↦ true ])
found_shows o before now e = grind (arith, nat_tests)

-- whether a range is switched, by what was found of it
pub switched_is : (a : Aggregation) (shown : BTreeMap SurfaceRange (Option SurfaceId)) (r : SurfaceRange) (before : Option SurfaceId) (now : Option FrameData) → HasShown shown a.ranges
    → Some before ≡ get by_range shown r → shows_other before now ≡ is_switched a r now
switched_is a shown r before now has e = found_shows (find (λ (x : Shown). same_range x.0 r) a.ranges) before now (e ∙ has r)
