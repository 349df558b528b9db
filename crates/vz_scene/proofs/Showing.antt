-- The newest of some frames is found among those of one group.
use Rattle.std.proofs.Common.{◌≡◌, ◌⊎◌, inl, inr, Bool, true, false, not, ◌&&◌, ◌||◌, cond, Option, Some, None, is_some, List, [], ◌∷◌, filter, find, refl, sym, ap, ◌∙◌, subst, Contains, arith}
use Rattle.vz_ids.specs.{declared.SurfaceId.SurfaceId, declared.SurfaceRange.SurfaceRange}
use Rattle.vz_ids.specs.Ids.{same_sink, same_surface, same_group, newer, at_least}
use Rattle.vz_rules.specs.World.{FrameData, frame_on}
use Rattle.vz_rules.specs.Scene.{newest, newer_frame, from_start, in_range, after_start}
use Rattle.vz_rules.proofs.Members.{contains_here, contains_there, contains_none, contains_cases, any_from, any_none, find_at, found, filter_at, filter_has, filter_none}
use Rattle.vz_scene.specs.Groups.{is_newer, IsNewest, FindsNewest, that_passes}
use Rattle.vz_ids.proofs.Ages.{both, at_least_is, at_least_trans, newer_once, eq_so}
use Rattle.vz_scene.proofs.Ties.{surface_sym}
use Rattle.vz_rules.proofs.Reached.{self_same as same_itself}
pub use Rattle.std.proofs.lemmas.Bool.{false_from_ne_true as never}
use Rattle.std.proofs.lemmas.Bool.Decides.{nat_tests}

pub clash : (t : Bool) → t ≡ true → t ≡ false → ⊥
clash t e f = absurd (cc)

-- a frame on a newer surface is at least the other
pub newer_reaches : (x y : FrameData) → is_newer x y ≡ true → at_least x.id y.id ≡ true
newer_reaches x y e = grind (arith, nat_tests)

-- so is one on the same surface
same_reaches : (a b : SurfaceId) → same_surface a b ≡ true → at_least a b ≡ true
same_reaches a b e = ap (λ t. t || (same_sink a.sink b.sink && newer a.local b.local)) e

old_reaches : (x y : FrameData) → (y ≡ x) ⊎ (is_newer x y ≡ true) → at_least x.id y.id ≡ true
old_reaches x y (inl e) = subst (λ (z : FrameData). at_least x.id z.id ≡ true) (sym e) (same_reaches x.id x.id (same_itself x.id))
old_reaches x y (inr e) = newer_reaches x y e

not_newer : (x y : FrameData) → (y ≡ x) ⊎ (is_newer x y ≡ true) → newer y.id.local x.id.local ≡ false
not_newer x y o = newer_once x.id y.id (old_reaches x y o)

-- the newest is one of them
newest_there : (xs : List FrameData) (x : FrameData) → newest xs ≡ Some x → Contains xs x
newest_there [] x e = absurd (cc)
newest_there (y ∷ ys) x e = grind (arith, nat_tests, newest_there ys, contains_there y, contains_here y ys)

-- the newer of the newest and others that are older
stays : (x : FrameData) (o : Option FrameData) → ((j : FrameData) → o ≡ Some j → newer j.id.local x.id.local ≡ false) → newer_frame x o ≡ Some x
stays x o h = grind (arith, nat_tests)

gives_way : (x y : FrameData) → (y ≡ x) ⊎ (is_newer x y ≡ true) → newer_frame y (Some x) ≡ Some x
gives_way x y (inl e) = grind (arith, nat_tests)
gives_way x y (inr e) = ap (λ (t : Bool). cond t (Some x) (Some y)) (both (same_sink x.id.sink y.id.sink) (newer x.id.local y.id.local) e).1

-- one that passes, where the others that do are older, is the newest of those that do
newest_some : (p : FrameData → Bool) (xs : List FrameData) (x : FrameData) → Contains xs x → p x ≡ true → ((y : FrameData) → Contains xs y → p y ≡ true → (y ≡ x) ⊎ (is_newer x y ≡ true)) → newest (filter p xs) ≡ Some x
newest_some p [] x c e h = absurd (contains_none x c)
newest_some p (y ∷ ys) x c e h = by (λ r. newest_some p ys x r e (λ z d f. h z (contains_there y z ys d) f)) (contains_cases y x ys c)
  where
    first : y ≡ x → newest (filter p (y ∷ ys)) ≡ Some x
    first s =
        ap newest (ap (λ (t : Bool). cond t (y ∷ filter p ys) (filter p ys)) (ap p s ∙ e))
        ∙ (ap (λ z. newer_frame z (newest (filter p ys))) s
        ∙ stays x (newest (filter p ys)) (λ j g. let m = filter_at p ys j (newest_there (filter p ys) j g) in not_newer x j (h j (contains_there y j ys m.0) m.1)))

    later : Contains ys x → newest (filter p ys) ≡ Some x → newest (filter p (y ∷ ys)) ≡ Some x
    later r rest =
        elim (p y) as (λ (t : Bool). p y ≡ t → newest (cond t (y ∷ filter p ys) (filter p ys)) ≡ Some x) [
          | true ↦ λ f. ap (newer_frame y) rest ∙ gives_way x y (h y (contains_here y ys) f)
          | false ↦ λ f. rest
        ] refl

    by : (Contains ys x → newest (filter p ys) ≡ Some x) → (y ≡ x) ⊎ Contains ys x → newest (filter p (y ∷ ys)) ≡ Some x
    by rest (inl s) = first s
    by rest (inr r) = later r (rest r)

newest_none : (p : FrameData → Bool) (xs : List FrameData) → ((y : FrameData) → Contains xs y → p y ≡ false) → newest (filter p xs) ≡ None
newest_none p xs h = ap newest (filter_none p xs h)

pub group_from : (a b : SurfaceId) → at_least a b ≡ true → (same_group a b ≡ true) × (same_group b a ≡ true)
group_from a b e = grind (arith, nat_tests, at_least_is a b e, eq_so)

-- the newest frame of the range's own group, by the newest up to its end
pub found_in : (range : SurfaceRange) (all group : List FrameData) (o : Option FrameData) → group ≡ filter (λ (i : FrameData). same_group i.id range.end) all → FindsNewest (λ (i : FrameData). at_least range.end i.id) group o
    → that_passes (in_range range) o ≡ newest (filter (in_range range) all)
found_in range all group o is found_it = by o found_it
  where
    in_group : (y : FrameData) → Contains all y → at_least range.end y.id ≡ true → Contains group y
    in_group y c e = subst (λ l. Contains l y) (sym is) (filter_has (λ (i : FrameData). same_group i.id range.end) all y c (group_from range.end y.id e).1)

    from_all : (x : FrameData) → Contains group x → Contains all x
    from_all x c = (filter_at (λ (i : FrameData). same_group i.id range.end) all x (subst (λ l. Contains l x) is c)).0

    start_goes : (s : Option SurfaceId) (x y : FrameData) → at_least x.id y.id ≡ true → from_start s range.end y ≡ true → from_start s range.end x ≡ true
    start_goes None x y e f = refl
    start_goes (Some start) x y e f = with_test (not (same_group start range.end)) f
      where
        with_test : (t : Bool) → (t || at_least y.id start) ≡ true → (t || at_least x.id start) ≡ true
        with_test true g = refl
        with_test false g = at_least_trans x.id y.id start e g

    by : (o : Option FrameData) → FindsNewest (λ (i : FrameData). at_least range.end i.id) group o → that_passes (in_range range) o ≡ newest (filter (in_range range) all)
    by None h = sym (newest_none (in_range range) all (λ y c. never (in_range range y) (λ e. let k = (both (at_least range.end y.id) (from_start range.start range.end y) e).0 in clash _ k (h y (in_group y c k)))))
    by (Some x) h =
        elim (in_range range x) as (λ (t : Bool). in_range range x ≡ t → cond t (Some x) None ≡ newest (filter (in_range range) all)) [
          | true ↦ λ e. sym (newest_some (in_range range) all x (from_all x h.there) e (λ y c f. let k = (both (at_least range.end y.id) (from_start range.start range.end y) f).0 in h.others y (in_group y c k) k))
          | false ↦ λ e. sym (newest_none (in_range range) all (λ y c. never (in_range range y) (λ f.
              let k = both (at_least range.end y.id) (from_start range.start range.end y) f in
              clash (in_range range x) (ap (λ t. t && from_start range.start range.end x) h.passes ∙ start_goes range.start x y (old_reaches x y (h.others y (in_group y c k.0) k.0)) k.1) e)))
        ] refl

-- the newest frame of the group of a range's start
pub found_after : (range : SurfaceRange) (start : SurfaceId) (all group : List FrameData) (o : Option FrameData) → range.start ≡ Some start → group ≡ filter (λ (i : FrameData). same_group i.id start) all → FindsNewest (λ _. true) group o
    → that_passes (after_start range.start range.end) o ≡ newest (filter (after_start range.start range.end) all)
found_after range start all group o starts is found_it =
    ap (λ (s : Option SurfaceId). that_passes (after_start s range.end) o) starts ∙ (by o found_it ∙ ap (λ (s : Option SurfaceId). newest (filter (after_start s range.end) all)) (sym starts))
  where
    test : FrameData → Bool
    test = after_start (Some start) range.end

    other : Bool
    other = not (same_group start range.end)

    in_group : (y : FrameData) → Contains all y → at_least y.id start ≡ true → Contains group y
    in_group y c e = subst (λ l. Contains l y) (sym is) (filter_has (λ (i : FrameData). same_group i.id start) all y c (group_from y.id start e).0)

    from_all : (x : FrameData) → Contains group x → Contains all x
    from_all x c = (filter_at (λ (i : FrameData). same_group i.id start) all x (subst (λ l. Contains l x) is c)).0

    by : (o : Option FrameData) → FindsNewest (λ _. true) group o → that_passes test o ≡ newest (filter test all)
    by None h = sym (newest_none test all (λ y c. never (test y) (λ e. clash true refl (h y (in_group y c (both other (at_least y.id start) e).1)))))
    by (Some x) h =
        elim (test x) as (λ (t : Bool). test x ≡ t → cond t (Some x) None ≡ newest (filter test all)) [
          | true ↦ λ e. sym (newest_some test all x (from_all x h.there) e (λ y c f. h.others y (in_group y c (both other (at_least y.id start) f).1) refl))
          | false ↦ λ e. sym (newest_none test all (λ y c. never (test y) (λ f.
              let k = both other (at_least y.id start) f in
              clash (test x) (ap (λ t. t && at_least x.id start) k.0 ∙ at_least_trans x.id y.id start (old_reaches x y (h.others y (in_group y c k.1) refl)) k.1) e)))
        ] refl

-- without a start none is behind it
pub no_start : (range : SurfaceRange) (all : List FrameData) → range.start ≡ None → None ≡ newest (filter (after_start range.start range.end) all)
no_start range all e = grind (arith, nat_tests, newest_none (after_start None range.end) all)

-- the frame on a surface, by the newest up to it
pub found_on : (id : SurfaceId) (all group : List FrameData) (o : Option FrameData) → group ≡ filter (λ (i : FrameData). same_group i.id id) all → FindsNewest (λ (i : FrameData). at_least id i.id) group o
    → that_passes (λ (i : FrameData). same_surface i.id id) o ≡ frame_on id all
found_on id all group o is found_it = by o found_it
  where
    test : FrameData → Bool
    test = λ (i : FrameData). same_surface i.id id

    reaches : (y : FrameData) → test y ≡ true → at_least id y.id ≡ true
    reaches y e = same_reaches id y.id (surface_sym id y.id ∙ e)

    in_group : (y : FrameData) → Contains all y → test y ≡ true → Contains group y
    in_group y c e = subst (λ l. Contains l y) (sym is) (filter_has (λ (i : FrameData). same_group i.id id) all y c (group_from id y.id (reaches y e)).1)

    from_all : (x : FrameData) → Contains group x → Contains all x
    from_all x c = (filter_at (λ (i : FrameData). same_group i.id id) all x (subst (λ l. Contains l x) is c)).0

    none : ((y : FrameData) → Contains all y → test y ≡ false) → find test all ≡ None
    none h = no (find test all) (found test all ∙ any_none test all h)
      where
        no : (o : Option FrameData) → is_some o ≡ false → o ≡ None
        no None e = refl
        no (Some z) e = absurd (cc)

    only : (x y : FrameData) → IsNewest (λ (i : FrameData). at_least id i.id) group x → Contains all y → test y ≡ true → y ≡ x
    only x y h c e = at (h.others y (in_group y c e) (reaches y e))
      where
        at : (y ≡ x) ⊎ (is_newer x y ≡ true) → y ≡ x
        at (inl s) = s
        at (inr n) =
            absurd (clash (newer x.id.local y.id.local) (both (same_sink x.id.sink y.id.sink) (newer x.id.local y.id.local) n).1
            (newer_once y.id x.id (at_least_trans y.id id x.id (same_reaches y.id id e) h.passes)))

    some : (x : FrameData) → IsNewest (λ (i : FrameData). at_least id i.id) group x → test x ≡ true → find test all ≡ Some x
    some x h e = yes_some (find test all) refl (found test all ∙ any_from test all x (from_all x h.there) e)
      where
        yes_some : (o : Option FrameData) → find test all ≡ o → is_some o ≡ true → o ≡ Some x
        yes_some None g f = absurd (cc)
        yes_some (Some z) g f = let m = find_at test all z g in ap Some (only x z h m.0 m.1)

    by : (o : Option FrameData) → FindsNewest (λ (i : FrameData). at_least id i.id) group o → that_passes test o ≡ frame_on id all
    by None h = sym (none (λ y c. never (test y) (λ e. clash _ (reaches y e) (h y (in_group y c e)))))
    by (Some x) h =
        elim (test x) as (λ (t : Bool). test x ≡ t → cond t (Some x) None ≡ find test all) [
          | true ↦ λ e. sym (some x h e)
          | false ↦ λ e. sym (none (λ y c. never (test y) (λ f. clash (test y) f (ap test (only x y h c f) ∙ e))))
        ] refl
