-- Whole groups go, those of a sink.
use Rattle.std.proofs.Common.{◌≡◌, ◌≤◌, ◌<◌, Bool, true, false, not, Option, Some, None, is_some, List, filter, refl, ap, sym, inl, inr, ◌∙◌, arith, cond}
use Rattle.std.specs.Option.{option_map}
use Rattle.std.specs.Map.{lookup}
use Rattle.std.proofs.lemmas.Map.Entries.{lookup-filter-keys}
use Rattle.vz_ids.specs.declared.FrameSinkId.{FrameSinkId}
use Rattle.vz_ids.specs.declared.SurfaceId.{SurfaceId}
use Rattle.vz_ids.specs.Ids.{same_sink}
use Rattle.vz_ids.specs.declared.GroupKey.{GroupKey}
use Rattle.vz_refs.specs.declared.sets.Place.{Place}
use Rattle.vz_refs.specs.declared.seats.Name.{Name}
use Rattle.vz_refs.specs.declared.seats.Kept.{Kept}
use Rattle.vz_refs.specs.declared.seats.Seats.{Seats}
use Rattle.vz_refs.specs.Lasting.{seat_of, kept_in, surface_in, name_in, size_in, room_in, Stands, IsEnded, Ends, IsRid, of_sink, not_of}
use Rattle.vz_refs.proofs.Named.{kept_of}
use Rattle.std.proofs.lemmas.Bool.Decides.{nat_tests}

-- what a map has by keys of which some stay
pub by_key : {K X : Type 0} (same : K → K → Bool) (from : (a b : K) → same a b ≡ true → a ≡ b) (stays : K → Bool) (es : List (K × X)) (k : K)
    → lookup (same k) (filter (λ e. stays e.0) es) ≡ cond (stays k) (lookup (same k) es) None
by_key same from stays es k = lookup-filter-keys (same k) stays (stays k) (λ q e. ap stays (sym (from k q e))) es

module _ (sink : FrameSinkId) (a b : Seats) (stands : Stands a)
    (keeps : (n : Name) → kept_in b n ≡ not_of sink (kept_in a n))
    (names : (p : Place) → name_in b p ≡ cond (not (same_sink p.group.sink sink)) (name_in a p) None)
    (sizes : (g : GroupKey) → size_in b g ≡ cond (not (same_sink g.sink sink)) (size_in a g) 0) where
  -- one that stays was there, and is of another sink
  stays : (n : Name) (k : Kept) → kept_in b n ≡ Some k → (kept_in a n ≡ Some k) × (same_sink k.id.sink sink ≡ false)
  stays n k h = grind (arith, nat_tests)

  -- one of another sink stays
  still : (n : Name) (k : Kept) → kept_in a n ≡ Some k → same_sink k.id.sink sink ≡ false → kept_in b n ≡ Some k
  still n k h e = keeps n ∙ ap (not_of sink) h ∙ ap (λ t. cond (not t) (Some k) None) e

  go_stands : Stands b
  go_stands = record {
    placed = λ n k h.
        (let old = stays n k h in
        let seat = stands.placed n k old.0 in
        let size = sizes (seat_of k).group ∙ ap (λ t. cond (not t) (size_in a (seat_of k).group) 0) old.1 in
        (names (seat_of k) ∙ ap (λ t. cond (not t) (name_in a (seat_of k)) None) old.1 ∙ seat.0, (let low = seat.1 in omega (arith, low, size))));
    held = λ p n h. by_held p n (same_sink p.group.sink sink) refl (sym (names p) ∙ h);
    filled = λ p low. by_filled p (same_sink p.group.sink sink) refl low;
  }
    where
      by_held : (p : Place) (n : Name) (t : Bool) → same_sink p.group.sink sink ≡ t → cond (not (same_sink p.group.sink sink)) (name_in a p) None ≡ Some n → (k : Kept) × (kept_in b n ≡ Some k) × (seat_of k ≡ p)
      by_held p n true e h = let no_way : None ≡ Some n = sym (ap (λ t. cond (not t) (name_in a p) None) e) ∙ h in absurd (cc)
      by_held p n false e h =
          let old = stands.held p n (sym (ap (λ t. cond (not t) (name_in a p) None) e) ∙ h) in
          (old.0, still n old.0 old.1 (ap (λ (p : Place). same_sink p.group.sink sink) old.2 ∙ e), old.2)

      by_filled : (p : Place) (t : Bool) → same_sink p.group.sink sink ≡ t → p.at < size_in b p.group → is_some (name_in b p) ≡ true
      by_filled p true e low = absurd (let none = sizes p.group ∙ ap (λ t. cond (not t) (size_in a p.group) 0) e in omega (arith, low, none))
      by_filled p false e low =
          let size = sizes p.group ∙ ap (λ t. cond (not t) (size_in a p.group) 0) e in
          ap is_some (names p ∙ ap (λ t. cond (not t) (name_in a p) None) e) ∙ stands.filled p (omega (arith, low, size))

  pub go_ends : room_in a ≤ room_in b → Ends (of_sink sink) a b
  go_ends room = record {
    stands = go_stands;
    surfaces = λ n d h. by_surface n d (kept_of (kept_in a n) d h);
    no_more = λ n h. by_none n (kept_in a n) refl h;
    names = λ p n h. (p.at, omega arith, by_name p n (same_sink p.group.sink sink) refl (sym (names p) ∙ h));
    room = room;
  }
    where
      by_test : (n : Name) (d : SurfaceId) (k : Kept) (t : Bool) → same_sink k.id.sink sink ≡ t → kept_in a n ≡ Some k → k.id ≡ d → IsEnded (same_sink d.sink sink) (Some d) (surface_in b n)
      by_test n d k true e h is =
          inr (ap (λ (x : SurfaceId). same_sink x.sink sink) (sym is) ∙ e, ap (option_map (λ (k : Kept). k.id)) (keeps n ∙ ap (not_of sink) h ∙ ap (λ t. cond (not t) (Some k) None) e))
      by_test n d k false e h is = inl (ap (option_map (λ (k : Kept). k.id)) (still n k h e) ∙ ap (λ x. Some x) is)

      by_surface : (n : Name) (d : SurfaceId) → (k : Kept) × (kept_in a n ≡ Some k) × (k.id ≡ d) → IsEnded (same_sink d.sink sink) (Some d) (surface_in b n)
      by_surface n d k = by_test n d k.0 (same_sink k.0.id.sink sink) refl k.1 k.2

      by_none : (n : Name) (o : Option Kept) → kept_in a n ≡ o → option_map (λ (k : Kept). k.id) o ≡ None → surface_in b n ≡ None
      by_none n None e h = ap (option_map (λ (k : Kept). k.id)) (keeps n ∙ ap (not_of sink) e)
      by_none n (Some k) e h = absurd (cc)

      by_name : (p : Place) (n : Name) (t : Bool) → same_sink p.group.sink sink ≡ t → cond (not (same_sink p.group.sink sink)) (name_in a p) None ≡ Some n → name_in a p ≡ Some n
      by_name p n true e h = let no_way : None ≡ Some n = sym (ap (λ t. cond (not t) (name_in a p) None) e) ∙ h in absurd (cc)
      by_name p n false e h = sym (ap (λ t. cond (not t) (name_in a p) None) e) ∙ h

  pub go_rid : IsRid (of_sink sink) b
  go_rid n d h = grind (arith, nat_tests, kept_of (kept_in b n) d h, stays n)
