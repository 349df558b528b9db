-- Of a rising list the surfaces up to one are a front part.
use Rattle.std.proofs.Common.{◌≡◌, ℕ, zero, suc, ◌<◌, ◌≤◌, ◌⊎◌, inl, inr, Bool, true, false, ◌&&◌, List, [], ◌∷◌, filter, take, length, get_or, refl, ap, sym, ◌∙◌, arith, cond}
use Rattle.std.specs.List.Sorted.{IsPartitionedBy, IsPartitionPoint}
use Rattle.std.proofs.lemmas.Bool.{or_right}
use Rattle.vz_ids.specs.declared.SurfaceId.{SurfaceId}
use Rattle.vz_ids.specs.Ids.{same_sink, same_surface, newer, at_least}
use Rattle.vz_rules.proofs.Facts.{length_map}
use Rattle.vz_surfaces.specs.declared.groups.Link.{Link}
use Rattle.vz_surfaces.specs.Chains.{ids_of, is_newer_id, IsRising}
use Rattle.vz_ids.proofs.Ages.{at_least_trans}

-- what stands behind is newer
pub rising_at : (xs : List SurfaceId) (i j : ℕ) (d : SurfaceId) → IsRising xs → i < j → j < length xs → is_newer_id (get_or xs j d) (get_or xs i d) ≡ true
unfolding IsRising
rising_at [] i j d h k l = absurd (omega (arith, l))
rising_at (x ∷ xs) zero zero d h k l = absurd (omega (arith, k))
rising_at (x ∷ xs) zero (suc j) d h k l = h.0 (get_or xs j d) (j, omega (arith, l), get_same xs j d (omega (arith, l)))
  where
    get_same : (xs : List SurfaceId) (j : ℕ) (d : SurfaceId) → j < length xs → get_or xs j (get_or xs j d) ≡ get_or xs j d
    get_same [] j d l = absurd (omega (arith, l))
    get_same (y ∷ ys) zero d l = refl
    get_same (y ∷ ys) (suc j) d l = get_same ys j d (omega (arith, l))
rising_at (x ∷ xs) (suc i) zero d h k l = absurd (omega (arith, k))
rising_at (x ∷ xs) (suc i) (suc j) d h k l = rising_at xs i j d h.1 (omega (arith, k)) (omega (arith, l))

pub rising_parts : (xs : List SurfaceId) (end : SurfaceId) → IsRising xs → IsPartitionedBy (λ (x : SurfaceId). at_least end x) xs
rising_parts xs end h i j d l k e = by (order i j l)
  where
    order : (i j : ℕ) → i ≤ j → (i ≡ j) ⊎ (i < j)
    order i j h = grind arith

    by : (i ≡ j) ⊎ (i < j) → at_least end (get_or xs i d) ≡ true
    by (inl s) = ap (λ n. at_least end (get_or xs n d)) s ∙ e
    by (inr m) =
        let a = get_or xs j d in
        let b = get_or xs i d in
        at_least_trans end a b e (or_right (same_surface a b) (same_sink a.sink b.sink && newer a.local b.local) (rising_at xs i j d h m k))

id_at : (links : List Link) (n : ℕ) (d : Link) → get_or (ids_of links) n d.id ≡ (get_or links n d).id
id_at [] n d = refl
id_at (l ∷ links) zero d = refl
id_at (l ∷ links) (suc n) d = id_at links n d

pub linked_parts : (links : List Link) (end : SurfaceId) → IsRising (ids_of links) → IsPartitionedBy (λ (l : Link). at_least end l.id) links
linked_parts links end h i j d l k e =
    ap (at_least end) (sym (id_at links i d))
    ∙ rising_parts (ids_of links) end h i j d.id l (omega (arith, length_map (λ (x : Link). x.id) links, k)) (ap (at_least end) (id_at links j d) ∙ e)

-- a front part that passes, with nothing behind it that does, is what passes
pub point_filter : {A : Type 0} (p : A → Bool) (xs : List A) (n : ℕ) → n ≤ length xs → IsPartitionPoint (λ x. p x ≡ true) (λ x. p x ≡ false) xs n → take n xs ≡ filter p xs
point_filter p [] zero h point = refl
point_filter p [] (suc n) h point = absurd (omega (arith, h))
point_filter p (x ∷ xs) zero h point =
    sym (ap (λ (t : Bool). cond t (x ∷ filter p xs) (filter p xs)) (point.1 0 x (omega arith) (omega arith))
    ∙ sym (point_filter p xs zero (omega arith) ((λ k d l m. absurd (omega (arith, l))), λ k d l m. point.1 (suc k) d (omega arith) (omega (arith, m)))))
point_filter p (x ∷ xs) (suc n) h point =
    ap (λ l. x ∷ l) (point_filter p xs n (omega (arith, h)) ((λ k d l m. point.0 (suc k) d (omega (arith, l)) (omega (arith, m))), λ k d l m. point.1 (suc k) d (omega (arith, l)) (omega (arith, m))))
    ∙ ap (λ (t : Bool). cond t (x ∷ filter p xs) (filter p xs)) (sym (point.0 0 x (omega arith) (omega arith)))
