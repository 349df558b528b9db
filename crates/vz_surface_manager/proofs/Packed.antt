-- The listings of all submissions in one list: what each has stays as the list grows.
use Rattle.std.proofs.Common.{◌≡◌, ℕ, ◌≤◌, false, Some, List, [], ◌∷◌, ◌++◌, map, take, drop, length, slice_get, Result, Ok, Err, OnErr, refl, ap, sym, ◌∙◌, subst, arith, inl, inr, Contains}
use Rattle.std.proofs.lemmas.List.{take_all, take-append-le, map-append, drop_at, length-append}
use Rattle.vz_ids.specs.declared.Sub.{Sub}
use Rattle.vz_frame.specs.declared.frame.Listing.{Listing}
use Rattle.vz_rules.proofs.Members.{contains_none, contains_cases, at_contains}
use Rattle.indexmap.specs.IndexMap.{insert_entry}
use Rattle.vz_rules.specs.World.{has_sub}
use Rattle.vz_surface_manager.specs.declared.roster.Part.{Part}
use Rattle.vz_surface_manager.proofs.Entries.{same_key, put_last}
use Rattle.vz_surface_manager.specs.{Flown.subs_of, Packed.unpacked_one, Packed.unpacked, Packed.AreWithin}

-- the names
pub names_unpacked : (all : List Listing) (es : List (Sub × Part)) → subs_of (unpacked all es) ≡ map (λ (e : Sub × Part). e.0) es
names_unpacked all [] = refl
names_unpacked all (e ∷ es) = ap (λ (l : List Sub). e.0 ∷ l) (names_unpacked all es)

pub within_none : (n : ℕ) (es : List (Sub × Part)) → es ≡ [] → AreWithin n es
within_none n es e = subst (AreWithin n) (sym e) tt

pub within_more : (n m : ℕ) (es : List (Sub × Part)) → n ≤ m → AreWithin n es → AreWithin m es
within_more n m [] le h = tt
within_more n m (e ∷ es) le h = (h.0, omega (arith, le, h.1), within_more n m es le h.2)

pub within_last : (n : ℕ) (es : List (Sub × Part)) (sub : Sub) (from to : ℕ) → from ≤ to → to ≤ n → AreWithin n es
    → AreWithin n (es ++ (sub, record { from = from; to = to }) ∷ [])
within_last n [] sub from to a b h = (a, b, tt)
within_last n (e ∷ es) sub from to a b h = (h.0, h.1, within_last n es sub from to a b h.2)

within_here : (n : ℕ) (es : List (Sub × Part)) (e : Sub × Part) → AreWithin n es → Contains es e → (e.1.from ≤ e.1.to) × (e.1.to ≤ n)
within_here n [] e h c = absurd (contains_none e c)
within_here n (y ∷ ys) e h c =
    elim (contains_cases y e ys c) [
      | inl q ↦ subst (λ (x : Sub × Part). (x.1.from ≤ x.1.to) × (x.1.to ≤ n)) q (h.0, h.1)
      | inr m ↦ within_here n ys e h.2 m
    ]

-- the part of one of them
pub within_at : (n : ℕ) (es : List (Sub × Part)) (k : ℕ) (e : Sub × Part) → AreWithin n es → slice_get es k ≡ Some e
    → (e.1.from ≤ e.1.to) × (e.1.to ≤ n)
within_at n es k e h is = within_here n es e h (at_contains es k e is)

-- what each has stays
pub unpacked_more : (all more : List Listing) (es : List (Sub × Part)) → AreWithin (length all) es
    → unpacked (all ++ more) es ≡ unpacked all es
unpacked_more all more [] h = refl
unpacked_more all more (e ∷ es) h =
    λ i. (e.0, drop e.1.from (take-append-le e.1.to all more h.1 i)) ∷ unpacked_more all more es h.2 i

-- a submission with all that comes to the list
pub unpacked_last : (all more : List Listing) (es : List (Sub × Part)) (sub : Sub) → AreWithin (length all) es
    → unpacked (all ++ more) (es ++ (sub, record { from = length all; to = length (all ++ more) }) ∷ [])
    ≡ unpacked all es ++ (sub, more) ∷ []
unpacked_last all more es sub h =
    map-append (unpacked_one (all ++ more)) es ((sub, record { from = length all; to = length (all ++ more) }) ∷ [])
    ∙ (λ i. unpacked_more all more es h i ++ (sub, last i) ∷ [])
  where
    last : drop (length all) (take (length (all ++ more)) (all ++ more)) ≡ more
    last = ap (drop (length all)) (take_all (length (all ++ more)) (all ++ more) (omega arith)) ∙ drop_at all more (length all) refl

pub on_err : {T E : Type 0} (r : Result T E) (P : Type 0) → P → OnErr r P
on_err (Ok x) P is = tt
on_err (Err e) P is = is

-- What a roster is after one more was put in

module _ (all more new : List Listing) (es fresh : List (Sub × Part)) (sub : Sub) (from to : ℕ) (within : AreWithin (length all) es)
    (new_is : new ≡ all ++ more) (from_is : from ≡ length all) (to_is : to ≡ length new)
    (absent : has_sub (subs_of (unpacked all es)) sub ≡ false)
    (is : fresh ≡ insert_entry same_key es sub (record { from = from; to = to })) where
  put_is : fresh ≡ es ++ (sub, record { from = length all; to = length (all ++ more) }) ∷ []
  put_is =
      is ∙ (put_last es sub (record { from = from; to = to }) (ap (λ l. has_sub l sub) (sym (names_unpacked all es)) ∙ absent)
      ∙ (λ i. es ++ (sub, record { from = from_is i; to = (to_is ∙ ap length new_is) i }) ∷ []))

  pub put_unpacked : unpacked new fresh ≡ unpacked all es ++ (sub, more) ∷ []
  put_unpacked = (λ i. unpacked (new_is i) (put_is i)) ∙ unpacked_last all more es sub within

  pub put_within : AreWithin (length new) fresh
  put_within =
      let long : length new ≡ length (all ++ more) = ap length new_is in
      let longer = length-append all more in
      subst (AreWithin (length new)) (sym put_is)
      (within_last (length new) es sub (length all) (length (all ++ more)) (omega (arith, longer)) (omega (arith, long))
      (within_more (length all) (length new) es (omega (arith, long, longer)) within))
