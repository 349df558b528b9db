-- Lists of areas and of their owners, as one list of regions.
use Rattle.std.proofs.Common.{◌≡◌, ◌↔◌, ℕ, ◌+◌, ◌<◌, ◌≤◌, Bool, true, false, Option, Some, None, List, [], ◌∷◌, ◌++◌, drop, length, get_or, refl, sym, ap, ◌∙◌, cond, subst, arith}
use Rattle.std.specs.List.{All}
use Rattle.std.proofs.lemmas.List.{drop_more, drop_all, length-append}
use Rattle.std.proofs.lemmas.List.Elements.{All-nil, All-cons, All-head, All-tail, All-append}
use Rattle.vz_geom.specs.declared.Point.{Point}
use Rattle.vz_geom.specs.Rectangle.{Rectangle, has, plus}
use Rattle.vz_rules.specs.Hit.{Target}
use Rattle.vz_placement.specs.Limits.{HasRoom}
use Rattle.vz_hit.specs.declared.region.Region.{Region}
use Rattle.vz_hit.specs.declared.region.Hit.{Hit}
use Rattle.vz_hit.specs.declared.region.Owner.{Owner}
use Rattle.vz_hit.specs.Regions.{found, hit_of, HasNone, regions_of, AreOwned}

-- no area is no region
pub none_of : (areas : List Rectangle) (owners : List Owner) → areas ≡ [] → regions_of areas owners ≡ []
unfolding regions_of
none_of areas owners e = ap (λ (l : List Rectangle). regions_of l owners) e

-- One more

regions_put : (areas : List Rectangle) (owners : List Owner) (area : Rectangle) (owner : Owner) → length areas ≡ length owners
    → regions_of (areas ++ area ∷ []) (owners ++ owner ∷ []) ≡ regions_of areas owners ++ record { area = area; id = owner.id; shift = owner.shift } ∷ []
unfolding regions_of
regions_put [] [] area owner e = refl
regions_put [] (o ∷ os) area owner e = absurd (omega arith)
regions_put (a ∷ others) [] area owner e = absurd (omega arith)
regions_put (a ∷ others) (o ∷ os) area owner e =
    ap (λ (l : List Region). record { area = a; id = o.id; shift = o.shift } ∷ l) (regions_put others os area owner (omega (arith, e)))

-- a region put after the others
pub put_is : (areas areas' : List Rectangle) (owners owners' : List Owner) (old : List Region) (r : Region) → AreOwned areas owners
    → regions_of areas owners ≡ old → areas' ≡ areas ++ r.area ∷ [] → owners' ≡ owners ++ record { id = r.id; shift = r.shift } ∷ []
    → regions_of areas' owners' ≡ old ++ r ∷ []
put_is areas areas' owners owners' old r owned is e f =
    ap (λ l. regions_of l owners') e
    ∙ (ap (λ l. regions_of (areas ++ r.area ∷ []) l) f
    ∙ (regions_put areas owners r.area (record { id = r.id; shift = r.shift }) owned.each ∙ ap (λ l. l ++ r ∷ []) is))

-- an owner whose shift is within 52,000,000 of the origin
abbrev IsNearOwner : Owner → Type 0
IsNearOwner o = HasRoom 0 o.shift

-- a region without its area
abbrev owner_of : Region → Owner
owner_of r = record { id = r.id; shift = r.shift }

pub owned_put : (areas areas' : List Rectangle) (owners owners' : List Owner) (r : Region) → AreOwned areas owners → HasRoom 0 r.shift
    → areas' ≡ areas ++ r.area ∷ [] → owners' ≡ owners ++ record { id = r.id; shift = r.shift } ∷ []
    → AreOwned areas' owners'
owned_put areas areas' owners owners' r owned near e f =
    record {
      each = ap length e ∙ (length-append areas (r.area ∷ []) ∙ (ap (λ n. n + 1) owned.each ∙ (sym (length-append owners _) ∙ sym (ap length f))));
      near =
          subst (All IsNearOwner) (sym f)
          (All-append IsNearOwner owners (owner_of r ∷ []) owned.near (All-cons IsNearOwner (owner_of r) [] near (All-nil IsNearOwner)));
    }

-- the same if nothing changed
pub owned_same : (areas areas' : List Rectangle) (owners owners' : List Owner) → AreOwned areas owners → areas' ≡ areas → owners' ≡ owners
    → AreOwned areas' owners'
owned_same areas areas' owners owners' owned e f = rw (e, f) owned

-- What is found

-- what all regions answer, by their areas and owners
pub found_whole : (areas areas' : List Rectangle) (owners owners' : List Owner) (regions : List Region) (p : Point) → regions_of areas owners ≡ regions
    → areas' ≡ areas → owners' ≡ owners → found regions p ≡ found (regions_of areas' owners') p
found_whole areas areas' owners owners' regions p is e f =
    ap (λ (l : List Region). found l p)
    (sym is ∙ (ap (λ (l : List Rectangle). regions_of l owners) (sym e) ∙ ap (regions_of areas') (sym f)))

first_of : (t : Bool) (a b : Target) → t ≡ true → ◌≡◌ {A = Target} (cond t a b) a
first_of t a b e = rw e refl

later_of : (t : Bool) (a b : Target) → t ≡ false → ◌≡◌ {A = Target} (cond t a b) b
later_of t a b e = rw e refl

module _ (areas : List Rectangle) (owners : List Owner) (p : Point) (owned : AreOwned areas owners) where
  -- what the regions from a place on answer
  abbrev pub found_from : ℕ → Target
  found_from n = found (regions_of (drop n areas) (drop n owners)) p

  -- the region at a place and those after it
  found_at : (n : ℕ) (d : Rectangle) (o : Owner) → n < length areas
      → found_from n ≡ cond (has (get_or areas n d) p) (Some ((get_or owners n o).id, plus p (get_or owners n o).shift)) (found_from (n + 1))
  unfolding regions_of found
  found_at n d o low =
      let each = owned.each in
      ap (λ (l : List Rectangle). found (regions_of l (drop n owners)) p) (drop_more areas n d low)
      ∙ ap (λ (l : List Owner). found (regions_of (get_or areas n d ∷ drop (n + 1) areas) l) p) (drop_more owners n o (omega (arith, low, each)))

  -- the region at a place has the point
  pub found_here : (n : ℕ) (area : Rectangle) (o : Owner) → n < length areas → area ≡ get_or areas n area → has area p ≡ true
      → found_from n ≡ Some ((get_or owners n o).id, plus p (get_or owners n o).shift)
  found_here n area o low e h =
      found_at n area o low ∙ first_of (has (get_or areas n area) p) _ _ (ap (λ (r : Rectangle). has r p) (sym e) ∙ h)

  -- or it has not
  over : (n : ℕ) (area : Rectangle) (os : List Owner) → owners ≡ os → n < length areas → area ≡ get_or areas n area → has area p ≡ false
      → found_from n ≡ found_from (n + 1)
  over n area [] e low is h = absurd (let none = ap length e in let each = owned.each in omega (arith, low, none, each))
  over n area (o ∷ os) e low is h =
      found_at n area o low ∙ later_of (has (get_or areas n area) p) _ _ (ap (λ (r : Rectangle). has r p) (sym is) ∙ h)

  pub found_over : (n : ℕ) (area : Rectangle) → n < length areas → area ≡ get_or areas n area → has area p ≡ false
      → found_from n ≡ found_from (n + 1)
  found_over n area low is h = over n area owners refl low is h

  -- after the last one there is none
  pub found_end : (n : ℕ) → length areas ≤ n → found_from n ≡ None
  unfolding regions_of found
  found_end n e = ap (λ (l : List Rectangle). found (regions_of l (drop n owners)) p) (drop_all n areas e)

-- Nothing is found

missed : (r : Region) (behind : List Region) (p : Point) (t : Bool) → has r.area p ≡ t
    → ◌≡◌ {A = Target} (cond t (Some (r.id, plus p r.shift)) (found behind p)) None
    → (has r.area p ≡ false) × (found behind p ≡ None)
missed r behind p true e h = absurd (cc)
missed r behind p false e h = (e, h)

pub none_has : (regions : List Region) (p : Point) → found regions p ≡ None → HasNone regions p
unfolding found
none_has [] p h = All-nil (λ (r : Region). has r.area p ≡ false)
none_has (r ∷ behind) p h =
    let m = missed r behind p (has r.area p) refl h in
    All-cons (λ (r : Region). has r.area p ≡ false) r behind m.0 (none_has behind p m.1)

pub has_none : (regions : List Region) (p : Point) → HasNone regions p → found regions p ≡ None
unfolding found
has_none [] p h = refl
has_none (r ∷ behind) p h =
    later_of (has r.area p) (Some (r.id, plus p r.shift)) (found behind p) (All-head (λ (r : Region). has r.area p ≡ false) r behind h)
    ∙ has_none behind p (All-tail (λ (r : Region). has r.area p ≡ false) r behind h)

no_hit : (t : Target) → hit_of t ≡ None → t ≡ None
no_hit None h = refl
no_hit (Some a) h = absurd (cc)

-- what is handed out is nothing exactly if no region has the point
pub none_exactly : (regions : List Region) (p : Point) (hit : Option Hit) → hit ≡ hit_of (found regions p) → (hit ≡ None) ↔ HasNone regions p
none_exactly regions p hit e =
    (λ h. none_has regions p (no_hit (found regions p) (sym e ∙ h)), λ h. e ∙ ap hit_of (has_none regions p h))
