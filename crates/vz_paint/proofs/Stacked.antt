-- What one operation does at a point inside open groups.
use Rattle.std.proofs.Common.{◌≡◌, ℕ, suc, ◌+◌, ◌-◌, ◌≤◌, ◌<◌, if◌then◌else◌, List, [], ◌∷◌, ◌++◌, length, take, get_or, slice_set, append_assoc, refl, sym, ap, ◌∙◌, subst, arith}
use Rattle.std.proofs.{lemmas.List.take_more, lemmas.List.take_all, lemmas.List.length-set, lemmas.List.set-append_left, lemmas.List.Elements.All-set}
use Rattle.std.proofs.{Math.Seq.take-suc-set, Math.Seq.take-append_seam, lemmas.Bool.Decides.nat_tests}
use Rattle.vz_geom.specs.{declared.Point.Point, Rectangle.Rectangle, Rectangle.has}
use Rattle.vz_pixels.specs.Colour.{Colour, transparent}
use Rattle.vz_frame.specs.{declared.blend.Blend.Blend, Blending.laid}
use Rattle.vz_flat.specs.{declared.op.Op.Op, declared.op.Op.TheVariants.Push, declared.op.Op.TheVariants.Pop, Ops.Group, Ops.run}
use Rattle.vz_paint.specs.{declared.group.OpenGroup.OpenGroup, Stack.group_at, Stack.drawn_over, Stack.drawn_to, Stack.HavePixels}

-- inside the same groups, what comes of alike ends is the same
alike : (p : Point) (at : ℕ) (before after : List Op) (gs xs ys : List OpenGroup) → ((stack : List Group) (b : Colour) → drawn_over p at before xs stack b ≡ drawn_over p at after ys stack b)
    → (stack : List Group) (b : Colour) → drawn_over p at before (gs ++ xs) stack b ≡ drawn_over p at after (gs ++ ys) stack b
unfolding drawn_over
alike p at before after [] xs ys same stack b = same stack b
alike p at before after (g ∷ gs) xs ys same stack b = alike p at before after gs xs ys same (group_at p b g ∷ stack) (get_or g.pixels.items at transparent)

-- the same, where the first of them has no group more
alike_inside : (p : Point) (at : ℕ) (before after : List Op) (gs ys : List OpenGroup) → ((stack : List Group) (b : Colour) → drawn_over p at before [] stack b ≡ drawn_over p at after ys stack b)
    → (stack : List Group) (b : Colour) → drawn_over p at before gs stack b ≡ drawn_over p at after (gs ++ ys) stack b
unfolding drawn_over
alike_inside p at before after [] ys same stack b = same stack b
alike_inside p at before after (g ∷ gs) ys same stack b = alike_inside p at before after gs ys same (group_at p b g ∷ stack) (get_or g.pixels.items at transparent)

-- the open groups, with the innermost one apart
innermost : (n : ℕ) (groups : List OpenGroup) (d : OpenGroup) → 0 < n → n ≤ length groups → take n groups ≡ take (n - 1) groups ++ get_or groups (n - 1) d ∷ []
innermost n groups d some most = grind (arith, nat_tests, take_more groups)

-- and after it was changed
changed : (n : ℕ) (groups : List OpenGroup) (g : OpenGroup) → n < length groups → take (n + 1) (slice_set groups n g) ≡ take n groups ++ g ∷ []
changed n groups g low = grind (arith, nat_tests, take-suc-set groups n g low)

-- a group of other pixels is as its group
moded : (p : Point) (b : Colour) (g h : OpenGroup) → h.area ≡ g.area → h.opacity ≡ g.opacity → h.mode ≡ g.mode → ◌≡◌ {A = Group} (group_at p b g) (group_at p b h)
moded p b g h area opacity mode = λ k. record { below = b; opacity = sym opacity k; mode = sym mode k; has_point = has (sym area k) p }

-- an item that is drawn in the lowest rows
pub item_lowest : (p : Point) (at n : ℕ) (op : Op) (rest : List Op) (groups : List OpenGroup) (below now : Colour) → n ≡ 0
    → run p (op ∷ rest) [] below ≡ run p rest [] now → drawn_to p at (op ∷ rest) n groups below ≡ drawn_to p at rest n groups now
unfolding drawn_over
item_lowest p at n op rest groups below now none each = subst (λ k. drawn_to p at (op ∷ rest) k groups below ≡ drawn_to p at rest k groups now) (sym none) each

-- an item that is drawn in the innermost group
pub item_inside : (p : Point) (at n : ℕ) (op : Op) (rest : List Op) (groups : List OpenGroup) (d h : OpenGroup) (below : Colour) → 0 < n → n ≤ length groups → h.area ≡ (get_or groups (n - 1) d).area
    → h.opacity ≡ (get_or groups (n - 1) d).opacity → h.mode ≡ (get_or groups (n - 1) d).mode
    → ((stack : List Group) → run p (op ∷ rest) stack (get_or (get_or groups (n - 1) d).pixels.items at transparent) ≡ run p rest stack (get_or h.pixels.items at transparent))
    → drawn_to p at (op ∷ rest) n groups below ≡ drawn_to p at rest n (slice_set groups (n - 1) h) below
unfolding drawn_over
item_inside p at n op rest groups d h below some most area opacity mode each = grind (arith, nat_tests, innermost n groups d some most, alike p at (op ∷ rest) rest, moded p, changed)

-- a group that begins
pub push_inside : (p : Point) (at n : ℕ) (op : Op) (area : Rectangle) (o : ℕ) (m : Blend) (rest : List Op) (groups : List OpenGroup) (h : OpenGroup) (below : Colour) → op ≡ Push area o m → n < length groups
    → get_or h.pixels.items at transparent ≡ transparent → h.area ≡ area → h.opacity ≡ o → h.mode ≡ m → drawn_to p at (op ∷ rest) n groups below ≡ drawn_to p at rest (n + 1) (slice_set groups n h) below
unfolding drawn_over run
push_inside p at n op area o m rest groups h below is low none at_area opacity mode = grind (arith, nat_tests, alike_inside, changed)

-- the only open group ends
pub pop_lowest : (p : Point) (at n : ℕ) (rest : List Op) (groups : List OpenGroup) (d : OpenGroup) (below now : Colour) → 0 < length groups
    → now ≡ (if has (get_or groups 0 d).area p then laid (get_or groups 0 d).mode (get_or (get_or groups 0 d).pixels.items at transparent) (get_or groups 0 d).opacity below else below)
    → n ≡ 1 → drawn_to p at (Pop ∷ rest) n groups below ≡ drawn_to p at rest (n - 1) groups now
unfolding drawn_over run
pop_lowest p at n rest groups d below now some e one = grind (arith, nat_tests)

-- outer groups, with the first of the inner ones
with_first : (outer : List OpenGroup) (g : OpenGroup) (gs : List OpenGroup) → take (suc (length outer)) (outer ++ (g ∷ gs)) ≡ outer ++ g ∷ []
with_first [] g gs = refl
with_first (x ∷ outer) g gs = ap (λ l. x ∷ l) (with_first outer g gs)

-- a group inside another one ends: the group j of the outer ones is round it
pub pop_inside : (p : Point) (at n j : ℕ) (rest : List Op) (groups outer inner : List OpenGroup) (d e h : OpenGroup) (below : Colour) → n ≡ j + 2 → length outer ≡ j + 1 → 0 < length inner → groups ≡ outer ++ inner → h.area ≡ (get_or outer j d).area
    → h.opacity ≡ (get_or outer j d).opacity → h.mode ≡ (get_or outer j d).mode
    → get_or h.pixels.items at transparent
    ≡ (if has (get_or inner 0 e).area p
    then laid (get_or inner 0 e).mode (get_or (get_or inner 0 e).pixels.items at transparent) (get_or inner 0 e).opacity (get_or (get_or outer j d).pixels.items at transparent)
    else get_or (get_or outer j d).pixels.items at transparent)
    → drawn_to p at (Pop ∷ rest) n groups below ≡ drawn_to p at rest (n - 1) (slice_set outer j h ++ inner) below
unfolding drawn_over run
pop_inside p at n j rest groups outer [] d e h below deep all more cut area opacity mode each = absurd (omega (arith, more))
pop_inside p at n j rest groups outer (g ∷ gs) d e h below deep all more cut area opacity mode each =
    let o = get_or outer j d in
    let under = get_or o.pixels.items at transparent in
    let now = if has g.area p then laid g.mode (get_or g.pixels.items at transparent) g.opacity under else under in
    let front = take j outer in
    let next : n ≡ suc (length outer) = omega (arith, deep, all) in
    let low : j < length outer = omega (arith, all) in
    let whole : outer ≡ front ++ o ∷ [] = sym (take_all (j + 1) outer (omega (arith, all))) ∙ take_more outer j d low in
    let opened : take n groups ≡ front ++ (o ∷ g ∷ []) = ap (λ l. take n l) cut ∙ (ap (λ k. take k (outer ++ (g ∷ gs))) next ∙ (with_first outer g gs ∙ (ap (λ l. l ++ g ∷ []) whole ∙ append_assoc front (o ∷ []) (g ∷ [])))) in
    let long : length (slice_set outer j h) ≡ j + 1 = length-set outer j h ∙ all in
    let left : slice_set outer j h ≡ front ++ h ∷ [] = sym (take_all (j + 1) (slice_set outer j h) (omega (arith, long))) ∙ changed j outer h low in
    let less : n - 1 ≡ length (slice_set outer j h) = omega (arith, deep, long) in
    let ended : take (n - 1) (slice_set outer j h ++ (g ∷ gs)) ≡ front ++ h ∷ [] = ap (λ k. take k (slice_set outer j h ++ (g ∷ gs))) less ∙ (take-append_seam (slice_set outer j h) (g ∷ gs) ∙ left) in
    ap (λ l. drawn_over p at (Pop ∷ rest) l [] below) opened
    ∙ (alike p at (Pop ∷ rest) rest front (o ∷ g ∷ []) (h ∷ [])
    (λ stack b. ap (λ x. run p rest (x ∷ stack) now) (moded p b o h area opacity mode) ∙ ap (run p rest (group_at p b h ∷ stack)) (sym each))
    [] below
    ∙ ap (λ l. drawn_over p at rest l [] below) (sym ended))

-- each group has its pixels, after one of the outer ones was drawn in
pub pixels_stay : (count j : ℕ) (groups outer inner : List OpenGroup) (h : OpenGroup) → groups ≡ outer ++ inner → j < length outer → count ≤ length h.pixels.items → HavePixels count groups → HavePixels count (slice_set outer j h ++ inner)
pixels_stay count j groups outer inner h cut low long have = subst (HavePixels count) (set-append_left outer inner j h low) (All-set (λ g. count ≤ length g.pixels.items) (outer ++ inner) j h long (subst (HavePixels count) cut have))
