-- What a display keeps of its buffers.
use Rattle.std.proofs.Common.{◌≡◌, ℕ, zero, suc, ◌+◌, ◌-◌, ◌≤◌, min, Option, Some, None, List, [], ◌∷◌, map, take, length, replicate, refl, ap, sym, subst, ◌∙◌, slice_get, unwrap_or, arith}
use Rattle.std.specs.Prelude.{insert}
use Rattle.std.specs.Option.{option_map}
use Rattle.std.proofs.lemmas.List.{length-take-le, length-replicate}
use Rattle.vz_geom.specs.declared.Size.{Size}
use Rattle.vz_geom.specs.Rectangle.{Rectangle, Covers, sized, join, no_rectangle, area_of, points_of}
use Rattle.vz_geom.proofs.Bounds.{join_is_least, covers_empty}
use Rattle.vz_buffers.specs.Canvas.{Canvas}
use Rattle.vz_geom.specs.Display.{IsDisplaySize}
use Rattle.vz_buffers.specs.Turns.{Turns, first_turns, stale_in, stale_of, damaged, turned}
use Rattle.vz_rules.specs.Frames.{patched}
use Rattle.vz_machine.specs.Pictured.{Pictured, IsPictured, colours_in}
use Rattle.vz_display.specs.Displayed.{Displayed, IsDisplayed, AreOn, HaveSize, last_in, pixels_in, making_in, stale_now, steps_for, frame_of, shown, upto_most}

none_on : (size : Size) (count : ℕ) → AreOn size (replicate count None)
none_on size zero = tt
none_on size (suc count) = none_on size count

none_sized : (size : Size) (count : ℕ) → HaveSize size (replicate count None)
none_sized size zero = tt
none_sized size (suc count) = none_sized size count

damaged_on : (size : Size) (r : Rectangle) (rs : List (Option Rectangle)) → Covers (sized size) r → AreOn size rs → AreOn size (map (option_map (join r)) rs)
damaged_on size r [] c on = tt
damaged_on size r (None ∷ rs) c on = damaged_on size r rs c on
damaged_on size r (Some x ∷ rs) c on = (join_is_least r x (sized size) c on.0, damaged_on size r rs c on.1)

take_on : (size : Size) (k : ℕ) (rs : List (Option Rectangle)) → AreOn size rs → AreOn size (take k rs)
take_on size zero rs on = tt
take_on size (suc k) [] on = tt
take_on size (suc k) (None ∷ rs) on = take_on size k rs on
take_on size (suc k) (Some x ∷ rs) on = (on.0, take_on size k rs on.1)

take_sized : (size : Size) (k : ℕ) (bs : List (Option Canvas)) → HaveSize size bs → HaveSize size (take k bs)
take_sized size zero bs have = tt
take_sized size (suc k) [] have = tt
take_sized size (suc k) (None ∷ bs) have = take_sized size k bs have
take_sized size (suc k) (Some b ∷ bs) have = (have.0, take_sized size k bs have.1)

stale_on : (size : Size) (k : ℕ) (rs : List (Option Rectangle)) → AreOn size rs → Covers (sized size) (stale_in size (unwrap_or (slice_get rs k) None))
stale_on size k [] on = λ p h. h
stale_on size zero (None ∷ rs) on = λ p h. h
stale_on size zero (Some x ∷ rs) on = on.0
stale_on size (suc k) (None ∷ rs) on = stale_on size k rs on
stale_on size (suc k) (Some x ∷ rs) on = stale_on size k rs on.1

-- a buffer of a display has its size
pub last_sized : (size : Size) (k : ℕ) (bs : List (Option Canvas)) (b : Canvas) → HaveSize size bs → slice_get bs k ≡ Some (Some b) → b.size ≡ size
last_sized size k [] b have at' = absurd (cc)
last_sized size zero (None ∷ bs) b have at' = absurd (cc)
last_sized size zero (Some x ∷ bs) b have at' =
    let same : x ≡ b = cc in ap (λ (c : Canvas). c.size) (sym same) ∙ have.0
last_sized size (suc k) (None ∷ bs) b have at' = last_sized size k bs b have at'
last_sized size (suc k) (Some x ∷ bs) b have at' = last_sized size k bs b have.1 at'

few_taken : (k : ℕ) (bs : List (Option Canvas)) → length bs ≤ 4 → length (take k bs) ≤ 4
few_taken zero bs few = omega arith
few_taken (suc k) [] few = omega arith
few_taken (suc k) (b ∷ bs) few = let less = shorter k bs in omega (arith, less, few)
  where
    shorter : (k : ℕ) (bs : List (Option Canvas)) → length (take k bs) ≤ length bs
    shorter zero bs = omega arith
    shorter (suc k) [] = omega arith
    shorter (suc k) (b ∷ bs) = let less = shorter k bs in omega (arith, less)

few_more : (bs : List (Option Canvas)) → length bs ≤ 4 → suc (length (take (length bs - 1) bs)) ≤ 4
few_more [] few = omega arith
few_more (b ∷ bs) few = let less = length-take-le (length (b ∷ bs) - 1) (b ∷ bs) (omega arith) in omega (arith, less, few)

-- a display at first
pub new_is : (size : Size) (count : ℕ) (t : Turns) (kept : List (Option Canvas)) → IsDisplaySize size → count ≤ 4 → t ≡ first_turns size count → kept ≡ replicate count None
    → IsDisplayed (record { turns = t; kept = kept; painted = 0 }) × (size ≡ t.size)
new_is size count t kept sides few turns none =
    let P : Turns → Type 0 = λ u. IsDisplayed (record { turns = u; kept = kept; painted = 0 }) × (size ≡ u.size) in
    let Q : List (Option Canvas) → Type 0 = λ l. IsDisplayed (record { turns = first_turns size count; kept = l; painted = 0 }) × (size ≡ size) in
    let none_made : List (Option Canvas) = replicate count None in
    let long : length none_made ≡ count = length-replicate count None in
    subst P (sym turns) (subst Q (sym none) (record { sides = sides; few = omega (arith, long, few); stales = none_on size count; sizes = none_sized size count }, refl))

-- a picture's damage is on the display
pub damage_on : (own d : Displayed) (p : Pictured) (r : Rectangle) → own ≡ d → IsPictured p → p.size ≡ d.turns.size → r ≡ p.changed → Covers (sized own.turns.size) r
damage_on own d p r is proper same changed =
    let size : own.turns.size ≡ p.size = ap (λ (e : Displayed). e.turns.size) is ∙ sym same in
    subst (λ (s : Size). Covers (sized s) r) (sym size) (subst (λ (x : Rectangle). Covers (sized p.size) x) (sym changed) proper.inside)

-- the display while a picture is shown
pub while_shown : (own : Displayed) (size : Size) (t : Turns) (kept : List (Option Canvas)) (r : Rectangle) → IsDisplayed own × (size ≡ own.turns.size) → Covers (sized own.turns.size) r → t ≡ damaged own.turns r
    → kept ≡ take (length own.kept - 1) own.kept → IsDisplayed (record { turns = t; kept = kept; painted = own.painted }) × (size ≡ t.size)
unfolding damaged
while_shown own size t kept r is on turns rest =
    let P : Turns → Type 0 = λ u. IsDisplayed (record { turns = u; kept = kept; painted = own.painted }) × (size ≡ u.size) in
    let Q : List (Option Canvas) → Type 0 = λ l. IsDisplayed (record { turns = damaged own.turns r; kept = l; painted = own.painted }) × (size ≡ own.turns.size) in
    let k : ℕ = length own.kept - 1 in
    subst P (sym turns) (subst Q (sym rest) (
      record {
        sides = is.0.sides;
        few = few_taken k own.kept is.0.few;
        stales = damaged_on own.turns.size r own.turns.stales on is.0.stales;
        sizes = take_sized own.turns.size k own.kept is.0.sizes;
      },
      is.1,
    ))

-- the same, by what the picture says of itself
pub while_added : (own d : Displayed) (p : Pictured) (size : Size) (t : Turns) (kept : List (Option Canvas)) (r : Rectangle) → own ≡ d → IsPictured p → p.size ≡ d.turns.size → r ≡ p.changed → IsDisplayed own × (size ≡ own.turns.size)
    → t ≡ damaged own.turns r → kept ≡ take (length own.kept - 1) own.kept → IsDisplayed (record { turns = t; kept = kept; painted = own.painted }) × (size ≡ t.size)
while_added own d p size t kept r same proper fits changed is = while_shown own size t kept r is (damage_on own d p r same proper fits changed)

-- what is stale is on the display
pub area_on : (own : Displayed) (p : Pictured) (t : Turns) (area r : Rectangle) → IsDisplayed own → p.size ≡ own.turns.size → Covers (sized own.turns.size) r → t ≡ damaged own.turns r → area ≡ stale_of t → Covers (sized p.size) area
unfolding damaged stale_of
area_on own p t area r is same on turns stale =
    let moved : List (Option Rectangle) = map (option_map (join r)) own.turns.stales in
    let there : Covers (sized own.turns.size) (stale_of (damaged own.turns r)) =
    stale_on own.turns.size (length moved - 1) moved (damaged_on own.turns.size r own.turns.stales on is.stales) in
    subst (λ (s : Size). Covers (sized s) area) (sym same) (subst (λ (x : Rectangle). Covers (sized own.turns.size) x) (sym (stale ∙ ap stale_of turns)) there)

-- the display when a picture was shown
pub when_shown : (own : Displayed) (size : Size) (t t' : Turns) (kept : List (Option Canvas)) (b : Canvas) (r : Rectangle) (total : ℕ) → IsDisplayed own × (size ≡ own.turns.size) → Covers (sized own.turns.size) r
    → t ≡ damaged own.turns r → t' ≡ turned t → b.size ≡ size → kept ≡ Some b ∷ take (length own.kept - 1) own.kept
    → IsDisplayed (record { turns = t'; kept = kept; painted = total }) × (size ≡ t'.size)
unfolding damaged turned
when_shown own size t t' kept b r total is on turns goes fits put =
    let P : Turns → Type 0 = λ u. IsDisplayed (record { turns = u; kept = kept; painted = total }) × (size ≡ u.size) in
    let Q : List (Option Canvas) → Type 0 = λ l. IsDisplayed (record { turns = turned (damaged own.turns r); kept = l; painted = total }) × (size ≡ own.turns.size) in
    let k : ℕ = length own.kept - 1 in
    let moved : List (Option Rectangle) = map (option_map (join r)) own.turns.stales in
    subst P (sym (goes ∙ ap turned turns)) (subst Q (sym put) (
      record {
        sides = is.0.sides;
        few = few_more own.kept is.0.few;
        stales = (covers_empty (sized own.turns.size) no_rectangle refl, take_on own.turns.size (length moved - 1) moved (damaged_on own.turns.size r own.turns.stales on is.0.stales));
        sizes = (fits ∙ is.1, take_sized own.turns.size k own.kept is.0.sizes);
      },
      is.1,
    ))

-- the same, by what the picture says of itself
pub when_added : (own d : Displayed) (p : Pictured) (size : Size) (t t' : Turns) (kept : List (Option Canvas)) (b : Canvas) (r : Rectangle) (total : ℕ) → own ≡ d → IsPictured p → p.size ≡ d.turns.size → r ≡ p.changed
    → IsDisplayed own × (size ≡ own.turns.size) → t ≡ damaged own.turns r → t' ≡ turned t → b.size ≡ size → kept ≡ Some b ∷ take (length own.kept - 1) own.kept
    → IsDisplayed (record { turns = t'; kept = kept; painted = total }) × (size ≡ t'.size)
when_added own d p size t t' kept b r total same proper fits changed is = when_shown own size t t' kept b r total is (damage_on own d p r same proper fits changed)

-- the display that a picture leaves
pub shown_is : (own d : Displayed) (p : Pictured) (size : Size) (r area : Rectangle) (t t' : Turns) (b b' : Canvas) (kept : List (Option Canvas)) (total : ℕ) → own ≡ d → p.size ≡ d.turns.size → size ≡ own.turns.size → r ≡ p.changed
    → t ≡ damaged own.turns r → area ≡ stale_of t → b.size ≡ size → b.pixels ≡ pixels_in size (last_in own.kept) → b'.size ≡ b.size
    → b'.pixels ≡ patched area (points_of p.size) (colours_in p) b.pixels → t' ≡ turned t → kept ≡ Some b' ∷ take (length own.kept - 1) own.kept
    → total ≡ upto_most (own.painted + steps_for own p.changed)
    → record { turns = t'; kept = kept; painted = total } ≡ shown d p
unfolding shown frame_of
shown_is own d p size r area t t' b b' kept total is same sized_is changed turns stale fits before size_stays painted goes put counted =
    let t_is : t ≡ damaged own.turns p.changed = turns ∙ ap (damaged own.turns) changed in
    let area_is : area ≡ stale_now own p.changed = stale ∙ ap stale_of t_is in
    let before_is : b.pixels ≡ pixels_in own.turns.size (last_in own.kept) = before ∙ ap (λ s. pixels_in s (last_in own.kept)) sized_is in
    let frame : b'.pixels ≡ frame_of own p =
    painted ∙ (ap (λ x. patched x (points_of p.size) (colours_in p) b.pixels) area_is ∙ ap (patched (stale_now own p.changed) (points_of p.size) (colours_in p)) before_is) in
    let size_is : b'.size ≡ own.turns.size = size_stays ∙ (fits ∙ sized_is) in
    let buffer : b' ≡ record { size = own.turns.size; pixels = frame_of own p } =
    ap (λ s. record { size = s; pixels = b'.pixels }) size_is ∙ ap (λ l. record { size = own.turns.size; pixels = l }) frame in
    ap (λ u. record { turns = u; kept = kept; painted = total }) (goes ∙ ap turned t_is)
    ∙ (ap (λ l. record { turns = turned (damaged own.turns p.changed); kept = l; painted = total }) (put ∙ ap (λ c. Some c ∷ take (length own.kept - 1) own.kept) buffer)
    ∙ (ap (λ n. record { turns = turned (damaged own.turns p.changed); kept = Some (record { size = own.turns.size; pixels = frame_of own p }) ∷ take (length own.kept - 1) own.kept; painted = n }) counted
    ∙ ap (λ e. shown e p) is))

-- the steps for a picture
pub steps_are : (own d : Displayed) (p : Pictured) (size : Size) (r area : Rectangle) (t : Turns) → own ≡ d → size ≡ own.turns.size → r ≡ p.changed → t ≡ damaged own.turns r → area ≡ stale_of t
    → making_in size (last_in own.kept) + area_of area ≡ steps_for d p.changed
unfolding steps_for
steps_are own d p size r area t is sized_is changed turns stale =
    ap (λ s. making_in s (last_in own.kept) + area_of area) sized_is
    ∙ (ap (λ x. making_in own.turns.size (last_in own.kept) + area_of x) (stale ∙ ap stale_of (turns ∙ ap (damaged own.turns) changed)) ∙ ap (λ e. steps_for e p.changed) is)

-- the newest buffer comes first
pub put_first : (own : Displayed) (rest kept : List (Option Canvas)) (b : Canvas) → kept ≡ insert rest 0 (Some b) → rest ≡ take (length own.kept - 1) own.kept → kept ≡ Some b ∷ take (length own.kept - 1) own.kept
put_first own rest kept b put is = put ∙ ap (λ l. Some b ∷ l) is

-- two sums that stop at the greatest number
two_sums : (total made more : ℕ) → min (min (total + made) 18446744073709551615 + more) 18446744073709551615 ≡ min (total + (made + more)) 18446744073709551615
two_sums total made more = omega arith

-- all steps so far
pub total_is : (own : Displayed) (p : Pictured) (made area making more one two : ℕ) → made ≡ making → area ≡ more → making + more ≡ steps_for own p.changed
    → one ≡ min (own.painted + made) 18446744073709551615 → two ≡ min (one + area) 18446744073709551615
    → two ≡ upto_most (own.painted + steps_for own p.changed)
total_is own p made area making more one two made_is area_is all first second =
    let sum : made + area ≡ steps_for own p.changed = omega (arith, made_is, area_is, all) in
    second ∙ (ap (λ n. min (n + area) 18446744073709551615) first ∙ (two_sums own.painted made area ∙ ap (λ n. min (own.painted + n) 18446744073709551615) sum))

pub count_is : (old middle last all making more : ℕ) → middle ≡ old + making → last ≡ middle + more → making + more ≡ all → last ≡ old + all
count_is old middle last all making more first second sum = omega (arith, first, second, sum)
