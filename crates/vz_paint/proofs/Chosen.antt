-- The operations that are seen in a part of the display do there what all of them do.
use Rattle.std.proofs.Common.{◌≡◌, ℕ, zero, suc, ◌+◌, ◌-◌, ◌≤◌, Bool, true, false, ◌&&◌, ◌==◌, if◌then◌else◌, List, [], ◌∷◌, ◌++◌, length, refl, sym, ap, ◌∙◌, append-nil, arith}
use Rattle.std.specs.{Prelude.nat_lt, List.list_all}
use Rattle.std.proofs.{lemmas.Bool.and_parts, lemmas.Bool.ltb-true, lemmas.Bool.eqb-true, lemmas.Bool.Decides.nat_tests}
use Rattle.vz_geom.specs.{declared.Point.Point, Rectangle.Rectangle, Rectangle.has, Rectangle.meet}
use Rattle.vz_frame.specs.Blending.{laid}
use Rattle.vz_geom.proofs.{Bounds.in_is_full, Sets.has_meet_is}
use Rattle.vz_pixels.specs.Colour.{Colour, transparent}
use Rattle.vz_flat.specs.{declared.op.Op.Op, declared.op.TheConstants.MOST_OPEN}
use Rattle.vz_flat.specs.declared.op.Op.TheVariants.{Fill, Blit, Push, Pop}
use Rattle.vz_flat.specs.Ops.{Group, closed, run, value, is_nested, is_inside, is_whole, deepest}
use Rattle.vz_paint.specs.Choice.{meets, seen}

-- an area that does not meet a part has none of its points
pub apart : (area part : Rectangle) (p : Point) → meets area part ≡ false → has part p ≡ true → has area p ≡ false
apart area part p e in_part = grind (arith, nat_tests, has_meet_is area part p, in_is_full (meet area part) p)

module _ (part : Rectangle) (p : Point) (in_part : has part p ≡ true) where
  -- what is seen does what all does, in front of open groups and behind one that does not have the point
  record IsSame (ops : List Op) : Type 0 where
    plain : (n : ℕ) (groups : List Group) (d : Colour) → n ≡ length groups → is_nested n ops ≡ true → run p (seen part zero ops) groups d ≡ run p ops groups d
    hidden : (n : ℕ) (inner : List Group) (g : Group) (groups : List Group) (d : Colour) → g.has_point ≡ false → n ≡ length inner + suc (length groups) → is_nested n ops ≡ true
        → run p (seen part (suc (length inner)) ops) groups g.below ≡ run p ops (inner ++ g ∷ groups) d

  fill_kept : (t : Bool) (area : Rectangle) (c : Colour) (o : ℕ) (m : _) (ops : List Op) → meets area part ≡ t → IsSame ops → (n : ℕ) (groups : List Group) (d : Colour) → n ≡ length groups → is_nested n ops ≡ true
      → run p (if t then Fill area c o m ∷ seen part zero ops else seen part zero ops) groups d ≡ run p (Fill area c o m ∷ ops) groups d
  unfolding run
  fill_kept true area c o m ops e same n groups d long nested = same.plain n groups _ long nested
  fill_kept false area c o m ops e same n groups d long nested = grind (arith, nat_tests, apart area part p e in_part)

  blit_kept : (t : Bool) (area : Rectangle) (block : _) (tx ty : _) (o : ℕ) (m : _) (ops : List Op) → meets area part ≡ t → IsSame ops → (n : ℕ) (groups : List Group) (d : Colour) → n ≡ length groups → is_nested n ops ≡ true
      → run p (if t then Blit area block tx ty o m ∷ seen part zero ops else seen part zero ops) groups d ≡ run p (Blit area block tx ty o m ∷ ops) groups d
  unfolding run
  blit_kept true area block tx ty o m ops e same n groups d long nested = same.plain n groups _ long nested
  blit_kept false area block tx ty o m ops e same n groups d long nested = grind (arith, nat_tests, apart area part p e in_part)

  push_kept : (t : Bool) (area : Rectangle) (o : ℕ) (m : _) (ops : List Op) → meets area part ≡ t → IsSame ops → (n : ℕ) (groups : List Group) (d : Colour) → n ≡ length groups → is_nested (n + 1) ops ≡ true
      → run p (if t then Push area o m ∷ seen part zero ops else seen part (suc zero) ops) groups d ≡ run p (Push area o m ∷ ops) groups d
  unfolding run
  push_kept true area o m ops e same n groups d long nested =
      same.plain (n + 1) (record { below = d; opacity = o; mode = m; has_point = has area p } ∷ groups) transparent (omega (arith, long)) nested
  push_kept false area o m ops e same n groups d long nested =
      same.hidden (n + 1) [] (record { below = d; opacity = o; mode = m; has_point = has area p }) groups transparent (apart area part p e in_part) (omega (arith, long)) nested

  closes : (g : Group) (d : Colour) → g.has_point ≡ false → closed g d ≡ g.below
  closes g d none = ap (λ t. if t then laid g.mode d g.opacity g.below else g.below) none

  same : (ops : List Op) → IsSame ops
  unfolding seen run is_nested
  same [] =
      record {
        plain = λ n groups d long nested. refl;
        hidden = λ n inner g groups d none long nested.
            let zero_is = eqb-true n 0 nested in absurd (omega (arith, zero_is, long));
      }
  same (Fill area c o m ∷ ops) =
      let rest = same ops in
      record {
        plain = λ n groups d long nested. fill_kept (meets area part) area c o m ops refl rest n groups d long nested;
        hidden = λ n inner g groups d none long nested. rest.hidden n inner g groups _ none long nested;
      }
  same (Blit area block tx ty o m ∷ ops) =
      let rest = same ops in
      record {
        plain = λ n groups d long nested. blit_kept (meets area part) area block tx ty o m ops refl rest n groups d long nested;
        hidden = λ n inner g groups d none long nested. rest.hidden n inner g groups _ none long nested;
      }
  same (Push area o m ∷ ops) =
      let rest = same ops in
      record {
        plain = λ n groups d long nested. push_kept (meets area part) area o m ops refl rest n groups d long (and_parts (nat_lt n MOST_OPEN) (is_nested (n + 1) ops) nested).1;
        hidden = λ n inner g groups d none long nested.
            rest.hidden (n + 1) (record { below = d; opacity = o; mode = m; has_point = has area p } ∷ inner) g groups transparent none (omega (arith, long))
            (and_parts (nat_lt n MOST_OPEN) (is_nested (n + 1) ops) nested).1;
      }
  same (Pop ∷ ops) =
      let rest = same ops in
      record { plain = pop_plain rest; hidden = pop_hidden rest }
    where
      pop_plain : IsSame ops → (n : ℕ) (groups : List Group) (d : Colour) → n ≡ length groups → (nat_lt 0 n && is_nested (n - 1) ops) ≡ true → run p (Pop ∷ seen part zero ops) groups d ≡ run p (Pop ∷ ops) groups d
      pop_plain rest n [] d long nested =
          let some = ltb-true 0 n (and_parts (nat_lt 0 n) (is_nested (n - 1) ops) nested).0 in absurd (omega (arith, some, long))
      pop_plain rest n (g ∷ groups) d long nested =
          rest.plain (n - 1) groups (closed g d) (omega (arith, long)) (and_parts (nat_lt 0 n) (is_nested (n - 1) ops) nested).1

      pop_hidden : IsSame ops → (n : ℕ) (inner : List Group) (g : Group) (groups : List Group) (d : Colour) → g.has_point ≡ false → n ≡ length inner + suc (length groups) → (nat_lt 0 n && is_nested (n - 1) ops) ≡ true
          → run p (seen part (length inner) ops) groups g.below ≡ run p (Pop ∷ ops) (inner ++ g ∷ groups) d
      pop_hidden rest n [] g groups d none long nested =
          rest.plain (n - 1) groups g.below (omega (arith, long)) (and_parts (nat_lt 0 n) (is_nested (n - 1) ops) nested).1
          ∙ ap (run p ops groups) (sym (closes g d none))
      pop_hidden rest n (x ∷ inner) g groups d none long nested =
          rest.hidden (n - 1) inner g groups (closed x d) none (omega (arith, long)) (and_parts (nat_lt 0 n) (is_nested (n - 1) ops) nested).1

  pub seen_same : (ops : List Op) (d : Colour) → is_whole ops ≡ true → value (seen part zero ops) p d ≡ value ops p d
  unfolding value is_whole
  seen_same ops d whole = (same ops).plain 0 [] d refl (and_parts (is_nested 0 ops) (list_all is_inside ops) whole).0

-- What is seen is whole, and opens no more groups

seen_nested : (part : Rectangle) (ops : List Op) (n m h : ℕ) → n ≡ m + h → is_nested n ops ≡ true → is_nested m (seen part h ops) ≡ true
unfolding seen is_nested
seen_nested part [] n m h sum e = grind (arith, nat_tests, eqb-true)
seen_nested part (Fill area c o md ∷ ops) n m zero sum e = grind (arith, nat_tests, seen_nested part ops n m zero sum e)
seen_nested part (Fill area c o md ∷ ops) n m (suc h) sum e = seen_nested part ops n m (suc h) sum e
seen_nested part (Blit area block tx ty o md ∷ ops) n m zero sum e = grind (arith, nat_tests, seen_nested part ops n m zero sum e)
seen_nested part (Blit area block tx ty o md ∷ ops) n m (suc h) sum e = seen_nested part ops n m (suc h) sum e
seen_nested part (Push area o md ∷ ops) n m zero sum e = grind (arith, nat_tests, and_parts, same, seen_nested part ops)
seen_nested part (Push area o md ∷ ops) n m (suc h) sum e = grind (arith, nat_tests, seen_nested part ops, and_parts)
seen_nested part (Pop ∷ ops) n m zero sum e = grind (arith, nat_tests, and_parts, same, seen_nested part ops)
seen_nested part (Pop ∷ ops) n m (suc h) sum e = grind (arith, nat_tests, seen_nested part ops, and_parts)

seen_inside : (part : Rectangle) (ops : List Op) (h : ℕ) → list_all is_inside ops ≡ true → list_all is_inside (seen part h ops) ≡ true
unfolding seen
seen_inside part [] h e = refl
seen_inside part (Fill area c o md ∷ ops) zero e = grind (arith, nat_tests, and_parts, seen_inside part ops zero)
seen_inside part (Fill area c o md ∷ ops) (suc h) e = seen_inside part ops (suc h) (and_parts (is_inside (Fill area c o md)) (list_all is_inside ops) e).1
seen_inside part (Blit area block tx ty o md ∷ ops) zero e = grind (arith, nat_tests, and_parts, seen_inside part ops zero)
seen_inside part (Blit area block tx ty o md ∷ ops) (suc h) e = seen_inside part ops (suc h) (and_parts (is_inside (Blit area block tx ty o md)) (list_all is_inside ops) e).1
seen_inside part (Push area o md ∷ ops) zero e = grind (arith, nat_tests, and_parts, seen_inside part ops zero, seen_inside part ops (suc zero))
seen_inside part (Push area o md ∷ ops) (suc h) e = seen_inside part ops (suc (suc h)) (and_parts (is_inside (Push area o md)) (list_all is_inside ops) e).1
seen_inside part (Pop ∷ ops) zero e = grind (arith, nat_tests, and_parts, seen_inside part ops zero)
seen_inside part (Pop ∷ ops) (suc h) e = seen_inside part ops h (and_parts (is_inside Pop) (list_all is_inside ops) e).1

pub seen_whole : (part : Rectangle) (ops : List Op) → is_whole ops ≡ true → is_whole (seen part zero ops) ≡ true
unfolding is_whole
seen_whole part ops e = grind (arith, nat_tests, and_parts (is_nested 0 ops) (list_all is_inside ops) e, seen_nested part ops 0 0 zero refl, seen_inside part ops zero)

seen_deep : (part : Rectangle) (ops : List Op) (n m h : ℕ) → n ≡ m + h → deepest m (seen part h ops) ≤ deepest n ops
unfolding seen deepest
seen_deep part [] n m h sum = omega (arith, sum)
seen_deep part (Fill area c o md ∷ ops) n m zero sum = grind (arith, nat_tests, seen_deep part ops n m zero sum)
seen_deep part (Fill area c o md ∷ ops) n m (suc h) sum = seen_deep part ops n m (suc h) sum
seen_deep part (Blit area block tx ty o md ∷ ops) n m zero sum = grind (arith, nat_tests, seen_deep part ops n m zero sum)
seen_deep part (Blit area block tx ty o md ∷ ops) n m (suc h) sum = seen_deep part ops n m (suc h) sum
seen_deep part (Push area o md ∷ ops) n m zero sum = grind (arith, nat_tests, seen_deep part ops)
seen_deep part (Push area o md ∷ ops) n m (suc h) sum = seen_deep part ops (n + 1) m (suc (suc h)) (omega (arith, sum))
seen_deep part (Pop ∷ ops) n m zero sum = grind (arith, nat_tests, seen_deep part ops)
seen_deep part (Pop ∷ ops) n m (suc h) sum = grind (arith, nat_tests, seen_deep part ops)

pub seen_deepest : (part : Rectangle) (ops : List Op) → deepest 0 (seen part zero ops) ≤ deepest 0 ops
seen_deepest part ops = seen_deep part ops 0 0 zero refl

-- Operation by operation

some_open : (n : ℕ) → (suc n == 0) ≡ false
some_open n = grind (arith, nat_tests, eqb-true (suc n) 0)

behind : (n : ℕ) (u t : Bool) → t ≡ ((suc n == 0) && u) → t ≡ false
behind n u t e = e ∙ ap (λ b. b && u) (some_open n)

pub fill_fate : (part : Rectangle) (n : ℕ) (op : Op) (area : Rectangle) (c : Colour) (o : ℕ) (m : _) (t : Bool) → op ≡ Fill area c o m → t ≡ ((n == 0) && meets area part)
    → (rest : List Op) → seen part n (op ∷ rest) ≡ (if t then op ∷ seen part n rest else seen part n rest)
unfolding seen
fill_fate part zero op area c o m t is e rest = rw (is, e) refl
fill_fate part (suc n) op area c o m t is e rest = rw is (ap (λ b. if b then Fill area c o m ∷ seen part (suc n) rest else seen part (suc n) rest) (sym (behind n (meets area part) t e)))

pub blit_fate : (part : Rectangle) (n : ℕ) (op : Op) (area : Rectangle) (block : _) (tx ty : _) (o : ℕ) (m : _) (t : Bool) → op ≡ Blit area block tx ty o m → t ≡ ((n == 0) && meets area part)
    → (rest : List Op) → seen part n (op ∷ rest) ≡ (if t then op ∷ seen part n rest else seen part n rest)
unfolding seen
blit_fate part zero op area block tx ty o m t is e rest = rw (is, e) refl
blit_fate part (suc n) op area block tx ty o m t is e rest = grind (arith, nat_tests, behind n (meets area part) t e)

pub push_fate : (part : Rectangle) (n : ℕ) (op : Op) (area : Rectangle) (o : ℕ) (m : _) (t s : Bool) (h : ℕ) → op ≡ Push area o m → t ≡ ((n == 0) && meets area part) → s ≡ t → h ≡ (if t then n else n + 1)
    → (rest : List Op) → seen part n (op ∷ rest) ≡ (if s then op ∷ seen part h rest else seen part h rest)
unfolding seen
push_fate part zero op area o m t s h is e f g rest = grind (arith, nat_tests)
push_fate part (suc n) op area o m t s h is e f g rest = grind (arith, nat_tests, behind n (meets area part) t e)

pub pop_fate : (part : Rectangle) (n : ℕ) (op : Op) (s : Bool) (h : ℕ) → op ≡ Pop → s ≡ (n == 0) → h ≡ (if n == 0 then n else n - 1)
    → (rest : List Op) → seen part n (op ∷ rest) ≡ (if s then op ∷ seen part h rest else seen part h rest)
unfolding seen
pop_fate part n op s h is f g rest = grind (arith, nat_tests, some_open n)

pub all_chosen : (part : Rectangle) (n : ℕ) (chosen all rest : List Op) → rest ≡ [] → (chosen ++ seen part n rest) ≡ all → chosen ≡ all
unfolding seen
all_chosen part n chosen all rest done e = sym (append-nil chosen) ∙ (ap (λ l. chosen ++ seen part n l) (sym done) ∙ e)
