-- Rows of which a part is replaced, and rows that are painted.
use Rattle.std.proofs.Common.{◌≡◌, ℕ, ◌+◌, ◌-◌, ◌≤◌, ◌<◌, Bool, true, false, ◌&&◌, if◌then◌else◌, List, length, take, drop, get_or, slice_set, refl, sym, ap, ◌∙◌, arith, subst}
use Rattle.std.specs.Prelude.{nat_le, nat_lt, nat_eq, replicate}
use Rattle.std.proofs.lemmas.Int.{ints}
use Rattle.std.proofs.lemmas.Bool.{and_parts, ltb-true, ltb-false, leb-true, eqb-true, eqb-false}
use Rattle.std.proofs.lemmas.List.{get_or-take, length-take-le, length-replicate, length-set, get_or-replicate, get_or-set_same, get_or-set_other, get_or_default, take_at}
use borrow.Rule.Slice.PartMut.{put_mid, post_of}
use Rattle.vz_geom.specs.declared.Point.{Point}
use Rattle.vz_geom.proofs.Points.{same_point}
use Rattle.vz_pixels.specs.Colour.{Colour, transparent}
use Rattle.vz_frame.proofs.Parts.{below_part, in_part, behind_part, replaced, part_of, length_part, length_replaced}
use Rattle.vz_plain.specs.Rows.{right_of, IsPainted}

or_less : {P : Type 0} (a b : ℕ) → (a < b → P) → (b ≤ a → P) → P
or_less {P} a b less more = by_test (nat_lt a b) refl
  where
    by_test : (t : Bool) → nat_lt a b ≡ t → P
    by_test true e = less (ltb-true a b e)
    by_test false e = more (ltb-false a b e)

-- a row is changed in two parts, one behind the other: the first n places and those behind them
pub both_laid : (f : ℕ → Colour → Colour) (n end : ℕ) (old mid last : List Colour) → n ≡ end → end ≤ length old
    → length mid ≡ length (take n old) → ((i : ℕ) → i < length (take n old) → get_or mid i transparent ≡ f i (get_or (take n old) i transparent))
    → length last ≡ length (take (length old - end) (drop end (put_mid 0 n old mid)))
    → ((i : ℕ) → i < length (take (length old - end) (drop end (put_mid 0 n old mid)))
    → get_or last i transparent ≡ f (end + i) (get_or (take (length old - end) (drop end (put_mid 0 n old mid))) i transparent))
    → (i : ℕ) → i < length old → get_or (put_mid end (length old - end) (put_mid 0 n old mid) last) i transparent ≡ f i (get_or old i transparent)
both_laid f n end old mid last all fits mid_long mid_each last_long last_each i low = or_less i end front back
  where
    part : length (take n old) ≡ n
    part = length-take-le n old (omega (arith, all, fits))

    mid_is : length mid ≡ n
    mid_is = mid_long ∙ part

    whole : length (put_mid 0 n old mid) ≡ length old
    whole = length_replaced transparent old mid 0 n (omega (arith, all, fits)) mid_is

    last_is : length last ≡ length old - end
    last_is = let w = whole in last_long ∙ length_part transparent (put_mid 0 n old mid) end (length old - end) (omega (arith, w, fits))

    front : i < end → get_or (put_mid end (length old - end) (put_mid 0 n old mid) last) i transparent ≡ f i (get_or old i transparent)
    front less =
        let w = whole in
        let p = part in
        let here : i - 0 ≡ i = omega arith in
        below_part transparent end (length old - end) (put_mid 0 n old mid) last i (omega (arith, w, fits)) less
        ∙ (in_part transparent 0 n old mid i (omega arith) mid_is (omega arith) (omega (arith, all, less))
        ∙ (ap (λ k. get_or mid k transparent) here
        ∙ (mid_each i (omega (arith, all, p, less)) ∙ ap (f i) (get_or-take n old i transparent (omega (arith, all, less))))))

    back : end ≤ i → get_or (put_mid end (length old - end) (put_mid 0 n old mid) last) i transparent ≡ f i (get_or old i transparent)
    back least =
        let w = whole in
        let m = last_is in
        let l = last_long in
        let same : end + (i - end) ≡ i = omega (arith, least) in
        in_part transparent end (length old - end) (put_mid 0 n old mid) last i (omega (arith, w, fits)) m least (omega (arith, low, least))
        ∙ (last_each (i - end) (omega (arith, low, least, m, l))
        ∙ ((λ j. f (same j) (part_of transparent (put_mid 0 n old mid) end (length old - end) i least (omega (arith, low, least)) j))
        ∙ ap (f i) (behind_part transparent 0 n old mid i (omega arith) mid_is (omega (arith, all, least)))))

-- Rows

-- the places right of a place
pub further : (p : Point) (a i : ℕ) → a ≤ i → right_of (right_of p a) (i - a) ≡ right_of p i
further p a i least =
    let sum : a + (i - a) ≡ i = omega (arith, least) in
    same_point (omega (arith, ints, sum)) refl

-- the same row for another change that does the same at each place of another row of points
pub repainted : (f g : Point → Colour → Colour) (p q : Point) (old new : List Colour) → ((i : ℕ) (d : Colour) → f (right_of p i) d ≡ g (right_of q i) d)
    → IsPainted f p old new → IsPainted g q old new
repainted f g p q old new same is = record { long = is.long; each = λ i low. is.each i low ∙ same i (get_or old i transparent) }

-- what stays
pub unpainted : (g : Point → Colour → Colour) (p : Point) (old : List Colour) → ((q : Point) (d : Colour) → g q d ≡ d) → IsPainted g p old old
unpainted g p old same = record { long = refl; each = λ i low. sym (same (right_of p i) (get_or old i transparent)) }

-- one change after another
pub then_painted : (f g h : Point → Colour → Colour) (p : Point) (old now new : List Colour) → ((i : ℕ) (d : Colour) → g (right_of p i) (f (right_of p i) d) ≡ h (right_of p i) d)
    → IsPainted f p old now → IsPainted g p now new → IsPainted h p old new
then_painted f g h p old now new same a b =
    record {
      long = b.long ∙ a.long;
      each = λ i low.
          let first = a.long in
          b.each i (omega (arith, first, low)) ∙ (ap (g (right_of p i)) (a.each i low) ∙ same i (get_or old i transparent));
    }

-- a part of a row is painted: the places at which a test of their points holds
pub part_painted : (f g : Point → Colour → Colour) (test : Point → Bool) (p : Point) (from to : ℕ) (old mid : List Colour) → from ≤ to → to ≤ length old
    → ((i : ℕ) → i < length old → test (right_of p i) ≡ (nat_le from i && nat_lt i to))
    → ((q : Point) (d : Colour) → test q ≡ true → f q d ≡ g q d) → ((q : Point) (d : Colour) → test q ≡ false → d ≡ g q d)
    → IsPainted f (right_of p from) (take (to - from) (drop from old)) mid → IsPainted g p old (put_mid from (to - from) old mid)
part_painted f g test p from to old mid up fits exact covered bare is =
    record {
      long = length_replaced transparent old mid from (to - from) (omega (arith, up, fits)) all;
      each = λ i low.
          replaced transparent old mid from to (test (right_of p i)) (f (right_of p i) (get_or old i transparent)) i up fits all (exact i low) (inner i)
          ∙ by_test i (test (right_of p i)) refl;
    }
  where
    count : length (take (to - from) (drop from old)) ≡ to - from
    count = length_part transparent old from (to - from) (omega (arith, up, fits))

    all : length mid ≡ to - from
    all = is.long ∙ count

    inner : (i : ℕ) → from ≤ i → i < to → get_or mid (i - from) transparent ≡ f (right_of p i) (get_or old i transparent)
    inner i least most =
        let n = count in
        is.each (i - from) (omega (arith, least, most, n))
        ∙ (ap (λ q. f q (get_or (take (to - from) (drop from old)) (i - from) transparent)) (further p from i least)
        ∙ ap (f (right_of p i)) (part_of transparent old from (to - from) i least (omega (arith, least, most))))

    by_test : (i : ℕ) (t : Bool) → test (right_of p i) ≡ t
        → (if test (right_of p i) then f (right_of p i) (get_or old i transparent) else get_or old i transparent) ≡ g (right_of p i) (get_or old i transparent)
    by_test i true e = ap (λ b. if b then f (right_of p i) (get_or old i transparent) else get_or old i transparent) e ∙ covered (right_of p i) (get_or old i transparent) e
    by_test i false e = ap (λ b. if b then f (right_of p i) (get_or old i transparent) else get_or old i transparent) e ∙ bare (right_of p i) (get_or old i transparent) e

-- no place of a row passes the test
pub none_painted : (g : Point → Colour → Colour) (test : Point → Bool) (p : Point) (from to : ℕ) (old : List Colour) → to ≤ from
    → ((i : ℕ) → i < length old → test (right_of p i) ≡ (nat_le from i && nat_lt i to))
    → ((q : Point) (d : Colour) → test q ≡ false → d ≡ g q d) → IsPainted g p old old
none_painted g test p from to old down exact bare =
    record { long = refl; each = λ i low. bare (right_of p i) (get_or old i transparent) (exact i low ∙ apart i (nat_le from i && nat_lt i to) refl) }
  where
    apart : (i : ℕ) (t : Bool) → (nat_le from i && nat_lt i to) ≡ t → (nat_le from i && nat_lt i to) ≡ false
    apart i false e = e
    apart i true e =
        let parts = and_parts (nat_le from i) (nat_lt i to) e in
        let least = leb-true from i parts.0 in
        let most = ltb-true i to parts.1 in
        absurd (omega (arith, down, least, most))

-- One place after another

-- the places before one are changed, the others not yet
pub record IsLaidUpto (f : ℕ → Colour → Colour) (k : ℕ) (old now : List Colour) : Type 0 where
  pub long : length now ≡ length old
  pub done : (i : ℕ) → i < k → i < length old → get_or now i transparent ≡ f i (get_or old i transparent)
  pub left : (i : ℕ) → k ≤ i → get_or now i transparent ≡ get_or old i transparent

pub none_laid : (f : ℕ → Colour → Colour) (old : List Colour) → IsLaidUpto f 0 old old
none_laid f old = record { long = refl; done = λ i less low. absurd (omega (arith, less)); left = λ i least. refl }

pub one_laid : (f : ℕ → Colour → Colour) (k m : ℕ) (old now : List Colour) (under v : Colour) → m ≡ k + 1 → k < length old → under ≡ get_or now k under → v ≡ f k under
    → IsLaidUpto f k old now → IsLaidUpto f m old (slice_set now k v)
one_laid f k m old now under v next low read is upto =
    record {
      long = length-set now k v ∙ upto.long;
      done = λ i less few. by_place i less few (nat_eq i k) refl;
      left = λ i least. get_or-set_other now k i v transparent (apart i (omega (arith, next, least))) ∙ upto.left i (omega (arith, next, least));
    }
  where
    inside : k < length now
    inside = let n = upto.long in omega (arith, n, low)

    apart : (i : ℕ) → k < i → i ≡ k → ⊥
    apart i more e = omega (arith, more, e)

    here : get_or (slice_set now k v) k transparent ≡ f k (get_or old k transparent)
    here =
        get_or-set_same now k v transparent inside
        ∙ (is ∙ ap (f k) (read ∙ (get_or_default now k under transparent inside ∙ upto.left k (omega arith))))

    by_place : (i : ℕ) → i < m → i < length old → (t : Bool) → nat_eq i k ≡ t → get_or (slice_set now k v) i transparent ≡ f i (get_or old i transparent)
    by_place i less few true e = subst (λ n. get_or (slice_set now k v) n transparent ≡ f n (get_or old n transparent)) (sym (eqb-true i k e)) here
    by_place i less few false e =
        let other = eqb-false i k e in
        let before : i < k = or_less i k (λ low. low) (λ more. absurd (other (omega (arith, next, less, more)))) in
        get_or-set_other now k i v transparent (λ same. omega (arith, before, same)) ∙ upto.done i before few

pub all_laid : (f : ℕ → Colour → Colour) (k : ℕ) (old now : List Colour) → length old ≤ k → IsLaidUpto f k old now
    → (i : ℕ) → i < length old → get_or now i transparent ≡ f i (get_or old i transparent)
all_laid f k old now end upto i low = upto.done i (omega (arith, end, low)) low

-- a piece of a row that is new: so many places of one colour
pub clear_long : {A : Type 0} (c : A) (most n : ℕ) → n ≤ most → length (take n (replicate most c)) ≡ n
clear_long c most n few = let long = length-replicate most c in length-take-le n (replicate most c) (omega (arith, long, few))

pub clear_each : {A : Type 0} (c d : A) (most n : ℕ) → n ≤ most → (i : ℕ) → i < n → get_or (take n (replicate most c)) i d ≡ c
clear_each c d most n few i low = get_or-take n (replicate most c) i d low ∙ get_or-replicate most i c d (omega (arith, few, low))

-- the first places of a list whose first places are replaced
pub first_part : {A : Type 0} (n : ℕ) (xs ys : List A) → length ys ≡ n → take n (put_mid 0 n xs ys) ≡ ys
first_part n xs ys long = take_at ys (post_of 0 n xs) n long
