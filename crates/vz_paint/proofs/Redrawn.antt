-- Columns of some rows that are drawn again, row after row.
use Rattle.std.proofs.Common.{◌≡◌, ℕ, zero, suc, ◌+◌, ◌-◌, ◌*◌, ◌≤◌, ◌<◌, Bool, true, false, ◌&&◌, List, ◌++◌, length, take, drop, get_or, refl, sym, ap, ◌∙◌, subst, append_assoc, take-append-drop, arith}
use Rattle.std.specs.Prelude.{nat_le, nat_lt}
use Rattle.std.proofs.{lemmas.Bool.ltb-true, lemmas.Bool.ltb-false, lemmas.Bool.leb-true, Math.Seq.take-append_seam, Math.Seq.drop-append_seam}
use Rattle.std.proofs.{Math.Nat.mul-le-mul_right, lemmas.Bool.Decides.nat_tests}
use Rattle.std.proofs.lemmas.List.{ext_get_or, length-take-le, length-drop, length-append}
use borrow.Rule.Slice.PartMut.{put_mid}
use Rattle.vz_pixels.specs.Colour.{Colour, transparent}
use Rattle.vz_frame.proofs.Parts.{below_part, in_part, behind_part, length_replaced}
use Rattle.vz_buffers.specs.{Bands.rows_put, Bands.rows_from, Canvas.span_put}
use Rattle.vz_buffers.proofs.Banding.{length_rows, rows_front, rows_both, put_in_place}
use Rattle.vz_paint.specs.Redraw.{IsOutside, IsRedrawn}

-- the places of a row above are in front of any part of a row
row_above : (width left wide r k i from : ℕ) → left + wide ≤ width → r < k → i < wide → (r * width + left) + i < (k * width + left) + from
row_above width left wide r k i from inside low near = grind (arith, nat_tests, mul-le-mul_right)

-- and those of a row below are behind it
row_under : (width left wide r k i to : ℕ) → left + wide ≤ width → k < r → to ≤ wide → (k * width + left) + to ≤ (r * width + left) + i
row_under width left wide r k i to inside low near = grind (arith, nat_tests, mul-le-mul_right)

-- a part of a row is in the pixels
pub part_fits : (width left wide k count to long : ℕ) → left + wide ≤ width → k < count → to ≤ wide → long ≡ count * width → (k * width + left) + to ≤ long
part_fits width left wide k count to long inside low near all = grind (arith, nat_tests, mul-le-mul_right)

-- rows up to one are changed, and no others; those above the first one change to what they are
pub record IsUpto (width left wide count first k : ℕ) (f : ℕ → ℕ → Colour → Colour) (before now : List Colour) : Type 0 where
  pub least : first ≤ k
  pub long : length now ≡ length before
  pub done : (r i : ℕ) → r < count → r < k → i < wide → get_or now ((r * width + left) + i) transparent ≡ f r i (get_or before ((r * width + left) + i) transparent)
  pub kept : (r i : ℕ) → r < count → k ≤ r → i < wide → get_or now ((r * width + left) + i) transparent ≡ get_or before ((r * width + left) + i) transparent
  pub rest : (j : ℕ) → IsOutside width left wide count j → get_or now j transparent ≡ get_or before j transparent

pub rows_begin : (width left wide count first : ℕ) (f : ℕ → ℕ → Colour → Colour) (before : List Colour) → ((r i : ℕ) → r < first → i < wide → (d : Colour) → f r i d ≡ d) → IsUpto width left wide count first first f before before
rows_begin width left wide count first f before none = grind (arith, nat_tests)

module _ (width left wide count first k from to a b : ℕ) (f : ℕ → ℕ → Colour → Colour) (before now mid : List Colour) (is : IsUpto width left wide count first k f before now) (low : k < count) (up : from ≤ to) (most : to ≤ wide) (inside : left + wide ≤ width) (all : length before ≡ count * width) (a_is : a ≡ (k * width + left) + from) (b_is : b ≡ (k * width + left) + to) (long : length mid ≡ b - a) (drawn : (i : ℕ) → from ≤ i → i < to → get_or mid (i - from) transparent ≡ f k i (get_or now ((k * width + left) + i) transparent)) (none : (i : ℕ) → i < wide → (nat_le from i && nat_lt i to) ≡ false → (d : Colour) → f k i d ≡ d) where
  end_fits : b ≤ length now
  end_fits = grind (arith, nat_tests, part_fits width left wide k count to (length before) inside low most all)

  in_front : (j : ℕ) → j < a → get_or (put_mid a (b - a) now mid) j transparent ≡ get_or now j transparent
  in_front j less = grind (arith, nat_tests, end_fits, below_part transparent a (b - a) now mid j)

  behind : (j : ℕ) → b ≤ j → get_or (put_mid a (b - a) now mid) j transparent ≡ get_or now j transparent
  behind j more = grind (arith, nat_tests, end_fits, behind_part transparent a (b - a) now mid j)

  -- a place of the row at hand
  in_row : (i : ℕ) → i < wide → get_or (put_mid a (b - a) now mid) ((k * width + left) + i) transparent ≡ f k i (get_or before ((k * width + left) + i) transparent)
  in_row i near = grind (arith, nat_tests, leb-true, end_fits, in_part, ltb-false, behind, in_front)

  outside : (j : ℕ) → IsOutside width left wide count j → get_or (put_mid a (b - a) now mid) j transparent ≡ get_or now j transparent
  outside j out = by_tests (nat_lt j a) (nat_lt j b) refl refl
    where
      by_tests : (t u : Bool) → nat_lt j a ≡ t → nat_lt j b ≡ u → get_or (put_mid a (b - a) now mid) j transparent ≡ get_or now j transparent
      by_tests true u e g = in_front j (ltb-true j a e)
      by_tests false false e g = behind j (ltb-false j b g)
      by_tests false true e g =
          let least = ltb-false j a e in
          let under = ltb-true j b g in
          absurd (out k (j - (k * width + left)) low (omega (arith, least, under, a_is, b_is, most)) (omega (arith, least, a_is)))

  -- one row more is changed
  pub rows_next : IsUpto width left wide count first (k + 1) f before (put_mid a (b - a) now mid)
  rows_next =
      let least = is.least in
      let fits = end_fits in
      record {
        least = omega (arith, least);
        long = length_replaced transparent now mid a (b - a) (omega (arith, fits, a_is, b_is, up)) long ∙ is.long;
        done = λ r i in_all less near. by_test r i in_all less near (nat_lt r k) refl;
        kept = λ r i in_all more near. behind ((r * width + left) + i) (subst (λ n. n ≤ (r * width + left) + i) (sym b_is) (row_under width left wide r k i to inside (omega (arith, more)) most)) ∙ is.kept r i in_all (omega (arith, more)) near;
        rest = λ j out. outside j out ∙ is.rest j out;
      }
    where
      by_test : (r i : ℕ) → r < count → r < k + 1 → i < wide → (t : Bool) → nat_lt r k ≡ t → get_or (put_mid a (b - a) now mid) ((r * width + left) + i) transparent ≡ f r i (get_or before ((r * width + left) + i) transparent)
      by_test r i in_all less near true e =
          let above = ltb-true r k e in
          in_front ((r * width + left) + i) (subst (λ n. (r * width + left) + i < n) (sym a_is) (row_above width left wide r k i from inside above near)) ∙ is.done r i in_all above near
      by_test r i in_all less near false e =
          let more = ltb-false r k e in
          let same : k ≡ r = omega (arith, more, less) in
          subst (λ (q : ℕ). get_or (put_mid a (b - a) now mid) ((q * width + left) + i) transparent ≡ f q i (get_or before ((q * width + left) + i) transparent)) same (in_row i near)

pub rows_end : (width left wide count first k : ℕ) (f : ℕ → ℕ → Colour → Colour) (before now : List Colour) → IsUpto width left wide count first k f before now → ((r i : ℕ) → r < count → k ≤ r → i < wide → (d : Colour) → f r i d ≡ d)
    → IsRedrawn width left wide count f before now
rows_end width left wide count first k f before now is none = grind (arith, nat_tests, ltb-false)

-- nothing was changed
pub unchanged : (width left wide count : ℕ) (f : ℕ → ℕ → Colour → Colour) (before : List Colour) → ((r i : ℕ) → r < count → i < wide → (d : Colour) → f r i d ≡ d) → IsRedrawn width left wide count f before before
unchanged width left wide count f before none = record { long = refl; each = λ r i low near. sym (none r i low near (get_or before ((r * width + left) + i) transparent)); rest = λ j out. refl }

-- pixels that are those of rows in their places, and the old ones in all others
module _ (width left wide count : ℕ) (row : ℕ → List Colour) (before now : List Colour) (same : (k : ℕ) → length (row k) ≡ wide) (inside : left + wide ≤ width) (all : length before ≡ count * width) (each : (r i : ℕ) → r < count → i < wide → get_or now ((r * width + left) + i) transparent ≡ get_or (row r) i transparent) (rest : (j : ℕ) → IsOutside width left wide count j → get_or now j transparent ≡ get_or before j transparent) where
  shorter : (k : ℕ) → k ≤ count → k * width ≤ length before
  shorter k few = grind (arith, nat_tests, mul-le-mul_right width few)

  up_to : (k : ℕ) → k ≤ count → (j : ℕ) → ((r i : ℕ) → k ≤ r → r < count → i < wide → j ≡ (r * width + left) + i → ⊥) → get_or (rows_put width left row k before) j transparent ≡ get_or now j transparent
  unfolding rows_put
  up_to zero few j out = sym (rest j (λ r i low near is. out r i (omega arith) low near is))
  up_to (suc k) few j out = by_tests (λ further. up_to k (omega (arith, few)) j further) (nat_lt j a) (nat_lt j b) refl refl
    where
      a : ℕ
      a = k * width + left

      b : ℕ
      b = (k * width + left) + wide

      so : List Colour
      so = rows_put width left row k before

      low : k < count
      low = omega (arith, few)

      long : length so ≡ length before
      long = length_rows width left wide k row before same inside (shorter k (omega (arith, few)))

      fits : b ≤ length so
      fits =
          let e = part_fits width left wide k count wide (length before) inside low (omega arith) all in
          omega (arith, e, long)

      own : length (row k) ≡ b - a
      own = let e = same k in omega (arith, e)

      put : span_put so a (row k) ≡ put_mid a (b - a) so (row k)
      put = let e = same k in sym (put_in_place so (row k) a b (omega (arith, e)))

      outside : (r i : ℕ) → (j < a) → k ≤ r → r < count → i < wide → j ≡ (r * width + left) + i → ⊥
      outside r i less at_least r_low near is = by_test (nat_lt k r) refl
        where
          by_test : (t : Bool) → nat_lt k r ≡ t → ⊥
          by_test true e = out r i (omega (arith, ltb-true k r e)) r_low near is
          by_test false e =
              let more = ltb-false k r e in
              let eq : r ≡ k = omega (arith, more, at_least) in
              let is2 : j ≡ (k * width + left) + i = subst (λ (q : ℕ). j ≡ (q * width + left) + i) eq is in
              absurd (omega (arith, less, is2))

      outside_too : (r i : ℕ) → (b ≤ j) → k ≤ r → r < count → i < wide → j ≡ (r * width + left) + i → ⊥
      outside_too r i more_than at_least r_low near is = by_test (nat_lt k r) refl
        where
          by_test : (t : Bool) → nat_lt k r ≡ t → ⊥
          by_test true e = out r i (omega (arith, ltb-true k r e)) r_low near is
          by_test false e =
              let more = ltb-false k r e in
              let eq : r ≡ k = omega (arith, more, at_least) in
              let is2 : j ≡ (k * width + left) + i = subst (λ (q : ℕ). j ≡ (q * width + left) + i) eq is in
              absurd (omega (arith, more_than, is2, near))

      by_tests : (((r i : ℕ) → k ≤ r → r < count → i < wide → j ≡ (r * width + left) + i → ⊥) → get_or so j transparent ≡ get_or now j transparent) → (t u : Bool) → nat_lt j a ≡ t → nat_lt j b ≡ u → get_or (span_put so a (row k)) j transparent ≡ get_or now j transparent
      by_tests ih true u e g =
          let less = ltb-true j a e in
          ap (λ l. get_or l j transparent) put
          ∙ (below_part transparent a (b - a) so (row k) j (omega (arith, fits)) less ∙ ih (λ r i at_least r_low near is. outside r i less at_least r_low near is))
      by_tests ih false false e g =
          let more = ltb-false j b g in
          ap (λ l. get_or l j transparent) put
          ∙ (behind_part transparent a (b - a) so (row k) j (omega (arith, fits)) own (omega (arith, more)) ∙ ih (λ r i at_least r_low near is. outside_too r i more at_least r_low near is))
      by_tests ih false true e g =
          let least = ltb-false j a e in
          let under = ltb-true j b g in
          let place : (k * width + left) + (j - a) ≡ j = omega (arith, least) in
          ap (λ l. get_or l j transparent) put
          ∙ (in_part transparent a (b - a) so (row k) j (omega (arith, fits)) own least (omega (arith, under, least))
          ∙ (sym (each k (j - a) low (omega (arith, under, least))) ∙ ap (λ n. get_or now n transparent) place))

  pub put_all : length now ≡ length before → now ≡ rows_put width left row count before
  put_all long = grind (arith, nat_tests, ext_get_or transparent now (rows_put width left row count before), length_rows width left wide count row before same inside, shorter count, up_to count)

-- a band more is put into the pixels
pub band_put : (width left wide d n count a b : ℕ) (row : ℕ → List Colour) (before px new : List Colour) → ((k : ℕ) → length (row k) ≡ wide) → left + wide ≤ width → length before ≡ count * width → d + n ≤ count → px ≡ rows_put width left row d before
    → a ≡ d * width → b ≡ (d + n) * width → new ≡ rows_put width left (rows_from d row) n (take (b - a) (drop a px)) → put_mid a (b - a) px new ≡ rows_put width left row (d + n) before
band_put width left wide d n count a b row before px new same inside all few is a_is b_is drawn =
    let parts : (d + n) * width ≡ d * width + n * width = grind arith in
    let most : (d + n) * width ≤ count * width = mul-le-mul_right width few in
    let front = take a before in
    let back = drop a before in
    let mid = take (b - a) back in
    let end = drop (b - a) back in
    let done = rows_put width left row d front in
    let long : length front ≡ a = length-take-le a before (omega (arith, a_is, parts, most, all)) in
    let done_long : length done ≡ a = length_rows width left wide d row front same inside (omega (arith, long, a_is)) ∙ long in
    let cut : front ++ back ≡ before = take-append-drop a before in
    let now : px ≡ done ++ back = is ∙ (ap (rows_put width left row d) (sym cut) ∙ rows_front width left wide d row front back same inside (omega (arith, long, a_is))) in
    let first : take a px ≡ done = ap (take a) now ∙ (ap (λ k. take k (done ++ back)) (sym done_long) ∙ take-append_seam done back) in
    let last : drop a px ≡ back = ap (drop a) now ∙ (ap (λ k. drop k (done ++ back)) (sym done_long) ∙ drop-append_seam done back) in
    let made = rows_put width left (rows_from d row) n mid in
    let new_is : new ≡ made = drawn ∙ ap (λ l. rows_put width left (rows_from d row) n (take (b - a) l)) last in
    let whole : front ++ (mid ++ end) ≡ before = ap (λ l. front ++ l) (take-append-drop (b - a) back) ∙ cut in
    let back_long = length-drop a before in
    let mid_long : length mid ≡ b - a = length-take-le (b - a) back (omega (arith, back_long, b_is, most, all)) in
    let both_long = length-append front mid in
    ap (λ l. l ++ (new ++ drop (b - a) (drop a px))) first
    ∙ (ap (λ l. done ++ (l ++ drop (b - a) (drop a px))) new_is
    ∙ (ap (λ l. done ++ (made ++ drop (b - a) l)) last
    ∙ (sym (append_assoc done made end)
    ∙ (ap (λ l. l ++ end) (sym (rows_both width left wide d n row front mid same inside (long ∙ a_is)))
    ∙ (sym (rows_front width left wide (d + n) row (front ++ mid) end same inside (omega (arith, both_long, mid_long, long, a_is, b_is, parts)))
    ∙ ap (rows_put width left row (d + n)) (append_assoc front mid end ∙ whole))))))
