-- Lists in which nothing stands twice, as they grow, and the marking of what is reached.
use Rattle.std.proofs.Common.{◌≡◌, ℕ, zero, suc, ◌+◌, ◌≤◌, ◌<◌, Bool, true, false, not, ◌||◌, inl, inr, List, [], ◌∷◌, ◌++◌, length, get_or, take, filter, refl, ap, sym, ◌∙◌, arith, cond}
use Rattle.std.specs.List.{list_any}
use Rattle.std.proofs.lemmas.List.{take_more, length_push, take_all}
use Rattle.std.proofs.lemmas.List.Folds.{list_any-append}
use Rattle.std.proofs.lemmas.List.Sums.{count_by-le-length, length-filter}
use Rattle.vz_frame.specs.Frame.{has_repeat}
use Rattle.vz_rules.specs.Closure.{adding, HasAll, IsClosed, IsLeastClosed}
use Rattle.std.proofs.lemmas.Bool.{or_parts}
use Rattle.vz_rules.proofs.Facts.{or_false, or_pairs}
use Rattle.vz_rules.proofs.Reached.{adding_has as adds_has}
pub use Rattle.std.proofs.lemmas.Bool.{or_cases as from_or, or_left as left_or, or_right as right_or}

module _ {A : Type 0} (same : A → A → Bool) (from_same : (a b : A) → same a b ≡ true → a ≡ b) (self_same : (a : A) → same a a ≡ true) where
  abbrev has : List A → A → Bool
  has xs x = list_any (same x) xs

  unlike : (a b : A) → same a b ≡ false → same b a ≡ false
  unlike a b e =
      elim (same b a) as (λ (t : Bool). same b a ≡ t → t ≡ false) [
        | true ↦ λ f. sym (ap (same a) (from_same b a f) ∙ self_same a) ∙ e
        | false ↦ λ f. refl
      ] refl

  pub same_flip : (a b : A) → same a b ≡ same b a
  same_flip a b =
      elim (same a b) as (λ (t : Bool). same a b ≡ t → t ≡ same b a) [
        | true ↦ λ e. sym (ap (λ (z : A). same z a) (sym (from_same a b e)) ∙ self_same a)
        | false ↦ λ e. sym (unlike a b e)
      ] refl

  -- the other way round
  pub has_flip : (xs : List A) (x : A) → list_any (λ y. same y x) xs ≡ has xs x
  has_flip [] x = refl
  has_flip (y ∷ xs) x = rw (same_flip y x, has_flip xs x) refl

  has_push : (xs : List A) (y x : A) → has (xs ++ y ∷ []) x ≡ (has xs x || same x y)
  has_push xs y x = list_any-append (same x) xs (y ∷ []) ∙ ap (λ t. has xs x || t) (or_false (same x y))

  pub adding_has : (more xs : List A) (x : A) → has (adding same xs more) x ≡ (has xs x || has more x)
  adding_has more xs x = adds_has A same from_same self_same (λ y. []) [] (λ y z h. h) more xs x

  pub longer : (more xs : List A) → length xs ≤ length (adding same xs more)
  longer [] xs = omega arith
  longer (m ∷ more) xs =
      elim (has xs m) as (λ (t : Bool). length xs ≤ length (adding same (cond t xs (xs ++ m ∷ [])) more)) [
        | true ↦ longer more xs
        | false ↦ let rest = longer more (xs ++ m ∷ []) in let one = length_push xs m in omega (arith, rest, one)
      ]

  -- there is room for the first of those that come
  pub next_room : (xs more : List A) (x : A) (spare : ℕ) → length (adding same xs (x ∷ more)) ≤ length xs + spare → has xs x ≡ false → 0 < spare
  next_room xs more x spare few none =
      let is : adding same xs (x ∷ more) ≡ adding same (xs ++ x ∷ []) more = ap (λ t. adding same (cond t xs (xs ++ x ∷ [])) more) none in
      let one = length_push xs x in
      let rest = longer more (xs ++ x ∷ []) in
      omega (arith, one, rest, ap length is, few)

  -- what is there stays in front
  front_stays : (more xs : List A) (k : ℕ) → k ≤ length xs → take k (adding same xs more) ≡ take k xs
  front_stays [] xs k h = refl
  front_stays (m ∷ more) xs k h =
      elim (has xs m) as (λ (t : Bool). take k (adding same (cond t xs (xs ++ m ∷ [])) more) ≡ take k xs) [
        | true ↦ front_stays more xs k h
        | false ↦ front_stays more (xs ++ m ∷ []) k (let one = length_push xs m in omega (arith, h, one)) ∙ take_in xs (m ∷ []) k h
      ]
    where
      take_in : (xs ys : List A) (k : ℕ) → k ≤ length xs → take k (xs ++ ys) ≡ take k xs
      take_in xs ys zero h = refl
      take_in [] ys (suc k) h = absurd (omega (arith, h))
      take_in (x ∷ xs) ys (suc k) h = ap (λ l. x ∷ l) (take_in xs ys k (omega (arith, h)))

  repeat_push : (xs : List A) (y : A) → has_repeat same (xs ++ y ∷ []) ≡ (has_repeat same xs || has xs y)
  repeat_push [] y = refl
  repeat_push (x ∷ xs) y = rw (has_push xs y x, repeat_push xs y, same_flip x y) (or_pairs (has xs x) (same y x) (has_repeat same xs) (has xs y))

  -- nothing stands twice
  pub stays_once : (more xs : List A) → has_repeat same xs ≡ false → has_repeat same (adding same xs more) ≡ false
  stays_once [] xs once = once
  stays_once (m ∷ more) xs once =
      elim (has xs m) as (λ (t : Bool). has xs m ≡ t → has_repeat same (adding same (cond t xs (xs ++ m ∷ [])) more) ≡ false) [
        | true ↦ λ e. stays_once more xs once
        | false ↦ λ e. stays_once more (xs ++ m ∷ []) (rw (repeat_push xs m, once) e)
      ] refl

  -- those that pass a test
  in_filter : (p : A → Bool) (xs : List A) (z : A) → p z ≡ true → has xs z ≡ true → has (filter p xs) z ≡ true
  in_filter p [] z t h = h
  in_filter p (x ∷ xs) z t h =
      elim (p x) as (λ (s : Bool). p x ≡ s → has (cond s (x ∷ filter p xs) (filter p xs)) z ≡ true) [
        | true ↦ λ e. elim (from_or (same z x) (has xs z) h) [
          | inl q ↦ left_or (same z x) _ q
          | inr q ↦ right_or (same z x) _ (in_filter p xs z t q)
        ]
        | false ↦ λ e. elim (from_or (same z x) (has xs z) h) [
          | inl q ↦ let no_way : false ≡ true = sym e ∙ ap p (sym (from_same z x q)) ∙ t in absurd (cc)
          | inr q ↦ in_filter p xs z t q
        ]
      ] refl

  fewer : (x : A) (xs : List A) → has xs x ≡ true → length (filter (λ u. not (same x u)) xs) + 1 ≤ length xs
  fewer x [] h = absurd (cc)
  fewer x (u ∷ xs) h =
      elim (same x u) as (λ (s : Bool). (s || has xs x) ≡ true → length (cond (not s) (u ∷ filter (λ u. not (same x u)) xs) (filter (λ u. not (same x u)) xs)) + 1 ≤ length (u ∷ xs)) [
        | true ↦ λ e. omega (arith, length-filter (λ u. not (same x u)) xs, count_by-le-length (λ u. not (same x u)) xs)
        | false ↦ λ e. let rest = fewer x xs e in omega (arith, rest)
      ] h

  -- a list in which nothing stands twice is no longer than one that has all of it
  pub fits : (xs all : List A) → has_repeat same xs ≡ false → ((x : A) → has xs x ≡ true → has all x ≡ true) → length xs ≤ length all
  fits [] all once h = omega arith
  fits (x ∷ xs) all once h =
      let parts = or_parts (has xs x) (has_repeat same xs) once in
      let less = fewer x all (h x (left_or (same x x) (has xs x) (self_same x))) in
      let other : (z : A) → has xs z ≡ true → same x z ≡ false =
      λ z k. elim (same x z) as (λ (t : Bool). same x z ≡ t → t ≡ false) [
        | true ↦ λ e. sym k ∙ ap (has xs) (sym (from_same x z e)) ∙ parts.0
        | false ↦ λ e. refl
      ] refl in
      let rest = fits xs (filter (λ u. not (same x u)) all) parts.1 (λ z k. in_filter (λ u. not (same x u)) all z (ap not (other z k)) (h z (right_or (same z x) (has xs z) k))) in
      omega (arith, less, rest)

  has_at : (xs : List A) (k : ℕ) (d : A) → k < length xs → has xs (get_or xs k d) ≡ true
  has_at [] k d h = absurd (omega (arith, h))
  has_at (x ∷ xs) zero d h = left_or (same x x) (has xs x) (self_same x)
  has_at (x ∷ xs) (suc k) d h = right_or (same (get_or xs k d) x) (has xs (get_or xs k d)) (has_at xs k d (omega (arith, h)))

  -- what stands when those before a place have been followed
  pub record Marked (next : A → List A) (roots all xs : List A) (at total : ℕ) : Type 0 where
    pub once : has_repeat same xs ≡ false
    pub inside : (x : A) → has xs x ≡ true → has all x ≡ true
    pub begun : (x : A) → has roots x ≡ true → has xs x ≡ true
    pub least : (other : List A) → HasAll same other roots → IsClosed same next other → (x : A) → has xs x ≡ true → has other x ≡ true
    pub followed : (y x : A) → has (take at xs) y ≡ true → has (next y) x ≡ true → has xs x ≡ true
    pub room : length all ≤ total

  -- at first there are the roots
  pub marked_first : (next : A → List A) (roots all : List A) (total : ℕ) → ((x : A) → has roots x ≡ true → has all x ≡ true) → length all ≤ total
      → Marked next roots all (adding same [] roots) 0 total
  marked_first next roots all total inside room = record {
    once = stays_once roots [] refl;
    inside = λ x h. inside x (sym (adding_has roots [] x) ∙ h);
    begun = λ x h. adding_has roots [] x ∙ h;
    least = λ other sub closed x h. sub x (sym (adding_has roots [] x) ∙ h);
    followed = λ y x h k. absurd (cc);
    room = room;
  }

  -- one is followed
  pub marked_next : (next : A → List A) (roots all xs : List A) (at total more : ℕ) (y d : A) → Marked next roots all xs at total → at < length xs → y ≡ get_or xs at d
      → ((x : A) → has (next y) x ≡ true → has all x ≡ true) → total ≤ more → Marked next roots all (adding same xs (next y)) (at + 1) more
  marked_next next roots all xs at total more y d m before is shown longer =
      let there : has xs y ≡ true = ap (has xs) is ∙ has_at xs at d before in
      let keeps : (x : A) → has xs x ≡ true → has (adding same xs (next y)) x ≡ true = λ x h. adding_has (next y) xs x ∙ left_or (has xs x) (has (next y) x) h in
      let front : take (at + 1) (adding same xs (next y)) ≡ take at xs ++ y ∷ [] =
      front_stays (next y) xs (at + 1) (omega (arith, before)) ∙ take_more xs at d before ∙ ap (λ z. take at xs ++ z ∷ []) (sym is) in
      record {
        once = stays_once (next y) xs m.once;
        inside = λ x h. elim (from_or (has xs x) (has (next y) x) (sym (adding_has (next y) xs x) ∙ h)) [ inl e ↦ m.inside x e | inr e ↦ shown x e ];
        begun = λ x h. keeps x (m.begun x h);
        least = λ other sub closed x h. elim (from_or (has xs x) (has (next y) x) (sym (adding_has (next y) xs x) ∙ h)) [
          | inl e ↦ m.least other sub closed x e
          | inr e ↦ closed y x (m.least other sub closed y there) e
        ];
        followed = λ z x h k. elim (from_or (has (take at xs) z) (same z y) (sym (has_push (take at xs) y z) ∙ sym (ap (λ l. has l z) front) ∙ h)) [
          | inl e ↦ keeps x (m.followed z x e k)
          | inr e ↦ adding_has (next y) xs x ∙ right_or (has xs x) (has (next y) x) (sym (ap (λ (w : A). has (next w) x) (from_same z y e)) ∙ k)
        ];
        room = omega (arith, m.room, longer);
      }

  -- there is room for what comes next
  pub marked_room : (next : A → List A) (roots all xs : List A) (at total : ℕ) (y : A) → Marked next roots all xs at total
      → ((x : A) → has (next y) x ≡ true → has all x ≡ true) → length (adding same xs (next y)) ≤ total
  marked_room next roots all xs at total y m shown =
      let few = fits (adding same xs (next y)) all (stays_once (next y) xs m.once)
      (λ x h. elim (from_or (has xs x) (has (next y) x) (sym (adding_has (next y) xs x) ∙ h)) [ inl e ↦ m.inside x e | inr e ↦ shown x e ]) in
      omega (arith, few, m.room)

  -- there is room for the roots
  pub first_room : (roots all : List A) (total : ℕ) → ((x : A) → has roots x ≡ true → has all x ≡ true) → length all ≤ total → length (adding same [] roots) ≤ total
  first_room roots all total inside room =
      let few = fits (adding same [] roots) all (stays_once roots [] refl) (λ x h. inside x (sym (adding_has roots [] x) ∙ h)) in omega (arith, few, room)

  -- when all have been followed, it is the least closed list
  pub marked_all : (next : A → List A) (roots all xs : List A) (at total : ℕ) → Marked next roots all xs at total → length xs ≤ at → IsLeastClosed same next roots xs
  marked_all next roots all xs at total m over = record {
    has_roots = m.begun;
    closed = λ y x h k. m.followed y x (ap (λ l. has l y) (take_all at xs over) ∙ h) k;
    least = m.least;
  }

  -- no more are marked than there are
  pub marked_within : (next : A → List A) (roots all xs : List A) (at total : ℕ) → Marked next roots all xs at total → length xs ≤ length all
  marked_within next roots all xs at total m = fits xs all m.once m.inside
