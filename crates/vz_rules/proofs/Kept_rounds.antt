-- A round is the activation of what is ready, one submission after another.
use Rattle.std.proofs.Common.{◌≡◌, ℕ, suc, ◌+◌, ◌<◌, Bool, true, false, ◌&&◌, ◌||◌, ◌==◌, inl, inr, Option, Some, None, List, [], ◌∷◌, ◌++◌, map, filter, find, refl, ap, sym, ◌∙◌, arith, cond, subst, slice_get, Contains, append_assoc, append-nil}
use Rattle.std.specs.Prelude.{nat_lt}
use Rattle.std.specs.List.{list_any}
use Rattle.std.proofs.lemmas.Bool.{and_from, both_ways, false_from_ne_true, eq-eqb}
use Rattle.std.proofs.lemmas.List.Folds.{list_any-append}
use Rattle.std.proofs.lemmas.List.{map-append}
use Rattle.vz_ids.specs.declared.SurfaceId.{SurfaceId}
use Rattle.vz_ids.specs.declared.Sub.{Sub}
use Rattle.vz_ids.specs.Ids.{same_surface, same_sub}
use Rattle.vz_rules.specs.declared.entry.State.TheVariants.{Active, Past}
use Rattle.vz_rules.specs.World.{World, Surface, Submission, is_waiting, is_active, is_on, has_sub, sub_of}
use Rattle.vz_rules.specs.Settle.{is_ready, ready, after_round, number_of, is_before, marked_by, round}
use Rattle.vz_rules.specs.Singly.{as_one_rises, rising, all_rising}
use Rattle.vz_rules.specs.Kept.{KeepsAlways}
use Rattle.vz_rules.proofs.Reached.{from_same, self_same}
use Rattle.vz_rules.proofs.Members.{contains_none, contains_push, contains_here, contains_there, contains_at, at_same, any_at, any_from, filter_at, filter_has, contains_map, map_contains, map_fixed, same_tests, when_same}
use Rattle.vz_rules.proofs.Counts.{one_place}
use Rattle.vz_rules.proofs.Kept_states.{on_and}
use Rattle.vz_rules.proofs.Kept_accepted.{subs_differ}
use Rattle.vz_rules.proofs.Kept_follows.{ready_waits}
use Rattle.vz_rules.proofs.Facts.{same_either, or_false, plus_none, none_plus}
use Rattle.vz_rules.proofs.Marking.{same_flip}
use Rattle.vz_rules.proofs.Settled.{acts_not_waits}
pub use Rattle.vz_rules.proofs.Facts.{and_false}

-- a submission after these became active
abbrev after_these : List Submission → Submission → Submission
after_these rs = after_round (λ t. has_sub (map sub_of rs) (sub_of t)) rs

pub self_sub : (s : Sub) → same_sub s s ≡ true
self_sub s = and_from (s.client == s.client) (s.ordinal == s.ordinal) (eq-eqb s.client s.client refl) (eq-eqb s.ordinal s.ordinal refl)

same_surfaces : (a b : SurfaceId) → same_surface a b ≡ same_surface b a
same_surfaces a b = same_flip same_surface from_same self_same a b

-- one submission, as one more becomes active: with in for being among those before, is for being the one, acts for being
-- active, past for having one of those before on its surface, and on for being on the one's surface
one_more : (among one acts past on : Bool) (t : Submission) → is_active t ≡ acts → (among ≡ true → on ≡ false) → (one ≡ true → among ≡ false)
    → (one ≡ true → acts ≡ false)
    → cond one (record (cond among (record t { state = Active; was_active = true }) (cond (acts && past) (record t { state = Past }) t)) { state = Active; was_active = true })
    (cond (is_active (cond among (record t { state = Active; was_active = true }) (cond (acts && past) (record t { state = Past }) t)) && on)
    (record (cond among (record t { state = Active; was_active = true }) (cond (acts && past) (record t { state = Past }) t)) { state = Past })
    (cond among (record t { state = Active; was_active = true }) (cond (acts && past) (record t { state = Past }) t)))
    ≡ cond (among || one) (record t { state = Active; was_active = true }) (cond (acts && (past || on)) (record t { state = Past }) t)
one_more true true acts past on t e f g h = let k : true ≡ false = g refl in absurd (cc)
one_more true false acts past true t e f g h = let k : true ≡ false = f refl in absurd (cc)
one_more true false acts past false t e f g h = refl
one_more false true true past on t e f g h = let k : true ≡ false = h refl in absurd (cc)
one_more false true false past on t e f g h = refl
one_more false false true true on t e f g h = refl
one_more false false true false true t e f g h = ap (λ (a : Bool). cond (a && true) (record t { state = Past }) t) e
one_more false false true false false t e f g h = ap (λ (a : Bool). cond (a && false) (record t { state = Past }) t) e
one_more false false false past on t e f g h = ap (λ (a : Bool). cond (a && on) (record t { state = Past }) t) e

not_both : (t : Submission) → is_waiting t ≡ true → is_active t ≡ false
not_both t h = false_from_ne_true (is_active t) (λ a. both_ways (is_waiting t) (acts_not_waits t.state a) h)

module _ (w : World) (h : KeepsAlways w) where
  -- of one name there is one submission
  one_named : (s t : Submission) → Contains w.subs s → Contains w.subs t → same_sub (sub_of s) (sub_of t) ≡ true → s ≡ t
  one_named s t p q e =
      let n = contains_at w.subs s p in
      let m = contains_at w.subs t q in
      at_same w.subs n.0 m.0 s t n.1 m.1 (subs_differ w.surfaces w.subs h.numbers n.0 m.0 s t n.1 m.1 e)

  -- and of one surface one that waits
  one_waiting : (s t : Submission) → Contains w.subs s → Contains w.subs t → is_waiting s ≡ true → is_waiting t ≡ true → is_on s.submitted.id t ≡ true → s ≡ t
  one_waiting s t p q a b on =
      let n = contains_at w.subs s p in
      let m = contains_at w.subs t q in
      at_same w.subs n.0 m.0 s t n.1 m.1 (one_place (on_and is_waiting s.submitted.id) w.subs n.0 m.0 s t (h.states.one_waits s.submitted.id) n.1 m.1
      (and_from (is_on s.submitted.id s) (is_waiting s) (self_same s.submitted.id) a) (and_from (is_on s.submitted.id t) (is_waiting t) on b))

  -- these wait
  abbrev AllWait : List Submission → Type 0
  AllWait rs = (r : Submission) → Contains rs r → Contains w.subs r × (is_waiting r ≡ true)

  among_at : (rs : List Submission) (t : Submission) → AllWait rs → Contains w.subs t → has_sub (map sub_of rs) (sub_of t) ≡ true → Contains rs t
  among_at rs t all q e =
      let m = any_at (same_sub (sub_of t)) (map sub_of rs) e in
      let r = contains_map sub_of rs m.0 m.1 in
      subst (Contains rs) (sym (one_named t r.0 q (all r.0 r.1).0 (ap (same_sub (sub_of t)) r.2 ∙ m.2))) r.1

  -- one submission of the world, as one more becomes active
  rises_one : (rs : List Submission) (s t : Submission) → AllWait rs → Contains w.subs s → is_waiting s ≡ true → has_sub (map sub_of rs) (sub_of s) ≡ false
      → Contains w.subs t
      → as_one_rises s (after_these rs t) ≡ after_these (rs ++ s ∷ []) t
  rises_one rs s t all p waits fresh q =
      let among = has_sub (map sub_of rs) (sub_of t) in
      let past = list_any (is_on t.submitted.id) rs in
      let one = same_sub (sub_of t) (sub_of s) in
      let on = is_on s.submitted.id t in
      let submitted = same_either (λ (x : Submission). x.submitted) among (is_active t && past) _ _ t refl refl in
      ap (λ i. cond (same_sub i.sub (sub_of s)) (record (after_these rs t) { state = Active; was_active = true })
      (cond (is_active (after_these rs t) && same_surface i.id s.submitted.id) (record (after_these rs t) { state = Past }) (after_these rs t))) submitted
      ∙ (one_more among one (is_active t) past on t refl
      (λ e. false_from_ne_true on (λ o.
      let r = among_at rs t all q e in
      let same = one_waiting s t p q waits (all t r).1 o in
      both_ways (has_sub (map sub_of rs) (sub_of s)) fresh (ap (λ (x : Submission). has_sub (map sub_of rs) (sub_of x)) same ∙ e)))
      (λ e. ap (λ (x : Submission). has_sub (map sub_of rs) (sub_of x)) (one_named t s q p e) ∙ fresh)
      (λ e. ap is_active (one_named t s q p e) ∙ not_both s waits)
      ∙ (ap (λ (b : Bool). cond b (record t { state = Active; was_active = true }) (cond (is_active t && (past || on)) (record t { state = Past }) t))
      (sym (ap (λ l. has_sub l (sub_of t)) (map-append sub_of rs (s ∷ [])) ∙ (list_any-append (same_sub (sub_of t)) (map sub_of rs) (sub_of s ∷ []) ∙ ap (λ b. among || b) (or_false one))))
      ∙ ap (λ (b : Bool). cond (has_sub (map sub_of (rs ++ s ∷ [])) (sub_of t)) (record t { state = Active; was_active = true }) (cond (is_active t && b) (record t { state = Past }) t))
      (sym (list_any-append (is_on t.submitted.id) rs (s ∷ []) ∙ ap (λ b. past || b) (or_false (is_on t.submitted.id s) ∙ same_surfaces s.submitted.id t.submitted.id)))))

-- Surfaces

-- the number of a surface that was found
abbrev number_in : Option Surface → ℕ
number_in o = elim o [ Some c ↦ c.number | None ↦ 0 ]

found_by : (g : Surface → Surface) (c : Surface) (t : Bool) (o p : Option Surface) → (g c).number ≡ c.number → number_in o ≡ number_in p
    → number_in (cond t (Some (g c)) o) ≡ number_in (cond t (Some c) p)
found_by g c true o p e h = e
found_by g c false o p e h = h

number_map : (g : Surface → Surface) (id : SurfaceId) (ss : List Surface) → ((c : Surface) → (g c).id ≡ c.id) → ((c : Surface) → (g c).number ≡ c.number)
    → number_in (find (λ c. same_surface c.id id) (map g ss)) ≡ number_in (find (λ c. same_surface c.id id) ss)
number_map g id [] names numbers = refl
number_map g id (c ∷ ss) names numbers =
    ap (λ i. number_in (cond (same_surface i id) (Some (g c)) (find (λ c. same_surface c.id id) (map g ss)))) (names c)
    ∙ found_by g c (same_surface c.id id) (find (λ c. same_surface c.id id) (map g ss)) (find (λ c. same_surface c.id id) ss) (numbers c) (number_map g id ss names numbers)

mark_more : (b k : Bool) (c : Surface)
    → cond (k || false) (record (cond b (record c { marked = true }) c) { marked = true }) (cond b (record c { marked = true }) c) ≡ cond (b || (k || false)) (record c { marked = true }) c
mark_more true true c = refl
mark_more _ _ c = refl

-- one surface, as one more submission becomes active
marks_one : (ss : List Surface) (rs : List Submission) (s : Submission) (c : Surface)
    → marked_by (map (marked_by ss rs) ss) (s ∷ []) (marked_by ss rs c) ≡ marked_by ss (rs ++ s ∷ []) c
marks_one ss rs s c =
    let b = list_any (is_before ss c) rs in
    let marks : Surface → Surface = λ d. record d { marked = true } in
    let g = marked_by ss rs in
    let client = when_same (λ (x : Surface). x.client) marks b c refl in
    let number = when_same (λ (x : Surface). x.number) marks b c refl in
    let place : number_of (map g ss) s ≡ number_of ss s =
    number_map g s.submitted.id ss (λ d. when_same (λ (x : Surface). x.id) marks (list_any (is_before ss d) rs) d refl) (λ d. when_same (λ (x : Surface). x.number) marks (list_any (is_before ss d) rs) d refl) in
    let test : is_before (map g ss) (g c) s ≡ is_before ss c s =
    ap (λ n. (n == s.submitted.sub.client) && nat_lt (g c).number (number_of (map g ss) s)) client
    ∙ (ap (λ n. (c.client == s.submitted.sub.client) && nat_lt n (number_of (map g ss) s)) number ∙ ap (λ n. (c.client == s.submitted.sub.client) && nat_lt c.number n) place) in
    ap (λ (t : Bool). cond (t || false) (record (g c) { marked = true }) (g c)) test
    ∙ (mark_more b (is_before ss c s) c ∙ ap (λ (t : Bool). cond t (record c { marked = true }) c) (sym (list_any-append (is_before ss c) rs (s ∷ []))))

-- One after another

pub map_twice : {A : Type 0} (f g k : A → A) (xs : List A) → ((x : A) → Contains xs x → f (g x) ≡ k x) → map f (map g xs) ≡ map k xs
map_twice f g k [] h = refl
map_twice f g k (x ∷ xs) h = ap (λ y. y ∷ map f (map g xs)) (h x (contains_here x xs)) ∙ ap (λ l. k x ∷ l) (map_twice f g k xs (λ y c. h y (contains_there x y xs c)))

pub map_alike : {A : Type 0} (f g : A → A) (xs : List A) → ((x : A) → Contains xs x → f x ≡ g x) → map f xs ≡ map g xs
map_alike f g [] h = refl
map_alike f g (x ∷ xs) h = ap (λ y. y ∷ map f xs) (h x (contains_here x xs)) ∙ ap (λ l. g x ∷ l) (map_alike f g xs (λ y c. h y (contains_there x y xs c)))

add_more : (k n : ℕ) → k + 1 + n ≡ k + suc n
add_more k n = omega arith

-- each is a new one behind those before it
abbrev Fresh : List Submission → List Submission → Type 0
Fresh rs [] = Unit {0}
Fresh rs (s ∷ ss) = (has_sub (map sub_of rs) (sub_of s) ≡ false) × Fresh (rs ++ s ∷ []) ss

module _ (w : World) (h : KeepsAlways w) where
  abbrev world_after : List Submission → World
  world_after rs = record w { subs = map (after_these rs) w.subs; surfaces = map (marked_by w.surfaces rs) w.surfaces }

  none_after : world_after [] ≡ w
  none_after =
      ap (λ l. record w { subs = l; surfaces = map (marked_by w.surfaces []) w.surfaces })
      (map_fixed (after_these []) w.subs (λ t c. ap (λ (b : Bool). cond b (record t { state = Past }) t) (and_false (is_active t))))
      ∙ ap (λ l. record w { surfaces = l }) (map_fixed (marked_by w.surfaces []) w.surfaces (λ c p. refl))

  rising_one : (rs : List Submission) (s : Submission) → AllWait w h rs → Contains w.subs s → is_waiting s ≡ true → has_sub (map sub_of rs) (sub_of s) ≡ false
      → rising s (world_after rs) ≡ world_after (rs ++ s ∷ [])
  unfolding rising
  rising_one rs s all p waits fresh =
      ap (λ l. record w { subs = l; surfaces = map (marked_by (map (marked_by w.surfaces rs) w.surfaces) (s ∷ [])) (map (marked_by w.surfaces rs) w.surfaces) })
      (map_twice (as_one_rises s) (after_these rs) (after_these (rs ++ s ∷ [])) w.subs (λ t q. rises_one w h rs s t all p waits fresh q))
      ∙ ap (λ l. record w { subs = map (after_these (rs ++ s ∷ [])) w.subs; surfaces = l })
      (map_twice (marked_by (map (marked_by w.surfaces rs) w.surfaces) (s ∷ [])) (marked_by w.surfaces rs) (marked_by w.surfaces (rs ++ s ∷ [])) w.surfaces (λ c q. marks_one w.surfaces rs s c))

  all_after : (rest rs : List Submission) → AllWait w h rs → AllWait w h rest → Fresh rs rest → all_rising rest (world_after rs) ≡ world_after (rs ++ rest)
  unfolding all_rising
  all_after [] rs all wait fresh = ap world_after (sym (append-nil rs))
  all_after (s ∷ ss) rs all wait fresh =
      let first = wait s (contains_here s ss) in
      ap (all_rising ss) (rising_one rs s all first.0 first.1 fresh.0)
      ∙ (all_after ss (rs ++ s ∷ []) (λ r c. elim (contains_push rs s r c) [ inl m ↦ all r m | inr e ↦ subst (λ x. Contains w.subs x × (is_waiting x ≡ true)) e first ])
      (λ r c. wait r (contains_there s r ss c)) fresh.1
      ∙ ap world_after (append_assoc rs (s ∷ []) ss))

  -- those before stand before this place
  abbrev AllBefore : List Submission → ℕ → Type 0
  AllBefore rs k = (r : Submission) → Contains rs r → (n : ℕ) × (slice_get w.subs n ≡ Some r) × (n < k)

  fresh_from : (p : Submission → Bool) (xs rs : List Submission) (k : ℕ)
      → ((n : ℕ) (t : Submission) → slice_get xs n ≡ Some t → slice_get w.subs (k + n) ≡ Some t) → AllBefore rs k
      → Fresh rs (filter p xs)
  fresh_from p [] rs k here before = tt
  fresh_from p (x ∷ xs) rs k here before =
      let at : slice_get w.subs k ≡ Some x = ap (slice_get w.subs) (plus_none k) ∙ here 0 x refl in
      let rest : (n : ℕ) (t : Submission) → slice_get xs n ≡ Some t → slice_get w.subs (k + 1 + n) ≡ Some t = λ n t e. ap (slice_get w.subs) (add_more k n) ∙ here (suc n) t e in
      let later : AllBefore rs (k + 1) = λ r c. let m = before r c in (m.0, m.1, omega (arith, m.2)) in
      elim (p x) as (λ (t : Bool). Fresh rs (cond t (x ∷ filter p xs) (filter p xs))) [
        | true ↦ (
          false_from_ne_true (has_sub (map sub_of rs) (sub_of x)) (λ e.
              let m = any_at (same_sub (sub_of x)) (map sub_of rs) e in
              let r = contains_map sub_of rs m.0 m.1 in
              let b = before r.0 r.1 in
              let one = subs_differ w.surfaces w.subs h.numbers k b.0 x r.0 at b.1 (ap (same_sub (sub_of x)) r.2 ∙ m.2) in
              omega (arith, one, b.2)),
          fresh_from p xs (rs ++ x ∷ []) (k + 1) rest (λ r c. elim (contains_push rs x r c) [
            | inl m ↦ later r m
            | inr e ↦ (k, at ∙ ap (λ z. Some z) e, omega arith)
          ]),
        )
        | false ↦ fresh_from p xs rs (k + 1) rest later
      ]

  -- a round is that of one after another
  pub round_singly : round w ≡ all_rising (ready w) w
  unfolding round ready
  round_singly =
      let risen = filter (is_ready w) w.subs in
      let wait : AllWait w h risen = λ r c. let f = filter_at (is_ready w) w.subs r c in (f.0, ready_waits w r f.1) in
      let none : AllBefore [] 0 = λ r c. absurd (contains_none r c) in
      let same : (t : Submission) → Contains w.subs t → is_ready w t ≡ has_sub (map sub_of risen) (sub_of t) = λ t q.
      same_tests (is_ready w t) (has_sub (map sub_of risen) (sub_of t))
      (λ e. any_from (same_sub (sub_of t)) (map sub_of risen) (sub_of t) (map_contains sub_of risen t (filter_has (is_ready w) w.subs t q e)) (self_sub (sub_of t)))
      (λ e. (filter_at (is_ready w) w.subs t (among_at w h risen t wait q e)).1) in
      ap (λ l. record w { subs = l; surfaces = map (marked_by w.surfaces risen) w.surfaces })
      (map_alike (after_round (is_ready w) risen) (after_these risen) w.subs
      (λ t q. ap (λ (b : Bool). cond b (record t { state = Active; was_active = true }) (cond (is_active t && list_any (is_on t.submitted.id) risen) (record t { state = Past }) t)) (same t q)))
      ∙ (sym (all_after risen [] (λ r c. absurd (contains_none r c)) wait (fresh_from (is_ready w) w.subs [] 0 (λ n t e. ap (slice_get w.subs) (sym (none_plus n)) ∙ e) none))
      ∙ ap (all_rising risen) none_after)
