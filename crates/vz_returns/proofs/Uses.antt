-- A resource is in use by the counts exactly where an upload of it is refused.
use Rattle.std.proofs.Common.{◌≡◌, ℕ, ◌+◌, ◌-◌, ◌≤◌, Bool, true, false, ◌==◌, ◌||◌, Option, Some, None, List, [], ◌∷◌, Contains, sum_by, is_some, nat_lt, refl, ap, sym, ◌∙◌, arith, cond}
use Rattle.std.specs.List.{list_any}
use Rattle.std.proofs.{lemmas.List.Sums.sum_by-cons, lemmas.Bool.Decides.nat_tests}
use Rattle.vz_rules.specs.World.{World, Client, Resource, Submission, resource_in}
use Rattle.vz_rules.specs.{Messages.in_use as refused_in_use, Kept.KeepsShelf, Kept.count_of, declared.entry.Returned.Returned}
use Rattle.vz_rules.proofs.Members.{contains_here, contains_there, find_at, found, any_from, any_none}
use Rattle.vz_returns.specs.{Held.Holding, Held.in_use, Released.out_in, Released.AreCounts}
use Rattle.vz_returns.proofs.Releases.{from_eqb, to_eqb, some_of_both}

more_is_some : (n m : ℕ) → 1 ≤ n → nat_lt 0 (n + m) ≡ true
more_is_some n m h = grind (arith, nat_tests, h)

none_more : (n : ℕ) → 0 + n ≡ n
none_more n = omega arith

-- a resource is in a queue where some reference of it is counted there
queued_some : (id : ℕ) (queue : List Returned) → ((r : Returned) → Contains queue r → 1 ≤ r.count) → list_any (λ r. r.id == id) queue ≡ nat_lt 0 (sum_by (count_of id) queue)
queued_some id [] some = refl
queued_some id (r ∷ queue) some =
    by (r.id == id) refl (queued_some id queue (λ x there. some x (contains_there r x queue there))) ∙ sym (ap (nat_lt 0) (sum_by-cons (count_of id) r queue))
  where
    by : (t : Bool) → (r.id == id) ≡ t → list_any (λ r. r.id == id) queue ≡ nat_lt 0 (sum_by (count_of id) queue)
        → (t || list_any (λ r. r.id == id) queue) ≡ nat_lt 0 (cond t r.count 0 + sum_by (count_of id) queue)
    by true e rest = sym (more_is_some r.count (sum_by (count_of id) queue) (some r (contains_here r queue)))
    by false e rest = rest ∙ ap (nat_lt 0) (sym (none_more (sum_by (count_of id) queue)))

-- what is out and what is queued together are what was not reclaimed
in_all : (out lent queued reclaimed sum : ℕ) → out ≡ lent - queued → reclaimed ≤ queued → queued ≤ lent → queued ≡ reclaimed + sum → (nat_lt 0 out || nat_lt 0 sum) ≡ nat_lt reclaimed lent
in_all out lent queued reclaimed sum o r q s = grind (arith, nat_tests, o, r, q, s)

out_some : (id : ℕ) (rs : List Resource) (s : Resource) → resource_in id rs ≡ Some s → out_in rs id ≡ s.lent - s.queued
unfolding out_in
out_some id rs s e = ap (λ (o : Option Resource). elim o [ Some r ↦ r.lent - r.queued | None ↦ 0 ]) e

out_none : (id : ℕ) (rs : List Resource) → resource_in id rs ≡ None → out_in rs id ≡ 0
unfolding out_in
out_none id rs e = ap (λ (o : Option Resource). elim o [ Some r ↦ r.lent - r.queued | None ↦ 0 ]) e

module _ (holding : Submission → Bool) (subs : List Submission) (w : World) (c : Client) (h : Holding) (counts : AreCounts w c h []) (shelf : KeepsShelf holding subs c) where
  one_each : (r : Returned) → Contains c.queue r → 1 ≤ r.count
  one_each r there = let kept = shelf.returns r there in kept.some

  counted : (id : ℕ) → in_use id h ≡ (nat_lt 0 (out_in c.resources id) || nat_lt 0 (sum_by (count_of id) c.queue))
  counted id = grind (arith, nat_tests, some_of_both id h.counted counts.some, queued_some id c.queue one_each, one_each)

  unknown : (id : ℕ) → resource_in id c.resources ≡ None → (r : Returned) → Contains c.queue r → (r.id == id) ≡ false
  unknown id none r there = by (r.id == id) refl
    where
      by : (t : Bool) → (r.id == id) ≡ t → t ≡ false
      by true e =
          let kept = shelf.returns r there in
          let known = kept.known in
          let same : (known.0.id == id) ≡ true = to_eqb known.0.id id (known.2 ∙ from_eqb r.id id e) in
          let some : true ≡ false =
          sym (any_from (λ (x : Resource). x.id == id) c.resources known.0 known.1 same)
          ∙ (sym (found (λ (x : Resource). x.id == id) c.resources) ∙ ap is_some none) in
          some
      by false e = refl

  by_resource : (id : ℕ) (o : Option Resource) → resource_in id c.resources ≡ o → in_use id h ≡ elim o [ Some s ↦ nat_lt s.reclaimed s.lent | None ↦ false ]
  by_resource id None e =
      let sum : list_any (λ r. r.id == id) c.queue ≡ false = any_none (λ r. r.id == id) c.queue (unknown id e) in
      counted id ∙ ((λ i. nat_lt 0 (out_none id c.resources e i) || (sym (queued_some id c.queue one_each) ∙ sum) i))
  by_resource id (Some s) e =
      let at = find_at (λ (x : Resource). x.id == id) c.resources s e in
      let kept = shelf.totals s at.0 in
      let own : s.id ≡ id = from_eqb s.id id at.1 in
      counted id
      ∙ in_all (out_in c.resources id) s.lent s.queued s.reclaimed (sum_by (count_of id) c.queue) (out_some id c.resources s e) kept.reclaimed kept.queued
      (kept.in_queue ∙ ap (λ n. s.reclaimed + sum_by (count_of n) c.queue) own)

  pub uses_are : (id : ℕ) → in_use id h ≡ refused_in_use c.resources id
  uses_are id = by_resource id (resource_in id c.resources) refl
