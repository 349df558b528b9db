-- What is kept of resources, where references are given back.
use Rattle.std.proofs.Common.{◌≡◌, ℕ, ◌+◌, ◌-◌, ◌<◌, ◌≤◌, Bool, true, false, not, ◌&&◌, ◌==◌, inl, inr, Option, Some, None, List, [], ◌∷◌, ◌++◌, map, refl, ap, sym, ◌∙◌, arith, cond, subst, Contains, count_by, sum_by, filter_map}
use Rattle.std.specs.Prelude.{nat_lt}
use Rattle.std.proofs.lemmas.Bool.{and_parts, eq-eqb, ne_eqb, ltb-true, ltb-false, not-true, cond-true, cond-false}
use Rattle.std.proofs.lemmas.List.Sums.{sum_by-cons, sum_by-append}
use Rattle.std.specs.List.{list_all, cons_option}
use Rattle.vz_rules.specs.declared.entry.Returned.{Returned}
use Rattle.vz_rules.specs.World.{World, Client, Resource, Submission}
use Rattle.vz_rules.specs.Returns.{holds, is_held, goes_back, queue_resource, queue_returns}
use Rattle.vz_rules.specs.Kept.{KeepsShelf, KeepsResource, KeepsReturn, AreRising, holds_of, count_of}
use Rattle.vz_rules.proofs.Members.{contains_cases, contains_none, contains_map, all_at, none_at, filter_map_at, append_contains}
use Rattle.vz_rules.proofs.Counts.{count_none}
use Rattle.vz_rules.proofs.Kept_shelves.{has_mapped, rising_map, return_mapped}
use Rattle.vz_rules.proofs.Kept_returns.{sum_none}
use Rattle.vz_rules.proofs.Facts.{same_when, and_true}
use Rattle.std.proofs.lemmas.Option.{cond_some}

-- the resources of a client that go back
module _ (goes : Resource → Bool) (c : ℕ) where
  abbrev give : Resource → Resource
  give r = cond (goes r) (record r { queued = r.lent }) r

  abbrev all_of : Resource → Returned
  all_of r = record { client = c; id = r.id; count = r.lent - r.queued }

  abbrev gives : Resource → Option Returned
  gives r = cond (goes r) (Some (all_of r)) None

  same_either : (t : Bool) (n m : ℕ) → n ≡ m → cond t n 0 ≡ cond t m 0
  same_either t n m h = ap (λ k. cond t k 0) h

  -- those of greater ids give nothing of this one
  sum_above : (n : ℕ) (rs : List Resource) → list_all (λ (t : Resource). nat_lt n t.id) rs ≡ true → sum_by (count_of n) (filter_map gives rs) ≡ 0
  sum_above n rs h =
      sum_none (count_of n) (filter_map gives rs) (λ r p.
      let m = filter_map_at gives rs r p in
      let e : m.0.id ≡ r.id = ap (λ (x : Returned). x.id) (cond_some (goes m.0) (all_of m.0) r m.2).1 in
      cond-false (r.id == n) r.count 0 (ne_eqb r.id n (λ d. omega (arith, d, e, ltb-true n m.0.id (all_at (λ (t : Resource). nat_lt n t.id) rs m.0 h m.1)))))

  sum_first : (f : Returned → ℕ) (t : Bool) (x : Resource) (ys : List Returned)
      → sum_by f (cons_option (cond t (Some (all_of x)) None) ys) ≡ cond t (f (all_of x)) 0 + sum_by f ys
  sum_first f true x ys = sum_by-cons f (all_of x) ys
  sum_first f false x ys = omega arith

  -- what is given of a resource
  sum_given : (rs : List Resource) (r : Resource) → AreRising rs → Contains rs r
      → sum_by (count_of r.id) (filter_map gives rs) ≡ cond (goes r) (r.lent - r.queued) 0
  sum_given [] r up p = absurd (contains_none r p)
  sum_given (x ∷ rs) r up p =
      elim (contains_cases x r rs p) [
        | inl e ↦ subst (λ (y : Resource). sum_by (count_of y.id) (filter_map gives (x ∷ rs)) ≡ cond (goes y) (y.lent - y.queued) 0) e (
            let rest = sum_above x.id rs up.0 in
            let first = same_either (goes x) (cond (x.id == x.id) (x.lent - x.queued) 0) (x.lent - x.queued) (cond-true (x.id == x.id) (x.lent - x.queued) 0 (eq-eqb x.id x.id refl)) in
            omega (arith, sum_first (count_of x.id) (goes x) x (filter_map gives rs), rest, first)
            )
        | inr m ↦
            let l = ltb-true x.id r.id (all_at (λ (t : Resource). nat_lt x.id t.id) rs r up.0 m) in
            let first = same_when (λ (k : ℕ). k) (goes x) (cond (x.id == r.id) (x.lent - x.queued) 0) 0 (cond-false (x.id == r.id) (x.lent - x.queued) 0 (ne_eqb x.id r.id (λ d. omega (arith, d, l)))) in
            omega (arith, sum_first (count_of r.id) (goes x) x (filter_map gives rs), first, sum_given rs r up.1 m)
      ]

  give_id : (t : Bool) (r : Resource) → (cond t (record r { queued = r.lent }) r).id ≡ r.id
  give_id true r = refl
  give_id false r = refl

  -- with the return at the end of the queue
  given_totals : (holding : Submission → Bool) (subs : List Submission) (queue : List Returned) (more : List Returned) (t : Bool) (r : Resource)
      → sum_by (count_of r.id) more ≡ cond t (r.lent - r.queued) 0 → (t ≡ true → count_by (holds_of holding c r.id) subs ≡ 0)
      → KeepsResource holding subs c queue r → KeepsResource holding subs c (queue ++ more) (cond t (record r { queued = r.lent }) r)
  given_totals holding subs queue more true r sum none h =
      record {
        reclaimed = omega (arith, h.reclaimed, h.queued);
        queued = omega arith;
        lent = h.lent;
        out = omega (arith, none refl);
        in_queue = omega (arith, h.in_queue, h.queued, sum, sum_by-append (count_of r.id) queue more);
      }
  given_totals holding subs queue more false r sum none h =
      record {
        reclaimed = h.reclaimed;
        queued = h.queued;
        lent = h.lent;
        out = h.out;
        in_queue = omega (arith, h.in_queue, sum, sum_by-append (count_of r.id) queue more);
      }

-- a client of which these resources are given back
abbrev giving : (Resource → Bool) → Client → Client
giving goes c = record c { resources = map (give goes c.number) c.resources; queue = c.queue ++ filter_map (gives goes c.number) c.resources }

shelf_given_by : (goes : Resource → Bool) (holding : Submission → Bool) (subs : List Submission) (c : Client)
    → ((r : Resource) → goes r ≡ true → (r.queued < r.lent) × (count_by (holds_of holding c.number r.id) subs ≡ 0)) → KeepsShelf holding subs c
    → KeepsShelf holding subs (giving goes c)
shelf_given_by goes holding subs c back h =
    record {
      taken = h.taken;
      rising = rising_map (give goes c.number) c.resources (λ r. give_id goes c.number (goes r) r) h.rising;
      listed = λ s l p by q. has_mapped (give goes c.number) c.resources l.id (λ r. give_id goes c.number (goes r) r) (h.listed s l p by q);
      totals = λ s p.
          let m = contains_map (give goes c.number) c.resources s p in
          let sum = sum_given goes c.number c.resources m.0 h.rising m.1 in
          subst (λ x. KeepsResource holding subs c.number (c.queue ++ filter_map (gives goes c.number) c.resources) x) m.2
          (given_totals goes c.number holding subs c.queue (filter_map (gives goes c.number) c.resources) (goes m.0) m.0 sum (λ t. (back m.0 t).1) (h.totals m.0 m.1));
      returns = λ r p.
          return_mapped (give goes c.number) c.number c.resources r (λ x. give_id goes c.number (goes x) x) (elim (append_contains c.queue (filter_map (gives goes c.number) c.resources) r p) [
            | inl q ↦ h.returns r q
            | inr q ↦
                let m = filter_map_at (gives goes c.number) c.resources r q in
                let g = cond_some (goes m.0) (all_of goes c.number m.0) r m.2 in
                subst (λ x. KeepsReturn c.number c.resources x) g.1 (record { client = refl; some = omega (arith, (back m.0 g.0).0); known = (m.0, m.1, refl) })
          ]);
    }

-- what is not held has no holders
unheld : (w : World) (c id : ℕ) → is_held w c id ≡ false → count_by (holds_of (holds w) c id) w.subs ≡ 0
unfolding is_held
unheld w c id h = count_none (holds_of (holds w) c id) w.subs (λ s p. none_at (holds_of (holds w) c id) w.subs s h p)

back_by : (w : World) (c : ℕ) (r : Resource) → goes_back w c r ≡ true → (r.queued < r.lent) × (count_by (holds_of (holds w) c r.id) w.subs ≡ 0)
back_by w c r h =
    let both = and_parts (nat_lt r.queued r.lent) (not (is_held w c r.id)) h in
    (ltb-true r.queued r.lent both.0, unheld w c r.id (not-true (is_held w c r.id) both.1))

-- after references were given back
pub shelf_given : (w : World) (c : Client) → KeepsShelf (holds w) w.subs c → KeepsShelf (holds w) w.subs (queue_returns w c)
shelf_given w c h = shelf_given_by (goes_back w c.number) (holds w) w.subs c (back_by w c.number) h

within : (a b : ℕ) → nat_lt a b ≡ false → a ≤ b → a ≡ b
within a b h l = omega (arith, ltb-false a b h)

none_out_by : (t held : Bool) (r : Resource) → (nat_lt r.queued r.lent && not held) ≡ t → r.queued ≤ r.lent → held ≡ false
    → (cond t (record r { queued = r.lent }) r).queued ≡ (cond t (record r { queued = r.lent }) r).lent
none_out_by true held r e l h = refl
none_out_by false true r e l h = absurd (cc)
none_out_by false false r e l h = within r.queued r.lent (sym (and_true (nat_lt r.queued r.lent)) ∙ e) l

-- nothing is out then of what is not held
pub none_out_given : (w : World) (c : Client) (s : Resource) → KeepsShelf (holds w) w.subs c → Contains (queue_returns w c).resources s
    → is_held w c.number s.id ≡ false → s.queued ≡ s.lent
none_out_given w c s h p e =
    let m = contains_map (queue_resource w c.number) c.resources s p in
    let same : m.0.id ≡ s.id = sym (give_id (goes_back w c.number) c.number (goes_back w c.number m.0) m.0) ∙ ap (λ (x : Resource). x.id) m.2 in
    subst (λ (x : Resource). x.queued ≡ x.lent) m.2 (none_out_by (goes_back w c.number m.0) (is_held w c.number m.0.id) m.0 refl (h.totals m.0 m.1).queued (ap (is_held w c.number) same ∙ e))
