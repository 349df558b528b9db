-- Clients and their resources, as references are lent and queues are handed over.
use Rattle.std.proofs.Common.{◌≡◌, ℕ, ◌+◌, ◌-◌, ◌≤◌, Bool, true, false, ◌&&◌, ◌==◌, Option, Some, None, is_some, List, [], map, count_by, refl, ap, sym, subst, ◌∙◌, arith, cond, Contains}
use Rattle.std.proofs.{lemmas.Bool.Decides.nat_tests, lemmas.Bool.and_parts, lemmas.Bool.eqb-true}
use Rattle.std.specs.{List.list_any, Option.option_map}
use Rattle.vz_ids.specs.declared.Sub.{Sub}
use Rattle.vz_frame.specs.{declared.frame.Listing.Listing, declared.frame.CompositorFrame.CompositorFrame, Frame.lists}
use Rattle.vz_rules.specs.{Plan.Plan, Plan.IsPlan, Messages.took, Messages.lend, Messages.submitting, Messages.is_unknown}
use Rattle.vz_rules.specs.World.{World, Client, Resource, Submission, resource_in}
use Rattle.vz_rules.specs.Kept.{KeepsAlways, KeepsPlan, borrows, is_by}
use Rattle.vz_rules.proofs.{Members.find_at, Members.contains_at, Members.when_same, Rising.find_map}
use Rattle.vz_rules.proofs.{Counts.count_at, Kept_small.count_weaker, Kept_small.small_client, Kept_small.small_resource, Totals.known_listed}
use Rattle.vz_returns.specs.{Held.Holding, Lent.IsCountable, Listed.ids_of, Listed.lists_twice}
use Rattle.vz_returns.specs.Released.{holds_there, holds_in_flight, times, out_in, alive_in, AreCounts}
use Rattle.vz_returns.proofs.Test_counts.{listed_once}

-- the references that are out of a resource, if there is one
abbrev out_of_one : Option Resource → ℕ
out_of_one o = elim o [ Some r ↦ r.lent - r.queued | None ↦ 0 ]

out_mapped : (f : Resource → Resource) (rs : List Resource) (id : ℕ) → ((s : Resource) → (f s).id ≡ s.id)
    → out_in (map f rs) id ≡ out_of_one (option_map f (resource_in id rs))
unfolding out_in
out_mapped f rs id same = ap out_of_one (find_map (λ (s : Resource). s.id == id) f rs (λ s. ap (λ n. n == id) (same s)))

out_is : (rs : List Resource) (id : ℕ) → out_in rs id ≡ out_of_one (resource_in id rs)
unfolding out_in
out_is rs id = refl

-- each resource that is listed is lent once more
pub out_lent : (L : List Listing) (rs : List Resource) (id : ℕ) → ((s : Resource) → Contains rs s → s.queued ≤ s.lent)
    → list_any (is_unknown rs) L ≡ false → lists_twice L ≡ false
    → out_in (map (lend L) rs) id ≡ out_in rs id + times id (ids_of L)
out_lent L rs id less known once =
    out_mapped (lend L) rs id (λ s. when_same (λ (x : Resource). x.id) (λ s. record s { lent = s.lent + 1 }) (list_any (lists s.id) L) s
    refl)
    ∙ (by (resource_in id rs) refl (list_any (lists id) L) refl ∙ (λ i. sym (out_is rs id) i + listed_once id L once i))
  where
    one_more : (s : Resource) (t : Bool) → s.queued ≤ s.lent
        → (cond t (record s { lent = s.lent + 1 }) s).lent - (cond t (record s { lent = s.lent + 1 }) s).queued
        ≡ (s.lent - s.queued) + cond t 1 0
    one_more s true l = omega (arith, l)
    one_more s false l = omega arith

    by : (o : Option Resource) → resource_in id rs ≡ o → (t : Bool) → list_any (lists id) L ≡ t
        → out_of_one (option_map (lend L) o) ≡ out_of_one o + cond (list_any (lists id) L) 1 0
    by None e true f = let bad : false ≡ true = ap is_some (sym e) ∙ known_listed id rs L known f in absurd (cc)
    by None e false f = ap {B = ℕ} (λ t. 0 + cond t 1 0) (sym f)
    by (Some s) e t f =
        let at = find_at (λ (r : Resource). r.id == id) rs s e in
        one_more s (list_any (lists s.id) L) (less s at.0)
        ∙ ap {B = ℕ} (λ n. (s.lent - s.queued) + cond (list_any (lists n) L) 1 0) (eqb-true s.id id at.1)

-- a queue that is handed over leaves what is out
pub out_reclaimed : (rs : List Resource) (id : ℕ) → out_in (map (λ (s : Resource). record s { reclaimed = s.queued }) rs) id ≡ out_in rs id
out_reclaimed rs id = grind (arith, nat_tests, out_mapped, out_is rs id)

-- a client whose submission is accepted
pub record Submits (L : List Listing) (c d : Client) : Type 0 where
  pub number : d.number ≡ c.number
  pub queue : d.queue ≡ c.queue
  pub resources : d.resources ≡ map (lend L) c.resources

pub submits : (w : World) (frame : CompositorFrame) (c : Client) → Submits frame.resources c (took (submitting w frame c))
submits w frame c = grind (arith, nat_tests)

-- Numbers

-- of a resource no more are alive than two for each submission of its client
pub alive_few : (w : World) (flight : Option (List Sub)) (c id : ℕ)
    → alive_in (record w { in_flight = flight }) c id ≤ count_by (is_by c) w.subs + count_by (is_by c) w.subs
unfolding alive_in
alive_few w flight c id = grind (arith, nat_tests, count_weaker, and_parts)

out_few : (p : Plan) (w : World) → IsPlan p → KeepsAlways w → KeepsPlan p w → (c : Client) → Contains w.clients c → (id : ℕ)
    → out_in c.resources id ≤ 4096
out_few p w is h of c there id = subst (λ n. n ≤ 4096) (sym (out_is c.resources id)) (by (resource_in id c.resources) refl)
  where
    by : (o : Option Resource) → resource_in id c.resources ≡ o → out_of_one o ≤ 4096
    by None e = omega arith
    by (Some s) e =
        let small = small_resource p w is h of c s there (find_at (λ (r : Resource). r.id == id) c.resources s e).0 in
        omega (arith, small.lent)

-- so that one more of each can be counted
pub countable : (p : Plan) (w : World) → IsPlan p → KeepsAlways w → KeepsPlan p w
    → (flight : Option (List Sub)) (c : Client) (h : Holding) (released : List ℕ) → Contains w.clients c → released ≡ []
    → AreCounts (record w { in_flight = flight }) c h released → (id : ℕ) → IsCountable id h
countable p w is always of flight c h released there none counts id =
    record {
      received = omega (arith, counts.received id, out_few p w is always of c there id);
      alive = omega (
        arith,
        counts.alive id,
        ap (times id) none,
        no_times id,
        alive_few w flight c.number id,
        (always.shelves c there).taken,
        (small_client p w is always of c there).1,
      );
    }
  where
    no_times : (id : ℕ) → times id [] ≡ 0
    no_times id = refl

-- one that holds its resources on its surface has a reference of each
pub alive_some : (v : World) (s : Submission) (c id : ℕ) → Contains v.subs s → holds_there v s ≡ true
    → cond (borrows c id s) 1 0 ≤ alive_in v c id
unfolding alive_in
alive_some v s c id there holds = by (borrows c id s) refl
  where
    by : (t : Bool) → borrows c id s ≡ t
        → cond t 1 0 ≤ count_by (λ s. borrows c id s && holds_there v s) v.subs + count_by (λ s. borrows c id s && holds_in_flight v s)
        v.subs
    by true e =
        let n = contains_at v.subs s there in
        let one : (borrows c id s && holds_there v s) ≡ true = (λ i. e i && holds i) in
        omega (arith, count_at (λ s. borrows c id s && holds_there v s) v.subs n.0 s n.1 one)
    by false e = omega arith
