-- Relations are of two clients' sinks, and none is registered twice.
use Rattle.std.proofs.Common.{◌≡◌, ℕ, zero, suc, ◌+◌, ◌≤◌, Bool, true, false, ◌&&◌, ◌==◌, inl, inr, None, List, [], ◌∷◌, ◌++◌, map, refl, ap, sym, ◌∙◌, arith, cond, subst, Contains, count_by}
use Rattle.std.specs.Prelude.{not}
use Rattle.std.proofs.lemmas.Bool.{and_parts}
use Rattle.vz_ids.specs.declared.FrameSinkId.{FrameSinkId}
use Rattle.vz_ids.specs.declared.Sub.{Sub}
use Rattle.vz_ids.specs.Ids.{same_sink}
use Rattle.vz_rules.specs.declared.entry.Refusal.TheVariants as refusal
use Rattle.vz_rules.specs.World.{World, Client}
use Rattle.vz_rules.specs.Settle.{round, rounds, settle}
use Rattle.vz_rules.specs.Reach.{naming, clearing, collect}
use Rattle.vz_rules.specs.Returns.{give_back, feed, queue_returns}
use Rattle.vz_rules.specs.Messages.{Answer, took, taking, first_some, when, reaches, is_known, is_related, relate, hierarchy_refusal}
use Rattle.vz_rules.specs.Step.{outcome_of}
use Rattle.vz_rules.specs.Kept.{HasSink, relates, KeepsRelations}
use Rattle.vz_rules.proofs.Members.{contains_push, map_contains, any_at, none_at}
use Rattle.vz_rules.proofs.Counts.{count_none, count_push}
use Rattle.vz_rules.proofs.Follow_ups.{outcome_clients}
use Rattle.vz_rules.proofs.Reached.{from_same_sink}
use Rattle.vz_rules.proofs.Facts.{same_when}

-- Clients

sink_mapped : (k : Client → Client) (cs : List Client) (sink : FrameSinkId) → ((c : Client) → Contains cs c → (k c).sink ≡ c.sink) → HasSink cs sink → HasSink (map k cs) sink
sink_mapped k cs sink same h = (k h.0, map_contains k cs h.0 h.1, same h.0 h.1 ∙ h.2)

-- clients that keep their sinks
pub relations_map : (k : Client → Client) (cs : List Client) (rs : List (FrameSinkId × FrameSinkId)) → ((c : Client) → Contains cs c → (k c).sink ≡ c.sink)
    → KeepsRelations cs rs → KeepsRelations (map k cs) rs
relations_map k cs rs same h =
    record { known = λ r q. let both = h.known r q in (sink_mapped k cs r.0 same both.0, sink_mapped k cs r.1 same both.1); once = h.once }

pub relations_taking : (w : World) (c : Client) (f : Client → Client) → ((x : Client) → Contains w.clients x → (f x).sink ≡ x.sink) → KeepsRelations w.clients w.relations
    → KeepsRelations (taking f c w).clients w.relations
relations_taking w c f same h =
    relations_map (λ x. cond (x.number == c.number) (took (f x)) x) w.clients w.relations (λ x q. same_when (λ (x : Client). x.sink) (x.number == c.number) _ x (same x q)) h

-- One relation more

-- the relation is one, where it is not there yet
counts_one : (rs : List (FrameSinkId × FrameSinkId)) (a b parent child : FrameSinkId) (t : Bool) → (same_sink a parent && same_sink b child) ≡ t → is_related rs a b ≡ false
    → count_by (relates parent child) rs ≤ 1 → count_by (relates parent child) rs + cond t 1 0 ≤ 1
counts_one rs a b parent child true e none h =
    let both = and_parts (same_sink a parent) (same_sink b child) e in
    let zero_of : count_by (relates a b) rs ≡ 0 = count_none (relates a b) rs (λ r q. none_at (relates a b) rs r none q) in
    let first : count_by (relates parent child) rs ≡ count_by (relates a child) rs = ap (λ x. count_by (relates x child) rs) (sym (from_same_sink a parent both.0)) in
    let second : count_by (relates a child) rs ≡ count_by (relates a b) rs = ap (λ x. count_by (relates a x) rs) (sym (from_same_sink b child both.1)) in
    omega (arith, zero_of, first, second)
counts_one rs a b parent child false e none h = omega (arith, h)

related_by : (t : Bool) (cs : List Client) (rs : List (FrameSinkId × FrameSinkId)) (a b : FrameSinkId) → is_related rs a b ≡ t → HasSink cs a → HasSink cs b → KeepsRelations cs rs
    → KeepsRelations cs (cond t rs (rs ++ (a, b) ∷ []))
related_by true cs rs a b e x y h = h
related_by false cs rs a b e x y h =
    record {
      known = λ r q. elim (contains_push rs (a, b) r q) [
        | inl m ↦ h.known r m
        | inr s ↦ (subst (HasSink cs) (ap (λ (z : FrameSinkId × FrameSinkId). z.0) s) x, subst (HasSink cs) (ap (λ (z : FrameSinkId × FrameSinkId). z.1) s) y)
      ];
      once = λ parent child.
          let one = counts_one rs a b parent child (same_sink a parent && same_sink b child) refl e (h.once parent child) in
          omega (arith, count_push (relates parent child) rs (a, b), one);
    }

unrefused : (a b c : Bool) → first_some (when a refusal.Loop ∷ when (not b) refusal.UnknownSink ∷ when c refusal.ParentOfOther ∷ []) ≡ None → b ≡ true
unrefused true b c h = absurd (cc)
unrefused false true c h = refl
unrefused false false c h = absurd (cc)

both_known : (w : World) (c : Client) (parent child : FrameSinkId) → hierarchy_refusal w c parent child ≡ None → HasSink w.clients parent × HasSink w.clients child
unfolding hierarchy_refusal
both_known w c parent child good =
    let both = and_parts (is_known w parent) (is_known w child) (unrefused (reaches w.relations child parent) (is_known w parent && is_known w child) (not (same_sink parent c.sink)) good) in
    let a = any_at (λ (x : Client). same_sink x.sink parent) w.clients both.0 in
    let b = any_at (λ (x : Client). same_sink x.sink child) w.clients both.1 in
    ((a.0, a.1, from_same_sink a.0.sink parent a.2), (b.0, b.1, from_same_sink b.0.sink child b.2))

-- a relation that is not refused
pub relations_joined : (w : World) (c : Client) (parent child : FrameSinkId) → hierarchy_refusal w c parent child ≡ None
    → KeepsRelations w.clients w.relations
    → KeepsRelations (taking (λ x. x) c w).clients (relate parent child w.relations)
relations_joined w c parent child good h =
    let known = both_known w c parent child good in
    let related : KeepsRelations w.clients (relate parent child w.relations) = related_by (is_related w.relations parent child) w.clients w.relations parent child refl known.0 known.1 h in
    relations_taking (record w { relations = relate parent child w.relations }) c (λ x. x) (λ x q. refl) related

-- What follows

rounds_relations : (n : ℕ) (w : World) → (rounds n w).relations ≡ w.relations
unfolding rounds round
rounds_relations zero w = refl
rounds_relations (suc n) w = rounds_relations n (round w)

outcome_relations : (presented : List Sub) (a : Answer) → (outcome_of presented a).world.relations ≡ a.world.relations
unfolding outcome_of feed give_back collect clearing naming settle
outcome_relations presented a = rounds_relations _ a.world

-- what follows an answer leaves them
pub relations_after : (presented : List Sub) (a : Answer) → KeepsRelations a.world.clients a.world.relations
    → KeepsRelations (outcome_of presented a).world.clients (outcome_of presented a).world.relations
relations_after presented a h =
    let v = collect (settle a.world) in
    let mapped = relations_map (queue_returns v) a.world.clients a.world.relations (λ c q. refl) h in
    subst (λ cs. KeepsRelations cs (outcome_of presented a).world.relations) (sym (outcome_clients presented a))
    (subst (λ rs. KeepsRelations (map (queue_returns v) a.world.clients) rs) (sym (outcome_relations presented a)) mapped)
