-- What a step establishes at its end: nothing is ready, what is not held is given back, and what is not open had feedback.
use Rattle.std.proofs.Common.{◌≡◌, ℕ, Bool, true, false, not, ◌&&◌, ◌||◌, Some, None, List, [], map, map-id, refl, ap, sym, ◌∙◌, cond, subst, Contains, is_none}
use Rattle.std.specs.Prelude.{nat_le}
use Rattle.std.specs.List.{list_any, list_all}
use Rattle.std.proofs.lemmas.Bool.{and_parts, and_from, both_ways, false_from_ne_true}
use Rattle.vz_ids.specs.declared.SurfaceId.{SurfaceId}
use Rattle.vz_ids.specs.declared.Sub.{Sub}
use Rattle.vz_ids.specs.Ids.{same_sink, at_least}
use Rattle.vz_rules.specs.declared.entry.Fed.{Fed}
use Rattle.vz_rules.specs.World.{World, Client, Resource, Submission, is_waiting, is_active, is_on, is_in_flight, has_sub, sub_of}
use Rattle.vz_rules.specs.Settle.{is_met, has_come, is_ready, ready}
use Rattle.vz_rules.specs.Reach.{naming, lost_in, clearing, collect, drop_on}
use Rattle.vz_rules.specs.Returns.{holds, is_held, queue_returns, give_back, mark_fed, feed}
use Rattle.vz_rules.specs.Kept.{KeepsAlways, holds_of}
use Rattle.vz_rules.proofs.Members.{any_map, contains_map, filter_none, none_filtered, all_from}
use Rattle.vz_rules.proofs.Kept_states.{OpensNone}
use Rattle.vz_rules.proofs.Kept_given.{none_out_given}
use Rattle.vz_rules.proofs.Kept_clears.{drops}
use Rattle.vz_rules.proofs.Facts.{same_when, all_same}

-- Nothing is ready

-- a world in which submissions end and keep their deadlines, and clients stay as they are where it counts
pub record Wanes (w v : World) (f : Submission → Submission) (k : Client → Client) : Type 0 where
  pub subs : map f w.subs ≡ v.subs
  pub clients : map k w.clients ≡ v.clients
  pub tick : v.tick ≡ w.tick
  pub ends : OpensNone f
  pub due : (s : Submission) → (f s).due ≡ s.due
  pub closed : (c : Client) → (k c).closed ≡ c.closed
  pub sink : (c : Client) → (k c).sink ≡ c.sink

met_wanes : (w v : World) (f : Submission → Submission) (k : Client → Client) → Wanes w v f k → (d : SurfaceId) → is_met v d ≡ is_met w d
unfolding is_met
met_wanes w v f k h d =
    let subs : list_any (λ (s : Submission). s.was_active && at_least s.submitted.id d) v.subs ≡ list_any (λ (s : Submission). s.was_active && at_least s.submitted.id d) w.subs =
    ap (list_any (λ (s : Submission). s.was_active && at_least s.submitted.id d)) (sym h.subs)
    ∙ any_map f (λ (s : Submission). s.was_active && at_least s.submitted.id d) (λ (s : Submission). s.was_active && at_least s.submitted.id d) w.subs
    (λ s. ap (λ t. t && at_least (f s).submitted.id d) (h.ends.was s) ∙ ap (λ i. s.was_active && at_least i.id d) (h.ends.submitted s)) in
    let clients : list_any (λ (c : Client). c.closed && same_sink c.sink d.sink) v.clients ≡ list_any (λ (c : Client). c.closed && same_sink c.sink d.sink) w.clients =
    ap (list_any (λ (c : Client). c.closed && same_sink c.sink d.sink)) (sym h.clients)
    ∙ any_map k (λ (c : Client). c.closed && same_sink c.sink d.sink) (λ (c : Client). c.closed && same_sink c.sink d.sink) w.clients
    (λ c. ap (λ t. t && same_sink (k c).sink d.sink) (h.closed c) ∙ ap (λ x. c.closed && same_sink x d.sink) (h.sink c)) in
    ap (λ t. t || list_any (λ (c : Client). c.closed && same_sink c.sink d.sink) v.clients) subs
    ∙ ap (λ t. list_any (λ (s : Submission). s.was_active && at_least s.submitted.id d) w.subs || t) clients

come_wanes : (w v : World) (f : Submission → Submission) (k : Client → Client) → Wanes w v f k → (s : Submission) → has_come v (f s) ≡ has_come w s
unfolding has_come
come_wanes w v f k h s =
    ap (λ t. t || nat_le (f s).due v.tick) (ap (λ i. list_all (is_met v) i.frame.metadata.dependencies) (h.ends.submitted s)
    ∙ all_same (is_met v) (is_met w) s.submitted.frame.metadata.dependencies (met_wanes w v f k h))
    ∙ (ap (λ n. list_all (is_met w) s.submitted.frame.metadata.dependencies || nat_le n v.tick) (h.due s)
    ∙ ap (λ n. list_all (is_met w) s.submitted.frame.metadata.dependencies || nat_le s.due n) h.tick)

pub ready_wanes : (w v : World) (f : Submission → Submission) (k : Client → Client) → Wanes w v f k → ready w ≡ [] → ready v ≡ []
unfolding ready is_ready
ready_wanes w v f k h none =
    filter_none (is_ready v) v.subs (λ s c.
    let m = contains_map f w.subs s (subst (λ l. Contains l s) (sym h.subs) c) in
    false_from_ne_true (is_ready v s) (λ e.
    let both = and_parts (is_waiting (f m.0)) (has_come v (f m.0)) (ap (is_ready v) m.2 ∙ e) in
    both_ways (is_ready w m.0) (none_filtered (is_ready w) w.subs m.0 none m.1)
    (and_from (is_waiting m.0) (has_come w m.0) (h.ends.waits m.0 both.0) (sym (come_wanes w v f k h m.0) ∙ both.1))))

ready_collected : (w : World) → ready w ≡ [] → ready (collect w) ≡ []
unfolding collect clearing naming
ready_collected w none =
    let lost = lost_in (naming w) in
    ready_wanes w (collect w) (drop_on lost) (λ c. c) (record {
      subs = refl;
      clients = map-id w.clients;
      tick = refl;
      ends = drops lost;
      due = λ s. same_when (λ (x : Submission). x.due) ((is_waiting s || is_active s) && list_any (λ c. is_on c.id s) lost) _ s refl;
      closed = λ c. refl;
      sink = λ c. refl;
    }) none

ready_fed : (presented : List Sub) (w : World) → ready w ≡ [] → ready (feed presented (give_back w)) ≡ []
unfolding feed give_back
ready_fed presented w none =
    ready_wanes w (feed presented (give_back w)) (mark_fed (give_back w) presented) (queue_returns w) (record {
      subs = refl;
      clients = refl;
      tick = refl;
      ends = record { submitted = λ s. refl; waits = λ s e. e; acts = λ s e. e; was = λ s. refl };
      due = λ s. refl;
      closed = λ c. refl;
      sink = λ c. refl;
    }) none

-- where nothing was ready nothing gets ready
pub ready_end : (presented : List Sub) (w : World) → ready w ≡ [] → ready (feed presented (give_back (collect w))) ≡ []
ready_end presented w none = ready_fed presented (collect w) (ready_collected w none)

-- Nothing is out that is not held

held_end : (presented : List Sub) (w : World) (c id : ℕ) → is_held (feed presented (give_back w)) c id ≡ is_held w c id
unfolding is_held feed give_back
held_end presented w c id =
    any_map (mark_fed (give_back w) presented) (holds_of (holds (feed presented (give_back w))) c id) (holds_of (holds w) c id) w.subs (λ s. refl)

pub none_out_end : (presented : List Sub) (w : World) → KeepsAlways w → (c : Client) (s : Resource) → Contains (feed presented (give_back w)).clients c
    → Contains c.resources s
    → is_held (feed presented (give_back w)) c.number s.id ≡ false → s.queued ≡ s.lent
unfolding feed give_back
none_out_end presented w h c s p q e =
    let m = contains_map (queue_returns w) w.clients c p in
    none_out_given w m.0 s (h.shelves m.0 m.1) (subst (λ (x : Client). Contains x.resources s) (sym m.2) q)
    (sym (held_end presented w m.0.number s.id) ∙ (ap (λ (x : Client). is_held (feed presented (give_back w)) x.number s.id) m.2 ∙ e))

-- What is not open had feedback

fed_by : (fed has waits acts flies : Bool) (x y : Fed)
    → ((fed || not (is_none (cond fed None (cond has (Some x) (cond (not (waits || acts) && not flies) (Some y) None))))) || waits || acts || flies) ≡ true
fed_by true has waits acts flies x y = refl
fed_by false true waits acts flies x y = refl
fed_by false false true acts flies x y = refl
fed_by false false false true flies x y = refl
fed_by false false false false true x y = refl
fed_by false false false false false x y = refl

pub open_end : (presented : List Sub) (w : World)
    → list_all (λ s. s.fed || is_waiting s || is_active s || is_in_flight (feed presented w).in_flight (sub_of s)) (feed presented w).subs ≡ true
unfolding feed
open_end presented w =
    all_from (λ s. s.fed || is_waiting s || is_active s || is_in_flight w.in_flight (sub_of s)) (map (mark_fed w presented) w.subs) (λ s c.
    let m = contains_map (mark_fed w presented) w.subs s c in
    ap (λ (x : Submission). x.fed || is_waiting x || is_active x || is_in_flight w.in_flight (sub_of x)) (sym m.2)
    ∙ fed_by m.0.fed (has_sub presented (sub_of m.0)) (is_waiting m.0) (is_active m.0) (is_in_flight w.in_flight (sub_of m.0)) _ _)
