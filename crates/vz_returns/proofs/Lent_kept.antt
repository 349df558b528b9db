-- What clients lent stands for a state with the same references.
use Rattle.std.proofs.Common.{◌≡◌, ℕ, Bool, true, false, not, ◌&&◌, ◌||◌, ◌==◌, Option, Some, None, List, [], ◌∷◌, ◌+◌, count_by, length, map, slice_get, refl, ap, sym, ◌∙◌, arith, cond, Contains}
use Rattle.std.proofs.{lemmas.Bool.Decides.nat_tests, lemmas.List.length-map, lemmas.List.map-id}
use Rattle.vz_ids.specs.{declared.FrameSinkId.FrameSinkId, declared.LocalSurfaceId.LocalSurfaceId, declared.Sub.Sub}
use Rattle.vz_pixels.specs.Block.{Block}
use Rattle.vz_frame.specs.declared.message.Message.TheVariants.{Close}
use Rattle.vz_rules.specs.{declared.entry.Refusal.Refusal, Plan.Plan, Reach.name_one, Reach.naming, Returns.feed, Returns.mark_fed, Singly.rising}
use Rattle.vz_rules.specs.declared.entry.Refusal.TheVariants as refusal
use Rattle.vz_rules.specs.declared.entry.Reply.TheVariants as reply
use Rattle.vz_rules.specs.World.{World, Client, Surface, Resource, Submission, exists, is_waiting, is_active, has_sub, sub_of}
use Rattle.vz_rules.specs.Messages.{Answer, says, id_of, took, taking, refused, put_resource, upload_answer, hierarchy_answer, hierarchy_refusal, unless_refused, root_answer, await_answer, message_answer, mark_of, in_use, relate}
use Rattle.vz_rules.specs.{Step.begin_answer, Step.deliver, Step.next_tick, Step.is_attached, Kept.KeepsAlways, Kept.AreRising, Kept.borrows}
use Rattle.vz_rules.proofs.Members.{at_map, at_within, at_contains, contains_at, when_same}
use Rattle.vz_rules.proofs.{Counts.count_none, Rising.counted, Rising.Rising, Given.id_of as resource_id, Totals.answered_stored}
use Rattle.vz_returns.specs.{Released.alive_in, Released.holds_there, Released.out_in, Lent.Lent, Lent.AreLent, Lent.IsLender}
use Rattle.vz_returns.specs.Quiet.{KeepsReferences, AreAlike}
use Rattle.vz_returns.proofs.Alive.{alive_step, split_by, exists_kept, false_and}

-- a client of the other state with the same references
pub record IsAs (w : World) (n : ℕ) (d : Client) : Type 0 where
  pub before : Client
  pub at : slice_get w.clients n ≡ Some before
  pub number : d.number ≡ before.number
  pub out : (id : ℕ) → out_in d.resources id ≡ out_in before.resources id
  pub queue : d.queue ≡ before.queue

pub lent_same : (w v : World) (items : List Lent) → length v.clients ≡ length w.clients
    → ((n : ℕ) (d : Client) → slice_get v.clients n ≡ Some d → IsAs w n d)
    → ((c id : ℕ) → alive_in v c id ≡ alive_in w c id) → AreLent w items → AreLent v items
lent_same w v items many same alive lent =
    record {
      many = lent.many ∙ sym many;
      each = λ n d l p q.
          let on = same n d p in
          let counts = lent.each n on.before l on.at q in
          record {
            client = counts.client ∙ sym on.number;
            rising = counts.rising;
            some = counts.some;
            received = λ id. counts.received id ∙ sym (on.out id);
            alive = λ id. omega (arith, counts.alive id, alive on.before.number id, ap (λ m. alive_in v m id) on.number);
            queue = counts.queue ∙ sym on.queue;
          };
    }

-- the clients stay
stays_as : (w v : World) → v.clients ≡ w.clients → (n : ℕ) (d : Client) → slice_get v.clients n ≡ Some d → IsAs w n d
stays_as w v same n d at = record
    { before = d; at = sym (ap (λ l. slice_get l n) same) ∙ at; number = refl; out = λ id. refl; queue = refl }

-- each client is changed, and keeps its references
changed_as : (w : World) (f : Client → Client) → KeepsReferences f → (n : ℕ) (d : Client) → slice_get (map f w.clients) n ≡ Some d
    → IsAs w n d
changed_as w f keeps n d at = grind (arith, nat_tests, at_map)

pub keeps_when : (f : Client → Client) (test : Client → Bool) → KeepsReferences f → KeepsReferences (λ c. cond (test c) (f c) c)
keeps_when f test keeps = grind (arith, nat_tests, when_same)

pub keeps_taking : (f : Client → Client) → KeepsReferences f → KeepsReferences (λ c. took (f c))
keeps_taking f keeps = record { number = keeps.number; resources = keeps.resources; queue = keeps.queue }

-- one client takes a message
pub lent_taking : (f : Client → Client) (c : Client) (w : World) (items : List Lent) → KeepsReferences f → AreLent w items
    → AreLent (taking f c w) items
unfolding alive_in
lent_taking f c w items keeps lent =
    lent_same w (taking f c w) items (length-map w.clients (λ x. cond (x.number == c.number) (took (f x)) x))
    (changed_as w (λ x. cond (x.number == c.number) (took (f x)) x)
    (keeps_when (λ x. took (f x)) (λ x. x.number == c.number) (keeps_taking f keeps))) (λ q id. refl) lent

keeps_all : KeepsReferences (λ c. c)
keeps_all = record { number = λ c. refl; resources = λ c. refl; queue = λ c. refl }

pub lent_alike : (w v : World) (items : List Lent) → AreAlike w v → AreLent w items → AreLent v items
unfolding alive_in
lent_alike w v items same lent = grind (arith, nat_tests, lent_same w v items (ap length same.clients) (stays_as w v same.clients), stays_as w v same.clients)

-- Surfaces

alive_kept : (w v : World) → v.subs ≡ w.subs → v.in_flight ≡ w.in_flight
    → ((s : Submission) → exists v s.submitted.id ≡ exists w s.submitted.id) → (c id : ℕ) → alive_in v c id ≡ alive_in w c id
alive_kept w v subs flight stand c id =
    let all =
    alive_step w v (λ s. s) (λ s. false) (subs ∙ sym (map-id w.subs)) flight (λ s. refl)
    (λ s q. split_by _ _ false (sym (ap (λ b. (is_waiting s || is_active s) && b) (stand s))) refl) c id in
    omega (arith, all, count_none (λ s. borrows c id s && false) w.subs (λ s q. false_and (borrows c id s)))

pub lent_naming : (w : World) (items : List Lent) → AreLent w items → AreLent (naming w) items
unfolding naming
lent_naming w items lent =
    lent_same w (naming w) items refl (stays_as w (naming w) refl)
    (alive_kept w (naming w) refl refl
    (λ s. exists_kept (name_one w) w.surfaces s.submitted.id
    (λ c. when_same (λ (x : Surface). x.id) (λ c. record c { named = true }) _ c refl)
    (λ c. when_same (λ (x : Surface). x.destroyed) (λ c. record c { named = true }) _ c refl))) lent

pub lent_closed : (w : World) (c : Client) (items : List Lent) → AreLent w items → AreLent (message_answer w c Close).world items
unfolding message_answer
lent_closed w c items lent =
    let gone : Client → Client = λ (x : Client). record x { closed = true } in
    let first = lent_taking gone c w items (record { number = λ x. refl; resources = λ x. refl; queue = λ x. refl }) lent in
    let v : World = (message_answer w c Close).world in
    lent_same (taking gone c w) v items refl (stays_as (taking gone c w) v refl)
    (alive_kept (taking gone c w) v refl refl
    (λ s. exists_kept (mark_of c.number) w.surfaces s.submitted.id
    (λ d. when_same (λ (x : Surface). x.id) (λ d. record d { marked = true }) _ d refl)
    (λ d. when_same (λ (x : Surface). x.destroyed) (λ d. record d { marked = true }) _ d refl))) first

-- Submissions

pub lent_fed : (presented : List Sub) (w : World) (items : List Lent) → AreLent w items → AreLent (feed presented w) items
unfolding feed
lent_fed presented w items lent =
    lent_same w (feed presented w) items refl (stays_as w (feed presented w) refl)
    (λ c id. let all = alive_step w (feed presented w) (mark_fed w presented) (λ s. false) refl refl (λ s. refl)
    (λ s q. split_by _ _ false refl refl) c id in
    omega (arith, all, count_none (λ s. borrows c id s && false) w.subs (λ s q. false_and (borrows c id s)))) lent

-- Messages

by_refusal : (P : World → Type 0) (w : World) (c : Client) (o : Option Refusal) (a : Answer) → P (taking (λ x. x) c w) → P a.world
    → P (unless_refused w c o a).world
by_refusal P w c None a first other = other
by_refusal P w c (Some r) a first other = first

pub lent_hierarchy : (w : World) (c : Client) (parent child : FrameSinkId) (items : List Lent) → AreLent w items
    → AreLent (hierarchy_answer w c parent child).world items
unfolding hierarchy_answer alive_in
lent_hierarchy w c parent child items lent =
    let taken = lent_taking (λ x. x) c w items keeps_all lent in
    by_refusal (λ v. AreLent v items) w c (hierarchy_refusal w c parent child) _ taken
    (lent_alike (taking (λ x. x) c w) (record (taking (λ x. x) c w) { relations = relate parent child w.relations }) items
    (record { clients = refl; surfaces = refl; subs = refl; in_flight = refl }) taken)

one_of : (P : World → Type 0) (t : Bool) (a b : Answer) → P a.world → P b.world → P (cond t a b).world
one_of P true a b first other = first
one_of P false a b first other = other

pub lent_root : (w : World) (c : Client) (local : LocalSurfaceId) (items : List Lent) → AreLent w items
    → AreLent (root_answer w c local).world items
unfolding root_answer
lent_root w c local items lent =
    let taken = lent_taking (λ x. x) c w items keeps_all lent in
    one_of (λ v. AreLent v items) (c.number == 1) (says reply.Rooted (record (taking (λ x. x) c w) { root = Some (id_of c local) }))
    (refused w c refusal.NotRoot)
    (lent_alike (taking (λ x. x) c w) (record (taking (λ x. x) c w) { root = Some (id_of c local) }) items
    (record { clients = refl; surfaces = refl; subs = refl; in_flight = refl }) taken) taken

await_by : (w : World) (c : Client) (items : List Lent) → AreLent w items → (o : Option ℕ)
    → AreLent (elim o as (λ (o : Option ℕ). Answer) [
      | Some n ↦ says (reply.Began n) (taking (λ (x : Client). record x { delivered = None }) c w)
      | None ↦ cond w.over (says reply.Over (taking (λ x. x) c w)) (says (reply.Refused refusal.NotYet) w)
    ]).world items
await_by w c items lent (Some n) = lent_taking (λ (x : Client). record x { delivered = None }) c w items
    (record { number = λ x. refl; resources = λ x. refl; queue = λ x. refl }) lent
await_by w c items lent None =
    one_of (λ v. AreLent v items) w.over (says reply.Over (taking (λ x. x) c w)) (says (reply.Refused refusal.NotYet) w)
    (lent_taking (λ x. x) c w items keeps_all lent) lent

pub lent_awaits : (w : World) (c : Client) (items : List Lent) → AreLent w items → AreLent (await_answer w c).world items
unfolding await_answer
lent_awaits w c items lent = await_by w c items lent c.delivered

pub lent_begun : (p : Plan) (w : World) (items : List Lent) → AreLent w items → AreLent (begin_answer p w).world items
unfolding begin_answer alive_in
lent_begun p w items lent =
    let tick = next_tick w.tick in
    let gives : Client → Client = λ c. record c { delivered = Some tick } in
    lent_same w (begin_answer p w).world items (length-map w.clients (deliver p w tick))
    (changed_as w (deliver p w tick)
    (keeps_when gives (λ c. is_attached p w c && not c.closed)
    (record { number = λ c. refl; resources = λ c. refl; queue = λ c. refl }))) (λ c id. refl) lent

-- A drawn frame in another order

pub lent_ordered : (w : World) (a b : List Sub) (items : List Lent) → ((sub : Sub) → has_sub a sub ≡ has_sub b sub)
    → AreLent (record w { in_flight = Some a }) items → AreLent (record w { in_flight = Some b }) items
unfolding alive_in
lent_ordered w a b items same lent =
    let v : World = record w { in_flight = Some a } in
    let back : (sub : Sub) → has_sub b sub ≡ has_sub a sub = λ sub. sym (same sub) in
    lent_same v (record w { in_flight = Some b }) items refl (stays_as v (record w { in_flight = Some b }) refl)
    (λ c id i. count_by (λ (s : Submission). borrows c id s && holds_there w s) w.subs
    + count_by (λ (s : Submission). borrows c id s && back (sub_of s) i) w.subs) lent

-- A drawn frame of nothing

pub lent_none_drawn : (w : World) (items : List Lent) → w.in_flight ≡ None → AreLent w items
    → AreLent (record w { in_flight = Some [] }) items
unfolding alive_in
lent_none_drawn w items none lent =
    let v : World = record w { in_flight = None } in
    let first = lent_alike w v items (record { clients = refl; surfaces = refl; subs = refl; in_flight = sym none }) lent in
    lent_same v (record w { in_flight = Some [] }) items refl (stays_as v (record w { in_flight = Some [] }) refl) (λ c id. refl) first

pub lent_all_done : (w : World) (items : List Lent) → AreLent (record w { in_flight = Some [] }) items
    → AreLent (record w { in_flight = None }) items
unfolding alive_in
lent_all_done w items lent =
    let v : World = record w { in_flight = Some [] } in
    lent_same v (record w { in_flight = None }) items refl (stays_as v (record w { in_flight = None }) refl) (λ c id. refl) lent

-- Uploads

rising_is : (rs : List Resource) → AreRising rs → Rising resource_id rs
rising_is [] up = tt
rising_is (r ∷ rs) up = (up.0, rising_is rs up.1)

out_stored : (x : Client) (id j : ℕ) (block : Block) → AreRising x.resources
    → out_in (put_resource id block x.resources) j ≡ out_in x.resources j
unfolding out_in
out_stored x id j block up = grind (arith, nat_tests, answered_stored j id block x (rising_is x.resources up), counted)

pub lent_uploaded : (w : World) (c : Client) (id : ℕ) (block : Block) (items : List Lent) → KeepsAlways w → AreLent w items
    → AreLent (upload_answer w c id block).world items
unfolding upload_answer alive_in
lent_uploaded w c id block items always lent =
    let stores : Client → Client = λ x. record x { resources = put_resource id block x.resources } in
    let f : Client → Client = λ x. cond (x.number == c.number) (took (stores x)) x in
    one_of (λ v. AreLent v items) (in_use c.resources id) (refused w c refusal.InUse) (says reply.Stored (taking stores c w))
    (lent_taking (λ x. x) c w items keeps_all lent)
    (lent_same w (taking stores c w) items (length-map w.clients f) (λ n d at. uploaded n d (at_map f w.clients n d at)) (λ q j. refl) lent)
  where
    out_when : (t : Bool) (x : Client) (j : ℕ) → AreRising x.resources
        → out_in (cond t (took (record x { resources = put_resource id block x.resources })) x).resources j ≡ out_in x.resources j
    out_when true x j up = out_stored x id j block up
    out_when false x j up = refl

    uploaded : (n : ℕ) (d : Client)
        → (x : Client) × (slice_get w.clients n ≡ Some x) ×
        (cond (x.number == c.number) (took (record x { resources = put_resource id block x.resources })) x ≡ d) → IsAs w n d
    uploaded n d m =
        let shelf = always.shelves m.0 (at_contains w.clients n m.0 m.1) in
        let stores : Client → Client = λ x. took (record x { resources = put_resource id block x.resources }) in
        record {
          before = m.0;
          at = m.1;
          number = ap (λ (x : Client). x.number) (sym m.2) ∙ when_same (λ (x : Client). x.number) stores (m.0.number == c.number) m.0 refl;
          out = λ j. ap (λ (x : Client). out_in x.resources j) (sym m.2) ∙ out_when (m.0.number == c.number) m.0 j shelf.rising;
          queue = ap (λ (x : Client). x.queue) (sym m.2) ∙ when_same (λ (x : Client). x.queue) stores (m.0.number == c.number) m.0 refl;
        }

-- Each client lends

pub lends : (w : World) (c : Client) (items : List Lent) → KeepsAlways w → Contains w.clients c → AreLent w items → IsLender c.number items
lends w c items always there lent = grind (arith, nat_tests, contains_at w.clients c there, at_within w.clients)
