-- Own changes after which nothing follows: what is kept between steps is kept by them.
use Rattle.std.proofs.Common.{◌≡◌, ℕ, Bool, true, false, not, ◌&&◌, ◌||◌, ◌==◌, ◌⊎◌, inl, inr, List, [], ◌∷◌, map, map-id, refl, ap, sym, ◌∙◌, cond, subst, Contains}
use Rattle.std.specs.List.{list_any}
use Rattle.std.proofs.lemmas.Bool.{and_parts, and_from, or_cases, or_left, or_right}
use Rattle.vz_frame.specs.Frame.{lists}
use Rattle.vz_ids.specs.declared.SurfaceId.{SurfaceId}
use Rattle.vz_ids.specs.declared.Sub.{Sub}
use Rattle.vz_rules.specs.World.{World, Client, Resource, Submission, active_frames, is_waiting, is_active, is_in_flight, sub_of}
use Rattle.vz_rules.specs.Settle.{ready}
use Rattle.vz_rules.specs.Reach.{names, is_named_now, name_one, naming, lost_in}
use Rattle.vz_rules.specs.Returns.{holds, is_held}
use Rattle.vz_rules.specs.Kept.{KeepsAlways, Keeps, holds_of, stands_in}
use Rattle.vz_rules.proofs.Members.{contains_map, any_map, any_at, any_from, all_at, all_from}
use Rattle.vz_rules.proofs.Kept_ends.{ready_wanes}
use Rattle.vz_rules.proofs.Kept_once.{Cleared}
use Rattle.vz_rules.proofs.Kept_reach.{none_lost_after, named_is}
use Rattle.vz_rules.proofs.Kept_collected.{cleared_by, clearing_stays}

-- submissions and surfaces stay, and of clients what counts for them. What was in flight is, and what is new in a client's
-- resources is not out
pub record IsIdle (w v : World) (k : Client → Client) : Type 0 where
  pub subs : v.subs ≡ w.subs
  pub surfaces : v.surfaces ≡ w.surfaces
  pub tick : v.tick ≡ w.tick
  pub root : v.root ≡ w.root
  pub clients : v.clients ≡ map k w.clients
  pub number : (c : Client) → (k c).number ≡ c.number
  pub sink : (c : Client) → (k c).sink ≡ c.sink
  pub closed : (c : Client) → (k c).closed ≡ c.closed
  pub flies : (sub : Sub) → is_in_flight w.in_flight sub ≡ true → is_in_flight v.in_flight sub ≡ true
  pub totals : (c : Client) (s : Resource) → Contains w.clients c → Contains (k c).resources s
      → (s.queued ≡ s.lent) ⊎ ((r : Resource) × Contains c.resources r × (r.id ≡ s.id) × (r.queued ≡ r.lent → s.queued ≡ s.lent))

idle_ready : (w v : World) (k : Client → Client) → IsIdle w v k → ready w ≡ [] → ready v ≡ []
idle_ready w v k i none =
    ready_wanes w v (λ s. s) k (record {
      subs = map-id w.subs ∙ sym i.subs;
      clients = sym i.clients;
      tick = i.tick;
      ends = record { submitted = λ s. refl; waits = λ s e. e; acts = λ s e. e; was = λ s. refl };
      due = λ s. refl;
      closed = i.closed;
      sink = i.sink;
    }) none

named_same : (w v : World) (k : Client → Client) → IsIdle w v k → (id : SurfaceId) → is_named_now v id ≡ is_named_now w id
named_same w v k i id =
    named_is v id
    ∙ (ap (λ l. list_any (λ j. stands_in l j.id && list_any (names id) j.frame.metadata.references) (active_frames v.subs)) i.surfaces
    ∙ (ap (λ l. list_any (λ j. stands_in w.surfaces j.id && list_any (names id) j.frame.metadata.references) (active_frames l)) i.subs ∙ sym (named_is w id)))

map_same : {A B : Type 0} (f g : A → B) (xs : List A) → ((x : A) → f x ≡ g x) → map f xs ≡ map g xs
map_same f g [] h = refl
map_same f g (x ∷ xs) h = ap (λ y. y ∷ map f xs) (h x) ∙ ap (λ l. g x ∷ l) (map_same f g xs h)

idle_named : (w v : World) (k : Client → Client) → IsIdle w v k → naming w ≡ w → naming v ≡ v
unfolding naming
idle_named w v k i named =
    ap (λ l. record v { surfaces = l })
    (map_same (name_one v) (name_one w) v.surfaces (λ c. ap (λ t. cond (not c.destroyed && t) (record c { named = true }) c) (named_same w v k i c.id))
    ∙ (ap (map (name_one w)) i.surfaces ∙ (ap (λ (x : World). x.surfaces) named ∙ sym i.surfaces)))

idle_cleared : (w v : World) (k : Client → Client) → IsIdle w v k → lost_in w ≡ [] → Cleared w v
idle_cleared w v k i none =
    let same = clearing_stays w none in
    let c = cleared_by w in
    record {
      active = ap active_frames i.subs ∙ (ap (λ (x : World). active_frames x.subs) (sym same) ∙ c.active);
      surfaces = i.surfaces ∙ (ap (λ (x : World). x.surfaces) (sym same) ∙ c.surfaces);
      root = i.root;
      tick = i.tick;
      closed = λ n.
          ap (list_any (λ (x : Client). (x.number == n) && x.closed)) i.clients
          ∙ any_map k (λ (x : Client). (x.number == n) && x.closed) (λ (x : Client). (x.number == n) && x.closed) w.clients
          (λ x. ap (λ m. (m == n) && (k x).closed) (i.number x) ∙ ap (λ t. (x.number == n) && t) (i.closed x));
    }

holds_still : (w v : World) (k : Client → Client) (s : Submission) → IsIdle w v k → holds w s ≡ true → holds v s ≡ true
holds_still w v k s i h =
    elim (or_cases ((is_waiting s || is_active s) && stands_in w.surfaces s.submitted.id) (is_in_flight w.in_flight (sub_of s)) h) [
      | inl e ↦ or_left ((is_waiting s || is_active s) && stands_in v.surfaces s.submitted.id) (is_in_flight v.in_flight (sub_of s))
          (ap (λ l. (is_waiting s || is_active s) && stands_in l s.submitted.id) i.surfaces ∙ e)
      | inr e ↦ or_right ((is_waiting s || is_active s) && stands_in v.surfaces s.submitted.id) (is_in_flight v.in_flight (sub_of s)) (i.flies (sub_of s) e)
    ]

held_still : (w v : World) (k : Client → Client) (c id : ℕ) → IsIdle w v k → is_held w c id ≡ true → is_held v c id ≡ true
unfolding is_held
held_still w v k c id i h =
    let m = any_at (holds_of (holds w) c id) w.subs h in
    let outer = and_parts ((m.0.submitted.sub.client == c) && holds w m.0) (list_any (lists id) m.0.submitted.frame.resources) m.2 in
    let inner = and_parts (m.0.submitted.sub.client == c) (holds w m.0) outer.0 in
    any_from (holds_of (holds v) c id) v.subs m.0 (subst (λ l. Contains l m.0) (sym i.subs) m.1)
    (and_from ((m.0.submitted.sub.client == c) && holds v m.0) (list_any (lists id) m.0.submitted.frame.resources)
    (and_from (m.0.submitted.sub.client == c) (holds v m.0) inner.0 (holds_still w v k m.0 i inner.1)) outer.1)

not_held : (a b : Bool) → (a ≡ true → b ≡ true) → b ≡ false → a ≡ false
not_held true b h e = sym (h refl) ∙ e
not_held false b h e = refl

open_still : (fed waits acts flies more : Bool) → (flies ≡ true → more ≡ true) → (fed || waits || acts || flies) ≡ true → (fed || waits || acts || more) ≡ true
open_still true waits acts flies more h e = refl
open_still false true acts flies more h e = refl
open_still false false true flies more h e = refl
open_still false false false true more h e = h refl
open_still false false false false more h e = absurd (cc)

pub keeps_idle : (w v : World) (k : Client → Client) → IsIdle w v k → KeepsAlways v → Keeps w → Keeps v
keeps_idle w v k i always h =
    record {
      always = always;
      none_ready = idle_ready w v k i h.none_ready;
      all_named = idle_named w v k i h.all_named;
      none_lost = none_lost_after w v h.always (idle_cleared w v k i h.none_lost);
      none_out = λ c s p q e.
          let m = contains_map k w.clients c (subst (λ l. Contains l c) i.clients p) in
          let here = subst (λ (x : Client). Contains x.resources s) (sym m.2) q in
          elim (i.totals m.0 s m.1 here) [
            | inl same ↦ same
            | inr r ↦
                let unheld : is_held v m.0.number r.0.id ≡ false =
                ap (is_held v m.0.number) r.2 ∙ (ap (λ n. is_held v n s.id) (sym (i.number m.0) ∙ ap (λ (x : Client). x.number) m.2) ∙ e) in
                r.3 (h.none_out m.0 r.0 m.1 r.1 (not_held (is_held w m.0.number r.0.id) (is_held v m.0.number r.0.id) (held_still w v k m.0.number r.0.id i) unheld))
          ];
      open_ones =
          all_from (λ s. s.fed || is_waiting s || is_active s || is_in_flight v.in_flight (sub_of s)) v.subs (λ s p.
          open_still s.fed (is_waiting s) (is_active s) (is_in_flight w.in_flight (sub_of s)) (is_in_flight v.in_flight (sub_of s)) (i.flies (sub_of s))
          (all_at (λ (x : Submission). x.fed || is_waiting x || is_active x || is_in_flight w.in_flight (sub_of x)) w.subs s h.open_ones (subst (λ l. Contains l s) i.subs p)));
    }
