-- What is kept between steps is kept of the first world, and so of each history.
use Rattle.std.proofs.Common.{◌≡◌, ℕ, zero, suc, ◌+◌, ◌<◌, Bool, true, false, inl, inr, Option, Some, None, List, [], ◌∷◌, refl, ap, sym, ◌∙◌, arith, cond, subst, slice_get, Contains}
use Rattle.std.proofs.lemmas.Bool.{both_ways, cases_order, or_parts}
use Rattle.vz_ids.specs.declared.FrameSinkId.{FrameSinkId}
use Rattle.vz_ids.specs.Ids.{same_sink}
use Rattle.vz_frame.specs.declared.message.ClientFile.{ClientFile}
use Rattle.vz_rules.specs.declared.entry.Entry.{Entry}
use Rattle.vz_rules.specs.Plan.{Plan, IsPlan, has_sink, taken_from, first_taken}
use Rattle.vz_rules.specs.World.{World, Client, Submission, new_client, new_clients, opening}
use Rattle.vz_rules.specs.Settle.{ready}
use Rattle.vz_rules.specs.Reach.{naming, lost_in}
use Rattle.vz_rules.specs.Step.{step_in, world_from, world}
use Rattle.vz_rules.specs.Kept.{KeepsClients, KeepsAlways, KeepsShelf, Keeps}
use Rattle.vz_rules.proofs.Reached.{from_same_sink, self_same_sink}
use Rattle.vz_rules.proofs.Members.{contains_none, contains_at}
use Rattle.vz_rules.proofs.Kept_accepted.{flight_none}
use Rattle.vz_rules.proofs.Kept_between.{keeps_step}

-- a client of the first world, and its file
pub client_at_first : (files : List ClientFile) (k n : ℕ) (c : Client) → slice_get (new_clients k files) n ≡ Some c
    → (f : ClientFile) × (slice_get files n ≡ Some f) × (c ≡ new_client (k + n) f.sink)
client_at_first [] k n c h = absurd (cc)
client_at_first (f ∷ files) k zero c h =
    let same : new_client k f.sink ≡ c = cc in
    let number : k ≡ k + 0 = omega arith in
    (f, refl, sym same ∙ ap (λ n. new_client n f.sink) number)
client_at_first (f ∷ files) k (suc n) c h =
    let r = client_at_first files (k + 1) n c h in
    let number : k + 1 + n ≡ k + suc n = omega arith in
    (r.0, r.1, r.2 ∙ ap (λ n. new_client n r.0.sink) number)

-- files whose sinks no earlier one has
taken_by : (t : Bool) (k : ℕ) (o : Option ℕ) → cond t (Some k) o ≡ None → (t ≡ false) × (o ≡ None)
taken_by true k o h = absurd (cc)
taken_by false k o h = (refl, h)

not_earlier : (earlier : List FrameSinkId) (k : ℕ) (files : List ClientFile) (n : ℕ) (f : ClientFile) → taken_from earlier k files ≡ None
    → slice_get files n ≡ Some f
    → has_sink earlier f.sink ≡ false
not_earlier earlier k [] n f h p = absurd (cc)
not_earlier earlier k (x ∷ files) zero f h p =
    let same : x ≡ f = cc in
    ap (λ (y : ClientFile). has_sink earlier y.sink) (sym same) ∙ (taken_by (has_sink earlier x.sink) k (taken_from (x.sink ∷ earlier) (k + 1) files) h).0
not_earlier earlier k (x ∷ files) (suc n) f h p =
    (or_parts (same_sink f.sink x.sink) (has_sink earlier f.sink) (not_earlier (x.sink ∷ earlier) (k + 1) files n f (taken_by (has_sink earlier x.sink) k (taken_from (x.sink ∷ earlier) (k + 1) files) h).1 p)).1

sinks_differ : (earlier : List FrameSinkId) (k : ℕ) (files : List ClientFile) (n m : ℕ) (f g : ClientFile) → taken_from earlier k files ≡ None
    → slice_get files n ≡ Some f → slice_get files m ≡ Some g
    → n < m → same_sink g.sink f.sink ≡ true → ⊥
sinks_differ earlier k [] n m f g h p q l e = absurd (cc)
sinks_differ earlier k (x ∷ files) n zero f g h p q l e = omega (arith, l)
sinks_differ earlier k (x ∷ files) zero (suc m) f g h p q l e =
    let same : x ≡ f = cc in
    let rest = (taken_by (has_sink earlier x.sink) k (taken_from (x.sink ∷ earlier) (k + 1) files) h).1 in
    both_ways (same_sink g.sink x.sink) (or_parts (same_sink g.sink x.sink) (has_sink earlier g.sink) (not_earlier (x.sink ∷ earlier) (k + 1) files m g rest q)).0
    (ap (λ (y : ClientFile). same_sink g.sink y.sink) same ∙ e)
sinks_differ earlier k (x ∷ files) (suc n) (suc m) f g h p q l e =
    sinks_differ (x.sink ∷ earlier) (k + 1) files n m f g (taken_by (has_sink earlier x.sink) k (taken_from (x.sink ∷ earlier) (k + 1) files) h).1 p q (omega (arith, l)) e

clients_first : (files : List ClientFile) → first_taken files ≡ None → KeepsClients (new_clients 1 files)
unfolding first_taken
clients_first files h =
    record {
      numbered = λ n c p. let r = client_at_first files 1 n c p in ap (λ (x : Client). x.number) r.2 ∙ omega arith;
      distinct = λ n m c d p q same.
          let a = client_at_first files 1 n c p in
          let b = client_at_first files 1 m d q in
          let sink : a.0.sink ≡ b.0.sink = ap (λ (x : Client). x.sink) (sym a.2) ∙ (from_same_sink c.sink d.sink same ∙ ap (λ (x : Client). x.sink) b.2) in
          elim (cases_order n m) [
            | inl e ↦ e
            | inr r ↦ elim r [
              | inl l ↦ absurd (sinks_differ [] 0 files n m a.0 b.0 h a.1 b.1 l (ap (λ x. same_sink x a.0.sink) (sym sink) ∙ self_same_sink a.0.sink))
              | inr l ↦ absurd (sinks_differ [] 0 files m n b.0 a.0 h b.1 a.1 l (ap (λ x. same_sink x b.0.sink) sink ∙ self_same_sink b.0.sink))
            ]
          ];
    }

shelf_first : (holding : Submission → Bool) (n : ℕ) (c : Client) (f : ClientFile) → c ≡ new_client n f.sink → KeepsShelf holding [] c
shelf_first holding n c f e =
    subst (λ x. KeepsShelf holding [] x) (sym e)
    (record {
      taken = omega arith;
      rising = tt;
      listed = λ s l p by q. absurd (contains_none s p);
      totals = λ s p. absurd (contains_none s p);
      returns = λ r p. absurd (contains_none r p);
    })

always_first : (p : Plan) → IsPlan p → KeepsAlways (opening p)
unfolding opening
always_first p is =
    let made : (c : Client) → Contains (new_clients 1 p.files) c → (n : ℕ) × (f : ClientFile) × (c ≡ new_client n f.sink) = λ c q.
    let at = contains_at (new_clients 1 p.files) c q in
    let r = client_at_first p.files 1 at.0 c at.1 in
    (1 + at.0, r.0, r.2) in
    record {
      clients = clients_first p.files is.distinct;
      surfaces = record {
        numbered = λ n s q. absurd (cc);
        of_clients = λ s q. absurd (contains_none s q);
        go_on = λ n m s t q r l e. absurd (cc);
        destroyed = λ s q e. absurd (contains_none s q);
      };
      last_stays = λ c s q o e. absurd (cc);
      numbers = record { numbered = λ n s q. absurd (cc); ordered = λ n s q. absurd (cc); created = λ s q. absurd (contains_none s q) };
      few_created = λ c. omega arith;
      states = record {
        one_waits = λ id. omega arith;
        one_is_active = λ id. omega arith;
        waits_later = λ s t q r w a e. absurd (contains_none s q);
        stand = λ s q o. absurd (contains_none s q);
        was_active = λ s q o. absurd (contains_none s q);
        was_not = λ s q o. absurd (contains_none s q);
      };
      in_flight = flight_none [];
      shelves = λ c q. let m = made c q in shelf_first _ m.0 c m.1 m.2;
      time = record {
        tick = omega arith;
        born = λ s q. absurd (contains_none s q);
        delivered = λ c n q e. let m = made c q in let none : ◌≡◌ {A = Option ℕ} None (Some n) = ap (λ (x : Client). x.delivered) (sym m.2) ∙ e in absurd (cc);
        answered = λ c q. let m = made c q in omega (arith, ap (λ (x : Client). x.answered) m.2);
      };
    }

-- between steps, before the first one
pub keeps_first : (p : Plan) → IsPlan p → Keeps (opening p)
unfolding opening ready naming lost_in
keeps_first p is =
    record {
      always = always_first p is;
      none_ready = refl;
      all_named = refl;
      none_lost = refl;
      none_out = λ c s q r e.
          let at = contains_at (new_clients 1 p.files) c q in
          let m = client_at_first p.files 1 at.0 c at.1 in
          absurd (contains_none s (subst (λ (x : Client). Contains x.resources s) m.2 r));
      open_ones = refl;
    }

keeps_from : (p : Plan) (w : World) (h : List Entry) → Keeps w → Keeps (world_from p w h)
unfolding world_from
keeps_from p w [] k = k
keeps_from p w (e ∷ h) k = keeps_from p (step_in p w e.event).world h (keeps_step p w e.event k.always)

-- and after each history
pub keeps_world : (p : Plan) (h : List Entry) → IsPlan p → Keeps (world p h)
unfolding world
keeps_world p h is = keeps_from p (opening p) h (keeps_first p is)
