-- A round, while its submissions become active one after another.
use Rattle.std.proofs.Common.{◌≡◌, ℕ, ◌+◌, ◌<◌, ◌≤◌, true, Option, List, [], ◌∷◌, ◌++◌, length, map, slice_index_or, refl, ap, sym, ◌∙◌}
use Rattle.std.proofs.Common.{subst, arith, Contains, append_assoc, append-nil}
use Rattle.std.proofs.{lemmas.List.map-append, lemmas.List.length-map, lemmas.Bool.Decides.nat_tests, lemmas.Grind.common_steps}
use Rattle.vz_ids.specs.{declared.SurfaceId.SurfaceId, declared.Sub.Sub}
use Rattle.vz_rules.specs.{World.World, World.Submission, World.is_waiting, World.sub_of, Settle.is_ready, Settle.ready, Settle.round}
use Rattle.vz_rules.specs.{Singly.rising, Singly.all_rising, Kept.KeepsAlways}
use Rattle.vz_rules.proofs.{Members.contains_here, Members.contains_there, Members.filter_at, Kept_singly.always_rising, Kept_singly.others_wait}
use Rattle.vz_rules.proofs.{Kept_follows.ready_waits, Kept_rounds.round_singly}
use Rattle.vz_surface_manager.specs.{Live.Live, Live.AreLive, Changes.IsRising, Settles.IsRound}
use Rattle.vz_surface_manager.proofs.Names_differ.{Differ, ready_differ}

-- the surface of a submission
abbrev pub surface_of : Submission → SurfaceId
surface_of s = s.submitted.id

-- the first so many have risen, and the surfaces stand for the state after these
pub record IsRisingOn (w : World) (but : Option SurfaceId) (k : ℕ) (v : Live) (old new : List SurfaceId) : Type 0 where
  pub done : List Submission
  pub rest : List Submission
  pub now : World
  pub all : ready w ≡ done ++ rest
  pub many : length done ≡ k
  pub always : KeepsAlways now
  pub live : AreLive now but v
  pub wait : (t : Submission) → Contains rest t → Contains now.subs t × (is_waiting t ≡ true)
  pub differ : Differ rest
  pub leads : all_rising rest now ≡ round w
  pub ids : new ≡ old ++ map surface_of done

pub begins : (w : World) (but : Option SurfaceId) (subs : List Sub) (v : Live) (old : List SurfaceId) → IsRound w but subs v
    → IsRisingOn w but 0 v old old
unfolding ready
begins w but subs v old h =
    record {
      done = [];
      rest = ready w;
      now = w;
      all = refl;
      many = refl;
      always = h.always;
      live = h.live;
      wait = λ t c. let f = filter_at (is_ready w) w.subs t c in (f.0, ready_waits w t f.1);
      differ = ready_differ w h.always;
      leads = sym (round_singly w h.always);
      ids = sym (append-nil old);
    }

-- the one at the place behind those before
at_place : (done rest : List Submission) (s : Submission) (d : Sub)
    → slice_index_or (map sub_of (done ++ s ∷ rest)) (length done) d ≡ sub_of s
at_place [] rest s d = refl
at_place (x ∷ done) rest s d = at_place done rest s d

none_left : (done : List Submission) (k : ℕ) (subs : List Sub) → subs ≡ map sub_of (done ++ []) → length done ≡ k → k < length subs → ⊥
none_left done k subs e many inside =
    omega (arith, inside, many, ap length e, length-map (done ++ []) (λ (s : Submission). sub_of s), ap length (append-nil done))

one_more : (done : List Submission) (s : Submission) → length (done ++ s ∷ []) ≡ length done + 1
one_more [] s = refl
one_more (x ∷ done) s = omega (arith, one_more done s)

module _ (w : World) (but : Option SurfaceId) (subs : List Sub) (k : ℕ) (d : Sub) (v : Live) (old new : List SurfaceId)
    (ready_is : subs ≡ map sub_of (ready w))
    (inside : k < length subs) (h : IsRisingOn w but k v old new) where
  -- the next one
  pub record Next : Type 0 where
    pub one : Submission
    pub more : List Submission
    pub is : h.rest ≡ one ∷ more

  pub next : Next
  next = by h.rest refl
    where
      by : (l : List Submission) → h.rest ≡ l → Next
      by [] e = absurd (none_left h.done k subs (ready_is ∙ ap (map sub_of) (h.all ∙ ap (λ l. h.done ++ l) e)) h.many inside)
      by (s ∷ ss) e = record { one = s; more = ss; is = e }

  its_name : sub_of next.one ≡ slice_index_or subs k d
  its_name = grind (arith, nat_tests, at_place h.done)

  first_waits : Contains h.now.subs next.one × (is_waiting next.one ≡ true)
  first_waits = h.wait next.one (subst (λ l. Contains l next.one) (sym next.is) (contains_here next.one next.more))

  pub rises : IsRising h.now but next.one (slice_index_or subs k d) v
  rises = record { always = h.always; live = h.live; known = first_waits.0; waits = first_waits.1; name = its_name }

  pub goes_on : (u : Live) (id : SurfaceId) (ids : List SurfaceId) → AreLive (rising next.one h.now) but u → id ≡ next.one.submitted.id
      → ids ≡ new ++ id ∷ []
      → IsRisingOn w but (k + 1) u old ids
  unfolding all_rising
  goes_on u id ids live is put =
      let differ : Differ (next.one ∷ next.more) = subst Differ next.is h.differ in
      record {
        done = h.done ++ next.one ∷ [];
        rest = next.more;
        now = rising next.one h.now;
        all = h.all ∙ (ap (λ l. h.done ++ l) next.is ∙ sym (append_assoc h.done (next.one ∷ []) next.more));
        many = omega (arith, one_more h.done next.one, h.many);
        always = always_rising h.now next.one h.always first_waits.0 first_waits.1;
        live = live;
        wait = λ t c.
            let before = h.wait t (subst (λ l. Contains l t) (sym next.is) (contains_there next.one t next.more c)) in
            (others_wait h.now next.one t before.0 before.1 (differ.0 t c), before.1);
        differ = differ.1;
        leads = ap (λ l. all_rising l h.now) (sym next.is) ∙ h.leads;
        ids = put ∙ (ap (λ l. l ++ id ∷ []) h.ids
            ∙ (append_assoc old (map surface_of h.done) (id ∷ [])
            ∙ ap (λ l. old ++ l) ((λ i. map surface_of h.done ++ is i ∷ []) ∙ sym (map-append surface_of h.done (next.one ∷ [])))));
      }

-- after the last one
module _ (w : World) (but : Option SurfaceId) (subs : List Sub) (k : ℕ) (v : Live) (old new : List SurfaceId)
    (ready_is : subs ≡ map sub_of (ready w))
    (over : length subs ≤ k) (h : IsRisingOn w but k v old new) where
  no_rest : h.rest ≡ []
  no_rest = grind (arith, nat_tests, common_steps, length-map)

  pub rounded : AreLive (round w) but v
  unfolding all_rising
  rounded = subst (λ x. AreLive x but v) (ap (λ l. all_rising l h.now) (sym no_rest) ∙ h.leads) h.live

  pub told : new ≡ old ++ map surface_of (ready w)
  told = h.ids ∙ ap (λ l. old ++ map surface_of l) (sym (h.all ∙ (ap (λ l. h.done ++ l) no_rest ∙ append-nil h.done)))
