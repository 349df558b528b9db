-- The waiting submissions that are found, and what is counted of clients, where a submission is accepted.
use Rattle.std.proofs.Common.{◌≡◌, ℕ, ◌+◌, ◌≤◌, Bool, true, false, ◌&&◌, ◌==◌, inl, inr, Option, Some, None, List, [], ◌∷◌, ◌++◌, map, find, refl, ap, sym, ◌∙◌, arith, cond, subst, Contains, count_by, is_some}
use Rattle.std.proofs.lemmas.Bool.Decides.{nat_tests}
use Rattle.std.specs.Option.{option_map}
use Rattle.std.specs.List.{list_any}
use Rattle.std.proofs.lemmas.Bool.{and_parts, both_ways, eq-eqb, eqb-true}
use Rattle.vz_geom.specs.declared.Size.{Size}
use Rattle.vz_ids.specs.declared.FrameSinkId.{FrameSinkId}
use Rattle.vz_ids.specs.declared.LocalSurfaceId.{LocalSurfaceId}
use Rattle.vz_ids.specs.declared.SurfaceId.{SurfaceId}
use Rattle.vz_ids.specs.declared.Sub.{Sub}
use Rattle.vz_ids.specs.Ids.{same_sub}
use Rattle.vz_pixels.specs.Block.{Block}
use Rattle.vz_frame.specs.declared.frame.CompositorFrame.{CompositorFrame}
use Rattle.vz_frame.specs.Frame.{frame_size}
use Rattle.vz_rules.specs.declared.entry.State.TheVariants.{Dropped}
use Rattle.vz_rules.specs.World.{Surface, FrameData, Submission, is_waiting, is_on, sub_of}
use Rattle.vz_rules.specs.Messages.{is_last, replace_on}
use Rattle.vz_rules.specs.Kept.{last_in, is_surface_of, is_by}
use Rattle.vz_rules.proofs.Members.{contains_map, contains_push, push_contains, push_contains_last, contains_at, at_same, find_at}
use Rattle.vz_rules.proofs.Counts.{count_push, count_at}
use Rattle.vz_rules.proofs.Kept_accepted.{subs_differ}
use Rattle.vz_rules.proofs.Kept_last.{last_push}
use Rattle.vz_surfaces.specs.Stored.{Stored, surface_of, new_surface, accepted_as, waiting_with, storing}
use Rattle.vz_surfaces.specs.Reading.{last_of}
use Rattle.vz_surfaces.specs.Keeping.{KeepsStored}
use Rattle.vz_surfaces.specs.declared.waits.Waits.{Waits}
use Rattle.vz_surfaces.specs.declared.owners.Owner.{Owner}
use Rattle.vz_surfaces.specs.declared.owners.Owners.{Owners}
use Rattle.vz_surfaces.specs.Memory.{is_name, waits_on, waiting_on, is_waiting_in, FindsWaiting, owner_at, HasNumber, KeepsOwners, counting, is_named_last}
use Rattle.vz_surfaces.proofs.Keyed.{names}
use Rattle.vz_surfaces.proofs.Finding.{count_kept}
use Rattle.vz_surfaces.proofs.Others.{never}
use Rattle.vz_surfaces.proofs.Following.{self_sub}
use Rattle.vz_surfaces.proofs.Accepting.{replaces_on}
use Rattle.vz_surfaces.proofs.Indexed.{still_named, waits_behind, names_one}

-- Names

pub name_of : (a b : Sub) → is_name a b ≡ same_sub a b
name_of a b = ap (λ eq. eq a b) names

-- one of the list has no later ordinal than the next one will have
pub differs : (st : Stored) (c : ℕ) (t : Submission) → KeepsStored st → Contains st.subs t → same_sub (record { client = c; ordinal = count_by (is_by c) st.subs + 1 }) (sub_of t) ≡ false
differs st c t keeps p = never (same_sub (record { client = c; ordinal = count_by (is_by c) st.subs + 1 }) (sub_of t)) (λ e.
    let both = and_parts (c == t.submitted.sub.client) ((count_by (is_by c) st.subs + 1) == t.submitted.sub.ordinal) e in
    let client = eqb-true c t.submitted.sub.client both.0 in
    let ordinal = eqb-true (count_by (is_by c) st.subs + 1) t.submitted.sub.ordinal both.1 in
    let n = contains_at st.subs t p in
    let own = keeps.numbers.ordered n.0 t n.1 in
    let less = count_at (is_by t.submitted.sub.client) st.subs n.0 t n.1 (eq-eqb t.submitted.sub.client t.submitted.sub.client refl) in
    let all = ap (λ k. count_by (is_by k) st.subs) client in
    absurd (omega (arith, ordinal, own, less, all)))

-- two of one name are one
pub one_named : (st : Stored) (s t : Submission) → KeepsStored st → Contains st.subs s → Contains st.subs t → same_sub (sub_of s) (sub_of t) ≡ true → s ≡ t
one_named st s t keeps p q e = grind (arith, nat_tests, contains_at st.subs s p, contains_at st.subs t q, at_same st.subs, subs_differ st.surfaces st.subs keeps.numbers)

-- what waits behind a replacement waited before and is elsewhere
still_waits : (w o : Bool) (t : Submission) → is_waiting t ≡ w → is_waiting (cond (w && o) (record t { state = Dropped }) t) ≡ true → (w ≡ true) × (o ≡ false)
still_waits true true t e h = absurd (cc)
still_waits true false t e h = (refl, refl)
still_waits false o t e h = absurd (both_ways (is_waiting t) e h)

module _ (st : Stored) (c : ℕ) (sink : FrameSinkId) (local : LocalSurfaceId) (frame : CompositorFrame) (blocks : List Block) where
  abbrev id_here : SurfaceId
  id_here = surface_of sink local

  abbrev data_here : FrameData
  data_here = accepted_as c id_here frame blocks st.subs

  -- the one that is replaced goes, and others stay
  passes : (old mid : Waits) (replaced : Option Sub) (t : Submission) → KeepsStored st → replaced ≡ waiting_on st id_here → (replaced ≡ None → mid ≡ old)
      → ((s : Sub) → replaced ≡ Some s → (q : Sub) → waits_on mid q ≡ cond (is_name s q) None (waits_on old q)) → Contains st.subs t → is_on id_here t ≡ false
      → waits_on mid (sub_of t) ≡ waits_on old (sub_of t)
  unfolding waiting_on
  passes old mid replaced t keeps is none some p away =
      by (find (λ s. is_waiting s && is_on id_here s) st.subs) refl
    where
      by : (o : Option Submission) → find (λ s. is_waiting s && is_on id_here s) st.subs ≡ o → waits_on mid (sub_of t) ≡ waits_on old (sub_of t)
      by None e = ap (λ w. waits_on w (sub_of t)) (none (is ∙ ap (option_map (λ (s : Submission). sub_of s)) e))
      by (Some u) e =
          let there = find_at (λ s. is_waiting s && is_on id_here s) st.subs u e in
          some (sub_of u) (is ∙ ap (option_map (λ (s : Submission). sub_of s)) e) (sub_of t)
          ∙ ap (λ (b : Bool). cond b None (waits_on old (sub_of t))) (never (is_name (sub_of u) (sub_of t)) (λ f.
          sym away ∙ (ap (is_on id_here) (sym (one_named st u t keeps there.0 p (sym (name_of (sub_of u) (sub_of t)) ∙ f))) ∙ (and_parts (is_waiting u) (is_on id_here u) there.1).1)))

  pub stored_waits : (old mid new : Waits) (replaced : Option Sub) → KeepsStored st → FindsWaiting old st → replaced ≡ waiting_on st id_here → (replaced ≡ None → mid ≡ old)
      → ((s : Sub) → replaced ≡ Some s → (q : Sub) → waits_on mid q ≡ cond (is_name s q) None (waits_on old q))
      → ((q : Sub) → waits_on new q ≡ cond (is_name data_here.sub q) (Some id_here) (waits_on mid q)) → FindsWaiting new (storing c sink local frame blocks st)
  unfolding storing is_waiting_in
  stored_waits old mid new replaced keeps finds is none some put =
      record {
        found = λ s p w. elim (contains_push (map (replace_on id_here) st.subs) (waiting_with data_here) s p) [
          | inr e ↦ subst (λ (x : Submission). waits_on new (sub_of x) ≡ Some x.submitted.id) e
              (put data_here.sub ∙ ap (λ (b : Bool). cond b (Some id_here) (waits_on mid data_here.sub)) (name_of data_here.sub data_here.sub ∙ self_sub data_here.sub))
          | inl m ↦
              let t = contains_map (replace_on id_here) st.subs s m in
              let stays = still_waits (is_waiting t.0) (is_on id_here t.0) t.0 refl (ap is_waiting t.2 ∙ w) in
              let same : t.0 ≡ s = sym ((replaces_on id_here st.subs).others t.0 t.1 stays.1) ∙ t.2 in
              subst (λ (x : Submission). waits_on new (sub_of x) ≡ Some x.submitted.id) same
              (put (sub_of t.0)
              ∙ (ap (λ (b : Bool). cond b (Some id_here) (waits_on mid (sub_of t.0))) (name_of data_here.sub (sub_of t.0) ∙ differs st c t.0 keeps t.1)
              ∙ (passes old mid replaced t.0 keeps is none some t.1 stays.1 ∙ finds.found t.0 t.1 stays.0)))
        ];
        only = λ q e. by q (is_name data_here.sub q) refl (ap is_some (sym (put q)) ∙ e);
      }
    where
      by : (q : Sub) (b : Bool) → is_name data_here.sub q ≡ b → is_some (cond b (Some id_here) (waits_on mid q)) ≡ true
          → list_any (λ s. is_waiting s && same_sub (sub_of s) q) (map (replace_on id_here) st.subs ++ waiting_with data_here ∷ []) ≡ true
      by q true e f = names_one q (map (replace_on id_here) st.subs ++ waiting_with data_here ∷ []) (waiting_with data_here) (push_contains_last (map (replace_on id_here) st.subs) (waiting_with data_here)) refl (sym (name_of data_here.sub q) ∙ e)
      by q false e f =
          let left = still_named st id_here old mid replaced q keeps finds is none some f in
          names_one q (map (replace_on id_here) st.subs ++ waiting_with data_here ∷ []) left.one
          (push_contains (map (replace_on id_here) st.subs) (waiting_with data_here) left.one (waits_behind st id_here q (replace_on id_here) (replaces_on id_here st.subs) left)) left.waits left.named

-- Counts

abbrev Named : Type 0
Named = LocalSurfaceId × Size

abbrev name_and_size : Option Surface → Option Named
name_and_size o = option_map {U = Named} (λ (s : Surface). (s.id.local, s.size)) o

pub last_ties : (o : Option Surface) (local : LocalSurfaceId) → is_named_last (name_and_size o) local ≡ is_last o local
last_ties None local = refl
last_ties (Some s) local = refl

flip : (q c : ℕ) → (q == c) ≡ false → (c == q) ≡ false
flip q c e = never (c == q) (λ f. sym e ∙ eq-eqb q c (sym (eqb-true c q f)))

add_none : (n : ℕ) → n ≡ n + 0
add_none n = omega arith

-- what is read of each client, where one is written
pub owners_by : {B : Type 0} (r : Owner → B) (v : ℕ → B) (old new : Owners) (c : ℕ) (owner : Owner) → ((q : ℕ) → 1 ≤ q → owner_at new q ≡ cond (q == c) owner (owner_at old q))
    → r owner ≡ v c → ((q : ℕ) → HasNumber q → (q == c) ≡ false → r (owner_at old q) ≡ v q) → (q : ℕ) → HasNumber q → r (owner_at new q) ≡ v q
owners_by r v old new c owner set here others q h = grind (arith, nat_tests, eqb-true q c)

module _ (st : Stored) (c : ℕ) (sink : FrameSinkId) (local : LocalSurfaceId) (frame : CompositorFrame) (blocks : List Block) where
  abbrev the_one : Surface
  the_one = new_surface c (surface_of sink local) frame st.surfaces

  abbrev the_surfaces : Bool → List Surface
  the_surfaces t = cond t st.surfaces (st.surfaces ++ the_one ∷ [])

  by_client : (q : ℕ) → count_by (is_by q) (storing c sink local frame blocks st).subs ≡ count_by (is_by q) st.subs + cond (c == q) 1 0
  unfolding storing
  by_client q =
      let id = surface_of sink local in
      count_push (is_by q) (map (replace_on id) st.subs) (waiting_with (accepted_as c id frame blocks st.subs))
      ∙ ap (λ n. n + cond (c == q) 1 0) (count_kept (is_by q) (replace_on id) st.subs (λ s p. ap (λ (i : FrameData). i.sub.client == q) ((replaces_on id st.subs).submitted s p)))

  created_here : (t : Bool) (o : Owner) → o.created ≡ count_by (is_surface_of c) st.surfaces → cond t o.created (o.created + 1) ≡ count_by (is_surface_of c) (the_surfaces t)
  created_here true o e = e
  created_here false o e = grind (arith, nat_tests, count_push (is_surface_of c) st.surfaces, eq-eqb c c refl)

  created_apart : (t : Bool) (q : ℕ) → (q == c) ≡ false → count_by (is_surface_of q) st.surfaces ≡ count_by (is_surface_of q) (the_surfaces t)
  created_apart true q e = refl
  created_apart false q e = grind (arith, nat_tests, add_none (count_by (is_surface_of q) st.surfaces), count_push (is_surface_of q) st.surfaces, flip q c e)

  last_here : (t : Bool) (o : Owner) → o.last ≡ name_and_size (last_in st.surfaces c) → cond t o.last (Some (local, frame_size frame)) ≡ name_and_size (last_in (the_surfaces t) c)
  last_here true o e = e
  last_here false o e = sym (ap name_and_size (last_push (λ (s : Surface). s.client == c) st.surfaces the_one true (eq-eqb c c refl)))

  last_apart : (t : Bool) (q : ℕ) → (q == c) ≡ false → name_and_size (last_in st.surfaces q) ≡ name_and_size (last_in (the_surfaces t) q)
  last_apart true q e = refl
  last_apart false q e = sym (ap name_and_size (last_push (λ (s : Surface). s.client == q) st.surfaces the_one false (flip q c e)))

  pub stored_owners : (old new : Owners) (last : Bool) (size : Size) (owner : Owner) → HasNumber c → KeepsOwners old st → last ≡ is_named_last (owner_at old c).last local → size ≡ frame_size frame
      → owner ≡ counting last local size (owner_at old c) → ((q : ℕ) → 1 ≤ q → owner_at new q ≡ cond (q == c) owner (owner_at old q)) → KeepsOwners new (storing c sink local frame blocks st)
  unfolding storing last_of
  stored_owners old new last size owner number keeps at fits is set =
      let t = is_last (last_in st.surfaces c) local in
      let o = owner_at old c in
      let same : last ≡ t = at ∙ (ap (λ z. is_named_last z local) (keeps.last c number) ∙ last_ties (last_in st.surfaces c) local) in
      let now : owner ≡ counting t local (frame_size frame) o = is ∙ (ap (λ b. counting b local size o) same ∙ ap (λ z. counting t local z o) fits) in
      record {
        accepted = owners_by (λ x. x.accepted) (λ q. count_by (is_by q) (storing c sink local frame blocks st).subs) old new c owner set
            (ap (λ x. x.accepted) now ∙ (ap (λ n. n + 1) (keeps.accepted c number) ∙ sym (by_client c ∙ ap (λ (b : Bool). count_by (is_by c) st.subs + cond b 1 0) (eq-eqb c c refl))))
            (λ q h e. keeps.accepted q h ∙ (add_none (count_by (is_by q) st.subs) ∙ sym (by_client q ∙ ap (λ (b : Bool). count_by (is_by q) st.subs + cond b 1 0) (flip q c e))));
        created = owners_by (λ x. x.created) (λ q. count_by (is_surface_of q) (the_surfaces t)) old new c owner set
            (ap (λ x. x.created) now ∙ created_here t o (keeps.created c number))
            (λ q h e. keeps.created q h ∙ created_apart t q e);
        last = owners_by (λ x. x.last) (λ q. name_and_size (last_in (the_surfaces t) q)) old new c owner set
            (ap (λ x. x.last) now ∙ last_here t o (keeps.last c number))
            (λ q h e. keeps.last q h ∙ last_apart t q e);
      }
