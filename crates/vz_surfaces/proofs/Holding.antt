-- What memory keeps is that of the store, where a submission is accepted.
use Rattle.std.proofs.Common.{◌≡◌, ℕ, ◌+◌, ◌≤◌, ◌<◌, Bool, true, false, not, ◌&&◌, ◌==◌, nat_eq, Option, Some, None, List, [], ◌∷◌, ◌++◌, map, find, length, refl, ap, sym, ◌∙◌, arith, cond, subst, Contains, count_by, is_some}
use Rattle.std.proofs.lemmas.Bool.Decides.{nat_tests}
use Rattle.std.specs.Option.{option_map}
use Rattle.std.specs.Map.{lookup}
use Rattle.std.proofs.lemmas.Bool.{eq-eqb}
use Rattle.vz_geom.specs.declared.Size.{Size}
use Rattle.vz_ids.specs.declared.FrameSinkId.{FrameSinkId}
use Rattle.vz_ids.specs.declared.LocalSurfaceId.{LocalSurfaceId}
use Rattle.vz_ids.specs.declared.SurfaceId.{SurfaceId}
use Rattle.vz_ids.specs.declared.Sub.{Sub}
use Rattle.vz_ids.specs.Ids.{same_surface}
use Rattle.vz_pixels.specs.Block.{Block}
use Rattle.vz_frame.specs.declared.frame.CompositorFrame.{CompositorFrame}
use Rattle.vz_frame.specs.Frame.{frame_size}
use Rattle.vz_rules.specs.World.{Surface as Created, Submission, is_waiting, is_on, sub_of}
use Rattle.vz_rules.specs.Messages.{is_last, violates}
use Rattle.vz_rules.specs.Kept.{last_in, stands_in, is_surface_of, is_by}
use Rattle.vz_rules.proofs.Reached.{from_same, self_same}
use Rattle.vz_rules.proofs.Counts.{count_less, count_none}
use Rattle.vz_surfaces.specs.declared.told.Acceptance.{Acceptance}
use Rattle.vz_surfaces.specs.declared.groups.Link.{Link}
use Rattle.vz_surfaces.specs.declared.held.Held.{Held}
use Rattle.vz_surfaces.specs.declared.table.Surface.{Surface}
use Rattle.vz_surfaces.specs.declared.table.Table.{Table}
use Rattle.vz_surfaces.specs.declared.waits.Waits.{Waits}
use Rattle.vz_surfaces.specs.declared.owners.Owner.{Owner}
use Rattle.vz_surfaces.specs.declared.owners.Owners.{Owners}
use Rattle.vz_surfaces.specs.Stored.{Stored, surface_of, storing}
use Rattle.vz_surfaces.specs.Reading.{stands, standing, held_of, existing_count, last_of}
use Rattle.vz_surfaces.specs.Keeping.{KeepsStored}
use Rattle.vz_surfaces.specs.Memory.{is_key, look, IsKeyed, HasSame, is_name, waits_on, owner_at, HasNumber, IsSinkOf, Keeps, KeepsOwners, KeepsMarks, kept_of, surface_at, holding, empty_surface, counting, is_named_last, held_in, waiting_on}
use Rattle.vz_surfaces.specs.declared.groups.Groups.{Groups}
use Rattle.vz_surfaces.specs.Chains.{is_group, chain_at, newest_at, KeepsGroups}
use Rattle.vz_surfaces.proofs.Grouping.{stored_groups}
use Rattle.vz_surfaces.proofs.Marking.{stored_marks}
use Rattle.vz_surfaces.specs.declared.standing.Standing.{Standing}
use Rattle.vz_surfaces.specs.Numbers.{list_at, KeepsLists}
use Rattle.vz_surfaces.proofs.Listing.{lists_alike, stored_lists}
use Rattle.vz_surfaces.proofs.Keyed.{keys}
use Rattle.vz_surfaces.proofs.Lodging.{looks_same}
use Rattle.vz_surfaces.proofs.Finding.{find_none}
use Rattle.vz_surfaces.proofs.Others.{no_and}
use Rattle.vz_surfaces.proofs.Accepting.{is_unknown, is_unused, before_hold, stored_here, stored_apart, stored_count}
use Rattle.vz_surfaces.proofs.Naming.{last_ties, stored_waits, stored_owners}

pub key_of : (a b : SurfaceId) → is_key a b ≡ same_surface a b
key_of a b = ap (λ eq. eq a b) keys

same_map : {A : Type 0} (xs : List A) → map (λ x. x) xs ≡ xs
same_map [] = refl
same_map (x ∷ xs) = ap (λ l. x ∷ l) (same_map xs)

-- what a surface has before one more submission waits on it
pub record IsHeldAt (st : Stored) (id : SurfaceId) (o : Option Surface) (limit : ℕ) : Type 0 where
  pub surface : Surface
  pub is : o ≡ Some surface
  pub accepted : surface.accepted ≡ count_by (is_on id) st.subs
  pub few : surface.accepted < limit
  pub waiting : option_map (λ (h : Held). h.sub) surface.waiting ≡ waiting_on st id
  pub held : surface.waiting ≡ held_in is_waiting id st.subs

-- the waiting one of what is kept
pub kept_waiting : (id : SurfaceId) (st : Stored) (c : Created) → option_map (λ (h : Held). h.sub) (kept_of id st.subs c).waiting ≡ waiting_on st id
unfolding waiting_on
kept_waiting id st c = grind (arith, nat_tests)

standing_one : (st : Stored) (id : SurfaceId) (o : Option Created) → is_some o ≡ true → (x : Created) × (o ≡ Some x)
standing_one st id None e = absurd (cc)
standing_one st id (Some x) e = (x, refl)

pub standing_of : (st : Stored) (id : SurfaceId) → stands_in st.surfaces id ≡ true → (x : Created) × (standing id st.surfaces ≡ Some x)
standing_of st id e = standing_one st id (standing id st.surfaces) e

stands_one : (st : Stored) (id : SurfaceId) → stands st id ≡ true → (x : Created) × (standing id st.surfaces ≡ Some x)
unfolding stands
stands_one st id e = standing_one st id (standing id st.surfaces) e

module _ (st : Stored) (c : ℕ) (sink : FrameSinkId) (local : LocalSurfaceId) (keeps : KeepsStored st) (number : HasNumber c) (of : IsSinkOf c sink st) (goes : violates (last_in st.surfaces c) local ≡ false) where
  abbrev this : SurfaceId
  this = surface_of sink local

  abbrev is_that : Bool
  is_that = is_last (last_in st.surfaces c) local

  last_is : (o : Owners) (last : Bool) → KeepsOwners o st → last ≡ is_named_last (owner_at o c).last local → last ≡ is_that
  unfolding last_of
  last_is o last h e = e ∙ (ap (λ z. is_named_last z local) (h.last c number) ∙ last_ties (last_in st.surfaces c) local)

  none_at : is_that ≡ false → surface_at st this ≡ None
  unfolding surface_at
  none_at e = grind (arith, nat_tests, find_none, is_unknown st c sink local keeps of goes e)

  pub open_new : (t0 t1 : Table) (w : Waits) (o : Owners) (last : Bool) → Keeps t0 w o st → HasSame t0 t1 → last ≡ is_named_last (owner_at o c).last local
      → last ≡ false → look t1 this ≡ None
  open_new t0 t1 w o last h same at e = grind (arith, nat_tests, looks_same t0 t1 same, none_at, last_is o last h.owners at)

  pub few_before : (o : Owners) (owner : Owner) (limit : ℕ) → KeepsOwners o st → owner ≡ owner_at o c → count_by (is_by c) st.subs < limit → owner.created < limit
  few_before o owner limit h e few = omega (arith, ap (λ x. x.created) e, h.created c number, keeps.few_created c, few)

  on_own : count_by (is_on this) st.subs ≤ count_by (is_by c) st.subs
  on_own =
      subst (λ l. count_by (is_on this) l ≤ count_by (is_by c) st.subs) (same_map st.subs)
      (count_less (λ s. s) (is_on this) (is_by c) st.subs (λ s p e.
      let made = keeps.numbers.created s p in
      eq-eqb s.submitted.sub.client c (sym made.3 ∙ of.alone made.0 made.1 (ap (λ i. i.sink) (made.2 ∙ from_same s.submitted.id this e)))))

  none_waits : ((s : Submission) → Contains st.subs s → is_on this s ≡ false) → find (λ s. is_waiting s && is_on this s) st.subs ≡ None
  none_waits unused = find_none (λ s. is_waiting s && is_on this s) st.subs (λ s p. no_and (is_waiting s) (is_on this s) (unused s p))

  -- the surface on which the submission waits then
  pub held_before : (t0 t1 t2 : Table) (w : Waits) (o : Owners) (last : Bool) (created limit : ℕ) → Keeps t0 w o st → HasSame t0 t1
      → last ≡ is_named_last (owner_at o c).last local → (is_that ≡ true → stands st this ≡ true) → count_by (is_by c) st.subs < limit
      → ((q : SurfaceId) → look t2 q ≡ cond (not last && is_key this q) (Some (empty_surface c (created + 1))) (look t1 q)) → IsHeldAt st this (look t2 this) limit
  unfolding surface_at waiting_on
  held_before t0 t1 t2 w o last created limit h same at exists few opened = by last (last_is o last h.owners at) (opened this)
    where
      by : (b : Bool) → b ≡ is_that → look t2 this ≡ cond (not b && is_key this this) (Some (empty_surface c (created + 1))) (look t1 this) → IsHeldAt st this (look t2 this) limit
      by true e k =
          let x = stands_one st this (exists (sym e)) in
          record {
            surface = kept_of this st.subs x.0;
            is = k ∙ (looks_same t0 t1 same this ∙ (h.table.surfaces this ∙ ap (option_map (kept_of this st.subs)) x.1));
            accepted = refl;
            few = omega (arith, on_own, few);
            waiting = kept_waiting this st x.0;
            held = refl;
          }
      by false e k =
          let unused = is_unused st this keeps (is_unknown st c sink local keeps of goes (sym e)) in
          record {
            surface = empty_surface c (created + 1);
            is = k ∙ ap (λ (b : Bool). cond b (Some (empty_surface c (created + 1))) (look t1 this)) (key_of this this ∙ self_same this);
            accepted = sym (count_none (is_on this) st.subs unused);
            few = omega (arith, few);
            waiting = sym (ap (option_map (λ (s : Submission). sub_of s)) (none_waits unused));
            held = sym (ap (option_map (λ (s : Submission). held_of s.submitted)) (none_waits unused));
          }

  module _ (frame : CompositorFrame) (blocks : List Block) where
    opened_at : (t1 t2 : Table) (last : Bool) (created : ℕ) → ((q : SurfaceId) → look t2 q ≡ cond (not last && is_key this q) (Some (empty_surface c (created + 1))) (look t1 q))
        → ((q : SurfaceId) → look t1 q ≡ surface_at st q) → last ≡ is_that → created ≡ count_by (is_surface_of c) st.surfaces → look t2 this ≡ before_hold is_that c this st
    opened_at t1 t2 last created opened before e n = grind (arith, nat_tests, before_hold, key_of, self_same)

    opened_apart : (t1 t2 : Table) (last : Bool) (created : ℕ) (q : SurfaceId) → same_surface this q ≡ false
        → look t2 q ≡ cond (not last && is_key this q) (Some (empty_surface c (created + 1))) (look t1 q) → look t2 q ≡ look t1 q
    opened_apart t1 t2 last created q apart opened = grind (arith, nat_tests, no_and (not last), key_of)

    pub accepted_keeps : (t0 t1 t2 t3 : Table) (w0 w1 w2 w3 : Waits) (o0 o1 : Owners) (owner owned : Owner) (last : Bool) (size : Size) (a : Acceptance) (replaced : Option Sub)
        → Keeps t0 w0 o0 st → HasSame t0 t1 → w1.surfaces.entries ≡ w0.surfaces.entries → size ≡ frame_size frame → owner ≡ owner_at o0 c
        → last ≡ is_named_last owner.last local → a ≡ record { client = c; sink = sink; local = local; frame = frame; blocks = blocks }
        → ((q : SurfaceId) → look t2 q ≡ cond (not last && is_key this q) (Some (empty_surface c (owner.created + 1))) (look t1 q)) → length t2.keys.entries ≡ length t1.keys.entries + cond last 0 1
        → ((q : SurfaceId) → look t3 q ≡ cond (is_key this q) (option_map (holding (record { client = c; ordinal = owner.accepted + 1 }) a.frame a.blocks) (look t2 q)) (look t2 q))
        → length t3.keys.entries ≡ length t2.keys.entries → IsKeyed t3 → replaced ≡ waiting_on st this
        → (replaced ≡ None → w2 ≡ w1) → ((s : Sub) → replaced ≡ Some s → (q : Sub) → waits_on w2 q ≡ cond (is_name s q) None (waits_on w1 q))
        → ((q : Sub) → waits_on w3 q ≡ cond (is_name (record { client = c; ordinal = owner.accepted + 1 }) q) (Some this) (waits_on w2 q))
        → owned ≡ counting last local size owner → ((q : ℕ) → 1 ≤ q → owner_at o1 q ≡ cond (q == c) owned (owner_at o0 q)) → Keeps t3 w3 o1 (storing c sink local frame blocks st)
    accepted_keeps t0 t1 t2 t3 w0 w1 w2 w3 o0 o1 owner owned last size a replaced h same names fits own at back opened more held length_is keyed gone none some put is set =
        let accepted : owner.accepted ≡ count_by (is_by c) st.subs = ap (λ x. x.accepted) own ∙ h.owners.accepted c number in
        let created : owner.created ≡ count_by (is_surface_of c) st.surfaces = ap (λ x. x.created) own ∙ h.owners.created c number in
        let named : last ≡ is_named_last (owner_at o0 c).last local = at ∙ ap (λ (x : Owner). is_named_last x.last local) own in
        let that : last ≡ is_that = last_is o0 last h.owners named in
        let before : (q : SurfaceId) → look t1 q ≡ surface_at st q = λ q. looks_same t0 t1 same q ∙ h.table.surfaces q in
        let now : (q : SurfaceId) → look t3 q ≡ cond (is_key this q) (option_map (holding (record { client = c; ordinal = count_by (is_by c) st.subs + 1 }) frame blocks) (look t2 q)) (look t2 q) =
        λ q. held q ∙ ap (λ (x : Acceptance). cond (is_key this q) (option_map (holding (record { client = c; ordinal = owner.accepted + 1 }) x.frame x.blocks) (look t2 q)) (look t2 q)) back
        ∙ ap (λ n. cond (is_key this q) (option_map (holding (record { client = c; ordinal = n + 1 }) frame blocks) (look t2 q)) (look t2 q)) accepted in
        record {
          table = record {
            surfaces = λ q. now q ∙ by q (same_surface this q) refl (look t2 q) refl that created before;
            count = length_is ∙ (more ∙ (ap (λ l. length l + cond last 0 1) same.keys ∙ (ap (λ n. n + cond last 0 1) h.table.count
                ∙ (ap (λ (b : Bool). existing_count st + cond b 0 1) that ∙ sym (stored_count st c sink local frame blocks)))));
            keyed = keyed;
          };
          waits = stored_waits st c sink local frame blocks w1 w2 w3 replaced keeps (record { found = λ s p e. at_name (sub_of s) names ∙ h.waits.found s p e; only = λ q e. h.waits.only q (ap is_some (sym (at_name q names)) ∙ e) }) gone none some
              (λ q. put q ∙ ap (λ n. cond (is_name (record { client = c; ordinal = n + 1 }) q) (Some this) (waits_on w2 q)) accepted);
          owners = stored_owners st c sink local frame blocks o0 o1 last size owned number h.owners named fits (is ∙ ap (counting last local size) own) set;
        }
      where
        at_name : (q : Sub) → w1.surfaces.entries ≡ w0.surfaces.entries → waits_on w1 q ≡ waits_on w0 q
        at_name q e = ap (λ l. option_map (λ (x : Link). x.id) (lookup (is_name q) l)) e

        by : (q : SurfaceId) (b : Bool) → same_surface this q ≡ b → (z : Option Surface) → z ≡ look t2 q → last ≡ is_that → owner.created ≡ count_by (is_surface_of c) st.surfaces → ((q : SurfaceId) → look t1 q ≡ surface_at st q)
            → cond (is_key this q) (option_map (holding (record { client = c; ordinal = count_by (is_by c) st.subs + 1 }) frame blocks) (look t2 q)) (look t2 q) ≡ surface_at (storing c sink local frame blocks st) q
        by q true e z f that created before =
            ap (λ (b : Bool). cond b (option_map (holding (record { client = c; ordinal = count_by (is_by c) st.subs + 1 }) frame blocks) (look t2 q)) (look t2 q)) (key_of this q ∙ e)
            ∙ (ap (λ x. option_map (holding (record { client = c; ordinal = count_by (is_by c) st.subs + 1 }) frame blocks) (look t2 x)) (sym (from_same this q e))
            ∙ (ap (option_map (holding (record { client = c; ordinal = count_by (is_by c) st.subs + 1 }) frame blocks)) (opened_at t1 t2 last owner.created opened before that created)
            ∙ (sym (stored_here st c sink local frame blocks keeps of goes) ∙ ap (surface_at (storing c sink local frame blocks st)) (from_same this q e))))
        by q false e z f that created before =
            ap (λ (b : Bool). cond b (option_map (holding (record { client = c; ordinal = count_by (is_by c) st.subs + 1 }) frame blocks) (look t2 q)) (look t2 q)) (key_of this q ∙ e)
            ∙ (opened_apart t1 t2 last owner.created q e (opened q) ∙ (before q ∙ sym (stored_apart st c sink local frame blocks q e)))

    pub accepted_groups : (o : Owners) (owner : Owner) (old new : Groups) (last : Bool) → KeepsOwners o st → KeepsGroups old st → owner ≡ owner_at o c → last ≡ is_named_last owner.last local
        → ((q : SurfaceId) → chain_at new q ≡ cond (not last && is_group this q) (chain_at old q ++ this ∷ []) (chain_at old q)) → ((q : SurfaceId) → newest_at new q ≡ newest_at old q)
        → KeepsGroups new (storing c sink local frame blocks st)
    accepted_groups o owner old new last ho hg own at chain newest =
        stored_groups st c sink local frame blocks old new last keeps of goes (last_is o last ho (at ∙ ap (λ (x : Owner). is_named_last x.last local) own)) hg chain newest

    pub accepted_marks : (o0 o1 : Owners) (last : Bool) (size : Size) (owner owned : Owner) → KeepsOwners o0 st → KeepsMarks o0 st → owner ≡ owner_at o0 c → last ≡ is_named_last owner.last local
        → owned ≡ counting last local size owner → ((q : ℕ) → 1 ≤ q → owner_at o1 q ≡ cond (q == c) owned (owner_at o0 q)) → KeepsMarks o1 (storing c sink local frame blocks st)
    accepted_marks o0 o1 last size owner owned ho hm own at is set =
        stored_marks st c sink local frame blocks o0 o1 last size owned number ho hm (last_is o0 last ho (at ∙ ap (λ (x : Owner). is_named_last x.last local) own)) (is ∙ ap (counting last local size) own) set

    pub accepted_lists : (o : Owners) (owner : Owner) (l0 l1 l2 : Standing) (last : Bool) → KeepsOwners o st → KeepsMarks o st → KeepsLists l0 st → owner ≡ owner_at o c → last ≡ is_named_last owner.last local
        → ((q : ℕ) → list_at l1 q ≡ list_at l0 q) → ((q : ℕ) → list_at l2 q ≡ cond (not last && nat_eq c q) (list_at l1 q ++ record { number = owner.created + 1; id = this } ∷ []) (list_at l1 q)) → KeepsLists l2 (storing c sink local frame blocks st)
    accepted_lists o owner l0 l1 l2 last ho hm hl own at same added =
        stored_lists st c sink local frame blocks l1 l2 o last owner.created number ho hm (lists_alike l0 l1 st same hl) (last_is o last ho (at ∙ ap (λ (x : Owner). is_named_last x.last local) own)) (ap (λ x. x.created) own) added
