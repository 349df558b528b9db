-- What memory keeps of a store is that of it, with the groups and the lists of surfaces.
use Rattle.std.proofs.Common.{◌≡◌, ℕ, ◌+◌, ◌-◌, ◌≤◌, ◌==◌, nat_le, nat_eq, true, false, not, ◌&&◌, Option, Some, None, List, [], ◌∷◌, ◌++◌, filter, length, refl, ap, sym, ◌∙◌, arith, cond, subst, Contains, is_some}
use Rattle.std.proofs.lemmas.Bool.Decides.{nat_tests}
use Rattle.std.specs.Option.{option_map, option_map_or, option_and_then}
use Rattle.std.proofs.lemmas.Bool.{or_left, and_parts}
use Rattle.vz_ids.specs.declared.LocalSurfaceId.{LocalSurfaceId}
use Rattle.vz_ids.specs.declared.SurfaceId.{SurfaceId}
use Rattle.vz_ids.specs.declared.SurfaceRange.{SurfaceRange}
use Rattle.vz_ids.specs.declared.Sub.{Sub}
use Rattle.vz_ids.specs.Ids.{same_surface}
use Rattle.vz_rules.specs.World.{Surface as Created, Submission, sub_of}
use Rattle.vz_rules.proofs.Reached.{from_same}
use Rattle.vz_rules.proofs.Members.{contains_none, find_at}
use Rattle.vz_surfaces.specs.declared.told.Told.{Told}
use Rattle.vz_surfaces.specs.declared.told.Told.TheVariants as told
use Rattle.vz_surfaces.specs.declared.held.Held.{Held}
use Rattle.vz_surfaces.specs.declared.table.Surface.{Surface}
use Rattle.vz_surfaces.specs.declared.table.Table.{Table}
use Rattle.vz_surfaces.specs.declared.waits.Waits.{Waits}
use Rattle.vz_surfaces.specs.declared.owners.Owners.{Owners}
use Rattle.vz_surfaces.specs.Stored.{Stored, nothing_stored, raising, activating, destroying}
use Rattle.vz_surfaces.specs.Told.{stored}
use Rattle.vz_surfaces.specs.Reading.{was_reached, has_mark, held_of, active_on, shown_in}
use Rattle.vz_surfaces.specs.Keeping.{KeepsStored}
use Rattle.vz_surfaces.specs.Memory.{is_key, key_at, look, IsKeyed, HasSame, is_name, link_on, waits_on, owner_at, no_owner, HasNumber, marked_up, Keeps, KeepsOwners, KeepsMarks, MarksUpTo, kept_of, surface_at, raised, is_waiting_in}
use Rattle.std.specs.Map.{lookup}
use Rattle.vz_surfaces.specs.declared.groups.Link.{Link}
use Rattle.vz_surfaces.specs.declared.groups.Group.{Group}
use Rattle.vz_surfaces.specs.declared.groups.Groups.{Groups}
use Rattle.vz_surfaces.specs.Chains.{Stands, shown_link, acting_under, KeepsGroups, IsRising, is_group, group_at, links_at, ids_of, newest_at, reaches, newer_local}
use Rattle.vz_surfaces.proofs.Grouping.{groups_alike, marked_groups, raised_groups, gone_groups}
use Rattle.vz_surfaces.proofs.Marking.{owners_marked, marking_marks, raised_marks, gone_marks, own_client, one_surface}
use Rattle.vz_surfaces.specs.declared.standing.Numbered.{Numbered}
use Rattle.vz_surfaces.specs.declared.standing.Standing.{Standing}
use Rattle.vz_surfaces.specs.Numbers.{list_in, list_at, Rises, KeepsLists}
use Rattle.vz_surfaces.proofs.Listing.{raised_lists, gone_lists}
use Rattle.vz_surfaces.proofs.Lodging.{keys_same, looks_same, same_keyed}
use Rattle.vz_surfaces.proofs.Linking.{chain_stays, chain_less, links_same, links_less}
use Rattle.vz_surfaces.proofs.Awaiting.{ids_found, awaited_same, awaited_less, awaited_gone}
use Rattle.vz_surfaces.proofs.Shown.{chain_has}
use Rattle.vz_surfaces.proofs.Found_links.{shows, shown_key}
use Rattle.vz_surfaces.proofs.Raising.{waiting_one, Waits_in, activates}
use Rattle.vz_surfaces.proofs.Holding.{standing_of}
use Rattle.vz_surfaces.proofs.Storing.{stored_more, stored_none, acting_reads, keeps_none, marked_keeps, activated_keeps, IsKeptAt, kept_at, waiting_reads, destroyed_keeps}

-- With the groups

pub stands_none : (t : Table) (w : Waits) (o : Owners) (g : Groups) (ts : List Told) → ((q : SurfaceId) → look t q ≡ None) → length t.keys.entries ≡ 0 → IsKeyed t → ((q : Sub) → link_on w q ≡ None) → ((q : ℕ) → owner_at o q ≡ no_owner) → MarksUpTo o
    → ((q : SurfaceId) → group_at g q ≡ None) → ts ≡ [] → Stands t w o g (stored ts)
unfolding nothing_stored was_reached IsRising
stands_none t w o g ts none len keyed unnamed owners marking groups e =
    record {
      kept = keeps_none t w o ts none len keyed (λ q. ap (option_map (λ (l : Link). l.id)) (unnamed q)) owners e;
      groups = subst (KeepsGroups g) (sym (stored_none ts e)) (record {
        chain = λ q. ap ids_of (no_links q);
        rising = λ q. subst IsRising (sym (ap ids_of (no_links q))) tt;
        reached = λ d. ap (λ (x : Option Group). reaches (option_and_then (λ (y : Group). y.newest) x) d) (groups d);
        made = λ d l f. no_one (sym (ap (λ (x : Option Group). option_and_then (λ (y : Group). y.newest) x) (groups d)) ∙ f);
      });
      links = record { keys = λ q l c. absurd (contains_none l (subst (λ ls. Contains ls l) (no_links q) c)) };
      awaited = record { keys = λ q l f. no_link (sym (unnamed q) ∙ f) };
      marks = subst (KeepsMarks o) (sym (stored_none ts e)) (record {
        clients = λ s p. absurd (contains_none s p);
        numbers = λ s p. absurd (contains_none s p);
        marks = λ s p. absurd (contains_none s p);
        created = λ c h. omega (arith, ap (λ x. x.marked_to) (owners c), ap (λ x. x.created) (owners c));
      });
      marking = marking;
    }
  where
    no_links : (q : SurfaceId) → links_at g q ≡ []
    no_links q = ap (λ (x : Option Group). option_map_or (λ (y : Group). y.chain.items) x []) (groups q)

    no_link : {A : Type 0} {l : Link} → ◌≡◌ {A = Option Link} None (Some l) → A
    no_link f = absurd (cc)

    no_one : {A : Type 0} {l : LocalSurfaceId} → ◌≡◌ {A = Option LocalSurfaceId} None (Some l) → A
    no_one f = absurd (cc)

pub stands_still : (t0 t1 : Table) (w0 w1 : Waits) (o : Owners) (g0 g1 : Groups) (st : Stored) → Stands t0 w0 o g0 st → HasSame t0 t1 → w1.surfaces.entries ≡ w0.surfaces.entries
    → ((q : SurfaceId) → links_at g1 q ≡ links_at g0 q) → ((q : SurfaceId) → newest_at g1 q ≡ newest_at g0 q) → Stands t1 w1 o g1 st
stands_still t0 t1 w0 w1 o g0 g1 st h table waits links newest = grind (arith, nat_tests, looks_same, same_keyed, groups_alike, chain_stays, links_same, keys_same, awaited_same t0 t1 w0 w1 (keys_same t0 t1 table) (λ q. ap (lookup (is_name q)) waits))

re_owned : (t : Table) (w : Waits) (o0 o1 : Owners) (st : Stored) → Keeps t w o0 st → KeepsOwners o1 st → Keeps t w o1 st
re_owned t w o0 o1 st h owners = record { table = h.table; waits = h.waits; owners = owners }

pub marked_stands : (g : Groups) (t : Table) (w : Waits) (o0 o1 : Owners) (ts now : List Told) (st : Stored) (c : ℕ) → HasNumber c → Stands t w o0 g (stored ts) → stored ts ≡ st → now ≡ ts ++ told.MarkedAll c ∷ []
    → ((q : ℕ) → 1 ≤ q → owner_at o1 q ≡ cond (q == c) (marked_up (owner_at o0 c).created (owner_at o0 c)) (owner_at o0 q)) → (MarksUpTo o0 → MarksUpTo o1) → Stands t w o1 g (stored now)
marked_stands g t w o0 o1 ts now st c number inv view e set marking =
    let kept = marked_keeps t w o0 ts now st c inv.kept view e in
    record {
      kept = re_owned t w o0 o1 (stored now) kept (owners_marked o0 o1 c (owner_at o0 c).created set (stored now) kept.owners);
      groups = subst (KeepsGroups g) (sym (stored_more ts now (told.MarkedAll c) st e view)) (marked_groups c st g (subst (KeepsGroups g) view inv.groups));
      links = inv.links;
      awaited = inv.awaited;
      marks = subst (KeepsMarks o1) (sym (stored_more ts now (told.MarkedAll c) st e view)) (marking_marks o0 o1 c st number (subst (KeepsMarks o0) view inv.marks) set);
      marking = marking inv.marking;
    }

-- the surface on which a submission waits is in its group
pub has_group : (g : Groups) (t : Table) (w : Waits) (o : Owners) (ts : List Told) (st : Stored) (sub : Sub) (id : SurfaceId) → KeepsStored st → Stands t w o g (stored ts) → stored ts ≡ st
    → is_waiting_in st sub ≡ true → Some id ≡ waits_on w sub → is_some (group_at g id) ≡ true
has_group g t w o ts st sub id keeps inv view waits found = grind (arith, nat_tests, waiting_one st sub waits, or_left, chain_has t g st, contains_none id)

-- the surface on which a submission waits
pub record IsUp (t : Table) (st : Stored) (sub : Sub) (id : SurfaceId) : Type 0 where
  pub one : Submission
  pub in_it : Waits_in st one
  pub named : sub_of one ≡ sub
  pub at : id ≡ one.submitted.id
  pub surface : Created
  pub there : Contains st.surfaces surface
  pub of_id : surface.id ≡ one.submitted.id
  pub kept : look t id ≡ Some (kept_of id st.subs surface)

pub is_up : (t : Table) (w : Waits) (o : Owners) (st : Stored) (sub : Sub) (id : SurfaceId) → KeepsStored st → Keeps t w o st → is_waiting_in st sub ≡ true → Some id ≡ waits_on w sub → IsUp t st sub id
unfolding surface_at
is_up t w o st sub id keeps h waits found = grind (arith, nat_tests, waiting_one, standing_of, or_left, find_at, from_same, and_parts)

pub mark_number : (g : Groups) (t : Table) (w : Waits) (o : Owners) (ts : List Told) (st : Stored) (sub : Sub) (id : SurfaceId) → KeepsStored st → Stands t w o g (stored ts) → stored ts ≡ st
    → is_waiting_in st sub ≡ true → Some id ≡ waits_on w sub → HasNumber sub.client
mark_number g t w o ts st sub id keeps inv view waits found =
    let up = is_up t w o st sub id keeps (subst (Keeps t w o) view inv.kept) waits found in
    let h = subst (KeepsMarks o) view inv.marks in
    subst HasNumber (own_client st up.one keeps up.in_it up.surface up.there up.of_id ∙ ap (λ (s : Sub). s.client) up.named) (h.clients up.surface up.there)

pub mark_there : (g : Groups) (t : Table) (w : Waits) (o : Owners) (ts : List Told) (st : Stored) (sub : Sub) (id : SurfaceId) → KeepsStored st → Stands t w o g (stored ts) → stored ts ≡ st
    → is_waiting_in st sub ≡ true → Some id ≡ waits_on w sub → (s : Surface) × (look t id ≡ Some s) × (1 ≤ s.number)
mark_there g t w o ts st sub id keeps inv view waits found =
    let up = is_up t w o st sub id keeps (subst (Keeps t w o) view inv.kept) waits found in
    let h = subst (KeepsMarks o) view inv.marks in
    (kept_of id st.subs up.surface, up.kept, (h.numbers up.surface up.there).0)

pub activated_stands : (g0 g1 : Groups) (t0 t1 : Table) (w0 w1 : Waits) (o0 o1 : Owners) (ts now : List Told) (st : Stored) (sub : Sub) (id : SurfaceId) → KeepsStored st → Stands t0 w0 o0 g0 (stored ts) → stored ts ≡ st
    → is_waiting_in st sub ≡ true → now ≡ ts ++ told.Activated sub ∷ [] → Some id ≡ waits_on w0 sub
    → ((q : Sub) → link_on w1 q ≡ cond (is_name sub q) None (link_on w0 q))
    → ((q : SurfaceId) → look t1 q ≡ cond (is_key id q) (option_map raised (look t0 q)) (look t0 q)) → t1.keys.entries ≡ t0.keys.entries → IsKeyed t1
    → ((q : SurfaceId) → links_at g1 q ≡ links_at g0 q) → ((q : SurfaceId) → newest_at g1 q ≡ cond (is_group id q) (newer_local id.local (newest_at g0 q)) (newest_at g0 q))
    → ((s : Surface) → look t0 id ≡ Some s → (q : ℕ) → 1 ≤ q → owner_at o1 q ≡ cond (q == sub.client) (marked_up (s.number - 1) (owner_at o0 sub.client)) (owner_at o0 q)) → (MarksUpTo o0 → MarksUpTo o1) → Stands t1 w1 o1 g1 (stored now)
activated_stands g0 g1 t0 t1 w0 w1 o0 o1 ts now st sub id keeps inv view waits e found gone rose same keyed links newest marks marking =
    let up = is_up t0 w0 o0 st sub id keeps (subst (Keeps t0 w0 o0) view inv.kept) waits found in
    let x = up.one in
    let in_it = up.in_it in
    let set : (q : ℕ) → 1 ≤ q → owner_at o1 q ≡ cond (q == sub.client) (marked_up (up.surface.number - 1) (owner_at o0 sub.client)) (owner_at o0 q) = marks (kept_of id st.subs up.surface) up.kept in
    let kept = activated_keeps t0 t1 w0 w1 o0 ts now st sub id keeps inv.kept view waits e found (ids_found w0 w1 sub None gone) rose (ap length same) keyed in
    let is : stored now ≡ raising x st = stored_more ts now (told.Activated sub) st e view ∙ (ap (λ s. activating s st) (sym up.named) ∙ activates st x keeps in_it.there) in
    record {
      kept = re_owned t1 w1 o0 o1 (stored now) kept (owners_marked o0 o1 sub.client (up.surface.number - 1) set (stored now) kept.owners);
      groups = subst (KeepsGroups g1) (sym is)
          (raised_groups st x keeps in_it g0 g1 (subst (KeepsGroups g0) view inv.groups) (chain_stays g0 g1 links)
          (λ q. newest q ∙ ap (λ (i : SurfaceId). cond (is_group i q) (newer_local i.local (newest_at g0 q)) (newest_at g0 q)) up.at));
      links = links_same t0 t1 g0 g1 (λ q. ap (lookup (is_key q)) same) links inv.links;
      awaited = awaited_same t0 t1 w1 w1 (λ q. ap (lookup (is_key q)) same) (λ q. refl) (awaited_less t0 w0 w1 sub gone inv.awaited);
      marks = subst (KeepsMarks o1) (sym is)
          (raised_marks st x keeps in_it o0 o1 up.surface up.there up.of_id (subst (KeepsMarks o0) view inv.marks)
          (λ q h. set q h ∙ ap (λ (s : Sub). cond (q == s.client) (marked_up (up.surface.number - 1) (owner_at o0 s.client)) (owner_at o0 q)) (sym up.named)));
      marking = marking inv.marking;
    }

pub destroyed_stands : (g0 g1 : Groups) (t0 t1 : Table) (w0 w1 : Waits) (o : Owners) (ts now : List Told) (st : Stored) (id : SurfaceId) (s : Surface) (r : Option Sub) → KeepsStored st → Stands t0 w0 o g0 (stored ts) → stored ts ≡ st
    → now ≡ ts ++ told.Destroyed id ∷ [] → Some s ≡ look t0 id → r ≡ option_map (λ (h : Held). h.sub) s.waiting → (r ≡ None → w1 ≡ w0)
    → ((x : Sub) → r ≡ Some x → (q : Sub) → link_on w1 q ≡ cond (is_name x q) None (link_on w0 q))
    → ((q : SurfaceId) → look t1 q ≡ cond (is_key id q) None (look t0 q)) → ((q : SurfaceId) → key_at t1 q ≡ cond (is_key id q) None (key_at t0 q))
    → ((x : Surface) → look t0 id ≡ Some x → length t1.keys.entries + 1 ≡ length t0.keys.entries) → IsKeyed t1
    → ((q : SurfaceId) → links_at g1 q ≡ cond (is_group id q) (filter (λ (l : Link). not (same_surface l.id id)) (links_at g0 q)) (links_at g0 q)) → ((q : SurfaceId) → newest_at g1 q ≡ newest_at g0 q)
    → Stands t1 w1 o g1 (stored now)
destroyed_stands g0 g1 t0 t1 w0 w1 o ts now st id s r keeps inv view e found is none some goes keys fewer keyed links newest =
    record {
      kept = destroyed_keeps t0 t1 w0 w1 o ts now st id s r keeps inv.kept view e found is none (λ x f. ids_found w0 w1 x None (some x f)) goes fewer keyed;
      groups = subst (KeepsGroups g1) (sym (stored_more ts now (told.Destroyed id) st e view)) (gone_groups id st g0 g1 (subst (KeepsGroups g0) view inv.groups) (chain_less g0 g1 id links) newest);
      links = links_less t0 t1 g0 g1 (stored ts) id inv.groups keys links inv.links;
      awaited = awaited_gone t0 t1 w0 w1 st id r keeps (subst (Keeps t0 w0 o) view inv.kept).waits
          (waiting_reads st id s r (kept_at t0 w0 o ts st id s inv.kept view found) is) keys none some inv.awaited;
      marks = subst (KeepsMarks o) (sym (stored_more ts now (told.Destroyed id) st e view)) (gone_marks id st o (subst (KeepsMarks o) view inv.marks));
      marking = inv.marking;
    }

-- Whether a surface is marked

pub mark_none : (t : Table) (w : Waits) (o : Owners) (st : Stored) (id : SurfaceId) → Keeps t w o st → None ≡ look t id → false ≡ has_mark st id
unfolding has_mark surface_at
mark_none t w o st id h e = grind (arith, nat_tests)

pub mark_client : (t : Table) (w : Waits) (o : Owners) (ts : List Told) (st : Stored) (g : Groups) (id : SurfaceId) (s : Surface) → Stands t w o g (stored ts) → stored ts ≡ st → Some s ≡ look t id → HasNumber s.client
mark_client t w o ts st g id s inv view e =
    let k = kept_at t w o ts st id s inv.kept view e in
    let h = subst (KeepsMarks o) view inv.marks in
    let there = find_at (λ (c : Created). same_surface c.id id && not c.destroyed) st.surfaces k.surface k.is in
    subst HasNumber (ap (λ (x : Surface). x.client) (sym k.kept)) (h.clients k.surface there.0)

pub mark_some : (t : Table) (w : Waits) (o : Owners) (ts : List Told) (st : Stored) (g : Groups) (id : SurfaceId) (s : Surface) → Stands t w o g (stored ts) → stored ts ≡ st → Some s ≡ look t id
    → nat_le s.number (owner_at o s.client).marked_to ≡ has_mark st id
unfolding has_mark
mark_some t w o ts st g id s inv view e = grind (arith, nat_tests, kept_at t w o ts st id s inv.kept view e, find_at)

-- With the lists

pub lists_none : (s : Standing) (ts : List Told) → ((q : ℕ) → list_in s q ≡ None) → ts ≡ [] → KeepsLists s (stored ts)
unfolding nothing_stored Rises
lists_none s ts none e = grind (arith, nat_tests, stored_none)

pub activated_lists : (s : Standing) (st : Stored) (sub : Sub) → KeepsStored st → is_waiting_in st sub ≡ true → KeepsLists s st → KeepsLists s (activating sub st)
activated_lists s st sub keeps waits h = grind (arith, nat_tests, waiting_one, activates, raised_lists)

pub destroyed_lists : (l0 l1 : Standing) (st : Stored) (id : SurfaceId) (s : Surface) → KeepsStored st → IsKeptAt st id s → KeepsLists l0 st
    → ((q : ℕ) → list_at l1 q ≡ cond (nat_eq s.client q) (filter (λ (x : Numbered). not (same_surface x.id id)) (list_at l0 q)) (list_at l0 q)) → KeepsLists l1 (destroying id st)
destroyed_lists l0 l1 st id s keeps k h goes =
    let there = find_at (λ (c : Created). same_surface c.id id && not c.destroyed) st.surfaces k.surface k.is in
    let at = from_same k.surface.id id (and_parts (same_surface k.surface.id id) (not k.surface.destroyed) there.1).0 in
    gone_lists id s.client st l0 l1 h
    (λ c p e. ap (λ (x : Created). x.client) (one_surface st c k.surface keeps p there.0 (from_same c.id id e ∙ sym at)) ∙ ap (λ (x : Surface). x.client) (sym k.kept)) goes

-- What a range shows

pub shown_ids : (t : Table) (w : Waits) (o : Owners) (g : Groups) (ts : List Told) (st : Stored) (range : SurfaceRange) → Stands t w o g (stored ts) → stored ts ≡ st
    → option_map (λ (l : Link). l.id) (shown_link t g range) ≡ shown_in st range
shown_ids t w o g ts st range inv view = shows t g inv.links st (subst (Keeps t w o) view inv.kept).table (subst (KeepsGroups g) view inv.groups) range

-- and what is active under the key of its link
pub shown_acts : (t : Table) (w : Waits) (o : Owners) (g : Groups) (ts : List Told) (st : Stored) (range : SurfaceRange) → Stands t w o g (stored ts) → stored ts ≡ st
    → (l : Link) → Some l ≡ shown_link t g range → acting_under t l.key ≡ option_map held_of (active_on st l.id)
shown_acts t w o g ts st range inv view l e = acting_reads t w o st l.id l.key (subst (Keeps t w o) view inv.kept) (shown_key t g inv.links range l (sym e))
