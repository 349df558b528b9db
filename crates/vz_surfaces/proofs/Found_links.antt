-- The link that is found in the groups is that of what a range shows.
use Rattle.std.proofs.Common.{arith, ◌≡◌, Bool, true, false, Option, Some, None, is_some, List, [], ◌∷◌, filter, find, reverse, refl, ap, sym, ◌∙◌, cond, Contains}
use Rattle.std.proofs.lemmas.Bool.Decides.{nat_tests}
use Rattle.std.specs.Option.{option_map}
use Rattle.vz_ids.specs.declared.SurfaceId.{SurfaceId}
use Rattle.vz_ids.specs.declared.SurfaceRange.{SurfaceRange}
use Rattle.vz_ids.specs.Ids.{same_group, at_least}
use Rattle.vz_rules.specs.Scene.{or_else}
use Rattle.vz_rules.proofs.Members.{contains_here, contains_there, filter_at}
use Rattle.vz_surfaces.specs.Stored.{Stored}
use Rattle.vz_surfaces.specs.Reading.{shown_in}
use Rattle.vz_surfaces.specs.declared.table.Table.{Table}
use Rattle.vz_surfaces.specs.declared.groups.Link.{Link}
use Rattle.vz_surfaces.specs.declared.groups.Groups.{Groups}
use Rattle.vz_surfaces.specs.Memory.{key_at, KeepsTable}
use Rattle.vz_surfaces.specs.Chains.{links_at, ids_of, chain_at, acting_under, KeepsGroups, KeepsLinks, that_passes, starts_from, last_acting, newest_to, newest_from, shown_link}
use Rattle.vz_surfaces.proofs.Linking.{ids_filter}
use Rattle.vz_surfaces.proofs.Shown.{is_acting, id_passes, id_from, last_step, ids_show}

joined : (o : Option Link) (b : Bool) (l : Link) → option_map (λ (x : Link). x.id) (or_else o (cond b (Some l) None)) ≡ or_else (option_map (λ (x : Link). x.id) o) (cond b (Some l.id) None)
joined None true l = refl
joined None false l = refl
joined (Some x) b l = refl

either_link : (a b : Option Link) → option_map (λ (x : Link). x.id) (or_else a b) ≡ or_else (option_map (λ (x : Link). x.id) a) (option_map (λ (x : Link). x.id) b)
either_link None b = refl
either_link (Some l) b = refl

pass_link : (p : SurfaceId → Bool) (o : Option Link) → option_map (λ (x : Link). x.id) (that_passes p o) ≡ id_passes p (option_map (λ (x : Link). x.id) o)
pass_link p None = refl
pass_link p (Some l) = grind (arith, nat_tests)

passed : (p : SurfaceId → Bool) (o : Option Link) (l : Link) → that_passes p o ≡ Some l → o ≡ Some l
passed p None l e = e
passed p (Some m) l e = grind (arith, nat_tests)

-- what is found from the end is one of the list
last_there : (p : Link → Bool) (xs : List Link) (x : Link) → find p (reverse xs) ≡ Some x → Contains xs x
last_there p [] x e = absurd (cc)
last_there p (y ∷ xs) x e = grind (arith, nat_tests, last_step, last_there p xs x, contains_here, contains_there)

module _ (t : Table) (g : Groups) (h : KeepsLinks t g) where
  acts_link : (l : Link) → key_at t l.id ≡ Some l.key → is_some (acting_under t l.key) ≡ is_acting t l.id
  acts_link l e = grind (arith, nat_tests)

  last_links : (ls : List Link) → ((l : Link) → Contains ls l → key_at t l.id ≡ Some l.key)
      → option_map (λ (x : Link). x.id) (find (λ (l : Link). is_some (acting_under t l.key)) (reverse ls)) ≡ find (is_acting t) (reverse (ids_of ls))
  last_links [] keys = refl
  last_links (l ∷ ls) keys =
      let p = λ (l : Link). is_some (acting_under t l.key) in
      ap (option_map (λ (x : Link). x.id)) (last_step p l ls)
      ∙ (joined (find p (reverse ls)) (p l) l
      ∙ (ap (λ o. or_else o (cond (p l) (Some l.id) None)) (last_links ls (λ x c. keys x (contains_there l x ls c)))
      ∙ (ap (λ (b : Bool). or_else (find (is_acting t) (reverse (ids_of ls))) (cond b (Some l.id) None)) (acts_link l (keys l (contains_here l ls)))
      ∙ sym (last_step (is_acting t) l.id (ids_of ls)))))

  to_ids : (end : SurfaceId) → option_map (λ (x : Link). x.id) (newest_to t g end) ≡ find (is_acting t) (reverse (filter (at_least end) (chain_at g end)))
  unfolding last_acting
  to_ids end =
      last_links (filter (λ (l : Link). at_least end l.id) (links_at g end)) (λ l c. h.keys end l (filter_at (λ (l : Link). at_least end l.id) (links_at g end) l c).0)
      ∙ ap (λ ids. find (is_acting t) (reverse ids)) (ids_filter (at_least end) (links_at g end))

  from_ids : (s : Option SurfaceId) (end : SurfaceId) → option_map (λ (x : Link). x.id) (newest_from t g s end) ≡ id_from t g s end
  unfolding last_acting
  from_ids None end = refl
  from_ids (Some start) end = grind (arith, nat_tests, id_passes, is_acting t, pass_link, last_links (links_at g start) (h.keys start))

  -- the surface of the link that is found is what the range shows
  pub shows : (st : Stored) → KeepsTable t st → KeepsGroups g st → (range : SurfaceRange) → option_map (λ (x : Link). x.id) (shown_link t g range) ≡ shown_in st range
  shows st ht hg range = grind (arith, nat_tests, either_link, pass_link, id_passes, to_ids, is_acting, from_ids, ids_show)

  from_there : (s : Option SurfaceId) (end : SurfaceId) (l : Link) → newest_from t g s end ≡ Some l → key_at t l.id ≡ Some l.key
  unfolding last_acting
  from_there None end l e = absurd (cc)
  from_there (Some start) end l e = by (same_group start end) e
    where
      p : Link → Bool
      p = λ (l : Link). is_some (acting_under t l.key)

      by : (b : Bool) → cond b None (that_passes (λ id. at_least id start) (find p (reverse (links_at g start)))) ≡ Some l → key_at t l.id ≡ Some l.key
      by true f = absurd (cc)
      by false f = h.keys start l (last_there p (links_at g start) l (passed (λ id. at_least id start) (find p (reverse (links_at g start))) l f))

  -- and the link has its key
  pub shown_key : (range : SurfaceRange) (l : Link) → shown_link t g range ≡ Some l → key_at t l.id ≡ Some l.key
  unfolding last_acting
  shown_key range l e = by (that_passes (starts_from range.start range.end) (newest_to t g range.end)) refl e
    where
      p : Link → Bool
      p = λ (l : Link). is_some (acting_under t l.key)

      by : (o : Option Link) → that_passes (starts_from range.start range.end) (newest_to t g range.end) ≡ o → or_else o (newest_from t g range.start range.end) ≡ Some l → key_at t l.id ≡ Some l.key
      by None f k = from_there range.start range.end l k
      by (Some m) f k =
          let up = filter (λ (x : Link). at_least range.end x.id) (links_at g range.end) in
          h.keys range.end l (filter_at (λ (x : Link). at_least range.end x.id) (links_at g range.end) l
          (last_there p up l (passed (starts_from range.start range.end) (find p (reverse up)) l (f ∙ k)))).0
