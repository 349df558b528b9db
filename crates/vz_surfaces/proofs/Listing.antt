-- The surfaces of each client that exist, over the changes of a store, and those of them that are marked.
use Rattle.std.proofs.Common.{◌≡◌, ℕ, zero, suc, ◌+◌, ◌-◌, ◌≤◌, Bool, true, false, not, ◌&&◌, ◌==◌, nat_le, nat_eq, List, [], ◌∷◌, ◌++◌, map, filter, length, refl, ap, sym, ◌∙◌, arith, cond, subst, Contains, append-nil, append_assoc, count_by}
use Rattle.std.proofs.lemmas.List.{map-append, length-append, length-map}
use Rattle.std.proofs.lemmas.List.Elements.{filter-append}
use Rattle.std.proofs.lemmas.Bool.{and_parts, eqb-true}
use Rattle.std.proofs.lemmas.Bool.Decides.{nat_tests}
use Rattle.vz_ids.specs.declared.FrameSinkId.{FrameSinkId}
use Rattle.vz_ids.specs.declared.LocalSurfaceId.{LocalSurfaceId}
use Rattle.vz_ids.specs.declared.SurfaceId.{SurfaceId}
use Rattle.vz_ids.specs.Ids.{same_surface}
use Rattle.vz_pixels.specs.Block.{Block}
use Rattle.vz_frame.specs.declared.frame.CompositorFrame.{CompositorFrame}
use Rattle.vz_rules.specs.World.{Surface, Submission}
use Rattle.vz_rules.specs.Messages.{is_last}
use Rattle.vz_rules.specs.Kept.{last_in, is_surface_of}
use Rattle.vz_rules.proofs.Members.{when_same, contains_here, contains_there, contains_map, filter_at}
use Rattle.vz_rules.proofs.Counts.{count_cons}
use Rattle.vz_surfaces.specs.Stored.{Stored, surface_of, new_surface, storing, raising, marking, ended_at, destroying}
use Rattle.vz_surfaces.specs.Reading.{existing_count, marked_of, marked_to}
use Rattle.vz_surfaces.specs.declared.standing.Numbered.{Numbered}
use Rattle.vz_surfaces.specs.declared.standing.Standing.{Standing}
use Rattle.vz_surfaces.specs.declared.owners.Owners.{Owners}
use Rattle.vz_surfaces.specs.Memory.{owner_at, HasNumber, KeepsOwners, KeepsMarks, MarksUpTo}
use Rattle.vz_surfaces.specs.Numbers.{list_at, Rises, numbered_of, KeepsLists}
use Rattle.vz_surfaces.proofs.Telling.{read_same, filter_all}
use Rattle.vz_surfaces.proofs.Others.{never}
use Rattle.vz_surfaces.proofs.Numbering.{rises_more, rises_less}

client_test : (c q : ℕ) → nat_eq c q ≡ (c == q)
client_test c q = grind (arith, nat_tests)

-- the list of a client
abbrev pub list_of : ℕ → List Surface → List Numbered
list_of q ss = map numbered_of (filter (λ (x : Surface). (x.client == q) && not x.destroyed) ss)

pub lists_alike : (old new : Standing) (st : Stored) → ((q : ℕ) → list_at new q ≡ list_at old q) → KeepsLists old st → KeepsLists new st
lists_alike old new st same h = record { lists = λ q. same q ∙ h.lists q; rise = λ q. subst Rises (sym (same q)) (h.rise q) }

-- surfaces keep what lists have of them
lists_same : (g : Surface → Surface) (s : Standing) (st : Stored) (ss : List Submission) → ((x : Surface) → numbered_of (g x) ≡ numbered_of x) → ((q : ℕ) (x : Surface) → (((g x).client == q) && not (g x).destroyed) ≡ ((x.client == q) && not x.destroyed))
    → KeepsLists s st → KeepsLists s (record { surfaces = map g st.surfaces; subs = ss })
lists_same g s st ss same test h =
    record { lists = λ q. h.lists q ∙ sym (read_same g numbered_of (λ (x : Surface). (x.client == q) && not x.destroyed) st.surfaces same (test q)); rise = h.rise }

pub raised_lists : (s : Standing) (st : Stored) (x : Submission) → KeepsLists s st → KeepsLists s (raising x st)
unfolding raising
raised_lists s st x h = grind (arith, nat_tests, lists_same, when_same)

pub marked_lists : (s : Standing) (st : Stored) (c : ℕ) → KeepsLists s st → KeepsLists s (marking c st)
unfolding marking
marked_lists s st c h = grind (arith, nat_tests, lists_same, when_same)

-- Accepting

module _ (st : Stored) (c : ℕ) (sink : FrameSinkId) (local : LocalSurfaceId) (frame : CompositorFrame) (blocks : List Block) where
  abbrev fresh_one : Surface
  fresh_one = new_surface c (surface_of sink local) frame st.surfaces

  list_by : (t : Bool) (q : ℕ) → list_of q (cond t st.surfaces (st.surfaces ++ fresh_one ∷ [])) ≡ cond (not t && (c == q)) (list_of q st.surfaces ++ numbered_of fresh_one ∷ []) (list_of q st.surfaces)
  list_by true q = refl
  list_by false q =
      ap (map numbered_of) (filter-append (λ (x : Surface). (x.client == q) && not x.destroyed) st.surfaces (fresh_one ∷ [])) ∙ by (c == q)
    where
      by : (b : Bool) → map numbered_of (filter (λ (x : Surface). (x.client == q) && not x.destroyed) st.surfaces ++ cond (b && true) (fresh_one ∷ []) [])
          ≡ cond b (list_of q st.surfaces ++ numbered_of fresh_one ∷ []) (list_of q st.surfaces)
      by true = map-append numbered_of (filter (λ (x : Surface). (x.client == q) && not x.destroyed) st.surfaces) (fresh_one ∷ [])
      by false = ap (map numbered_of) (append-nil (filter (λ (x : Surface). (x.client == q) && not x.destroyed) st.surfaces))

  pub stored_lists : (old new : Standing) (o : Owners) (last : Bool) (created : ℕ) → HasNumber c → KeepsOwners o st → KeepsMarks o st → KeepsLists old st → last ≡ is_last (last_in st.surfaces c) local → created ≡ (owner_at o c).created
      → ((q : ℕ) → list_at new q ≡ cond (not last && nat_eq c q) (list_at old q ++ record { number = created + 1; id = surface_of sink local } ∷ []) (list_at old q)) → KeepsLists new (storing c sink local frame blocks st)
  unfolding storing
  stored_lists old new o last created number ho hm h at made added =
      record {
        lists = λ q. added q
            ∙ (ap (λ n. cond (not last && nat_eq c q) (list_at old q ++ record { number = n + 1; id = surface_of sink local } ∷ []) (list_at old q)) count
            ∙ (ap (λ b. cond (not last && b) (list_at old q ++ numbered_of fresh_one ∷ []) (list_at old q)) (client_test c q)
            ∙ (ap (λ b. cond (not b && (c == q)) (list_at old q ++ numbered_of fresh_one ∷ []) (list_at old q)) at
            ∙ (ap (λ l. cond (not (is_last (last_in st.surfaces c) local) && (c == q)) (l ++ numbered_of fresh_one ∷ []) l) (h.lists q) ∙ sym (list_by (is_last (last_in st.surfaces c) local) q)))));
        rise = λ q. subst Rises (sym (added q)) (rises q (not last) (nat_eq c q) refl);
      }
    where
      count : created ≡ count_by (is_surface_of c) st.surfaces
      count = made ∙ ho.created c number

      rises : (q : ℕ) (t b : Bool) → nat_eq c q ≡ b → Rises (cond (t && nat_eq c q) (list_at old q ++ record { number = created + 1; id = surface_of sink local } ∷ []) (list_at old q))
      rises q false b e = h.rise q
      rises q true true e =
          subst (λ (x : Bool). Rises (cond x (list_at old q ++ record { number = created + 1; id = surface_of sink local } ∷ []) (list_at old q))) (sym e)
          (rises_more (list_at old q) (record { number = created + 1; id = surface_of sink local }) (h.rise q) (λ x p.
          let m = contains_map numbered_of (filter (λ (x : Surface). (x.client == q) && not x.destroyed) st.surfaces) x (subst (λ l. Contains l x) (h.lists q) p) in
          let f = filter_at (λ (x : Surface). (x.client == q) && not x.destroyed) st.surfaces m.0 m.1 in
          let own : m.0.client ≡ c = eqb-true m.0.client q (and_parts (m.0.client == q) (not m.0.destroyed) f.1).0 ∙ sym (eqb-true c q (sym (client_test c q) ∙ e)) in
          omega (arith, (hm.numbers m.0 f.0).1, ap (λ k. (owner_at o k).created) own, made, ap (λ (y : Numbered). y.number) m.2)))
      rises q true false e = subst (λ (x : Bool). Rises (cond x (list_at old q ++ record { number = created + 1; id = surface_of sink local } ∷ []) (list_at old q))) (sym e) (h.rise q)

-- Destroying

mapped_cond : (b : Bool) (c : Surface) (rest : List Surface) → map numbered_of (cond b (c ∷ rest) rest) ≡ cond b (numbered_of c ∷ map numbered_of rest) (map numbered_of rest)
mapped_cond true c rest = refl
mapped_cond false c rest = refl

ends_list : (id : SurfaceId) (q : ℕ) (ss : List Surface) → list_of q (map (ended_at id) ss) ≡ filter (λ (x : Numbered). not (same_surface x.id id)) (list_of q ss)
ends_list id q [] = refl
ends_list id q (c ∷ ss) = grind (arith, nat_tests, ends_list id q ss, mapped_cond)

-- the surface of an id is of one client alone
pub gone_lists : (id : SurfaceId) (c : ℕ) (st : Stored) (old new : Standing) → KeepsLists old st → ((s : Surface) → Contains st.surfaces s → same_surface s.id id ≡ true → s.client ≡ c)
    → ((q : ℕ) → list_at new q ≡ cond (nat_eq c q) (filter (λ (x : Numbered). not (same_surface x.id id)) (list_at old q)) (list_at old q)) → KeepsLists new (destroying id st)
unfolding destroying
gone_lists id c st old new h one goes =
    record {
      lists = λ q. gone q ∙ (ap (filter (λ (x : Numbered). not (same_surface x.id id))) (h.lists q) ∙ sym (ends_list id q st.surfaces));
      rise = λ q. subst Rises (sym (gone q)) (rises_less (λ (x : Numbered). not (same_surface x.id id)) (list_at old q) (h.rise q));
    }
  where
    gone_by : (q : ℕ) (b : Bool) → nat_eq c q ≡ b → cond b (filter (λ (x : Numbered). not (same_surface x.id id)) (list_at old q)) (list_at old q) ≡ filter (λ (x : Numbered). not (same_surface x.id id)) (list_at old q)
    gone_by q true g = refl
    gone_by q false g =
        sym (filter_all (λ (x : Numbered). not (same_surface x.id id)) (list_at old q) (λ x p.
        let m = contains_map numbered_of (filter (λ (x : Surface). (x.client == q) && not x.destroyed) st.surfaces) x (subst (λ l. Contains l x) (h.lists q) p) in
        let f = filter_at (λ (x : Surface). (x.client == q) && not x.destroyed) st.surfaces m.0 m.1 in
        let own = eqb-true m.0.client q (and_parts (m.0.client == q) (not m.0.destroyed) f.1).0 in
        ap not (never (same_surface x.id id) (λ e. sym g ∙ same_client (sym (one m.0 f.0 (ap (λ (y : Numbered). same_surface y.id id) m.2 ∙ e)) ∙ own)))))
      where
        same_client : c ≡ q → nat_eq c q ≡ true
        same_client e = grind (arith, nat_tests)

    gone : (q : ℕ) → list_at new q ≡ filter (λ (x : Numbered). not (same_surface x.id id)) (list_at old q)
    gone q = goes q ∙ gone_by q (nat_eq c q) refl

-- Marked ones

front_one : (n : ℕ) (q : ℕ) (c : Surface) (rest : List Numbered) (ids : List SurfaceId) (in_q nd m : Bool) → ids ≡ map (λ (x : Numbered). x.id) (filter (λ (x : Numbered). nat_le x.number n) rest)
    → (in_q ≡ true → m ≡ nat_le c.number n)
    → map (λ (x : Numbered). x.id) (filter (λ (x : Numbered). nat_le x.number n) (cond (in_q && nd) (numbered_of c ∷ rest) rest)) ≡ cond (in_q && m && nd) (c.id ∷ ids) ids
front_one n q c rest ids false nd m e f = sym e
front_one n q c rest ids true false m e f = grind (arith, nat_tests)
front_one n q c rest ids true true m e f = grind (arith, nat_tests)

marks_front : (n q : ℕ) (ss : List Surface) → ((s : Surface) → Contains ss s → (s.client == q) ≡ true → s.marked ≡ nat_le s.number n)
    → map (λ (x : Numbered). x.id) (filter (λ (x : Numbered). nat_le x.number n) (list_of q ss)) ≡ map (λ (s : Surface). s.id) (filter (λ (s : Surface). (s.client == q) && s.marked && not s.destroyed) ss)
marks_front n q [] h = refl
marks_front n q (c ∷ ss) h =
    ap (λ l. map (λ (x : Numbered). x.id) (filter (λ (x : Numbered). nat_le x.number n) l)) (mapped_cond ((c.client == q) && not c.destroyed) c (filter (λ (x : Surface). (x.client == q) && not x.destroyed) ss))
    ∙ (front_one n q c (list_of q ss) (map (λ (s : Surface). s.id) (filter (λ (s : Surface). (s.client == q) && s.marked && not s.destroyed) ss)) (c.client == q) (not c.destroyed) c.marked
    (sym (marks_front n q ss (λ s p. h s (contains_there c s ss p)))) (h c (contains_here c ss))
    ∙ sym (ids_cond ((c.client == q) && c.marked && not c.destroyed) (filter (λ (s : Surface). (s.client == q) && s.marked && not s.destroyed) ss)))
  where
    ids_cond : (b : Bool) (rest : List Surface) → map (λ (s : Surface). s.id) (cond b (c ∷ rest) rest) ≡ cond b (c.id ∷ map (λ (s : Surface). s.id) rest) (map (λ (s : Surface). s.id) rest)
    ids_cond true rest = refl
    ids_cond false rest = refl

-- the front of a client's list are its marked surfaces
pub front_marked : (s : Standing) (o : Owners) (st : Stored) (q : ℕ) → KeepsLists s st → KeepsMarks o st
    → map (λ (x : Numbered). x.id) (filter (λ (x : Numbered). nat_le x.number (owner_at o q).marked_to) (list_at s q)) ≡ marked_of q st
unfolding marked_of
front_marked s o st q h hm =
    ap (λ l. map (λ (x : Numbered). x.id) (filter (λ (x : Numbered). nat_le x.number (owner_at o q).marked_to) l)) (h.lists q)
    ∙ marks_front (owner_at o q).marked_to q st.surfaces (λ c p e. hm.marks c p ∙ ap (λ k. nat_le c.number (owner_at o k).marked_to) (eqb-true c.client q e))

-- the numbers of a client's surfaces begin at 1
pub numbers_begin : (s : Standing) (o : Owners) (st : Stored) (q : ℕ) → KeepsLists s st → KeepsMarks o st → (x : Numbered) → Contains (list_at s q) x → 1 ≤ x.number
numbers_begin s o st q h hm x c =
    let m = contains_map numbered_of (filter (λ (y : Surface). (y.client == q) && not y.destroyed) st.surfaces) x (subst (λ l. Contains l x) (h.lists q) c) in
    let f = filter_at (λ (y : Surface). (y.client == q) && not y.destroyed) st.surfaces m.0 m.1 in
    omega (arith, (hm.numbers m.0 f.0).0, ap (λ (y : Numbered). y.number) m.2)

-- How many are marked

marked_few : (q : ℕ) (ss : List Surface) → length (filter (λ (s : Surface). (s.client == q) && s.marked && not s.destroyed) ss) ≤ count_by (λ (s : Surface). (s.client == q) && not s.destroyed) ss
marked_few q [] = omega arith
marked_few q (c ∷ ss) = omega (arith, by (c.client == q) c.marked (not c.destroyed), count_cons (λ (s : Surface). (s.client == q) && not s.destroyed) c ss, marked_few q ss)
  where
    by : (a m d : Bool) → length (cond (a && m && d) (c ∷ filter (λ (s : Surface). (s.client == q) && s.marked && not s.destroyed) ss) (filter (λ (s : Surface). (s.client == q) && s.marked && not s.destroyed) ss))
        ≤ cond (a && d) 1 0 + length (filter (λ (s : Surface). (s.client == q) && s.marked && not s.destroyed) ss)
    by true true true = omega arith
    by true true false = omega arith
    by true false true = omega arith
    by true false false = omega arith
    by false m d = omega arith

-- those of the first clients that exist
abbrev in_first : ℕ → Surface → Bool
in_first n s = nat_le s.client n && not s.destroyed

count_split : (n : ℕ) (ss : List Surface) → count_by (in_first n) ss + count_by (λ (s : Surface). (s.client == (n + 1)) && not s.destroyed) ss ≤ count_by (in_first (n + 1)) ss
count_split n [] = omega arith
count_split n (c ∷ ss) =
    omega (
      arith,
      count_cons (in_first n) c ss,
      count_cons (λ (s : Surface). (s.client == (n + 1)) && not s.destroyed) c ss,
      count_cons (in_first (n + 1)) c ss,
      count_split n ss,
      by (nat_le c.client n) (c.client == (n + 1)) (nat_le c.client (n + 1)) (not c.destroyed) (λ e. grind (arith, nat_tests)) (λ e. grind (arith, nat_tests)) (λ e f. grind (arith, nat_tests)),
    )
  where
    by : (a b d nd : Bool) → (a ≡ true → d ≡ true) → (b ≡ true → d ≡ true) → (a ≡ true → b ≡ true → true ≡ false) → cond (a && nd) 1 0 + cond (b && nd) 1 0 ≤ cond (d && nd) 1 0
    by true true d nd f g h = let no_way : true ≡ false = h refl refl in absurd (cc)
    by true false d nd f g h = let e : d ≡ true = f refl in rw e (one nd)
      where
        one : (nd : Bool) → cond nd 1 0 + 0 ≤ cond nd 1 0
        one true = omega arith
        one false = omega arith
    by false true d nd f g h = let e : d ≡ true = g refl in rw e (omega arith)
    by false false d nd f g h = omega arith

all_first : (n : ℕ) (ss : List Surface) → count_by (in_first n) ss ≤ count_by (λ (s : Surface). not s.destroyed) ss
all_first n [] = omega arith
all_first n (c ∷ ss) = omega (arith, count_cons (in_first n) c ss, count_cons (λ (s : Surface). not s.destroyed) c ss, all_first n ss, by (nat_le c.client n) (not c.destroyed))
  where
    by : (a d : Bool) → cond (a && d) 1 0 ≤ cond d 1 0
    by true d = omega arith
    by false true = omega arith
    by false false = omega arith

marked_first : (n : ℕ) (st : Stored) → length (marked_to n st) ≤ count_by (in_first n) st.surfaces
unfolding marked_to marked_of
marked_first zero st = omega arith
marked_first (suc n) st = grind (arith, nat_tests, length-append (marked_to n st) (marked_of (n + 1) st), length-map, marked_first n st, marked_few (n + 1) st.surfaces, count_split n st.surfaces)

-- no more are marked than exist
pub marked_fit : (n : ℕ) (st : Stored) → length (marked_to n st) ≤ existing_count st
unfolding existing_count
marked_fit n st = omega (arith, marked_first n st, all_first n st.surfaces)

pub marked_next : (n : ℕ) (st : Stored) → marked_to (n + 1) st ≡ marked_to n st ++ marked_of (n + 1) st
unfolding marked_to
marked_next n st = grind (arith, nat_tests)

module _ (s : Standing) (o : Owners) (st : Stored) (h : KeepsLists s st) (hm : KeepsMarks o st) (k to : ℕ) (at : to ≡ (owner_at o (k + 1)).marked_to) where
  abbrev front : List Numbered
  front = filter (λ (x : Numbered). nat_le x.number to) (list_at s (k + 1))

  front_is : map (λ (x : Numbered). x.id) front ≡ marked_of (k + 1) st
  front_is = ap (λ n. map (λ (x : Numbered). x.id) (filter (λ (x : Numbered). nat_le x.number n) (list_at s (k + 1)))) at ∙ front_marked s o st (k + 1) h hm

  front_long : length front ≡ length (marked_of (k + 1) st)
  front_long = sym (length-map front (λ (x : Numbered). x.id)) ∙ ap length front_is

  -- there is room for one client more
  pub put_fits : (whole left : ℕ) → existing_count st ≤ whole → whole ≡ left + length (marked_to k st) → length front ≤ left
  put_fits whole left fits is = grind (arith, nat_tests, front_long, marked_fit (k + 1) st, marked_next k st, length-append (marked_to k st) (marked_of (k + 1) st))

  pub put_more : (first old new : List SurfaceId) → old ≡ first ++ marked_to k st → new ≡ old ++ map (λ (x : Numbered). x.id) front → new ≡ first ++ marked_to (k + 1) st
  put_more first old new is added =
      added ∙ (ap (λ l. old ++ l) front_is ∙ (ap (λ l. l ++ marked_of (k + 1) st) is ∙ (append_assoc first (marked_to k st) (marked_of (k + 1) st) ∙ ap (λ l. first ++ l) (sym (marked_next k st)))))

  pub put_left : (whole old new : ℕ) → whole ≡ old + length (marked_to k st) → old ≡ new + length front → whole ≡ new + length (marked_to (k + 1) st)
  put_left whole old new is used = grind (arith, nat_tests, front_long, marked_next k st, length-append (marked_to k st) (marked_of (k + 1) st))

-- before the first client none is in
pub put_none : (first : List SurfaceId) (n : ℕ) (st : Stored) → (first ≡ first ++ marked_to 0 st) × (n ≡ n + length (marked_to 0 st))
unfolding marked_to
put_none first n st = (sym (append-nil first), omega arith)

-- where no surface of a client is marked none is listed
none_listed : (s : Standing) (o : Owners) (st : Stored) (q : ℕ) → KeepsLists s st → KeepsMarks o st → (owner_at o q).marked_to ≡ 0 → marked_of q st ≡ []
none_listed s o st q h hm e =
    sym (front_marked s o st q h hm)
    ∙ (ap (λ n. map (λ (x : Numbered). x.id) (filter (λ (x : Numbered). nat_le x.number n) (list_at s q))) e ∙ ap (map (λ (x : Numbered). x.id)) (none (list_at s q) (numbers_begin s o st q h hm)))
  where
    low : (n : ℕ) → 1 ≤ n → nat_le n 0 ≡ false
    low n l = grind (arith, nat_tests)

    none : (xs : List Numbered) → ((x : Numbered) → Contains xs x → 1 ≤ x.number) → filter (λ (x : Numbered). nat_le x.number 0) xs ≡ []
    none [] f = refl
    none (x ∷ xs) f =
        ap (λ (b : Bool). cond b (x ∷ filter (λ (y : Numbered). nat_le y.number 0) xs) (filter (λ (y : Numbered). nat_le y.number 0) xs)) (low x.number (f x (contains_here x xs)))
        ∙ none xs (λ y c. f y (contains_there x y xs c))

-- those of the clients above are none
none_above : (s : Standing) (o : Owners) (st : Stored) (d : ℕ) → KeepsLists s st → KeepsMarks o st → MarksUpTo o → o.marking + d ≤ 16 → marked_to (o.marking + d) st ≡ marked_to o.marking st
none_above s o st zero h hm up l = ap (λ n. marked_to n st) (plain o.marking)
  where
    plain : (n : ℕ) → n + 0 ≡ n
    plain n = omega arith
none_above s o st (suc d) h hm up l =
    ap (λ n. marked_to n st) (next o.marking d)
    ∙ (marked_next (o.marking + d) st
    ∙ (ap (λ l. marked_to (o.marking + d) st ++ l) (none_listed s o st (o.marking + d + 1) h hm (up.above (o.marking + d + 1) (omega arith, omega (arith, l)) (omega arith)))
    ∙ (append-nil (marked_to (o.marking + d) st) ∙ none_above s o st d h hm up (omega (arith, l)))))
  where
    next : (n d : ℕ) → n + suc d ≡ n + d + 1
    next n d = omega arith

-- those of the clients up to the last one that has marked surfaces are all
pub marked_whole : (s : Standing) (o : Owners) (st : Stored) (n : ℕ) → KeepsLists s st → KeepsMarks o st → MarksUpTo o → n ≡ o.marking → marked_to 16 st ≡ marked_to n st
marked_whole s o st n h hm up e =
    let whole : o.marking + (16 - o.marking) ≡ 16 = omega (arith, up.most) in
    ap (λ k. marked_to k st) (sym whole) ∙ (none_above s o st (16 - o.marking) h hm up (omega (arith, whole)) ∙ ap (λ k. marked_to k st) (sym e))
