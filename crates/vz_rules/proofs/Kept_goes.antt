-- A collection is the destruction of what is lost, one surface after another.
use Rattle.std.proofs.Common.{◌≡◌, Bool, true, false, ◌&&◌, ◌||◌, List, [], ◌∷◌, ◌++◌, map, filter, refl, ap, sym, ◌∙◌, cond, Contains, append_assoc, append-nil}
use Rattle.std.specs.List.{list_any}
use Rattle.std.proofs.lemmas.List.Folds.{list_any-append}
use Rattle.vz_ids.specs.Ids.{same_surface}
use Rattle.vz_rules.specs.declared.entry.State.TheVariants.{Dropped}
use Rattle.vz_rules.specs.World.{World, Surface, Submission, is_on}
use Rattle.vz_rules.specs.Reach.{reach, is_lost, destroy, drop_on, lost_in, clearing}
use Rattle.vz_rules.specs.Singly.{as_one_goes, going, all_going}
use Rattle.vz_rules.specs.Kept.{KeepsAlways, is_open}
use Rattle.vz_rules.proofs.Reached.{self_same}
use Rattle.vz_rules.proofs.Members.{any_at, any_from, filter_at, filter_has, contains_at, at_same, map_fixed, same_tests, when_same}
use Rattle.vz_rules.proofs.Kept_last.{surfaces_differ}
use Rattle.vz_rules.proofs.Kept_rounds.{map_twice, map_alike, and_false}

-- a surface after these were destroyed
abbrev gone_with : List Surface → Surface → Surface
gone_with cs d = cond (list_any (λ c. same_surface d.id c.id) cs) (record d { destroyed = true }) d

gone_more : (b k : Bool) (d : Surface)
    → cond k (record (cond b (record d { destroyed = true }) d) { destroyed = true }) (cond b (record d { destroyed = true }) d) ≡ cond (b || (k || false)) (record d { destroyed = true }) d
gone_more true true d = refl
gone_more true false d = refl
gone_more false true d = refl
gone_more false false d = refl

goes_one : (cs : List Surface) (c d : Surface) → as_one_goes c (gone_with cs d) ≡ gone_with (cs ++ c ∷ []) d
goes_one cs c d =
    let b = list_any (λ c. same_surface d.id c.id) cs in
    ap (λ i. cond (same_surface i c.id) (record (gone_with cs d) { destroyed = true }) (gone_with cs d)) (when_same (λ (x : Surface). x.id) (λ d. record d { destroyed = true }) b d refl)
    ∙ (gone_more b (same_surface d.id c.id) d ∙ ap (λ (t : Bool). cond t (record d { destroyed = true }) d) (sym (list_any-append (λ c. same_surface d.id c.id) cs (c ∷ []))))

drop_more : (o b k : Bool) (s : Submission) → is_open s ≡ o
    → cond (is_open (cond (o && b) (record s { state = Dropped }) s) && (k || false)) (record (cond (o && b) (record s { state = Dropped }) s) { state = Dropped }) (cond (o && b) (record s { state = Dropped }) s)
    ≡ cond (o && (b || (k || false))) (record s { state = Dropped }) s
drop_more true true k s e = refl
drop_more true false k s e = ap (λ (t : Bool). cond (t && (k || false)) (record s { state = Dropped }) s) e
drop_more false b k s e = ap (λ (t : Bool). cond (t && (k || false)) (record s { state = Dropped }) s) e

drops_one : (cs : List Surface) (c : Surface) (s : Submission) → drop_on (c ∷ []) (drop_on cs s) ≡ drop_on (cs ++ c ∷ []) s
drops_one cs c s =
    let o = is_open s in
    let b = list_any (λ c. is_on c.id s) cs in
    let t = drop_on cs s in
    ap (λ i. cond (is_open t && (same_surface i.id c.id || false)) (record t { state = Dropped }) t) (when_same (λ (x : Submission). x.submitted) (λ s. record s { state = Dropped }) (o && b) s refl)
    ∙ (drop_more o b (is_on c.id s) s refl ∙ ap (λ (t : Bool). cond (o && t) (record s { state = Dropped }) s) (sym (list_any-append (λ c. is_on c.id s) cs (c ∷ []))))

module _ (w : World) where
  abbrev world_gone : List Surface → World
  world_gone cs = record w { surfaces = map (gone_with cs) w.surfaces; subs = map (drop_on cs) w.subs }

  none_gone : world_gone [] ≡ w
  none_gone =
      ap (λ l. record w { surfaces = l; subs = map (drop_on []) w.subs }) (map_fixed (gone_with []) w.surfaces (λ d p. refl))
      ∙ ap (λ l. record w { subs = l }) (map_fixed (drop_on []) w.subs (λ s p. ap (λ (b : Bool). cond b (record s { state = Dropped }) s) (and_false (is_open s))))

  going_one : (cs : List Surface) (c : Surface) → going c (world_gone cs) ≡ world_gone (cs ++ c ∷ [])
  unfolding going
  going_one cs c =
      ap (λ l. record w { surfaces = l; subs = map (drop_on (c ∷ [])) (map (drop_on cs) w.subs) }) (map_twice (as_one_goes c) (gone_with cs) (gone_with (cs ++ c ∷ [])) w.surfaces (λ d p. goes_one cs c d))
      ∙ ap (λ l. record w { surfaces = map (gone_with (cs ++ c ∷ [])) w.surfaces; subs = l }) (map_twice (drop_on (c ∷ [])) (drop_on cs) (drop_on (cs ++ c ∷ [])) w.subs (λ s p. drops_one cs c s))

  all_gone : (rest cs : List Surface) → all_going rest (world_gone cs) ≡ world_gone (cs ++ rest)
  unfolding all_going
  all_gone [] cs = ap world_gone (sym (append-nil cs))
  all_gone (c ∷ rest) cs = ap (all_going rest) (going_one cs c) ∙ (all_gone rest (cs ++ c ∷ []) ∙ ap world_gone (append_assoc cs (c ∷ []) rest))

-- what some of them pass, some of as many others do
any_alike : {A : Type 0} (p : A → Bool) (xs ys : List A) → ((x : A) → Contains xs x → Contains ys x) → ((x : A) → Contains ys x → Contains xs x)
    → list_any p xs ≡ list_any p ys
any_alike p xs ys f g =
    same_tests (list_any p xs) (list_any p ys)
    (λ e. let m = any_at p xs e in any_from p ys m.0 (f m.0 m.1) m.2)
    (λ e. let m = any_at p ys e in any_from p xs m.0 (g m.0 m.1) m.2)

-- a collection is that of one after another, in any order
pub clearing_singly : (w : World) (cs : List Surface) → KeepsAlways w → ((c : Surface) → Contains cs c → Contains (lost_in w) c)
    → ((c : Surface) → Contains (lost_in w) c → Contains cs c) → clearing w ≡ all_going cs w
unfolding clearing lost_in
clearing_singly w cs h f g =
    let lost = filter (is_lost (reach w)) w.surfaces in
    let same : (d : Surface) → Contains w.surfaces d → is_lost (reach w) d ≡ list_any (λ c. same_surface d.id c.id) cs = λ d p.
    same_tests (is_lost (reach w) d) (list_any (λ c. same_surface d.id c.id) cs)
    (λ e. any_from (λ c. same_surface d.id c.id) cs d (g d (filter_has (is_lost (reach w)) w.surfaces d p e)) (self_same d.id))
    (λ e.
    let c = any_at (λ c. same_surface d.id c.id) cs e in
    let l = filter_at (is_lost (reach w)) w.surfaces c.0 (f c.0 c.1) in
    let n = contains_at w.surfaces d p in
    let m = contains_at w.surfaces c.0 l.0 in
    ap (is_lost (reach w)) (at_same w.surfaces n.0 m.0 d c.0 n.1 m.1 (surfaces_differ w.clients w.surfaces h.clients h.surfaces n.0 m.0 d c.0 n.1 m.1 c.2)) ∙ l.1) in
    ap (λ l. record w { surfaces = l; subs = map (drop_on lost) w.subs })
    (map_alike (destroy (reach w)) (gone_with cs) w.surfaces (λ d p. ap (λ (b : Bool). cond b (record d { destroyed = true }) d) (same d p)))
    ∙ (ap (λ l. record w { surfaces = map (gone_with cs) w.surfaces; subs = l })
    (map_alike (drop_on lost) (drop_on cs) w.subs (λ s p. ap (λ (b : Bool). cond (is_open s && b) (record s { state = Dropped }) s) (any_alike (λ c. is_on c.id s) lost cs g f)))
    ∙ (sym (all_gone w cs []) ∙ ap (all_going cs) (none_gone w)))
