-- A round of activation, done by flags, and rounds until one changes nothing.
use Rattle.std.proofs.Common.{◌≡◌, ℕ, zero, suc, ◌-◌, ◌<◌, ◌≤◌, Bool, true, false, ◌&&◌, ◌||◌, ◌==◌, List, [], ◌∷◌, ◌++◌, cond, filter, map, refl, sym, ap, ◌∙◌, if◌then◌else◌, arith, nat_lt, append_assoc}
use Rattle.std.specs.List.{list_any}
use Rattle.vz_ids.specs.declared.SurfaceId.{SurfaceId}
use Rattle.vz_ids.specs.Ids.{same_surface, at_least}
use Rattle.vz_scene.specs.Reached.{is_reached}
use Rattle.vz_rules.specs.World.{World, Submission, Surface, is_active, is_on, sub_of}
use Rattle.vz_rules.specs.Settle.{is_ready, ready, is_before, after_round, round, rounds, activated_over}
use Rattle.vz_rules.specs.declared.entry.State.TheVariants.{Active, Past}
use Rattle.vz_rules.proofs.Settled.{round_stays, rounds_stay}
use Rattle.vz_state.specs.declared.risen.Risen.{Risen}
use Rattle.vz_state.specs.Rising.{risen_of, on_same, on_later, meets, rises_to, IsMetBy}

-- a test of what was noted is one of what it was noted of
pub any_map : {A B : Type 0} (p : B → Bool) (f : A → B) (xs : List A) → list_any p (map f xs) ≡ list_any (λ x. p (f x)) xs
any_map p f [] = refl
any_map p f (x ∷ xs) = ap (λ t. p (f x) || t) (any_map p f xs)

-- the names of what rose
pub subs_noted : (surfaces : List Surface) (xs : List Submission) → map (λ (r : Risen). r.sub) (map (risen_of surfaces) xs) ≡ map sub_of xs
subs_noted surfaces [] = refl
subs_noted surfaces (x ∷ xs) = ap (λ l. x.submitted.sub ∷ l) (subs_noted surfaces xs)

-- a submission by two tests
abbrev pub gone_on : (Submission → Bool) → (Submission → Bool) → Submission → Submission
gone_on p q s = if p s then record s { state = Active; was_active = true } else (if is_active s && q s then record s { state = Past } else s)

-- a surface by a test
abbrev pub marked_if : (Surface → Bool) → Surface → Surface
marked_if p c = if p c then record c { marked = true } else c

-- what the flags make of a world is a round
pub round_is : (w v : World) → v ≡ w → (rs : List Risen) → rs ≡ map (risen_of w.surfaces) (ready w)
    → (bs : List Bool) → bs ≡ map (is_ready w) w.subs → (ts : List Bool) → ts ≡ map (on_same rs) w.subs → (ms : List Bool) → ms ≡ map (on_later rs) w.surfaces
    → (submissions : List Submission) → ((p q : Submission → Bool) → bs ≡ map p v.subs → ts ≡ map q v.subs → submissions ≡ map (gone_on p q) v.subs)
    → (surfaces : List Surface) → ((p : Surface → Bool) → ms ≡ map p v.surfaces → surfaces ≡ map (marked_if p) v.surfaces)
    → ◌≡◌ {A = World} (record v { subs = submissions; surfaces = surfaces }) (round w)
unfolding round
round_is w v e rs rises bs becomes ts replaced ms marked submissions submissions_are surfaces surfaces_are =
    let q : Submission → Bool = λ s. list_any (is_on s.submitted.id) (ready w) in
    let same : on_same rs ≡ q = λ i s. (ap (λ (l : List Risen). on_same l s) rises ∙ any_map (λ (r : Risen). same_surface r.id s.submitted.id) (risen_of w.surfaces) (ready w)) i in
    let m : Surface → Bool = λ c. list_any (is_before w.surfaces c) (ready w) in
    let later : on_later rs ≡ m = λ i c. (ap (λ (l : List Risen). on_later l c) rises ∙ any_map (λ (r : Risen). (c.client == r.sub.client) && nat_lt c.number r.number) (risen_of w.surfaces) (ready w)) i in
    let one : submissions ≡ map (gone_on (is_ready w) q) w.subs =
    submissions_are (is_ready w) (on_same rs) (becomes ∙ ap (λ (x : World). map (is_ready w) x.subs) (sym e)) (replaced ∙ ap (λ (x : World). map (on_same rs) x.subs) (sym e))
    ∙ (ap (λ (x : World). map (gone_on (is_ready w) (on_same rs)) x.subs) e ∙ ap (λ (h : Submission → Bool). map (gone_on (is_ready w) h) w.subs) same) in
    let two : surfaces ≡ map (marked_if m) w.surfaces =
    surfaces_are (on_later rs) (marked ∙ ap (λ (x : World). map (on_later rs) x.surfaces) (sym e))
    ∙ (ap (λ (x : World). map (marked_if (on_later rs)) x.surfaces) e ∙ ap (λ (h : Surface → Bool). map (marked_if h) w.surfaces) later) in
    let with_both : World → World = λ x. record x { subs = submissions; surfaces = surfaces } in
    let with_subs : List Submission → World = λ l. record w { subs = l; surfaces = surfaces } in
    let with_surfaces : List Surface → World = λ l. record w { subs = map (gone_on (is_ready w) q) w.subs; surfaces = l } in
    ap with_both e ∙ (ap with_subs one ∙ ap with_surfaces two)

-- one round first, and then one fewer
pub rounds_next : (n : ℕ) (w : World) → 0 < n → rounds n w ≡ rounds (n - 1) (round w)
unfolding rounds
rounds_next zero w h = absurd (omega arith)
rounds_next (suc n) w h = let e : n ≡ suc n - 1 = omega arith in ap (λ k. rounds k (round w)) e

-- what becomes active in a round, and then in one fewer
pub activated_next : (n : ℕ) (w : World) → 0 < n → activated_over n w ≡ map sub_of (ready w) ++ activated_over (n - 1) (round w)
unfolding activated_over
activated_next zero w h = absurd (omega arith)
activated_next (suc n) w h = let e : n ≡ suc n - 1 = omega arith in ap (λ k. map sub_of (ready w) ++ activated_over k (round w)) e

none_named : (xs : List Submission) → map sub_of xs ≡ [] → xs ≡ []
none_named [] h = refl
none_named (x ∷ xs) h = absurd (cc)

activated_none : (n : ℕ) (w : World) → ready w ≡ [] → activated_over n w ≡ []
unfolding activated_over
activated_none zero w e = refl
activated_none (suc n) w e =
    ap (λ (l : List Submission). map sub_of l ++ activated_over n (round w)) e ∙ (ap (activated_over n) (round_stays w e) ∙ activated_none n w e)

-- where a round activates nothing, it leaves the world as all further ones do
pub rounds_end : (n : ℕ) (w : World) → map sub_of (ready w) ≡ [] → rounds n w ≡ round w
rounds_end n w h = let e = none_named (ready w) h in rounds_stay n w e ∙ sym (round_stays w e)

-- and nothing becomes active in further ones
pub activated_end : (n : ℕ) (w : World) → map sub_of (ready w) ≡ [] → activated_over n w ≡ []
activated_end n w h = activated_none n w (none_named (ready w) h)

-- where nothing is noted, nothing becomes active
pub none_risen : (surfaces : List Surface) (xs : List Submission) (rs : List Risen) → rs ≡ map (risen_of surfaces) xs → rs ≡ [] → map sub_of xs ≡ []
none_risen surfaces [] rs e h = refl
none_risen surfaces (x ∷ xs) rs e h = absurd (cc)

pub append_none : {A : Type 0} (xs : List A) → xs ++ [] ≡ xs
append_none [] = refl
append_none (x ∷ xs) = ap (λ l. x ∷ l) (append_none xs)

-- no round is left
pub rounds_zero : (n : ℕ) (w : World) → n ≤ 0 → rounds n w ≡ w
unfolding rounds
rounds_zero zero w h = refl
rounds_zero (suc n) w h = absurd (omega arith)

-- and nothing becomes active in none
pub activated_zero : (n : ℕ) (w : World) → n ≤ 0 → activated_over n w ≡ []
unfolding activated_over
activated_zero zero w h = refl
activated_zero (suc n) w h = absurd (omega arith)

-- what became active so far, and one round more
pub joined : {A : Type 0} (xs ys zs new rest all : List A) → new ≡ xs ++ zs → zs ≡ ys → all ≡ xs ++ (ys ++ rest) → all ≡ new ++ rest
joined xs ys zs new rest all e f h = h ∙ (sym (append_assoc xs ys rest) ∙ ap (λ l. l ++ rest) (ap (λ l. xs ++ l) (sym f) ∙ sym e))

-- what was met is met, and what is met by what rises
pub rise_meets : (p : Submission → Bool) (activated : List Submission) (d : SurfaceId) (xs : List Submission) → list_any (meets d) (map (after_round p activated) xs) ≡ (list_any (meets d) xs || list_any (λ (s : Submission). at_least s.submitted.id d) (filter p xs))
rise_meets p activated d [] = refl
rise_meets p activated d (x ∷ xs) = by (p x) refl (rise_meets p activated d xs)
  where
    old : Bool
    old = list_any (meets d) xs

    new : Bool
    new = list_any (λ (s : Submission). at_least s.submitted.id d) (filter p xs)

    joins : (was a m f : Bool) → (a || (m || f)) ≡ (((was && a) || m) || (a || f))
    joins true true m f = refl
    joins true false m f = refl
    joins false true true f = refl
    joins false true false f = refl
    joins false false m f = refl

    grouped : (a m f : Bool) → (a || (m || f)) ≡ ((a || m) || f)
    grouped true m f = refl
    grouped false m f = refl

    stays : (t : Bool) → meets d (cond t (record x { state = Past }) x) ≡ meets d x
    stays true = refl
    stays false = refl

    by : (t : Bool) → p x ≡ t → list_any (meets d) (map (after_round p activated) xs) ≡ (old || new) → list_any (meets d) (map (after_round p activated) (x ∷ xs)) ≡ (list_any (meets d) (x ∷ xs) || list_any (λ (s : Submission). at_least s.submitted.id d) (filter p (x ∷ xs)))
    by true e rest =
        ap (λ (t : Bool). meets d (cond t (record x { state = Active; was_active = true }) (if is_active x && list_any (is_on x.submitted.id) activated then record x { state = Past } else x)) || list_any (meets d) (map (after_round p activated) xs)) e
        ∙ (ap (λ t. at_least x.submitted.id d || t) rest
        ∙ (joins x.was_active (at_least x.submitted.id d) old new
        ∙ ap (λ (t : Bool). (meets d x || old) || list_any (λ (s : Submission). at_least s.submitted.id d) (cond t (x ∷ filter p xs) (filter p xs))) (sym e)))
    by false e rest =
        ap (λ (t : Bool). meets d (cond t (record x { state = Active; was_active = true }) (if is_active x && list_any (is_on x.submitted.id) activated then record x { state = Past } else x)) || list_any (meets d) (map (after_round p activated) xs)) e
        ∙ (ap (λ t. t || list_any (meets d) (map (after_round p activated) xs)) (stays (is_active x && list_any (is_on x.submitted.id) activated))
        ∙ (ap (λ t. meets d x || t) rest
        ∙ (grouped (meets d x) old new
        ∙ ap (λ (t : Bool). (meets d x || old) || list_any (λ (s : Submission). at_least s.submitted.id d) (cond t (x ∷ filter p xs) (filter p xs))) (sym e))))

-- what is met after a round, by what was met before it and by what rose
pub round_meets : (w v : World) (old new : List SurfaceId) (rs : List Risen) → v ≡ round w → rs ≡ map (risen_of w.surfaces) (ready w) → ((d : SurfaceId) → is_reached new d ≡ (is_reached old d || list_any (rises_to d) rs)) → IsMetBy old w.subs → IsMetBy new v.subs
unfolding round ready
round_meets w v old new rs e rises more has d =
    more d
    ∙ (ap (λ t. t || list_any (rises_to d) rs) (has d)
    ∙ (ap (λ (l : List Risen). list_any (meets d) w.subs || list_any (rises_to d) l) rises
    ∙ (ap (λ t. list_any (meets d) w.subs || t) (any_map (rises_to d) (risen_of w.surfaces) (ready w))
    ∙ (sym (rise_meets (is_ready w) (ready w) d w.subs) ∙ ap (λ (u : World). list_any (meets d) u.subs) (sym e)))))
