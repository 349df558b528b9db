-- What is drawn and what is outstanding is the same in a plan that goes on.
use Rattle.std.proofs.Common.{◌≡◌, ℕ, Option, Some, None, List, [], ◌∷◌, ◌++◌, ◌↔◌, map, refl, ap, sym, ◌∙◌, cond, subst}
use Rattle.std.specs.Prelude.{reverse, take}
use Rattle.vz_geom.specs.declared.Point.{Point}
use Rattle.vz_geom.specs.declared.Size.{Size}
use Rattle.vz_geom.specs.Rectangle.{sized, bound}
use Rattle.vz_rules.specs.Plan.{Plan}
use Rattle.vz_rules.specs.declared.entry.Entry.{Entry}
use Rattle.vz_rules.specs.World.{World, Scene, opening}
use Rattle.vz_rules.specs.Scene.{scene_of}
use Rattle.vz_rules.specs.Trace.{AreHonest}
use Rattle.vz_rules.specs.Step.{step_in, accepted_frames, LegalFrom, Legal}
use Rattle.vz_rules.specs.Frames.{DrawnFrame, drawn_frame_of, drawn_frames_from, drawn_frames, picture_of, frames, stale, stale_at, written_of, written, painted_of, painted, Honest}
use Rattle.vz_rules.specs.Log.{rest_in, rest_of}
use Rattle.vz_rules.specs.Walk.{walk_of}
use Rattle.vz_rules.specs.Damage.{claims}
use Rattle.vz_rules.specs.Whole.{had_root, claims_after, damage_after, scene_then, aggregated_from, aggregated, hit_in, drawable_in, too_much_in, walk_in, hit_last}
use Rattle.std.specs.Option.{option_and_then}
use Rattle.vz_frame.specs.Frame.{first_of}
use Rattle.vz_rules.specs.Hit.{hit_at}
use Rattle.vz_rules.proofs.Members.{contains_here, contains_there}
use Rattle.vz_sessions.specs.Grown.{GoesOn, AreSettled, SameFrames}
use Rattle.vz_sessions.proofs.Legal_stays.{opening_same, step_same, settled_entry, world-onward}

drawn_from : (p q : Plan) (w : World) (h : List Entry) → GoesOn p q → AreSettled p q h → LegalFrom p w h → drawn_frames_from q w h ≡ drawn_frames_from p w h
unfolding LegalFrom drawn_frames_from
drawn_from p q w [] g s l = refl
drawn_from p q w (e ∷ h) g s l =
    let same = step_same p q w e.event g (settled_entry p q w e l.1 (s e (contains_here e h))) in
    ap (λ ds. drawn_frame_of (scene_of w) e.reply ++ ds)
    (ap (λ o. drawn_frames_from q o.world h) same ∙ drawn_from p q (step_in p w e.event).world h g (λ x c. s x (contains_there e x h c)) l.2)

pub drawn_same : (p q : Plan) (h : List Entry) → GoesOn p q → AreSettled p q h → Legal p h → drawn_frames q h ≡ drawn_frames p h
unfolding drawn_frames Legal
drawn_same p q h g s l = ap (λ w. drawn_frames_from q w h) (opening_same p q g) ∙ drawn_from p q (opening p) h g s l

-- two equations at once
both : {A B C : Type 0} (f : A → B → C) {a b : A} {c d : B} → a ≡ b → c ≡ d → f a c ≡ f b d
both f e k = λ i. f (e i) (k i)

pub frames_same : (p q : Plan) (h : List Entry) → GoesOn p q → AreSettled p q h → Legal p h → frames q h ≡ frames p h
unfolding frames
frames_same p q h g s l = both (λ (z : Size) (ds : List DrawnFrame). map (λ d. picture_of z d.scene) ds) g.size (drawn_same p q h g s l)

pub written_same : (p q : Plan) (h : List Entry) (n : ℕ) → GoesOn p q → AreSettled p q h → Legal p h → written q h n ≡ written p h n
unfolding written
written_same p q h n g s l = both (λ (z : Size) (ds : List DrawnFrame). reverse (written_of z n (reverse ds))) g.size (drawn_same p q h g s l)

pub stale_same : (p q : Plan) (h : List Entry) (n m : ℕ) → GoesOn p q → AreSettled p q h → Legal p h → stale_at q h n m ≡ stale_at p h n m
unfolding stale_at
stale_same p q h n m g s l = both (λ (z : Size) (ds : List DrawnFrame). stale z n (reverse (take m ds))) g.size (drawn_same p q h g s l)

pub painted_same : (p q : Plan) (h : List Entry) (n : ℕ) → GoesOn p q → AreSettled p q h → Legal p h → painted q h n ≡ painted p h n
unfolding painted
painted_same p q h n g s l = both (λ (z : Size) (ds : List DrawnFrame). painted_of z n (reverse ds)) g.size (drawn_same p q h g s l)

pub rest_same : (p q : Plan) (h : List Entry) → GoesOn p q → AreSettled p q h → Legal p h → rest_of q h ≡ rest_of p h
unfolding rest_of
rest_same p q h g s l = ap rest_in (world-onward p q h g s l)

pub honest_same : (p q : Plan) (h : List Entry) → GoesOn p q → AreSettled p q h → Legal p h → Honest p h ≡ Honest q h
unfolding Honest
honest_same p q h g s l = ap (λ w. AreHonest (accepted_frames w)) (sym (world-onward p q h g s l))

aggregated_on : (p q : Plan) (w : World) (before : Option Scene) (h : List Entry) → GoesOn p q → AreSettled p q h → LegalFrom p w h → aggregated_from q w before h ≡ aggregated_from p w before h
unfolding LegalFrom aggregated_from
aggregated_on p q w before [] g s l = refl
aggregated_on p q w before (e ∷ h) g s l =
    let same = step_same p q w e.event g (settled_entry p q w e l.1 (s e (contains_here e h))) in
    ap (λ o. aggregated_from q o.world (scene_then (scene_of w) e.reply before) h) same
    ∙ aggregated_on p q (step_in p w e.event).world (scene_then (scene_of w) e.reply before) h g (λ x c. s x (contains_there e x h c)) l.2

pub aggregated_same : (p q : Plan) (h : List Entry) → GoesOn p q → AreSettled p q h → Legal p h → aggregated q h ≡ aggregated p h
unfolding aggregated Legal
aggregated_same p q h g s l = ap (λ w. aggregated_from q w None h) (opening_same p q g) ∙ aggregated_on p q (opening p) None h g s l

-- what a plan shows at a place, which reads its size alone
hit_is : (p : Plan) (w : World) (a : Point) → hit_in p w a ≡ hit_in (record { files = []; size = p.size }) w a
unfolding hit_in drawable_in too_much_in walk_in
hit_is p w a = refl

pub hit_same : (p q : Plan) (w : World) (a : Point) → GoesOn p q → hit_in q w a ≡ hit_in p w a
hit_same p q w a g = hit_is q w a ∙ (ap (λ z. hit_in (record { files = []; size = z }) w a) g.size ∙ sym (hit_is p w a))

pub claims_same : (p q : Plan) (h : List Entry) → GoesOn p q → AreSettled p q h → Legal p h → claims_after q h ≡ claims_after p h
unfolding claims_after
claims_same p q h g s l =
    both (λ (z : Size) (w : World). elim (scene_of w) [
      | Some scene ↦ claims z w.last (accepted_frames w) scene.root (walk_of z scene)
      | None ↦ cond (had_root w.last w.root) [] (sized z ∷ [])
    ]) g.size (world-onward p q h g s l)

pub damage_same : (p q : Plan) (h : List Entry) → GoesOn p q → AreSettled p q h → Legal p h → damage_after q h ≡ damage_after p h
unfolding damage_after
damage_same p q h g s l = ap bound (claims_same p q h g s l)

pub hit_last_same : (p q : Plan) (h : List Entry) (a : Point) → GoesOn p q → AreSettled p q h → Legal p h → hit_last q h a ≡ hit_last p h a
unfolding hit_last
hit_last_same p q h a g s l =
    ap (λ (ds : List DrawnFrame). elim (first_of (reverse ds)) [
      | Some d ↦ option_and_then (λ (scene : Scene). hit_at scene a) d.scene
      | None ↦ None
    ]) (drawn_same p q h g s l)

pub honest_both : (p q : Plan) (h : List Entry) → GoesOn p q → AreSettled p q h → Legal p h → Honest q h ↔ Honest p h
honest_both p q h g s l = (subst (λ T. T) (sym (honest_same p q h g s l)), subst (λ T. T) (honest_same p q h g s l))

-- all of these
pub same_frames : (p q : Plan) (h : List Entry) → GoesOn p q → AreSettled p q h → Legal p h → SameFrames p q h
same_frames p q h g s l =
    record {
      drawn_frames = drawn_same p q h g s l;
      frames = frames_same p q h g s l;
      written = λ n. written_same p q h n g s l;
      stale = λ n m. stale_same p q h n m g s l;
      painted = λ n. painted_same p q h n g s l;
      honest = honest_both p q h g s l;
      rest = rest_same p q h g s l;
      aggregated = aggregated_same p q h g s l;
      damage = damage_same p q h g s l;
      hit = λ w a. hit_same p q w a g;
      hit_last = λ a. hit_last_same p q h a g s l;
    }
