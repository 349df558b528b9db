-- The picture of a drawing is of what was to be seen, and its damage is on the display.
use Rattle.std.proofs.Common.{◌≡◌, ℕ, Option, Some, None, List, length, refl, sym, ap, ◌∙◌, subst, mul_comm, nat_abs}
use Rattle.std.specs.Option.{option_map, IfSome}
use Rattle.std.proofs.lemmas.List.{length-map}
use Rattle.vz_geom.specs.declared.Size.{Size}
use Rattle.vz_geom.specs.Rectangle.{Covers, sized, points_of}
use Rattle.vz_geom.specs.Display.{IsDisplaySize}
use Rattle.vz_pixels.specs.Colour.{Colour, black}
use Rattle.vz_buffers.specs.Canvas.{pixel_count}
use Rattle.vz_rules.specs.Plan.{Plan}
use Rattle.vz_rules.specs.declared.entry.Event.TheVariants.{Draw}
use Rattle.vz_rules.specs.declared.entry.Reply.{Reply}
use Rattle.vz_rules.specs.declared.entry.Reply.TheVariants.{Drawn}
use Rattle.vz_rules.specs.World.{World, Machine, Scene}
use Rattle.vz_rules.specs.Scene.{scene_of}
use Rattle.vz_rules.specs.Paint.{full, picture}
use Rattle.vz_rules.specs.Frames.{picture_of}
use Rattle.vz_rules.specs.Whole.{picture_in}
use Rattle.vz_rules.specs.Step.{Outcome, step_in, accepted_frames}
use Rattle.vz_rules.proofs.Drawings.{Says, says_step}
use Rattle.vz_rules.proofs.Kept_inside.{damage_covered}
use Rattle.vz_machine.specs.Pictured.{Pixelled, IsPixelled, picture_with}
use Rattle.vz_machine.specs.Stepping.{ShowsDrawn}
use Rattle.vz_machine.proofs.Points.{length_points}
use Rattle.vz_machine.proofs.Whole.{colours_are}
use Rattle.vz_slow.specs.Drawn.{drawn_picture}
use Rattle.vz_slow.specs.Pictures.{CoversDamage, pictured}

some_same : {A : Type 0} {x y : A} → Some x ≡ Some y → x ≡ y
some_same e = cc

-- as many colours as points
as_many : (size : Size) (scene : Scene) → length (picture size scene) ≡ pixel_count size
unfolding picture
as_many size scene = length-map (points_of size) (full scene) ∙ (length_points size ∙ mul_comm (nat_abs size.h) (nat_abs size.w))

of_scene : (size : Size) (o : Option Scene) → length (picture_of size o) ≡ pixel_count size
unfolding picture_of
of_scene size None = length-map (points_of size) (λ p. black) ∙ (length_points size ∙ mul_comm (nat_abs size.h) (nat_abs size.w))
of_scene size (Some scene) = as_many size scene

in_world : (p : Plan) (w : World) → length (picture_in p w) ≡ pixel_count p.size
unfolding picture_in
in_world p w = of_scene p.size (scene_of w)

of_reply : (p : Plan) (w : World) (r : Reply) → IfSome (drawn_picture p w r) (λ l. length l ≡ pixel_count p.size)
of_reply p w (Drawn damage) = in_world p w
of_reply p w _ = tt

each_of : {T : Type 0} (f : T → List Colour) (o : Option T) (l : Option (List Colour)) (n : ℕ) → option_map f o ≡ l → IfSome l (λ x. length x ≡ n) → IfSome o (λ v. length (f v) ≡ n)
each_of f None l n is h = tt
each_of f (Some v) None n is h = absurd (cc)
each_of f (Some v) (Some x) n is h = ap length (some_same is) ∙ h

-- there is a pixel for each point
pub all_pixels : {T : Type 0} (m : Machine) (size : Size) (r : Reply) (f : T → List Colour) (o : Option T) → size ≡ m.plan.size
    → option_map f o ≡ drawn_picture m.plan m.world r → IfSome o (λ v. length (f v) ≡ pixel_count size)
all_pixels m size r f o same painted =
    subst (λ s. IfSome o (λ v. length (f v) ≡ pixel_count s)) (sym same)
    (each_of f o (drawn_picture m.plan m.world r) (pixel_count m.plan.size) painted (of_reply m.plan m.world r))

-- what is seen is what the picture shows
in_scene : (p : Plan) (w : World) (scene : Scene) → scene_of w ≡ Some scene → picture_in p w ≡ picture p.size scene
unfolding picture_in picture_of
in_scene p w scene is = ap (picture_of p.size) is

-- the damage of a drawing is on the display
covers_damage : (p : Plan) (w : World) (r : Reply) → Says p w r → CoversDamage p.size r
covers_damage p w (Drawn damage) said = subst (Covers (sized p.size)) (sym said.2) (damage_covered p.size w.last (accepted_frames w) said.0)
covers_damage p w _ said = tt

pub on_display : (m : Machine) (o : Outcome) (size : Size) → size ≡ m.plan.size → o ≡ step_in m.plan m.world Draw → CoversDamage size o.reply
on_display m o size same is =
    let said = subst (λ (x : Outcome). Says m.plan m.world x.reply) (sym is) (says_step m.plan m.world Draw) in
    subst (λ s. CoversDamage s o.reply) (sym same) (covers_damage m.plan m.world o.reply said)

-- the picture of a drawing shows what was to be seen
shows_by : (m : Machine) (r : Reply) → IsDisplaySize m.plan.size → Says m.plan m.world r
    → ShowsDrawn m r (option_map picture_with (pictured m.plan.size r (drawn_picture m.plan m.world r)))
shows_by m (Drawn damage) sides said =
    let p : Pixelled = record { size = m.plan.size; pixels = picture_in m.plan m.world; changed = damage } in
    let whole : IsPixelled p = record { sides = sides; all = in_world m.plan m.world; inside = covers_damage m.plan m.world (Drawn damage) said } in
    (said.0, said.1, record { size = refl; colours = colours_are p whole ∙ in_scene m.plan m.world said.0 said.1 }, refl)
shows_by m _ sides said = tt

pub shows : (m : Machine) (o : Outcome) (size : Size) (pixels : Option (List Colour)) (picture : Option Pixelled) → size ≡ m.plan.size → IsDisplaySize size
    → o ≡ step_in m.plan m.world Draw → pixels ≡ drawn_picture m.plan m.world o.reply → picture ≡ pictured size o.reply pixels
    → ShowsDrawn m o.reply (option_map picture_with picture)
shows m o size pixels picture same sides is painted gives =
    let said = subst (λ (x : Outcome). Says m.plan m.world x.reply) (sym is) (says_step m.plan m.world Draw) in
    let all = gives ∙ (ap (λ s. pictured s o.reply pixels) same ∙ ap (pictured m.plan.size o.reply) painted) in
    subst (λ x. ShowsDrawn m o.reply (option_map picture_with x)) (sym all) (shows_by m o.reply (subst IsDisplaySize same sides) said)
