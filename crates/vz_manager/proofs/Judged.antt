-- What is asked of a submission is what the definitions ask, and what it is answered.
use Rattle.std.proofs.Common.{◌≡◌, ℕ, ◌+◌, ◌<◌, ◌≤◌, ℤ, int_lt, int_eq, Bool, true, false, not, ◌&&◌, ◌==◌, Option, Some, None, unwrap_or, List, [], ◌∷◌, ◌++◌}
use Rattle.std.proofs.Common.{filter, take, length, get_or, refl, ap, sym, ◌∙◌, subst, arith, cond, sum_by}
use Rattle.std.specs.{Prelude.nat_le, Option.option_map, List.list_any, List.list_all}
use Rattle.std.proofs.Math.Bool.{and_assoc}
use Rattle.std.proofs.{lemmas.Bool.leb-true, lemmas.List.append-nil, lemmas.List.append_assoc, lemmas.List.take_all, lemmas.Grind.take_at_read}
use Rattle.std.proofs.{lemmas.Bool.Decides.Decides-int_eq, lemmas.Bool.Decides.same_from_decides, lemmas.Int.ints, lemmas.List.Elements.filter-append}
use Rattle.vz_base.specs.declared.limits.TheConstants.{GREATEST_DEADLINE, MOST_FILES}
use Rattle.vz_geom.specs.declared.Size.{Size}
use Rattle.vz_ids.specs.{declared.LocalSurfaceId.LocalSurfaceId, declared.SurfaceId.SurfaceId, Ids.same_local}
use Rattle.vz_frame.specs.{declared.frame.CompositorFrame.CompositorFrame, Frame.first_broken, Frame.frame_size, Frame.same_size}
use Rattle.vz_frame.specs.{declared.message.Message.Message, declared.message.Message.TheVariants.Submit, declared.rules.Rule.Rule}
use Rattle.vz_frame.specs.Fits.{is_number, fits_optional, fits_surface, fits_range, fits_listing, fits_pass, fits_local, fits_frame}
use Rattle.vz_rules.specs.declared.entry.Event.TheVariants as event
use Rattle.vz_rules.specs.{declared.entry.Refusal.Refusal, Plan.Plan, Plan.IsPlan, Step.answer_to, Kept.KeepsAlways, Kept.AreRising}
use Rattle.vz_rules.specs.declared.entry.Refusal.TheVariants as refusal
use Rattle.vz_rules.specs.World.{World, Client, Surface, client_at, next_message, last_created}
use Rattle.vz_rules.specs.Messages.{first_some, when, is_unknown, violates, has_other_size, submit_refusal, unless_refused, refused}
use Rattle.vz_rules.specs.Messages.{new_submission, accepted, submit_answer, message_answer}
use Rattle.vz_rules.proofs.{Cases.number_at, Kept_files.next_fits, Kept_sent.submit_fits}
use Rattle.vz_surface_manager.specs.Last_surface.{NameAndSize, name_and_size, violates_named, has_other_size_named}
use Rattle.vz_surface_manager.proofs.Asked.{violates_asked, size_asked}
use Rattle.vz_manager.specs.Serving.{Served, Serves, IsSending}
use Rattle.vz_manager.specs.Judging.{shape_refusal, refusal_in, deadline_of, AreAsked}
use Rattle.vz_manager.proofs.Following.{sent_answer, client_here}

-- The parts that are asked

-- those of the machine are asked in the state that they stand for
pub asked : (p : Plan) (w : World) (v : Served) → Serves p w v → AreAsked p w v.support v.settling.live
asked p w v h = record { always = h.keeps.always; support = h.support; live = h.settling.live }

pub same_sent : (a b : LocalSurfaceId) (f g : CompositorFrame) → ◌≡◌ {A = Option Message} (Some (Submit f a)) (Some (Submit g b))
    → (a ≡ b) × (f ≡ g)
same_sent a b f g e = (cc, cc)

-- Numbers

-- a client that is there has the number of a file
pub few_clients : (p : Plan) (w : World) (v : Served) (c : ℕ) → Serves p w v → c ≤ length v.support.clients → c ≤ MOST_FILES
few_clients p w v c h known =
    omega (arith, known, h.support.clients.count, h.of_plan.files.as_many, h.plan.few_files)

third_of : (a b c d e f g h i j k l : Bool) → (a && b && c && d && e && f && g && h && i && j && k && l) ≡ true → c ≡ true
third_of a b true d e f g h i j k l t = refl
third_of true true false d e f g h i j k l t = absurd (cc)
third_of true false false d e f g h i j k l t = absurd (cc)
third_of false b false d e f g h i j k l t = absurd (cc)

near : (o : Option ℕ) → fits_optional (λ d. nat_le d 64) o ≡ true → unwrap_or o 4 ≤ 64
near None h = omega arith
near (Some d) h = leb-true d 64 h

-- a frame that fits a message file has a deadline that is near
soon_of : (format : ℕ) (frame : CompositorFrame) → fits_frame format frame ≡ true → deadline_of frame ≤ GREATEST_DEADLINE
unfolding fits_frame
soon_of format frame h =
    let m = frame.metadata in
    near m.deadline (third_of (is_number m.token) (is_number m.ack) (fits_optional (λ d. nat_le d 64) m.deadline)
    (nat_le (length m.dependencies) 16) (list_all fits_surface m.dependencies)
    (nat_le (length m.references) 64) (list_all fits_range m.references) (nat_le (length frame.resources) 64)
    (list_all fits_listing frame.resources) (nat_le (length frame.passes) 16)
    (nat_le (sum_by (λ p. length p.quads) frame.passes) 1024) (list_all (fits_pass format) frame.passes) h)

-- Messages of a plan

-- what a client of a plan submits fits a message file
pub submitted_fits : (p : Plan) (x : Client) (local : LocalSurfaceId) (frame : CompositorFrame) → IsPlan p
    → next_message p x ≡ Some (Submit frame local) → (fits_local local ≡ true) × (fits_frame 2 frame ≡ true)
submitted_fits p x local frame is next =
    let fits = next_fits p x (Submit frame local) is next in
    submit_fits fits.0.format local frame fits.1

-- its deadline is near
pub submitted_soon : (p : Plan) (x : Client) (local : LocalSurfaceId) (frame : CompositorFrame) → IsPlan p
    → next_message p x ≡ Some (Submit frame local) → deadline_of frame ≤ GREATEST_DEADLINE
submitted_soon p x local frame is next = soon_of 2 frame (submitted_fits p x local frame is next).1

-- the tick at which it is due is that of its submission
pub due_told : (w : World) (x : Client) (local : LocalSurfaceId) (frame : CompositorFrame) (tick due : ℕ) → tick ≡ w.tick
    → due ≡ tick + deadline_of frame → due ≡ (new_submission w x local frame).due
unfolding new_submission
due_told w x local frame tick due e is = is ∙ ap (λ n. n + deadline_of frame) e

-- Answers

pub submission_sent : (p : Plan) (w : World) (c : ℕ) (x : Client) (local : LocalSurfaceId) (frame : CompositorFrame)
    → IsSending p w c x (Submit frame local) → answer_to p w (event.Client c) ≡ submit_answer w x local frame
unfolding message_answer
submission_sent p w c x local frame is = sent_answer p w c x (Submit frame local) is

pub submission_refused : (p : Plan) (w : World) (c : ℕ) (x : Client) (local : LocalSurfaceId) (frame : CompositorFrame) (r : Refusal)
    → IsSending p w c x (Submit frame local) → refusal_in w x local frame ≡ Some r
    → answer_to p w (event.Client c) ≡ refused w x r
unfolding submit_answer
submission_refused p w c x local frame r is e =
    submission_sent p w c x local frame is ∙ ap (λ o. unless_refused w x o (accepted w x local frame)) e

pub submission_accepted : (p : Plan) (w : World) (c : ℕ) (x : Client) (local : LocalSurfaceId) (frame : CompositorFrame)
    → IsSending p w c x (Submit frame local) → refusal_in w x local frame ≡ None
    → answer_to p w (event.Client c) ≡ accepted w x local frame
unfolding submit_answer
submission_accepted p w c x local frame is e =
    submission_sent p w c x local frame is ∙ ap (λ o. unless_refused w x o (accepted w x local frame)) e

-- Sizes

-- neither number is smaller
alike : (a b : Bool) (x y : ℤ) → int_lt x y ≡ a → int_lt y x ≡ b → (not a && not b) ≡ true → x ≡ y
alike false false x y e f h = omega (arith, ints)
alike false true x y e f h = absurd (cc)
alike true b x y e f h = absurd (cc)

neither_less : (x : ℤ) → (not (int_lt x x) && not (int_lt x x)) ≡ true
neither_less x = grind (arith, ints)

-- so they are equal
same_number : (x y : ℤ) → int_eq x y ≡ (not (int_lt x y) && not (int_lt y x))
same_number x y =
    same_from_decides (int_eq x y) (not (int_lt x y) && not (int_lt y x)) (Decides-int_eq x y)
    (alike (int_lt x y) (int_lt y x) x y refl refl, λ e. subst (λ z. (not (int_lt x z) && not (int_lt z x)) ≡ true) e (neither_less x))

-- sizes are the same where both sides are equal
pub same_sides : (a b : Size) → (int_eq a.w b.w && int_eq a.h b.h) ≡ same_size a b
same_sides a b =
    (λ i. same_number a.w b.w i && same_number a.h b.h i)
    ∙ sym (and_assoc (not (int_lt a.w b.w) && not (int_lt b.w a.w)) (not (int_lt a.h b.h)) (not (int_lt b.h a.h)))

-- what is asked of a last surface of this local id and size
module _ (o : Option NameAndSize) (id local : LocalSurfaceId) (old size : Size) (is : o ≡ Some (id, old)) where
  named_is : has_other_size_named o local size ≡ (same_local id local && not (same_size old size))
  named_is = ap (λ (x : Option NameAndSize). has_other_size_named x local size) is

  module _ (t : Bool) (e : t ≡ ((id.parent == local.parent) && ((id.child == local.child) && (id.token.0 == local.token.0)))) where
    tested : t ≡ same_local id local
    tested = e ∙ sym (and_assoc (id.parent == local.parent) (id.child == local.child) (id.token.0 == local.token.0))

    pub sizes_told : (r : Bool) → t ≡ true → r ≡ not (int_eq old.w size.w && int_eq old.h size.h) → r ≡ has_other_size_named o local size
    sizes_told r same f =
        f
        ∙ (ap not (same_sides old size)
        ∙ (ap (λ (b : Bool). b && not (same_size old size)) (sym same ∙ tested) ∙ sym named_is))

    pub others_told : t ≡ false → t ≡ has_other_size_named o local size
    others_told other = other ∙ (ap (λ (b : Bool). b && not (same_size old size)) (sym other ∙ tested) ∙ sym named_is)

-- Refusals

-- the first of two reasons
abbrev two_reasons : Bool → Bool → Option Refusal
two_reasons a b = first_some (when a refusal.InvariantsViolation ∷ when b refusal.SizeMismatch ∷ [])

-- it is the one that the last surface gives
pub shape_by : (last : Option NameAndSize) (local : LocalSurfaceId) (size : Size) (a b : Bool) → violates_named last local ≡ a
    → has_other_size_named last local size ≡ b → two_reasons a b ≡ shape_refusal last local size
shape_by last local size a b e f = λ i. two_reasons (sym e i) (sym f i)

-- the last surface of the state gives the same
shape_asked : (o : Option Surface) (named : Option NameAndSize) (local : LocalSurfaceId) (frame : CompositorFrame)
    → named ≡ option_map {U = NameAndSize} name_and_size o
    → shape_refusal named local (frame_size frame) ≡ two_reasons (violates o local) (has_other_size o local frame)
shape_asked o named local frame e =
    λ i. two_reasons (sym (violates_asked o named local e) i) (sym (size_asked o named local frame e) i)

-- the first of four reasons
abbrev reasons : Option Rule → Bool → Bool → Bool → Option Refusal
reasons o a b t =
    first_some (
    option_map (λ rule. refusal.Malformed rule) o
    ∷ when a refusal.UnknownResource
    ∷ when b refusal.InvariantsViolation
    ∷ when t refusal.SizeMismatch ∷ []
    )

module _ (w : World) (c : ℕ) (x : Client) (local : LocalSurfaceId) (frame : CompositorFrame) (here : client_at w c ≡ Some x) where
  -- the frame breaks a rule
  pub broken_refused : (rule : Rule) → first_broken frame ≡ Some rule → Some (refusal.Malformed rule) ≡ refusal_in w x local frame
  unfolding submit_refusal
  broken_refused rule e =
      let last = last_created w x.number in
      let unknown = list_any (is_unknown x.resources) frame.resources in
      sym (ap (λ o. reasons o unknown (violates last local) (has_other_size last local frame)) e)

  -- it lists what was not stored
  pub unknown_refused : first_broken frame ≡ None → list_any (is_unknown x.resources) frame.resources ≡ true
      → Some refusal.UnknownResource ≡ refusal_in w x local frame
  unfolding submit_refusal
  unknown_refused e f =
      let last = last_created w x.number in
      sym (λ i. reasons (e i) (f i) (violates last local) (has_other_size last local frame))

  -- neither: it is the last surface that refuses it, if any
  pub shape_refused : (named : Option NameAndSize) (r : Option Refusal) → first_broken frame ≡ None
      → list_any (is_unknown x.resources) frame.resources ≡ false
      → named ≡ option_map {U = NameAndSize} name_and_size (last_created w c) → r ≡ shape_refusal named local (frame_size frame)
      → r ≡ refusal_in w x local frame
  unfolding submit_refusal
  shape_refused named r e f same is =
      let last = last_created w x.number in
      let own = same ∙ ap (λ n. option_map {U = NameAndSize} name_and_size (last_created w n)) (sym (number_at w c x here)) in
      is ∙ (shape_asked last named local frame own
      ∙ sym (λ i. reasons (e i) (f i) (violates last local) (has_other_size last local frame)))

-- the resources of a client that is there stand by rising id
pub rising_here : (w : World) (c : ℕ) (x : Client) → KeepsAlways w → client_at w c ≡ Some x → AreRising x.resources
rising_here w c x keeps here = (keeps.shelves x (client_here w c x here)).rising

-- Dependencies

-- one that is not met is put
pub put_lack : (met : SurfaceId → Bool) (d : SurfaceId) (old new : List SurfaceId) → met d ≡ false → new ≡ old ++ d ∷ []
    → new ≡ old ++ filter (λ x. not (met x)) (d ∷ [])
put_lack met d old new e put = put ∙ ap (λ t. old ++ cond (not t) (d ∷ []) []) (sym e)

-- and one that is met is not
pub put_none : (met : SurfaceId → Bool) (d : SurfaceId) (old : List SurfaceId) → met d ≡ true
    → old ≡ old ++ filter (λ x. not (met x)) (d ∷ [])
put_none met d old e = sym (append-nil old) ∙ ap (λ t. old ++ cond (not t) (d ∷ []) []) (sym e)

-- one more
pub lacks_next : (q : SurfaceId → Bool) (ds : List SurfaceId) (k : ℕ) (d : SurfaceId) (first old new : List SurfaceId) → k < length ds
    → old ≡ first ++ filter q (take k ds) → new ≡ old ++ filter q (get_or ds k d ∷ []) → new ≡ first ++ filter q (take (k + 1) ds)
lacks_next q ds k d first old new low was put =
    put
    ∙ (ap (λ l. l ++ filter q (get_or ds k d ∷ [])) was
    ∙ (append_assoc first (filter q (take k ds)) (filter q (get_or ds k d ∷ []))
    ∙ ap (λ l. first ++ l)
    (sym (ap (filter q) (take_at_read ds k d low).1 ∙ filter-append q (take k ds) (get_or ds k d ∷ [])))))

-- all
pub lacks_all : (q : SurfaceId → Bool) (ds all : List SurfaceId) (k : ℕ) (first out : List SurfaceId) → length ds ≤ k → ds ≡ all
    → out ≡ first ++ filter q (take k ds) → out ≡ first ++ filter q all
lacks_all q ds all k first out long same is = is ∙ (ap (λ l. first ++ filter q l) (take_all k ds long) ∙ ap (λ l. first ++ filter q l) same)
