-- What a world keeps of the messages that its clients sent: frames that are whole, and blocks that fit.
use Rattle.std.proofs.Common.{◌≡◌, ℕ, zero, suc, ◌+◌, ◌≤◌, Bool, true, false, ◌&&◌, ◌==◌, inl, inr, Option, Some, None, List, [], ◌∷◌, map, length, refl, ap, sym, ◌∙◌, arith, cond, subst, slice_get, Contains, option_map, filter_map, find}
use Rattle.std.specs.Prelude.{nat_lt, is_some}
use Rattle.std.specs.List.{list_any, list_all, cons_option}
use Rattle.std.proofs.lemmas.Bool.{and_parts, eqb-true, ltb-true, both_ways, not-false, and_from}
use Rattle.std.proofs.lemmas.List.{length-map}
use Rattle.vz_pixels.specs.Block.{Block}
use Rattle.vz_ids.specs.declared.LocalSurfaceId.{LocalSurfaceId}
use Rattle.vz_frame.specs.declared.blend.Blend.{Blend}
use Rattle.vz_frame.specs.declared.blend.Blend.TheVariants.{Over}
use Rattle.vz_frame.specs.declared.frame.CompositorFrame.{CompositorFrame}
use Rattle.vz_frame.specs.declared.frame.DrawQuad.{DrawQuad}
use Rattle.vz_frame.specs.declared.frame.Listing.{Listing}
use Rattle.vz_frame.specs.declared.frame.RenderPass.{RenderPass}
use Rattle.vz_frame.specs.declared.message.Message.TheVariants.{Upload, Submit}
use Rattle.vz_frame.specs.Fits.{fits_mode, fits_material, fits_quad, fits_pass, fits_frame, fits_local, fits_block, fits_message}
use Rattle.vz_rules.specs.World.{World, Client, Resource, resource_in, last_created}
use Rattle.vz_rules.specs.Messages.{took, taking, is_unknown, submit_refusal, new_resource, put_resource, new_submission}
use Rattle.vz_rules.specs.Kept.{AreRising, StandsFor, IsWhole, KeepsBlocks}
use Rattle.vz_rules.proofs.Members.{contains_here, contains_there, contains_cases, contains_none, contains_map, any_at, any_from, none_at, all_at, all_from, find_at, found}
use Rattle.vz_rules.proofs.Cases.{not_refused}

-- Formats

-- what fits a format fits format 2
mode_two : (b : Blend) → fits_mode 2 b ≡ true
mode_two Over = refl
mode_two _ = refl

all_two : {A : Type 0} (p q : A → Bool) (xs : List A) → ((x : A) → p x ≡ true → q x ≡ true) → list_all p xs ≡ true → list_all q xs ≡ true
all_two p q xs h k = all_from q xs (λ x c. h x (all_at p xs x k c))

last_two : (a b c : Bool) → (b ≡ true → c ≡ true) → (a && b) ≡ true → (a && c) ≡ true
last_two a b c f h = let both = and_parts a b h in and_from a c both.0 (f both.1)

middle_two : (a b c d : Bool) → c ≡ true → (a && b && d) ≡ true → (a && c && d) ≡ true
middle_two true true true d e h = h
middle_two _ _ _ d e h = absurd (cc)

quad_two : (format : ℕ) (q : DrawQuad) → fits_quad format q ≡ true → fits_quad 2 q ≡ true
unfolding fits_quad
quad_two format q h = middle_two _ (fits_mode format q.blend) (fits_mode 2 q.blend) (fits_material q.material) (mode_two q.blend) h

pass_two : (format : ℕ) (p : RenderPass) → fits_pass format p ≡ true → fits_pass 2 p ≡ true
unfolding fits_pass
pass_two format p h =
    last_two _ (list_all (fits_quad format) p.quads) (list_all (fits_quad 2) p.quads) (all_two (fits_quad format) (fits_quad 2) p.quads (quad_two format)) h

frame_two : (format : ℕ) (f : CompositorFrame) → fits_frame format f ≡ true → fits_frame 2 f ≡ true
unfolding fits_frame
frame_two format f h =
    last_two _ (list_all (fits_pass format) f.passes) (list_all (fits_pass 2) f.passes) (all_two (fits_pass format) (fits_pass 2) f.passes (pass_two format)) h

pub submit_fits : (format : ℕ) (local : LocalSurfaceId) (frame : CompositorFrame) → fits_message format (Submit frame local) ≡ true
    → (fits_local local ≡ true) × (fits_frame 2 frame ≡ true)
unfolding fits_message
submit_fits format local frame h = let both = and_parts (fits_local local) (fits_frame format frame) h in (both.0, frame_two format frame both.1)

pub upload_fits : (format id : ℕ) (block : Block) → fits_message format (Upload id block) ≡ true → fits_block block ≡ true
unfolding fits_message
upload_fits format id block h = (and_parts _ (fits_block block) h).1

-- The blocks of listings

-- of one id there is one resource
one_of_id : (rs : List Resource) (r s : Resource) → AreRising rs → Contains rs r → Contains rs s → r.id ≡ s.id → r ≡ s
one_of_id [] r s up p q e = absurd (contains_none r p)
one_of_id (x ∷ rs) r s up p q e =
    elim (contains_cases x r rs p) [
      | inl a ↦ elim (contains_cases x s rs q) [
        | inl b ↦ sym a ∙ b
        | inr b ↦ absurd (omega (arith, ltb-true x.id s.id (all_at (λ (t : Resource). nat_lt x.id t.id) rs s up.0 b), ap (λ (t : Resource). t.id) a, e))
      ]
      | inr a ↦ elim (contains_cases x s rs q) [
        | inl b ↦ absurd (omega (arith, ltb-true x.id r.id (all_at (λ (t : Resource). nat_lt x.id t.id) rs r up.0 a), ap (λ (t : Resource). t.id) b, e))
        | inr b ↦ one_of_id rs r s up.1 a b e
      ]
    ]

-- a listing has a block in these resources
abbrev HasBlock : List Resource → Listing → Type 0
HasBlock rs l = (b : Block) × (option_map (λ (s : Resource). s.block) (resource_in l.id rs) ≡ Some b) × StandsFor l b

-- the resources' blocks fit
abbrev AllFit : List Resource → Type 0
AllFit rs = (s : Resource) → Contains rs s → fits_block s.block ≡ true

stored_by : (rs : List Resource) (l : Listing) (r : Resource) (o : Option Resource) → find (λ (s : Resource). s.id == l.id) rs ≡ o → AreRising rs → AllFit rs → Contains rs r
    → (r.id == l.id) ≡ true → r.block.w ≡ l.w → r.block.h ≡ l.h
    → (b : Block) × (option_map (λ (s : Resource). s.block) o ≡ Some b) × StandsFor l b
stored_by rs l r None e up fit p id w h =
    let is : Resource → Bool = λ s. s.id == l.id in
    absurd (both_ways (list_any is rs) (sym (found is rs) ∙ ap is_some e) (any_from is rs r p id))
stored_by rs l r (Some s) e up fit p id w h =
    let at = find_at (λ (x : Resource). x.id == l.id) rs s e in
    let same : s ≡ r = one_of_id rs s r up at.0 p (eqb-true s.id l.id at.1 ∙ sym (eqb-true r.id l.id id)) in (
      s.block,
      refl,
      record {
        fits = fit s at.0;
        w = ap (λ (x : Resource). x.block.w) same ∙ w;
        h = ap (λ (x : Resource). x.block.h) same ∙ h;
      },
    )

has_block : (rs : List Resource) (l : Listing) → AreRising rs → AllFit rs → is_unknown rs l ≡ false → HasBlock rs l
has_block rs l up fit known =
    let r = any_at (λ (s : Resource). (s.id == l.id) && (s.block.w == l.w) && (s.block.h == l.h)) rs (not-false _ known) in
    let all = and_parts ((r.0.id == l.id) && (r.0.block.w == l.w)) (r.0.block.h == l.h) r.2 in
    let two = and_parts (r.0.id == l.id) (r.0.block.w == l.w) all.0 in
    stored_by rs l r.0 (resource_in l.id rs) refl up fit r.1 two.0 (eqb-true r.0.block.w l.w two.1) (eqb-true r.0.block.h l.h all.1)

-- blocks stand for listings, one by one
abbrev StandFor : List Listing → List Block → Type 0
StandFor ls bs = (n : ℕ) (l : Listing) (b : Block) → slice_get ls n ≡ Some l → slice_get bs n ≡ Some b → StandsFor l b

stand_more : (x : Listing) (y : Block) (ls : List Listing) (bs : List Block) → StandsFor x y → StandFor ls bs → StandFor (x ∷ ls) (y ∷ bs)
stand_more x y ls bs s h zero l b p q =
    let e : x ≡ l = cc in
    let f : y ≡ b = cc in
    subst (λ z. StandsFor z b) e (subst (StandsFor x) f s)
stand_more x y ls bs s h (suc n) l b p q = h n l b p q

stand_by : (f : Listing → Option Block) (ls : List Listing) → ((l : Listing) → Contains ls l → (b : Block) × (f l ≡ Some b) × StandsFor l b)
    → (length (filter_map f ls) ≡ length ls) × StandFor ls (filter_map f ls)
stand_by f [] h = (refl, λ n l b p q. absurd (cc))
stand_by f (x ∷ ls) h =
    let here = h x (contains_here x ls) in
    let later = stand_by f ls (λ l c. h l (contains_there x l ls c)) in
    let same : filter_map f (x ∷ ls) ≡ here.0 ∷ filter_map f ls = ap (λ o. cons_option o (filter_map f ls)) here.1 in
    (omega (arith, ap length same, later.0), subst (StandFor (x ∷ ls)) (sym same) (stand_more x here.0 ls (filter_map f ls) here.2 later.1))

-- A submission

-- what is accepted is whole
pub new_whole : (w : World) (c : Client) (local : LocalSurfaceId) (frame : CompositorFrame) → AreRising c.resources → KeepsBlocks c → fits_local local ≡ true
    → fits_frame 2 frame ≡ true → submit_refusal (last_created w c.number) c.resources local frame ≡ None → IsWhole (new_submission w c local frame).submitted
unfolding new_submission submit_refusal
new_whole w c local frame up stored named fits good =
    let fine = not_refused (last_created w c.number) c.resources local frame good in
    let blocks = stand_by (λ (l : Listing). option_map (λ (s : Resource). s.block) (resource_in l.id c.resources)) frame.resources
    (λ l q. has_block c.resources l up stored.fit (none_at (is_unknown c.resources) frame.resources l fine.1 q)) in
    record { local = named; frame = fits; breaks_none = fine.0; as_many = blocks.0; blocks = blocks.1 }

-- Clients

-- a client keeps its sink and the number of messages taken, and has blocks that fit, at most as many as it will have taken
pub record Sends (c d : Client) : Type 0 where
  pub sink : d.sink ≡ c.sink
  pub fit : (s : Resource) → Contains d.resources s → fits_block s.block ≡ true
  pub few : length d.resources ≤ d.taken + 1

pub sends_same : (c d : Client) → d.sink ≡ c.sink → d.resources ≡ c.resources → d.taken ≡ c.taken → KeepsBlocks c → Sends c d
sends_same c d sink same taken h =
    record {
      sink = sink;
      fit = λ s p. h.fit s (subst (λ l. Contains l s) same p);
      few = omega (arith, ap length same, taken, h.few);
    }

fit_map : (g : Resource → Resource) (rs : List Resource) → ((s : Resource) → (g s).block ≡ s.block) → AllFit rs → AllFit (map g rs)
fit_map g rs same h s p =
    let m = contains_map g rs s p in
    ap (λ (x : Resource). fits_block x.block) (sym m.2) ∙ (ap fits_block (same m.0) ∙ h m.0 m.1)

pub sends_map : (g : Resource → Resource) (c d : Client) → ((s : Resource) → (g s).block ≡ s.block) → d.sink ≡ c.sink → d.resources ≡ map g c.resources → d.taken ≡ c.taken
    → KeepsBlocks c → Sends c d
sends_map g c d block sink same taken h =
    record {
      sink = sink;
      fit = λ s p. fit_map g c.resources block h.fit s (subst (λ l. Contains l s) same p);
      few = omega (arith, ap length same, length-map c.resources g, taken, h.few);
    }

-- An upload

put_by : (t u : Bool) (id : ℕ) (block : Block) (r : Resource) (ss rest : List Resource) → fits_block block ≡ true → AllFit (r ∷ ss) → AllFit rest
    → AllFit (cond t (record r { block = block } ∷ ss) (cond u (new_resource id block ∷ r ∷ ss) (r ∷ rest)))
put_by true u id block r ss rest good h k s p =
    elim (contains_cases (record r { block = block }) s ss p) [
      | inl e ↦ subst (λ (x : Resource). fits_block x.block ≡ true) e good
      | inr m ↦ h s (contains_there r s ss m)
    ]
put_by false true id block r ss rest good h k s p =
    elim (contains_cases (new_resource id block) s (r ∷ ss) p) [ inl e ↦ subst (λ (x : Resource). fits_block x.block ≡ true) e good | inr m ↦ h s m ]
put_by false false id block r ss rest good h k s p =
    elim (contains_cases r s rest p) [ inl e ↦ h s (subst (Contains (r ∷ ss)) e (contains_here r ss)) | inr m ↦ k s m ]

put_fits : (id : ℕ) (block : Block) (ss : List Resource) → fits_block block ≡ true → AllFit ss → AllFit (put_resource id block ss)
put_fits id block [] good h s p =
    elim (contains_cases (new_resource id block) s [] p) [ inl e ↦ subst (λ (x : Resource). fits_block x.block ≡ true) e good | inr m ↦ absurd (contains_none s m) ]
put_fits id block (r ∷ ss) good h s p =
    put_by (r.id == id) (nat_lt id r.id) id block r ss (put_resource id block ss) good h (put_fits id block ss good (λ x m. h x (contains_there r x ss m))) s p

length_by : (t u : Bool) (x y r : Resource) (ss rest : List Resource) → length rest ≤ length ss + 1
    → length (cond t (x ∷ ss) (cond u (y ∷ r ∷ ss) (r ∷ rest))) ≤ length (r ∷ ss) + 1
length_by true u x y r ss rest h = omega arith
length_by false true x y r ss rest h = omega arith
length_by false false x y r ss rest h = omega (arith, h)

put_length : (id : ℕ) (block : Block) (ss : List Resource) → length (put_resource id block ss) ≤ length ss + 1
put_length id block [] = omega arith
put_length id block (r ∷ ss) =
    length_by (r.id == id) (nat_lt id r.id) (record r { block = block }) (new_resource id block) r ss (put_resource id block ss) (put_length id block ss)

pub sends_upload : (id : ℕ) (block : Block) (c : Client) → fits_block block ≡ true → KeepsBlocks c → Sends c (record c { resources = put_resource id block c.resources })
sends_upload id block c good h =
    record { sink = refl; fit = put_fits id block c.resources good h.fit; few = omega (arith, put_length id block c.resources, h.few) }

-- A client that takes a message

blocks_by : (t : Bool) (c d : Client) → Sends c d → KeepsBlocks c → KeepsBlocks (cond t (took d) c)
blocks_by true c d s h = record { fit = s.fit; few = s.few }
blocks_by false c d s h = h

pub blocks_taking : (w : World) (c : Client) (f : Client → Client) → ((x : Client) → Contains w.clients x → Sends x (f x)) → ((x : Client) → Contains w.clients x → KeepsBlocks x)
    → (d : Client) → Contains (taking f c w).clients d → KeepsBlocks d
blocks_taking w c f sends h d p =
    let m = contains_map (λ (x : Client). cond (x.number == c.number) (took (f x)) x) w.clients d p in
    subst KeepsBlocks m.2 (blocks_by (m.0.number == c.number) m.0 (f m.0) (sends m.0 m.1) (h m.0 m.1))
