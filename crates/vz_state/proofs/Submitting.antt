-- The first reason to refuse a submission, and the blocks that it takes along.
use Rattle.std.proofs.Common.{◌≡◌, ℕ, ◌+◌, ◌<◌, Bool, Option, Some, List, [], ◌∷◌, ◌++◌, take, length, get_or, sym, ap, ◌∙◌}
use Rattle.std.proofs.lemmas.List.Elements.{filter_map-append}
use Rattle.std.proofs.lemmas.Grind.{take_at_read}
use Rattle.std.specs.List.{list_any, filter_map, cons_option}
use Rattle.std.specs.Option.{option_map}
use Rattle.vz_ids.specs.declared.LocalSurfaceId.{LocalSurfaceId}
use Rattle.vz_pixels.specs.Block.{Block}
use Rattle.vz_frame.specs.declared.frame.CompositorFrame.{CompositorFrame}
use Rattle.vz_frame.specs.declared.frame.Listing.{Listing}
use Rattle.vz_frame.specs.declared.rules.Rule.{Rule}
use Rattle.vz_frame.specs.Frame.{first_broken}
use Rattle.vz_rules.specs.World.{Surface, Resource}
use Rattle.vz_rules.specs.Messages.{first_some, when, is_unknown, violates, has_other_size, submit_refusal}
use Rattle.vz_rules.specs.declared.entry.Refusal.{Refusal}
use Rattle.vz_rules.specs.declared.entry.Refusal.TheVariants as refusal

-- the first of four reasons
abbrev pub first_of_four : Option Rule → Bool → Bool → Bool → Option Refusal
first_of_four o a b t =
    first_some (option_map (λ rule. refusal.Malformed rule) o ∷ when a refusal.UnknownResource ∷ when b refusal.InvariantsViolation ∷ when t refusal.SizeMismatch ∷ [])

-- it is the reason for which a submission is refused
pub refusal_is : (last : Option Surface) (resources : List Resource) (local : LocalSurfaceId) (frame : CompositorFrame) (o : Option Rule) (a b t : Bool)
    → first_broken frame ≡ o → list_any (is_unknown resources) frame.resources ≡ a → violates last local ≡ b → has_other_size last local frame ≡ t
    → first_of_four o a b t ≡ submit_refusal last resources local frame
unfolding submit_refusal
refusal_is last resources local frame o a b t f g h k =
    ap (λ x. first_of_four x a b t) (sym f) ∙ (ap (λ x. first_of_four (first_broken frame) x b t) (sym g)
    ∙ (ap (λ x. first_of_four (first_broken frame) (list_any (is_unknown resources) frame.resources) x t) (sym h)
    ∙ ap (λ x. first_of_four (first_broken frame) (list_any (is_unknown resources) frame.resources) (violates last local) x) (sym k)))

-- one listing more
pub block_more : (f : Listing → Option Block) (listings : List Listing) (k : ℕ) (d : Listing) (old new : List Block) → k < length listings → old ≡ filter_map f (take k listings)
    → new ≡ old ++ filter_map f (get_or listings k d ∷ []) → new ≡ filter_map f (take (k + 1) listings)
block_more f listings k d old new h was is =
    is ∙ (ap (λ l. l ++ filter_map f (get_or listings k d ∷ [])) was ∙ sym (ap (filter_map f) (take_at_read listings k d h).1 ∙ filter_map-append f (take k listings) (get_or listings k d ∷ [])))

-- the block of a resource that is found, or none
pub block_found : (f : Resource → Block) (o : Option Resource) (s : Resource) (old new : List Block) → o ≡ Some s → new ≡ old ++ f s ∷ [] → new ≡ old ++ cons_option (option_map f o) []
block_found f o s old new e is = is ∙ ap (λ r. old ++ cons_option (option_map f r) []) (sym e)
