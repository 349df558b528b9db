-- Membership by the derived test of equality is that of the definitions.
use Rattle.std.proofs.Common.{◌≡◌, ℕ, ◌&&◌, ◌==◌, Option, Some, None, is_some, List, refl, ap, ◌∙◌, arith, Bor}
use Rattle.std.proofs.lemmas.Bool.Decides.{nat_tests}
use Rattle.std.specs.List.{list_any}
use Rattle.std.specs.Option.{option_copied}
use Rattle.vz_ids.specs.declared.FrameSinkId.{FrameSinkId}
use Rattle.vz_ids.specs.declared.Sub.{Sub}
use Rattle.vz_ids.specs.Ids.{same_sink, same_sub, same_surface}
use Rattle.vz_rules.specs.Plan.{has_sink}
use Rattle.vz_rules.specs.World.{Submission, Surface, has_sub, is_on}
use Rattle.vz_scene.proofs.Ties.{any_same, surface_sym}

eq_sym : (a b : ℕ) → (a == b) ≡ (b == a)
eq_sym a b = grind (arith, nat_tests)

two_sym : (a b c d : ℕ) → ((a == b) && (c == d)) ≡ ((b == a) && (d == c))
two_sym a b c d = ap (λ t. t && (c == d)) (eq_sym a b) ∙ ap (λ t. (b == a) && t) (eq_sym c d)

pub among_subs : (subs : List Sub) (sub : Sub) → list_any (λ (other : Sub). same_sub other sub) subs ≡ has_sub subs sub
among_subs subs sub = any_same _ (same_sub sub) subs (λ other. two_sym other.client sub.client other.ordinal sub.ordinal)

pub among_sinks : (sinks : List FrameSinkId) (sink : FrameSinkId) → list_any (λ (other : FrameSinkId). same_sink other sink) sinks ≡ has_sink sinks sink
among_sinks sinks sink = any_same _ (same_sink sink) sinks (λ other. two_sym other.client_id sink.client_id other.sink_id sink.sink_id)

-- an option of references is Some if that of their values is
pub copied_some : {A : Type 0} (o : Option (Bor A)) → is_some o ≡ is_some (option_copied o)
copied_some None = refl
copied_some (Some b) = refl

-- a submission is on one of these surfaces
pub on_one : (surfaces : List Surface) (s : Submission) → list_any (λ (c : Surface). same_surface c.id s.submitted.id) surfaces ≡ list_any (λ (c : Surface). is_on c.id s) surfaces
on_one surfaces s = any_same _ (λ (c : Surface). is_on c.id s) surfaces (λ c. surface_sym c.id s.submitted.id)
