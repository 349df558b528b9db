use Rattle.std.proofs.Common.{◌≡◌, true, Bor, Option, Some, None, refl, sym, ap, ◌∙◌, slice_get}
use Rattle.std.specs.Option.{option_copied, option_and_then, IfSome}
use Rattle.vz_frame.specs.declared.message.ClientFile.{ClientFile}
use Rattle.vz_frame.specs.declared.message.Message.{Message}
use Rattle.vz_frame.specs.Fits.{fits_message}
use Rattle.vz_rules.specs.World.{next_message}
use Rattle.vz_rules.proofs.Kept_files.{next_fits}
use Rattle.vz_state.specs.Fitting.{FitsSome}
use Rattle.vz_state.proofs.files.next_message.Goals as goal

-- what holds of each value that there may be
if_some : {T : Type 0} (P : T → Type 0) (o : Option (Bor T)) → ((x : T) → option_copied o ≡ Some x → P x) → IfSome o (λ m. P m.now)
if_some P None h = tt
if_some P (Some m) h = h m.now refl

-- the file's format is one that it fits
some_format : (m : Message) → (f : ClientFile) × (fits_message f.format m ≡ true) → FitsSome m
some_format m r = (r.0.format, r.1)

pub returns-in-Some-clause-fits : goal.returns-in-Some-clause-fits
returns-in-Some-clause-fits c =
    let p = c.args.plan.now in
    let at_place : Option ClientFile → Option Message = option_and_then (λ (f : ClientFile). slice_get f.messages c.client.inside.taken) in
    let file = sym c.file_of.ensures.value ∙ ap option_copied c.in-Some.is in
    if_some FitsSome c.message_at.result
    (λ m e. some_format m (next_fits p c.args.client.now m c.file_of.ensures.kept (sym (ap (next_message p) c.client.view_is) ∙ (ap at_place file ∙ (sym c.message_at.ensures ∙ e)))))
