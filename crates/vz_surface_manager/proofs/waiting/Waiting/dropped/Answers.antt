use Rattle.std.proofs.Common.{ap, ◌∙◌, option_to_list}
use Rattle.vz_surface_manager.specs.Left_out.{blocked_without, due_without}
use Rattle.vz_surface_manager.proofs.Dropped_waits.{waits_gone}
use Rattle.vz_surface_manager.proofs.waiting.Waiting.dropped.Goals as goal

pub returns : goal.returns
returns c =
    let gone = option_to_list c.args.sub in
    record {
      waits = λ w d h r told.
          waits_gone w d c.args.self.now _ c.args.sub h r told (c.drop_one.ensures.blocked ∙ ap (λ v. blocked_without gone v.blocked) c.self.view_is)
          (c.drop_one.ensures.due ∙ ap (λ v. due_without gone v.due) c.self.view_is);
    }
