use Rattle.std.proofs.Common.{ap, ◌∙◌}
use Rattle.vz_occlude.specs.Roles.{role_of}
use Rattle.vz_occlude.proofs.Taken.{same_op, end_taken}
use Rattle.vz_occlude.proofs.culler.OcclusionCuller.take_end.Goals as goal

pub returns : goal.returns
returns c n op later p =
    let q = c.requires.place in
    let same = same_op c.args.self.now.ops.items c.args.place op q.1 p.is q.3.is in
    let k = c.keep.ensures.kept op in
    end_taken n op later c.args.place c.args.self.now c.keep.new.self p (ap role_of same ∙ q.4)
    (record { low = k.low; before = k.before; kept = k.kept; ahead = k.ahead; long = k.long })
    c.keep.ensures.occluders (c.keep.ensures.start ∙ c.len-self.ensures.value) c.keep.ensures.removed
    (c.keep.ensures.behind ∙ c.in_ok-push.ensures.ok)
