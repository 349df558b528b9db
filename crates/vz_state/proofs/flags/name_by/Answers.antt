use Rattle.std.proofs.Common.{◌<◌, Bool, true, false, get_or, if◌then◌else◌, ap, ◌∙◌, arith, length}
use Rattle.std.proofs.lemmas.List.{length-set}
use Rattle.vz_rules.specs.World.{Surface}
use Rattle.vz_state.proofs.Flagged.{changed, flag_at}
use Rattle.vz_state.proofs.flags.name_by.Goals as goal

-- a surface by its flag
abbrev by_flag : Surface → Bool → Surface
by_flag s a = if a then record s { named = true } else s

pub loop-k-preserved : goal.loop-k-preserved
loop-k-preserved c =
    let k = c.loop-k.k in
    let old = c.args.surfaces.now in
    let within : k < length old = omega arith in
    let d = c.index-surfaces-k.result in
    let s = get_or c.loop-k.surfaces k d in
    record {
      count = length-set c.loop-k.surfaces k c.name.new.self ∙ c.loop-k.invariant.count;
      same = λ p ps. changed (λ x. by_flag x (p x)) old c.loop-k.surfaces k d c.name.new.self within (c.loop-k.invariant.same p ps) (λ was.
          c.name.ensures ∙ ap (λ (a : Bool). by_flag s a) (flag_at p old c.args.flags.now k s d false within ps was));
    }
