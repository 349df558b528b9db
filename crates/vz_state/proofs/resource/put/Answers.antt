use Rattle.std.proofs.Common.{◌<◌, length, take, drop, ◌++◌, eq-eqb, sym, ap, ◌∙◌, arith}
use Rattle.std.proofs.lemmas.List.{get_or_default}
use Rattle.vz_rules.specs.World.{Resource}
use Rattle.vz_rules.specs.Messages.{put_resource}
use Rattle.vz_state.proofs.Putting.{put_at}
use Rattle.vz_state.proofs.resource.put.Goals as goal

pub returns-then-id-clause-ok : goal.returns-then-id-clause-ok
returns-then-id-clause-ok c =
    let all = c.args.resources.now.items in
    let k = c.place_for-place.result in
    let d = c.index_mut.result.now in
    let block = c.args.block.now in
    let within : k < length all = omega arith in
    let here = c.index.ensures ∙ get_or_default all k c.index.result.now d within in
    put_at c.args.id block all k d c.replace.new.self within (eq-eqb _ _ (sym (ap (λ (s : Resource). s.id) here) ∙ (sym c.id.ensures ∙ c.if-id.true)))
    (ap (put_resource c.args.id block) (sym c.deref.ensures.value) ∙ (c.place_for-place.ensures.put block ∙ ap (λ l. take k l ++ put_resource c.args.id block (drop k l)) c.deref.ensures.value))
    (c.replace.ensures ∙ ap (λ (s : Resource). record s { block = block }) c.index_mut.ensures.value)
