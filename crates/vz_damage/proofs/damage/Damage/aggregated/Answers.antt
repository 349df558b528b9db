use Rattle.std.proofs.Common.{ap, refl, ◌∙◌, arith}
use Rattle.std.specs.Option.{option_map}
use Rattle.indexmap.specs.IndexMap.{spare}
use Rattle.vz_damage.specs.Told.{told_on, with_seen}
use Rattle.vz_damage.proofs.Looking.{seen_first, seen_all, turn_some, turn_none, last_in}
use Rattle.vz_damage.proofs.damage.Damage.aggregated.Goals as goal
use Rattle.vz_damage.proofs.damage.Damage.aggregated.Goals.{in-Some, in_default}

pub loop-place-init : goal.loop-place-init
loop-place-init c = (seen_first c.self.inside.surfaces.entries, refl, refl)

pub loop-place-preserved : goal.loop-place-preserved
loop-place-preserved c =
    let now = c.loop-place.self-inside.surfaces in
    let first = c.self.inside.surfaces.entries in
    elim c.match-get_index_mut.branch [
      | in-Some w ↦ (
        ap (λ s. s.surfaces.entries) w.self-inside-is
            ∙ turn_some c.loop-place.place first now.entries w.in-Some.running.now w.aggregated.new.self c.loop-place.invariant.0
            w.in-Some.ensures.value w.aggregated.ensures,
        ap (λ s. spare s.surfaces) w.self-inside-is ∙ c.loop-place.invariant.1,
        ap (λ s. last_in s.root s.shown) w.self-inside-is ∙ c.loop-place.invariant.2,
      )
      | in_default w ↦ (
        ap (λ s. s.surfaces.entries) w.self-inside-is ∙ turn_none c.loop-place.place first now.entries c.loop-place.invariant.0
            w.in_default.ensures.value,
        ap (λ s. spare s.surfaces) w.self-inside-is ∙ c.loop-place.invariant.1,
        ap (λ s. last_in s.root s.shown) w.self-inside-is ∙ c.loop-place.invariant.2,
      )
    ]

pub returns-clause-told : goal.returns-clause-told
returns-clause-told c id =
    let first = c.self.inside.surfaces.entries in
    ap (λ l. told_on l id) c.loop-place.invariant.0
    ∙ seen_all c.loop-place.place first (let len = c.len-place-end.ensures.len in let past = c.loop-place-test.false in omega
    (arith, len, past)) id
    ∙ ap (λ v. option_map with_seen (told_on v.surfaces id)) c.self.view_is

pub returns-clause-last : goal.returns-clause-last
returns-clause-last c = c.loop-place.invariant.2 ∙ ap (λ v. v.last) c.self.view_is
