use Rattle.std.proofs.Common.{ap, sym, ◌∙◌, Some, is_some}
use Rattle.std.specs.Option.{option_map}
use Rattle.vz_damage.specs.Told.{told_on, with_active}
use Rattle.vz_damage.proofs.Looking.{looked, told_here, told_there}
use Rattle.vz_damage.proofs.damage.Damage.activated.Goals as goal
use Rattle.vz_damage.proofs.damage.Damage.activated.Goals.{in-Some, in_default}

pub returns-clause-told : goal.returns-clause-told
returns-clause-told c =
    let entries = c.self.inside.surfaces.entries in
    let before = ap (λ v. option_map with_active (told_on v.surfaces c.args.id.now)) c.self.view_is in
    elim c.match-get_mut.branch [
      | in-Some w ↦
          let written = c.get_mut.follows.holds w.activated.new.self in
          let some = sym (ap is_some w.in-Some.ensures.value) in
          ap (λ s. told_on s.surfaces.entries c.args.id.now) w.self-inside-is
          ∙ told_here entries (c.get_mut.follows.lender w.activated.new.self).entries c.args.id.now (Some w.activated.new.self) (written.3 some).0
          ∙ ap (λ t. Some t) w.activated.ensures
          ∙ ap (option_map with_active) (w.in-Some.ensures.value ∙ sym (looked entries c.args.id.now))
          ∙ before
      | in_default w ↦
          ap (λ s. told_on s.surfaces.entries c.args.id.now) w.self-inside-is
          ∙ ap (λ m. told_on m.entries c.args.id.now) c.get_mut.follows.holds-at-none
          ∙ looked entries c.args.id.now ∙ sym w.in_default.ensures.value ∙ ap (option_map with_active) (w.in_default.ensures.value ∙ sym (looked entries c.args.id.now)) ∙ before
    ]

pub returns-clause-others : goal.returns-clause-others
returns-clause-others c other apart =
    let entries = c.self.inside.surfaces.entries in
    let before = ap (λ v. told_on v.surfaces other) c.self.view_is in
    elim c.match-get_mut.branch [
      | in-Some w ↦
          let written = c.get_mut.follows.holds w.activated.new.self in
          let some = sym (ap is_some w.in-Some.ensures.value) in
          ap (λ s. told_on s.surfaces.entries other) w.self-inside-is
          ∙ told_there entries (c.get_mut.follows.lender w.activated.new.self).entries c.args.id.now (Some w.activated.new.self) (written.3 some).0 other apart
          ∙ before
      | in_default w ↦
          ap (λ s. told_on s.surfaces.entries other) w.self-inside-is ∙ ap (λ m. told_on m.entries other) c.get_mut.follows.holds-at-none ∙ before
    ]
