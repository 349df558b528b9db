use Rattle.std.proofs.Common.{◌≡◌, true, false, ap, sym, ◌∙◌, subst, Some, None, is_some, OnOk}
use Rattle.vz_damage.specs.Told.{told_on, next_index, with_damage}
use Rattle.vz_damage.proofs.Looking.{looked, told_here, told_there}
use Rattle.vz_damage.proofs.damage.Damage.accepted.Goals as goal

pub accepted-requires : goal.accepted-requires
accepted-requires c =
    c.requires ∙ ap (λ v. next_index (told_on v.surfaces c.args.id)) (sym c.self.view_is) ∙ ap next_index (looked c.self.inside.surfaces.entries c.args.id ∙ sym c.in-Some.ensures.value)

pub begin-requires : goal.begin-requires
begin-requires c =
    ap (λ m. told_on m.entries c.args.id) c.get_mut.follows.holds-at-none ∙ looked c.self.inside.surfaces.entries c.args.id ∙ sym c.in-None.ensures.value

pub returns-in-Some-clause-told : goal.returns-in-Some-clause-told
returns-in-Some-clause-told c =
    let entries = c.self.inside.surfaces.entries in
    let written = c.get_mut.follows.holds c.accepted.new.self in
    let some = sym (ap is_some c.in-Some.ensures.value) in
    told_here entries (c.get_mut.follows.lender c.accepted.new.self).entries c.args.id (Some c.accepted.new.self) (written.3 some).0
    ∙ ap (λ t. Some t) c.accepted.ensures
    ∙ ap (λ t. Some (with_damage t c.args.damage)) (c.in-Some.ensures.value ∙ sym (looked entries c.args.id))
    ∙ ap (λ v. Some (with_damage (told_on v.surfaces c.args.id) c.args.damage)) c.self.view_is

pub returns-in-Some-clause-others : goal.returns-in-Some-clause-others
returns-in-Some-clause-others c other apart =
    let entries = c.self.inside.surfaces.entries in
    let written = c.get_mut.follows.holds c.accepted.new.self in
    let some = sym (ap is_some c.in-Some.ensures.value) in
    told_there entries (c.get_mut.follows.lender c.accepted.new.self).entries c.args.id (Some c.accepted.new.self) (written.3 some).0 other apart
    ∙ ap (λ v. told_on v.surfaces other) c.self.view_is

pub returns-in-None-clause-told : goal.returns-in-None-clause-told
returns-in-None-clause-told c =
    let none : told_on c.args.self.now.surfaces c.args.id ≡ None =
    sym (ap (λ v. told_on v.surfaces c.args.id) c.self.view_is) ∙ looked c.self.inside.surfaces.entries c.args.id ∙ sym c.in-None.ensures.value in
    subst (λ t. OnOk c.begin.result (told_on c.begin.new.self.surfaces c.args.id ≡ Some (with_damage t c.args.damage))) (sym none) c.begin.ensures.told

pub returns-in-None-clause-known : goal.returns-in-None-clause-known
returns-in-None-clause-known c there =
    let none : told_on c.args.self.now.surfaces c.args.id ≡ None =
    sym (ap (λ v. told_on v.surfaces c.args.id) c.self.view_is) ∙ looked c.self.inside.surfaces.entries c.args.id ∙ sym c.in-None.ensures.value in
    let no_way : false ≡ true = sym (ap is_some none) ∙ there in absurd (cc)
