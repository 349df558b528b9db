use Rattle.std.proofs.Common.{List, ap, sym, ◌∙◌}
use Rattle.vz_rules.specs.{World.FrameData, Walk.walk_of}
use Rattle.vz_surfaces.proofs.Telling.{tells_active, seen_all}
use Rattle.vz_surface_manager.proofs.Viewed.{rootless, unseen_root, seen_root}
use Rattle.vz_surface_manager.proofs.damage_laws.scenes_are_stored.Goals as goal

pub returns-clause-rootless : goal.returns-clause-rootless
returns-clause-rootless c = rootless

pub returns-clause-nothing : goal.returns-clause-nothing
returns-clause-nothing c w root keeps e f = unseen_root w root e (sym (tells_active w root keeps) ∙ f)

pub returns-clause-seen : goal.returns-clause-seen
returns-clause-seen c w root i keeps e f = seen_root w root i e (sym (tells_active w root keeps) ∙ f)

pub returns-clause-walked : goal.returns-clause-walked
returns-clause-walked c w root size keeps =
    ap (λ (l : List FrameData). walk_of size (record { root = root; active = l })) (seen_all w keeps)
