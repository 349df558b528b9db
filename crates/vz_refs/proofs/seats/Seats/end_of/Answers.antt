use Rattle.vz_refs.proofs.Named.{least_mono}
use Rattle.vz_refs.proofs.Groups.{go_ends, go_rid}
use Rattle.vz_refs.proofs.seats.Seats.end_of.Goals as goal

pub returns-clause-ends : goal.returns-clause-ends
returns-clause-ends c =
    go_ends c.args.sink c.args.self.now (record { kept = c.keep_others.new.kept; names = c.keep_other_places.new.names; sizes = c.keep_other_groups.new.sizes }) c.requires.stands
    c.keep_others.ensures.kept c.keep_other_places.ensures.names c.keep_other_groups.ensures.sizes
    (least_mono _ _ _ _ c.keep_others.ensures.spare (least_mono _ _ _ _ c.keep_other_places.ensures.spare c.keep_other_groups.ensures.spare))

pub returns-clause-rid : goal.returns-clause-rid
returns-clause-rid c =
    go_rid c.args.sink c.args.self.now (record { kept = c.keep_others.new.kept; names = c.keep_other_places.new.names; sizes = c.keep_other_groups.new.sizes }) c.requires.stands
    c.keep_others.ensures.kept c.keep_other_places.ensures.names c.keep_other_groups.ensures.sizes
