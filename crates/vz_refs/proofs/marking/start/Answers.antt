use Rattle.std.proofs.Common.{◌≤◌, ◌+◌, map, length, sym, ap, ◌∙◌, arith, subst}
use Rattle.vz_ids.specs.Ids.{same_surface}
use Rattle.vz_rules.specs.Closure.{adding}
use Rattle.vz_refs.specs.Lasting.{all_in}
use Rattle.vz_refs.proofs.Gathering.{starts_none, starts_some, room_for, grows}
use Rattle.vz_refs.proofs.marking.start.Goals as goal

-- without a root
pub add_kept-requires-clause-room : goal.add_kept-requires-clause-room
add_kept-requires-clause-room c =
    subst (λ l. length (adding same_surface c.args.out.now.list l) ≤ length c.args.out.now.list + c.args.out.now.spare) (starts_none c.args.root (all_in c.args.kept.now.entries) c.in-None.is) c.requires.room

pub returns-in-None-clause-list : goal.returns-in-None-clause-list
returns-in-None-clause-list c = c.add_kept.ensures.list ∙ sym (ap (adding same_surface c.args.out.now.list) (starts_none c.args.root (all_in c.args.kept.now.entries) c.in-None.is))

-- with a root
pub add-requires-clause-room : goal.add-requires-clause-room
add-requires-clause-room c none =
    room_for c.args.out.now.list (map (λ t. t.id) (all_in c.args.kept.now.entries)) _ c.in-Some.id _ c.args.out.now.spare
    (sym (ap (adding same_surface c.args.out.now.list) (starts_some c.args.root (all_in c.args.kept.now.entries) c.in-Some.id c.in-Some.is))) c.requires.room (omega arith) none

pub add_kept-requires-in-Some-clause-room : goal.add_kept-requires-in-Some-clause-room
add_kept-requires-in-Some-clause-room c =
    let whole = sym (ap (adding same_surface c.args.out.now.list) (starts_some c.args.root (all_in c.args.kept.now.entries) c.in-Some.id c.in-Some.is)) in
    let same = ap length (grows c.args.out.now.list c.add.new.out.list (map (λ t. t.id) (all_in c.args.kept.now.entries)) _ c.in-Some.id whole c.add.ensures.list) in
    omega (arith, same, c.requires.room, c.add.ensures.room)

pub returns-in-Some-clause-list : goal.returns-in-Some-clause-list
returns-in-Some-clause-list c =
    let whole = sym (ap (adding same_surface c.args.out.now.list) (starts_some c.args.root (all_in c.args.kept.now.entries) c.in-Some.id c.in-Some.is)) in
    c.add_kept-in-Some.ensures.list ∙ grows c.args.out.now.list c.add.new.out.list (map (λ t. t.id) (all_in c.args.kept.now.entries)) _ c.in-Some.id whole c.add.ensures.list
