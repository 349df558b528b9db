use Rattle.std.proofs.Common.{◌≡◌, ◌≤◌, ℕ, Bool, true, false, cond, None, Some, arith}
use Rattle.vz_deps.specs.declared.bunches.Lack.{Lack}
use Rattle.vz_deps.specs.declared.bunches.Seat.{Seat}
use Rattle.vz_deps.specs.declared.lacks.Lacks.{Lacks}
use Rattle.vz_deps.specs.Bunching.{Stands, seat_in, bunch_of, same_lack}
use Rattle.vz_deps.specs.Lacking.{on_in, bunches_for}
use Rattle.vz_deps.proofs.Keeping.{kept_now, cleared_now, all_now, by_kind, least_mono, one_unready, lacks_some}
use Rattle.vz_deps.proofs.lacks.Lacks.meet.Goals as goal

pub remove-requires : goal.remove-requires
remove-requires c = record { stands = c.requires.kept.stands false }

pub remove-requires-2 : goal.remove-requires-2
remove-requires-2 c = record { stands = c.requires.kept.stands true }

pub count_down-requires-clause-some : goal.count_down-requires-clause-some
count_down-requires-clause-some c =
    let d = c.requires.some in
    let its = c.requires.kept.within c.args.lack.now d.0 d.1 in
    let some = lacks_some (on_in c.args.self.now) c.args.lack.now d.0 d.1 its.0.all its.2 in
    let is = c.requires.kept.counted c.args.lack.now.order its.0 its.1 in
    (its.0, its.1, omega (arith, some, is))

pub count_down-requires-clause-room : goal.count_down-requires-clause-room
count_down-requires-clause-room c =
    let d = c.requires.some in
    let its = c.requires.kept.within c.args.lack.now d.0 d.1 in
    let some = lacks_some (on_in c.args.self.now) c.args.lack.now d.0 d.1 its.0.all its.2 in
    let is = c.requires.kept.counted c.args.lack.now.order its.0 its.1 in
    let one = one_unready c.args.lack.now.order its.0 c.args.self.now.counts.entries its.1 (omega (arith, some, is)) in
    let few = c.requires.kept.few in
    let room = c.requires.kept.room in
    omega (arith, one, few, room)

pub returns-clause-meets : goal.returns-clause-meets
returns-clause-meets c met d found m =
    let a = c.args.self.now in
    let b : Lacks = record { on = c.swap_remove.new.self; groups = c.remove.new.self; sinks = c.remove-2.new.self; counts = c.count_down.new.counts; freed = c.count_down.new.freed } in
    let x = c.args.lack.now in
    let gone : (y : Lack) → on_in b y ≡ cond (same_lack x y) None (on_in a y) = c.swap_remove.ensures.updates.0 in
    let stands : (w : Bool) → Stands (bunches_for w b) = by_kind (λ w. Stands (bunches_for w b)) c.remove.ensures.stands c.remove-2.ensures.stands in
    let bunch : (w : Bool) (y : Lack) → bunch_of (bunches_for w b) y ≡ cond (same_lack x y) None (bunch_of (bunches_for w a) y) = by_kind (λ w. (y : Lack) → bunch_of (bunches_for w b) y ≡ cond (same_lack x y) None (bunch_of (bunches_for w a) y)) c.remove.ensures.bunch c.remove-2.ensures.bunch in
    let low = c.count_down.ensures.counts in
    let freed = c.count_down.ensures.freed in
    let few = c.count_down.ensures.few in
    let places = c.count_down.ensures.capacity in
    record {
      kept = kept_now a b x d c.requires.kept found gone stands bunch low freed few places;
      on = cleared_now a b x d c.requires.kept found gone stands bunch low freed few places met m;
      all = all_now a b x d c.requires.kept found gone stands bunch low freed few places;
      seats = by_kind (λ w. (s : Seat) (y : Lack) → seat_in (bunches_for w b) s ≡ Some y → (j : ℕ) × (s.at ≤ j) × (seat_in (bunches_for w a) (record s { at = j }) ≡ Some y)) c.remove.ensures.seats c.remove-2.ensures.seats;
      room = least_mono _ _ _ _ c.swap_remove.ensures.room.0 (least_mono _ _ _ _ c.remove.ensures.room (least_mono _ _ _ _ c.remove-2.ensures.room (least_mono _ _ _ _ c.count_down.ensures.spare (let same = low.0 in omega (arith, same, places)))));
    }
