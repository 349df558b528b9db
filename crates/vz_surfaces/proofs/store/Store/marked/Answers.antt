use Rattle.std.proofs.Common.{◌≡◌, ◌≤◌, ◌+◌, ◌++◌, List, length, sym, ap, ◌∙◌, subst, arith}
use Rattle.vz_ids.specs.declared.SurfaceId.{SurfaceId}
use Rattle.vz_surfaces.specs.Stored.{Stored}
use Rattle.vz_surfaces.specs.Told.{stored}
use Rattle.vz_surfaces.specs.Reading.{existing_count, marked_to}
use Rattle.vz_surfaces.specs.declared.owners.Owner.{Owner}
use Rattle.vz_surfaces.proofs.Listing.{numbers_begin, put_fits, put_more, put_left, put_none, marked_whole}
use Rattle.vz_surfaces.proofs.store.Store.marked.Goals as goal

pub put_to-requires-clause-rise : goal.put_to-requires-clause-rise
put_to-requires-clause-rise c = c.self.invariant.1.rise (c.loop-k.k + 1)

pub put_to-requires-clause-first : goal.put_to-requires-clause-first
put_to-requires-clause-first c =
    let inside = c.self.inside in
    numbers_begin inside.standing inside.owners (stored inside.told) (c.loop-k.k + 1) c.self.invariant.1 c.self.invariant.0.marks

pub put_to-requires-clause-room : goal.put_to-requires-clause-room
put_to-requires-clause-room c =
    let inside = c.self.inside in
    put_fits inside.standing inside.owners (stored inside.told) c.self.invariant.1 c.self.invariant.0.marks c.loop-k.k c.get-to.result.marked_to (ap (λ (o : Owner). o.marked_to) c.get-to.ensures)
    c.args.out.now.spare c.loop-k.out.spare (subst (λ (st : Stored). existing_count st ≤ c.args.out.now.spare) (sym c.self.view_is) c.requires) c.loop-k.invariant.1

pub loop-k-preserved : goal.loop-k-preserved
loop-k-preserved c =
    let inside = c.self.inside in
    let at = ap (λ (o : Owner). o.marked_to) c.get-to.ensures in (
      put_more inside.standing inside.owners (stored inside.told) c.self.invariant.1 c.self.invariant.0.marks c.loop-k.k c.get-to.result.marked_to at c.args.out.now.list c.loop-k.out.list c.put_to.new.out.list
          c.loop-k.invariant.0 c.put_to.ensures.list,
      put_left inside.standing inside.owners (stored inside.told) c.self.invariant.1 c.self.invariant.0.marks c.loop-k.k c.get-to.result.marked_to at c.args.out.now.spare c.loop-k.out.spare c.put_to.new.out.spare
          c.loop-k.invariant.1 c.put_to.ensures.spare,
    )

-- no client after the last one that is asked has marked surfaces
all_in : (c : goal.After-loop-k) → marked_to 16 c.args.self.now ≡ marked_to c.loop-k.k (stored c.self.inside.told)
all_in c =
    let inside = c.self.inside in
    ap (marked_to 16) (sym c.self.view_is)
    ∙ marked_whole inside.standing inside.owners (stored inside.told) c.loop-k.k c.self.invariant.1 c.self.invariant.0.marks c.self.invariant.0.marking (omega (arith, c.loop-k.auto.k-end, c.loop-k-test.false, c.marking-k-end.ensures))

pub returns-clause-list : goal.returns-clause-list
returns-clause-list c = c.loop-k.invariant.0 ∙ ap (λ (l : List SurfaceId). c.args.out.now.list ++ l) (sym (all_in c))

pub returns-clause-room : goal.returns-clause-room
returns-clause-room c = c.loop-k.invariant.1 ∙ ap (λ (l : List SurfaceId). c.loop-k.out.spare + length l) (sym (all_in c))

pub loop-k-init : goal.loop-k-init
loop-k-init c = put_none c.args.out.now.list c.args.out.now.spare (stored c.self.inside.told)
