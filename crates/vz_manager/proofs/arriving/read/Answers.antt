use Rattle.std.proofs.Common.{◌+◌, filter, not, length, refl, ap, sym, ◌∙◌}
use Rattle.vz_rules.specs.Settle.{is_met}
use Rattle.vz_manager.specs.Judging.{deadline_of}
use Rattle.vz_manager.proofs.Resting.{appended}
use Rattle.vz_manager.proofs.Submits.{here, number, asks, has_number, is_soon, is_early}
use Rattle.vz_manager.proofs.Reading_all.{lasts_on}
use Rattle.vz_manager.proofs.arriving.read.Goals as goal

pub due-requires-clause-early : goal.due-requires-clause-early
due-requires-clause-early c =
    let s = c.requires.submits in
    is_early s.0 s.1 c.args.c s.2 c.args.local.now c.args.frame.now c.args.support.now c.args.settling.now s.3 _
    (c.tick-tick.ensures s.0 s.1 s.3.kept)

pub due-requires-clause-soon : goal.due-requires-clause-soon
due-requires-clause-soon c =
    let s = c.requires.submits in
    is_soon s.0 s.1 c.args.c s.2 c.args.local.now c.args.frame.now c.args.support.now c.args.settling.now s.3

pub created-requires-clause-number : goal.created-requires-clause-number
created-requires-clause-number c =
    let s = c.requires.submits in
    has_number s.0 s.1 c.args.c s.2 c.args.local.now c.args.frame.now c.args.support.now c.args.settling.now s.3

pub created-requires-clause-late : goal.created-requires-clause-late
created-requires-clause-late c =
    let s = c.requires.submits in
    lasts_on _ (is_early s.0 s.1 c.args.c s.2 c.args.local.now c.args.frame.now c.args.support.now c.args.settling.now s.3 _
    (c.tick-tick.ensures s.0 s.1 s.3.kept))

pub returns : goal.returns
returns c p w x h =
    let at = here p w c.args.c x c.args.local.now c.args.frame.now c.args.support.now c.args.settling.now h in
    let of = number p w c.args.c x c.args.local.now c.args.frame.now c.args.support.now c.args.settling.now h in
    let asked = asks p w c.args.c x c.args.local.now c.args.frame.now c.args.support.now c.args.settling.now h in
    let tick = c.tick-tick.ensures p w h.kept in
    let sink = c.sink-sink.ensures p w x h.kept at in
    record {
      sink = sink;
      due = c.due.ensures ∙ ap (λ t. t + deadline_of c.args.frame.now) tick;
      new = c.created.ensures w x c.args.local.now h.stands.live of (λ i. record { sink = sink i; local = c.args.local.now }) tick;
      listings = ap length c.as_slice-listings.ensures;
      references = ap length c.as_slice-2.ensures;
      lacked = appended _ _ _ (filter (λ d. not (is_met w d)) c.args.frame.now.metadata.dependencies) refl (c.lacked.ensures.list p w asked)
          (c.reserve.ensures.list ∙ c.new-lacks.ensures);
      blocks = c.in_ok-blocks.ensures p w x c.args.frame.now h.kept at (sym c.as_slice-listings.ensures);
    }
