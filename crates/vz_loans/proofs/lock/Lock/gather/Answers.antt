use Rattle.std.proofs.Common.{rules, arith, ap, sym, subst, ◌∙◌}
use Rattle.vz_loans.specs.Tokens.{IsAtRest}
use Rattle.vz_loans.proofs.Ends.{joins}
use Rattle.vz_loans.proofs.Closing.{Each, each_of, Joining, at_rest, starts_joining, goes_joining, ends_joining}
use Rattle.vz_loans.proofs.lock.Lock.gather.Goals as goal

pub unreachable-requires : goal.unreachable-requires
unreachable-requires g c = let some_caller = c.self.invariant.3 in let same = ap (λ l. l.callers) c.self.view_is in let all = c.requires.all in let n = c.args.tokens.ok.0 in let e = (c.in_default.ensures).cases in omega arith

pub loop-token-init : goal.loop-token-init
loop-token-init g c = record {
  table = let rest = at_rest c.args.self.now.id c.first.inside.seat.table_id c.first.inside.number c.first.inside.seat.me c.in-Some.first c.pop.new.self.items c.first.view_is (subst (Each (IsAtRest c.args.self.now.id)) (c.in-Some.ensures).items (each_of _ c.args.tokens.items c.requires.ours)) in rest.0;
  joining = starts_joining c.args.self.now.id c.first.inside.seat.table_id c.first.inside.number c.first.inside.ticket c.args.tokens.items c.pop.new.self.items c.in-Some.first c.first.inside.seat.me (c.in-Some.ensures).items
      (each_of _ c.args.tokens.items c.requires.ours) c.first.view_is c.first.invariant;
}

pub join_seat-requires : goal.join_seat-requires
join_seat-requires g c = let j = c.loop-token.invariant.joining in let rest = at_rest c.args.self.now.id c.token.inside.seat.table_id c.token.inside.number c.token.inside.seat.me c.in-Some-pop.token c.pop-in-loop-token.new.self.items c.token.view_is
    (subst (Each (IsAtRest c.args.self.now.id)) (c.in-Some-pop.ensures).items j.ours) in let out = c.token.invariant.outside rest.1 in let v = ap (λ l. l.id) c.self.view_is in (
      c.loop-token.invariant.table ∙ sym v,
      rest.0 ∙ sym v,
      out.1,
      search rules,
      joins _ _ _ _ _ _ _ _ j.idle out.0,
    )

pub loop-token-preserved : goal.loop-token-preserved
loop-token-preserved g c = record {
  table = c.join_seat.ensures.0 ∙ c.loop-token.invariant.table;
  joining = subst (λ m. Joining c.args.self.now.id c.args.tokens.items c.pop-in-loop-token.new.self.items m.0) (sym c.join_seat.ensures.2)
      (goes_joining c.args.self.now.id c.token.inside.seat.table_id c.token.inside.number c.token.inside.ticket c.args.tokens.items c.loop-token.tokens.items c.pop-in-loop-token.new.self.items c.in-Some-pop.token c.loop-token.seat.me.0 c.token.inside.seat.me
      (c.in-Some-pop.ensures).items c.loop-token.invariant.joining c.token.view_is c.token.invariant);
}

pub returns-clause-whole : goal.returns-clause-whole
returns-clause-whole g c = let n = c.loop-token.tokens.ok.0 in let e = (c.in_default-pop.ensures).cases in
    (ends_joining c.args.self.now.id c.args.tokens.items c.loop-token.tokens.items c.loop-token.seat.me c.loop-token.invariant.joining (omega arith)).0

pub returns-clause-covers : goal.returns-clause-covers
returns-clause-covers g c = let n = c.loop-token.tokens.ok.0 in let e = (c.in_default-pop.ensures).cases in
    (ends_joining c.args.self.now.id c.args.tokens.items c.loop-token.tokens.items c.loop-token.seat.me c.loop-token.invariant.joining (omega arith)).1
