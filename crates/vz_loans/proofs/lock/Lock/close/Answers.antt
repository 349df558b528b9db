use Rattle.std.proofs.Common.{◌≡◌, ap, sym, subst, ◌∙◌, Option, Some, None}
use Rattle.vz_loans.specs.Tokens.{IsClosedBy}
use Rattle.vz_loans.proofs.{Ends.Settled, Ends.finds, Ends.or_else, lock.Lock.close.Goals.After-take-state, lock.Lock.close.Given.Over}
use Rattle.vz_loans.proofs.lock.Lock.close.Goals as goal

found : (g : Over) (c : After-take-state g) → (k : g.row.K.Denot) × (c.take-state.result ≡ Some k) × Settled g.K.Kept.plan g.K.Kept.entries c.gather-seat.result.me.0 k
found g c = let whole = c.gather-seat.ensures.whole in
    finds _ _ _ _ _ c.gather-seat.result.me.0 _ _ c.take-state.result c.close_with-closed.ensures.values.2 whole.idle (whole.claims ∙ c.requires.all ∙ ap (λ l. l.callers) (sym c.self.view_is) ∙ sym c.self.invariant.2) c.take-state.ensures.value

pub unreachable-requires : goal.unreachable-requires
unreachable-requires g c = let f = found g (goal.at.unreachable-requires g c).After-take-state in let e : ◌≡◌ {A = Option g.row.K.Denot} (Some f.0) None = sym f.1 ∙ c.in-None.is in absurd (cc)

pub returns-clause-tokens : goal.returns-clause-tokens
returns-clause-tokens g c = λ k d l. let f = found g (goal.at.returns-clause-tokens g c).After-take-state in let same : f.0 ≡ c.in-Some.state = ap (or_else f.0) (sym f.1 ∙ c.in-Some.is) in
    subst (λ x. IsClosedBy (g.K.Kept.plan x) (g.K.Kept.entries x) (Rattle.std.proofs.Common.get_or c.args.tokens.items k d)) same
    (c.gather-seat.ensures.covers k d l (g.K.Kept.plan f.0) (g.K.Kept.entries f.0) f.2.planned f.2.begun f.2.olds f.2.told)

pub returns-clause-others : goal.returns-clause-others
returns-clause-others g c = λ n none. let f = found g (goal.at.returns-clause-others g c).After-take-state in let same : f.0 ≡ c.in-Some.state = ap (or_else f.0) (sym f.1 ∙ c.in-Some.is) in
    ap (λ x. Rattle.vz_loans.specs.Rule.places n (g.K.Kept.entries x)) (sym same) ∙ f.2.others n (c.gather-seat.ensures.whole.numbers n ∙ none)
