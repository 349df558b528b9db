use Rattle.std.proofs.Common.{◌≡◌, true, false, cond, [], ◌∷◌, ◌++◌, sym, ap, ◌∙◌, arith}
use Rattle.vz_refs.specs.Referring.{keeping}
use Rattle.vz_refs.proofs.references.References.keep.Goals as goal

pub returns-then-not-is_named-clause-temporary : goal.returns-then-not-is_named-clause-temporary
unfolding keeping
returns-then-not-is_named-clause-temporary c =
    let no : c.is_named.result ≡ false = grind (arith, c.if-not-is_named.true) in
    let kept = c.self.inside.temporary.list in
    c.keep.ensures.list ∙ sym (ap (λ t. cond t kept (kept ++ record { id = c.args.id; until = c.args.until } ∷ [])) (sym c.is_named.ensures ∙ no)) ∙ ap (λ v. keeping v.sets c.args.id c.args.until v.temporary) c.self.view_is

pub returns-else-not-is_named-clause-temporary : goal.returns-else-not-is_named-clause-temporary
unfolding keeping
returns-else-not-is_named-clause-temporary c =
    let yet : c.is_named.result ≡ true = grind (arith, c.if-not-is_named.false) in
    let kept = c.self.inside.temporary.list in
    sym (ap (λ v. v.temporary) c.self.view_is) ∙ sym (ap (λ t. cond t kept (kept ++ record { id = c.args.id; until = c.args.until } ∷ [])) (sym c.is_named.ensures ∙ yet)) ∙ ap (λ v. keeping v.sets c.args.id c.args.until v.temporary) c.self.view_is
