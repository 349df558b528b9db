use Rattle.std.proofs.Common.{rules, ◌≡◌, ap, ◌++◌, [], ◌∷◌, length, vec_len, arith}
use Rattle.vz_returns.specs.{Held.alive_of, Released.times, Lent.Suffice}
use Rattle.std.proofs.lemmas.List.{length-append}
use Rattle.vz_returns.proofs.Totals.{no_more}
use Rattle.vz_returns.proofs.lender.Lender.release.Goals as goal

pub push_reserved-requires : goal.push_reserved-requires
push_reserved-requires c =
    let list = c.self.inside.holder.holding.counted in
    let released = c.self.inside.released.items in
    let same = c.self.view_is in
    let few : Suffice (released ++ c.args.id ∷ []) c.self.inside.holder.holding =
    λ id. omega (
      arith,
      c.requires id,
      ap (λ v. times id (v.released ++ c.args.id ∷ [])) same,
      ap (λ v. alive_of id v.holding.counted)
          same,
    ) in
    let one : vec_len c.self.inside.released ≡ length released = search rules in
    omega (
      arith,
      no_more (released ++ c.args.id ∷ []) list few,
      c.self.invariant.0,
      c.self.invariant.1,
      length-append released
          (c.args.id ∷ []),
      one,
    )
