use Rattle.std.proofs.Common.{rules, ◌≡◌, true, [], ap, sym, subst, ◌∙◌, length, arith}
use Rattle.std.proofs.{lemmas.List.nil_from_length, lemmas.List.Sorted.IsNonDecreasingBy-from_sort, lemmas.List.Sorted.length_permutation}
use Rattle.std.specs.List.Sorted.{IsPermutation}
use Rattle.vz_returns.specs.{Held.is_rising, Released.AreCounts, Released.is_sorted, Lent.Suffice, Lent.all_alive}
use Rattle.vz_returns.proofs.{All_released.rising_all, Totals.no_more}
use Rattle.vz_returns.proofs.Releases_in_turn.{fewer_alive, sorted_suffice, never_fall, given_in_order, none_given, none_less_all}
use Rattle.vz_returns.proofs.lender.Lender.give_back.Goals as goal

-- nothing was released: nothing goes back
pub returns-then-is_empty-clause-given : goal.returns-then-is_empty-clause-given
returns-then-is_empty-clause-given c = λ w d up are.
    let h = c.args.self.now.holding in
    let count : length c.self.inside.released.items ≡ 0 = search rules in
    let none = nil_from_length c.self.inside.released.items count in
    let counts : AreCounts w d h [] = subst (AreCounts w d h) (sym (ap (λ v. v.released) c.self.view_is) ∙ none) are in
    none_given w d h up counts c.args.out.now.list

pub give_back_all-requires-clause-suffice : goal.give_back_all-requires-clause-suffice
give_back_all-requires-clause-suffice c =
    let h = c.self.inside.holder.holding in
    let ids = c.self.inside.released.items in
    let moved : IsPermutation ids c.deref.result.now = subst (IsPermutation ids) (sym c.deref.ensures.value) c.sort_unstable.ensures.permutation in
    sorted_suffice ids c.deref.result.now h moved (subst (λ v. Suffice v.released v.holding) (sym c.self.view_is) c.requires.suffice)

pub overflow_sub-self : goal.overflow_sub-self
overflow_sub-self c =
    let h = c.self.inside.holder.holding in
    let ids = c.self.inside.released.items in
    let s : Suffice ids h = subst (λ v. Suffice v.released v.holding) (sym c.self.view_is) c.requires.suffice in
    let moved : length c.sort_unstable.new.self.items ≡ length ids = length_permutation ids _ c.sort_unstable.ensures.permutation in
    let count : c.len.result ≡ length c.sort_unstable.new.self.items = search rules in
    omega (arith, no_more ids h.counted s, c.self.invariant.0, moved, count)

pub invariant_of-self : goal.invariant_of-self
invariant_of-self c =
    let h = c.self.inside.holder.holding in
    let ids = c.self.inside.released.items in
    let given = c.deref.result.now in
    let moved : IsPermutation ids given = subst (IsPermutation ids) (sym c.deref.ensures.value) c.sort_unstable.ensures.permutation in
    let s : Suffice given h = sorted_suffice ids given h moved
    (subst (λ v. Suffice v.released v.holding) (sym c.self.view_is) c.requires.suffice) in
    let count : c.len.result ≡ length given = search rules in (
      omega (
        arith,
        c.self.invariant.0,
        fewer_alive given h c.self.invariant.2 s,
        ap (λ x. all_alive x.counted)
            c.give_back_all.ensures.holding,
        count,
      ),
      omega (arith, c.self.invariant.1, c.sort_unstable.ensures.capacity, c.clear.ensures.capacity),
      ap (λ x. is_rising x.counted) c.give_back_all.ensures.holding ∙ rising_all given h c.self.invariant.2,
    )

pub returns-clause-given : goal.returns-clause-given
returns-clause-given c = λ w d up are.
    let h = c.self.inside.holder.holding in
    let ids = c.self.inside.released.items in
    let given = c.deref.result.now in
    let moved : IsPermutation ids given = subst (IsPermutation ids) (sym c.deref.ensures.value) c.sort_unstable.ensures.permutation in
    let order : is_sorted given ≡ true = ap is_sorted c.deref.ensures.value
    ∙ never_fall _ (IsNonDecreasingBy-from_sort (λ n. n) _ c.sort_unstable.ensures.sorted) in
    let counts : AreCounts w d h ids = subst (λ v. AreCounts w d v.holding v.released) (sym c.self.view_is) are in
    given_in_order w d h ids given up counts moved order _ _ _ c.give_back_all.ensures.out c.give_back_all.ensures.holding

pub returns-clause-fewer : goal.returns-clause-fewer
returns-clause-fewer c =
    let h = c.self.inside.holder.holding in
    let ids = c.self.inside.released.items in
    let given = c.deref.result.now in
    let moved : IsPermutation ids given = subst (IsPermutation ids) (sym c.deref.ensures.value) c.sort_unstable.ensures.permutation in
    let s : Suffice given h = sorted_suffice ids given h moved
    (subst (λ v. Suffice v.released v.holding) (sym c.self.view_is) c.requires.suffice) in
    let same = ap (λ v. length v.holding.counted) c.self.view_is in
    omega (arith, none_less_all given h c.self.invariant.2 s, ap (λ x. length x.counted) c.give_back_all.ensures.holding, same)
