use Rattle.std.proofs.Common.{◌≡◌, ◌++◌, ℕ, map, ap, refl, ◌∙◌, arith}
use Rattle.std.proofs.lemmas.List.Sorted.{IsNonDecreasingBy-from_sort}
use Rattle.vz_deps.specs.declared.lacks.Lacks.{Lacks}
use Rattle.vz_deps.specs.Lacking.{is_in}
use Rattle.vz_deps.specs.Ordered.{never_falls}
use Rattle.vz_deps.proofs.Released.{sorted_never_falls}
use Rattle.vz_deps.proofs.Done.{same_members, out_same, subs_same, unmet_same, done_kept}
use Rattle.vz_deps.proofs.releasing.release.Goals as goal

pub release_all-requires-clause-order : goal.release_all-requires-clause-order
release_all-requires-clause-order c =
    ap never_falls c.deref.ensures.value ∙ sorted_never_falls c.sort_unstable.new.self.items (IsNonDecreasingBy-from_sort (λ n. n) _ c.sort_unstable.ensures.sorted)

pub returns-clause-kept : goal.returns-clause-kept
returns-clause-kept c =
    let l = c.args.lacks.now in
    let b : Lacks = record { on = l.on; groups = l.groups; sinks = l.sinks; counts = c.release_all.new.counts; freed = c.clear.new.self } in
    let same : (o : ℕ) → is_in o c.deref.result.now ≡ is_in o l.freed.items = λ o. ap (is_in o) c.deref.ensures.value ∙ same_members _ _ c.sort_unstable.ensures.permutation o in
    done_kept l c.args.subs.now.entries c.requires.kept c.requires.counts c.deref.result.now same b (λ x. refl) c.requires.kept.stands c.requires.kept.listed c.release_all.ensures.counts c.clear.ensures.items c.release_all.ensures.len
    (omega (arith, c.clear.ensures.capacity, c.sort_unstable.ensures.capacity))

pub returns-clause-unmet : goal.returns-clause-unmet
returns-clause-unmet c =
    let l = c.args.lacks.now in
    let b : Lacks = record { on = l.on; groups = l.groups; sinks = l.sinks; counts = c.release_all.new.counts; freed = c.clear.new.self } in
    let same : (o : ℕ) → is_in o c.deref.result.now ≡ is_in o l.freed.items = λ o. ap (is_in o) c.deref.ensures.value ∙ same_members _ _ c.sort_unstable.ensures.permutation o in
    unmet_same l c.args.subs.now.entries c.requires.kept c.requires.counts c.deref.result.now same b (λ x. refl) c.requires.kept.stands c.requires.kept.listed c.release_all.ensures.counts c.clear.ensures.items c.release_all.ensures.len
    (omega (arith, c.clear.ensures.capacity, c.sort_unstable.ensures.capacity))

pub returns-clause-subs : goal.returns-clause-subs
returns-clause-subs c =
    let l = c.args.lacks.now in
    let same : (o : ℕ) → is_in o c.deref.result.now ≡ is_in o l.freed.items = λ o. ap (is_in o) c.deref.ensures.value ∙ same_members _ _ c.sort_unstable.ensures.permutation o in
    subs_same l c.args.subs.now.entries c.requires.kept c.requires.counts c.deref.result.now same c.release_all.new.subs.entries c.release_all.ensures.subs

pub returns-clause-out : goal.returns-clause-out
returns-clause-out c =
    let l = c.args.lacks.now in
    let same : (o : ℕ) → is_in o c.deref.result.now ≡ is_in o l.freed.items = λ o. ap (is_in o) c.deref.ensures.value ∙ same_members _ _ c.sort_unstable.ensures.permutation o in
    c.release_all.ensures.out ∙ ap (λ k. c.args.out.now.list ++ map (λ e. e.1) k) (out_same l c.args.subs.now.entries c.requires.kept c.requires.counts c.deref.result.now same)
