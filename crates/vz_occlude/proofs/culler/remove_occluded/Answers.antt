use Rattle.std.proofs.Common.{ap, sym, subst, ◌≤◌, ◌∙◌}
use Rattle.vz_flat.specs.Ops.{is_whole, value, deepest}
use Rattle.vz_occlude.specs.Occlusion.{kept as kept_of}
use Rattle.vz_occlude.specs.Occlusion.{gone as gone_of}
use Rattle.vz_occlude.proofs.Taken.{all_taken}
use Rattle.vz_occlude.proofs.Valued.{kept_value, whole_kept, kept_no_deeper, all_kept}
use Rattle.vz_occlude.proofs.culler.remove_occluded.Goals as goal

pub unreachable-requires : goal.unreachable-requires
unreachable-requires c =
    let same = c.into_vec.ensures ∙ c.into_list.ensures.value in
    let whole = ap is_whole same ∙ c.into_list.ensures.whole in
    let walked = (all_taken c.into_vec.result.items c.in_ok-culler.culler whole c.in_ok-culler.ensures).0 in
    let no = (c.in-Err.ensures).exactly.1
    (ap is_whole (c.from_vec-left.ensures ∙ (c.remove_first.ensures ∙ walked)) ∙ whole_kept c.into_vec.result.items whole) in
    absurd (cc)

pub returns-clause-nested : goal.returns-clause-nested
returns-clause-nested c = c.into_list.ensures.whole

pub returns-then-removed-eq0-clause-nested : goal.returns-then-removed-eq0-clause-nested
returns-then-removed-eq0-clause-nested c = c.into_list.ensures.whole

pub returns-clause-kept : goal.returns-clause-kept
returns-clause-kept c =
    let same = c.into_vec.ensures ∙ c.into_list.ensures.value in
    let whole = ap is_whole same ∙ c.into_list.ensures.whole in
    let walked = (all_taken c.into_vec.result.items c.in_ok-culler.culler whole c.in_ok-culler.ensures).0 in
    (c.in-Ok.ensures).ok ∙ (c.from_vec-left.ensures ∙ (c.remove_first.ensures ∙ (walked ∙ ap kept_of same)))

pub returns-clause-gone : goal.returns-clause-gone
returns-clause-gone c =
    let same = c.into_vec.ensures ∙ c.into_list.ensures.value in
    let whole = ap is_whole same ∙ c.into_list.ensures.whole in
    (all_taken c.into_vec.result.items c.in_ok-culler.culler whole c.in_ok-culler.ensures).1 ∙ ap gone_of same

pub returns-clause-same : goal.returns-clause-same
returns-clause-same c p d =
    let same = c.into_vec.ensures ∙ c.into_list.ensures.value in
    let whole = ap is_whole same ∙ c.into_list.ensures.whole in
    let walked = (all_taken c.into_vec.result.items c.in_ok-culler.culler whole c.in_ok-culler.ensures).0 in
    let left = (c.in-Ok.ensures).ok ∙ (c.from_vec-left.ensures ∙ (c.remove_first.ensures ∙ walked)) in
    ap (λ ops. value ops p d) left ∙ (kept_value c.into_vec.result.items p d whole ∙ ap (λ ops. value ops p d) same)

pub returns-clause-deep : goal.returns-clause-deep
returns-clause-deep c =
    let same = c.into_vec.ensures ∙ c.into_list.ensures.value in
    let whole = ap is_whole same ∙ c.into_list.ensures.whole in
    let walked = (all_taken c.into_vec.result.items c.in_ok-culler.culler whole c.in_ok-culler.ensures).0 in
    let left = (c.in-Ok.ensures).ok ∙ (c.from_vec-left.ensures ∙ (c.remove_first.ensures ∙ walked)) in
    subst (λ ops. deepest 0 ops ≤ deepest 0 c.args.ops) (sym left)
    (subst (λ ops. deepest 0 (kept_of c.into_vec.result.items) ≤ deepest 0 ops) same (kept_no_deeper c.into_vec.result.items whole))

pub returns-then-removed-eq0-clause-kept : goal.returns-then-removed-eq0-clause-kept
returns-then-removed-eq0-clause-kept c =
    let same = c.into_vec.ensures ∙ c.into_list.ensures.value in
    let whole = ap is_whole same ∙ c.into_list.ensures.whole in
    let walked = (all_taken c.into_vec.result.items c.in_ok-culler.culler whole c.in_ok-culler.ensures).0 in
    c.known.ensures ∙ (c.from_vec-left.ensures ∙ (c.remove_first.ensures ∙ (walked ∙ ap kept_of same)))

pub returns-then-removed-eq0-clause-same : goal.returns-then-removed-eq0-clause-same
returns-then-removed-eq0-clause-same c p d =
    let same = c.into_vec.ensures ∙ c.into_list.ensures.value in
    let whole = ap is_whole same ∙ c.into_list.ensures.whole in
    let walked = (all_taken c.into_vec.result.items c.in_ok-culler.culler whole c.in_ok-culler.ensures).0 in
    let left = c.known.ensures ∙ (c.from_vec-left.ensures ∙ (c.remove_first.ensures ∙ walked)) in
    ap (λ ops. value ops p d) left ∙ (kept_value c.into_vec.result.items p d whole ∙ ap (λ ops. value ops p d) same)

pub returns-then-removed-eq0-clause-deep : goal.returns-then-removed-eq0-clause-deep
returns-then-removed-eq0-clause-deep c =
    let same = c.into_vec.ensures ∙ c.into_list.ensures.value in
    let whole = ap is_whole same ∙ c.into_list.ensures.whole in
    let walked = (all_taken c.into_vec.result.items c.in_ok-culler.culler whole c.in_ok-culler.ensures).0 in
    let left = c.known.ensures ∙ (c.from_vec-left.ensures ∙ (c.remove_first.ensures ∙ walked)) in
    subst (λ ops. deepest 0 ops ≤ deepest 0 c.args.ops) (sym left)
    (subst (λ ops. deepest 0 (kept_of c.into_vec.result.items) ≤ deepest 0 ops) same (kept_no_deeper c.into_vec.result.items whole))

pub returns-then-removed-eq0-clause-gone : goal.returns-then-removed-eq0-clause-gone
returns-then-removed-eq0-clause-gone c =
    let same = c.into_vec.ensures ∙ c.into_list.ensures.value in
    let whole = ap is_whole same ∙ c.into_list.ensures.whole in
    sym c.if-removed-eq0.true ∙ (all_taken c.into_vec.result.items c.in_ok-culler.culler whole c.in_ok-culler.ensures).1 ∙ ap gone_of same

pub known-requires : goal.known-requires
known-requires c =
    let same = c.into_vec.ensures ∙ c.into_list.ensures.value in
    let whole = ap is_whole same ∙ c.into_list.ensures.whole in
    let taken = all_taken c.into_vec.result.items c.in_ok-culler.culler whole c.in_ok-culler.ensures in
    let left = c.from_vec-left.ensures ∙ (c.remove_first.ensures ∙ taken.0)
    ∙ all_kept c.into_vec.result.items whole (sym taken.1 ∙ c.if-removed-eq0.true) in
    record {
      whole = ap is_whole left ∙ whole;
      deepest = c.deepest-deepest.ensures.value ∙ ap (deepest 0) (sym same) ∙ ap (deepest 0) (sym left);
    }
