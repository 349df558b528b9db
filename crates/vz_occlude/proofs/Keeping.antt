-- One operation more is kept.
use Rattle.std.proofs.Common.{◌≡◌, ℕ, ◌+◌, ◌-◌, ◌≤◌, ◌<◌, ◌∷◌, drop, length, ap, ◌∙◌, arith}
use Rattle.std.specs.List.{SwappedAt}
use Rattle.vz_flat.specs.declared.op.Op.{Op}
use Rattle.vz_occlude.specs.{declared.culler.OcclusionCuller.OcclusionCuller, Walk_so_far.IsKeptAt}
use Rattle.vz_occlude.proofs.Ends_of_lists.{swapped_behind, swapped_ahead, swapped_length}

pub kept_at : (place : ℕ) (op : Op) (t u : OcclusionCuller) (k : ℕ) → place < t.kept → t.kept ≤ length t.ops.items → k ≡ t.kept - 1 → u.kept ≡ k
    → SwappedAt t.ops.items u.ops.items place k → IsKeptAt place op t u
kept_at place op t u k before low less kept swapped =
    let long = swapped_length t.ops.items u.ops.items place k _ _ (omega (arith, before, less)) (swapped.3 op) in
    let next : k + 1 ≡ t.kept = omega (arith, before, less) in
    record {
      low = omega (arith, before, low, less, kept, long);
      before = omega (arith, before, less, kept);
      kept = λ at. ap (λ n. drop n u.ops.items) kept
          ∙ (swapped_behind t.ops.items u.ops.items place k op at (omega (arith, before, less)) (omega (arith, before, low, less)) (swapped.3 op)
          ∙ ap (λ n. op ∷ drop n t.ops.items) next);
      ahead = swapped_ahead t.ops.items u.ops.items place k _ _ (omega (arith, before, less)) (swapped.3 op);
      long = long;
    }
