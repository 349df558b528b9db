use Rattle.std.proofs.Common.{rules, ◌≡◌, ◌*◌, ◌∙◌, ap, length, map, sym}
use Rattle.std.proofs.{lemmas.List.length-map, lemmas.Simd.Each1-weaker}
use Rattle.vz_kernel.proofs.ByOne.{highs, highs_small, sums, sums_are, bytes_sums}
use Rattle.vz_kernel.proofs.lanes.parts_plus.Goals as goal

pub overflow_cast-high : goal.overflow_cast-high
overflow_cast-high c = Each1-weaker _ _ (λ x h. search rules) _ (highs_small 32 c.args.factors c.args.raised)

pub returns : goal.returns
returns c =
    record {
      value = λ b xs low these e small sums_small.
          let long : length xs ≡ 32 = sym (length-map xs (λ x. x * 256)) ∙ ap length (sym e) ∙ c.fits-raised.0 in
          (λ i. sums 32 (map (λ a. a) (highs 32 (these i) (e i))) c.args.plus) ∙ sums_are 32 b xs c.args.plus low long small sums_small;
      bytes = bytes_sums 32 _ c.args.plus;
    }
