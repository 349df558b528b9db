-- How many resources have references out, as a client's messages change them.
use Rattle.std.proofs.Common.{◌≡◌, ℕ, ◌+◌, ◌≤◌, Bool, true, false, ◌==◌, nat_lt, List, [], ◌∷◌, length, refl, sym, ap, ◌∙◌, arith, cond, count_by, if◌then◌else◌}
use Rattle.std.proofs.lemmas.List.Sums.{count_by-le-length}
use Rattle.vz_pixels.specs.Block.{Block}
use Rattle.vz_rules.proofs.Counts.{count_cons}
use Rattle.vz_rules.specs.World.{Resource}
use Rattle.vz_rules.specs.Messages.{put_resource, new_resource}
use Rattle.vz_state.specs.Outs.{is_out, outs}

-- never more than there are
pub outs_few : (resources : List Resource) → outs resources ≤ length resources
unfolding outs
outs_few resources = count_by-le-length is_out resources

-- so there is room for as many as there are where there is room for that many
pub outs_within : (resources : List Resource) (n spare : ℕ) → length resources ≡ n → n ≤ spare → outs resources ≤ spare
outs_within resources n spare e h = let few = outs_few resources in omega arith

-- none of none
pub outs_none : (resources : List Resource) (spare : ℕ) → resources ≡ [] → outs resources ≤ spare
outs_none resources spare e = let few = outs_few resources in let none = ap length e in omega arith

-- a resource that is stored has none out
pub outs_put : (id : ℕ) (block : Block) (resources : List Resource) → outs (put_resource id block resources) ≡ outs resources
unfolding outs
outs_put id block [] = refl
outs_put id block (s ∷ ss) = by (outs_put id block ss) (s.id == id) (nat_lt id s.id)
  where
    by : count_by is_out (put_resource id block ss) ≡ count_by is_out ss → (a b : Bool)
        → count_by is_out (if a then record s { block = block } ∷ ss else (if b then new_resource id block ∷ s ∷ ss else s ∷ put_resource id block ss)) ≡ count_by is_out (s ∷ ss)
    by rest true b = refl
    by rest false true = refl
    by rest false false = count_cons is_out s (put_resource id block ss) ∙ (ap (λ (n : ℕ). cond (is_out s) 1 0 + n) rest ∙ sym (count_cons is_out s ss))
