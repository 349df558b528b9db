use Rattle.std.proofs.Common.{refl}
use Rattle.vz_flat.specs.Ops.{is_whole, is_nested}
use Rattle.vz_occlude.proofs.Lists as lists
use Rattle.vz_occlude.proofs.laws.worked_lists.Goals as goal

pub returns-clause-front_is_all : goal.returns-clause-front_is_all
returns-clause-front_is_all c = lists.front_is_all

pub returns-clause-front_is_a_part : goal.returns-clause-front_is_a_part
returns-clause-front_is_a_part c = lists.front_is_a_part

pub returns-clause-back_is_a_group : goal.returns-clause-back_is_a_group
returns-clause-back_is_a_group c = lists.back_is_a_group

pub returns-clause-front_is_a_group : goal.returns-clause-front_is_a_group
returns-clause-front_is_a_group c = lists.front_is_a_group

pub returns-clause-nothing : goal.returns-clause-nothing
returns-clause-nothing c = lists.nothing

pub returns-clause-front_is_opaque : goal.returns-clause-front_is_opaque
returns-clause-front_is_opaque c = lists.front_is_opaque

pub returns-clause-front_is_clear : goal.returns-clause-front_is_clear
returns-clause-front_is_clear c = lists.front_is_clear

pub returns-clause-not_whole : goal.returns-clause-not_whole
unfolding is_whole is_nested
returns-clause-not_whole c = refl
