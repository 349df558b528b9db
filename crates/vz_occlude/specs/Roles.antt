-- What an operation is to the other ones of its list.
use Rattle.std.specs.Prelude.{Bool, false}
use Rattle.vz_flat.specs.declared.op.Op.{Op}
use Rattle.vz_flat.specs.declared.op.Op.TheVariants.{Fill, Blit, Push, Pop}
use Rattle.vz_occlude.specs.declared.role.Role.{Role}
use Rattle.vz_occlude.specs.declared.role.Role.TheVariants.{Single, Begins, Ends}
use Rattle.vz_occlude.specs.Occluders.{is_occluder, is_opaque, is_opaque_blit}

-- an item with its area, the begin of a group with its area, or its end
abbrev pub role_of : Op → Role
role_of (Fill area c o m) = Single area
role_of (Blit area block tx ty o m) = Single area
role_of (Push area o m) = Begins area
role_of Pop = Ends

-- whether it is an occluder
abbrev pub occludes : Op → Bool
occludes (Fill area c o m) = is_occluder m o (is_opaque c)
occludes (Blit area block tx ty o m) = is_occluder m o (is_opaque_blit area block tx ty)
occludes (Push area o m) = false
occludes Pop = false
