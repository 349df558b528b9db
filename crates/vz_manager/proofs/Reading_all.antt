-- All that is read of a submission before the first change is what the definitions say of it.
use Rattle.std.proofs.Common.{◌≡◌, ℕ, ◌+◌, ◌≤◌, Bool, true, false, Option, Some, None, ap, sym, ◌∙◌, arith, cond}
use Rattle.std.specs.Option.{option_map}
use Rattle.vz_base.specs.declared.limits.TheConstants.{LAST_TICK, TEMPORARY_TICKS}
use Rattle.vz_ids.specs.{declared.LocalSurfaceId.LocalSurfaceId, declared.SurfaceId.SurfaceId}
use Rattle.vz_rules.specs.{World.World, World.Client, World.last_created, Messages.is_last, Messages.id_of}
use Rattle.vz_surface_manager.specs.Last_surface.{NameAndSize, name_and_size, is_last_named}
use Rattle.vz_surface_manager.proofs.Asked.{is_last_asked}
use Rattle.vz_manager.specs.{declared.outcome.New.New, Submitted.created_by}

module _ (w : World) (c : ℕ) (x : Client) (local : LocalSurfaceId) (id : SurfaceId) (last : Option NameAndSize)
    (number : x.number ≡ c) (named : id ≡ id_of x local) (is : last ≡ option_map {U = NameAndSize} name_and_size (last_created w c)) where
  -- the last surface of a client that is kept is that of the state
  last_is : (t : Bool) → is_last_named last id.local ≡ t → is_last (last_created w x.number) local ≡ t
  last_is t e =
      is_last_asked (last_created w x.number) last local
      (is ∙ ap (λ n. option_map {U = NameAndSize} name_and_size (last_created w n)) (sym number))
      ∙ (ap (λ (i : SurfaceId). is_last_named last i.local) (sym named) ∙ e)

  -- a submission on it creates none
  pub created_none : is_last_named last id.local ≡ true → None ≡ created_by w x local
  unfolding created_by
  created_none e =
      sym (ap {B = Option New} (λ t. cond t None (Some (record { id = id_of x local; until = w.tick + TEMPORARY_TICKS }))) (last_is true e))

  -- and one on another does
  pub created_some : (tick : ℕ) → tick ≡ w.tick → is_last_named last id.local ≡ false
      → ◌≡◌ {A = Option New} (Some (record { id = id; until = tick + TEMPORARY_TICKS })) (created_by w x local)
  unfolding created_by
  created_some tick same e =
      (λ i. Some (record { id = named i; until = same i + TEMPORARY_TICKS }))
      ∙ sym (ap {B = Option New} (λ t. cond t None (Some (record { id = id_of x local; until = w.tick + TEMPORARY_TICKS })))
      (last_is false e))

-- where one is created, it lasts to a tick
pub lasts_on : (tick : ℕ) → tick ≤ LAST_TICK → tick + TEMPORARY_TICKS ≤ 4294967295
lasts_on tick early = omega (arith, early)
