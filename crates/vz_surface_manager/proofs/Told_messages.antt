-- A client that is closed: what is told stays.
use Rattle.std.proofs.Common.{◌&&◌, ◌≡◌, ℕ, Bool, not, arith}
use Rattle.vz_ids.specs.{declared.SurfaceId.SurfaceId, Ids.same_surface}
use Rattle.vz_frame.specs.declared.message.Message.TheVariants.{Close}
use Rattle.vz_rules.specs.World.{World, Client, Surface, exists}
use Rattle.vz_rules.specs.Messages.{mark_of, message_answer}
use Rattle.vz_rules.proofs.Members.{any_map, found}
use Rattle.vz_damage.specs.Told.{Damaged}
use Rattle.vz_surface_manager.specs.Told_damage.{AreTold}
use Rattle.std.proofs.lemmas.Bool.Decides.{nat_tests}

-- where the same surfaces exist, and submissions and the last aggregation are the same, the same is told
told_alike : (w v : World) (d : Damaged) → v.subs ≡ w.subs → v.last ≡ w.last → ((id : SurfaceId) → exists v id ≡ exists w id) → AreTold w d
    → AreTold v d
told_alike w v d subs last exist h = grind (arith, nat_tests)

abbrev stands_at : SurfaceId → Surface → Bool
stands_at id s = same_surface s.id id && not s.destroyed

marked_at : (c : ℕ) (id : SurfaceId) (s : Surface) → stands_at id (mark_of c s) ≡ stands_at id s
marked_at c id s = grind (arith, nat_tests)

pub told_closed : (w : World) (c : Client) (d : Damaged) → AreTold w d → AreTold (message_answer w c Close).world d
unfolding message_answer
told_closed w c d h = grind (arith, nat_tests, told_alike w, found, any_map (mark_of c.number), marked_at c.number)
