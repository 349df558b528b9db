use Rattle.std.proofs.Common.{◌≡◌, Option, refl, subst, sym}
use Rattle.std.specs.Prelude.{IsSome, IfSome}
use Rattle.std.specs.List.{flat_map}
use Rattle.vz_buffers.specs.Canvas.{Canvas}
use Rattle.vz_rules.specs.Frames.{pixel_bytes}
use Rattle.vz_player.proofs.frame_file.frame_bytes.Goals as goal

pub bytes-requires : goal.bytes-requires
bytes-requires c = subst (λ (o : Option Canvas). IsSome o) (sym c.requires.current) refl

pub returns : goal.returns
returns c = subst (λ (o : Option Canvas). IfSome o (λ b. c.bytes.result.now ≡ flat_map pixel_bytes b.pixels)) c.requires.current c.bytes.ensures
