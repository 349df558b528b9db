use Rattle.std.proofs.Common.{Some, sym, subst}
use Rattle.vz_rules.specs.declared.entry.Reply.TheVariants.{Drawn}
use Rattle.vz_occlude.specs.Pictures.{Flattened}
use Rattle.vz_manager.specs.Picturing.{IsPainted}
use Rattle.vz_manager.proofs.Depicting.{sides_are, inside_is, shows}
use Rattle.vz_manager.proofs.picture.picture_of.Goals as goal

pub new-requires-clause-size : goal.new-requires-clause-size
new-requires-clause-size c =
    let x = c.requires.answered in
    sides_are x.0 x.1 c.args.size c.args.damage x.2

pub new-requires-clause-inside : goal.new-requires-clause-inside
new-requires-clause-inside c =
    let x = c.requires.answered in
    inside_is x.0 x.1 c.args.size c.args.damage x.2

pub returns : goal.returns
returns c =
    record {
      painted = λ p w h look.
          subst (λ (f : Flattened). IsPainted p w (Drawn c.args.damage) (Some f)) (sym c.new.ensures)
          (shows p w c.args.size c.args.damage h c.args.ops look);
    }
