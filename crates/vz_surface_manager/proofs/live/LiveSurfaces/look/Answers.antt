use Rattle.std.proofs.Common.{not, is_some, sym, ◌∙◌, ap}
use Rattle.vz_surface_manager.proofs.Drawn.{busy_is, rootless_is, unseen_there, seen_there}
use Rattle.vz_surface_manager.proofs.live.LiveSurfaces.look.Goals as goal

pub returns-then-is_flying : goal.returns-then-is_flying
returns-then-is_flying c =
    record { tells = λ p w size h. busy_is p w c.args.root size _ h (sym c.is_flying.ensures ∙ c.if-is_flying.true) }

pub returns-in_default : goal.returns-in_default
returns-in_default c =
    record {
      tells = λ p w size h. rootless_is p w c.args.root size _ h (sym c.is_flying.ensures ∙ c.if-is_flying.false) c.in_default.is;
    }

pub returns-then-is_none : goal.returns-then-is_none
returns-then-is_none c =
    record {
      tells = λ p w size h.
          unseen_there p w c.args.root c.in-Some.root size _ _ c.self.view_is c.in-Some.is h
          (sym c.is_flying.ensures ∙ c.if-is_flying.false)
          (ap is_some (sym c.frame_on.ensures) ∙ (c.is_none.ensures ∙ ap not c.if-is_none.true));
    }

pub returns : goal.returns
returns c =
    record {
      tells = λ p w size h. (
        c.in-Some.is,
        seen_there p w c.args.root c.in-Some.root size _ _ c.self.view_is c.in-Some.is h
            (sym c.is_flying.ensures ∙ c.if-is_flying.false)
            (ap is_some (sym c.frame_on.ensures) ∙ (c.is_none.ensures ∙ ap not c.if-is_none.false)),
      );
    }
