use Rattle.std.proofs.Common.{ap, sym, map, ◌∙◌}
use Rattle.vz_state.proofs.Placed.{placed_map}
use Rattle.vz_slow.proofs.Rounds.{round_is, gone_on, marked_if}
use Rattle.vz_slow.proofs.world.World.round.Goals as goal

pub returns : goal.returns
returns c =
    let s = c.args.signs.now in
    let was = c.deref_mut.ensures.value in
    let had = c.deref_mut-2.ensures.value in
    round_is c.args.self.now _ c.self.view_is s.risen.items c.requires.risen s.becomes.items c.requires.becomes s.replaced.items c.requires.replaced s.marked.items c.requires.marked
    _ (λ p q b t. placed_map c.self.inside.subs (gone_on p q) _ c.go_on_by.new.submissions c.go_on_by.auto.submissions c.deref_mut.ensures.len was
    (c.go_on_by.ensures p q (c.deref.ensures.value ∙ (b ∙ ap (map p) (sym was))) (c.deref-2.ensures.value ∙ (t ∙ ap (map q) (sym was)))))
    _ (λ p m. placed_map c.self.inside.surfaces (marked_if p) _ c.mark_by.new.surfaces c.mark_by.auto.surfaces c.deref_mut-2.ensures.len had
    (c.mark_by.ensures p (c.deref-3.ensures.value ∙ (m ∙ ap (map p) (sym had)))))
