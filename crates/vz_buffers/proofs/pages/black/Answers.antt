use Rattle.std.proofs.Common.{rules, ◌≡◌, ◌∙◌, ap, refl, replicate, vec_len}
use Rattle.vz_buffers.proofs.Heads.{resized_behind}
use Rattle.vz_buffers.proofs.pages.black.Goals as goal

pub returns-clause-black : goal.returns-clause-black
returns-clause-black c =
    let none : vec_len c.in_ok-memory.memory ≡ 0 = search rules in
    resized_behind c.in_ok-memory.memory.items c.resize.new.self.items _ _ _ c.args.count c.in_ok-memory.ensures none refl c.in_ok-resize.ensures.items
    ∙ ap (λ x. replicate c.args.count x) c.black.ensures
