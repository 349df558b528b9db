use Rattle.std.proofs.Common.{rules, ◌≡◌, ◌∙◌, [], ap}
use Rattle.std.specs.String.{string_bytes}
use Rattle.vz_outside.specs.InMemory.{InMemory, bytes_in}
use Rattle.viz_c.proofs.One_file.{one_held}
use Rattle.viz_c.proofs.check.shelf_with.Goals as goal

pub returns : goal.returns
returns c =
    let empty : string_bytes c.new-name.result ≡ [] = search rules in
    let copied : c.in_ok-copy.copy.items ≡ c.args.bytes.now = search rules in
    ap (λ (shelf : InMemory). bytes_in shelf.files []) c.new-shelf.ensures
    ∙ one_held c.new-files.result.items c.push.new.self.items c.new-name.result c.in_ok-copy.copy c.args.bytes.now c.new-files.ensures.items
    c.in_ok-push.ensures.items empty copied
